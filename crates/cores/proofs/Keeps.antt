-- The rule of the word that all seats share: each step on the word keeps it.
use Rattle.std.{specs.Prelude.{IfSome, None, Option, Some, slice_index, slice_set}, proofs.Common.{[], ℕ, ◌%◌, ◌*◌, ◌++◌, ◌+◌, ◌<◌, ◌==◌}}
use Rattle.std.proofs.Common.{◌^◌, ◌∙◌, ◌∷◌, ◌≡◌, ◌≢◌, List, ap, arith, cond, inl, inr, length, length-append, length-set, mod-eq_of_lt}
use Rattle.std.proofs.{Common.{refl, subst, suc, sym, zero}, lemmas.Option.same_Some}
use Rattle.machine.specs.Machine.{Machine}
use Rattle.cores.specs.{declared.view.{About.About, Hand.Hand, Keeping.Keeping, Noted.Noted, View.View}, History.{IsLegal, own}}
use Rattle.cores.specs.Moves.{Records, Sees, Shows, after_deal, after_record, blank, guest_as_hand, hand_as_guest, newcomer, with_guest}
use Rattle.cores.specs.{Moves.{with_hand, with_seen, without_guest, without_hand}, Rule.{Fits, Kept, Knows, about, first_view}}
use Rattle.cores.{specs.Tokens.CanRecord, proofs.Lists.{at_end, at_inside, changed, if_is, if_map, if_some, own_grows, own_stays}}
use Rattle.cores.proofs.{Lists.{prefix_longer, prefix_same, prefix_self, unchanged}, Seating.none_legal}
use Rattle.atomic_table.{specs.Table.{Allows, Joins, Me, Splits, State as Table, keeps, opening}, proofs.Lists.{at_set, set_else}}
use lib.ListN.{get_elem?}
use mathlib.Core.{List.IsPrefix, Option.{some, some-injective, some-ne-none}}

-- the numbers that stood at one place stand at another
abbrev moved : ℕ → ℕ → (ℕ → ℕ) → ℕ → ℕ
moved from to place_of number = cond (place_of number == from) to (place_of number)

fits_here : (history : List Noted) (next : ℕ) (place_of : ℕ → ℕ) (from to : ℕ) (hand : Hand)
    → Fits history next place_of from hand → Fits history next (moved from to place_of) to hand
fits_here history next place_of from to hand fits =
    record { seen = fits.seen; exact = fits.exact; known = fits.known; dealt = fits.dealt; here = changed (place_of hand.number) (place_of hand.number) from to fits.here }

fits_else : (history : List Noted) (next : ℕ) (place_of : ℕ → ℕ) (from to place : ℕ) → place ≢ from → (hand : Hand)
    → Fits history next place_of place hand → Fits history next (moved from to place_of) place hand
fits_else history next place_of from to place apart hand fits =
    let elsewhere : place_of hand.number ≢ from = λ is. apart (sym fits.here ∙ is) in
    record {
      seen = fits.seen;
      exact = fits.exact;
      known = fits.known;
      dealt = fits.dealt;
      here = unchanged (place_of hand.number) (place_of hand.number) from to elsewhere ∙ fits.here;
    }

-- a number is dealt, and stands at a place
abbrev seated : ℕ → ℕ → (ℕ → ℕ) → ℕ → ℕ
seated dealt to place_of number = cond (number == dealt) to (place_of number)

fits_before : (history : List Noted) (next : ℕ) (place_of : ℕ → ℕ) (to place : ℕ) (hand : Hand)
    → Fits history next place_of place hand → Fits history (next + 1) (seated next to place_of) place hand
fits_before history next place_of to place hand fits =
    let below = fits.dealt in
    record {
      seen = fits.seen;
      exact = fits.exact;
      known = fits.known;
      dealt = omega (arith, below);
      here = unchanged hand.number (place_of hand.number) next to (λ e. omega (arith, e, below)) ∙ fits.here;
    }

-- another's entry was added
fits_grown : (history : List Noted) (next : ℕ) (place_of : ℕ → ℕ) (place : ℕ) (noted : Noted) (hand : Hand) → noted.seat ≢ hand.number
    → Fits history next place_of place hand → Fits (history ++ noted ∷ []) next place_of place hand
fits_grown history next place_of place noted hand apart fits =
    record {
      seen = prefix_longer hand.seen history (noted ∷ []) fits.seen;
      exact = own_stays hand.number history noted apart ∙ fits.exact;
      known = fits.known;
      dealt = fits.dealt;
      here = fits.here;
    }

-- hands at two places have two numbers
apart_by_place : (history : List Noted) (next : ℕ) (place_of : ℕ → ℕ) (place other : ℕ) (hand guest : Hand)
    → Fits history next place_of place hand → Fits history next place_of other guest → place ≢ other → guest.number ≢ hand.number
apart_by_place history next place_of place other hand guest fits its apart same =
    apart (sym fits.here ∙ (ap place_of (sym same) ∙ its.here))

-- who sees the whole history
fits_seeing : (history : List Noted) (next : ℕ) (place_of : ℕ → ℕ) (place : ℕ) (hand : Hand) → Fits history next place_of place hand
    → Fits history next place_of place (record { number = hand.number; seen = history; mine = hand.mine })
fits_seeing history next place_of place hand fits =
    record { seen = prefix_self history; exact = fits.exact; known = fits.exact; dealt = fits.dealt; here = fits.here }

shows_of : (history : List Noted) (next : ℕ) (place_of : ℕ → ℕ) (place : ℕ) (hand : Hand) → Fits history next place_of place hand
    → Shows history hand
shows_of history next place_of place hand fits = (fits.seen, fits.exact)

module _ (boot : Machine) (cores : List ℕ) where
  abbrev Rule : Table (Unit {0}) View → Type 0
  Rule = Kept boot cores

  abbrev Knowing : List Noted → ℕ → (ℕ → ℕ) → ℕ → View → Type 0
  Knowing = Knows boot cores

  knows_else : (history : List Noted) (next : ℕ) (place_of : ℕ → ℕ) (from to id : ℕ) → 2 * id ≢ from → 2 * id + 1 ≢ from
      → (view : View) → Knowing history next place_of id view → Knowing history next (moved from to place_of) id view
  knows_else history next place_of from to id hand guest view knows =
      record {
        told = knows.told;
        keeps = knows.keeps;
        hand_fits = if_some (Fits history next place_of (2 * id)) (Fits history next (moved from to place_of) (2 * id)) view.hand (fits_else history next place_of from to (2 * id) hand) knows.hand_fits;
        guest_fits = if_some (Fits history next place_of (2 * id + 1)) (Fits history next (moved from to place_of) (2 * id + 1)) view.guest (fits_else history next place_of from to (2 * id + 1) guest) knows.guest_fits;
      }

  knows_nothing : (history : List Noted) (next : ℕ) (place_of : ℕ → ℕ) (id : ℕ) → Knowing history next place_of id blank
  knows_nothing history next place_of id = record { told = tt; keeps = tt; hand_fits = tt; guest_fits = tt }

  -- a view is cut in two: others know what they knew, and both parts are true
  split_keeps : (s : Table (Unit {0}) View) (kept : Rule s) (next : ℕ) (place_of : ℕ → ℕ) (id : ℕ) (view left right : View)
      → ((j : ℕ) (w : View) → j ≢ id → j < length s.views → Knowing kept.history kept.next kept.place_of j w → Knowing kept.history next place_of j w)
      → Knowing kept.history next place_of id left → Knowing kept.history next place_of (length s.views) right
      → Rule (record { words = s.words; homes = s.homes; views = slice_set s.views id left ++ right ∷ [] })
  split_keeps s kept next place_of id view left right others knows_left knows_right =
      record { history = kept.history; next = next; place_of = place_of; word = kept.word; legal = kept.legal; each = each } where
        each : (j : ℕ) (w : View) → get_elem? (slice_set s.views id left ++ right ∷ []) j ≡ some w → Knowing kept.history next place_of j w
        each j w at = elim (at_end (slice_set s.views id left) right w j at) [
          | inl before ↦ elim (at_set s.views id j left w before) [
            | inl here ↦ subst (λ v. Knowing kept.history next place_of j v) here.1 (subst (λ i. Knowing kept.history next place_of i left) (sym here.0) knows_left)
            | inr there ↦ others j w there.0 (at_inside s.views j w there.1) (kept.each j w there.1)
          ]
          | inr last ↦
              let where_ : j ≡ length s.views = last.0 ∙ length-set s.views id left in
              subst (λ v. Knowing kept.history next place_of j v) last.1 (subst (λ i. Knowing kept.history next place_of i right) (sym where_) knows_right)
        ]

  -- a view takes in another's: others know what they knew, and what both know afterwards is true
  join_keeps : (s : Table (Unit {0}) View) (kept : Rule s) (place_of : ℕ → ℕ) (id other : ℕ) (both : View)
      → ((j : ℕ) (w : View) → j ≢ id → j ≢ other → Knowing kept.history kept.next kept.place_of j w → Knowing kept.history kept.next place_of j w)
      → Knowing kept.history kept.next place_of id both
      → Rule (record { words = s.words; homes = s.homes; views = slice_set (slice_set s.views id both) other blank })
  join_keeps s kept place_of id other both others knows_both =
      record { history = kept.history; next = kept.next; place_of = place_of; word = kept.word; legal = kept.legal; each = each } where
        each : (j : ℕ) (w : View) → get_elem? (slice_set (slice_set s.views id both) other blank) j ≡ some w → Knowing kept.history kept.next place_of j w
        each j w at = elim (at_set (slice_set s.views id both) other j blank w at) [
          | inl spent ↦ subst (λ v. Knowing kept.history kept.next place_of j v) spent.1 (knows_nothing kept.history kept.next place_of j)
          | inr rest ↦ elim (at_set s.views id j both w rest.1) [
            | inl here ↦ subst (λ v. Knowing kept.history kept.next place_of j v) here.1 (subst (λ i. Knowing kept.history kept.next place_of i both) (sym here.0) knows_both)
            | inr there ↦ others j w there.0 rest.0 (kept.each j w there.1)
          ]
        ]

  -- a hand goes out of its seat, as a guest that is under way
  pub visits : (id : ℕ) (view : View) → Splits Rule id view (without_hand view) (hand_as_guest view)
  visits id view s kept at =
      let n : ℕ = length s.views in
      let inside : id < n = at_inside s.views id view at in
      let mine = kept.each id view at in
      let history = kept.history in let next = kept.next in let from = 2 * id in let to = 2 * n + 1 in
      split_keeps s kept next (moved from to kept.place_of) id view (without_hand view) (hand_as_guest view)
      (λ j w apart below old. knows_else history next kept.place_of from to j (λ e. apart (omega (arith, e))) (λ e. omega (arith, e)) w old)
      (record {
        told = mine.told;
        keeps = mine.keeps;
        hand_fits = tt;
        guest_fits = if_some (Fits history next kept.place_of (2 * id + 1)) (Fits history next (moved from to kept.place_of) (2 * id + 1)) view.guest
            (fits_else history next kept.place_of from to (2 * id + 1) (λ e. omega (arith, e))) mine.guest_fits;
      })
      (record {
        told = mine.told;
        keeps = tt;
        hand_fits = tt;
        guest_fits = if_some (Fits history next kept.place_of from) (Fits history next (moved from to kept.place_of) to) view.hand
            (fits_here history next kept.place_of from to) mine.hand_fits;
      })

  -- a hand comes, as a guest, to another seat
  pub hosts : (id : ℕ) (view : View) (other : ℕ) (w : View) → Joins Rule id view other w (with_guest view w) blank
  hosts id view other w s kept at apart other_at =
      let mine = kept.each id view at in
      let its = kept.each other w (sym (set_else s.views id other (with_guest view w) apart) ∙ other_at) in
      let history = kept.history in let next = kept.next in let from = 2 * other + 1 in let to = 2 * id + 1 in
      join_keeps s kept (moved from to kept.place_of) id other (with_guest view w)
      (λ j x not_id not_other old. knows_else history next kept.place_of from to j (λ e. omega (arith, e)) (λ e. not_other (omega (arith, e))) x old)
      (record {
        told = mine.told;
        keeps = mine.keeps;
        hand_fits = if_some (Fits history next kept.place_of (2 * id)) (Fits history next (moved from to kept.place_of) (2 * id)) view.hand
            (fits_else history next kept.place_of from to (2 * id) (λ e. omega (arith, e))) mine.hand_fits;
        guest_fits = if_some (Fits history next kept.place_of from) (Fits history next (moved from to kept.place_of) to) w.guest
            (fits_here history next kept.place_of from to) its.guest_fits;
      })

  -- a guest goes out again, as a hand that is under way
  pub leaves : (id : ℕ) (view : View) → Splits Rule id view (without_guest view) (guest_as_hand view)
  leaves id view s kept at =
      let n : ℕ = length s.views in
      let inside : id < n = at_inside s.views id view at in
      let mine = kept.each id view at in
      let history = kept.history in let next = kept.next in let from = 2 * id + 1 in let to = 2 * n in
      split_keeps s kept next (moved from to kept.place_of) id view (without_guest view) (guest_as_hand view)
      (λ j w apart below old. knows_else history next kept.place_of from to j (λ e. omega (arith, e)) (λ e. apart (omega (arith, e))) w old)
      (record {
        told = mine.told;
        keeps = mine.keeps;
        guest_fits = tt;
        hand_fits = if_some (Fits history next kept.place_of (2 * id)) (Fits history next (moved from to kept.place_of) (2 * id)) view.hand
            (fits_else history next kept.place_of from to (2 * id) (λ e. omega (arith, e))) mine.hand_fits;
      })
      (record {
        told = mine.told;
        keeps = tt;
        guest_fits = tt;
        hand_fits = if_some (Fits history next kept.place_of from) (Fits history next (moved from to kept.place_of) to) view.guest
            (fits_here history next kept.place_of from to) mine.guest_fits;
      })

  -- a hand comes back to its own seat
  pub returns : (id : ℕ) (view : View) (other : ℕ) (w : View) → Joins Rule id view other w (with_hand view w) blank
  returns id view other w s kept at apart other_at =
      let mine = kept.each id view at in
      let its = kept.each other w (sym (set_else s.views id other (with_hand view w) apart) ∙ other_at) in
      let history = kept.history in let next = kept.next in let from = 2 * other in let to = 2 * id in
      join_keeps s kept (moved from to kept.place_of) id other (with_hand view w)
      (λ j x not_id not_other old. knows_else history next kept.place_of from to j (λ e. not_other (omega (arith, e))) (λ e. omega (arith, e)) x old)
      (record {
        told = mine.told;
        keeps = mine.keeps;
        guest_fits = if_some (Fits history next kept.place_of (2 * id + 1)) (Fits history next (moved from to kept.place_of) (2 * id + 1)) view.guest
            (fits_else history next kept.place_of from to (2 * id + 1) (λ e. omega (arith, e))) mine.guest_fits;
        hand_fits = if_some (Fits history next kept.place_of from) (Fits history next (moved from to kept.place_of) to) w.hand
            (fits_here history next kept.place_of from to) its.hand_fits;
      })

  -- the keeper deals a seat, while there is no entry
  deals_by : (id : ℕ) (told : Option About) (keeping : Option Keeping) (hand guest : Option Hand) → IfSome keeping (λ k. k.history ≡ [])
      → Splits Rule id (record { about = told; kept = keeping; hand = hand; guest = guest })
      (after_deal (record { about = told; kept = keeping; hand = hand; guest = guest })) (newcomer (record { about = told; kept = keeping; hand = hand; guest = guest }))
  deals_by id told None hand guest empty s kept at =
      let view : View = record { about = told; kept = None; hand = hand; guest = guest } in
      let mine = kept.each id view at in
      split_keeps s kept kept.next kept.place_of id view view (newcomer view) (λ j w apart below old. old) mine
      (record { told = mine.told; keeps = tt; hand_fits = tt; guest_fits = tt })
  deals_by id told (Some k) hand guest empty s kept at =
      let view : View = record { about = told; kept = Some k; hand = hand; guest = guest } in
      let n : ℕ = length s.views in
      let mine = kept.each id view at in
      let history = kept.history in let next = kept.next in let place_of = kept.place_of in let to = 2 * n in
      let none : history ≡ [] = sym mine.keeps.0 ∙ empty in
      let same : k.next ≡ next = mine.keeps.1 in
      let first : id ≡ 0 = mine.keeps.2 in
      split_keeps s kept (next + 1) (seated next to place_of) id view (after_deal view) (newcomer view)
      (λ j w apart below old. record {
        told = old.told;
        keeps = if_some (λ k. (k.history ≡ history) × (k.next ≡ next) × (j ≡ 0)) (λ k. (k.history ≡ history) × (k.next ≡ next + 1) × (j ≡ 0)) w.kept
            (λ other is. absurd (apart (is.2 ∙ sym first))) old.keeps;
        hand_fits = if_some (Fits history next place_of (2 * j)) (Fits history (next + 1) (seated next to place_of) (2 * j)) w.hand (fits_before history next place_of to (2 * j)) old.hand_fits;
        guest_fits = if_some (Fits history next place_of (2 * j + 1)) (Fits history (next + 1) (seated next to place_of) (2 * j + 1)) w.guest (fits_before history next place_of to (2 * j + 1)) old.guest_fits;
      })
      (record {
        told = mine.told;
        keeps = (mine.keeps.0, ap (λ (x : ℕ). x + 1) same, first);
        hand_fits = if_some (Fits history next place_of (2 * id)) (Fits history (next + 1) (seated next to place_of) (2 * id)) hand (fits_before history next place_of to (2 * id)) mine.hand_fits;
        guest_fits = if_some (Fits history next place_of (2 * id + 1)) (Fits history (next + 1) (seated next to place_of) (2 * id + 1)) guest (fits_before history next place_of to (2 * id + 1)) mine.guest_fits;
      })
      (record {
        told = mine.told;
        keeps = tt;
        guest_fits = tt;
        hand_fits = record {
          seen = (history, refl);
          exact = ap (own k.next) none;
          known = refl;
          dealt = omega (arith, same);
          here = changed k.next (place_of k.next) next to same;
        };
      })

  pub deals : (id : ℕ) (view : View) → IfSome view.kept (λ k. k.history ≡ []) → Splits Rule id view (after_deal view) (newcomer view)
  deals id view empty = deals_by id view.about view.kept view.hand view.guest empty

  -- a step on the word, after which the history is this one
  step_keeps : (s : Table (Unit {0}) View) (kept : Rule s) (words : List ℕ) (history : List Noted) (id : ℕ) (view : View)
      → words ≡ length history ∷ [] → IsLegal boot cores history
      → ((j : ℕ) (w : View) → j ≢ id → Knowing kept.history kept.next kept.place_of j w → Knowing history kept.next kept.place_of j w)
      → Knowing history kept.next kept.place_of id view
      → Rule (record { words = words; homes = s.homes; views = slice_set s.views id view })
  step_keeps s kept words history id view word legal others knows =
      record { history = history; next = kept.next; place_of = kept.place_of; word = word; legal = legal; each = each } where
        each : (j : ℕ) (w : View) → get_elem? (slice_set s.views id view) j ≡ some w → Knowing history kept.next kept.place_of j w
        each j w at = elim (at_set s.views id j view w at) [
          | inl here ↦ subst (λ v. Knowing history kept.next kept.place_of j v) here.1 (subst (λ i. Knowing history kept.next kept.place_of i view) (sym here.0) knows)
          | inr there ↦ others j w there.0 (kept.each j w there.1)
        ]

  -- a load, which sees the history
  pub sees : (slots id : ℕ) (me : Me (Unit {0}) View) → Allows Rule slots id me 0 (λ n. n) (Sees me)
  sees slots id me s kept homes at below =
      let mine = kept.each id me.0 at in
      let history = kept.history in let next = kept.next in let place_of = kept.place_of in
      let words : slice_set s.words 0 (slice_index s.words 0) ≡ length history ∷ [] = ap (λ (ws : List ℕ). slice_set ws 0 (slice_index ws 0)) kept.word in
      let found : length history ≡ slice_index s.words 0 = sym (ap (λ (ws : List ℕ). slice_index ws 0) kept.word) in (
        with_seen history me.0,
        keeps,
        tt,
        step_keeps s kept (slice_set s.words 0 (slice_index s.words 0)) history id (with_seen history me.0) words kept.legal (λ j w apart old. old)
            (record {
              told = mine.told;
              keeps = mine.keeps;
              hand_fits = if_map (λ hand. record { number = hand.number; seen = history; mine = hand.mine }) (Fits history next place_of (2 * id)) (Fits history next place_of (2 * id))
                  me.0.hand (fits_seeing history next place_of (2 * id)) mine.hand_fits;
              guest_fits = if_map (λ hand. record { number = hand.number; seen = history; mine = hand.mine }) (Fits history next place_of (2 * id + 1)) (Fits history next place_of (2 * id + 1))
                  me.0.guest (fits_seeing history next place_of (2 * id + 1)) mine.guest_fits;
            }),
        (
          history,
          found,
          refl,
          refl,
          if_some (λ a. a ≡ about boot cores) (λ a. IsLegal a.boot a.cores history) me.0.about (λ a is. subst (λ (a : About). IsLegal a.boot a.cores history) (sym is) kept.legal) mine.told,
          if_some (λ k. (k.history ≡ history) × (k.next ≡ next) × (id ≡ 0)) (λ k. k.history ≡ history) me.0.kept (λ k is. is.0) mine.keeps,
          if_some (Fits history next place_of (2 * id)) (Shows history) me.0.hand (shows_of history next place_of (2 * id)) mine.hand_fits,
          if_some (Fits history next place_of (2 * id + 1)) (Shows history) me.0.guest (shows_of history next place_of (2 * id + 1)) mine.guest_fits,
        ),
      )

  -- the keeper adds its guest's entry
  pub records : (noted : Noted) (slots id : ℕ) (me : Me (Unit {0}) View) → CanRecord me.0 noted
      → Allows Rule slots id me 0 (λ n. (n + 1) % 2 ^ 64) (λ found after. Records noted me after)
  records noted slots id me can s kept homes at below =
      let mine = kept.each id me.0 at in
      let history : List Noted = kept.history in let next : ℕ = kept.next in let place_of : ℕ → ℕ = kept.place_of in
      let hand : Hand = can.hand in let k : Keeping = can.kept in
      let longer : List Noted = history ++ noted ∷ [] in
      let keeping : (k.history ≡ history) × (k.next ≡ next) × (id ≡ 0) = if_is (λ (k : Keeping). (k.history ≡ history) × (k.next ≡ next) × (id ≡ 0)) me.0.kept k can.keeps mine.keeps in
      let told : can.about ≡ about boot cores = if_is (λ (a : About). a ≡ about boot cores) me.0.about can.about can.told mine.told in
      let guest : Fits history next place_of (2 * id + 1) hand = if_is (Fits history next place_of (2 * id + 1)) me.0.guest hand can.hosts mine.guest_fits in
      let legal : IsLegal boot cores longer = subst (λ (a : About). IsLegal a.boot a.cores longer) told (subst (λ (h : List Noted). IsLegal can.about.boot can.about.cores (h ++ noted ∷ [])) keeping.0 can.legal) in
      let size : length longer ≡ length history + 1 = length-append history (noted ∷ []) in
      let small : length history < 2 ^ 32 = subst (λ (h : List Noted). length h < 2 ^ 32) keeping.0 can.room in
      let counted : (length history + 1) % 2 ^ 64 ≡ length longer = mod-eq_of_lt (omega (arith, small)) ∙ sym size in
      let words : slice_set s.words 0 ((slice_index s.words 0 + 1) % 2 ^ 64) ≡ length longer ∷ [] = ap (λ (ws : List ℕ). slice_set ws 0 ((slice_index ws 0 + 1) % 2 ^ 64)) kept.word ∙ ap (λ (n : ℕ). n ∷ []) counted in
      let exact : own hand.number longer ≡ hand.mine ++ noted ∷ [] = own_grows hand.number history noted can.of ∙ ap (λ (m : List Noted). m ++ noted ∷ []) guest.exact in
      let shows : Shows k.history hand = (subst (IsPrefix hand.seen) (sym keeping.0) guest.seen, ap (own hand.number) keeping.0 ∙ guest.exact) in
      let grown : (place : ℕ) → place ≢ 2 * id + 1 → (h : Hand) → Fits history next place_of place h → Fits longer next place_of place h =
      λ place apart h fits. fits_grown history next place_of place noted h
      (λ e. apart_by_place history next place_of place (2 * id + 1) h hand fits guest apart (sym can.of ∙ e)) fits in (
        after_record me.0 k noted hand,
        keeps,
        tt,
        step_keeps s kept (slice_set s.words 0 ((slice_index s.words 0 + 1) % 2 ^ 64)) longer id (after_record me.0 k noted hand) words legal
            (λ j w apart old. record {
              told = old.told;
              keeps = if_some (λ k. (k.history ≡ history) × (k.next ≡ next) × (j ≡ 0)) (λ k. (k.history ≡ longer) × (k.next ≡ next) × (j ≡ 0)) w.kept
                  (λ other is. absurd (apart (is.2 ∙ sym keeping.2))) old.keeps;
              hand_fits = if_some (Fits history next place_of (2 * j)) (Fits longer next place_of (2 * j)) w.hand (grown (2 * j) (λ e. omega (arith, e))) old.hand_fits;
              guest_fits = if_some (Fits history next place_of (2 * j + 1)) (Fits longer next place_of (2 * j + 1)) w.guest (grown (2 * j + 1) (λ e. apart (omega (arith, e)))) old.guest_fits;
            })
            (record {
              told = mine.told;
              keeps = (ap (λ (h : List Noted). h ++ noted ∷ []) keeping.0, keeping.1, keeping.2);
              hand_fits = if_some (Fits history next place_of (2 * id)) (Fits longer next place_of (2 * id)) me.0.hand (grown (2 * id) (λ e. omega (arith, e))) mine.hand_fits;
              guest_fits = record {
                seen = prefix_same (k.history ++ noted ∷ []) longer (ap (λ (h : List Noted). h ++ noted ∷ []) keeping.0);
                exact = exact;
                known = ap (λ (h : List Noted). own hand.number (h ++ noted ∷ [])) keeping.0 ∙ exact;
                dealt = guest.dealt;
                here = guest.here;
              };
            }),
        (
          refl,
          λ other_kept other_hand kept_is hand_is.
              let one : k ≡ other_kept = same_Some k other_kept (sym can.keeps ∙ kept_is) in
              let two : hand ≡ other_hand = same_Some hand other_hand (sym can.hosts ∙ hand_is) in (
                ap (λ (k : Keeping). after_record me.0 k noted hand) one ∙ ap (λ (h : Hand). after_record me.0 other_kept noted h) two,
                subst (Shows other_kept.history) two (subst (λ (k : Keeping). Shows k.history hand) one shows),
              ),
        ),
      )

  -- at the beginning nothing is in the history
  pub opens : Rule (opening (0 ∷ []) [] (first_view boot cores))
  opens = record { history = []; next = 0; place_of = λ number. 0; word = refl; legal = none_legal boot cores; each = each } where
    each : (id : ℕ) (view : View) → get_elem? (first_view boot cores ∷ []) id ≡ some view → Knowing [] 0 (λ number. 0) id view
    each zero view at =
        subst (λ v. Knowing [] 0 (λ number. 0) zero v) (some-injective (first_view boot cores) view at)
        (record { told = refl; keeps = (refl, refl, refl); hand_fits = tt; guest_fits = tt })
    each (suc id) view at = absurd (some-ne-none view (sym at))
