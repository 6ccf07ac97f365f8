-- Seats that were just dealt: what their tokens know, and what lies under the lock then.
use Rattle.std.{specs.Prelude.{All, slice_get}, proofs.Common.{[], ℕ, ◌++◌, ◌+◌, ◌<◌, ◌∙◌, ◌∷◌, ◌≡◌, ◌≤◌}}
use Rattle.std.proofs.Common.{◌⊎◌, List, Some, ap, arith, inl, inr, length, refl, slice_index_or, subst, sym}
use Rattle.std.proofs.{Math.{ListN.get_or-append, Seq.get_or-append_seam}, lemmas.{Bool.cases_order, List.{Elements.All-nil, length_push}}}
use Rattle.std.proofs.lemmas.Option.{get_or_from_slice_get, same_Some, slice_get-get_or, slice_get_read}
use Rattle.{machine.specs.{Machine.Machine, WellFormed.IsWellFormed}, kernel.specs.Legal.{Entry, IsLogBetween}}
use Rattle.cores.specs.{declared.view.{About.About, Noted.Noted, View.View}, History.{IsLegal, log_of}}
use Rattle.cores.specs.{Moves.newcomer, Rule.{about, keeper_view}, Seats.{AreNew, CanDeal, InOrder, IsOf, IsSeated}}
use Rattle.cores.specs.{Seats.{Known, Ticket, about_in, history_of, keeping_in, new_seat}, Tokens.{IsAt, Token}}

-- no entry is a run of no event
pub none_legal : (boot : Machine) (cores : List ℕ) → IsLegal boot cores []
none_legal boot cores =
    record { last = boot; run = refl; on_cores = All-nil (λ (n : Noted). slice_get cores n.seat ≡ Some n.event.core) }

-- a seat that was just dealt
pub dealt_seated : (token : Token) (start : About) (number core : ℕ) (keeper : View)
    → keeper ≡ keeper_view start (record { history = []; next = number }) → token.me ≡ (newcomer keeper, [])
    → slice_get start.cores number ≡ Some core → IsSeated token number core
dealt_seated token start number core keeper is me on_core =
    record {
      start = start;
      hand = record { number = number; seen = []; mine = [] };
      me = me ∙ ap (λ (view : View). (newcomer view, [])) is;
      numbered = refl;
      on_core = on_core;
      legal = none_legal start.boot start.cores;
      exact = refl;
    }

-- a list of one for each core, once there is one more
pub each_more :
    {A : Type 0} (xs : List A) (y : A) (n : ℕ) (cores : List ℕ) (seat : ℕ → ℕ → A) (core : ℕ) → length xs ≡ n
    → slice_get cores n ≡ Some core → y ≡ seat n core
    → ((i c : ℕ) → i < n → slice_get cores i ≡ Some c → slice_get xs i ≡ Some (seat i c))
    → (i c : ℕ) → i < n + 1 → slice_get cores i ≡ Some c → slice_get (xs ++ y ∷ []) i ≡ Some (seat i c)
each_more xs y n cores seat core count here is each i c below at = by (cases_order i n) where
  longer : length (xs ++ y ∷ []) ≡ length xs + 1
  longer = length_push xs y

  by : (i ≡ n) ⊎ ((i < n) ⊎ (n < i)) → slice_get (xs ++ y ∷ []) i ≡ Some (seat i c)
  by (inl same) =
      let same_core : c ≡ core = same_Some c core (sym at ∙ ap (slice_get cores) same ∙ here) in
      let read : y ≡ slice_index_or (xs ++ y ∷ []) (length xs) y = sym (get_or-append_seam xs y [] y) in
      let found : slice_get (xs ++ y ∷ []) (length xs) ≡ Some y =
      slice_get_read (xs ++ y ∷ []) (length (xs ++ y ∷ [])) (length xs) y refl (omega (arith, longer)) read in
      ap (slice_get (xs ++ y ∷ [])) (same ∙ sym count) ∙ found ∙ ap Some (is ∙ ap (λ k. seat k core) (sym same) ∙ ap (seat i) (sym same_core))
  by (inr (inl before)) =
      let old = each i c before at in
      let inside : i < length xs = omega (arith, before, count) in
      let read : seat i c ≡ slice_index_or (xs ++ y ∷ []) i (seat i c) =
      sym (get_or-append xs (y ∷ []) (seat i c) i inside ∙ get_or_from_slice_get xs i (seat i c) (seat i c) old) in
      slice_get_read (xs ++ y ∷ []) (length (xs ++ y ∷ [])) i (seat i c) refl (omega (arith, longer, inside)) read
  by (inr (inr after)) = absurd (omega (arith, after, below))

-- new seats are the kernel's
pub new_are_of : (t : Ticket) (seats : List Known) → AreNew t seats → All (IsOf t) seats
new_are_of t seats new k d below =
    let core = slice_index_or t.cores k 0 in
    let at : slice_get t.cores k ≡ Some core = slice_get-get_or t.cores k 0 (omega (arith, below, new.count)) in
    let is : slice_index_or seats k d ≡ new_seat t.table (about t.boot t.cores) t.name k core =
    get_or_from_slice_get seats k (new_seat t.table (about t.boot t.cores) t.name k core) d (new.each k core at) in
    subst (IsOf t) (sym is) (record { table = refl; start = refl; name = refl })

-- what lies under the lock before any entry, once all seats are dealt
pub in_order_first :
    (t : Ticket) (keeper : Token) (log : List Entry) (capacity next : ℕ) → IsAt t.table keeper → CanDeal keeper.me.0 t.cores next
    → about_in keeper.me.0 ≡ about t.boot t.cores → IsWellFormed t.boot → log ≡ [] → t.size ≤ capacity → InOrder t keeper log capacity t.boot
in_order_first t keeper log capacity next at deals start formed empty room =
    let none : history_of keeper ≡ [] = ap (λ (v : View). (keeping_in v).history) deals.view in
    let is : deals.start ≡ about t.boot t.cores = sym (ap about_in deals.view) ∙ start in
    let given : List Noted → View = λ h. keeper_view (about t.boot t.cores) (record { history = h; next = next }) in
    let legal : IsLegal t.boot t.cores (history_of keeper) = subst (IsLegal t.boot t.cores) (sym none) (none_legal t.boot t.cores) in
    record {
      at = at;
      next = next;
      view = deals.view ∙ ap (λ (a : About). keeper_view a (record { history = []; next = next })) is ∙ ap given (sym none);
      run = subst (λ (h : List Noted). IsLogBetween t.boot (log_of h) t.boot) (sym none) refl;
      formed = formed;
      on_cores = legal.on_cores;
      logged = empty ∙ ap log_of (sym none);
      room = room;
      within = subst (λ (l : List Entry). length l ≤ t.size) (sym empty) (omega arith);
    }
