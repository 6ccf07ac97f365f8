-- A tabulated map has the function's values.
use Rattle.std.specs.{declared.cmp.Ordering.Ordering, Cmp.{Equal-is, IsTotalOrder, tied_itself}, FinMap.{FinMap, IsAntisymmetric}}
use Rattle.std.specs.{List.list_any, Ordering.{eq_by_cmp, is_eq}, Prelude.{◌||◌, IsSome, None, Option, Some}}
use Rattle.std.proofs.Common.{[], ℕ, ◌+◌, ◌∙◌, ◌∷◌, ◌≡◌, ◌≤◌, Bool, List, ap, arith, cond, false, length, refl, subst, sym, true}
use Rattle.{std.proofs.lemmas.Bool.false≢true, machine.specs.Finite.{put_some, tabulate}}
use Rattle.std.specs.FinMap as map

module _ {K : Type 0} {R : K → K → Ordering} (total : IsTotalOrder R) (apart : IsAntisymmetric R) where
  -- keys that tie are one
  pub same_from_tie : (q key : K) → eq_by_cmp R q key ≡ true → q ≡ key
  same_from_tie q key tie = apart q key ((Equal-is (R q key)).0 tie)

  pub ties_itself : (q : K) → eq_by_cmp R q q ≡ true
  ties_itself q = ap is_eq (tied_itself total q)

  -- cases on whether two keys are one
  pub by_key :
      {X : Type 0} (q key : K) (x same other : X) → (q ≡ key → x ≡ same) → ((q ≡ key → ⊥) → x ≡ other)
      → x ≡ cond (eq_by_cmp R q key) same other
  by_key {X} q key x same other here elsewhere = go (eq_by_cmp R q key) refl where
    go : (tie : Bool) → eq_by_cmp R q key ≡ tie → x ≡ cond tie same other
    go true e = here (same_from_tie q key e)
    go false e = elsewhere (λ is. false≢true (sym e ∙ subst (λ k. eq_by_cmp R q k ≡ true) is (ties_itself q)))

  pub cond_here : {X : Type 0} (key : K) (same other : X) → cond (eq_by_cmp R key key) same other ≡ same
  cond_here key same other = sym (by_key key key same same other (λ is. refl) (λ differs. absurd (differs refl)))

  pub cond_elsewhere : {X : Type 0} (q key : K) (same other : X) → (q ≡ key → ⊥) → cond (eq_by_cmp R q key) same other ≡ other
  cond_elsewhere q key same other differs = sym (by_key q key other same other (λ is. absurd (differs is)) (λ apart. refl))

  module _ {X : Type 0} (value : K → Option X) where
    abbrev table : List K → FinMap R X
    table keys = tabulate {R = R} value keys

    step :
        (q key : K) (keys : List K) (listed tie : Bool) (o : Option X) → eq_by_cmp R q key ≡ tie → value key ≡ o
        → map.get (table keys) q ≡ cond listed (value q) None
        → map.get (put_some (table keys) key o) q ≡ cond (tie || listed) (value q) None
    step q key keys listed false None t e rest = rest
    step q key keys listed true None t e rest = rest ∙ nothing listed (ap value (same_from_tie q key t) ∙ e) where
      nothing : (b : Bool) → value q ≡ None → cond b (value q) None ≡ value q
      nothing true none = refl
      nothing false none = sym none
    step q key keys listed false (Some x) t e rest =
        map.get-insert total (table keys) key x q ∙ ap (λ b. cond b (Some x) (map.get (table keys) q)) t ∙ rest
    step q key keys listed true (Some x) t e rest =
        map.get-insert total (table keys) key x q ∙ ap (λ b. cond b (Some x) (map.get (table keys) q)) t
        ∙ sym (ap value (same_from_tie q key t) ∙ e)

    got_where : (q : K) (keys : List K) → map.get (table keys) q ≡ cond (list_any (eq_by_cmp R q) keys) (value q) None
    got_where q [] = map.get-empty R q
    got_where q (key ∷ keys) =
        step q key keys (list_any (eq_by_cmp R q) keys) (eq_by_cmp R q key) (value key) refl refl (got_where q keys)

    by_value : (q : K) (listed : Bool) (o : Option X) → (IsSome o → listed ≡ true) → cond listed o None ≡ o
    by_value q true o some = refl
    by_value q false None some = refl
    by_value q false (Some x) some = absurd (false≢true (some refl))

    -- the table answers as the function if each key with a value is listed
    pub get-tabulate :
        (keys : List K) (q : K) → (IsSome (value q) → list_any (eq_by_cmp R q) keys ≡ true) → map.get (table keys) q ≡ value q
    get-tabulate keys q listed = got_where q keys ∙ by_value q (list_any (eq_by_cmp R q) keys) (value q) listed

    -- the table has no more keys than the list
    pub len-tabulate : (keys : List K) → map.len (table keys) ≤ length keys
    len-tabulate [] = let none : map.len (table []) ≡ 0 = map.len-empty R X in omega (arith, none)
    len-tabulate (key ∷ keys) = with_key (value key) (len-tabulate keys) where
      with_key : (o : Option X) → map.len (table keys) ≤ length keys → map.len (put_some (table keys) key o) ≤ length (key ∷ keys)
      with_key None few = omega (arith, few)
      with_key (Some x) few =
          let more = map.len-insert total (table keys) key x in
          by_tie (map.contains_key (table keys) key) (map.len (table keys)) (map.len (map.insert (table keys) key x)) more few
        where
          by_tie : (listed : Bool) (was now : ℕ) → now ≡ cond listed was (was + 1) → was ≤ length keys → now ≤ length (key ∷ keys)
          by_tie true was now is few = omega (arith, is, few)
          by_tie false was now is few = omega (arith, is, few)
