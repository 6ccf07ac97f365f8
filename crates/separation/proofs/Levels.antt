-- The domains around a domain, one level more or less; and the domains that run on another's time, with one call more.
use Rattle.std.{specs.Option.option_map_or, proofs.Common.{[], ℕ, ◌+◌, ◌-◌, ◌<◌, ◌∷◌, ◌==◌, ◌||◌, ◌∙◌, ◌≡◌, ◌≤◌, Bool, None, Some, add-one, ap}}
use Rattle.std.proofs.{Common.{arith, eq-eqb, false, refl, suc, sym, true, zero}, lemmas.Bool.Decides.nat_tests}
use Rattle.microkit.specs.Description.{Description}
use Rattle.separation.specs.{Lending.{runners_by, with_called}, Users.{is_within, parent_of, top_of}}

or_false : (b : Bool) → (b || false) ≡ b
or_false true = refl
or_false false = refl

pub within_last : (d : Description) (outer levels n : ℕ) → levels < 1 → is_within d outer levels n ≡ (n == outer)
unfolding is_within
within_last d outer zero n none = refl
within_last d outer (suc levels) n none = absurd (omega (arith, none))

pub within_top : (d : Description) (outer levels n : ℕ) → parent_of d n ≡ None → is_within d outer levels n ≡ (n == outer)
unfolding is_within
within_top d outer zero n top = refl
within_top d outer (suc levels) n top =
    ap (λ parent. n == outer || option_map_or (is_within d outer levels) parent false) top ∙ or_false (n == outer)

pub within_more : (d : Description) (outer levels n parent : ℕ) → 1 ≤ levels → parent_of d n ≡ Some parent
    → is_within d outer levels n ≡ (n == outer || is_within d outer (levels - 1) parent)
unfolding is_within
within_more d outer zero n parent some is = absurd (omega (arith, some))
within_more d outer (suc levels) n parent some is =
    ap (λ found. n == outer || option_map_or (is_within d outer levels) found false) is
    ∙ ap (λ k. n == outer || is_within d outer k parent) (let same : levels ≡ suc levels - 1 = omega arith in same)

-- a domain is within itself
pub within_here : (d : Description) (outer levels n : ℕ) → n ≡ outer → is_within d outer levels n ≡ true
unfolding is_within
within_here d outer zero n here = eq-eqb n outer here
within_here d outer (suc levels) n here =
    ap (λ b. b || option_map_or (is_within d outer levels) (parent_of d n) false) (eq-eqb n outer here)

-- another domain is within an outer one if its parent is
pub within_else : (d : Description) (outer levels n parent : ℕ) → (n ≡ outer → ⊥) → 1 ≤ levels → Some parent ≡ parent_of d n
    → is_within d outer (levels - 1) parent ≡ is_within d outer levels n
within_else d outer levels n parent other some is =
    let differ : (n == outer) ≡ false = grind (arith, nat_tests) in
    sym (within_more d outer levels n parent some (sym is) ∙ ap (λ b. b || is_within d outer (levels - 1) parent) differ)

pub top_last : (d : Description) (levels n : ℕ) → levels < 1 → top_of d levels n ≡ n
unfolding top_of
top_last d zero n none = refl
top_last d (suc levels) n none = absurd (omega (arith, none))

pub top_top : (d : Description) (levels n : ℕ) → parent_of d n ≡ None → top_of d levels n ≡ n
unfolding top_of
top_top d zero n top = refl
top_top d (suc levels) n top = ap (λ parent. option_map_or (top_of d levels) parent n) top

pub top_more : (d : Description) (levels n parent : ℕ) → 1 ≤ levels → parent_of d n ≡ Some parent
    → top_of d levels n ≡ top_of d (levels - 1) parent
unfolding top_of
top_more d zero n parent some is = absurd (omega (arith, some))
top_more d (suc levels) n parent some is =
    ap (λ found. option_map_or (top_of d levels) found n) is
    ∙ ap (λ k. top_of d k parent) (let same : levels ≡ suc levels - 1 = omega arith in same)

pub called_none : (d : Description) (n : ℕ) → n ∷ [] ≡ runners_by d n 0
unfolding runners_by
called_none d n = refl

pub called_more : (d : Description) (n calls : ℕ) → with_called d (runners_by d n calls) ≡ runners_by d n (calls + 1)
unfolding runners_by
called_more d n calls = rw add-one refl
