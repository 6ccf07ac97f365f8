-- The broken claims, gathered line by line.
use Rattle.std.{specs.List.Contains, proofs.Common.{[], ℕ, ◌++◌, ◌+◌, ◌<◌, ◌∷◌, ◌≡◌, ◌⊎◌, List, None, Option, Some, ap, arith, get_or}}
use Rattle.std.proofs.{Common.{inl, inr, length, subst, sym, take}, lemmas.List.Elements.{Contains-append_cases, Contains-push_cases}}
use Rattle.{std.proofs.lemmas.List.{length-take-le, take_more}, machine.specs.Layout.Layout, reach.specs.Extents.Limits}
use Rattle.claims.specs.declared.{claim.Claim.Claim, deciding.Broken.Broken}
use Rattle.claims.specs.Holding.{AreBroken, AreBroken.{broke, ended, held, silent}, Holds}

module _ (t : Layout) (limits : Limits) where
  abbrev From : ℕ → List (Option Claim) → List Broken → Type 0
  From = AreBroken t limits

  moved : (line here : ℕ) (entries : List (Option Claim)) (all : List Broken) → line ≡ here → From line entries all → From here entries all
  moved line here entries all same = let P : ℕ → Type 0 = λ n. From n entries all in subst P same

  pub more_lines : {line : ℕ} {entries : List (Option Claim)} {all : List Broken} → From line entries all → (next : List (Option Claim)) (more : List Broken)
      → From (line + length entries) next more → From line (entries ++ next) (all ++ more)
  more_lines (ended {line}) next more later = moved (line + 0) line next more (omega arith) later
  more_lines (silent {line} {entries} {all} rest) next more later =
      silent (more_lines rest next more (moved (line + length (None ∷ entries)) (line + 1 + length entries) next more (omega arith) later))
  more_lines (held {line} {claim} {entries} {all} holds rest) next more later =
      held holds (more_lines rest next more (moved (line + length (Some claim ∷ entries)) (line + 1 + length entries) next more (omega arith) later))
  more_lines (broke {line} {claim} {broken} {entries} {all} breaks rest) next more later =
      broke breaks (more_lines rest next more (moved (line + length (Some claim ∷ entries)) (line + 1 + length entries) next more (omega arith) later))

  -- all hold if none is broken

  in_first_or_rest : (x : Option Claim) (xs : List (Option Claim)) (y : Option Claim) → Contains (x ∷ xs) y → (x ≡ y) ⊎ Contains xs y
  in_first_or_rest x xs y has = elim (Contains-append_cases (x ∷ []) xs y has) [
    | inl first ↦ elim (Contains-push_cases [] x y first) [
      | inl none ↦ absurd (omega (arith, none.1))
      | inr same ↦ inl same
    ]
    | inr later ↦ inr later
  ]

  pub all_hold : {line : ℕ} {entries : List (Option Claim)} {all : List Broken} → From line entries all → all ≡ [] → (claim : Claim)
      → Contains entries (Some claim) → Holds t limits claim
  all_hold ended none claim has = absurd (omega (arith, has.1))
  all_hold (silent {line} {entries} {all} rest) none claim has = elim (in_first_or_rest None entries (Some claim) has) [
    | inl same ↦ cc
    | inr later ↦ all_hold rest none claim later
  ]
  all_hold (held {line} {claim = first} {entries} {all} holds rest) none claim has = elim (in_first_or_rest (Some first) entries (Some claim) has) [
    | inl same ↦ let is : first ≡ claim = cc in subst (Holds t limits) is holds
    | inr later ↦ all_hold rest none claim later
  ]
  all_hold (broke breaks rest) none claim has = cc

  -- one line more, of which this is told
  pub one_line : (line i : ℕ) (entries : List (Option Claim)) (d : Option Claim) (all more : List Broken) → i < length entries
      → From line (take i entries) all → From (line + i) (get_or entries i d ∷ []) more → From line (take (i + 1) entries) (all ++ more)
  one_line line i entries d all more within so_far here =
      let count : line + i ≡ line + length (take i entries) = ap (λ n. line + n) (sym (length-take-le i entries (omega arith))) in
      subst (λ xs. From line xs (all ++ more)) (sym (take_more entries i d within))
      (more_lines so_far (get_or entries i d ∷ []) more (moved (line + i) (line + length (take i entries)) (get_or entries i d ∷ []) more count here))
