-- Labels that a program may change or make smaller: each stands inside the program, or in the words of an arrow.
use Rattle.std.proofs.{Common.{[], ℕ, ◌==◌, ◌||◌, ◌∙◌, ◌∷◌, ◌≡◌, ◌≢◌, ◌⊎◌, Bool, Contains, List, ap, false, inl, inr, not, refl, sym, true}, lemmas.Bool.{and_from, eq-eqb, or_left, or_right}}
use Rattle.std.proofs.lemmas.List.Elements.{Contains-append_left, Contains-append_right, Contains-push}
use Rattle.diagram.specs.Programs.{Program}
use Rattle.diagram.specs.Regions.{StandsBetween, does, is_apart, is_inside, uses}
use Rattle.diagram.specs.declared.verbs.Verb.{Verb, TheVariants.{Changes, Takes, Writes}}
use mathlib.Core.Bool.{false≢true}

either : (b : Bool) → (b ≡ true) ⊎ (b ≡ false)
either true = inl refl
either false = inr refl

-- another program that uses a label
abbrev UsesToo : List Program → ℕ → ℕ → Type 0
UsesToo programs a l = (other : Program) × Contains programs other × (other.label ≢ a) × (uses other l ≡ true)

one_more : (q : Program) (programs : List Program) (a l : ℕ) → ((q.label == a) || not (uses q l)) ≡ true
    → (is_apart programs a l ≡ true) ⊎ UsesToo programs a l → (is_apart (q ∷ programs) a l ≡ true) ⊎ UsesToo (q ∷ programs) a l
one_more q programs a l passes (inl all) = inl (and_from ((q.label == a) || not (uses q l)) (is_apart programs a l) passes all)
one_more q programs a l passes (inr w) = inr (w.0, Contains-append_right (q ∷ []) programs w.0 w.1, w.2, w.3)

apart_or : (programs : List Program) (a l : ℕ) → (is_apart programs a l ≡ true) ⊎ UsesToo programs a l
apart_or [] a l = inl refl
apart_or (q ∷ programs) a l =
    let so_far = apart_or programs a l in
    elim (either (uses q l)) [
      | inl used ↦ elim (either (q.label == a)) [
        | inl same ↦ one_more q programs a l (or_left (q.label == a) (not (uses q l)) same) so_far
        | inr differ ↦
            inr (q, Contains-append_left (q ∷ []) programs q (Contains-push [] q), (λ same. false≢true (sym differ ∙ eq-eqb q.label a same)), used)
      ]
      | inr unused ↦ one_more q programs a l (or_right (q.label == a) (not (uses q l)) (ap not unused)) so_far
    ]

changed_by : (p : Program) (l : ℕ) → p.changes l ≡ true → (verb : Verb) × (does p verb l ≡ true)
changed_by p l may = elim (either (p.writes l)) [
  | inl writes ↦ (Writes, and_from (p.changes l) (p.writes l) may writes)
  | inr lacks ↦ (Changes, and_from (p.changes l) (not (p.writes l)) may (ap not lacks))
]

done_by : (p : Program) (l : ℕ) → (p.changes l ≡ true) ⊎ (p.shrinks l ≡ true) → (verb : Verb) × (does p verb l ≡ true)
done_by p l (inl may) = changed_by p l may
done_by p l (inr may) = elim (either (p.changes l)) [
  | inl changes ↦ changed_by p l changes
  | inr lacks ↦ (Takes, and_from (p.shrinks l) (not (p.changes l)) may (ap not lacks))
]

used_by : (p : Program) (l : ℕ) → (p.changes l ≡ true) ⊎ (p.shrinks l ≡ true) → uses p l ≡ true
used_by p l (inl may) = or_left (p.changes l || p.shrinks l) (p.reads l) (or_left (p.changes l) (p.shrinks l) may)
used_by p l (inr may) = or_left (p.changes l || p.shrinks l) (p.reads l) (or_right (p.changes l) (p.shrinks l) may)

pub nothing_lost : (programs : List Program) (p : Program) (l : ℕ) → (p.changes l ≡ true) ⊎ (p.shrinks l ≡ true)
    → (is_inside programs p l ≡ true) ⊎ StandsBetween programs p l
nothing_lost programs p l may = elim (apart_or programs p.label l) [
  | inl apart ↦ inl (and_from (uses p l) (is_apart programs p.label l) (used_by p l may) apart)
  | inr w ↦
      let done = done_by p l may in
      inr (record { other = w.0; among = w.1; apart = w.2; verb = done.0; told = and_from (does p done.0 l) (uses w.0 l) done.1 w.3 })
]
