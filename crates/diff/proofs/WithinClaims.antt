-- Claims on the labels of a system whose twins keep them in a system within which it lies.
use Rattle.std.{specs.List.Contains, proofs.Common.{[], ℕ, ◌<◌, ◌==◌, ◌∙◌, ◌∷◌, ◌≡◌, List, ap, arith, false, get_or, length, map, refl}}
use Rattle.std.proofs.{Common.{subst, sym}, lemmas.{Bool.{eqb-false, false≢true, ne_eqb, or_from, or_parts}, List.{get_or-map, length-map}}}
use Rattle.{base.specs.declared.kind.Kind.Kind, machine.specs.Layout.Layout, reach.specs.Extents.Limits, flows.proofs.Leading.no_chain}
use Rattle.claims.specs.declared.claim.{Claim.{Claim, Claim as claim}, Most.{Most, Most as most}, Who.{Who, Who as who}}
use Rattle.claims.specs.{declared.deciding.Failure.{Failure, Failure as failure}, Claims.is_one_of, Holding.{AreLabelNames, AreTwo, Bounds}}
use Rattle.claims.specs.Holding.{Excludes, ClaimFails, FailsOnEdge, FailsOnPair, HasAtMost, Holds, HoldsOnEdges, HoldsOnPairs, IsNamed, most_of}
use Rattle.diff.{specs.Within.{AreTwins, LiesWithin, twin_claim, twin_who}, proofs.{WithinChanges.{changes, shrinks}, WithinFlows.leads}}

-- lists of labels and lists of their twins
module _ (twin : ℕ → ℕ) (distinct : (a b : ℕ) → twin a ≡ twin b → a ≡ b) where
  pub among : (labels : List ℕ) (a : ℕ) → Contains (map twin labels) (twin a) → Contains labels a
  among labels a has =
      let long = length-map labels twin in
      let within = has.1 in
      let at : has.0 < length labels = omega (arith, long, within) in
      (has.0, at, distinct (get_or labels has.0 a) a (sym (get_or-map twin labels has.0 a (twin a) at) ∙ has.2))

  pub beside : (filters : List ℕ) (l : ℕ) → is_one_of filters l ≡ false → is_one_of (map twin filters) (twin l) ≡ false
  beside [] l free = refl
  beside (filter ∷ filters) l free =
      let parts = or_parts (filter == l) (is_one_of filters l) free in
      or_from (twin filter == twin l) (is_one_of (map twin filters) (twin l))
      (ne_eqb (twin filter) (twin l) (λ same. eqb-false filter l parts.0 (distinct filter l same)))
      (beside filters l parts.1)

module _ (twin : ℕ → ℕ) (inner outer : Limits) (t u : Layout) (lies : LiesWithin twin inner outer) (twins : AreTwins t u twin) where
  two : (a l : ℕ) → AreTwo t a l → AreTwo u (twin a) (twin l)
  two a l are = (twins.there a are.0, twins.there l are.1, λ same. are.2 (twins.distinct a l same))

  named : (end : Who) (label : ℕ) → IsNamed end label → IsNamed (twin_who twin end) (twin label)
  named (who.One other) label is = ap twin is
  named who.Others label is = tt

  bounds : (claim : Claim) (a l : ℕ) → Bounds t claim a l → Bounds u (twin_claim twin claim) (twin a) (twin l)
  bounds (claim.AtMost limit actor object) a l is = (two a l is.0, named actor a is.1, named object l is.2)
  bounds (claim.Only object actors) a l is = (two a l is.0, ap twin is.1, λ has. is.2 (among twin twins.distinct actors a has))
  bounds (claim.Within actor objects) a l is = (two a l is.0, ap twin is.1, λ has. is.2 (among twin twins.distinct objects l has))
  bounds (claim.Readers object readers) a l is = is
  bounds (claim.Through from to filters) a l is = is
  bounds (claim.Without actor kind object) a l is = is

  are_named : (actor object : Who) (a l : ℕ) → AreLabelNames t actor object a l
      → AreLabelNames u (twin_who twin actor) (twin_who twin object) (twin a) (twin l)
  are_named (who.One actor) (who.One object) a l is = (ap twin is.0, ap twin is.1)
  are_named (who.One actor) who.Others a l is = (two a l is.0, ap twin is.1)
  are_named who.Others object a l is = (two a l is.0, named object l is.1)

  excludes : (claim : Claim) (a : ℕ) (kind : Kind) (l : ℕ) → Excludes t claim a kind l
      → Excludes u (twin_claim twin claim) (twin a) kind (twin l)
  excludes (claim.Readers object readers) a kind l is =
      (two a l is.0, ap twin is.1, (λ has. is.2 (among twin twins.distinct readers a has)), is.3)
  excludes (claim.Without actor sort object) a kind l is = (are_named actor object a l is.0, is.1)
  excludes _ a kind l is = absurd is

  at_most : (a l : ℕ) (limit : Most) → HasAtMost outer (twin a) (twin l) limit → HasAtMost inner a l limit
  at_most a l most.Nothing has =
      (λ may. has.0 (changes twin inner outer lies a l may), λ may. has.1 (shrinks twin inner outer lies a l may))
  at_most a l most.Take has = λ may. has (changes twin inner outer lies a l may)

  pairs : (claim : Claim) → most_of (twin_claim twin claim) ≡ most_of claim → HoldsOnPairs u outer (twin_claim twin claim)
      → HoldsOnPairs t inner claim
  pairs claim same holds = λ a l is.
      at_most a l (most_of claim) (subst (λ limit. HasAtMost outer (twin a) (twin l) limit) same (holds (twin a) (twin l) (bounds claim a l is)))

  unbreached : (claim : Claim) → HoldsOnPairs t inner claim → (told : Failure) → ¬ FailsOnPair t inner claim told
  unbreached claim holds (failure.Pair breach) fails = fails.breaks (holds breach.actor breach.object fails.bounded)
  unbreached claim holds failure.Chain fails = fails
  unbreached claim holds (failure.Edge edge) fails = fails

  unexcluded : (claim : Claim) → HoldsOnEdges u outer.test (twin_claim twin claim) → (told : Failure) → ¬ FailsOnEdge t inner.test claim told
  unexcluded claim holds (failure.Edge edge) fails =
      let lacks = holds (twin edge.from) edge.kind (twin edge.to) (excludes claim edge.from edge.kind edge.to fails.excluded) in
      false≢true (sym lacks ∙ lies.edges edge.from edge.kind edge.to fails.has)
  unexcluded claim holds failure.Chain fails = fails
  unexcluded claim holds (failure.Pair breach) fails = fails

  pub unbroken : (claim : Claim) → Holds u outer (twin_claim twin claim) → (told : Failure) → ¬ ClaimFails t inner claim told
  unbroken (claim.AtMost limit actor object) holds told fails =
      let one = claim.AtMost limit actor object in unbreached one (pairs one refl holds) told fails
  unbroken (claim.Only object actors) holds told fails =
      let one = claim.Only object actors in unbreached one (pairs one refl holds) told fails
  unbroken (claim.Within actor objects) holds told fails =
      let one = claim.Within actor objects in unbreached one (pairs one refl holds) told fails
  unbroken (claim.Readers object readers) holds told fails = unexcluded (claim.Readers object readers) holds told fails
  unbroken (claim.Through from to filters) holds told fails =
      no_chain outer (is_one_of (map twin filters)) (twin from) (twin to) holds
      (leads twin inner outer lies (is_one_of filters) (is_one_of (map twin filters)) (beside twin twins.distinct filters) from fails.1)
  unbroken (claim.Without actor kind object) holds told fails = unexcluded (claim.Without actor kind object) holds told fails
