-- The places of each rule: what they are made of.
use Rattle.std.proofs.Common.{[], ℕ, ◌↔◌, ◌∷◌, ◌≡◌, ◌≢◌, List, arith, false, refl, sym, true}
use Rattle.base.specs.{declared.{kind.Kind.{Kind, TheVariants.{Derive, Holds}}, labels.Labels.Labels}, Kinds.{is_structural, kind_number}}
use Rattle.base.specs.Labels.{is_in}
use Rattle.policy.specs.{declared.broken.Broken.{Broken, Broken as broken}, Broken.{IsBrokenAt, broken_place, p1, p2, p3, p5, p7}}
use Rattle.policy.{specs.{Closed.MayBeGranted, Domain.{EdgeTest, IsInDomain}, Places.IsUnder}, proofs.Cells.{FindsByCell, FindsByTarget}}
use Rattle.policy.proofs.Cells.{least_cell, least_target}

-- the labels that are given for each kind are those with a property
abbrev Tells : (Kind → Labels → Type 0) → (Kind → ℕ → Type 0) → Type 0
Tells gives Has = (kind : Kind) (labels : Labels) → gives kind labels → (label : ℕ) → (is_in labels label ≡ true) ↔ Has kind label

module _ (test : EdgeTest) where
  abbrev IsUnderAll : List ℕ → Broken → Type 0
  IsUnderAll beginning b = IsUnder broken_place (IsBrokenAt test) beginning b

  -- P1
  pub disagreement_found :
      (subject other : ℕ) → IsInDomain test subject other → (gives : Kind → Labels → Type 0)
      → Tells gives (λ kind target. (is_structural kind ≡ false) × (test subject kind target ≢ test other kind target))
      → FindsByCell test (p1 ∷ subject ∷ other ∷ []) (λ cell. broken.SubjectsDisagree subject other cell.0 cell.1) gives
  disagreement_found subject other domain gives tells =
      least_cell test (p1 ∷ subject ∷ other ∷ []) (λ cell. broken.SubjectsDisagree subject other cell.0 cell.1)
      (record { of = of; placed = λ cell. refl }) gives (λ kind labels given target.
      let told = tells kind labels given target in (
        λ e. let h = told.0 e in record { share = record { domain = domain; of_use = h.0 }; differ = h.1 },
        λ h. told.1 (h.share.of_use, h.differ),
      )) where
        of : (b : Broken) → IsUnderAll (p1 ∷ subject ∷ other ∷ []) b → (cell : Kind × ℕ) × (b ≡ broken.SubjectsDisagree subject other cell.0 cell.1)
        of (broken.SubjectsDisagree s o kind target) h =
            ((kind, target), λ i. broken.SubjectsDisagree (sym h.0.1.0 i) (sym h.0.1.1.0 i) kind target)
        of _ h = absurd (omega (arith, h.0.0))

  -- P2
  pub control_found :
      (subject : ℕ) → (gives : Kind → Labels → Type 0) → Tells gives (λ kind object. IsBrokenAt test (broken.ControlLacks subject kind object))
      → FindsByCell test (p2 ∷ subject ∷ []) (λ cell. broken.ControlLacks subject cell.0 cell.1) gives
  control_found subject =
      least_cell test (p2 ∷ subject ∷ []) (λ cell. broken.ControlLacks subject cell.0 cell.1) (record { of = of; placed = λ cell. refl }) where
        of : (b : Broken) → IsUnderAll (p2 ∷ subject ∷ []) b → (cell : Kind × ℕ) × (b ≡ broken.ControlLacks subject cell.0 cell.1)
        of (broken.ControlLacks s kind object) h = ((kind, object), λ i. broken.ControlLacks (sym h.0.1.0 i) kind object)
        of _ h = absurd (omega (arith, h.0.0))

  -- P3
  pub grant_found :
      (giver taker : ℕ) → MayBeGranted test giver taker → (gives : Kind → Labels → Type 0)
      → Tells gives (λ kind target. (is_structural kind ≡ false) × (test giver kind target ≡ true) × (test taker kind target ≡ false))
      → FindsByCell test (p3 ∷ giver ∷ taker ∷ []) (λ cell. broken.GrantLacks giver taker cell.0 cell.1) gives
  grant_found giver taker may gives tells =
      least_cell test (p3 ∷ giver ∷ taker ∷ []) (λ cell. broken.GrantLacks giver taker cell.0 cell.1)
      (record { of = of; placed = λ cell. refl }) gives (λ kind labels given target.
      let told = tells kind labels given target in (
        λ e. let h = told.0 e in record { asked = record { granted = may; of_use = h.0; has = h.1 }; missing = h.2 },
        λ h. told.1 (h.asked.of_use, h.asked.has, h.missing),
      )) where
        of : (b : Broken) → IsUnderAll (p3 ∷ giver ∷ taker ∷ []) b → (cell : Kind × ℕ) × (b ≡ broken.GrantLacks giver taker cell.0 cell.1)
        of (broken.GrantLacks g t kind target) h = ((kind, target), λ i. broken.GrantLacks (sym h.0.1.0 i) (sym h.0.1.1.0 i) kind target)
        of _ h = absurd (omega (arith, h.0.0))

  -- P5
  pub derive_found : (parent : ℕ) → FindsByTarget test (p5 ∷ parent ∷ []) (broken.DeriveLacks parent)
  derive_found parent =
      least_target test (p5 ∷ parent ∷ []) (kind_number Derive) (broken.DeriveLacks parent) (record { of = of; placed = λ child. refl }) where
        of : (b : Broken) → IsUnderAll (p5 ∷ parent ∷ []) b → (child : ℕ) × (b ≡ broken.DeriveLacks parent child)
        of (broken.DeriveLacks p child) h = (child, λ i. broken.DeriveLacks (sym h.0.1.0 i) child)
        of _ h = absurd (omega (arith, h.0.0))

  -- P7
  pub reply_found : (reply : ℕ) → FindsByTarget test (p7 ∷ reply ∷ []) (broken.ReplyLacks reply)
  reply_found reply =
      least_target test (p7 ∷ reply ∷ []) (kind_number Holds) (broken.ReplyLacks reply) (record { of = of; placed = λ thread. refl }) where
        of : (b : Broken) → IsUnderAll (p7 ∷ reply ∷ []) b → (thread : ℕ) × (b ≡ broken.ReplyLacks reply thread)
        of (broken.ReplyLacks r thread) h = (thread, λ i. broken.ReplyLacks (sym h.0.1.0 i) thread)
        of _ h = absurd (omega (arith, h.0.0))
