-- Cut authority along a path, part by part.
use Rattle.std.proofs.{Common.{[], ℕ, ◌∷◌, ◌≡◌, ◌⊎◌, inl, inr, refl, true}, lemmas.List.Elements.All-from_recursion}
use Rattle.base.specs.declared.kind.Kind.{Kind, Kind as authority}
use Rattle.policy.specs.{Cut.{IsNear, is_link, IsNear.{against, along, stays}}, Domain.EdgeTest}
use Rattle.integrity.proofs.laws.cuts_follow_paths.Goals as goal

pub returns-clause-base : goal.returns-clause-base
returns-clause-base c = λ allowed a controlled base control derive. record { controlled = controlled; control = control; derive = derive }

pub returns-clause-held : goal.returns-clause-held
returns-clause-held c = λ k holding. holding

pub returns-clause-links : goal.returns-clause-links
returns-clause-links c =
    All-from_recursion (λ k. is_link k ≡ true)
    (authority.Send ∷ authority.Receive ∷ authority.Await ∷ authority.Reply ∷ authority.Holds ∷ authority.Runs ∷ authority.Space ∷ [])
    (refl, (refl, (refl, (refl, (refl, (refl, (refl, tt)))))))

near :
    (allowed : EdgeTest) (x y : ℕ)
    → (x ≡ y) ⊎ ((k : Kind) × (is_link k ≡ true) × ((allowed x k y ≡ true) ⊎ (allowed y k x ≡ true))) → IsNear allowed x y
near allowed x y (inl same) = stays same
near allowed x y (inr (k, links, inl edge)) = along k links edge
near allowed x y (inr (k, links, inr edge)) = against k links edge

pub returns-clause-near : goal.returns-clause-near
returns-clause-near c = near

pub returns-clause-path : goal.returns-clause-path
returns-clause-path c = λ allowed a base reached close label based held one two. record {
  base = base;
  based = based;
  reached = reached;
  edge = held;
  near = close;
  one = one;
  two = two;
}
