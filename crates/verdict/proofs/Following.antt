-- Parts of the sharp rules that follow from the others: what a keeper may put where it controls a label, it may grant itself there, and
-- may grant that label.
use Rattle.std.proofs.Common.{ℕ, ◌≡◌, false, inr, refl, true}
use Rattle.base.specs.{declared.kind.Kind.{Kind, TheVariants.{Control, Grant, Receive}}, Kinds.is_structural}
use Rattle.policy.specs.{Closed.MayBeGranted, Domain.EdgeTest, Sharp.{GrantsDerive, Keepers, KeepersAreGranted, KeepersDerive, KeepersHaveAll}}
use Rattle.policy.specs.Sharp.{MayPut}

-- a keeper may grant to another that keeps where both control a label
may_grant :
    (test : EdgeTest) (Keeps : Keepers) → KeepersHaveAll test Keeps → (a b end : ℕ) → Keeps a → Keeps b → test a Control end ≡ true
    → test b Control end ≡ true → MayBeGranted test a b
may_grant test Keeps all a b end keeps also controls controls_too = record {
  endpoint = end;
  grants = all a Grant end keeps (record { controls = controls; given = inr (refl, λ e. cc) });
  receives = all b Receive end also (record { controls = controls_too; given = inr (refl, λ e. cc) });
}

-- a label where a keeper finds capabilities derives on a label where it may put them
pub derive_follows :
    (test : EdgeTest) (Keeps : Keepers) → KeepersHaveAll test Keeps → GrantsDerive test Keeps → KeepersDerive test Keeps
derive_follows test Keeps all grants a x y from put =
    grants a a x y (may_grant test Keeps all a a y put.keeps put.keeps put.controls put.controls) from put

-- a label where a keeper may put capabilities has the keeper's edges of use, if it controls what the keeper does
pub fall_follows :
    (test : EdgeTest) (Keeps : Keepers) → KeepersHaveAll test Keeps → KeepersAreGranted test Keeps
    → ((a b : ℕ) → MayPut test Keeps a b → Keeps b) → ((a b to : ℕ) → MayPut test Keeps a b → test a Control to ≡ true → test b Control to ≡ true)
    → (a b : ℕ) (kind : Kind) (to : ℕ) → MayPut test Keeps a b → is_structural kind ≡ false → test a kind to ≡ true
    → test b kind to ≡ true
fall_follows test Keeps all granted handed falls a b kind to put of_use has =
    granted a b kind to (handed a b put)
    (record {
      granted =
          may_grant test Keeps all a b b put.keeps (handed a b put) put.controls (falls a b b put put.controls);
      of_use = of_use;
      has = has;
    })
