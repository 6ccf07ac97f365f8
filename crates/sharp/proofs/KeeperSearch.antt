-- The search for the keepers, which are the labels that keep capabilities for CNodes; and that more edges make no fewer keepers.
use Rattle.std.proofs.Common.{ℕ, ◌&&◌, ◌↔◌, ◌∙◌, ◌≡◌, ◌⊎◌, Bool, false, inl, inr, not, refl, sym, true}
use Rattle.std.proofs.lemmas.Bool.{and_parts, false≢true}
use Rattle.base.specs.{declared.{kind.Kind.TheVariants.{Control, Space}, labels.Labels.Labels}, Labels.is_in}
use Rattle.policy.specs.{Closing.IsWithin, Domain.EdgeTest, Sharp.{KeeperTest, Told}}
use Rattle.policy.proofs.{Gathering.{either, source_tells, target_tells, told_as}, RuleSets.{IsDifference, IsReached, IsReaching, IsUnion}}
use Rattle.sharp.specs.Keeping.{FindsThere, KeepsNext, IsHanded, KeepsFrom, KeepsFrom.{finds, handed, held}}

-- a keeper of a policy is a keeper of every greater policy
pub keeps_grow :
    (one other : EdgeTest) (holds : KeeperTest) → IsWithin one other → (a : ℕ) → KeepsFrom one holds a → KeepsFrom other holds a
keeps_grow one other holds within a (held is) = held is
keeps_grow one other holds within a (finds {b = b} keeps space) = finds (keeps_grow one other holds within b keeps) (within a Space b space)
keeps_grow one other holds within a (handed {b = b} keeps control) =
    handed (keeps_grow one other holds within b keeps) (within b Control a control)

lacking : (a b : Bool) → (a && not b) ≡ true → (a ≡ true) × (b ≡ false)
lacking a true e = absurd (false≢true (and_parts a false e).1)
lacking a false e = ((and_parts a true e).0, refl)

remains : (a b : Bool) → a ≡ true → b ≡ false → (a && not b) ≡ true
remains a b has missing = rw (has, missing) refl

-- the labels that keep by one step from those that keep
pub beside_told :
    (test : EdgeTest) (keeping finding reached joined more : Labels) → IsReaching test Space keeping finding
    → IsReached test keeping Control reached → IsUnion finding reached joined → IsDifference joined keeping more
    → (a : ℕ) → (is_in more a ≡ true) ↔ KeepsNext test (is_in keeping) a
beside_told test keeping finding reached joined more in_finding in_reached both differ a = (forth, back) where
  keeps : (b : ℕ) → (is_in keeping b ≡ true) ↔ Told (is_in keeping) b
  keeps b = (λ e. e, λ e. e)

  found : (is_in finding a ≡ true) ↔ FindsThere test (is_in keeping) a
  found = told_as (is_in finding a) (source_tells test Space (Told (is_in keeping)) keeping keeps a (is_in finding a) (in_finding a))
      (λ w. record { keeper = w.0; is_keeper = w.1; finds = w.2 }) (λ h. (h.keeper, h.is_keeper, h.finds))

  controlled : (is_in reached a ≡ true) ↔ IsHanded test (is_in keeping) a
  controlled = told_as (is_in reached a) (target_tells test Control (Told (is_in keeping)) keeping keeps a (is_in reached a) (in_reached a))
      (λ w. record { keeper = w.0; is_keeper = w.1; controls = w.2 }) (λ h. (h.keeper, h.is_keeper, h.controls))

  one_of : (is_in joined a ≡ true) ↔ (FindsThere test (is_in keeping) a ⊎ IsHanded test (is_in keeping) a)
  one_of = either (is_in joined a) (is_in finding a) (is_in reached a) found controlled (both a)

  forth : is_in more a ≡ true → KeepsNext test (is_in keeping) a
  forth is =
      let parts = lacking (is_in joined a) (is_in keeping a) (sym (differ a) ∙ is) in
      record { joined = one_of.0 parts.0; missing = parts.1 }

  back : KeepsNext test (is_in keeping) a → is_in more a ≡ true
  back h = differ a ∙ remains (is_in joined a) (is_in keeping a) (one_of.1 h.joined) h.missing

-- labels that keep by one step from keepers are keepers
pub beside_keeps :
    (test : EdgeTest) (holds keeps : KeeperTest) → ((a : ℕ) → keeps a ≡ true → KeepsFrom test holds a) → (a : ℕ)
    → KeepsNext test keeps a → KeepsFrom test holds a
beside_keeps test holds keeps are a h = by h.joined where
  by : FindsThere test keeps a ⊎ IsHanded test keeps a → KeepsFrom test holds a
  by (inl one) = finds (are one.keeper one.is_keeper) one.finds
  by (inr one) = handed (are one.keeper one.is_keeper) one.controls

-- all keepers are found if no step leads on
module _ (test : EdgeTest) (holds keeps : KeeperTest) (has : (a : ℕ) → holds a ≡ true → keeps a ≡ true) (none : (a : ℕ) → KeepsNext test keeps a → ⊥) where
  there : (a : ℕ) → FindsThere test keeps a ⊎ IsHanded test keeps a → (b : Bool) → keeps a ≡ b → keeps a ≡ true
  there a step true is = is
  there a step false is = absurd (none a (record { joined = step; missing = is }))

  pub all_keep : (a : ℕ) → KeepsFrom test holds a → keeps a ≡ true
  all_keep a (held is) = has a is
  all_keep a (finds {b = b} is space) =
      there a (inl (record { keeper = b; is_keeper = all_keep b is; finds = space })) (keeps a) refl
  all_keep a (handed {b = b} is control) =
      there a (inr (record { keeper = b; is_keeper = all_keep b is; controls = control })) (keeps a) refl
