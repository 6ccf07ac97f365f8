-- The order of the places at which sharp rules are broken: by rule, and then by label.
use Rattle.std.proofs.Common.{[], ℕ, ◌+◌, ◌-◌, ◌<◌, ◌∷◌, ◌≡◌, List, None, Option, Some, ap, arith}
use Rattle.std.proofs.{Common.{inl, refl, slice_get, suc, sym, true, zero}, lemmas.Option.same_Some}
use Rattle.base.specs.declared.kind.Kind.{Kind, Kind as kinds, TheVariants.{Control, Derive, Grant, Receive}}
use Rattle.policy.specs.{Domain.EdgeTest, Places.{Begins, FindsLeast, IsUnder}, Sharp.Keepers}
use Rattle.policy.proofs.{ClosingRules.domain_joins, Places.Searches, Sweep.numbers}
use Rattle.sharp.specs.{declared.broken.{Rule.Rule, SharpBroken.SharpBroken}, Broken.{FindsSharply, IsSharplyBrokenAt, PutsByGrant}}
use Rattle.sharp.specs.{Broken.{SharplyAsks, UsesSharply, derived, falls, granted, rises, s1, s3, sharp_place}, Sweep.rule_number}
use Rattle.sharp.proofs.{AskedRules.sharply_asked_starts, PlaceSearch.{labels_search, one_label}}
use Rattle.sharp.specs.declared.broken.Rule.TheVariants as rule
use Rattle.sharp.specs.declared.broken.SharpBroken.TheVariants as broken

-- the rules in order

abbrev pub all_rules : List Rule
all_rules = rule.S1 ∷ rule.S2 ∷ rule.S3 ∷ rule.S4 ∷ rule.S5 ∷ rule.S6 ∷ rule.S7 ∷ rule.S8 ∷ []

abbrev pub of_rule : Rule → List ℕ
of_rule r = rule_number r ∷ []

rule_stands : (r : Rule) → slice_get all_rules (rule_number r - 1) ≡ Some r
rule_stands rule.S1 = refl
rule_stands _ = refl

numbered : (k : ℕ) (r : Rule) → slice_get all_rules k ≡ Some r → rule_number r ≡ k + 1
numbered zero r at = ap rule_number (sym (same_Some rule.S1 r at))
numbered (suc zero) r at = ap rule_number (sym (same_Some rule.S2 r at))
numbered (suc (suc zero)) r at = ap rule_number (sym (same_Some rule.S3 r at))
numbered (suc (suc (suc zero))) r at = ap rule_number (sym (same_Some rule.S4 r at))
numbered (suc (suc (suc (suc zero)))) r at = ap rule_number (sym (same_Some rule.S5 r at))
numbered (suc (suc (suc (suc (suc zero))))) r at = ap rule_number (sym (same_Some rule.S6 r at))
numbered (suc (suc (suc (suc (suc (suc zero)))))) r at = ap rule_number (sym (same_Some rule.S7 r at))
numbered (suc (suc (suc (suc (suc (suc (suc zero))))))) r at = ap rule_number (sym (same_Some rule.S8 r at))
numbered (suc (suc (suc (suc (suc (suc (suc (suc k)))))))) r at = cc

rule_of : SharpBroken → Rule
rule_of (broken.SubjectLacks _ _ _ _) = rule.S1
rule_of (broken.ControlLacks _ _ _) = rule.S2
rule_of (broken.GrantLacks _ _ _ _) = rule.S3
rule_of (broken.DomainLacks _ _) = rule.S4
rule_of (broken.DeriveLacks _ _) = rule.S5
rule_of (broken.ContextLacks _ _) = rule.S6
rule_of (broken.ReplyLacks _ _) = rule.S7
rule_of (broken.LentLacks _ _) = rule.S8

rule_begins : (x : SharpBroken) → Begins (rule_number (rule_of x) ∷ []) (sharp_place x)
unfolding rule_of
rule_begins (broken.SubjectLacks _ _ _ _) = (refl, tt)
rule_begins _ = (refl, tt)

module _ (test : EdgeTest) (Keeps : Keepers) where
  pub of_rules : Searches sharp_place (IsSharplyBrokenAt test Keeps) [] all_rules of_rule
  of_rules = record {
    covers = λ x under. (rule_number (rule_of x) - 1, rule_of x, rule_stands (rule_of x), rule_begins x);
    rises = λ i j a b lt at_i at_j.
        let one = numbered i a at_i in
        let other = numbered j b at_j in
        inl (omega (arith, lt, one, other));
  }

  -- the first place under the empty beginning is the first of all
  pub of_all : (found : Option SharpBroken) → FindsSharply test Keeps [] found → FindsLeast sharp_place (IsSharplyBrokenAt test Keeps) found
  of_all None none = λ x broken. none x (tt, broken)
  of_all (Some x) least = record { has = least.has.1; first = λ other broken. least.first other (tt, broken) }

  module _ (n : ℕ) (joins : (from : ℕ) (kind : Kind) (to : ℕ) → test from kind to ≡ true → (from < n) × (to < n)) where
    uses_join : (subject other : ℕ) (kind : Kind) (target : ℕ) → UsesSharply test Keeps subject other kind target → (subject < n) × (other < n)
    uses_join subject other kind target (rises share has) = domain_joins test n joins subject other share.domain
    uses_join subject other kind target (falls puts is_use has) =
        let both = joins other Control subject puts.controls in (both.1, both.0)

    derive_starts : (parent child : ℕ) → PutsByGrant test Keeps parent child → parent < n
    derive_starts parent child (granted giver taker may of_parent puts) = (domain_joins test n joins giver parent of_parent).1
    derive_starts parent child (derived middle one other) = (joins parent Derive middle one).0

    -- the label that a place names first is one of an edge
    starts : (x : SharpBroken) → SharplyAsks test Keeps x → (label : ℕ) × (label < n) × Begins (rule_number (rule_of x) ∷ label ∷ []) (sharp_place x)
    unfolding rule_of
    starts (broken.SubjectLacks a b kind to) h = (a, (uses_join a b kind to h).0, (refl, (refl, tt)))
    starts (broken.ControlLacks a kind b) h = (a, (joins a Control b h.gives.controls).0, (refl, (refl, tt)))
    starts (broken.GrantLacks a b kind to) h =
        (a, (joins a Grant h.gives.granted.endpoint h.gives.granted.grants).0, (refl, (refl, tt)))
    starts (broken.DomainLacks x y) h = (x, (domain_joins test n joins h.subject x h.of_parent).1, (refl, (refl, tt)))
    starts (broken.DeriveLacks x y) h = (x, derive_starts x y h, (refl, (refl, tt)))
    starts (broken.ContextLacks b s) h = (b, (joins h.binder Control b h.controls).1, (refl, (refl, tt)))
    starts (broken.ReplyLacks r c) h = (r, sharply_asked_starts test Keeps n joins r kinds.Holds c h, (refl, (refl, tt)))
    starts (broken.LentLacks b s) h = (b, (joins b Receive h.endpoint h.serves.receives).0, (refl, (refl, tt)))

    -- the places of a rule, label by label
    pub of_labels : (r : Rule) → Searches sharp_place (IsSharplyBrokenAt test Keeps) (of_rule r) (numbers n) one_label
    of_labels r = labels_search n covers where
      goes_on : (place : List ℕ) (one other label : ℕ) → Begins (other ∷ []) place → Begins (one ∷ label ∷ []) place → Begins (other ∷ label ∷ []) place
      goes_on [] one other label begins further = begins
      goes_on (first ∷ rest) one other label begins further = (begins.0, further.1)

      covers : (x : SharpBroken) → IsUnder sharp_place (IsSharplyBrokenAt test Keeps) (of_rule r) x
          → (label : ℕ) × (label < n) × Begins (rule_number r ∷ label ∷ []) (sharp_place x)
      covers x under =
          let at = starts x under.1.asked in
          (at.0, at.1, goes_on (sharp_place x) (rule_number (rule_of x)) (rule_number r) at.0 under.0 at.2)

    -- S1, by the other label
    pub subject_labels : (subject : ℕ) → Searches sharp_place (IsSharplyBrokenAt test Keeps) (s1 ∷ subject ∷ []) (numbers n) one_label
    subject_labels subject = labels_search n covers where
      covers : (x : SharpBroken) → IsUnder sharp_place (IsSharplyBrokenAt test Keeps) (s1 ∷ subject ∷ []) x
          → (label : ℕ) × (label < n) × Begins (s1 ∷ subject ∷ label ∷ []) (sharp_place x)
      covers (broken.SubjectLacks s o kind target) h =
          (o, (uses_join s o kind target h.1.asked).1, (h.0.0, (h.0.1.0, (refl, tt))))
      covers _ h = absurd (omega (arith, h.0.0))

    -- S3, by the taker
    pub grant_labels : (giver : ℕ) → Searches sharp_place (IsSharplyBrokenAt test Keeps) (s3 ∷ giver ∷ []) (numbers n) one_label
    grant_labels giver = labels_search n covers where
      covers : (x : SharpBroken) → IsUnder sharp_place (IsSharplyBrokenAt test Keeps) (s3 ∷ giver ∷ []) x
          → (label : ℕ) × (label < n) × Begins (s3 ∷ giver ∷ label ∷ []) (sharp_place x)
      covers (broken.GrantLacks g t kind target) h =
          let may = h.1.asked.gives.granted in
          (t, (joins t Receive may.endpoint may.receives).0, (h.0.0, (h.0.1.0, (refl, tt))))
      covers _ h = absurd (omega (arith, h.0.0))
