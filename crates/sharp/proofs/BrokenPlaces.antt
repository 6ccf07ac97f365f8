-- The places of each sharp rule, label by label and kind by kind, and their order.
use Rattle.std.{specs.Option.option_map, proofs.Common.{[], ℕ, ◌↔◌, ◌∷◌, ◌≡◌, ◌⊎◌, IfNone}}
use Rattle.std.proofs.Common.{IfSome, List, Option, arith, false, inl, inr, refl, sym, true}
use Rattle.base.specs.declared.{kind.Kind.{Kind, TheVariants.{Derive, Runs}}, labels.Labels.Labels}
use Rattle.base.specs.{Kinds.{is_structural, kind_number}, Labels.is_in}
use Rattle.policy.specs.{Closed.MayBeGranted, Domain.{EdgeTest, IsInDomain}, Places.{Begins, IsLeast, IsNone, IsUnder}, Search.IsLeastIn}
use Rattle.policy.{specs.{Search.IsNobody, Sharp.{Keepers, MayPut}}, proofs.{KindNumbers.{all_kinds, same_kind}, Places.{IsMade, Searches}}}
use Rattle.sharp.specs.{declared.broken.SharpBroken.SharpBroken, Broken.{FindsSharply, IsSharplyBrokenAt, UsesSharply}}
use Rattle.sharp.{specs.Broken.{falls, rises, s1, s2, s3, s4, s5, s6, s7, s8, sharp_place}, proofs.PlaceSearch.after}
use Rattle.sharp.proofs.PlaceSearch.{found_in_set, kinds_search, label_decides, last_decides, least_of_set, none_of_set, of_kind, one_label}
use Rattle.base.specs.declared.kind.Kind.TheVariants as kinds
use Rattle.sharp.specs.declared.broken.SharpBroken.TheVariants as broken

module _ (test : EdgeTest) (Keeps : Keepers) where
  abbrev IsUnderAll : List ℕ → SharpBroken → Type 0
  IsUnderAll beginning place = IsUnder sharp_place (IsSharplyBrokenAt test Keeps) beginning place

  abbrev pub AreTold : (ℕ → SharpBroken) → Labels → Type 0
  AreTold make labels = (label : ℕ) → (is_in labels label ≡ true) ↔ IsSharplyBrokenAt test Keeps (make label)

  -- the first place under a beginning is at the least label of the set of labels at which the rule is broken
  abbrev pub FindsInSet : List ℕ → (ℕ → SharpBroken) → Type 0
  FindsInSet beginning make =
      (labels : Labels) → AreTold make labels → (found : Option ℕ) → IfSome found (IsLeastIn labels) → IfNone found (IsNobody labels)
      → FindsSharply test Keeps beginning (option_map make found)

  found_after :
      (beginning : List ℕ) (kind : Kind) (make : ℕ → SharpBroken)
      → IsMade sharp_place (IsSharplyBrokenAt test Keeps) beginning make (after (kind_number kind)) → FindsInSet beginning make
  found_after beginning kind make made = found_in_set made (last_decides (kind_number kind))

  -- the rules whose places are labels of a set: S4 to S8

  pub domain_found : (parent : ℕ) → FindsInSet (s4 ∷ parent ∷ []) (broken.DomainLacks parent)
  domain_found parent = found_after (s4 ∷ parent ∷ []) Derive (broken.DomainLacks parent) (record { of = of; placed = λ child. refl }) where
    of : (x : SharpBroken) → IsUnderAll (s4 ∷ parent ∷ []) x → (child : ℕ) × (x ≡ broken.DomainLacks parent child)
    of (broken.DomainLacks p child) h = (child, λ i. broken.DomainLacks (sym h.0.1.0 i) child)
    of _ h = absurd (omega (arith, h.0.0))

  pub derive_found : (parent : ℕ) → FindsInSet (s5 ∷ parent ∷ []) (broken.DeriveLacks parent)
  derive_found parent = found_after (s5 ∷ parent ∷ []) Derive (broken.DeriveLacks parent) (record { of = of; placed = λ child. refl }) where
    of : (x : SharpBroken) → IsUnderAll (s5 ∷ parent ∷ []) x → (child : ℕ) × (x ≡ broken.DeriveLacks parent child)
    of (broken.DeriveLacks p child) h = (child, λ i. broken.DeriveLacks (sym h.0.1.0 i) child)
    of _ h = absurd (omega (arith, h.0.0))

  pub context_found : (subject : ℕ) → FindsInSet (s6 ∷ subject ∷ []) (broken.ContextLacks subject)
  context_found subject = found_after (s6 ∷ subject ∷ []) Runs (broken.ContextLacks subject) (record { of = of; placed = λ context. refl }) where
    of : (x : SharpBroken) → IsUnderAll (s6 ∷ subject ∷ []) x → (context : ℕ) × (x ≡ broken.ContextLacks subject context)
    of (broken.ContextLacks s context) h = (context, λ i. broken.ContextLacks (sym h.0.1.0 i) context)
    of _ h = absurd (omega (arith, h.0.0))

  pub reply_found : (reply : ℕ) → FindsInSet (s7 ∷ reply ∷ []) (broken.ReplyLacks reply)
  reply_found reply = found_after (s7 ∷ reply ∷ []) kinds.Holds (broken.ReplyLacks reply) (record { of = of; placed = λ thread. refl }) where
    of : (x : SharpBroken) → IsUnderAll (s7 ∷ reply ∷ []) x → (thread : ℕ) × (x ≡ broken.ReplyLacks reply thread)
    of (broken.ReplyLacks r thread) h = (thread, λ i. broken.ReplyLacks (sym h.0.1.0 i) thread)
    of _ h = absurd (omega (arith, h.0.0))

  pub lent_found : (borrower : ℕ) → FindsInSet (s8 ∷ borrower ∷ []) (broken.LentLacks borrower)
  lent_found borrower = found_after (s8 ∷ borrower ∷ []) Runs (broken.LentLacks borrower) (record { of = of; placed = λ context. refl }) where
    of : (x : SharpBroken) → IsUnderAll (s8 ∷ borrower ∷ []) x → (context : ℕ) × (x ≡ broken.LentLacks borrower context)
    of (broken.LentLacks b context) h = (context, λ i. broken.LentLacks (sym h.0.1.0 i) context)
    of _ h = absurd (omega (arith, h.0.0))

  -- the rules whose places are labels of a set for each kind: S1 to S3

  pub subject_kinds :
      (subject other : ℕ) → Searches sharp_place (IsSharplyBrokenAt test Keeps) (s1 ∷ subject ∷ other ∷ []) all_kinds of_kind
  subject_kinds subject other = kinds_search covers where
    covers : (x : SharpBroken) → IsUnderAll (s1 ∷ subject ∷ other ∷ []) x
        → (kind : Kind) × Begins (s1 ∷ subject ∷ other ∷ kind_number kind ∷ []) (sharp_place x)
    covers (broken.SubjectLacks s o kind target) h = (kind, (h.0.0, (h.0.1.0, (h.0.1.1.0, (refl, tt)))))
    covers _ h = absurd (omega (arith, h.0.0))

  pub control_kinds : (subject : ℕ) → Searches sharp_place (IsSharplyBrokenAt test Keeps) (s2 ∷ subject ∷ []) all_kinds of_kind
  control_kinds subject = kinds_search covers where
    covers : (x : SharpBroken) → IsUnderAll (s2 ∷ subject ∷ []) x
        → (kind : Kind) × Begins (s2 ∷ subject ∷ kind_number kind ∷ []) (sharp_place x)
    covers (broken.ControlLacks s kind object) h = (kind, (h.0.0, (h.0.1.0, (refl, tt))))
    covers _ h = absurd (omega (arith, h.0.0))

  pub grant_kinds : (giver taker : ℕ) → Searches sharp_place (IsSharplyBrokenAt test Keeps) (s3 ∷ giver ∷ taker ∷ []) all_kinds of_kind
  grant_kinds giver taker = kinds_search covers where
    covers : (x : SharpBroken) → IsUnderAll (s3 ∷ giver ∷ taker ∷ []) x
        → (kind : Kind) × Begins (s3 ∷ giver ∷ taker ∷ kind_number kind ∷ []) (sharp_place x)
    covers (broken.GrantLacks g t kind target) h = (kind, (h.0.0, (h.0.1.0, (h.0.1.1.0, (refl, tt)))))
    covers _ h = absurd (omega (arith, h.0.0))

  abbrev IsMadeOfLabel : List ℕ → (ℕ → SharpBroken) → Type 0
  IsMadeOfLabel beginning make = IsMade sharp_place (IsSharplyBrokenAt test Keeps) beginning make one_label

  subject_made : (subject other : ℕ) (kind : Kind)
      → IsMadeOfLabel (s1 ∷ subject ∷ other ∷ kind_number kind ∷ []) (broken.SubjectLacks subject other kind)
  subject_made subject other kind = record { of = of; placed = λ target. refl } where
    of : (x : SharpBroken) → IsUnderAll (s1 ∷ subject ∷ other ∷ kind_number kind ∷ []) x
        → (target : ℕ) × (x ≡ broken.SubjectLacks subject other kind target)
    of (broken.SubjectLacks s o k target) h =
        let same = same_kind kind k h.0.1.1.1.0 in
        (target, λ i. broken.SubjectLacks (sym h.0.1.0 i) (sym h.0.1.1.0 i) (sym same i) target)
    of _ h = absurd (omega (arith, h.0.0))

  control_made : (subject : ℕ) (kind : Kind) → IsMadeOfLabel (s2 ∷ subject ∷ kind_number kind ∷ []) (broken.ControlLacks subject kind)
  control_made subject kind = record { of = of; placed = λ object. refl } where
    of : (x : SharpBroken) → IsUnderAll (s2 ∷ subject ∷ kind_number kind ∷ []) x → (object : ℕ) × (x ≡ broken.ControlLacks subject kind object)
    of (broken.ControlLacks s k object) h =
        let same = same_kind kind k h.0.1.1.0 in
        (object, λ i. broken.ControlLacks (sym h.0.1.0 i) (sym same i) object)
    of _ h = absurd (omega (arith, h.0.0))

  grant_made : (giver taker : ℕ) (kind : Kind)
      → IsMadeOfLabel (s3 ∷ giver ∷ taker ∷ kind_number kind ∷ []) (broken.GrantLacks giver taker kind)
  grant_made giver taker kind = record { of = of; placed = λ target. refl } where
    of : (x : SharpBroken) → IsUnderAll (s3 ∷ giver ∷ taker ∷ kind_number kind ∷ []) x
        → (target : ℕ) × (x ≡ broken.GrantLacks giver taker kind target)
    of (broken.GrantLacks g t k target) h =
        let same = same_kind kind k h.0.1.1.1.0 in
        (target, λ i. broken.GrantLacks (sym h.0.1.0 i) (sym h.0.1.1.0 i) (sym same i) target)
    of _ h = absurd (omega (arith, h.0.0))

  -- the edges of use that one label has and another lacks
  abbrev pub UseLacks : ℕ → ℕ → Kind → Labels → Type 0
  UseLacks giver taker kind labels =
      (target : ℕ) → (is_in labels target ≡ true)
      ↔ ((is_structural kind ≡ false) × (test giver kind target ≡ true) × (test taker kind target ≡ false))

  -- S1, at a kind
  module _ (subject other : ℕ) (gives : IsInDomain test subject other ⊎ MayPut test Keeps other subject) (kind : Kind) (labels : Labels)
      (lacks : UseLacks other subject kind labels) where
    subject_told : AreTold (broken.SubjectLacks subject other kind) labels
    subject_told target = (
      λ e. let h = (lacks target).0 e in record { asked = uses h.0 h.1; missing = h.2 },
      λ h. (lacks target).1 (of_use h.asked, has h.asked, h.missing),
    ) where
      uses : is_structural kind ≡ false → test other kind target ≡ true → UsesSharply test Keeps subject other kind target
      uses is_use edge = elim gives [
        | inl domain ↦ rises (record { domain = domain; of_use = is_use }) edge
        | inr puts ↦ falls puts is_use edge
      ]

      of_use : UsesSharply test Keeps subject other kind target → is_structural kind ≡ false
      of_use (rises share edge) = share.of_use
      of_use (falls puts is_use edge) = is_use

      has : UsesSharply test Keeps subject other kind target → test other kind target ≡ true
      has (rises share edge) = edge
      has (falls puts is_use edge) = edge

    pub no_subject_of_kind : IsNobody labels → IsNone (IsUnderAll (s1 ∷ subject ∷ other ∷ kind_number kind ∷ []))
    no_subject_of_kind = none_of_set (subject_made subject other kind) label_decides labels subject_told

    pub subject_of_kind :
        (target : ℕ) → IsLeastIn labels target
        → IsLeast sharp_place (IsUnderAll (s1 ∷ subject ∷ other ∷ kind_number kind ∷ [])) (broken.SubjectLacks subject other kind target)
    subject_of_kind = least_of_set (subject_made subject other kind) label_decides labels subject_told

  -- S2, at a kind
  module _ (subject : ℕ) (kind : Kind) (labels : Labels) (tells : AreTold (broken.ControlLacks subject kind) labels) where
    pub no_control_of_kind : IsNobody labels → IsNone (IsUnderAll (s2 ∷ subject ∷ kind_number kind ∷ []))
    no_control_of_kind = none_of_set (control_made subject kind) label_decides labels tells

    pub control_of_kind :
        (object : ℕ) → IsLeastIn labels object
        → IsLeast sharp_place (IsUnderAll (s2 ∷ subject ∷ kind_number kind ∷ [])) (broken.ControlLacks subject kind object)
    control_of_kind = least_of_set (control_made subject kind) label_decides labels tells

  -- S3, at a kind
  module _ (giver taker : ℕ) (keeps : Keeps taker) (may : MayBeGranted test giver taker) (kind : Kind) (labels : Labels)
      (lacks : UseLacks giver taker kind labels) where
    grant_told : AreTold (broken.GrantLacks giver taker kind) labels
    grant_told target = (
      λ e.
          let h = (lacks target).0 e in
          record { asked = record { keeps = keeps; gives = record { granted = may; of_use = h.0; has = h.1 } }; missing = h.2 },
      λ h. (lacks target).1 (h.asked.gives.of_use, h.asked.gives.has, h.missing),
    )

    pub no_grant_of_kind : IsNobody labels → IsNone (IsUnderAll (s3 ∷ giver ∷ taker ∷ kind_number kind ∷ []))
    no_grant_of_kind = none_of_set (grant_made giver taker kind) label_decides labels grant_told

    pub grant_of_kind :
        (target : ℕ) → IsLeastIn labels target
        → IsLeast sharp_place (IsUnderAll (s3 ∷ giver ∷ taker ∷ kind_number kind ∷ [])) (broken.GrantLacks giver taker kind target)
    grant_of_kind = least_of_set (grant_made giver taker kind) label_decides labels grant_told
