-- That there is one verdict by a set of rules: no two denials by the set have the same place, so only one is first.
use Rattle.std.specs.{declared.cmp.Ordering.{Ordering, TheVariants.{Equal, Greater, Less}}, Cmp.Lexicographic.slice_cmp}
use Rattle.std.specs.{FinMap.{nat_cmp-IsAntisymmetric, slice_cmp-IsAntisymmetric}, Ordering.{nat_cmp, ordering_reverse}}
use Rattle.std.proofs.Common.{ℕ, ◌∙◌, ◌≡◌, Err, List, Ok, Result, Some, ap, arith, get_or}
use Rattle.std.proofs.{Common.{inl, inr, refl, sym}, lemmas.Cmp.nat_list_cmp_total}
use Rattle.{base.specs.declared.{edge.Edge.Edge, ids.{ObjId.ObjId, SlotRef.SlotRef}}, machine.specs.Layout.Layout}
use Rattle.policy.specs.{declared.broken.Broken.{Broken, Broken as broken}, Broken.broken_place}
use Rattle.policy.{specs.{Domain.EdgeTest, Places.IsLeast, Policy.allows}, proofs.KindNumbers.same_kind}
use Rattle.sharp.specs.{declared.broken.SharpBroken.{SharpBroken, SharpBroken as sharp}, Broken.sharp_place}
use Rattle.verdict.specs.{declared.{denial.Denial.{Denial, Denial as denial}, rules.Rules.{Rules, Rules as rules}}, ByRules.BreaksBy}
use Rattle.verdict.specs.{ByRules.{BreaksOwn, IsLeastBrokenBy, IsVerdictBy}, Rules.{Excess, binding, capability, excess_place, holding}}
use Rattle.verdict.specs.{Rules.{pair, recorded, root}, Sources.of_table, System.{IsVerdict, System}, Verdict.{excess_of, place_of}}
use Rattle.verdict.proofs.{DenialPlaces.{denial_at, denial_is, exceeded_at, numbered}, RuleSets.{broken_either, own_below}}

-- two least elements are equal if no two elements of the property have the same place
pub one_least :
    {X : Type 0} (place : X → List ℕ) (P : X → Type 0) → ((x y : X) → P x → P y → place x ≡ place y → x ≡ y) → (x y : X)
    → IsLeast place P x → IsLeast place P y → x ≡ y
one_least place P one x y least other = by (slice_cmp nat_cmp (place x) (place y)) refl where
  by : (order : Ordering) → slice_cmp nat_cmp (place x) (place y) ≡ order → x ≡ y
  by Less is = absurd (other.first x least.has is)
  by Equal is = one x y least.has other.has (slice_cmp-IsAntisymmetric nat_cmp-IsAntisymmetric (place x) (place y) is)
  by Greater is =
      absurd (least.first y other.has (nat_list_cmp_total.antisymm (place y) (place x) ∙ ap ordering_reverse is))

pub same_slot : (a b : SlotRef) → a.holder.0 ≡ b.holder.0 → a.index ≡ b.index → a ≡ b
same_slot a b holder index = λ i. record { holder = record { 0 = holder i }; index = index i }

pub same_id : (a b : ObjId) → a.0 ≡ b.0 → a ≡ b
same_id a b same = λ i. record { 0 = same i }

abbrev number : ℕ → List ℕ → ℕ
number n place = get_or place n 0

same_broken : (b c : Broken) → broken_place b ≡ broken_place c → b ≡ c
same_broken (broken.SubjectsDisagree _ _ kind _) (broken.SubjectsDisagree _ _ kind' _) same =
    λ i. broken.SubjectsDisagree (ap (number 1) same i) (ap (number 2) same i) (same_kind kind kind' (ap (number 3) same) i)
    (ap (number 4) same i)
same_broken (broken.ControlLacks _ kind _) (broken.ControlLacks _ kind' _) same =
    λ i. broken.ControlLacks (ap (number 1) same i) (same_kind kind kind' (ap (number 2) same) i) (ap (number 3) same i)
same_broken (broken.GrantLacks _ _ kind _) (broken.GrantLacks _ _ kind' _) same =
    λ i. broken.GrantLacks (ap (number 1) same i) (ap (number 2) same i) (same_kind kind kind' (ap (number 3) same) i)
    (ap (number 4) same i)
same_broken (broken.DomainLacks _ _) (broken.DomainLacks _ _) same =
    λ i. broken.DomainLacks (ap (number 1) same i) (ap (number 3) same i)
same_broken (broken.DeriveLacks _ _) (broken.DeriveLacks _ _) same =
    λ i. broken.DeriveLacks (ap (number 1) same i) (ap (number 3) same i)
same_broken (broken.ContextLacks _ _) (broken.ContextLacks _ _) same =
    λ i. broken.ContextLacks (ap (number 1) same i) (ap (number 3) same i)
same_broken (broken.ReplyLacks _ _) (broken.ReplyLacks _ _) same =
    λ i. broken.ReplyLacks (ap (number 1) same i) (ap (number 3) same i)
same_broken (broken.LentLacks _ _) (broken.LentLacks _ _) same =
    λ i. broken.LentLacks (ap (number 1) same i) (ap (number 3) same i)
same_broken _ _ same = absurd (let rule = ap (number 0) same in omega (arith, rule))

same_sharp : (b c : SharpBroken) → sharp_place b ≡ sharp_place c → b ≡ c
same_sharp (sharp.SubjectLacks _ _ kind _) (sharp.SubjectLacks _ _ kind' _) same =
    λ i. sharp.SubjectLacks (ap (number 1) same i) (ap (number 2) same i) (same_kind kind kind' (ap (number 3) same) i)
    (ap (number 4) same i)
same_sharp (sharp.ControlLacks _ kind _) (sharp.ControlLacks _ kind' _) same =
    λ i. sharp.ControlLacks (ap (number 1) same i) (same_kind kind kind' (ap (number 2) same) i) (ap (number 3) same i)
same_sharp (sharp.GrantLacks _ _ kind _) (sharp.GrantLacks _ _ kind' _) same =
    λ i. sharp.GrantLacks (ap (number 1) same i) (ap (number 2) same i) (same_kind kind kind' (ap (number 3) same) i)
    (ap (number 4) same i)
same_sharp (sharp.DomainLacks _ _) (sharp.DomainLacks _ _) same =
    λ i. sharp.DomainLacks (ap (number 1) same i) (ap (number 3) same i)
same_sharp (sharp.DeriveLacks _ _) (sharp.DeriveLacks _ _) same =
    λ i. sharp.DeriveLacks (ap (number 1) same i) (ap (number 3) same i)
same_sharp (sharp.ContextLacks _ _) (sharp.ContextLacks _ _) same =
    λ i. sharp.ContextLacks (ap (number 1) same i) (ap (number 3) same i)
same_sharp (sharp.ReplyLacks _ _) (sharp.ReplyLacks _ _) same =
    λ i. sharp.ReplyLacks (ap (number 1) same i) (ap (number 3) same i)
same_sharp (sharp.LentLacks _ _) (sharp.LentLacks _ _) same =
    λ i. sharp.LentLacks (ap (number 1) same i) (ap (number 3) same i)
same_sharp _ _ same = absurd (let rule = ap (number 0) same in omega (arith, rule))

same_excess : (one other : Excess) → excess_place one ≡ excess_place other → one ≡ other
same_excess (capability slot kind _) (capability slot' kind' _) same =
    λ i. capability (same_slot slot slot' (ap (number 1) same) (ap (number 2) same) i) (same_kind kind kind' (ap (number 3) same) i)
    (ap (number 4) same i)
same_excess (root slot _) (root slot' _) same =
    λ i. root (same_slot slot slot' (ap (number 1) same) (ap (number 2) same) i) (ap (number 3) same i)
same_excess (pair child parent) (pair child' parent') same =
    λ i. pair (same_slot child child' (ap (number 1) same) (ap (number 2) same) i)
    (same_slot parent parent' (ap (number 3) same) (ap (number 4) same) i)
same_excess (binding thread context) (binding thread' context') same =
    λ i. binding (same_id thread thread' (ap (number 1) same) i) (same_id context context' (ap (number 2) same) i)
same_excess (holding reply thread) (holding reply' thread') same =
    λ i. holding (same_id reply reply' (ap (number 1) same) i) (same_id thread thread' (ap (number 2) same) i)
same_excess (recorded thread kind _) (recorded thread' kind' _) same =
    λ i. recorded (same_id thread thread' (ap (number 1) same) i) (same_kind kind kind' (ap (number 2) same) i) (ap (number 3) same i)
same_excess _ _ same = absurd (let rule = ap (number 0) same in omega (arith, rule))

pub same_outside :
    (d e : Denial) (one other : Excess) → excess_of d ≡ Some one → excess_of e ≡ Some other → place_of d ≡ place_of e → d ≡ e
same_outside d e one other is also same =
    denial_is d one is
    ∙ ap (λ p. (denial_at p).0) (same_excess one other (sym (numbered d one is) ∙ same ∙ numbered e other also))
    ∙ sym (denial_is e other also)

same_own :
    (set : Rules) (t : Layout) (allowed : EdgeTest) (d e : Denial) → BreaksOwn set t allowed d → BreaksOwn set t allowed e
    → place_of d ≡ place_of e → d ≡ e
same_own rules.Closed t allowed (denial.Policy b) (denial.Policy c) one other same = ap denial.Policy (same_broken b c same)
same_own rules.Closed t allowed (denial.Policy b) e one other same = absurd other
same_own rules.Closed t allowed d e one other same = absurd one
same_own rules.Sharp t allowed (denial.Sharp b) (denial.Sharp c) one other same = ap denial.Sharp (same_sharp b c same)
same_own rules.Sharp t allowed (denial.Sharp b) e one other same = absurd other
same_own rules.Sharp t allowed d e one other same = absurd one

-- no two denials by one set of rules have the same place
pub same_place :
    (set : Rules) (t : Layout) (allowed : EdgeTest) (d e : Denial) → BreaksBy set t allowed d → BreaksBy set t allowed e
    → place_of d ≡ place_of e → d ≡ e
same_place set t allowed d e broken also same = elim (broken_either set t allowed d broken) [
  | inl one ↦ elim (broken_either set t allowed e also) [
    | inl other ↦ same_own set t allowed d e one other same
    | inr other ↦ absurd (let lt = own_below set t allowed d e one other in let rule = ap (number 0) same in omega (arith, lt, rule))
  ]
  | inr one ↦ elim (broken_either set t allowed e also) [
    | inl other ↦ absurd (let lt = own_below set t allowed e d other one in let rule = ap (number 0) same in omega (arith, lt, rule))
    | inr other ↦
        let at = exceeded_at (of_table t) allowed d one in
        let that = exceeded_at (of_table t) allowed e other in
        same_outside d e at.0 that.0 at.1 that.1 same
  ]
]

pub one_denial :
    (set : Rules) (t : Layout) (allowed : EdgeTest) (d e : Denial) → IsLeastBrokenBy set t allowed d → IsLeastBrokenBy set t allowed e
    → d ≡ e
one_denial set t allowed d e least other = one_least place_of (BreaksBy set t allowed) (same_place set t allowed) d e least other

pub one_verdict :
    (t : Layout) (edges : List Edge) (verdict other : Result System Denial) → IsVerdict t edges verdict
    → IsVerdict t edges other → verdict ≡ other
one_verdict t edges (Ok accepted) (Ok again) is same = ap Ok (is.0 ∙ sym same.0)
one_verdict t edges (Ok accepted) (Err d) is least = absurd (is.1 d least.has)
one_verdict t edges (Err d) (Ok accepted) least is = absurd (is.1 d least.has)
one_verdict t edges (Err d) (Err e) least other =
    ap Err (one_denial rules.Closed t (allows edges) d e least other)

pub one_verdict_by :
    (set : Rules) (t : Layout) (edges : List Edge) (verdict other : Result (Unit {0}) Denial) → IsVerdictBy set t edges verdict
    → IsVerdictBy set t edges other → verdict ≡ other
one_verdict_by set t edges (Ok accepted) (Ok again) is same = refl
one_verdict_by set t edges (Ok accepted) (Err d) is least = absurd (is d least.has)
one_verdict_by set t edges (Err d) (Ok accepted) least is = absurd (is d least.has)
one_verdict_by set t edges (Err d) (Err e) least other = ap Err (one_denial set t (allows edges) d e least other)
