-- Confinement of a lawful table's boot state, line by line: it is confined if all that each line gives is in the policy.
use Rattle.std.{specs.{List.list_all, Prelude.slice_get}, proofs.Common.{ℕ, ◌&&◌, ◌||◌, ◌∙◌, ◌≡◌, Bool, List}}
use Rattle.std.proofs.{Common.{Option, Some, ap, false, not, subst, sym, true}, lemmas.Bool.{and_parts, false≢true}}
use Rattle.std.proofs.lemmas.{List.Sums.AllPass-from_list_all, Option.{get_or_from_slice_get, slice_get_within}}
use Rattle.base.specs.declared.{ids.{ObjId.ObjId, SlotRef.SlotRef}, kind.Kind.{Kind, TheVariants.{Derive, Runs, Space}}}
use Rattle.machine.specs.declared.{cap.{Cap.Cap, Detail.Detail}, layout.{Binding.Binding, Filled.Filled, Pair.Pair}}
use Rattle.machine.specs.{declared.object.ObjectKind.{ObjectKind, ObjectKind as kind}, Boot.IsBoot}
use Rattle.machine.specs.{Capabilities.gives, Layout.{Layout, declared_label, initial_cap}, Machine.Machine}
use Rattle.table.{specs.Rules.{IsLawful, kind_at}, proofs.Lookups.{bound_at, filled_at, parent_at}}
use Rattle.{policy.{specs.Domain.EdgeTest, proofs.KindNumbers.{all_kinds, each_kind}}, integrity.specs.Confined.IsConfined}
use Rattle.verdict.specs.{Rules.{Exceeds, Excess, binding, capability, holding, pair, recorded, root}, Sources.of_table}
use Rattle.verdict.proofs.{BindingPlaces.declared_bound, BootPlaces.exceeds_same, Outsides.confined_within}

-- whether there is an edge between two labels
abbrev joins : EdgeTest → Option ℕ → Kind → Option ℕ → Bool
joins allowed (Some from) k (Some to) = allowed from k to
joins allowed _ k _ = false

-- whether a slot of an object of this kind gives an edge: a CNode's all that the capability gives, and a thread's its space
abbrev claims : Option ObjectKind → Detail → Kind → Bool
claims (Some kind.CNode) detail k = gives detail k
claims (Some kind.Tcb) detail Space = true
claims _ detail k = false

module _ (t : Layout) (allowed : EdgeTest) where
  abbrev has : ObjId → Kind → ObjId → Bool
  has one k other = joins allowed (declared_label t one) k (declared_label t other)

  abbrev cap_within : Filled → Bool
  cap_within line =
      list_all (λ k. not (claims (kind_at t line.slot.holder) line.cap.detail k) || has line.slot.holder k line.cap.object) all_kinds

  -- whether each line lies within the policy
  unfoldable pub is_within : Bool
  is_within =
      list_all cap_within t.caps && (list_all (λ line. has line.parent.holder Derive line.child.holder) t.pairs
      && list_all (λ line. has line.thread Runs line.context) t.bindings)

  -- a line passes that is there
  passes_at : {X : Type 0} (p : X → Bool) (xs : List X) (k : ℕ) (x : X) → list_all p xs ≡ true → slice_get xs k ≡ Some x → p x ≡ true
  passes_at p xs k x all at =
      subst (λ y. p y ≡ true) (get_or_from_slice_get xs k x x at) (AllPass-from_list_all p xs all k x (slice_get_within xs k x at))

  -- so no edge that it gives is missing
  none_missing :
      (one other : ObjId) (k : Kind) (from to : ℕ) → has one k other ≡ true → declared_label t one ≡ Some from
      → declared_label t other ≡ Some to → allowed from k to ≡ false → ⊥
  none_missing one other k from to e source target missing =
      let edge =
      ap (λ x. joins allowed x k (declared_label t other)) source ∙ ap (λ x. joins allowed (Some from) k x) target in
      false≢true (sym missing ∙ sym edge ∙ e)

  claimed : (claim there : Bool) → (not claim || there) ≡ true → claim ≡ true → there ≡ true
  claimed true there e is = e
  claimed false there e is = absurd (false≢true is)

  module _ (e : is_within ≡ true) where
    filled_has :
        (slot : SlotRef) (held : Cap) (k : Kind) → initial_cap t slot ≡ Some held
        → claims (kind_at t slot.holder) held.detail k ≡ true → has slot.holder k held.object ≡ true
    unfolding is_within
    filled_has slot held k filled claim =
        let at = filled_at t slot held filled in
        let line : Filled = record { slot = slot; cap = held } in
        let same : at.element ≡ line = λ i. record { slot = at.key_is i; cap = at.value_is i } in
        let passes = subst (λ x. cap_within x ≡ true) same (passes_at cap_within t.caps at.at at.element (and_parts _ _ e).0 at.here) in
        claimed _ _
        (each_kind (λ k. not (claims (kind_at t slot.holder) held.detail k) || has slot.holder k held.object) passes k) claim

    none_outside : (place : Excess) → Exceeds (of_table t) allowed place → ⊥
    unfolding is_within
    none_outside (capability slot k label) out =
        none_missing slot.holder out.there.0.object k out.from out.to
        (filled_has slot out.there.0 k out.there.1 (ap (λ x. claims x out.there.0.detail k) out.there.2 ∙ out.there.4)) out.source
        (out.there.3 ∙ out.target) out.missing
    none_outside (root slot label) out =
        none_missing slot.holder out.there.0.object Space out.from out.to
        (filled_has slot out.there.0 Space out.there.1 (ap (λ x. claims x out.there.0.detail Space) out.there.2)) out.source
        (out.there.3 ∙ out.target) out.missing
    none_outside (pair child parent) out =
        let at = parent_at t child parent out.there in
        let passes = passes_at (λ (line : Pair). has line.parent.holder Derive line.child.holder) t.pairs at.at at.element (and_parts _ _ (and_parts _ _ e).1).0 at.here in
        none_missing parent.holder child.holder Derive out.from out.to
        (subst (λ (x : SlotRef). has parent.holder Derive x.holder ≡ true) at.key_is
        (subst (λ (x : SlotRef). has x.holder Derive at.element.child.holder ≡ true) at.value_is passes)) out.source out.target out.missing
    none_outside (binding thread context) out =
        let at = bound_at t thread context (declared_bound t thread context out.there) in
        let passes = passes_at (λ (line : Binding). has line.thread Runs line.context) t.bindings at.at at.element (and_parts _ _ (and_parts _ _ e).1).1 at.here in
        none_missing thread context Runs out.from out.to
        (subst (λ x. has thread Runs x ≡ true) at.value_is (subst (λ x. has x Runs at.element.context ≡ true) at.key_is passes))
        out.source out.target out.missing
    none_outside (holding reply thread) out = false≢true out.there
    none_outside (recorded thread k label) out = false≢true out.there.1

  pub confined_by_lines : is_within ≡ true → IsLawful t → (m : Machine) → IsBoot t m → IsConfined t allowed m
  confined_by_lines e lawful m boot =
      confined_within t allowed m (λ place out. none_outside e place ((exceeds_same t m lawful boot allowed place).1 out))
