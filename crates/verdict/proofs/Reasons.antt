-- Reasons of authority, each with a state that it takes out of a policy: the boot state of the small system lies in a policy, and one
-- change gives it authority that does not.
use Rattle.std.proofs.{Common.{◌∙◌, ◌≡◌, Some, ap, option_map, refl}, lemmas.Bool.false≢true}
use Rattle.base.specs.declared.{ids.ObjId.ObjId, kind.Kind.Kind as authority}
use Rattle.machine.specs.{declared.object.ObjectKind.ObjectKind as kind, Authority.{label_of, HasAuthority.{by_cap, by_pair, by_root}}}
use Rattle.machine.specs.{Boot.IsBoot, Layout.{declared_label, initial_of}, Machine.{Machine, object_of, with_cap, with_parent}}
use Rattle.machine.{specs.{Objects.kind_of_object, WellFormed.kind_of}, proofs.LookUps.{cap_of-with_cap, object_of-with_cap}}
use Rattle.machine.proofs.LookUps.{object_of-with_parent, parent_of-with_parent}
use Rattle.table.{specs.Rules.kind_at, proofs.{AtBoot.{boot_kind, boot_label}, BootState.{boot_state, boot_state_is}}}
use Rattle.integrity.{specs.Confined.IsConfined, proofs.ObjectLabels.same_label}
use Rattle.verdict.proofs.{SmallSystem.{id, signal_cap, signalling, slot, space_cap}, FewLabels.among, Unsafe.{parted, confined}}

abbrev pub m : Machine
m = boot_state signalling

boot : IsBoot signalling m
boot = boot_state_is signalling

pub within : IsConfined signalling parted m
within = confined m boot

pub node_kind : kind_of m (id 0) ≡ Some kind.CNode
unfolding signalling initial_of kind_at
node_kind = boot_kind signalling m boot (id 0)

pub thread_kind : kind_of m (id 1) ≡ Some kind.Tcb
unfolding signalling initial_of kind_at
thread_kind = boot_kind signalling m boot (id 1)

-- an object that stays has its label
pub label_there : (n : Machine) (q : ObjId) → object_of n q ≡ object_of m q → label_of signalling n q ≡ declared_label signalling q
label_there n q same = same_label signalling m n q same ∙ boot_label signalling m boot q

-- with one change the state isn't confined

pub capability_counts : ¬ IsConfined signalling parted (with_cap m (slot 0 1) space_cap)
unfolding among declared_label initial_of signalling
capability_counts all =
    let n : Machine = with_cap m (slot 0 1) space_cap in
    let there = object_of-with_cap m (slot 0 1) space_cap in
    let held = cap_of-with_cap m (slot 0 1) space_cap (slot 0 1) in
    let is_node = ap (option_map kind_of_object) (there (id 0)) ∙ node_kind in
    let label = label_there n (id 0) (there (id 0)) in
    false≢true (all 1 authority.Control 1 (by_cap (slot 0 1) space_cap held is_node refl label label))

pub root_counts : ¬ IsConfined signalling parted (with_cap m (slot 1 0) signal_cap)
unfolding among declared_label initial_of signalling
root_counts all =
    let n : Machine = with_cap m (slot 1 0) signal_cap in
    let there = object_of-with_cap m (slot 1 0) signal_cap in
    let held = cap_of-with_cap m (slot 1 0) signal_cap (slot 1 0) in
    let is_thread = ap (option_map kind_of_object) (there (id 1)) ∙ thread_kind in
    let source = label_there n (id 1) (there (id 1)) in
    let target = label_there n (id 2) (there (id 2)) in
    false≢true (all 0 authority.Space 2 (by_root (slot 1 0) signal_cap held is_thread source target))

pub pair_counts : ¬ IsConfined signalling parted (with_parent m (slot 0 0) (slot 1 0))
unfolding among declared_label initial_of signalling
pair_counts all =
    let n : Machine = with_parent m (slot 0 0) (slot 1 0) in
    let there = object_of-with_parent m (slot 0 0) (slot 1 0) in
    let derived = parent_of-with_parent m (slot 0 0) (slot 1 0) (slot 0 0) in
    let source = label_there n (id 1) (there (id 1)) in
    let target = label_there n (id 0) (there (id 0)) in
    false≢true (all 0 authority.Derive 1 (by_pair (slot 0 0) (slot 1 0) derived source target))
