-- Labels of CNodes that hold capabilities for CNodes at boot: they are those that the filled slots give, one after another.
use Rattle.std.{specs.Option.option_and_then, proofs.Common.{ℕ, ◌+◌, ◌==◌, ◌||◌, ◌↔◌, ◌∙◌, ◌≡◌, ◌≤◌, Bool, None, Option, Some, ap}}
use Rattle.std.proofs.{Common.{arith, cond, false, length, refl, slice_get, sym, true}, lemmas.Bool.{eq-eqb, eqb-true, false≢true}}
use Rattle.{std.proofs.lemmas.Option.{none-some, same_Some, slice_get_within}, base.specs.declared.ids.SlotRef.SlotRef}
use Rattle.machine.specs.declared.{cap.{Cap.Cap, Detail.{Detail, Detail as d}}, layout.{Filled.Filled, Initial.Initial}}
use Rattle.machine.specs.declared.object.{Object.{Object, Object as o}, ObjectKind.ObjectKind as kind}
use Rattle.machine.specs.{Capabilities.kind_of_detail, Layout.{Layout, initial_cap, initial_of}, Objects.kind_of_object}
use Rattle.{table.proofs.Lookups.filled_at, policy.proofs.Stepping.{IsBelow, more_below, none_more}}
use Rattle.{integrity.specs.Keeping.HoldsNode, reach.specs.Boot.{is_node, is_node_cap, is_node_detail, node_holder}}

-- what it is to be a CNode, and to be for one

node_detail : (detail : Detail) → is_node_detail detail ≡ true → kind_of_detail detail ≡ kind.CNode
node_detail (d.CNode guard) is = refl
node_detail _ is = absurd (false≢true is)

detail_node : (detail : Detail) → kind_of_detail detail ≡ kind.CNode → is_node_detail detail ≡ true
detail_node (d.CNode guard) is = refl
detail_node _ is = cc

node_object : (object : Object) → is_node object ≡ true → kind_of_object object ≡ kind.CNode
node_object (o.CNode node) is = refl
node_object _ is = absurd (false≢true is)

object_node : (object : Object) → kind_of_object object ≡ kind.CNode → is_node object ≡ true
object_node (o.CNode node) is = refl
object_node _ is = cc

-- the label that a slot gives holds a CNode's capability
told_holds : (t : Layout) (slot : SlotRef) (a : ℕ) → node_holder t slot ≡ Some a → HoldsNode t a
told_holds t slot a is = by_cap (initial_cap t slot) refl is where
  at_holder :
      (held : Cap) (holder : Initial) (node : Bool) → initial_cap t slot ≡ Some held → is_node_cap held ≡ true
      → initial_of t slot.holder ≡ Some holder → is_node holder.object ≡ node
      → cond node (Some holder.label) None ≡ Some a → HoldsNode t a
  at_holder held holder true filled for_node declares in_node is = record {
    slot = slot;
    held = held;
    filled = filled;
    for_node = node_detail held.detail for_node;
    holder = holder;
    declares = declares;
    in_node = node_object holder.object in_node;
    labelled = same_Some holder.label a is;
  }
  at_holder held holder false filled for_node declares in_node is = absurd (none-some a is)

  by_holder :
      (held : Cap) (found : Option Initial) → initial_cap t slot ≡ Some held → is_node_cap held ≡ true
      → initial_of t slot.holder ≡ found
      → option_and_then (λ (holder : Initial). cond (is_node holder.object) (Some holder.label) None) found ≡ Some a → HoldsNode t a
  by_holder held None filled for_node declares is = absurd (none-some a is)
  by_holder held (Some holder) filled for_node declares is =
      at_holder held holder (is_node holder.object) filled for_node declares refl is

  by_test :
      (held : Cap) (for_node : Bool) → initial_cap t slot ≡ Some held → is_node_cap held ≡ for_node
      → cond for_node
      (option_and_then (λ (holder : Initial). cond (is_node holder.object) (Some holder.label) None) (initial_of t slot.holder)) None
      ≡ Some a → HoldsNode t a
  by_test held true filled for_node is = by_holder held (initial_of t slot.holder) filled for_node refl is
  by_test held false filled for_node is = absurd (none-some a is)

  by_cap :
      (found : Option Cap) → initial_cap t slot ≡ found
      → option_and_then
      (λ (held : Cap).
      cond (is_node_cap held)
      (option_and_then (λ (holder : Initial). cond (is_node holder.object) (Some holder.label) None) (initial_of t slot.holder)) None)
      found ≡ Some a → HoldsNode t a
  by_cap None filled is = absurd (none-some a is)
  by_cap (Some held) filled is = by_test held (is_node_cap held) filled refl is

-- such a slot gives the label of its holder
holds_told : (t : Layout) (a : ℕ) → (holds : HoldsNode t a) → node_holder t holds.slot ≡ Some a
holds_told t a holds =
    rw (holds.filled, detail_node holds.held.detail holds.for_node, holds.declares, object_node holds.holder.object holds.in_node)
    (ap Some holds.labelled)

-- the filled slot at this place is of a CNode of this label, and holds a capability for a CNode
pub record HoldsAt (t : Layout) (a k : ℕ) : Type 0 where
  pub filled : Filled
  pub here : slice_get t.caps k ≡ Some filled
  pub told : node_holder t filled.slot ≡ Some a

-- one more slot
module _ (t : Layout) (a n : ℕ) (filled : Filled) (here : slice_get t.caps n ≡ Some filled) where
  told_here : HoldsAt t a n → node_holder t filled.slot ≡ Some a
  told_here has = ap (λ (f : Filled). node_holder t f.slot) (same_Some filled has.filled (sym here ∙ has.here)) ∙ has.told

  pub one_holds :
      (label : ℕ) (before : Bool) → node_holder t filled.slot ≡ Some label → (before ≡ true) ↔ IsBelow (HoldsAt t a) n
      → ((before || (a == label)) ≡ true) ↔ IsBelow (HoldsAt t a) (n + 1)
  one_holds label before is so_far =
      more_below n before (a == label) so_far
      (λ same. record { filled = filled; here = here; told = is ∙ ap Some (sym (eqb-true a label same)) })
      (λ has. eq-eqb a label (same_Some a label (sym (told_here has) ∙ is)))

  pub none_holds :
      (before : Bool) → node_holder t filled.slot ≡ None → (before ≡ true) ↔ IsBelow (HoldsAt t a) n
      → (before ≡ true) ↔ IsBelow (HoldsAt t a) (n + 1)
  none_holds before is so_far = none_more n before so_far (λ has. none-some a (sym is ∙ told_here has))

-- all slots
pub holds_from : (t : Layout) (a n : ℕ) → IsBelow (HoldsAt t a) n → HoldsNode t a
holds_from t a n below = told_holds t below.2.filled.slot a below.2.told

pub holds_below : (t : Layout) (a n : ℕ) → length t.caps ≤ n → HoldsNode t a → IsBelow (HoldsAt t a) n
holds_below t a n all holds =
    let at = filled_at t holds.slot holds.held holds.filled in (
      at.at,
      omega (arith, slice_get_within t.caps at.at at.element at.here, all),
      record {
        filled = at.element;
        here = at.here;
        told = ap (node_holder t) at.key_is ∙ holds_told t a holds;
      },
    )
