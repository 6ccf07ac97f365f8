-- The effect of a copy, mint or move that isn't refused: the slots that it found, and what changed.
use Rattle.std.{specs.{FinMap.get-remove, Prelude.{Err, None, Ok, Option, Result, Some, cond, if◌then◌else◌}}, proofs.Common.{[], ℕ, ◌∙◌}}
use Rattle.std.proofs.Common.{◌∷◌, ◌≡◌, ◌≢◌, Bool, List, ap, arith, false, length, refl, subst, sym, true}
use Rattle.base.specs.declared.{ids.{ObjId.ObjId, SlotRef.SlotRef}, refusal.LookupFailure.LookupFailure, rights.Rights.Rights}
use Rattle.machine.specs.declared.{call.{CapData.CapData, Made.Made}, cap.{Cap.Cap, Detail.Detail}, slot_address.Ends.Ends}
use Rattle.machine.specs.{declared.slot_address.SlotAddress.SlotAddress, Bits.bits, Capabilities.kind_of_detail, Lookup.{Level, counted}}
use Rattle.machine.specs.{Lookup.{level_at, lookup_of, walk}, Machine.{Machine, cap_of, object_of, parent_of, queue_of, same_slot}}
use Rattle.machine.specs.{Machine.{with_cap, with_parent, without_cap, words_of}, Narrower.IsNarrower, Step.Copy.{copy_of, copyable}}
use Rattle.machine.specs.Step.{Copy.masked, Find.find, Mint.{mint_of, minted}, Move.move_of, Target.{ends_of, exactly, filled}}
use Rattle.machine.specs.{Step.Target.{in_depth, lookup_target_of, rooted, source_of, target_of, vacant}, Tree.copied}
use Rattle.machine.specs.{Tree.{parent_of_copy, under, with_copy, with_exchanged, with_moved}, WellFormed.IsWellFormed}
use Rattle.machine.proofs.{Exchange.parent_of-with_exchanged, LookUps.{cap_of-with_cap, cap_of-with_parent, one_slot, parent_of-with_cap}}
use Rattle.machine.proofs.{LookUps.{parent_of-with_parent, slot_total}, SlotChanges.{Fills, Moves}}
use Rattle.machine.specs.declared.object.ObjectKind.TheVariants as kind
use Rattle.steps.proofs.{Conditions.{both_done, same_ok}, Copies.{is_copyable, masked_narrower, minted_narrower}, Finding.finds}

-- a slot address leads to a slot: an ordinary lookup finds a CNode's capability, and a target lookup goes on from there
pub record LeadsTo (m : Machine) (caller : ObjId) (address : SlotAddress) (slot : SlotRef) : Type 0 where
  pub at : SlotRef
  pub left : ℕ
  pub found : lookup_of m caller address.root ≡ Ok (at, left)
  pub level : Level
  pub shows : level_at m at ≡ Some level
  pub ends : walk 65 m level (bits address.depth address.index) ≡ Ok (slot, [])

-- a call found an empty slot and a filled one
pub record FindsEnds (m : Machine) (caller : ObjId) (to from : SlotAddress) (target source : SlotRef) (held : Cap) : Type 0 where
  pub leads_to : LeadsTo m caller to target
  pub vacant : cap_of m target ≡ None
  pub leads_from : LeadsTo m caller from source
  pub filled : cap_of m source ≡ Some held

-- a copy or a mint was made
pub record Derives (m : Machine) (caller : ObjId) (to from : SlotAddress) (next : Machine) : Type 0 where
  pub target : SlotRef
  pub source : SlotRef
  pub held : Cap
  pub detail : Detail
  pub finds : FindsEnds m caller to from target source held
  -- the copy is of the same kind, isn't for untyped memory, and has no right that the source lacks
  pub narrower : IsNarrower detail held.detail
  pub copyable : kind_of_detail held.detail ≢ kind.Untyped
  pub changes : Fills m target (copied held detail) (parent_of_copy m source held) next

-- a move was made
pub record MoveDone (m : Machine) (caller : ObjId) (to from : SlotAddress) (next : Machine) : Type 0 where
  pub target : SlotRef
  pub source : SlotRef
  pub held : Cap
  pub finds : FindsEnds m caller to from target source held
  pub changes : Moves m source target held next

-- a target lookup is made

has_root : (at : Option Level) (level : Level) → rooted at ≡ Ok level → at ≡ Some level
has_root None level e = cc
has_root (Some other) level e = ap (λ l. Some l) (same_ok e)

used_up :
    (walked : Result (SlotRef × List Bool) LookupFailure) (place : SlotRef × ℕ) (slot : SlotRef) → counted walked ≡ Ok place
    → exactly place ≡ Ok slot → walked ≡ Ok (slot, [])
used_up (Err failure) place slot e f = cc
used_up (Ok (end, [])) place slot e f =
    let same : (end, 0) ≡ place = same_ok e in
    let last : end ≡ slot = same_ok (ap exactly same ∙ f) in
    ap (λ (s : SlotRef). Ok (s, [])) last
used_up (Ok (end, b ∷ bs)) place slot e f =
    let same : (end, length (b ∷ bs)) ≡ place = same_ok e in
    let late : exactly (end, length (b ∷ bs)) ≡ Ok slot = ap exactly same ∙ f in
    grind (arith, late)

leads :
    (m : Machine) (caller : ObjId) (address : SlotAddress) (at : SlotRef) (left : ℕ) (slot : SlotRef)
    → lookup_of m caller address.root ≡ Ok (at, left) → lookup_target_of m at address.index address.depth ≡ Ok slot
    → LeadsTo m caller address slot
unfolding lookup_target_of
leads m caller address at left slot found e =
    let level = both_done (rooted (level_at m at)) _ slot e in
    let depth = both_done (in_depth address.depth) _ slot level.2 in
    let walked = both_done (counted (walk 65 m level.0 (bits address.depth address.index))) exactly slot depth.2 in
    record {
      at = at;
      left = left;
      found = found;
      level = level.0;
      shows = has_root (level_at m at) level.0 level.1;
      ends = used_up (walk 65 m level.0 (bits address.depth address.index)) walked.0 slot walked.1 walked.2;
    }

pub target_leads :
    (m : Machine) (caller : ObjId) (address : SlotAddress) (slot : SlotRef) → target_of m caller address ≡ Ok slot
    → LeadsTo m caller address slot
unfolding target_of
target_leads m caller address slot e =
    let found = both_done (find kind.CNode m caller address.root) _ slot e in
    let there = (finds kind.CNode m caller address.root found.0 found.1).finds in
    leads m caller address (found.0).0 there.left slot there.ends found.2

pub is_vacant : (filling : Option Cap) (u : Unit {0}) → vacant filling ≡ Ok u → filling ≡ None
is_vacant None u e = refl
is_vacant (Some held) u e = cc

is_filled : (filling : Option Cap) (held : Cap) → filled filling ≡ Ok held → filling ≡ Some held
is_filled None held e = cc
is_filled (Some other) held e = ap (λ c. Some c) (same_ok e)

-- a slot address leads to a slot that holds this capability
source_leads :
    (m : Machine) (caller : ObjId) (address : SlotAddress) (slot : SlotRef) (held : Cap)
    → source_of m caller address ≡ Ok (slot, held) → LeadsTo m caller address slot × (cap_of m slot ≡ Some held)
unfolding source_of
source_leads m caller address slot held e =
    let place = both_done (lookup_of m caller address.root) _ (slot, held) e in
    let found = both_done (lookup_target_of m (place.0).0 address.index address.depth) _ (slot, held) place.2 in
    let full = both_done (filled (cap_of m found.0)) _ (slot, held) found.2 in
    let same : (found.0, full.0) ≡ (slot, held) = same_ok full.2 in
    let at : found.0 ≡ slot = ap (λ p. p.0) same in
    let one : full.0 ≡ held = ap (λ p. p.1) same in (
      leads m caller address (place.0).0 (place.0).1 slot place.1 (found.1 ∙ ap (λ (s : SlotRef). Ok s) at),
      ap (cap_of m) (sym at) ∙ is_filled (cap_of m found.0) full.0 full.1 ∙ ap (λ c. Some c) one,
    )

pub ends_found :
    (m : Machine) (caller : ObjId) (to from : SlotAddress) (ends : Ends) → ends_of m caller to from ≡ Ok ends
    → FindsEnds m caller to from ends.target ends.source ends.held
unfolding ends_of
ends_found m caller to from ends e =
    let target = both_done (target_of m caller to) _ ends e in
    let empty = both_done (vacant (cap_of m target.0)) _ ends target.2 in
    let source = both_done (source_of m caller from) _ ends empty.2 in
    let from_there = source_leads m caller from (source.0).0 (source.0).1 source.1 in
    subst (λ (found : Ends). FindsEnds m caller to from found.target found.source found.held) (same_ok source.2)
    (record {
      leads_to = target_leads m caller to target.0 target.1;
      vacant = is_vacant (cap_of m target.0) empty.0 empty.1;
      leads_from = from_there.0;
      filled = from_there.1;
    })

-- a slot without a parent gets a capability, with a parent or without
under_fills :
    (m : Machine) (slot : SlotRef) (held : Cap) (parent : Option SlotRef) → parent_of m slot ≡ None
    → Fills m slot held parent (under (with_cap m slot held) slot parent)
unfolding object_of queue_of words_of with_cap with_parent
under_fills m slot held None alone =
    record {
      objects = record { objects = λ id. refl; queues = λ id. refl; words = λ id. refl; number = refl; going = refl };
      caps = cap_of-with_cap m slot held;
      parents = λ q. parent_of-with_cap m slot held q ∙ by_tie q (same_slot q slot) refl;
    }
  where
    by_tie :
        (q : SlotRef) (tie : Bool) → same_slot q slot ≡ tie → parent_of m q ≡ (if tie then None else parent_of m q)
    by_tie q true is = ap (parent_of m) (one_slot q slot is) ∙ alone
    by_tie q false is = refl
under_fills m slot held (Some parent) alone =
    record {
      objects = record { objects = λ id. refl; queues = λ id. refl; words = λ id. refl; number = refl; going = refl };
      caps = λ q. cap_of-with_parent (with_cap m slot held) slot parent q ∙ cap_of-with_cap m slot held q;
      parents =
          λ q.
          parent_of-with_parent (with_cap m slot held) slot parent q
          ∙ ap (λ above. if same_slot q slot then Some parent else above) (parent_of-with_cap m slot held q);
    }

-- an empty slot has no parent
pub empty_alone : (m : Machine) (slot : SlotRef) → IsWellFormed m → cap_of m slot ≡ None → parent_of m slot ≡ None
empty_alone m slot formed empty = by_parent (parent_of m slot) refl where
  by_parent : (parent : Option SlotRef) → parent_of m slot ≡ parent → parent_of m slot ≡ None
  by_parent None is = is
  by_parent (Some parent) is =
      let none : None ≡ Some (formed.slots.child_filled slot parent is).0 =
      sym empty ∙ (formed.slots.child_filled slot parent is).1 in
      cc

pub with_copy_fills :
    (m : Machine) (target source : SlotRef) (held : Cap) (detail : Detail) → IsWellFormed m → cap_of m target ≡ None
    → Fills m target (copied held detail) (parent_of_copy m source held) (with_copy m target source held detail)
unfolding with_copy
with_copy_fills m target source held detail formed empty =
    under_fills m target (copied held detail) (parent_of_copy m source held) (empty_alone m target formed empty)

derives :
    (m : Machine) (caller : ObjId) (to from : SlotAddress) (ends : Ends) (detail : Detail) (next : Machine) → IsWellFormed m
    → FindsEnds m caller to from ends.target ends.source ends.held → IsNarrower detail ends.held.detail
    → kind_of_detail ends.held.detail ≢ kind.Untyped → with_copy m ends.target ends.source ends.held detail ≡ next
    → Derives m caller to from next
derives m caller to from ends detail next formed finds narrower copyable is =
    record {
      target = ends.target;
      source = ends.source;
      held = ends.held;
      detail = detail;
      finds = finds;
      narrower = narrower;
      copyable = copyable;
      changes =
          subst (λ (n : Machine). Fills m ends.target (copied ends.held detail) (parent_of_copy m ends.source ends.held) n) is
          (with_copy_fills m ends.target ends.source ends.held detail formed finds.vacant);
    }

pub copy_done :
    (m : Machine) (caller : ObjId) (to from : SlotAddress) (mask : Rights) (made : Made) (next : Machine) → IsWellFormed m
    → copy_of m caller to from mask ≡ Ok (made, next) → Derives m caller to from next
unfolding copy_of
copy_done m caller to from mask made next formed e =
    let ends = both_done (ends_of m caller to from) _ (made, next) e in
    let may = both_done (copyable ends.0.held.detail) _ (made, next) ends.2 in
    derives m caller to from ends.0 (masked mask ends.0.held.detail) next formed (ends_found m caller to from ends.0 ends.1)
    (masked_narrower mask ends.0.held.detail) (is_copyable ends.0.held.detail may.0 may.1) (ap (λ p. p.1) (same_ok may.2))

pub mint_done :
    (m : Machine) (caller : ObjId) (to from : SlotAddress) (mask : Rights) (given : CapData) (made : Made) (next : Machine)
    → IsWellFormed m → mint_of m caller to from mask given ≡ Ok (made, next) → Derives m caller to from next
unfolding mint_of
mint_done m caller to from mask given made next formed e =
    let ends = both_done (ends_of m caller to from) _ (made, next) e in
    let may = both_done (copyable ends.0.held.detail) _ (made, next) ends.2 in
    let object = object_of m ends.0.held.object in
    let new = both_done (minted object given (masked mask ends.0.held.detail)) _ (made, next) may.2 in
    derives m caller to from ends.0 new.0 next formed (ends_found m caller to from ends.0 ends.1)
    (minted_narrower object given mask ends.0.held.detail new.0 new.1) (is_copyable ends.0.held.detail may.0 may.1)
    (ap (λ p. p.1) (same_ok new.2))

moved_moves :
    (m : Machine) (source target : SlotRef) (held : Cap) → cap_of m target ≡ None → cap_of m source ≡ Some held
    → Moves m source target held (with_moved m target source held)
unfolding object_of queue_of words_of cap_of parent_of with_cap without_cap with_exchanged with_moved
moved_moves m source target held empty full =
    record {
      objects = record { objects = λ id. refl; queues = λ id. refl; words = λ id. refl; number = refl; going = refl };
      caps =
          λ q.
          get-remove slot_total (with_cap m target held).caps source q
          ∙ ap (cond (same_slot q source) None) (cap_of-with_cap m target held q)
          ∙ by_ties q (same_slot q source) (same_slot q target) refl refl;
      parents = parent_of-with_exchanged (with_cap m target held) source target;
    }
  where
    by_ties :
        (q : SlotRef) (one two : Bool) → same_slot q source ≡ one → same_slot q target ≡ two
        → cond one None (cond two (Some held) (cap_of m q)) ≡ (if two then Some held else if one then None else cap_of m q)
    by_ties q true true e f =
        let both : None ≡ Some held =
        sym empty ∙ ap (cap_of m) (sym (one_slot q target f) ∙ one_slot q source e) ∙ full in
        cc
    by_ties q true false e f = refl
    by_ties q false true e f = refl
    by_ties q false false e f = refl

pub move_done :
    (m : Machine) (caller : ObjId) (to from : SlotAddress) (made : Made) (next : Machine)
    → move_of m caller to from ≡ Ok (made, next) → MoveDone m caller to from next
unfolding move_of
move_done m caller to from made next e =
    let ends = both_done (ends_of m caller to from) _ (made, next) e in
    let finds = ends_found m caller to from ends.0 ends.1 in
    record {
      target = ends.0.target;
      source = ends.0.source;
      held = ends.0.held;
      finds = finds;
      changes =
          subst (λ (n : Machine). Moves m ends.0.source ends.0.target ends.0.held n) (ap (λ p. p.1) (same_ok ends.2))
          (moved_moves m ends.0.source ends.0.target ends.0.held finds.vacant finds.filled);
    }
