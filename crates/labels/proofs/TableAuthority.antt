-- The authority of a boot state is what its table declares.
use mathlib.Core.Bool.{false≢true}
use Rattle.std.proofs.Common.{[], ℕ, ◌++◌, ◌+◌, ◌<◌, ◌||◌, ◌↔◌, ◌∙◌, ◌∷◌, ◌≡◌, List, None, Option, Some, ap, append_assoc}
use Rattle.std.proofs.Common.{flat_map, get_or, inl, inr, length, option_map, refl, slice_get, subst, suc, sym, take, true, zero}
use Rattle.std.proofs.lemmas.{Bool.or_cases, List.{Concat.flat_map-append, append-nil, take_more}}
use Rattle.std.proofs.lemmas.Option.{get_or_from_slice_get, none-some, same_Some, slice_get_within}
use Rattle.base.specs.declared.{edge.Edge.Edge, ids.{ObjId.ObjId, SlotRef.SlotRef}, kind.Kind.{Kind, Kind as authority}}
use Rattle.machine.specs.declared.{cap.Cap.Cap, layout.{Binding.Binding, Initial.Initial}, object.Object.{Object, Object as o}}
use Rattle.machine.specs.Authority.{HasAuthority, by_cap, by_link, by_pair, by_root, holds_thread, links}
use Rattle.machine.specs.{Boot.{IsBoot, bound}, Layout.{Layout, bound_context, declared_label, initial_cap, initial_of}}
use Rattle.machine.{specs.{Machine.Machine, Objects.kind_of_object}, proofs.RunsLinks.{runs_bound, runs_by}}
use Rattle.table.{specs.Rules.{IsBindingOf, IsBlank, IsLawful}, proofs.AtBoot.{boot_label, declared_at, initial_lawful, rest_lends}}
use Rattle.{table.proofs.{AtBoot.rest_links, BootParts.pair-law, Lookups.{bound_at, bound_from, filled_at}}, policy.specs.Policy.allows}
use Rattle.labels.specs.{SlotAuthority.GivesBySlot, SlotEdges.slot_edges_of, TableEdges.{edges_of_binding, edges_of_filled, table_edges}}
use Rattle.labels.proofs.EdgeLists.{allows-append, allows_after, allows_before, edge_has, edge_in, none_allowed}
use Rattle.labels.proofs.SlotAuthority.{slot_authority}
use Rattle.machine.specs.declared.object.ObjectKind.TheVariants as kind
use Rattle.labels.specs.SlotAuthority as slot

-- an edge is among those of several things exactly if it is among those of one

pub record ComesFrom {X : Type 0} (f : X → List Edge) (xs : List X) (from : ℕ) (k : Kind) (to : ℕ) : Type 0 where
  pub at : ℕ
  pub element : X
  pub here : slice_get xs at ≡ Some element
  pub has : allows (f element) from k to ≡ true

comes_from :
    {X : Type 0} (f : X → List Edge) (xs : List X) (from : ℕ) (k : Kind) (to : ℕ) → allows (flat_map f xs) from k to ≡ true
    → ComesFrom f xs from k to
comes_from f [] from k to e = absurd (false≢true (sym (none_allowed from k to) ∙ e))
comes_from f (x ∷ xs) from k to e = elim (or_cases _ _ (sym (allows-append (f x) (flat_map f xs) from k to) ∙ e)) [
  | inl first ↦ record { at = 0; element = x; here = refl; has = first }
  | inr rest ↦
      let later = comes_from f xs from k to rest in
      record { at = suc later.at; element = later.element; here = later.here; has = later.has }
]

comes :
    {X : Type 0} (f : X → List Edge) (xs : List X) (i : ℕ) (x : X) (from : ℕ) (k : Kind) (to : ℕ) → slice_get xs i ≡ Some x
    → allows (f x) from k to ≡ true → allows (flat_map f xs) from k to ≡ true
comes f [] i x from k to at has = absurd (none-some x at)
comes f (y ∷ ys) zero x from k to at has =
    allows_before (f y) (flat_map f ys) from k to (ap (λ z. allows (f z) from k to) (same_Some y x at) ∙ has)
comes f (y ∷ ys) (suc i) x from k to at has = allows_after (f y) (flat_map f ys) from k to (comes f ys i x from k to at has)

-- a loop adds the edges of one more thing
pub found_more :
    {X : Type 0} (f : X → List Edge) (before old new : List Edge) (items xs : List X) (i : ℕ) (d : X) (from : ℕ) (k : Kind) (to : ℕ)
    → items ≡ xs → i < length items → allows old from k to ≡ allows (before ++ flat_map f (take i xs)) from k to
    → allows new from k to ≡ (allows old from k to || allows (f (get_or items i d)) from k to)
    → allows new from k to ≡ allows (before ++ flat_map f (take (i + 1) xs)) from k to
found_more f before old new items xs i d from k to same lt so_far step =
    let list : flat_map f (take (i + 1) xs) ≡ flat_map f (take i xs) ++ f (get_or xs i d) =
    ap (flat_map f) (take_more xs i d (subst (λ ys. i < length ys) same lt)) ∙ flat_map-append f (take i xs) (get_or xs i d ∷ [])
    ∙ ap (λ last. flat_map f (take i xs) ++ last) (append-nil (f (get_or xs i d))) in
    step ∙ ap (λ ys. allows old from k to || allows (f (get_or ys i d)) from k to) same
    ∙ ap (λ b. b || allows (f (get_or xs i d)) from k to) so_far
    ∙ sym (allows-append (before ++ flat_map f (take i xs)) (f (get_or xs i d)) from k to)
    ∙ ap (λ edges. allows edges from k to)
    (append_assoc before (flat_map f (take i xs)) (f (get_or xs i d)) ∙ ap (λ rest. before ++ rest) (sym list))

-- an object at boot has no link, unless it is a thread with a context

record IsBoundTo (t : Layout) (id : ObjId) (k : Kind) (end : ObjId) : Type 0 where
  runs : authority.Runs ≡ k
  context : bound_context t id ≡ Some end

linked :
    (t : Layout) (id end : ObjId) (object : Object) (k : Kind) → IsBlank object → links (bound t id object) k end ≡ true
    → IsBoundTo t id k end
linked t id end (o.Tcb thread) authority.Runs blank e = record {
  runs = refl;
  context = elim (runs_by (record thread { context = bound_context t id }) end e) [
    | inl bound ↦ bound
    | inr lent ↦ absurd (none-some end (sym (rest_lends thread.state blank.0) ∙ lent))
  ];
}
linked t id end (o.Tcb thread) k blank e = absurd (false≢true (sym (rest_links thread.state k end blank.0) ∙ e))
linked t id end (o.Reply answers) authority.Holds blank e =
    absurd (false≢true (sym (ap (λ state. holds_thread state end) blank) ∙ e))
linked t id end _ k blank e = absurd (false≢true e)

links_of_thread :
    (t : Layout) (id end : ObjId) (object : Object) → kind_of_object object ≡ kind.Tcb → bound_context t id ≡ Some end
    → links (bound t id object) authority.Runs end ≡ true
links_of_thread t id end (o.Tcb thread) of is = runs_bound (record thread { context = bound_context t id }) end is
links_of_thread t id end _ of is = cc

module _ (t : Layout) (lawful : IsLawful t) (m : Machine) (boot : IsBoot t m) where
  authority_of_slot : (s : SlotRef) (from : ℕ) (k : Kind) (to : ℕ) → GivesBySlot t m s from k to → HasAuthority t m from k to
  authority_of_slot s from k to (slot.by_cap held is of given source target) = by_cap s held is of given source target
  authority_of_slot s from authority.Space to (slot.by_root held is of source target) = by_root s held is of source target
  authority_of_slot s from authority.Derive to (slot.by_pair parent is source target) = by_pair s parent is source target

  by_slot : (s : SlotRef) (from : ℕ) (k : Kind) (to : ℕ) → allows (slot_edges_of t s) from k to ≡ true → HasAuthority t m from k to
  by_slot s from k to e = authority_of_slot s from k to ((slot_authority t m s from k to boot).0 e)

  -- a thread at boot is linked to the context that it is bound to
  by_binding :
      (i : ℕ) (binding : Binding) (from : ℕ) (k : Kind) (to : ℕ) → slice_get t.bindings i ≡ Some binding
      → allows (edges_of_binding t binding) from k to ≡ true → HasAuthority t m from k to
  unfolding initial_of
  by_binding i binding from k to at e =
      let edge = edge_in (declared_label t binding.thread) (declared_label t binding.context) authority.Runs from k to e in
      let fits =
      subst (IsBindingOf t.objects) (get_or_from_slice_get t.bindings i binding binding at)
      (lawful.draft.bindings.each i binding (slice_get_within t.bindings i binding at)) in
      subst (λ kind. HasAuthority t m from kind to) edge.same
      (by_initial (initial_of t binding.thread) refl fits.thread edge.source edge.target)
    where
      by_initial :
          (initial : Option Initial) → initial_of t binding.thread ≡ initial
          → option_map (λ (i : Initial). kind_of_object i.object) (initial_of t binding.thread) ≡ Some kind.Tcb
          → declared_label t binding.thread ≡ Some from → declared_label t binding.context ≡ Some to
          → HasAuthority t m from authority.Runs to
      by_initial None is of source target =
          absurd (none-some kind.Tcb (sym (ap (option_map (λ (i : Initial). kind_of_object i.object)) is) ∙ of))
      by_initial (Some initial) is of source target =
          let thread : kind_of_object initial.object ≡ kind.Tcb =
          same_Some (kind_of_object initial.object) kind.Tcb
          (sym (ap (option_map (λ (i : Initial). kind_of_object i.object)) is) ∙ of) in
          by_link binding.thread binding.context (bound t binding.thread initial.object)
          (boot.objects binding.thread ∙ ap (option_map (λ (i : Initial). bound t binding.thread i.object)) is)
          (links_of_thread t binding.thread binding.context initial.object thread (bound_from t lawful i binding at))
          (boot_label t m boot binding.thread ∙ source) (boot_label t m boot binding.context ∙ target)

  declares_authority : (from : ℕ) (k : Kind) (to : ℕ) → allows (table_edges t) from k to ≡ true → HasAuthority t m from k to
  declares_authority from k to e =
      let slots = flat_map (edges_of_filled t) t.caps in
      let bindings = flat_map (edges_of_binding t) t.bindings in
      elim (or_cases _ _ (sym (allows-append slots bindings from k to) ∙ e)) [
        | inl first ↦ let one = comes_from (edges_of_filled t) t.caps from k to first in by_slot one.element.slot from k to one.has
        | inr second ↦
            let one = comes_from (edges_of_binding t) t.bindings from k to second in
            by_binding one.at one.element from k to one.here one.has
      ]

  -- the authority that a slot gives is among its edges

  slot_has : (s : SlotRef) (from : ℕ) (k : Kind) (to : ℕ) → GivesBySlot t m s from k to → allows (slot_edges_of t s) from k to ≡ true
  slot_has s from k to gives = (slot_authority t m s from k to boot).1 gives

  from_slot :
      (s : SlotRef) (held : Cap) (from : ℕ) (k : Kind) (to : ℕ) → initial_cap t s ≡ Some held
      → GivesBySlot t m s from k to → allows (table_edges t) from k to ≡ true
  from_slot s held from k to is gives =
      let at = filled_at t s held is in
      allows_before (flat_map (edges_of_filled t) t.caps) (flat_map (edges_of_binding t) t.bindings) from k to
      (comes (edges_of_filled t) t.caps at.at at.element from k to at.here
      (ap (λ q. allows (slot_edges_of t q) from k to) at.key_is ∙ slot_has s from k to gives))

  declared : (from : ℕ) (k : Kind) (to : ℕ) → HasAuthority t m from k to → allows (table_edges t) from k to ≡ true
  declared from k to (by_cap s held is of given source target) =
      from_slot s held from k to (sym (boot.caps s) ∙ is) (slot.by_cap held is of given source target)
  declared from authority.Space to (by_root s held is of source target) =
      from_slot s held from authority.Space to (sym (boot.caps s) ∙ is) (slot.by_root held is of source target)
  declared from authority.Derive to (by_pair s parent is source target) =
      let pair = pair-law t m s parent lawful boot is in
      from_slot s pair.below from authority.Derive to pair.child (slot.by_pair parent is source target)
  declared from k to (by_link id end object at link source target) =
      let start = declared_at t m boot id object at in
      let to_context =
      linked t id end start.initial.object k (initial_lawful t lawful id start.initial start.declares).blank
      (sym (ap (λ other. links other k end) start.object_is) ∙ link) in
      let bound_here = bound_at t id end to_context.context in
      subst (λ kind. allows (table_edges t) from kind to ≡ true) to_context.runs
      (allows_after (flat_map (edges_of_filled t) t.caps) (flat_map (edges_of_binding t) t.bindings) from authority.Runs to
      (comes (edges_of_binding t) t.bindings bound_here.at bound_here.element from authority.Runs to bound_here.here
      (edge_has (declared_label t bound_here.element.thread) (declared_label t bound_here.element.context) from authority.Runs to
      (ap (declared_label t) bound_here.key_is ∙ sym (boot_label t m boot id) ∙ source)
      (ap (declared_label t) bound_here.value_is ∙ sym (boot_label t m boot end) ∙ target))))

pub table_authority :
    (t : Layout) (m : Machine) (from : ℕ) (k : Kind) (to : ℕ) → IsLawful t → IsBoot t m
    → allows (table_edges t) from k to ≡ true ↔ HasAuthority t m from k to
table_authority t m from k to lawful boot = (declares_authority t lawful m boot from k to, declared t lawful m boot from k to)
