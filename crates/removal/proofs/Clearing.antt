-- Slots that descend from one leave the tree and are emptied, child by child: how many have, and how many still descend.
use Rattle.std.specs.{FinMap.keys, List.{count_by, list_any}, Prelude.{◌⊎◌, None, Option, Some, if◌then◌else◌, is_some, option_and_then}}
use Rattle.std.proofs.Common.{◌<◌, ◌∙◌, ◌≡◌, ◌≢◌, Bool, List, ap, cond, false, inl, inr, refl, subst, sym, true}
use Rattle.{std.proofs.lemmas.{Bool.false≢true, Option.{none-some, same_Some}}, base.specs.declared.ids.SlotRef.SlotRef}
use Rattle.machine.specs.{Below.is_below, Changes.with_none_going, Gone.given, Machine.{Machine, cap_of, parent_of, same_slot}}
use Rattle.machine.{specs.{Orphans.past, WellFormed.{Descends, child, further}}, proofs.FiniteLemmas.ties_itself}
use Rattle.{machine.proofs.{LookUps.{one_slot, slot_apart, slot_total}, RemovalStays.further_on}, steps.proofs.BelowLemmas.below_decided}
use Rattle.{objects.proofs.{Passing.fewer_pass, Ways.among_keys}, derivation.specs.Removing.parent_without}
use Rattle.removal.{specs.UnderWay.{AreGoing, IsUnderWay, emptied}, proofs.Beside.{descends_cleared, none_going, parent_of-with_none_going}}
use Rattle.removal.proofs.{Beside.way_stays, Chosen.same_caps, Emptying.emptied_way, Ending.begun, Turns.{emptied_there, stays_emptied}}

-- a child of a slot leaves the tree
module _
    (now next : Machine) (above node : SlotRef) (is : parent_of now node ≡ Some above)
    (parents : (q : SlotRef) → parent_of next q ≡ parent_without now node q) where
  told : (q : SlotRef) (tie : Bool) (over : Option SlotRef) → same_slot q node ≡ tie → parent_of now q ≡ over
      → parent_of next q ≡ cond tie None (option_and_then (past node (parent_of now node)) over)
  told q tie over e at =
      parents q
      ∙ ap (λ b. cond b None (option_and_then (past node (parent_of now node)) (parent_of now q))) e
      ∙ ap (λ (o : Option SlotRef). cond tie None (option_and_then (past node (parent_of now node)) o)) at

  left : parent_of next node ≡ None
  left = told node true (parent_of now node) (ties_itself slot_total slot_apart node) refl

  root_stays : (q : SlotRef) → parent_of now q ≡ None → parent_of next q ≡ None
  root_stays q none = told q (same_slot q node) None refl none ∙ either (same_slot q node) where
    either : (b : Bool) → cond {A = Option SlotRef} b None None ≡ None
    either true = refl
    either false = refl

  -- the parent of each slot then
  after : (q p : SlotRef) → parent_of now q ≡ Some p
      → (q ≡ node) ⊎ (((p ≡ node) × (parent_of next q ≡ Some above)) ⊎ ((p ≢ node) × (parent_of next q ≡ Some p)))
  after q p at = by_tie (same_slot q node) refl where
    by_parent : (tie : Bool) → same_slot p node ≡ tie → parent_of next q ≡ cond tie (parent_of now node) (Some p)
        → ((p ≡ node) × (parent_of next q ≡ Some above)) ⊎ ((p ≢ node) × (parent_of next q ≡ Some p))
    by_parent true e there = inl (one_slot p node e, there ∙ is)
    by_parent false e there =
        inr (
          λ same. false≢true (sym e ∙ ap (λ (x : SlotRef). same_slot x node) same ∙ ties_itself slot_total slot_apart node),
          there,
        )

    by_tie : (tie : Bool) → same_slot q node ≡ tie
        → (q ≡ node) ⊎ (((p ≡ node) × (parent_of next q ≡ Some above)) ⊎ ((p ≢ node) × (parent_of next q ≡ Some p)))
    by_tie true e = inl (one_slot q node e)
    by_tie false e =
        inr
        (by_parent (same_slot p node) refl
        (told q false (Some p) e at))

  -- each pair then was one before, or joins a child of the node to what was above the node
  before : (q p : SlotRef) → parent_of next q ≡ Some p → Descends now q p
  before q p at = by_over (parent_of now q) refl where
    by_after : (r : SlotRef) → parent_of now q ≡ Some r
        → (q ≡ node) ⊎ (((r ≡ node) × (parent_of next q ≡ Some above)) ⊎ ((r ≢ node) × (parent_of next q ≡ Some r)))
        → Descends now q p
    by_after r was (inl same) = absurd (none-some p (sym left ∙ ap (parent_of next) (sym same) ∙ at))
    by_after r was (inr (inl there)) =
        subst (λ (x : SlotRef). Descends now q x) (same_Some above p (sym there.1 ∙ at))
        (further (was ∙ ap Some there.0) (child is))
    by_after r was (inr (inr there)) = child (was ∙ ap Some (same_Some r p (sym there.1 ∙ at)))

    by_over : (over : Option SlotRef) → parent_of now q ≡ over → Descends now q p
    by_over None was = absurd (none-some p (sym (root_stays q was) ∙ at))
    by_over (Some r) was = by_after r was (after q r was)

  -- what descended from the slot above still does, except the node
  still : {q : SlotRef} → Descends now q above → (q ≡ node) ⊎ Descends next q above
  still {q} (child at) = by_after (after q above at) where
    by_after :
        (q ≡ node) ⊎ (((above ≡ node) × (parent_of next q ≡ Some above)) ⊎ ((above ≢ node) × (parent_of next q ≡ Some above)))
        → (q ≡ node) ⊎ Descends next q above
    by_after (inl same) = inl same
    by_after (inr (inl there)) = inr (child there.1)
    by_after (inr (inr there)) = inr (child there.1)
  still {q} (further {parent = p} at rest) = by_after (after q p at) (still rest) where
    by_after :
        (q ≡ node) ⊎ (((p ≡ node) × (parent_of next q ≡ Some above)) ⊎ ((p ≢ node) × (parent_of next q ≡ Some p)))
        → (p ≡ node) ⊎ Descends next p above → (q ≡ node) ⊎ Descends next q above
    by_after (inl same) later = inl same
    by_after (inr (inl there)) later = inr (child there.1)
    by_after (inr (inr there)) (inl same) = absurd (there.0 same)
    by_after (inr (inr there)) (inr later) = inr (further there.1 later)

  -- there are fewer pairs
  pub fewer_pairs :
      (slots : List SlotRef) → list_any (same_slot node) slots ≡ true
      → count_by (λ q. is_some (parent_of next q)) slots < count_by (λ q. is_some (parent_of now q)) slots
  fewer_pairs slots listed =
      fewer_pass (λ q. is_some (parent_of next q)) (λ q. is_some (parent_of now q)) was slots (same_slot node)
      (λ q tie.
      subst (λ (x : SlotRef). (is_some (parent_of next x) ≡ false) × (is_some (parent_of now x) ≡ true)) (one_slot node q tie)
      (ap is_some left, ap is_some is))
      listed
    where
      by_over : (q : SlotRef) (over : Option SlotRef) → parent_of now q ≡ over → is_some (parent_of next q) ≡ true → is_some over ≡ true
      by_over q None at there = sym (ap is_some (root_stays q at)) ∙ there
      by_over q (Some p) at there = refl

      was : (q : SlotRef) → is_some (parent_of next q) ≡ true → is_some (parent_of now q) ≡ true
      was q there = by_over q (parent_of now q) refl there

pub record Clears (m : Machine) (above : SlotRef) (now : Machine) : Type 0 where
  pub going : AreGoing now
  pub way : IsUnderWay m (is_below m above) now 0
  pub down : (q p : SlotRef) → parent_of now q ≡ Some p → Descends m q p
  pub each : (q : SlotRef) → Descends m q above → ((cap_of now q ≡ None) × (parent_of now q ≡ None)) ⊎ Descends now q above
  pub others : (q : SlotRef) → (¬ (Descends m q above)) → parent_of now q ≡ parent_of m q

pub clearing_begun : (m : Machine) (above : SlotRef) → Clears m above (with_none_going m)
clearing_begun m above =
    record {
      going = none_going m;
      way = begun m (is_below m above);
      down = λ q p is. child (sym (parent_of-with_none_going m q) ∙ is);
      each = λ q d. inr (descends_cleared m d);
      others = λ q apart. parent_of-with_none_going m q;
    }

module _
    (m : Machine) (above : SlotRef) (now : Machine) (so_far : Clears m above now) (node : SlotRef)
    (is : parent_of now node ≡ Some above) where
  node_below : Descends m node above
  node_below = so_far.down node above is

  pub node_listed : list_any (same_slot node) (keys m.parents) ≡ true
  node_listed = by_way node_below where
    by_way : Descends m node above → list_any (same_slot node) (keys m.parents) ≡ true
    by_way (child {parent = p} at) = among_keys m node p at
    by_way (further {parent = p} at rest) = among_keys m node p at

  module _
      (next : Machine) (rest : next ≡ record (emptied now node) { parents = next.parents })
      (parents : (q : SlotRef) → parent_of next q ≡ parent_without now node q) (going : AreGoing next) where
    descends_down : {q p : SlotRef} → Descends now q p → Descends m q p
    descends_down (child at) = so_far.down _ _ at
    descends_down (further at later) = further_on m (so_far.down _ _ at) (descends_down later)

    stays_none : (q : SlotRef) → cap_of now q ≡ None → cap_of next q ≡ None
    stays_none q none = same_caps (emptied now node) next rest q ∙ stays_emptied now node q none

    pub cleared_more : Clears m above next
    cleared_more =
        record {
          going = going;
          way =
              way_stays m (is_below m above) (emptied now node) next 0 rest
              (emptied_way m (is_below m above) 0 now node so_far.way (given ((below_decided m above node).1 node_below)));
          down = λ q p at. descends_down (before now next above node is parents q p at);
          each = λ q d. by_each q (so_far.each q d);
          others = λ q apart. by_over q apart (parent_of now q) refl ∙ so_far.others q apart;
        } where
          by_still :
              (q : SlotRef) → (q ≡ node) ⊎ Descends next q above
              → ((cap_of next q ≡ None) × (parent_of next q ≡ None)) ⊎ Descends next q above
          by_still q (inl same) =
              inl
              (subst (λ (x : SlotRef). (cap_of next x ≡ None) × (parent_of next x ≡ None)) (sym same)
              (same_caps (emptied now node) next rest node ∙ emptied_there now node, left now next above node is parents))
          by_still q (inr d) = inr d

          by_each :
              (q : SlotRef) → ((cap_of now q ≡ None) × (parent_of now q ≡ None)) ⊎ Descends now q above
              → ((cap_of next q ≡ None) × (parent_of next q ≡ None)) ⊎ Descends next q above
          by_each q (inl out) = inl (stays_none q out.0, root_stays now next above node is parents q out.1)
          by_each q (inr d) = by_still q (still now next above node is parents d)

          by_after :
              (q p : SlotRef) → (¬ (Descends m q above)) → parent_of now q ≡ Some p
              → (q ≡ node) ⊎ (((p ≡ node) × (parent_of next q ≡ Some above)) ⊎ ((p ≢ node) × (parent_of next q ≡ Some p)))
              → parent_of next q ≡ Some p
          by_after q p apart at (inl same) = absurd (apart (subst (λ (x : SlotRef). Descends m x above) (sym same) node_below))
          by_after q p apart at (inr (inl there)) =
              absurd
              (apart
              (further_on m (so_far.down q p at) (subst (λ (x : SlotRef). Descends m x above) (sym there.0) node_below)))
          by_after q p apart at (inr (inr there)) = there.1

          by_over : (q : SlotRef) → (¬ (Descends m q above)) → (over : Option SlotRef) → parent_of now q ≡ over → parent_of next q ≡ parent_of now q
          by_over q apart None at = root_stays now next above node is parents q at ∙ sym at
          by_over q apart (Some p) at = by_after q p apart at (after now next above node is parents q p at) ∙ sym at

-- the slot has no children any more
module _
    (m : Machine) (above : SlotRef) (now : Machine) (so_far : Clears m above now)
    (none : (q : SlotRef) → parent_of now q ≢ Some above) where
  nothing_below : {q : SlotRef} → ¬ (Descends now q above)
  nothing_below (child at) = none _ at
  nothing_below (further at rest) = nothing_below rest

  out_of_tree : (q : SlotRef) → Descends m q above → (cap_of now q ≡ None) × (parent_of now q ≡ None)
  out_of_tree q d = by_each (so_far.each q d) where
    by_each :
        ((cap_of now q ≡ None) × (parent_of now q ≡ None)) ⊎ Descends now q above → (cap_of now q ≡ None) × (parent_of now q ≡ None)
    by_each (inl out) = out
    by_each (inr d) = absurd (nothing_below d)

  pub below_empty : (q : SlotRef) → is_below m above q ≡ true → cap_of now q ≡ None
  below_empty q e = (out_of_tree q ((below_decided m above q).0 e)).0

  pub parents_cleared : (q : SlotRef) → parent_of now q ≡ (if is_below m above q then None else parent_of m q)
  parents_cleared q = by_below (is_below m above q) refl where
    by_below : (b : Bool) → is_below m above q ≡ b → parent_of now q ≡ cond b None (parent_of m q)
    by_below true e = (out_of_tree q ((below_decided m above q).0 e)).1
    by_below false e = so_far.others q (λ d. false≢true (sym e ∙ (below_decided m above q).1 d))
