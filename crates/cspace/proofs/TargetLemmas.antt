-- Lookups of targets: one ends just where a chain does.
use Rattle.std.proofs.Common.{[], ℕ, ◌<◌, ◌↔◌, ◌∙◌, ◌∷◌, ◌≡◌, ◌≤◌, ◌⊎◌, Bool, Err, List, None, Ok, Option, Result, Some, ap, arith, false}
use Rattle.std.proofs.{Common.{inl, inr, length, nat_le, refl, subst, sym, true}, lemmas.Bool.{le-leb, leb-false, leb-true, lt-leb, ne_eqb}}
use Rattle.std.proofs.lemmas.Option.{same_Some}
use Rattle.base.specs.declared.{ids.SlotRef.SlotRef, refusal.Cause.{Cause, TheVariants.{FailedLookup, RangeError}}}
use Rattle.base.specs.declared.refusal.LookupFailure.{LookupFailure, TheVariants.{DepthMismatch, InvalidRoot, MissingCapability}}
use Rattle.base.specs.{declared.refusal.Refusal.Refusal, Refusals.refusal_of}
use Rattle.machine.specs.{Bits.bits, Lookup.{Level, counted, level_at, walk}, Machine.Machine, Refusing.◌>>=◌, Step.Target.exactly}
use Rattle.machine.specs.Step.Target.{in_depth, lookup_target_of}
use Rattle.cspace.specs.{Below.target_below, Chain.{Hinders, Leads, Resolves, TakesBits, TargetFails, TargetFinds, TargetStarts}}
use Rattle.cspace.proofs.{BitLemmas.length-bits, ChainLemmas.{Ends, ends-walk, walk-ends}, EndLemmas.{same_cause, unique}}

-- a number of bits of an index that can be looked up
pub deep : (depth : ℕ) → 1 ≤ depth → depth ≤ 64 → in_depth depth ≡ Ok tt
deep depth low high = rw (le-leb 1 depth low, le-leb depth 64 high) refl

-- a number of bits that can't
pub not_deep : (depth : ℕ) → (depth < 1) ⊎ (64 < depth) → in_depth depth ≡ Err RangeError
not_deep depth (inl low) = rw (lt-leb 1 depth low) refl
not_deep depth (inr high) =
    let least : 1 ≤ depth = omega arith in rw (le-leb 1 depth least, lt-leb depth 64 high) refl

-- what the lookup of a target is where it has no CNode to begin at
pub target-none :
    (m : Machine) (from : SlotRef) (index depth : ℕ) → level_at m from ≡ None
    → lookup_target_of m from index depth ≡ Err (FailedLookup InvalidRoot)
unfolding lookup_target_of
target-none m from index depth shows = rw shows refl

-- what it is where the depth is no number of bits
pub target-outside :
    (m : Machine) (from : SlotRef) (index depth : ℕ) (level : Level) → level_at m from ≡ Some level
    → in_depth depth ≡ Err RangeError → lookup_target_of m from index depth ≡ Err RangeError
unfolding lookup_target_of
target-outside m from index depth level shows outside = rw (shows, outside) refl

-- the slot where a walk ends, if it uses up its bits
abbrev pub used_up : Result (SlotRef × List Bool) LookupFailure → Result SlotRef Cause
used_up end = do
  place ← counted end
  exactly place

-- bits that are left are too many
stopped : (slot : SlotRef) (rest : List Bool) → 0 < length rest → used_up (Ok (slot, rest)) ≡ Err (FailedLookup DepthMismatch)
stopped slot rest left = rw (ne_eqb (length rest) 0 (λ none. omega (arith, none))) refl

-- what it is where a walk ends
pub target-walk :
    (m : Machine) (from : SlotRef) (index depth : ℕ) (level : Level) → level_at m from ≡ Some level → in_depth depth ≡ Ok tt
    → lookup_target_of m from index depth ≡ used_up (walk 65 m level (bits depth index))
unfolding lookup_target_of
target-walk m from index depth level shows within = rw (shows, within) refl

-- what it is where a walk from a CNode that was found ends with so many bits left
pub below-ends :
    (m : Machine) (index depth : ℕ) (level : Level) (place : SlotRef × ℕ) → in_depth depth ≡ Ok tt
    → counted (walk 65 m level (bits depth index)) ≡ Ok place → target_below m level index depth ≡ exactly place
unfolding target_below
below-ends m index depth level place within ends = rw (within, ends) refl

module _ (m : Machine) (from : SlotRef) (index depth : ℕ) where
  -- what is known where the lookup of a target ends so
  TargetEnds : Result SlotRef Cause → Type 0
  TargetEnds (Ok slot) = TargetFinds m from index depth slot
  TargetEnds (Err cause) = TargetFails m from index depth cause

  -- the lookup of a target ends where a walk does, if that uses up its bits
  used_up-ends :
      (root : Level) (end : Result (SlotRef × List Bool) LookupFailure) → TargetStarts m from depth root
      → Ends m root (bits depth index) end → TargetEnds (used_up end)
  unfolding TargetEnds
  used_up-ends root (Ok (slot, [])) starts ends = record { root = root; starts = starts; resolves = ends }
  used_up-ends root (Ok (slot, b ∷ bs)) starts ends =
      let left : 0 < length (b ∷ bs) = omega arith in
      subst TargetEnds (sym (stopped slot (b ∷ bs) left))
      (inr
      (inr
      (inr
      (record {
        root = root;
        starts = starts;
        stops = record { slot = slot; rest = b ∷ bs; resolves = ends; left = left };
        is = refl;
      }))))
  used_up-ends root (Err failure) starts ends =
      inr (inr (inl (record { root = root; starts = starts; failure = failure; misses = ends; is = refl })))

  -- there are bits to look up
  some_bits : 1 ≤ depth → 0 < length (bits depth index)
  some_bits least = let size = length-bits depth index in omega (arith, size)

  -- there are no more than can be walked
  few_bits : depth ≤ 64 → length (bits depth index) < 65
  few_bits most = let size = length-bits depth index in omega (arith, size)

  -- where the walk from a CNode ends
  walked_from :
      (root : Level) → TakesBits m → TargetStarts m from depth root
      → Ends m root (bits depth index) (walk 65 m root (bits depth index))
  walked_from root takes starts =
      ends-walk 65 m root (bits depth index) takes (takes from root starts.rooted) (some_bits starts.least) (few_bits starts.most)

  -- the lookup of a target ends where a chain from its CNode does
  walk_is :
      (root : Level) (end : Result (SlotRef × List Bool) LookupFailure) → TakesBits m → TargetStarts m from depth root
      → Ends m root (bits depth index) end → lookup_target_of m from index depth ≡ used_up end
  walk_is root end takes starts ends =
      target-walk m from index depth root starts.rooted (deep depth starts.least starts.most)
      ∙ ap used_up (walk-ends 65 m root (bits depth index) end takes (takes from root starts.rooted) (few_bits starts.most) ends)

  -- whatever the lookup of a target answers, a chain says so
  target-ends : TakesBits m → TargetEnds (lookup_target_of m from index depth)
  unfolding TargetEnds
  target-ends takes = by_root (level_at m from) refl where
    outside :
        (root : Level) → level_at m from ≡ Some root → (depth < 1) ⊎ (64 < depth)
        → TargetEnds (lookup_target_of m from index depth)
    outside root at apart =
        subst TargetEnds (sym (target-outside m from index depth root at (not_deep depth apart)))
        (inr (inl (record { root = root; rooted = at; outside = apart; is = refl })))

    within : (root : Level) → TargetStarts m from depth root → TargetEnds (lookup_target_of m from index depth)
    within root starts =
        subst TargetEnds (sym (target-walk m from index depth root starts.rooted (deep depth starts.least starts.most)))
        (used_up-ends root (walk 65 m root (bits depth index)) starts (walked_from root takes starts))

    by_depth :
        (root : Level) → level_at m from ≡ Some root → (some most : Bool) → nat_le 1 depth ≡ some → nat_le depth 64 ≡ most
        → TargetEnds (lookup_target_of m from index depth)
    by_depth root at false most low high = outside root at (inl (leb-false 1 depth low))
    by_depth root at true false low high = outside root at (inr (leb-false depth 64 high))
    by_depth root at true true low high =
        within root (record { rooted = at; least = leb-true 1 depth low; most = leb-true depth 64 high })

    by_root : (root : Option Level) → level_at m from ≡ root → TargetEnds (lookup_target_of m from index depth)
    by_root None at =
        subst TargetEnds (sym (target-none m from index depth at)) (inl (record { unrooted = at; is = refl }))
    by_root (Some root) at = by_depth root at (nat_le 1 depth) (nat_le depth 64) refl refl

  -- a slot that is found, a chain ends at
  finds : (slot : SlotRef) → TakesBits m → lookup_target_of m from index depth ≡ Ok slot → TargetFinds m from index depth slot
  unfolding TargetEnds
  finds slot takes e = subst TargetEnds e (target-ends takes)

  -- a failure has one of its reasons
  fails : (cause : Cause) → TakesBits m → lookup_target_of m from index depth ≡ Err cause → TargetFails m from index depth cause
  unfolding TargetEnds
  fails cause takes e = subst TargetEnds e (target-ends takes)

  -- a slot where a chain ends is found
  found : (slot : SlotRef) → TakesBits m → TargetFinds m from index depth slot → lookup_target_of m from index depth ≡ Ok slot
  found slot takes h = walk_is h.root (Ok (slot, [])) takes h.starts h.resolves

  -- a failure is answered if there is a reason for it
  failed : (cause : Cause) → TakesBits m → TargetFails m from index depth cause → lookup_target_of m from index depth ≡ Err cause
  failed cause takes (inl h) = target-none m from index depth h.unrooted ∙ ap Err (sym h.is)
  failed cause takes (inr (inl h)) =
      target-outside m from index depth h.root h.rooted (not_deep depth h.outside) ∙ ap Err (sym h.is)
  failed cause takes (inr (inr (inl h))) =
      walk_is h.root (Err h.failure) takes h.starts h.misses ∙ ap Err (sym h.is)
  failed cause takes (inr (inr (inr h))) =
      walk_is h.root (Ok (h.stops.slot, h.stops.rest)) takes h.starts h.stops.resolves
      ∙ stopped h.stops.slot h.stops.rest h.stops.left ∙ ap Err (sym h.is)

  -- the lookup of a target ends in one of the two ways
  pub target_either :
      TakesBits m
      → ((slot : SlotRef) × TargetFinds m from index depth slot) ⊎ ((cause : Cause) × TargetFails m from index depth cause)
  unfolding TargetEnds
  target_either takes = by_end (lookup_target_of m from index depth) (target-ends takes) where
    by_end :
        (end : Result SlotRef Cause) → TargetEnds end
        → ((slot : SlotRef) × TargetFinds m from index depth slot) ⊎ ((cause : Cause) × TargetFails m from index depth cause)
    by_end (Ok slot) h = inl (slot, h)
    by_end (Err cause) h = inr (cause, h)

  -- the lookup of a target ends by one chain
  pub target_one_way :
      (slot other : SlotRef) → TakesBits m
      → (a : TargetFinds m from index depth slot) (b : TargetFinds m from index depth other)
      → (a.root ≡ b.root) × (a.resolves.links ≡ b.resolves.links) × (a.resolves.last ≡ b.resolves.last)
  target_one_way slot other takes a b =
      let root : a.root ≡ b.root = same_Some a.root b.root (sym a.starts.rooted ∙ b.starts.rooted) in
      let leads = subst (λ (r : Level). Leads m r b.resolves.links b.resolves.last.level) (sym root) b.resolves.leads in
      let moved : Resolves m a.root (bits depth index) other [] =
      record {
        links = b.resolves.links;
        last = b.resolves.last;
        leads = leads;
        whole = b.resolves.whole;
        spells = b.resolves.spells;
        selects = b.resolves.selects;
        ends = b.resolves.ends;
      }
      in
      let same = unique m a.root (bits depth index) slot other [] [] takes a.resolves moved in
      (root, same.0, same.1)

  -- no capability is looked for in the slot that is found, so none is missing
  target-never_missing : TargetFails m from index depth (FailedLookup MissingCapability) → ⊥
  target-never_missing (inl h) = let clash = h.is in cc
  target-never_missing (inr (inl h)) = let clash = h.is in cc
  target-never_missing (inr (inr (inl h))) =
      missing h.failure h.misses.to h.misses.rest h.misses.why h.is
    where
      missing :
          (failure : LookupFailure) (level : Level) (rest : List Bool) → Hinders failure level rest
          → FailedLookup MissingCapability ≡ FailedLookup failure → ⊥
      missing MissingCapability level rest why is = why
      missing _ level rest why is = cc
  target-never_missing (inr (inr (inr h))) = let clash = h.is in cc

  -- what a result says
  module _ (result : Result SlotRef Cause) (takes : TakesBits m) (is : result ≡ lookup_target_of m from index depth) where
    pub target_found_where : (slot : SlotRef) → (result ≡ Ok slot) ↔ TargetFinds m from index depth slot
    target_found_where slot = (λ e. finds slot takes (sym is ∙ e), λ h. is ∙ found slot takes h)

    pub target_failed_where : (cause : Cause) → (result ≡ Err cause) ↔ TargetFails m from index depth cause
    target_failed_where cause = (λ e. fails cause takes (sym is ∙ e), λ h. is ∙ failed cause takes h)

    pub target_not_missing : result ≡ Err (FailedLookup MissingCapability) → ⊥
    target_not_missing e = target-never_missing (fails (FailedLookup MissingCapability) takes (sym is ∙ e))

-- what a result says once its cause is written as a refusal

-- a refusal that is written as a range error is one
same_range : (cause : Cause) → refusal_of cause ≡ refusal_of RangeError → cause ≡ RangeError
same_range RangeError e = refl
same_range _ e = absurd (omega (arith, ap (λ (r : Refusal). r.code) e))

-- a failed lookup of a target and another cause that are written alike are the same
same_as_failed :
    (m : Machine) (from : SlotRef) (index depth : ℕ) (cause other : Cause) → TargetFails m from index depth cause
    → refusal_of other ≡ refusal_of cause → other ≡ cause
same_as_failed m from index depth cause other fails alike = by_way fails where
  to_lookup : (failure : LookupFailure) → cause ≡ FailedLookup failure → other ≡ cause
  to_lookup failure is = same_cause other failure (alike ∙ ap refusal_of is) ∙ sym is

  to_range : cause ≡ RangeError → other ≡ cause
  to_range is = same_range other (alike ∙ ap refusal_of is) ∙ sym is

  by_way : TargetFails m from index depth cause → other ≡ cause
  by_way (inl h) = to_lookup InvalidRoot h.is
  by_way (inr (inl h)) = to_range h.is
  by_way (inr (inr (inl h))) = to_lookup h.failure h.is
  by_way (inr (inr (inr h))) = to_lookup DepthMismatch h.is

-- a result whose cause is written as a refusal
abbrev pub target_refused : Result SlotRef Cause → Result SlotRef Refusal
target_refused (Ok slot) = Ok slot
target_refused (Err cause) = Err (refusal_of cause)

module _ (m : Machine) (from : SlotRef) (index depth : ℕ) (r : Result SlotRef Cause) (q : Result SlotRef Refusal)
    (is : q ≡ target_refused r) where
  -- a slot is no refusal
  refused_ok : (end : Result SlotRef Cause) (slot : SlotRef) → target_refused end ≡ Ok slot → end ≡ Ok slot
  refused_ok (Ok given) slot e = let same : given ≡ slot = cc in ap Ok same
  refused_ok (Err cause) slot e = cc

  -- what is known of a slot that is found
  pub target_refused_found :
      (slot : SlotRef) → (r ≡ Ok slot) ↔ TargetFinds m from index depth slot → (q ≡ Ok slot) ↔ TargetFinds m from index depth slot
  target_refused_found slot found_so =
      (λ e. found_so.0 (refused_ok r slot (sym is ∙ e)), λ h. is ∙ ap target_refused (found_so.1 h))

  -- a refusal is written for one cause that the lookup of a target has
  refused_err :
      (end : Result SlotRef Cause) (cause : Cause)
      → ((given : Cause) → end ≡ Err given → TargetFails m from index depth given)
      → target_refused end ≡ Err (refusal_of cause) → end ≡ Err cause
  refused_err (Ok given) cause fails e = cc
  refused_err (Err given) cause fails e =
      let alike : refusal_of cause ≡ refusal_of given = cc in
      ap Err (sym (same_as_failed m from index depth given cause (fails given refl) alike))

  -- what is known of a refusal
  pub target_refused_failed :
      (cause : Cause) → ((given : Cause) → (r ≡ Err given) ↔ TargetFails m from index depth given)
      → (q ≡ Err (refusal_of cause)) ↔ TargetFails m from index depth cause
  target_refused_failed cause failed_so = (
    λ e. (failed_so cause).0 (refused_err r cause (λ given. (failed_so given).0) (sym is ∙ e)),
    λ h. is ∙ ap target_refused ((failed_so cause).1 h),
  )
