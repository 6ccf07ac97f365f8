-- The end of a lookup: its result says where the chain ends, if each CNode takes bits.
use Rattle.std.proofs.Common.{[], ℕ, ◌++◌, ◌↔◌, ◌∙◌, ◌≡◌, ◌⊎◌, Bool, Err, List, None, Ok, Result, Some}
use Rattle.std.proofs.{Common.{ap, arith, inl, inr, length, refl, subst, sym}, lemmas.Option.same_Some}
use Rattle.base.specs.declared.{ids.{ObjId.ObjId, SlotRef.SlotRef}, refusal.Cause.{Cause, TheVariants.FailedLookup}}
use Rattle.base.specs.declared.refusal.LookupFailure.{LookupFailure, TheVariants.{DepthMismatch, GuardMismatch, InvalidRoot}}
use Rattle.base.specs.{declared.refusal.{LookupFailure.TheVariants.MissingCapability, Refusal.Refusal}, Refusals.failure_detail}
use Rattle.{base.specs.Refusals.refusal_of, machine.specs.{Bits.bits, Lookup.{Level, level_at, lookup_of}, Machine.{Machine, cap_of}}}
use Rattle.cspace.specs.Chain.{Fails, Finds, IsWhole, Leads, Link, Misses, Resolves}
use Rattle.cspace.specs.{Chain.{TakesBits, selected, spelled, taken}, Roots.root_level}
use Rattle.cspace.proofs.{LookupLemmas.{failed, fails, finds, found}, UniqueLemmas.{not_both, same_chain, same_miss}}

-- an ordinary lookup looks for no capability, so none is missing
pub never_missing : (m : Machine) (thread : ObjId) (address : ℕ) → Fails m thread address MissingCapability → ⊥
never_missing m thread address (inl none) = let clash = none.1 in cc
never_missing m thread address (inr missed) = missed.2.why

-- a slot that is empty holds no CNode capability
pub empty_slot : (m : Machine) (slot : SlotRef) → cap_of m slot ≡ None → level_at m slot ≡ None
unfolding level_at
empty_slot m slot empty = rw empty refl

pub empty_found :
    (m : Machine) (thread : ObjId) (address : ℕ) (root : Level) (links : List Link) (last : Link) (rest : List Bool)
    → root_level m thread ≡ Some root → Leads m root links last.level → IsWhole last
    → spelled links ++ (taken last ++ rest) ≡ bits 64 address → cap_of m (selected last) ≡ None
    → Finds m thread address (selected last) (length rest)
empty_found m thread address root links last rest rooted leads whole spells empty =
    record {
      root = root;
      rest = rest;
      rooted = rooted;
      resolves =
          record {
            links = links;
            last = last;
            leads = leads;
            whole = whole;
            spells = spells;
            selects = refl;
            ends = inr (empty_slot m (selected last) empty);
          };
      counts = refl;
    }

-- the chain of a lookup is the only one

pub unique :
    (m : Machine) (from : Level) (string : List Bool) (slot other : SlotRef) (rest remainder : List Bool) → TakesBits m
    → (a : Resolves m from string slot rest) (b : Resolves m from string other remainder)
    → (a.links ≡ b.links) × (a.last ≡ b.last) × (slot ≡ other) × (rest ≡ remainder)
unique m from string slot other rest remainder takes a b =
    let ends_a = subst (λ (s : SlotRef). (rest ≡ []) ⊎ (level_at m s ≡ None)) (sym a.selects) a.ends in
    let ends_b = subst (λ (s : SlotRef). (remainder ≡ []) ⊎ (level_at m s ≡ None)) (sym b.selects) b.ends in
    let same =
    same_chain m from string a.links b.links a.last b.last rest remainder takes a.leads a.whole a.spells ends_a b.leads
    b.whole b.spells ends_b in
    (same.0, same.1, sym a.selects ∙ ap selected same.1 ∙ b.selects, same.2)

pub unique_failure :
    (m : Machine) (from : Level) (string : List Bool) (failure other : LookupFailure)
    → (a : Misses m from string failure) (b : Misses m from string other)
    → (a.links ≡ b.links) × (a.to ≡ b.to) × (a.rest ≡ b.rest) × (failure ≡ other)
unique_failure m from string failure other a b =
    same_miss m from string a.links b.links a.to b.to a.rest b.rest failure other a.leads a.spells a.why b.leads b.spells b.why

pub never_both :
    (m : Machine) (from : Level) (string : List Bool) (slot : SlotRef) (rest : List Bool) (failure : LookupFailure)
    → Resolves m from string slot rest → Misses m from string failure → ⊥
never_both m from string slot rest failure a b =
    let ends = subst (λ (s : SlotRef). (rest ≡ []) ⊎ (level_at m s ≡ None)) (sym a.selects) a.ends in
    not_both m from string a.links b.links a.last b.to rest b.rest failure a.leads a.whole a.spells ends b.leads b.spells b.left
    b.why

-- the chain of the lookup of a thread's address is the only one
pub one_way :
    (m : Machine) (thread : ObjId) (address : ℕ) (slot other : SlotRef) (left remainder : ℕ) → TakesBits m
    → (a : Finds m thread address slot left) (b : Finds m thread address other remainder)
    → (a.root ≡ b.root) × (a.resolves.links ≡ b.resolves.links) × (a.resolves.last ≡ b.resolves.last) × (a.rest ≡ b.rest)
one_way m thread address slot other left remainder takes a b =
    let root : a.root ≡ b.root = same_Some a.root b.root (sym a.rooted ∙ b.rooted) in
    let leads = subst (λ (r : Level). Leads m r b.resolves.links b.resolves.last.level) (sym root) b.resolves.leads in
    let moved : Resolves m a.root (bits 64 address) other b.rest =
    record {
      links = b.resolves.links;
      last = b.resolves.last;
      leads = leads;
      whole = b.resolves.whole;
      spells = b.resolves.spells;
      selects = b.resolves.selects;
      ends = b.resolves.ends;
    }
    in
    let same = unique m a.root (bits 64 address) slot other a.rest b.rest takes a.resolves moved in
    (root, same.0, same.1, same.3)

-- what a result says

module _ (m : Machine) (thread : ObjId) (address : ℕ) (result : Result (SlotRef × ℕ) Cause) (takes : TakesBits m)
    (is : result ≡ lookup_of m thread address) where
  pub found_where : (slot : SlotRef) (left : ℕ) → (result ≡ Ok (slot, left)) ↔ Finds m thread address slot left
  found_where slot left =
      (λ e. finds m thread address slot left takes (sym is ∙ e), λ h. is ∙ found m thread address slot left takes h)

  pub failed_where : (failure : LookupFailure) → (result ≡ Err (FailedLookup failure)) ↔ Fails m thread address failure
  failed_where failure =
      (λ e. fails m thread address failure takes (sym is ∙ e), λ h. is ∙ failed m thread address failure takes h)

  pub not_missing : result ≡ Err (FailedLookup MissingCapability) → ⊥
  not_missing e = never_missing m thread address (fails m thread address MissingCapability takes (sym is ∙ e))

-- what a result says once its cause is written as a refusal

same_detail : (a b : LookupFailure) → failure_detail a ≡ failure_detail b → a ≡ b
same_detail InvalidRoot InvalidRoot e = refl
same_detail MissingCapability MissingCapability e = refl
same_detail DepthMismatch DepthMismatch e = refl
same_detail GuardMismatch GuardMismatch e = refl
same_detail _ _ e = absurd (omega arith)

pub same_cause :
    (cause : Cause) (failure : LookupFailure) → refusal_of cause ≡ refusal_of (FailedLookup failure)
    → cause ≡ FailedLookup failure
same_cause (FailedLookup given) failure e = ap FailedLookup (same_detail given failure (ap (λ (r : Refusal). r.detail) e))
same_cause _ failure e = absurd (omega (arith, ap (λ (r : Refusal). r.code) e))

abbrev pub refused : Result (SlotRef × ℕ) Cause → Result (SlotRef × ℕ) Refusal
refused (Ok place) = Ok place
refused (Err cause) = Err (refusal_of cause)

refused_ok : (r : Result (SlotRef × ℕ) Cause) (place : SlotRef × ℕ) → refused r ≡ Ok place → r ≡ Ok place
refused_ok (Ok given) place e = let same : given ≡ place = cc in ap Ok same
refused_ok (Err cause) place e = cc

refused_err :
    (r : Result (SlotRef × ℕ) Cause) (failure : LookupFailure) → refused r ≡ Err (refusal_of (FailedLookup failure))
    → r ≡ Err (FailedLookup failure)
refused_err (Ok given) failure e = cc
refused_err (Err cause) failure e =
    let same : refusal_of cause ≡ refusal_of (FailedLookup failure) = cc in ap Err (same_cause cause failure same)

module _ (P : Type 0) (r : Result (SlotRef × ℕ) Cause) (q : Result (SlotRef × ℕ) Refusal) (is : q ≡ refused r) where
  pub refused_found : (place : SlotRef × ℕ) → (r ≡ Ok place) ↔ P → (q ≡ Ok place) ↔ P
  refused_found place found_so = (λ e. found_so.0 (refused_ok r place (sym is ∙ e)), λ h. is ∙ ap refused (found_so.1 h))

  pub refused_failed :
      (failure : LookupFailure) → (r ≡ Err (FailedLookup failure)) ↔ P → (q ≡ Err (refusal_of (FailedLookup failure))) ↔ P
  refused_failed failure failed_so = (λ e. failed_so.0 (refused_err r failure (sym is ∙ e)), λ h. is ∙ ap refused (failed_so.1 h))
