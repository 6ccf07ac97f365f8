-- Objects that differ in a watermark alone, and objects as they are when they are made.
use Rattle.std.{specs.Prelude.{AllPairs, Contains, None, Option, Some, option_map}, proofs.Common.{[], ℕ, ◌<◌, ◌≡◌, ◌≢◌, ◌≤◌, ◌⊎◌}}
use Rattle.{std.proofs.{Common.{List, ap, arith, inl, inr, length, refl}, lemmas.Bool.cases_order}, base.specs.declared.ids.ObjId.ObjId}
use Rattle.machine.specs.declared.object.{Object.{Object, Object as o}, ObjectKind.ObjectKind, ReplyState.ReplyState as reply}
use Rattle.machine.specs.declared.{object.Untyped.Untyped, thread.RunState.RunState as state}
use Rattle.machine.specs.{Machine.{Machine, object_of}, Objects.{address_of, end_of, kind_of_object, slot_count, word_count}}
use Rattle.machine.{specs.WellFormed.{IsRanged, LiesIn, kind_of}, proofs.ObjectMade.marked}

-- an object as it is when it is made: it has links to no other, and untyped memory is unused
abbrev pub IsUnlinked : Object → Type 0
IsUnlinked (o.Untyped memory) = memory.watermark ≡ memory.base
IsUnlinked (o.Tcb thread) = (thread.state ≡ state.Inactive) × (thread.context ≡ None)
IsUnlinked (o.Reply answers) = answers.state ≡ reply.Free
IsUnlinked (o.Context context) = context.thread ≡ None
IsUnlinked (o.Control _) = ⊥
IsUnlinked _ = Unit {0}

-- an object shows what another shows, but for a watermark
pub record IsLike (now old : Object) : Type 0 where
  pub kind : kind_of_object now ≡ kind_of_object old
  pub slots : slot_count now ≡ slot_count old
  pub words : word_count now ≡ word_count old
  pub address : address_of now ≡ address_of old
  pub end : end_of now ≡ end_of old
  pub ranged : IsRanged old → IsRanged now
  pub lies : (memory : Untyped) → LiesIn memory old → LiesIn memory now

pub like_itself : (object : Object) → IsLike object object
like_itself object =
    record {
      kind = refl;
      slots = refl;
      words = refl;
      address = refl;
      end = refl;
      ranged = λ h. h;
      lies = λ memory h. h;
    }

pub like_marked : (memory : Untyped) (mark was : ℕ) → IsLike (o.Untyped (marked memory mark)) (o.Untyped (marked memory was))
like_marked memory mark was =
    record {
      kind = refl;
      slots = refl;
      words = refl;
      address = refl;
      end = refl;
      ranged = λ h. h;
      lies = λ over h. h;
    }

pub lies_marked : (memory : Untyped) (mark : ℕ) (object : Object) → LiesIn memory object → LiesIn (marked memory mark) object
lies_marked memory mark (o.Control _) h = h
lies_marked memory mark _ h = h

-- a new object lies in memory if its range does
pub lies_within :
    (memory : Untyped) (object : Object) → IsUnlinked object → memory.base ≤ address_of object
    → end_of object ≤ end_of (o.Untyped memory) → LiesIn memory object
lies_within memory (o.Control _) unlinked low high = unlinked
lies_within memory _ unlinked low high = (low, high)

pub range_within :
    (memory inner : Untyped) → LiesIn memory (o.Untyped inner)
    → (memory.base ≤ inner.base) × (end_of (o.Untyped inner) ≤ end_of (o.Untyped memory))
range_within memory inner h = h

pub of_kind :
    (m : Machine) (q : ObjId) (of : ObjectKind) → kind_of m q ≡ Some of
    → (object : Object) × (object_of m q ≡ Some object) × (kind_of_object object ≡ of)
of_kind m q of e = by_found (object_of m q) refl e where
  by_found :
      (found : Option Object) → object_of m q ≡ found → option_map kind_of_object found ≡ Some of
      → (object : Object) × (object_of m q ≡ Some object) × (kind_of_object object ≡ of)
  by_found None is e = cc
  by_found (Some object) is e = (object, is, cc)

pub nobody_in : (threads : List ObjId) (thread : ObjId) → threads ≡ [] → ¬ (Contains threads thread)
nobody_in threads thread none there =
    let less : there.0 < length threads = there.1 in
    let zero_long : length threads ≡ 0 = ap (λ (l : List ObjId). length l) none in
    omega (arith, less, zero_long)

pub nobody_twice : (threads : List ObjId) → threads ≡ [] → AllPairs (λ a b. a ≢ b) threads
nobody_twice threads none i j d less within =
    let zero_long : length threads ≡ 0 = ap (λ (l : List ObjId). length l) none in
    absurd (omega (arith, less, within, zero_long))

pub in_order : (a b : ObjId) → (a ≡ b) ⊎ ((a.0 < b.0) ⊎ (b.0 < a.0))
in_order a b = by_case (cases_order a.0 b.0) where
  by_case : (a.0 ≡ b.0) ⊎ ((a.0 < b.0) ⊎ (b.0 < a.0)) → (a ≡ b) ⊎ ((a.0 < b.0) ⊎ (b.0 < a.0))
  by_case (inl same) = inl (ap (λ n. record { 0 = n }) same)
  by_case (inr apart) = inr apart
