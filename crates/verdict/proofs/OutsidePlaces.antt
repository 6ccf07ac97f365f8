-- The places of one object where a machine's authority lies outside the policy, by each of the rules A1 to A6.
use Rattle.std.{specs.Prelude.◌↔◌, proofs.Common.{[], ℕ, ◌++◌, ◌<◌, ◌∙◌, ◌∷◌, ◌≡◌, ◌≤◌, ◌⊎◌, IsTrue, List, None, Option, Some, ap, arith}}
use Rattle.std.proofs.{Common.{false, inl, inr, refl, subst, sym, true}, lemmas.{Bool.ltb-true, Option.{none-some, same_Some}}}
use Rattle.base.specs.{declared.{ids.{ObjId.ObjId, SlotRef.SlotRef}, kind.Kind.{Kind, Kind as authority}}, Kinds.kind_number}
use Rattle.machine.specs.{declared.{cap.Cap.Cap, object.Object.Object}, Authority.label_of, Capabilities.gives, Layout.Layout}
use Rattle.machine.specs.{Machine.{Machine, cap_of, has_slot, object_of, parent_of}, Objects.slot_count, WellFormed.kind_of}
use Rattle.machine.specs.declared.object.ObjectKind.TheVariants as kind
use Rattle.policy.{specs.{Domain.EdgeTest, Places.{Begins, IsLeast, IsNone, IsUnder}}, proofs.KindNumbers.{all_kinds, kind_stands}}
use Rattle.policy.proofs.{KindNumbers.{number_stands, same_kind}, Places.{IsMade, Searches, decided, least_made, none_made}}
use Rattle.policy.proofs.{Places.{not_before_itself, only_least}, Sweep.{numbers, stands, stands_alone}}
use Rattle.verdict.specs.{declared.denial.Denial.{Denial, Denial as denial}, Outside.{LiesOutside, LiesUnder}, Rules.{Exceeds, Excess, a1}}
use Rattle.verdict.specs.{Rules.{a2, a3, a4, a5, a6}, Sources.{holds_in, keeps_in, lent_context_in, of_machine, own_context_in}}
use Rattle.verdict.{specs.Verdict.place_of, proofs.OneVerdict.same_id}
use mathlib.Core.Bool.{false≢true}

-- searches over the numbers below n, and over the kinds

pub of_numbers :
    {X : Type 0} (place : X → List ℕ) (P : X → Type 0) (beginning : List ℕ) (n : ℕ)
    → ((x : X) → IsUnder place P beginning x → (k : ℕ) × (k < n) × Begins (beginning ++ k ∷ []) (place x))
    → Searches place P beginning (numbers n) (λ k. k ∷ [])
of_numbers place P beginning n within = record {
  covers = λ x under. let at = within x under in (at.0, at.0, stands n at.0 at.1, at.2);
  rises = λ i j a b lt at_i at_j.
      let one = stands_alone n i a at_i in let other = stands_alone n j b at_j in inl (omega (arith, lt, one, other));
}

pub of_kinds :
    {X : Type 0} (place : X → List ℕ) (P : X → Type 0) (beginning : List ℕ)
    → ((x : X) → IsUnder place P beginning x → (k : Kind) × Begins (beginning ++ kind_number k ∷ []) (place x))
    → Searches place P beginning all_kinds (λ k. kind_number k ∷ [])
of_kinds place P beginning within = record {
  covers = λ x under. let at = within x under in (kind_number at.0, at.0, kind_stands at.0, at.1);
  rises = λ i j a b lt at_i at_j.
      let one = number_stands i a at_i in let other = number_stands j b at_j in inl (omega (arith, lt, one, other));
}

-- a slot of an object has an index below the number of its slots
pub slot_below :
    (m : Machine) (slot : SlotRef) (object : Object) → object_of m slot.holder ≡ Some object → IsTrue (has_slot m slot)
    → slot.index < slot_count object
slot_below m slot object is there = ltb-true _ _ (rw is at there)

module _ (t : Layout) (allowed : EdgeTest) (m : Machine) where
  abbrev Out : Excess → Type 0
  Out = Exceeds (of_machine t m) allowed

  -- the places of an object that lie outside, rule by rule

  abbrev slot_at : ObjId → ℕ → SlotRef
  slot_at id index = record { holder = id; index = index }

  pub by_a1 :
      (id : ObjId) (rest : List ℕ) (Q : Denial → Type 0)
      → ((index : ℕ) (k : Kind) (l : ℕ) → Begins rest (index ∷ kind_number k ∷ l ∷ [])
      → Out (Excess.capability (slot_at id index) k l) → Q (denial.Capability (slot_at id index) k l))
      → (d : Denial) → LiesUnder t allowed m (a1 ∷ id.0 ∷ rest) d → Q d
  by_a1 id rest Q f (denial.Capability slot k l) h =
      subst (λ (h : ObjId). Out (Excess.capability (slot_at h slot.index) k l) → Q (denial.Capability (slot_at h slot.index) k l))
      (same_id id slot.holder h.0.1.0) (f slot.index k l h.0.1.1) h.1
  by_a1 id rest Q f (denial.Policy b) h = absurd h.1
  by_a1 id rest Q f (denial.Sharp b) h = absurd h.1
  by_a1 id rest Q f _ h = absurd (omega (arith, h.0.0))

  pub by_a2 :
      (id : ObjId) (Q : Denial → Type 0)
      → ((index : ℕ) (l : ℕ) → Out (Excess.root (slot_at id index) l) → Q (denial.Root (slot_at id index) l))
      → (d : Denial) → LiesUnder t allowed m (a2 ∷ id.0 ∷ []) d → Q d
  by_a2 id Q f (denial.Root slot l) h =
      subst (λ (h : ObjId). Out (Excess.root (slot_at h slot.index) l) → Q (denial.Root (slot_at h slot.index) l))
      (same_id id slot.holder h.0.1.0) (f slot.index l) h.1
  by_a2 id Q f (denial.Policy b) h = absurd h.1
  by_a2 id Q f (denial.Sharp b) h = absurd h.1
  by_a2 id Q f _ h = absurd (omega (arith, h.0.0))

  pub by_a3 :
      (id : ObjId) (rest : List ℕ) (Q : Denial → Type 0)
      → ((index : ℕ) (p : SlotRef) → Begins rest (index ∷ p.holder.0 ∷ p.index ∷ [])
      → Out (Excess.pair (slot_at id index) p) → Q (denial.Pair (slot_at id index) p))
      → (d : Denial) → LiesUnder t allowed m (a3 ∷ id.0 ∷ rest) d → Q d
  by_a3 id rest Q f (denial.Pair child p) h =
      subst (λ (h : ObjId). Out (Excess.pair (slot_at h child.index) p) → Q (denial.Pair (slot_at h child.index) p))
      (same_id id child.holder h.0.1.0) (f child.index p h.0.1.1) h.1
  by_a3 id rest Q f (denial.Policy b) h = absurd h.1
  by_a3 id rest Q f (denial.Sharp b) h = absurd h.1
  by_a3 id rest Q f _ h = absurd (omega (arith, h.0.0))

  pub by_a4 :
      (id : ObjId) (Q : Denial → Type 0) → ((context : ObjId) → Out (Excess.binding id context) → Q (denial.Binding id context))
      → (d : Denial) → LiesUnder t allowed m (a4 ∷ id.0 ∷ []) d → Q d
  by_a4 id Q f (denial.Binding thread context) h =
      subst (λ (h : ObjId). Out (Excess.binding h context) → Q (denial.Binding h context)) (same_id id thread h.0.1.0) (f context) h.1
  by_a4 id Q f (denial.Policy b) h = absurd h.1
  by_a4 id Q f (denial.Sharp b) h = absurd h.1
  by_a4 id Q f _ h = absurd (omega (arith, h.0.0))

  pub by_a5 :
      (id : ObjId) (Q : Denial → Type 0) → ((thread : ObjId) → Out (Excess.holding id thread) → Q (denial.Holding id thread))
      → (d : Denial) → LiesUnder t allowed m (a5 ∷ id.0 ∷ []) d → Q d
  by_a5 id Q f (denial.Holding reply thread) h =
      subst (λ (h : ObjId). Out (Excess.holding h thread) → Q (denial.Holding h thread)) (same_id id reply h.0.1.0) (f thread) h.1
  by_a5 id Q f (denial.Policy b) h = absurd h.1
  by_a5 id Q f (denial.Sharp b) h = absurd h.1
  by_a5 id Q f _ h = absurd (omega (arith, h.0.0))

  pub by_a6 :
      (id : ObjId) (rest : List ℕ) (Q : Denial → Type 0)
      → ((k : Kind) (l : ℕ) → Begins rest (kind_number k ∷ l ∷ []) → Out (Excess.recorded id k l) → Q (denial.Recorded id k l))
      → (d : Denial) → LiesUnder t allowed m (a6 ∷ id.0 ∷ rest) d → Q d
  by_a6 id rest Q f (denial.Recorded thread k l) h =
      subst (λ (h : ObjId). Out (Excess.recorded h k l) → Q (denial.Recorded h k l)) (same_id id thread h.0.1.0) (f k l h.0.1.1) h.1
  by_a6 id rest Q f (denial.Policy b) h = absurd h.1
  by_a6 id rest Q f (denial.Sharp b) h = absurd h.1
  by_a6 id rest Q f _ h = absurd (omega (arith, h.0.0))

  -- the policy lacks an edge from a label to the label of an object
  abbrev pub Lacks : ℕ → Kind → ObjId → ℕ → Type 0
  Lacks from k end l = (label_of t m end ≡ Some l) × (allowed from k l ≡ false)

  -- the denials of one form, which are those of an edge that the policy lacks
  pub record IsBy (U : Denial → Type 0) (from : ℕ) (k : Kind) (end : ObjId) (make : ℕ → Denial) : Type 0 where
    pub of : (d : Denial) → U d → (l : ℕ) × (d ≡ make l) × Lacks from k end l
    pub has : (l : ℕ) → Lacks from k end l → U (make l)

  module _
      {U : Denial → Type 0} {from : ℕ} {k : Kind} {end : ObjId} {make : ℕ → Denial} (by : IsBy U from k end make) (found : Option ℕ)
      (tells : (l : ℕ) → (found ≡ Some l) ↔ Lacks from k end l) where
    pub least_lacking : (l : ℕ) → found ≡ Some l → IsLeast place_of U (make l)
    least_lacking l is =
        only_least place_of U (make l) (by.has l ((tells l).0 is))
        (λ d u. let at = by.of d u in at.1 ∙ ap make (same_Some at.0 l (sym ((tells at.0).1 at.2) ∙ is)))

  module _ (id : ObjId) (from : ℕ) (source : label_of t m id ≡ Some from) where
    lacks : (k : Kind) (x l : ℕ) → label_of t m id ≡ Some x → allowed x k l ≡ false → allowed from k l ≡ false
    lacks k x l is = subst (λ (f : ℕ). allowed f k l ≡ false) (same_Some x from (sym is ∙ source))

    -- A1

    pub node_slots :
        ((slot : SlotRef) (held : Cap) → cap_of m slot ≡ Some held → IsTrue (has_slot m slot)) → (object : Object)
        → object_of m id ≡ Some object → (n : ℕ) → n ≡ slot_count object
        → Searches place_of (LiesOutside t allowed m) (a1 ∷ id.0 ∷ []) (numbers n) (λ k. k ∷ [])
    node_slots in_slots object is n count =
        of_numbers place_of (LiesOutside t allowed m) (a1 ∷ id.0 ∷ []) n
        (by_a1 id [] (λ d. (k : ℕ) × (k < n) × Begins (a1 ∷ id.0 ∷ k ∷ []) (place_of d))
        (λ index k l at x.
        let below = slot_below m (slot_at id index) object is (in_slots _ x.there.0 x.there.1) in
        (index, omega (arith, below, count), (refl, (refl, (refl, tt))))))

    module _ (index : ℕ) where
      abbrev slot : SlotRef
      slot = slot_at id index

      pub slot_kinds :
          Searches place_of (LiesOutside t allowed m) (a1 ∷ id.0 ∷ index ∷ []) all_kinds (λ k. kind_number k ∷ [])
      slot_kinds =
          of_kinds place_of (LiesOutside t allowed m) (a1 ∷ id.0 ∷ index ∷ [])
          (by_a1 id (index ∷ []) (λ d. (k : Kind) × Begins (a1 ∷ id.0 ∷ index ∷ kind_number k ∷ []) (place_of d))
          (λ i k l at x. (k, (refl, (refl, (at.0, (refl, tt)))))))

      module _ (k : Kind) (held : Cap) (filled : cap_of m slot ≡ Some held) where
        filled_same : (i : ℕ) → index ≡ i → (other : Cap) → cap_of m (slot_at id i) ≡ Some other → held ≡ other
        filled_same i same other is =
            same_Some held other (sym filled ∙ ap (λ n. cap_of m (slot_at id n)) same ∙ is)

        pub not_given : gives held.detail k ≡ false → IsNone (LiesUnder t allowed m (a1 ∷ id.0 ∷ index ∷ kind_number k ∷ []))
        not_given not =
            by_a1 id (index ∷ kind_number k ∷ []) (λ d. ⊥)
            (λ i other l at x.
            false≢true (sym not ∙ ap (gives held.detail) (same_kind k other at.1.0)
            ∙ ap (λ (c : Cap). gives c.detail other) (filled_same i at.0 x.there.0 x.there.1) ∙ x.there.4))

        pub capability_by :
            kind_of m id ≡ Some kind.CNode → gives held.detail k ≡ true
            → IsBy (LiesUnder t allowed m (a1 ∷ id.0 ∷ index ∷ kind_number k ∷ [])) from k held.object (denial.Capability slot k)
        capability_by node given = record {
          of = by_a1 id (index ∷ kind_number k ∷ []) (λ d. (l : ℕ) × (d ≡ denial.Capability slot k l) × Lacks from k held.object l)
              (λ i other l at x. (
                x.to,
                λ j. denial.Capability (slot_at id (sym at.0 j)) (sym (same_kind k other at.1.0) j) (same_Some l x.to x.target j),
                (
                  ap (λ (c : Cap). label_of t m c.object) (filled_same i at.0 x.there.0 x.there.1) ∙ x.there.3 ∙ x.target,
                  lacks k x.from x.to x.source (ap (λ k. allowed x.from k x.to) (same_kind k other at.1.0) ∙ x.missing),
                ),
              ));
          has = λ l lacking. (
            (refl, (refl, (refl, (refl, tt)))),
            record {
              from = from;
              to = l;
              there = (held, filled, node, lacking.0, given);
              source = source;
              target = refl;
              missing = lacking.1;
            },
          );
        }

    -- A2

    module _
        (in_slots : (slot : SlotRef) (held : Cap) → cap_of m slot ≡ Some held → IsTrue (has_slot m slot)) (object : Object)
        (is : object_of m id ≡ Some object) (alone : slot_count object ≡ 1) where
      only_slot : (index : ℕ) (held : Cap) → cap_of m (slot_at id index) ≡ Some held → index ≡ 0
      only_slot index held filled =
          let below = slot_below m (slot_at id index) object is (in_slots _ held filled) in omega (arith, below, alone)

      pub root_by :
          (held : Cap) → cap_of m (slot_at id 0) ≡ Some held → kind_of m id ≡ Some kind.Tcb
          → IsBy (LiesUnder t allowed m (a2 ∷ id.0 ∷ [])) from authority.Space held.object
          (λ l. denial.Root (slot_at id 0) l)
      root_by held filled thread = record {
        of = by_a2 id (λ d. (l : ℕ) × (d ≡ denial.Root (slot_at id 0) l) × Lacks from authority.Space held.object l)
            (λ index l x.
            let zero_is = only_slot index x.there.0 x.there.1 in (
              x.to,
              λ j. denial.Root (slot_at id (zero_is j)) (same_Some l x.to x.target j),
              (
                ap (λ (c : Cap). label_of t m c.object)
                    (same_Some held x.there.0 (sym filled ∙ ap (λ n. cap_of m (slot_at id n)) (sym zero_is) ∙ x.there.1))
                    ∙ x.there.3 ∙ x.target,
                lacks authority.Space x.from x.to x.source x.missing,
              ),
            ));
        has = λ l lacking. (
          (refl, (refl, tt)),
          record { from = from; to = l; there = (held, filled, thread, lacking.0); source = source; target = refl; missing = lacking.1 },
        );
      }

    -- A3, by the holder of the child

    pub child_slots :
        ((slot parent : SlotRef) → parent_of m slot ≡ Some parent → IsTrue (has_slot m slot)) → (object : Object)
        → object_of m id ≡ Some object → (n : ℕ) → n ≡ slot_count object
        → Searches place_of (LiesOutside t allowed m) (a3 ∷ id.0 ∷ []) (numbers n) (λ k. k ∷ [])
    child_slots in_slots object is n count =
        of_numbers place_of (LiesOutside t allowed m) (a3 ∷ id.0 ∷ []) n
        (by_a3 id [] (λ d. (k : ℕ) × (k < n) × Begins (a3 ∷ id.0 ∷ k ∷ []) (place_of d))
        (λ index p at x.
        let below = slot_below m (slot_at id index) object is (in_slots _ p x.there) in
        (index, omega (arith, below, count), (refl, (refl, (refl, tt))))))

    -- A4

    contexts : IsMade place_of (LiesOutside t allowed m) (a4 ∷ id.0 ∷ []) (denial.Binding id) (λ (context : ObjId). context.0 ∷ [])
    contexts = record {
      of = by_a4 id (λ d. (context : ObjId) × (d ≡ denial.Binding id context)) (λ context x. (context, refl));
      placed = λ context. refl;
    }

    -- the policy lacks the edge to the label of this context
    abbrev pub IsLacked : Option ObjId → ObjId → Type 0
    IsLacked looked context = (looked ≡ Some context) × ((l : ℕ) × Lacks from authority.Runs context l)

    -- the lesser one of a thread's context and the context that it lent, of those whose edge is lacking
    module _
        (bound lent first : Option ObjId)
        (tells_bound : (context : ObjId) → (bound ≡ Some context) ↔ IsLacked (own_context_in (object_of m id)) context)
        (tells_lent : (context : ObjId) → (lent ≡ Some context) ↔ IsLacked (lent_context_in (object_of m id)) context)
        (is_one : (context : ObjId) → first ≡ Some context → (bound ≡ Some context) ⊎ (lent ≡ Some context))
        (is_lesser :
        (context : ObjId) → (bound ≡ Some context) ⊎ (lent ≡ Some context)
        → (least : ObjId) × (first ≡ Some least) × (least.0 ≤ context.0)) where
      lacked : (context : ObjId) → Out (Excess.binding id context) → (bound ≡ Some context) ⊎ (lent ≡ Some context)
      lacked context x =
          let lacking = lacks authority.Runs x.from x.to x.source x.missing in
          elim x.there [
            | inl is ↦ inl ((tells_bound context).1 (is, (x.to, (x.target, lacking))))
            | inr is ↦ inr ((tells_lent context).1 (is, (x.to, (x.target, lacking))))
          ]

      exceeds : (context : ObjId) → (bound ≡ Some context) ⊎ (lent ≡ Some context) → Out (Excess.binding id context)
      exceeds context (inl is) =
          let at = (tells_bound context).0 is in
          record { from = from; to = at.1.0; there = inl at.0; source = source; target = at.1.1.0; missing = at.1.1.1 }
      exceeds context (inr is) =
          let at = (tells_lent context).0 is in
          record { from = from; to = at.1.0; there = inr at.0; source = source; target = at.1.1.0; missing = at.1.1.1 }

      pub no_binding : first ≡ None → IsNone (LiesUnder t allowed m (a4 ∷ id.0 ∷ []))
      no_binding none =
          none_made contexts (λ context x.
          let least = is_lesser context (lacked context x) in none-some least.0 (sym none ∙ least.1))

      pub least_binding :
          (context : ObjId) → first ≡ Some context
          → IsLeast place_of (LiesUnder t allowed m (a4 ∷ id.0 ∷ [])) (denial.Binding id context)
      least_binding context is =
          least_made contexts context (exceeds context (is_one context is)) (λ other x before.
          let least = is_lesser other (lacked other x) in
          let same : least.0.0 ≡ context.0 = ap (λ (i : ObjId). i.0) (same_Some least.0 context (sym least.1 ∙ is)) in
          elim (decided other.0 context.0 _ before) [
            | inl less ↦ omega (arith, least.2, same, less)
            | inr tied ↦ not_before_itself [] tied.1
          ])

    -- A5

    module _ (held : Option ObjId) (tells : (thread : ObjId) → (held ≡ Some thread) ↔ (holds_in (object_of m id) thread ≡ true)) where
      pub holding_by :
          (thread : ObjId) → held ≡ Some thread
          → IsBy (LiesUnder t allowed m (a5 ∷ id.0 ∷ [])) from authority.Holds thread (λ l. denial.Holding id thread)
      holding_by thread is = record {
        of = by_a5 id (λ d. (l : ℕ) × (d ≡ denial.Holding id thread) × Lacks from authority.Holds thread l)
            (λ other x.
            let same = same_Some thread other (sym is ∙ (tells other).1 x.there) in
            (x.to, ap (denial.Holding id) (sym same), (ap (label_of t m) same ∙ x.target, lacks authority.Holds x.from x.to x.source x.missing)));
        has = λ l lacking. (
          (refl, (refl, tt)),
          record { from = from; to = l; there = (tells thread).0 is; source = source; target = lacking.0; missing = lacking.1 },
        );
      }

    -- A6

    pub kept_kinds : Searches place_of (LiesOutside t allowed m) (a6 ∷ id.0 ∷ []) all_kinds (λ k. kind_number k ∷ [])
    kept_kinds =
        of_kinds place_of (LiesOutside t allowed m) (a6 ∷ id.0 ∷ [])
        (by_a6 id [] (λ d. (k : Kind) × Begins (a6 ∷ id.0 ∷ kind_number k ∷ []) (place_of d))
        (λ k l at x. (k, (refl, (refl, (refl, tt))))))

    module _
        (k : Kind) (kept : Option ObjId) (tells : (end : ObjId) → (kept ≡ Some end) ↔ (keeps_in (object_of m id) k end ≡ true)) where
      kept_here : (other : Kind) → k ≡ other → (end : ObjId) → keeps_in (object_of m id) other end ≡ true → kept ≡ Some end
      kept_here other same end keeps = (tells end).1 (ap (λ k. keeps_in (object_of m id) k end) same ∙ keeps)

      pub record_by :
          (end : ObjId) → kept ≡ Some end
          → IsBy (LiesUnder t allowed m (a6 ∷ id.0 ∷ kind_number k ∷ [])) from k end (denial.Recorded id k)
      record_by end is = record {
        of = by_a6 id (kind_number k ∷ []) (λ d. (l : ℕ) × (d ≡ denial.Recorded id k l) × Lacks from k end l)
            (λ other l at x.
            let same = same_kind k other at.0 in
            let there = same_Some end x.there.0 (sym is ∙ kept_here other same x.there.0 x.there.1) in (
              x.to,
              λ j. denial.Recorded id (sym same j) (same_Some l x.to x.target j),
              (
                ap (label_of t m) there ∙ x.there.2 ∙ x.target,
                lacks k x.from x.to x.source (ap (λ k. allowed x.from k x.to) same ∙ x.missing),
              ),
            ));
        has = λ l lacking. (
          (refl, (refl, (refl, tt))),
          record { from = from; to = l; there = (end, (tells end).0 is, lacking.0); source = source; target = refl; missing = lacking.1 },
        );
      }
