-- The first denial at a slot: that of the least missing kind of its capability, or else of the pair whose child is the slot.
use Rattle.std.{specs.{List.{filter, find, flat_map}, Option.{option_and_then, option_or}}, proofs.Common.{[], ℕ, ◌&&◌, ◌++◌, ◌∙◌, ◌∷◌}}
use Rattle.std.proofs.Common.{◌≡◌, ◌≤◌, Bool, List, MatchOption, None, Option, Some, ap, arith, cond, false, inl, inr, lit<, not}
use Rattle.std.proofs.{Common.{option_map, refl, subst, sym, true}, lemmas.Bool.{and_from, and_parts, cases_order}}
use Rattle.std.proofs.lemmas.{List.Folds.find-append, Option.{none-some, same_Some}}
use Rattle.base.specs.{declared.{edge.Edge.Edge, ids.SlotRef.SlotRef, kind.Kind.{Kind, TheVariants.{Derive, Space}}}, Kinds.is_structural}
use Rattle.base.specs.Kinds.{kind_number}
use Rattle.machine.specs.{declared.{cap.Cap.Cap, object.ObjectKind.{ObjectKind, ObjectKind as object}}, Capabilities.gives, Layout.Layout}
use Rattle.machine.{specs.Layout.{declared_label, initial_cap, initial_parent}, proofs.AuthorityLemmas.gives_no_structure}
use Rattle.table.{specs.Rules.kind_at, proofs.Lookups.{FoundAt, found_at, none_found}}
use Rattle.policy.{specs.{Domain.EdgeTest, Places.{ComesBefore, FindsLeast, IsLeast, IsNone}}, proofs.KindNumbers.{all_kinds, kind_stands}}
use Rattle.policy.proofs.{KindNumbers.number_stands, Places.{decided, not_before_itself, only_least}}
use Rattle.labels.specs.SlotEdges.{cap_edges, edge_between, kinds_in, pair_edges}
use Rattle.verdict.specs.{declared.denial.Denial.Denial, Rules.{Exceeds, Excess, a1, a3}, Slots.{denial_by, is_missing, slot_denial}}
use Rattle.verdict.{specs.{Sources.of_table, Verdict.{Breaks, place_of, rule_number}}, proofs.RuleOrder.not_before_by_rule}
use Rattle.verdict.specs.declared.denial.Denial.TheVariants as denial
use mathlib.Core.Bool.{false≢true}

-- a denial names a slot
abbrev pub IsAt : SlotRef → Denial → Type 0
IsAt slot (denial.Capability place _ _) = place ≡ slot
IsAt slot (denial.Root place _) = place ≡ slot
IsAt slot (denial.Pair child _) = child ≡ slot
IsAt slot _ = ⊥

abbrev pub BreaksAt : Layout → EdgeTest → SlotRef → Denial → Type 0
BreaksAt t allowed slot d = IsAt slot d × Breaks t allowed d

-- the first kind that passes a test is the least that does

kinds_first :
    (test : Kind → Bool) (k : Kind) → find test all_kinds ≡ Some k
    → (test k ≡ true) × ((other : Kind) → test other ≡ true → kind_number k ≤ kind_number other)
kinds_first test k found = (at.passes, least) where
  at : FoundAt test all_kinds k
  at = found_at test all_kinds k found

  least : (other : Kind) → test other ≡ true → kind_number k ≤ kind_number other
  least other passes =
      let here = number_stands at.at k at.here in
      elim (cases_order (kind_number other) at.at) [
        | inl same ↦ omega (arith, here, same)
        | inr (inl below) ↦ absurd (false≢true (sym (at.before (kind_number other) other below (kind_stands other)) ∙ passes))
        | inr (inr above) ↦ omega (arith, here, above)
      ]

-- a search through the edges of given kinds is a search through all kinds
find_given :
    (given : Kind → Bool) (p : Edge → Bool) (edge : Kind → Edge) (kinds : List Kind)
    → find p (flat_map (λ k. edge k ∷ []) (filter given kinds)) ≡ option_map edge (find (λ k. given k && p (edge k)) kinds)
find_given given p edge [] = refl
find_given given p edge (k ∷ kinds) = by (given k) (p (edge k)) refl refl (find_given given p edge kinds) where
  by :
      (is passes : Bool) → given k ≡ is → p (edge k) ≡ passes
      → find p (flat_map (λ k. edge k ∷ []) (filter given kinds)) ≡ option_map edge (find (λ k. given k && p (edge k)) kinds)
      → find p (flat_map (λ k. edge k ∷ []) (filter given (k ∷ kinds))) ≡ option_map edge (find (λ k. given k && p (edge k)) (k ∷ kinds))
  by true true is passes later = rw (is, passes) refl
  by true false is passes later = rw (is, passes) later
  by false _ is passes later = rw is later

-- objects without labels have no edges
no_edges : (to : Option ℕ) (kinds : List Kind) → flat_map (edge_between None to) kinds ≡ []
no_edges to [] = refl
no_edges to (k ∷ kinds) = no_edges to kinds

no_edges_to : (from : Option ℕ) (kinds : List Kind) → flat_map (edge_between from None) kinds ≡ []
no_edges_to None kinds = no_edges None kinds
no_edges_to (Some from) [] = refl
no_edges_to (Some from) (k ∷ kinds) = no_edges_to (Some from) kinds

-- the greater of two numbers at the same position gives the later place
not_first : (beginning end : List ℕ) (n m : ℕ) → n ≤ m → ComesBefore (beginning ++ m ∷ end) (beginning ++ n ∷ end) → ⊥
not_first [] end n m le less = elim (decided m n _ less) [ inl lt ↦ omega arith | inr same ↦ not_before_itself end same.1 ]
not_first (b ∷ bs) end n m le less = elim (decided b b _ less) [ inl lt ↦ omega arith | inr same ↦ not_first bs end n m le same.1 ]

use_of : (held : Cap) (k : Kind) → gives held.detail k ≡ true → is_structural k ≡ false
use_of held k given = by (is_structural k) refl where
  by : (is : Bool) → is_structural k ≡ is → is_structural k ≡ false
  by true is = absurd (false≢true (sym (gives_no_structure held.detail k is) ∙ given))
  by false is = is

not_true : (b : Bool) → not b ≡ true → b ≡ false
not_true true is = absurd (false≢true is)
not_true false is = refl

module _ (t : Layout) (allowed : EdgeTest) (slot : SlotRef) where
  abbrev Out : Excess → Type 0
  Out = Exceeds (of_table t) allowed

  -- each denial at the slot, by its rule
  each :
      (Q : Denial → Type 0) → ((k : Kind) (l : ℕ) → Out (Excess.capability slot k l) → Q (denial.Capability slot k l))
      → ((l : ℕ) → Out (Excess.root slot l) → Q (denial.Root slot l)) → ((p : SlotRef) → Out (Excess.pair slot p) → Q (denial.Pair slot p))
      → (d : Denial) → BreaksAt t allowed slot d → Q d
  each Q cap root pair (denial.Capability place k l) h =
      subst (λ (s : SlotRef). Out (Excess.capability s k l) → Q (denial.Capability s k l)) (sym h.0) (cap k l) h.1
  each Q cap root pair (denial.Root place l) h = subst (λ (s : SlotRef). Out (Excess.root s l) → Q (denial.Root s l)) (sym h.0) (root l) h.1
  each Q cap root pair (denial.Pair child p) h = subst (λ (s : SlotRef). Out (Excess.pair s p) → Q (denial.Pair s p)) (sym h.0) (pair p) h.1
  each Q cap root pair _ h = absurd h.0

  -- only the pair can be broken
  abbrev PairOnly : Type 0
  PairOnly = (d : Denial) → BreaksAt t allowed slot d → a3 ≤ rule_number (Some d)

  -- the first missing edge of the capability is the least place
  abbrev CapFound : Option Edge → Type 0
  CapFound found =
      MatchOption found PairOnly
      (λ edge. (d : Denial) × (denial_by t slot edge.kind edge.to ≡ Some d) × IsLeast place_of (BreaksAt t allowed slot) d)

  pair_only :
      ((k : Kind) (l : ℕ) → Out (Excess.capability slot k l) → ⊥) → ((l : ℕ) → Out (Excess.root slot l) → ⊥) → PairOnly
  pair_only no_cap no_root = each (λ d. a3 ≤ rule_number (Some d)) (λ k l x. absurd (no_cap k l x)) (λ l x. absurd (no_root l x)) (λ p x. omega arith)

  by_use : (k : Kind) (l : ℕ) → is_structural k ≡ false → denial_by t slot k l ≡ Some (denial.Capability slot k l)
  by_use Space l is = cc
  by_use Derive l is = cc
  by_use _ l is = refl

  module _ (held : Cap) (filled : initial_cap t slot ≡ Some held) where
    target_is : (x : Cap) → initial_cap t slot ≡ Some x → declared_label t held.object ≡ declared_label t x.object
    target_is x is = ap (λ (c : Cap). declared_label t c.object) (same_Some held x (sym filled ∙ is))

    -- nothing is broken without a label
    no_source : declared_label t slot.holder ≡ None → PairOnly
    no_source none = pair_only (λ k l x. none-some x.from (sym none ∙ x.source)) (λ l x. none-some x.from (sym none ∙ x.source))

    no_target : declared_label t held.object ≡ None → PairOnly
    no_target none =
        pair_only (λ k l x. none-some l (sym none ∙ target_is x.there.0 x.there.1 ∙ x.there.3))
        (λ l x. none-some l (sym none ∙ target_is x.there.0 x.there.1 ∙ x.there.3))

    module _ (from to : ℕ) (source : declared_label t slot.holder ≡ Some from) (target : declared_label t held.object ≡ Some to) where
      missing_is : (k : Kind) (x y : ℕ) → declared_label t slot.holder ≡ Some x → declared_label t held.object ≡ Some y → allowed x k y ≡ false → allowed from k to ≡ false
      missing_is k x y is_x is_y missing =
          (λ i. allowed (same_Some from x (sym source ∙ is_x) i) k (same_Some to y (sym target ∙ is_y) i)) ∙ missing

      abbrev given_missing : Kind → Bool
      given_missing k = gives held.detail k && not (allowed from k to)

      exceeds : (k : Kind) (l : ℕ) → Out (Excess.capability slot k l) → (l ≡ to) × (given_missing k ≡ true)
      exceeds k l x =
          let is = target_is x.there.0 x.there.1 ∙ x.there.3 in (
            same_Some l to (sym is ∙ target),
            and_from (gives held.detail k) (not (allowed from k to))
                (ap (λ (c : Cap). gives c.detail k) (same_Some held x.there.0 (sym filled ∙ x.there.1)) ∙ x.there.4)
                (ap not (missing_is k x.from x.to x.source (is ∙ x.target) x.missing)),
          )

      -- a CNode's slot: the least kind that is given and missing
      in_node :
          kind_at t slot.holder ≡ Some object.CNode
          → CapFound (find (is_missing allowed) (flat_map (edge_between (Some from) (Some to)) (filter (gives held.detail) all_kinds)))
      in_node node =
          subst CapFound (sym (find_given (gives held.detail) (is_missing allowed) edge all_kinds)) (by (find given_missing all_kinds) refl)
        where
          edge : Kind → Edge
          edge k = record { from = from; kind = k; to = to }

          no_root : (l : ℕ) → Out (Excess.root slot l) → ⊥
          no_root l x = let same = same_Some object.CNode object.Tcb (sym node ∙ x.there.2) in cc

          by : (found : Option Kind) → find given_missing all_kinds ≡ found → CapFound (option_map edge found)
          by None none = pair_only
              (λ k l x. false≢true (sym (none_found given_missing all_kinds none (kind_number k) k (kind_stands k)) ∙ (exceeds k l x).1))
              no_root
          by (Some k) found =
              let first = kinds_first given_missing k found in
              let parts = and_parts (gives held.detail k) (not (allowed from k to)) first.0 in (
                denial.Capability slot k to,
                by_use k to (use_of held k parts.0),
                record {
                  has = (
                    refl,
                    record {
                      from = from;
                      to = to;
                      there = (held, filled, node, target, parts.0);
                      source = source;
                      target = refl;
                      missing = not_true (allowed from k to) parts.1;
                    },
                  );
                  first = each (λ d. ComesBefore (place_of d) (place_of (denial.Capability slot k to)) → ⊥)
                      (λ other l x.
                      let out = exceeds other l x in
                      subst (λ (n : ℕ). ComesBefore (place_of (denial.Capability slot other n)) (place_of (denial.Capability slot k to)) → ⊥)
                      (sym out.0)
                      (not_first (a1 ∷ slot.holder.0 ∷ slot.index ∷ []) (to ∷ []) (kind_number k) (kind_number other) (first.1 other out.1)))
                      (λ l x. absurd (no_root l x))
                      (λ p x. not_before_by_rule (place_of (denial.Capability slot k to)) (place_of (denial.Pair slot p)) (lit< tt));
                },
              )

      -- a thread's root slot: the kind space
      in_thread :
          kind_at t slot.holder ≡ Some object.Tcb → CapFound (find (is_missing allowed) (flat_map (edge_between (Some from) (Some to)) (Space ∷ [])))
      in_thread thread = by (allowed from Space to) refl where
        no_node : (k : Kind) (l : ℕ) → Out (Excess.capability slot k l) → ⊥
        no_node k l x = let same = same_Some object.Tcb object.CNode (sym thread ∙ x.there.2) in cc

        label_is : (l : ℕ) → Out (Excess.root slot l) → declared_label t held.object ≡ Some l
        label_is l x = target_is x.there.0 x.there.1 ∙ x.there.3

        by : (has : Bool) → allowed from Space to ≡ has → CapFound (cond (not has) (Some (record { from = from; kind = Space; to = to })) None)
        by true has = pair_only no_node
            (λ l x. false≢true (sym (missing_is Space x.from x.to x.source (label_is l x ∙ x.target) x.missing) ∙ has))
        by false missing = (
          denial.Root slot to,
          refl,
          record {
            has = (
              refl,
              record { from = from; to = to; there = (held, filled, thread, target); source = source; target = refl; missing = missing },
            );
            first = each (λ d. ComesBefore (place_of d) (place_of (denial.Root slot to)) → ⊥)
                (λ k l x. absurd (no_node k l x))
                (λ l x.
                subst (λ (n : ℕ). ComesBefore (place_of (denial.Root slot n)) (place_of (denial.Root slot to)) → ⊥)
                (same_Some to l (sym target ∙ label_is l x)) (not_before_itself (place_of (denial.Root slot to))))
                (λ p x. not_before_by_rule (place_of (denial.Root slot to)) (place_of (denial.Pair slot p)) (lit< tt));
          },
        )

  cap_found : (cap : Option Cap) → initial_cap t slot ≡ cap → CapFound (find (is_missing allowed) (cap_edges t slot cap))
  cap_found None empty =
      pair_only (λ k l x. none-some x.there.0 (sym empty ∙ x.there.1)) (λ l x. none-some x.there.0 (sym empty ∙ x.there.1))
  cap_found (Some held) filled =
      by (kind_at t slot.holder) refl (declared_label t slot.holder) refl (declared_label t held.object) refl where
        by :
            (kind : Option ObjectKind) → kind_at t slot.holder ≡ kind → (from : Option ℕ) → declared_label t slot.holder ≡ from
            → (to : Option ℕ) → declared_label t held.object ≡ to
            → CapFound (find (is_missing allowed) (flat_map (edge_between from to) (kinds_in kind held.detail)))
        by kind is None source to target =
            subst (λ (es : List Edge). CapFound (find (is_missing allowed) es)) (sym (no_edges to (kinds_in kind held.detail))) (no_source held filled source)
        by kind is (Some from) source None target =
            subst (λ (es : List Edge). CapFound (find (is_missing allowed) es)) (sym (no_edges_to (Some from) (kinds_in kind held.detail)))
            (no_target held filled target)
        by (Some object.CNode) is (Some from) source (Some to) target = in_node held filled from to source target is
        by (Some object.Tcb) is (Some from) source (Some to) target = in_thread held filled from to source target is
        by kind is (Some from) source (Some to) target =
            pair_only (λ k l x. let same = sym is ∙ x.there.2 in cc) (λ l x. let same = sym is ∙ x.there.2 in cc)

  -- nothing is broken if only the pair can be, and isn't
  nothing : PairOnly → ((p : SlotRef) → Out (Excess.pair slot p) → ⊥) → IsNone (BreaksAt t allowed slot)
  nothing only no_pair d h =
      each (λ e. a3 ≤ rule_number (Some e) → ⊥) (λ k l x le. omega (arith, le)) (λ l x le. omega (arith, le)) (λ p x le. no_pair p x) d h (only d h)

  abbrev denied : Option Edge → Option Denial
  denied = option_and_then (λ edge. denial_by t slot edge.kind edge.to)

  pair_found :
      (p : Option SlotRef) → initial_parent t slot ≡ p → PairOnly
      → FindsLeast place_of (BreaksAt t allowed slot) (denied (find (is_missing allowed) (pair_edges t slot p)))
  pair_found None none only = nothing only (λ p x. none-some p (sym none ∙ x.there))
  pair_found (Some parent) derived only = by (declared_label t parent.holder) refl (declared_label t slot.holder) refl where
    parent_is : (p : SlotRef) → Out (Excess.pair slot p) → p ≡ parent
    parent_is p x = same_Some p parent (sym x.there ∙ derived)

    source_is : (p : SlotRef) (x : Out (Excess.pair slot p)) → declared_label t parent.holder ≡ Some x.from
    source_is p x = ap (λ (s : SlotRef). declared_label t s.holder) (sym (parent_is p x)) ∙ x.source

    by_edge :
        (from to : ℕ) → declared_label t parent.holder ≡ Some from → declared_label t slot.holder ≡ Some to → (has : Bool)
        → allowed from Derive to ≡ has
        → FindsLeast place_of (BreaksAt t allowed slot) (denied (cond (not has) (Some (record { from = from; kind = Derive; to = to })) None))
    by_edge from to source target true has =
        nothing only (λ p x.
        false≢true (sym x.missing
        ∙ (λ i. allowed (same_Some x.from from (sym (source_is p x) ∙ source) i) Derive (same_Some x.to to (sym x.target ∙ target) i))
        ∙ has))
    by_edge from to source target false missing =
        subst (λ (found : Option SlotRef). FindsLeast place_of (BreaksAt t allowed slot) (option_map (λ p. denial.Pair slot p) found)) (sym derived)
        (only_least place_of (BreaksAt t allowed slot) (denial.Pair slot parent) (
          refl,
          record { from = from; to = to; there = derived; source = source; target = target; missing = missing },
        ) (λ d h.
        each (λ e. a3 ≤ rule_number (Some e) → e ≡ denial.Pair slot parent) (λ k l x le. absurd (omega (arith, le)))
        (λ l x le. absurd (omega (arith, le))) (λ p x le. ap (denial.Pair slot) (parent_is p x)) d h (only d h)))

    by :
        (from : Option ℕ) → declared_label t parent.holder ≡ from → (to : Option ℕ) → declared_label t slot.holder ≡ to
        → FindsLeast place_of (BreaksAt t allowed slot) (denied (find (is_missing allowed) (edge_between from to Derive)))
    by None source to target = nothing only (λ p x. none-some x.from (sym source ∙ source_is p x))
    by (Some from) source None target = nothing only (λ p x. none-some x.to (sym target ∙ x.target))
    by (Some from) source (Some to) target = by_edge from to source target (allowed from Derive to) refl

  pub slot_least : FindsLeast place_of (BreaksAt t allowed slot) (slot_denial t allowed slot)
  slot_least =
      subst (λ (found : Option Edge). FindsLeast place_of (BreaksAt t allowed slot) (denied found))
      (sym (find-append (is_missing allowed) (cap_edges t slot (initial_cap t slot)) (pair_edges t slot (initial_parent t slot))))
      (by (find (is_missing allowed) (cap_edges t slot (initial_cap t slot))) (cap_found (initial_cap t slot) refl))
    where
      by :
          (found : Option Edge) → CapFound found
          → FindsLeast place_of (BreaksAt t allowed slot)
          (denied (option_or found (find (is_missing allowed) (pair_edges t slot (initial_parent t slot)))))
      by None only = pair_found (initial_parent t slot) refl only
      by (Some edge) first = subst (FindsLeast place_of (BreaksAt t allowed slot)) (sym first.1) first.2
