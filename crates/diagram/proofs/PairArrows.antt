-- Drawings that grow label by label and pair by pair; and that an authority of a label on another has a reason with a first edge.
use mathlib.Core.Bool.{false≢true}
use Rattle.std.{specs.{List.{flat_map, range_with_len}, Prelude.{IfSome, IsSome, codes}}, proofs.Common.{[], ℕ, ◌++◌, ◌+◌, ◌<◌, ◌==◌}}
use Rattle.std.proofs.Common.{◌∙◌, ◌∷◌, ◌≡◌, ◌≢◌, List, None, Option, Some, ap, append_assoc, arith, false, length, refl, subst}
use Rattle.std.proofs.{Common.{sym, true}, lemmas.{Bool.Decides.nat_tests, List.{FromFn.map-range_with_len_more, append-nil}}}
use Rattle.{std.proofs.lemmas.List.flat_map_more, base.specs.declared.edge.Edge.Edge, machine.specs.Layout.Layout}
use Rattle.policy.specs.ActorReasons.{IsChangeBy, IsShrinkBy, change_edges, shrink_edges}
use Rattle.policy.specs.Change.{MayChangeContext.{binds, configures, lends, returns as returns_it}, WayToChange}
use Rattle.policy.specs.Change.WayToChange.{grants, links, modifies, notifies, own, receives, replies, sends, shares}
use Rattle.policy.specs.NarrowTake.{TakesByControl.{drops, releases, removes, wakes}, WayToShrink}
use Rattle.policy.specs.{NarrowTake.WayToShrink.{controls, ends, frees, halts, stops, unbinds}, Places.IsLeast, Reasons.reason_place}
use Rattle.{reach.specs.Extents.{Limits, MayChangeIn, MayShrinkIn}, summary.proofs.OneMore.range_more}
use Rattle.diagram.specs.Drawing.{AddsArrows, Draws, IsDrawnArrow, IsDrawnArrow.{dashed, itself, nothing, solid}, arrow_line, pairs_with}

with_more : (a n : ℕ) → pairs_with (n + 1) a ≡ pairs_with n a ++ (a, n) ∷ []
with_more a n = map-range_with_len_more (λ (l : ℕ). (a, l)) 0 n n (omega arith)

pairs_more : (count n : ℕ)
    → flat_map (pairs_with count) (range_with_len 0 (n + 1)) ≡ flat_map (pairs_with count) (range_with_len 0 n) ++ pairs_with count n
pairs_more count n =
    ap (flat_map (pairs_with count)) (range_more n) ∙ sym (flat_map_more (pairs_with count) [] (range_with_len 0 n) n)

-- an authority has a reason with at least one edge

is_there : (edge : Edge) (more edges : List Edge) → edge ∷ more ≡ edges → 0 < length edges
is_there edge more edges is = let P : List Edge → Type 0 = λ xs. 0 < length xs in subst P is (omega arith)

pub change_reason_there : (limits : Limits) (a l : ℕ) (edges : List Edge) → a ≢ l → IsChangeBy limits.test limits.acts a l edges → 0 < length edges
change_reason_there limits a l edges apart (may, is) = by may.way is where
  by : (way : WayToChange limits.test limits.acts a l) → change_edges way ≡ edges → 0 < length edges
  by (own one) is = absurd (apart (sym one))
  by (modifies kind is_changing there) is = is_there _ _ edges is
  by (shares (configures core used governed)) is = is_there _ _ edges is
  by (shares (binds thread used controlled)) is = is_there _ _ edges is
  by (shares (lends ran lent)) is = is_there _ _ edges is
  by (shares (returns_it ran borrowed)) is = is_there _ _ edges is
  by (sends endpoint sent received waits) is = is_there _ _ edges is
  by (receives endpoint received sent waits) is = is_there _ _ edges is
  by (notifies notification notified awaited waits) is = is_there _ _ edges is
  by (links endpoint receiver sent called received waits named) is = is_there _ _ edges is
  by (grants endpoint receiver granted received waits controlled) is = is_there _ _ edges is
  by (replies answer) is = is_there _ _ edges is

pub shrink_reason_there : (limits : Limits) (a l : ℕ) (edges : List Edge) → IsShrinkBy limits.test limits.acts a l edges → 0 < length edges
shrink_reason_there limits a l edges (may, is) = by may.way is where
  by : (way : WayToShrink limits.test limits.acts a l) → shrink_edges way ≡ edges → 0 < length edges
  by (unbinds used) is = is_there _ _ edges is
  by (stops context used ran) is = is_there _ _ edges is
  by (halts halt) is = is_there _ _ edges is
  by (ends reply receiver used named waits received) is = is_there _ _ edges is
  by (frees endpoint receiver sent received waits named) is = is_there _ _ edges is
  by (controls (removes controlled kind is_removed control there)) is = is_there _ _ edges is
  by (controls (releases caller control waits held)) is = is_there _ _ edges is
  by (controls (wakes controlled end kind is_waiting control reset there waits)) is = is_there _ _ edges is
  by (controls (drops controlled endpoint receiver control reset received waits named)) is = is_there _ _ edges is

headed : (edges : List Edge) → 0 < length edges → (edge : Edge) × (more : List Edge) × (edges ≡ edge ∷ more)
headed [] there = absurd (omega arith)
headed (edge ∷ more) there = (edge, more, refl)

pub differ : (a b : ℕ) → (a == b) ≡ false → a ≢ b
differ a b h = grind (arith, nat_tests)

pub same : (a b : ℕ) → (a == b) ≡ true → a ≡ b
same a b h = grind (arith, nat_tests)

pub label_is : (found : Option ℕ) (label n : ℕ) → found ≡ Some label → IfSome found (λ l. l ≡ n) → label ≡ n
label_is (Some l) label n is here = let at : l ≡ label = cc in sym at ∙ here
label_is None label n is here = cc

pub label_there : (found : Option ℕ) → found ≡ None → IsSome found → ⊥
label_there (Some label) is there = cc
label_there None is there = false≢true there

-- the drawing of two lists of pairs, one after the other, is that of both

module _ (limits : Limits) (t : Layout) where
  draws_both : (one other : List (ℕ × ℕ)) (first second : List ℕ) → Draws limits t one first → Draws limits t other second
      → Draws limits t (one ++ other) (first ++ second)
  draws_both [] other first second empty drawn = subst (λ text. Draws limits t other (text ++ second)) (sym empty) drawn
  draws_both (pair ∷ pairs) other first second (arrow, rest, is, drawn, parts) also = (
    arrow,
    rest ++ second,
    is,
    draws_both pairs other rest second drawn also,
    ap (λ text. text ++ second) parts ∙ append_assoc arrow rest second,
  )

  adds_both : (one other : List (ℕ × ℕ)) (old mid new : List ℕ) → AddsArrows limits t one old mid → AddsArrows limits t other mid new
      → AddsArrows limits t (one ++ other) old new
  adds_both one other old mid new (first, drawn, is) (second, also, more) = (
    first ++ second,
    draws_both one other first second drawn also,
    more ∙ ap (λ text. text ++ second) is ∙ append_assoc old first second,
  )

  adds_one : (a l : ℕ) (old new arrow : List ℕ) → IsDrawnArrow limits t a l arrow → new ≡ old ++ arrow
      → AddsArrows limits t ((a, l) ∷ []) old new
  adds_one a l old new arrow is grown = (arrow, (arrow, [], is, refl, sym (append-nil arrow)), grown)

  -- no arrow leads from a label to itself, or to one on which it has no authority

  pub adds_itself : (a l : ℕ) (old : List ℕ) → (a == l) ≡ true → AddsArrows limits t ((a, l) ∷ []) old old
  adds_itself a l old is = adds_one a l old old [] (itself (same a l is) refl) (sym (append-nil old))

  pub adds_nothing : (a l : ℕ) (old : List ℕ) → (a == l) ≡ false → ¬ MayChangeIn limits a l → ¬ MayShrinkIn limits a l → AddsArrows limits t ((a, l) ∷ []) old old
  adds_nothing a l old is lacks takes = adds_one a l old old [] (nothing (differ a l is) lacks takes refl) (sym (append-nil old))

  -- an arrow has the first edge of the reason

  pub adds_solid : (a l : ℕ) (edges : List Edge) (old new : List ℕ) → (a == l) ≡ false → IsLeast reason_place (IsChangeBy limits.test limits.acts a l) edges
      → ((edge : Edge) (more : List Edge) → edges ≡ edge ∷ more → new ≡ old ++ arrow_line t a l [] edge)
      → AddsArrows limits t ((a, l) ∷ []) old new
  adds_solid a l edges old new is least grown =
      let head = headed edges (change_reason_there limits a l edges (differ a l is) least.has) in
      let edge : Edge = head.0 in
      let more : List Edge = head.1 in
      adds_one a l old new (arrow_line t a l [] edge)
      (solid (differ a l is) edge more (subst (IsLeast reason_place (IsChangeBy limits.test limits.acts a l)) head.2 least) refl) (grown edge more head.2)

  pub adds_dashed : (a l : ℕ) (edges : List Edge) (old new : List ℕ) → (a == l) ≡ false → ¬ MayChangeIn limits a l
      → IsLeast reason_place (IsShrinkBy limits.test limits.acts a l) edges
      → ((edge : Edge) (more : List Edge) → edges ≡ edge ∷ more → new ≡ old ++ arrow_line t a l (codes "style=dashed, ") edge)
      → AddsArrows limits t ((a, l) ∷ []) old new
  adds_dashed a l edges old new is lacks least grown =
      let head = headed edges (shrink_reason_there limits a l edges least.has) in
      let edge : Edge = head.0 in
      let more : List Edge = head.1 in
      adds_one a l old new (arrow_line t a l (codes "style=dashed, ") edge)
      (dashed (differ a l is) lacks edge more (subst (IsLeast reason_place (IsShrinkBy limits.test limits.acts a l)) head.2 least) refl) (grown edge more head.2)

  -- the next pair of a label
  pub adds_pair : (a n : ℕ) (old mid new : List ℕ) → AddsArrows limits t (pairs_with n a) old mid → AddsArrows limits t ((a, n) ∷ []) mid new
      → AddsArrows limits t (pairs_with (n + 1) a) old new
  adds_pair a n old mid new so_far one =
      subst (λ pairs. AddsArrows limits t pairs old new) (sym (with_more a n)) (adds_both (pairs_with n a) ((a, n) ∷ []) old mid new so_far one)

  -- the pairs of the next label
  pub adds_label : (count n : ℕ) (old mid new : List ℕ) → AddsArrows limits t (flat_map (pairs_with count) (range_with_len 0 n)) old mid
      → AddsArrows limits t (pairs_with count n) mid new
      → AddsArrows limits t (flat_map (pairs_with count) (range_with_len 0 (n + 1))) old new
  adds_label count n old mid new so_far of_label =
      subst (λ pairs. AddsArrows limits t pairs old new) (sym (pairs_more count n))
      (adds_both (flat_map (pairs_with count) (range_with_len 0 n)) (pairs_with count n) old mid new so_far of_label)
