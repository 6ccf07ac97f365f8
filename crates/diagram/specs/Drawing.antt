-- The drawing of who may change or take from whom, for Graphviz: the labels, and an arrow from each to each other whose objects it may
-- change (solid) or only make smaller (dashed), with an edge of the reason (compare the integrity of 'seL4 Enforces Integrity', section 4;
-- the drawing is confine's own).
use Rattle.std.specs.{List.{flat_map, range_with_len}, Prelude.{[], ℕ, ◌++◌, ◌∷◌, ◌≡◌, ◌≢◌, List, codes, length, map}}
use Rattle.{base.specs.{declared.edge.Edge.Edge, Kinds.kind_name}, machine.specs.Layout.Layout}
use Rattle.policy.specs.{ActorReasons.{IsChangeBy, IsShrinkBy}, Places.IsLeast, Reasons.reason_place}
use Rattle.{reach.specs.Extents.{Limits, MayChangeIn, MayShrinkIn}, captext.specs.PolicyText.label_name}

-- the line of a label
abbrev pub label_line : List ℕ → List ℕ
label_line name = codes "  \"" ++ (name ++ codes "\"\n")

-- the line of an arrow from one label to another, of this style, with an edge
abbrev pub arrow_line : Layout → ℕ → ℕ → List ℕ → Edge → List ℕ
arrow_line t a l style edge =
    codes "  \"" ++ (label_name t a ++ (codes "\" -> \"" ++ (label_name t l ++ (codes "\" [" ++ (style ++ (codes "label=\""
    ++ (label_name t edge.from ++ (codes " " ++ (kind_name edge.kind ++ (codes " " ++ (label_name t edge.to ++ codes "\"]\n")))))))))))

-- the drawing from one label to another: an arrow with the first edge of its reason, or nothing
pub data IsDrawnArrow (limits : Limits) (t : Layout) (a l : ℕ) (text : List ℕ) : Type 0 where
  -- none from a label to itself
  itself : a ≡ l → text ≡ [] → IsDrawnArrow limits t a l text
  -- solid, if the label may change the other's objects
  solid : a ≢ l → (edge : Edge) (more : List Edge) → IsLeast reason_place (IsChangeBy limits.test limits.acts a l) (edge ∷ more)
      → text ≡ arrow_line t a l [] edge → IsDrawnArrow limits t a l text
  -- dashed, if it may only make them smaller
  dashed : a ≢ l → ¬ MayChangeIn limits a l → (edge : Edge) (more : List Edge) → IsLeast reason_place (IsShrinkBy limits.test limits.acts a l) (edge ∷ more)
      → text ≡ arrow_line t a l (codes "style=dashed, ") edge → IsDrawnArrow limits t a l text
  -- none, if it may do neither
  nothing : a ≢ l → ¬ MayChangeIn limits a l → ¬ MayShrinkIn limits a l → text ≡ [] → IsDrawnArrow limits t a l text

-- the drawing of pairs of labels, one after another
abbrev pub Draws : Limits → Layout → List (ℕ × ℕ) → List ℕ → Type 0
Draws limits t [] text = text ≡ []
Draws limits t (pair ∷ pairs) text =
    (arrow : List ℕ) × (rest : List ℕ) × IsDrawnArrow limits t pair.0 pair.1 arrow × Draws limits t pairs rest × (text ≡ arrow ++ rest)

-- the drawing of pairs of labels is added to a text
abbrev pub AddsArrows : Limits → Layout → List (ℕ × ℕ) → List ℕ → List ℕ → Type 0
AddsArrows limits t pairs old new = (arrows : List ℕ) × Draws limits t pairs arrows × (new ≡ old ++ arrows)

-- the pairs of a label with each of `count`
abbrev pub pairs_with : ℕ → ℕ → List (ℕ × ℕ)
pairs_with count a = map (λ l. (a, l)) (range_with_len 0 count)

-- all pairs of `count` labels, rising
abbrev pub pairs_of : ℕ → List (ℕ × ℕ)
pairs_of count = flat_map (pairs_with count) (range_with_len 0 count)

-- the whole drawing
pub record IsDrawing (t : Layout) (limits : Limits) (text : List ℕ) : Type 0 where
  pub arrows : List ℕ
  pub drawn : Draws limits t (pairs_of (length t.labels)) arrows
  pub is : text ≡ codes "digraph authority {\n" ++ (flat_map label_line t.labels ++ (arrows ++ codes "}\n"))
