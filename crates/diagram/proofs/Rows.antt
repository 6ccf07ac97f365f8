-- Programs and what is drawn of them, by the rows of the summary.
use Rattle.std.{specs.List.{flat_map, list_all}, proofs.Common.{ℕ, ◌&&◌, ◌++◌, ◌==◌, ◌||◌, ◌∙◌, ◌≡◌, Bool, List, ap, codes, map, not}}
use Rattle.std.proofs.{Common.{refl, sym, true}, lemmas.{List.{Elements.All-map, Folds.{flat_map-map, list_all-map}}, Simd.map-map}}
use Rattle.{machine.specs.Layout.Layout, policy.specs.Domain.EdgeTest, reach.specs.Extents.Limits}
use Rattle.summary.specs.{declared.rows.Row.Row, Labelled.others_of, Rows.{AreRowsOf, IsRowOf}}
use Rattle.diagram.specs.{declared.drawing.TheConstants.HEAD, Folded.{IsFoldedDrawing, arrow_text, arrows_text, box_text, folded_text}}
use Rattle.diagram.specs.{Folded.rows_text, Programs.{ArePrograms, IsProgram, Program, program_of}, Regions.{is_inside, uses}}

program_is : (t : Layout) (limits : Limits) (row : Row) → IsRowOf t limits row → IsProgram limits (program_of limits.test row)
program_is t limits row is = record {
  calls = is.calls;
  answers = is.answers;
  signals = is.signals;
  does_else = is.others;
  changes = is.changes;
  shrinks = is.shrinks;
  writes = λ l. refl;
  reads = is.reads;
}

pub programs_are : (t : Layout) (limits : Limits) (rows : List Row) → AreRowsOf t limits rows → ArePrograms t limits (map (program_of limits.test) rows)
programs_are t limits rows are = record {
  labels = map-map (λ (p : Program). p.label) (program_of limits.test) rows ∙ are.labels;
  each = All-map (IsProgram limits) (program_of limits.test) rows (λ k d within. program_is t limits _ (are.each k d within));
}

pub text_is : (t : Layout) (test : EdgeTest) (rows : List Row) (others : List ℕ)
    → rows_text t test rows others ≡ folded_text t (map (program_of test) rows) others
text_is t test rows others =
    let program = program_of test in
    let programs = map program rows in
    let boxes = flat_map-map (box_text t programs others) program rows in
    let each : (λ (row : Row). arrows_text t programs others (program row))
    ≡ (λ (row : Row). flat_map (λ other. arrow_text t others (program row) (program other)) rows) =
    λ i row. flat_map-map (arrow_text t others (program row)) program rows i in
    let arrows = flat_map-map (arrows_text t programs others) program rows ∙ ap (λ (from : Row → List ℕ). flat_map from rows) each in
    sym (λ i. HEAD.now ++ (boxes i ++ (arrows i ++ codes "}\n")))

-- what is written of the rows of a table, and of its labels without a thread, is its folded drawing
pub drawing_is : (t : Layout) (limits : Limits) (rows shown : List Row) (others listed text : List ℕ) → AreRowsOf t limits rows → shown ≡ rows
    → others ≡ others_of t → listed ≡ others → text ≡ rows_text t limits.test shown listed → IsFoldedDrawing t limits text
drawing_is t limits rows shown others listed text are shown_is others_are listed_is told = record {
  programs = map (program_of limits.test) rows;
  are = programs_are t limits rows are;
  is =
      told ∙ ap (λ (some : List Row). rows_text t limits.test some listed) shown_is
      ∙ ap (λ (some : List ℕ). rows_text t limits.test rows some) (listed_is ∙ others_are) ∙ text_is t limits.test rows (others_of t);
}

-- no other program uses a label, as no other row does
pub apart_is : (test : EdgeTest) (rows : List Row) (row : Row) (l : ℕ) (answer : Bool) → uses (program_of test row) l ≡ true
    → answer ≡ list_all (λ (other : Row). other.label == row.label || not (uses (program_of test other) l)) rows
    → answer ≡ is_inside (map (program_of test) rows) (program_of test row) l
apart_is test rows row l answer used is =
    let apart : Program → Bool = λ p. p.label == row.label || not (uses p l) in
    is ∙ sym (list_all-map apart (program_of test) rows) ∙ ap (λ b. b && list_all apart (map (program_of test) rows)) (sym used)
