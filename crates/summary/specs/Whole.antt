-- The summary of the reach of a table (confine's own).
use Rattle.std.specs.Prelude.{[], ℕ, ◌++◌, ◌∷◌, ◌≡◌, List, codes}
use Rattle.{machine.specs.Layout.Layout, reach.specs.Reach.TableReach}
use Rattle.summary.specs.{declared.{rows.Row.Row, writing.TheConstants.HEAD}, Labelled.others_of, Marks.cells, Matrix.matrix_text}
use Rattle.summary.specs.{Regions.regions_text, Rows.AreRows}

-- an empty line and the labels without a thread, if there are any
abbrev pub others_text : Layout → List Row → List ℕ → List ℕ
others_text t rows [] = []
others_text t rows (first ∷ others) = codes "\n" ++ regions_text t rows (first ∷ others)

abbrev pub summary_text : Layout → List Row → List ℕ
summary_text t [] = codes "no label has a thread\n"
summary_text t (row ∷ rows) =
    HEAD.now ++ (matrix_text cells t (row ∷ rows) ++ others_text t (row ∷ rows) (others_of t))

-- a text is the summary of a system
pub record IsSummary (reach : TableReach) (text : List ℕ) : Type 0 where
  pub rows : List Row
  pub are : AreRows reach rows
  pub is : text ≡ summary_text reach.table rows
