-- Programs, which are the labels with a thread in a table, and what each of them may do to objects of which labels (confine's own).
use Rattle.std.specs.Prelude.{ℕ, ◌↔◌, ◌≡◌, All, Bool, List, map, true}
use Rattle.{base.specs.{declared.kind.Kind.TheVariants.Write, Labels.is_in}, machine.specs.Layout.Layout}
use Rattle.{policy.specs.Domain.EdgeTest, reach.specs.Extents.{Limits, MayChangeIn, MayShrinkIn}}
use Rattle.summary.specs.{declared.rows.Row.Row, Labelled.programs_of}
use Rattle.summary.specs.{Letters.{HasLetter, by_answer, by_call, by_other, by_signal}, Sharing.reads_of}

-- a label with a thread, and tests that say for each label what threads of the one may do to objects of the other
pub record Program : Type 0 where
  pub label : ℕ
  pub calls : ℕ → Bool
  pub answers : ℕ → Bool
  pub signals : ℕ → Bool
  pub does_else : ℕ → Bool
  pub changes : ℕ → Bool
  pub shrinks : ℕ → Bool
  pub writes : ℕ → Bool
  pub reads : ℕ → Bool

-- the tests of a program say by which kinds of reasons it may change objects, whether it may, whether these may shrink by what it does,
-- and whether it has an edge to write or to read
pub record IsProgram (limits : Limits) (p : Program) : Type 0 where
  pub calls : (l : ℕ) → (p.calls l ≡ true) ↔ HasLetter by_call limits p.label l
  pub answers : (l : ℕ) → (p.answers l ≡ true) ↔ HasLetter by_answer limits p.label l
  pub signals : (l : ℕ) → (p.signals l ≡ true) ↔ HasLetter by_signal limits p.label l
  pub does_else : (l : ℕ) → (p.does_else l ≡ true) ↔ HasLetter by_other limits p.label l
  pub changes : (l : ℕ) → (p.changes l ≡ true) ↔ MayChangeIn limits p.label l
  pub shrinks : (l : ℕ) → (p.shrinks l ≡ true) ↔ MayShrinkIn limits p.label l
  pub writes : (l : ℕ) → p.writes l ≡ limits.test p.label Write l
  pub reads : (l : ℕ) → p.reads l ≡ reads_of limits.test p.label l

-- the programs of a table, in the order of their labels
pub record ArePrograms (t : Layout) (limits : Limits) (programs : List Program) : Type 0 where
  pub labels : map (λ p. p.label) programs ≡ programs_of t
  pub each : All (IsProgram limits) programs

-- the program of a row of the summary
abbrev pub program_of : EdgeTest → Row → Program
program_of test row = record {
  label = row.label;
  calls = is_in row.calls;
  answers = is_in row.answers;
  signals = is_in row.signals;
  does_else = is_in row.others;
  changes = is_in row.changes;
  shrinks = is_in row.shrinks;
  writes = test row.label Write;
  reads = is_in row.reads;
}
