-- Memory and reading between labels: which labels have memory that another may write, and which labels read another (confine's own).
use Rattle.std.specs.Prelude.{ℕ, ◌<◌, ◌||◌, ◌↔◌, ◌≡◌, ◌≢◌, ◌⊎◌, Bool, List, length, true}
use Rattle.base.specs.{declared.{kind.Kind.TheVariants.{Await, Read, Receive, Write}, labels.Labels.Labels}, Labels.is_in}
use Rattle.{machine.specs.Layout.Layout, policy.specs.Domain.EdgeTest, summary.specs.{Labelled.has_memory, Sources.row_at}}
use Rattle.base.specs.declared.label.TheConstants.Label as Label

-- a label may read or write memory of another
pub record HasMemoryOf (t : Layout) (test : EdgeTest) (region l : ℕ) : Type 0 where
  pub memory : has_memory t region ≡ true
  pub has : (test l Read region ≡ true) ⊎ (test l Write region ≡ true)
  pub apart : l ≢ region

-- a label may write memory that another has and that isn't of the other's own label
pub record SharesMemory (t : Layout) (test : EdgeTest) (a l : ℕ) : Type 0 where
  pub region : ℕ
  pub writes : test a Write region ≡ true
  pub held : HasMemoryOf t test region l

-- whether a label receives from another: words, messages or signals
abbrev pub reads_of : EdgeTest → ℕ → ℕ → Bool
reads_of test a l = (test a Read l || test a Receive l) || test a Await l

-- the row of each label has the other labels that have its memory
pub record IsShared (t : Layout) (test : EdgeTest) (rows : List Labels) : Type 0 where
  pub count : length rows ≡ Label.COUNT
  pub each : (region : ℕ) → region < Label.COUNT → (l : ℕ)
      → (is_in (row_at rows region) l ≡ true) ↔ HasMemoryOf t test region l
