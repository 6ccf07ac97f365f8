-- The faults of texts by number and line, and the fault that stands for refused memory (confine's own).
use Rattle.std.specs.Prelude.{ℕ}
use Rattle.words.specs.declared.faults.{Fault.Fault, LineError.{LineError, TheVariants.{Memory, Text}}, Wrong.{Wrong, TheVariants.Double}}
use Rattle.words.specs.declared.faults.Wrong.TheVariants.{Limit, Misplaced, Syntax, Tree, UnknownName, WrongKind}

abbrev pub number_of : Wrong → ℕ
number_of Syntax = 50
number_of UnknownName = 51
number_of Double = 52
number_of Misplaced = 53
number_of Limit = 54
number_of WrongKind = 55
number_of Tree = 56

unfoldable pub fault_at : ℕ → Wrong → Fault
fault_at line wrong = record { number = number_of wrong; line = line }

-- refused memory, which is the fault of no line
abbrev pub no_memory : Fault
no_memory = record { number = 40; line = 0 }

-- the fault of a line whose reading stopped
unfoldable pub fault_of : ℕ → LineError → Fault
fault_of line Memory = no_memory
fault_of line (Text wrong) = fault_at line wrong
