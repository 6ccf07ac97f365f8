-- Flaws of elements of a description, and which element has one (confine's own).
use Rattle.std.specs.Prelude.{ℕ, ◌≡◌, Err, None, Ok, Option, Result, Some}
use Rattle.words.specs.declared.faults.{Fault.Fault, Wrong.{TheVariants.{Double, Limit, Syntax, UnknownName, WrongKind}, Wrong}}
use Rattle.{words.specs.Fault.{fault_at, no_memory}, xml.specs.Document.Node}
use Rattle.microkit.specs.declared.flaws.{ElementFault.ElementFault, Flaw.Flaw, ReadError.ReadError, Refusal.Refusal, Spot.Spot}
use Rattle.microkit.specs.declared.flaws.Flaw.TheVariants as flaw
use Rattle.microkit.specs.declared.flaws.ReadError.TheVariants as stops
use Rattle.microkit.specs.declared.flaws.Refusal.TheVariants as refused

-- the kind of fault that each flaw is: of form, an unknown name, a second of the same, a conflict, and a limit
abbrev pub wrong_of : Flaw → Wrong
wrong_of (flaw.Element outer) = Syntax
wrong_of (flaw.Attribute kind number) = Syntax
wrong_of (flaw.Missing kind number) = Syntax
wrong_of flaw.NoImage = Syntax
wrong_of flaw.LargeId = Limit
wrong_of flaw.LargePriority = Limit
wrong_of flaw.ManyDomains = Limit
wrong_of flaw.NoRegion = UnknownName
wrong_of flaw.NoDomain = UnknownName
wrong_of (flaw.Name line) = Double
wrong_of (flaw.Id line) = Double
wrong_of (flaw.Interrupt line) = Double
wrong_of (flaw.SecondMachine line) = Double
wrong_of _ = WrongKind

-- the fault of a text has the line of the element
abbrev pub fault_of : ElementFault → Fault
fault_of fault = fault_at fault.spot.line (wrong_of fault.flaw)

-- the fault of a text whose elements can't be read
abbrev pub text_fault : ReadError → Fault
text_fault stops.Memory = no_memory
text_fault (stops.Element fault) = fault_of fault

-- the fault of an element that has a flaw
abbrev pub fault_here : Spot → Flaw → ElementFault
fault_here spot flaw = record { flaw = flaw; spot = spot }

-- an element of this number, and its line
abbrev pub spot_of : ℕ → Node → Spot
spot_of number node = record { element = number; line = node.line }

-- what was tried at an element, which has the flaw
unfoldable pub of_element : {X : Type 0} → Spot → Result X Flaw → Result X ElementFault
of_element spot (Ok x) = Ok x
of_element spot (Err flaw) = Err (fault_here spot flaw)

-- what the elements of a text are read as, with the fault of the text
unfoldable pub of_text : {X : Type 0} → Result X ElementFault → Result X Fault
of_text (Ok x) = Ok x
of_text (Err fault) = Err (fault_of fault)

-- an element is flawed if another element was found, on this line
abbrev pub unless_found : (ℕ → Flaw) → Option ℕ → Result (Unit {0}) Flaw
unless_found flaw None = Ok tt
unless_found flaw (Some line) = Err (flaw line)

-- an element is refused for this reason; nothing is said of the element if memory was refused
abbrev pub RefusedBy : {Y : Type 0} → Refusal → Result Y Flaw → Type 0
RefusedBy refused.Memory read = Unit {0}
RefusedBy (refused.Flawed flaw) read = read ≡ Err flaw

-- the result of a call that takes memory is what is read off an element, seen by `view`
abbrev pub Takes : {X Y : Type 0} → (X → Y) → Result X Refusal → Result Y Flaw → Type 0
Takes view (Ok x) read = read ≡ Ok (view x)
Takes view (Err refusal) read = RefusedBy refusal read

-- several elements are refused for this reason; nothing is said of them if memory was refused
abbrev pub StoppedBy : {Y : Type 0} → ReadError → Result Y ElementFault → Type 0
StoppedBy stops.Memory read = Unit {0}
StoppedBy (stops.Element fault) read = read ≡ Err fault

abbrev pub TakesAll : {X Y : Type 0} → (X → Y) → Result X ReadError → Result Y ElementFault → Type 0
TakesAll view (Ok x) read = read ≡ Ok (view x)
TakesAll view (Err error) read = StoppedBy error read
