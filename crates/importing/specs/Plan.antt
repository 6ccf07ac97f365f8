-- Names, labels and lines of objects, by the description (confine's own).
use Rattle.std.specs.{List.position, Option.option_map_or, Prelude.{ℕ, ◌&&◌, ◌==◌, Bool, List, Option, if◌then◌else◌, slice_get}}
use Rattle.microkit.specs.declared.{description.{Channel.Channel, Processor.Processor}, labels.Subject.Subject, names.Part.Part}
use Rattle.{microkit.specs.{Description.Description, Labels.{line_of, may_call}}, importing.specs.declared.pieces.{Form.Form, Piece.Piece}}
use Rattle.microkit.specs.declared.labels.Subject.TheVariants as subject
use Rattle.microkit.specs.declared.names.Part.TheVariants as part
use Rattle.importing.specs.declared.pieces.Form.TheVariants as form

-- the virtual machine of a virtual processor
abbrev pub machine_number : Description → ℕ → ℕ
machine_number d n = option_map_or (λ (processor : Processor). processor.machine) (slice_get d.processors n) 0

abbrev pub processor_id : Description → ℕ → ℕ
processor_id d n = option_map_or (λ (processor : Processor). processor.id.number) (slice_get d.processors n) 0

abbrev pub processor_line : Description → ℕ → ℕ
processor_line d n = option_map_or (λ (processor : Processor). processor.line) (slice_get d.processors n) 0

-- the time of a domain that may call another has a label of its own
abbrev pub time_of : List Channel → ℕ → Subject
time_of channels n = if may_call channels n then subject.Time n else subject.Domain n

-- the subject whose label a piece has
unfoldable pub subject_of : Description → Piece → Subject
subject_of d piece = by_form piece.form
  where
    by_form : Form → Subject
    by_form form.GuestSpace = subject.Machine piece.number
    by_form form.Processor = subject.Machine (machine_number d piece.number)
    by_form form.ProcessorTime = subject.Machine (machine_number d piece.number)
    by_form form.Time = time_of d.channels piece.number
    by_form form.Frame = subject.Region piece.number
    by_form _ = subject.Domain piece.number

-- the part of a piece in its label
unfoldable pub part_of : Description → Piece → Part
part_of d piece = by_form piece.form
  where
    by_form : Form → Part
    by_form form.Space = part.Space
    by_form form.GuestSpace = part.Space
    by_form form.Main = part.Main
    by_form form.Processor = part.Processor (processor_id d piece.number)
    by_form form.Bell = part.Bell
    by_form form.Answer = part.Answer
    by_form form.Entry = part.Entry
    by_form form.Time = part.Time 0
    by_form form.ProcessorTime = part.Time (processor_id d piece.number)
    by_form form.Frame = part.Frame

-- the number of a subject's label is its place among all subjects

abbrev pub subject_code : Subject → ℕ
subject_code (subject.Domain n) = 0
subject_code (subject.Machine n) = 1
subject_code (subject.Time n) = 2
subject_code (subject.Region n) = 3

abbrev pub subject_number : Subject → ℕ
subject_number (subject.Domain n) = n
subject_number (subject.Machine n) = n
subject_number (subject.Time n) = n
subject_number (subject.Region n) = n

abbrev pub same_subject : Subject → Subject → Bool
same_subject one other = subject_code one == subject_code other && subject_number one == subject_number other

abbrev pub label_of : List Subject → Subject → Option ℕ
label_of subjects subject = position (λ (other : Subject). same_subject other subject) subjects

abbrev pub domain_line : Description → ℕ → ℕ
domain_line d n = line_of d (subject.Domain n)

-- the line of the element that a piece belongs to
unfoldable pub piece_line : Description → Piece → ℕ
piece_line d piece = by_form piece.form
  where
    by_form : Form → ℕ
    by_form form.Processor = processor_line d piece.number
    by_form form.ProcessorTime = processor_line d piece.number
    by_form _ = line_of d (subject_of d piece)
