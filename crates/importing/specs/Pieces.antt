-- Objects of the table that a description becomes, in their order (confine's own; compare the Microkit user manual, "Concepts").
use Rattle.std.specs.{List.{list_any, range_with_len}, Option.option_map_or}
use Rattle.std.specs.Prelude.{ℕ, ◌&&◌, ◌++◌, ◌==◌, ◌||◌, Bool, List, false, filter, length, map}
use Rattle.microkit.specs.{declared.description.{Channel.Channel, Id.Id, Map.Map}, Description.{Description, Domain, Machine}}
use Rattle.{microkit.specs.Labels.is_mapped as is_mapped_by, importing.specs.declared.pieces.{Form.Form, Piece.Piece}}
use Rattle.importing.specs.declared.pieces.Form.TheVariants as form

-- the place of a form among the objects
abbrev pub form_code : Form → ℕ
form_code form.Space = 0
form_code form.GuestSpace = 1
form_code form.Main = 2
form_code form.Processor = 3
form_code form.Bell = 4
form_code form.Answer = 5
form_code form.Entry = 6
form_code form.Time = 7
form_code form.ProcessorTime = 8
form_code form.Frame = 9

abbrev pub same_piece : Piece → Piece → Bool
same_piece one other = form_code one.form == form_code other.form && one.number == other.number

-- a domain may be called by another one
abbrev pub is_called_by : List Channel → ℕ → Bool
is_called_by channels domain =
    list_any
    (λ (channel : Channel).
    (channel.first.may_call && channel.second.id.domain == domain)
    || (channel.second.may_call && channel.first.id.domain == domain))
    channels

-- a domain is a child of this one
abbrev pub has_parent : ℕ → Domain → Bool
has_parent domain one = option_map_or (λ (id : Id). id.domain == domain) one.parent false

abbrev pub has_children : List Domain → ℕ → Bool
has_children domains domain = list_any (has_parent domain) domains

abbrev pub has_guest : List Machine → ℕ → Bool
has_guest machines domain = list_any (λ (machine : Machine). machine.domain == domain) machines

-- a domain is called: by another one, or by a fault of a child or of a virtual machine
unfoldable pub is_called : Description → ℕ → Bool
is_called d domain = is_called_by d.channels domain || (has_children d.domains domain || has_guest d.machines domain)

-- somebody maps a region
abbrev pub is_mapped : List Map → ℕ → Bool
is_mapped maps region = is_mapped_by maps region

-- a piece of a form for each of this many numbers, and for those that pass a test

abbrev pub each : Form → ℕ → List Piece
each form count = map (λ n. record { form = form; number = n }) (range_with_len 0 count)

abbrev pub those : Form → (ℕ → Bool) → ℕ → List Piece
those form test count = map (λ n. record { form = form; number = n }) (filter test (range_with_len 0 count))

-- the CNodes and threads
unfoldable pub holders_of : Description → List Piece
holders_of d =
    each form.Space (length d.domains)
    ++ (each form.GuestSpace (length d.machines)
    ++ (each form.Main (length d.domains)
    ++ each form.Processor (length d.processors)))

-- the notifications, replies and endpoints; each domain has a reply object, even if nobody calls it
unfoldable pub messages_of : Description → List Piece
messages_of d =
    each form.Bell (length d.domains)
    ++ (each form.Answer (length d.domains)
    ++ those form.Entry (is_called d) (length d.domains))

-- the contexts and frames
unfoldable pub kept_of : Description → List Piece
kept_of d =
    each form.Time (length d.domains)
    ++ (each form.ProcessorTime (length d.processors)
    ++ those form.Frame (is_mapped d.maps) (length d.regions))

-- all objects, in the order of their numbers
unfoldable pub pieces_of : Description → List Piece
pieces_of d = holders_of d ++ (messages_of d ++ kept_of d)
