-- The capability in each slot of a domain's CNode, except the maps (Microkit user manual, "Concepts"; the slots are those of its library).
-- Each has the line of the element that it comes from.
use Rattle.std.specs.{List.position, Option.{option_and_then, option_map_or}, Prelude.{ℕ, ◌&&◌, ◌+◌, ◌-◌, ◌==◌, ◌^◌}}
use Rattle.std.specs.Prelude.{Bool, List, None, Option, Some, false, if◌then◌else◌, is_some, nat_lt, option_map, slice_get}
use Rattle.base.specs.{declared.rights.Rights.Rights, Rights.rights_with}
use Rattle.microkit.specs.{declared.description.{Channel.Channel, End.End, Id.Id, Processor.Processor}, Description.{Description, Domain}}
use Rattle.machine.specs.declared.cap.Detail.{Detail, Detail as detail}
use Rattle.importing.specs.declared.{pieces.{Form.Form, Minting.Minting}, slots.{Held.Held, TheConstants.{BELLS, CALLS, CHILDREN, IDS}}}
use Rattle.importing.specs.{declared.slots.TheConstants.PROCESSORS, Pieces.is_called, Plan.{domain_line, processor_line}}
use Rattle.importing.specs.declared.pieces.Form.TheVariants as form
use Rattle.importing.specs.declared.pieces.Minting.TheVariants as minting

abbrev pub capability : ℕ → Form → ℕ → Detail → Held
capability line form number says = record { target = record { form = form; number = number }; detail = says; line = line }

-- the rights that are needed, or all of the kind: `r` is 1, `w` 2, `g` 4 and `y` 8

abbrev pub notification_rights : Minting → ℕ → Rights
notification_rights minting.Least needed = rights_with needed
notification_rights minting.All needed = rights_with 3

abbrev pub endpoint_rights : Minting → ℕ → Rights
endpoint_rights minting.Least needed = rights_with needed
endpoint_rights minting.All needed = rights_with 15

-- a capability for a domain's notification, and for its endpoint

abbrev pub bell_held : Minting → ℕ → ℕ → ℕ → ℕ → Held
bell_held minting line n rights badge =
    capability line form.Bell n (detail.Notification (record { rights = notification_rights minting rights; badge = badge }))

abbrev pub entry_held : Minting → ℕ → ℕ → ℕ → ℕ → Held
entry_held minting line n rights badge =
    capability line form.Entry n (detail.Endpoint (record { rights = endpoint_rights minting rights; badge = badge }))

-- slot 1: what the domain receives from: its endpoint if it is called, else its notification
unfoldable pub input_held : Description → Minting → ℕ → Held
input_held d minting n =
    if is_called d n then entry_held minting (domain_line d n) n 1 0 else bell_held minting (domain_line d n) n 1 0

-- slot 2: for a child, its parent's endpoint, at which the parent gets the child's faults, from the line of the child
abbrev pub parent_held : Minting → ℕ → Id → Option Held
parent_held minting line id =
    if nat_lt id.number IDS then Some (entry_held minting line id.domain 10 (2 ^ 62 + id.number)) else None

abbrev pub parent_of : Minting → Option Domain → Option Held
parent_of minting None = None
parent_of minting (Some domain) = option_and_then (parent_held minting domain.line) domain.parent

unfoldable pub fault_held : Description → Minting → ℕ → Option Held
fault_held d minting n =
    parent_of minting (slice_get d.domains n)

-- slot 3: the domain's notification, if it receives from its endpoint
unfoldable pub own_bell_held : Description → Minting → ℕ → Option Held
own_bell_held d minting n = if is_called d n then Some (bell_held minting (domain_line d n) n 1 0) else None

-- slot 4: the domain's reply object
abbrev pub answer_held : Description → ℕ → Held
answer_held d n = capability (domain_line d n) form.Answer n detail.Reply

-- an end has this id in a domain, and the other end's id is one
abbrev pub is_end : ℕ → ℕ → End → End → Bool
is_end n id own other = own.id.domain == n && (own.id.number == id && nat_lt other.id.number IDS)

-- the end of this id in a domain, with the other end, if the channel has one
abbrev pub end_in : ℕ → ℕ → Channel → Option (End × End)
end_in n id channel =
    if is_end n id channel.first channel.second then Some (channel.first, channel.second) else
    if is_end n id channel.second channel.first then Some (channel.second, channel.first) else None

-- the number of the channel with such an end
abbrev pub channel_at : List Channel → ℕ → ℕ → Option ℕ
channel_at channels n id = position (λ (channel : Channel). is_some (end_in n id channel)) channels

unfoldable pub end_at : List Channel → ℕ → ℕ → Option (End × End)
end_at channels n id = option_and_then (λ number. option_and_then (end_in n id) (slice_get channels number)) (channel_at channels n id)

-- an end that may notify: the notification of the other end's domain, badged by the other end's id, from the end's own line
abbrev pub notified_held : Minting → End × End → Option Held
notified_held minting ends =
    if ends.0.may_notify then Some (bell_held minting ends.0.line ends.1.id.domain 2 (2 ^ ends.1.id.number)) else None

unfoldable pub notify_held : Description → Minting → ℕ → ℕ → Option Held
notify_held d minting n id = option_and_then (notified_held minting) (end_at d.channels n id)

-- an end that may call: the endpoint of the other end's domain, badged by the other end's id, from the end's own line
abbrev pub calling_held : Minting → End × End → Option Held
calling_held minting ends =
    if ends.0.may_call then Some (entry_held minting ends.0.line ends.1.id.domain 10 (2 ^ 63 + ends.1.id.number)) else None

unfoldable pub call_held : Description → Minting → ℕ → ℕ → Option Held
call_held d minting n id = option_and_then (calling_held minting) (end_at d.channels n id)

-- the child of this id
abbrev pub is_child : ℕ → ℕ → Domain → Bool
is_child n id domain = option_map_or (λ (parent : Id). parent.domain == n && parent.number == id) domain.parent false

abbrev pub child_number : List Domain → ℕ → ℕ → Option ℕ
child_number domains n id = position (is_child n id) domains

-- the child's thread, from the line of the child
unfoldable pub child_held : Description → ℕ → ℕ → Option Held
child_held d n id =
    option_map (λ child. capability (domain_line d child) form.Main child detail.Tcb) (child_number d.domains n id)

-- the virtual processor of this id
abbrev pub processor_number : List Processor → ℕ → ℕ → Option ℕ
processor_number processors n id =
    position (λ (processor : Processor). processor.id.domain == n && processor.id.number == id) processors

-- the thread of that virtual processor, from the line of the virtual processor
unfoldable pub processor_held : Description → ℕ → ℕ → Option Held
processor_held d n id =
    option_map (λ number. capability (processor_line d number) form.Processor number detail.Tcb)
    (processor_number d.processors n id)

-- what a slot in a row of ids has
unfoldable pub id_held : Description → Minting → ℕ → ℕ → Option Held
id_held d minting n index =
    if nat_lt index BELLS then None else
    if nat_lt index (BELLS + IDS) then notify_held d minting n (index - BELLS) else
    if nat_lt index CALLS then None else
    if nat_lt index (CALLS + IDS) then call_held d minting n (index - CALLS) else
    if nat_lt index CHILDREN then None else
    if nat_lt index (CHILDREN + IDS) then child_held d n (index - CHILDREN) else
    if nat_lt index PROCESSORS then None else
    if nat_lt index (PROCESSORS + IDS) then processor_held d n (index - PROCESSORS) else None

-- the capability in a slot of a domain's CNode, below those of the maps
unfoldable pub slot_held : Description → Minting → ℕ → ℕ → Option Held
slot_held d minting n index =
    if index == 1 then Some (input_held d minting n) else
    if index == 2 then fault_held d minting n else
    if index == 3 then own_bell_held d minting n else
    if index == 4 then Some (answer_held d n) else id_held d minting n index
