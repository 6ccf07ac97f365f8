-- Channels of a description, and how they are read (Microkit user manual, "channel").
use Rattle.std.specs.{List.{list_any, position}, Option.option_map_or, Prelude.{[], ℕ, ◌&&◌, ◌++◌, ◌==◌, ◌||◌, ◌∷◌, Bool, Err, List, None}}
use Rattle.std.specs.Prelude.{Ok, Option, Result, Some, codes, false, if◌then◌else◌, is_some, nat_lt, not, slice_get, true, unwrap_or}
use Rattle.{std.specs.Str.bytes_eq, words.specs.Reading.◌>>=◌, xml.specs.Document.Node}
use Rattle.microkit.specs.declared.{description.{Channel.Channel, End.End}, draft.{Begun.Begun, Taken.Taken}}
use Rattle.microkit.specs.declared.{flaws.{ElementFault.ElementFault, Flaw.Flaw, Spot.Spot}, kinds.Kind.Kind}
use Rattle.microkit.specs.{Attributes.{flag_in, flag_or, text_in}, Description.Domain}
use Rattle.microkit.specs.{Domains.{id_in, taken_at}, Draft.{Draft, free_at, known_number}, Flaws.of_element}
use Rattle.microkit.specs.declared.flaws.Flaw.TheVariants as flaw
use Rattle.microkit.specs.declared.kinds.Kind.TheVariants as kind

-- the number of the domain of this name
unfoldable pub domain_number : List Domain → List ℕ → Result ℕ Flaw
domain_number domains name =
    known_number flaw.NoDomain (position (λ (domain : Domain). bytes_eq domain.name name) domains)

-- a description may not mix the two ways to say who may call whom: by the domain that is called, and by the end that may call
unfoldable pub is_mixed : Node → List Domain → Bool
is_mixed node domains =
    is_some (flag_in node (codes "pp")) && list_any (λ (domain : Domain). is_some domain.serves) domains

-- the end of an element
unfoldable pub end_in : ℕ → Node → End
end_in domain node =
    record {
      id = id_in domain node;
      may_call = flag_or node (codes "pp") false;
      may_notify = flag_or node (codes "notify") true;
      line = node.line;
    }

-- an end may follow: its id is free (52), and it says who may call in the same way as the domains do (55)
unfoldable pub end_fits : List Taken → List Domain → ℕ → Node → Result (Unit {0}) Flaw
end_fits ids domains domain node = do
  _ ← free_at ids (id_in domain node)
  if is_mixed node domains then Err flaw.Mixed else Ok tt

-- the domain of an end: it must be known, and the end may follow
unfoldable pub end_domain : List Taken → List Domain → Node → Result ℕ Flaw
end_domain ids domains node = do
  domain ← domain_number domains (text_in node (codes "pd"))
  _ ← end_fits ids domains domain node
  Ok domain

unfoldable pub serves : List Domain → ℕ → Bool
serves domains number = option_map_or (λ (domain : Domain). unwrap_or domain.serves false) (slice_get domains number) false

unfoldable pub priority_of : List Domain → ℕ → ℕ
priority_of domains number = option_map_or (λ (domain : Domain). domain.schedule.priority) (slice_get domains number) 0

-- whether the domain of an end has a lower priority than that of the other end
unfoldable pub is_below : List Domain → End → End → Bool
is_below domains end other = nat_lt (priority_of domains end.id.domain) (priority_of domains other.id.domain)

-- an end may call if it says so, or if the other end's domain says that those of lower priority may call it, and its own is one of these
unfoldable pub calling : List Domain → End → End → End
calling domains end other =
    record end { may_call = end.may_call || (serves domains other.id.domain && is_below domains end other) }

-- an end calls nobody, or a domain of a higher priority
unfoldable pub calls_upwards : List Domain → End → End → Result (Unit {0}) Flaw
calls_upwards domains end other =
    if not end.may_call || is_below domains end other then Ok tt else
    if end.id.domain == other.id.domain then Err flaw.CallsItself else Err flaw.CallsDown

-- two ends go together: at most one may call, and each only upwards
unfoldable pub go_together : List Domain → Channel → Result (Unit {0}) Flaw
go_together domains channel =
    if channel.first.may_call && channel.second.may_call then Err flaw.BothCall else
    (calls_upwards domains channel.first channel.second >>= λ _. calls_upwards domains channel.second channel.first)

-- the channel of two ends
abbrev pub channel_of : List Domain → ℕ → End → End → Channel
channel_of domains line first second =
    record { first = calling domains first second; second = calling domains second first; line = line }

unfoldable pub joined_at : List Domain → ℕ → End → End → Result Channel Flaw
joined_at domains line first second = do
  _ ← go_together domains (channel_of domains line first second)
  Ok (channel_of domains line first second)

-- one more end of the channel that is begun here: the first, or the second, by which the channel is whole
unfoldable pub end_joined : End → Spot → Option End → Draft → Result Draft ElementFault
end_joined end spot None draft =
    Ok (record draft {
      begun = Some (record { spot = spot; first = Some end });
      ids = draft.ids ++ taken_at end.line end.id ∷ [];
    })
end_joined end spot (Some first) draft = do
  channel ← of_element spot (joined_at draft.description.domains spot.line first end)
  Ok (record draft {
    description = record draft.description { channels = draft.description.channels ++ channel ∷ [] };
    begun = None;
    ids = draft.ids ++ taken_at end.line end.id ∷ [];
  })

-- one more end, for which a channel must be begun
unfoldable pub end_begun : Spot → End → Option Begun → Draft → Result Draft ElementFault
end_begun spot end None draft = of_element spot (Err flaw.ThirdEnd)
end_begun spot end (Some begun) draft = end_joined end begun.spot begun.first draft

-- an element that is an end
unfoldable pub end_at : Spot → Node → Draft → Result Draft ElementFault
end_at spot node draft = do
  domain ← of_element spot (end_domain draft.ids draft.description.domains node)
  end_begun spot (end_in domain node) draft.begun draft

-- the channel before must have its two ends
unfoldable pub whole_at : Option Begun → Result (Unit {0}) ElementFault
whole_at None = Ok tt
whole_at (Some begun) = of_element begun.spot (Err flaw.FewEnds)

-- an element that is a channel
unfoldable pub channel_at : Spot → Draft → Result Draft ElementFault
channel_at spot draft = do
  _ ← whole_at draft.begun
  Ok (record draft { begun = Some (record { spot = spot; first = None }) })

-- a channel and its ends
unfoldable pub channel_part_at : Kind → Spot → Node → Draft → Result Draft ElementFault
channel_part_at kind.Channel spot node draft = channel_at spot draft
channel_part_at kind.End spot node draft = end_at spot node draft
channel_part_at _ spot node draft = Ok draft
