-- The labels that a description joins to the label of a domain or a virtual machine (confine's own).
--
-- A user is joined to those that it may notify, call or be called by, to the memory that it may write, and to the time of those that it may
-- run for. A parent is joined to all to which its children and virtual processors are joined. It may also take away their capabilities: if
-- an endpoint, a notification or a region is removed by that, all lose it that wait there or map it.
use Rattle.std.specs.{List.list_any, Prelude.{[], ℕ, ◌&&◌, ◌==◌, ◌||◌, Bool, List, slice_get, unwrap_or}}
use Rattle.microkit.specs.declared.{description.{Channel.Channel, End.End, Map.Map, User.User}, labels.Subject.Subject}
use Rattle.{microkit.specs.Description.Description, separation.specs.Users.{acts_for, controls, is_child_of, may_answer}}
use Rattle.microkit.specs.declared.description.User.TheVariants as user
use Rattle.microkit.specs.declared.labels.Subject.TheVariants as subject

-- a user, or one inside it, may call a domain by an end
unfoldable pub end_calls : Description → User → ℕ → End → End → Bool
end_calls d one n end far = (end.may_call && far.id.domain == n) && acts_for d one (user.Domain end.id.domain)

unfoldable pub channel_calls : Description → User → ℕ → Channel → Bool
channel_calls d one n channel = end_calls d one n channel.first channel.second || end_calls d one n channel.second channel.first

-- a user may wait at an endpoint or a notification of a domain, to answer there or to be answered
unfoldable pub may_wait : Description → User → ℕ → Bool
may_wait d one n = may_answer d one (user.Domain n) || (is_child_of d n one || list_any (channel_calls d one n) d.channels)

-- a user may notify another, call it, or answer it
unfoldable pub end_reaches : Description → User → User → End → End → Bool
end_reaches d one other end far =
    (end.may_notify && (acts_for d one (user.Domain end.id.domain) && acts_for d other (user.Domain far.id.domain)))
    || ((end.may_call && (acts_for d one (user.Domain end.id.domain) && may_answer d other (user.Domain far.id.domain)))
    || (far.may_call && (may_answer d one (user.Domain end.id.domain) && acts_for d other (user.Domain far.id.domain))))

-- a user may take away from one inside it where the other may wait
unfoldable pub end_takes : Description → User → User → End → End → Bool
end_takes d one other end far =
    (end.may_notify || end.may_call) && (controls d one (user.Domain end.id.domain) && may_wait d other far.id.domain)

-- an end and the other end of its channel join one user to another
unfoldable pub end_joins : Description → User → User → End → End → Bool
end_joins d one other end far = end_reaches d one other end far || end_takes d one other end far

unfoldable pub channel_joins : Description → User → User → Channel → Bool
channel_joins d one other channel = end_joins d one other channel.first channel.second || end_joins d one other channel.second channel.first

-- two users are of one family, and one of them has a reply object
unfoldable pub is_kin : Description → User → User → Bool
is_kin d one other = may_answer d one other || may_answer d other one

unfoldable pub users_joined : Description → User → User → Bool
users_joined d one other = is_kin d one other || list_any (channel_joins d one other) d.channels

-- a map lets a user write to a region, or take it away
unfoldable pub map_joins : Description → User → ℕ → Map → Bool
map_joins d one region map = map.region == region && ((map.writable && acts_for d one map.user) || controls d one map.user)

-- a user, or one inside it, is among those that may run on a time
unfoldable pub runs_on : Description → User → List ℕ → Bool
runs_on d one runners = list_any (λ n. acts_for d one (user.Domain n)) runners

-- a user is joined to the subject of a label, given who may run on the time of each domain
unfoldable pub is_joined : Description → List (List ℕ) → User → Subject → Bool
is_joined d runners one (subject.Domain n) = users_joined d one (user.Domain n)
is_joined d runners one (subject.Machine n) = users_joined d one (user.Machine n)
is_joined d runners one (subject.Time n) = runs_on d one (unwrap_or (slice_get runners n) [])
is_joined d runners one (subject.Region n) = list_any (map_joins d one n) d.maps
