-- Capabilities by themselves: the kind of object that each is for, and the kinds of authority that it gives from a slot of a
-- CNode ('seL4 Enforces Integrity', section 3, "Authority", with the kinds of this profile).
use Rattle.std.specs.{Int.RustNames.bit_and, Prelude.{ℕ, ◌&&◌, ◌==◌, ◌||◌, Bool, false, true}}
use Rattle.base.specs.declared.{kind.Kind.Kind, rights.Rights.Rights}
use Rattle.base.specs.declared.kind.Kind.TheVariants as authority
use Rattle.machine.specs.declared.{cap.{Badged.Badged, Detail.{Detail, Detail as d}}, object.ObjectKind.ObjectKind}
use Rattle.machine.specs.declared.object.ObjectKind.TheVariants as kind

abbrev pub kind_of_detail : Detail → ObjectKind
kind_of_detail d.Untyped = kind.Untyped
kind_of_detail (d.CNode _) = kind.CNode
kind_of_detail d.Tcb = kind.Tcb
kind_of_detail (d.Endpoint _) = kind.Endpoint
kind_of_detail (d.Notification _) = kind.Notification
kind_of_detail d.Reply = kind.Reply
kind_of_detail d.Context = kind.Context
kind_of_detail (d.Frame _) = kind.Frame
kind_of_detail d.Control = kind.Control

-- the badge; a kind without badges has badge 0
abbrev pub badge_of : Detail → ℕ
badge_of (d.Endpoint end) = end.badge
badge_of (d.Notification end) = end.badge
badge_of _ = 0

-- the rights and the badge; a kind without them has none, and badge 0
abbrev pub badged_of : Detail → Badged
badged_of (d.Endpoint end) = end
badged_of (d.Notification end) = end
badged_of (d.Frame rights) = record { rights = rights; badge = 0 }
badged_of _ = record { rights = record { 0 = 0 }; badge = 0 }

abbrev pub can_read : Rights → Bool
can_read rights = bit_and rights.0 1 == 1

abbrev pub can_write : Rights → Bool
can_write rights = bit_and rights.0 2 == 2

abbrev pub can_grant : Rights → Bool
can_grant rights = bit_and rights.0 4 == 4

abbrev pub can_grant_reply : Rights → Bool
can_grant_reply rights = bit_and rights.0 8 == 8

-- whether a capability gives a kind of authority over its object
abbrev pub gives : Detail → Kind → Bool
gives d.Untyped authority.Control = true
gives (d.CNode _) authority.Control = true
gives d.Tcb authority.Control = true
gives (d.Endpoint _) authority.Reset = true
gives (d.Endpoint end) authority.Send = can_write end.rights
gives (d.Endpoint end) authority.Receive = can_read end.rights
gives (d.Endpoint end) authority.Grant = can_write end.rights && can_grant end.rights
gives (d.Endpoint end) authority.Call = can_write end.rights && (can_grant end.rights || can_grant_reply end.rights)
gives (d.Notification _) authority.Reset = true
gives (d.Notification end) authority.Notify = can_write end.rights
gives (d.Notification end) authority.Await = can_read end.rights
gives (d.Frame _) authority.Reset = true
gives (d.Frame rights) authority.Read = can_read rights
gives (d.Frame rights) authority.Write = can_write rights
gives d.Reply authority.Reply = true
gives d.Context authority.Context = true
gives d.Control authority.SchedControl = true
gives _ _ = false
