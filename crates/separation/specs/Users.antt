-- Users, which are domains and virtual machines, and which of them are inside which (confine's own).
--
-- A parent holds the threads of all children and virtual processors inside it, so it may do all that these may do, at any depth. They may
-- not do all that their parent may do.
use Rattle.std.specs.{Option.option_map_or, Prelude.{ℕ, ◌&&◌, ◌==◌, ◌||◌, Bool, Option, Some, false, length, not, option_and_then, option_map}}
use Rattle.std.specs.Prelude.{slice_get, suc, true, zero}
use Rattle.microkit.specs.{declared.description.{Id.Id, User.User}, Description.{Description, Domain, Machine}}
use Rattle.microkit.specs.declared.description.User.TheVariants as user
use Rattle.importing.specs.Maps.{is_user}

-- the domain of a user; for a virtual machine, the domain around it
unfoldable pub home_of : Description → User → ℕ
home_of d (user.Domain n) = n
home_of d (user.Machine n) = option_map_or (λ (machine : Machine). machine.domain) (slice_get d.machines n) 0

-- the domain around a domain, if that is a child
unfoldable pub parent_of : Description → ℕ → Option ℕ
parent_of d n = option_and_then (λ (domain : Domain). option_map (λ (id : Id). id.domain) domain.parent) (slice_get d.domains n)

-- the domain around a user, also around a virtual machine
unfoldable pub parent_of_user : Description → User → Option ℕ
parent_of_user d (user.Domain n) = parent_of d n
parent_of_user d (user.Machine n) = Some (home_of d (user.Machine n))

-- a user is a child or a virtual machine of a domain
unfoldable pub is_child_of : Description → ℕ → User → Bool
is_child_of d n one = option_map_or (λ (parent : ℕ). parent == n) (parent_of_user d one) false

-- a domain is another one, or at most this number of levels inside it
unfoldable pub is_within : Description → ℕ → ℕ → ℕ → Bool
is_within d outer zero n = n == outer
is_within d outer (suc levels) n = n == outer || option_map_or (is_within d outer levels) (parent_of d n) false

-- the outermost domain around a domain, at most this number of levels up
unfoldable pub top_of : Description → ℕ → ℕ → ℕ
top_of d zero n = n
top_of d (suc levels) n = option_map_or (top_of d levels) (parent_of d n) n

-- the family of a user: the outermost domain around it
unfoldable pub family_of : Description → User → ℕ
family_of d one = top_of d (length d.domains) (home_of d one)

-- a user may do all that another may do: it is that user, or that user is inside it
unfoldable pub acts_for : Description → User → User → Bool
acts_for d (user.Domain n) other = is_within d n (length d.domains) (home_of d other)
acts_for d (user.Machine n) other = is_user (user.Machine n) other

-- a user holds the thread of another, or of one around that
unfoldable pub controls : Description → User → User → Bool
controls d one other = acts_for d one other && not (is_user one other)

-- a user has a reply object: each domain has one, and no virtual machine
unfoldable pub has_reply : User → Bool
has_reply (user.Domain n) = true
has_reply (user.Machine n) = false

-- a user may answer a call to another: a domain around both may use its reply object at the other's endpoint
unfoldable pub may_answer : Description → User → User → Bool
may_answer d one called = has_reply one && family_of d one == family_of d called
