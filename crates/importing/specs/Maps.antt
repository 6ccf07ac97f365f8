-- Capabilities in successive slots of CNodes: the maps of a domain, from slot 458 on, and all of a virtual machine's (confine's own).
use Rattle.std.specs.{List.{filter_map, list_any, position}, Option.{option_and_then, option_map_or}}
use Rattle.std.specs.Prelude.{[], ℕ, ◌&&◌, ◌++◌, ◌==◌, ◌||◌, ◌∷◌, Bool, List, None, Option, if◌then◌else◌, map, not, slice_get, take}
use Rattle.base.specs.{declared.rights.Rights.Rights, Rights.rights_with}
use Rattle.microkit.specs.{declared.description.{Map.Map, Processor.Processor, User.User}, Description.Description}
use Rattle.machine.specs.declared.cap.Detail.{Detail as detail}
use Rattle.importing.specs.{declared.{pieces.Minting.Minting, slots.Held.Held}, Slots.{capability, parent_held}}
use Rattle.microkit.specs.declared.description.User.TheVariants as user
use Rattle.importing.specs.declared.pieces.Form.TheVariants as form

-- the test that two users are the same

abbrev pub user_code : User → ℕ
user_code (user.Domain n) = 0
user_code (user.Machine n) = 1

abbrev pub user_number : User → ℕ
user_number (user.Domain n) = n
user_number (user.Machine n) = n

abbrev pub is_user : User → User → Bool
is_user one other = user_code one == user_code other && user_number one == user_number other

-- a user maps a region by one of these maps
abbrev pub is_mapped_by : List Map → User → ℕ → Bool
is_mapped_by maps user region = list_any (λ (map : Map). is_user map.user user && map.region == region) maps

-- a map at a place is the first by which the user maps the region
abbrev pub is_new : List Map → User → ℕ → Map → Bool
is_new maps user i one = is_user one.user user && not (is_mapped_by (take i maps) user one.region)

-- a user may write to a region by one of these maps
abbrev pub is_written_by : List Map → User → ℕ → Bool
is_written_by maps user region =
    list_any (λ (map : Map). is_user map.user user && (map.region == region && map.writable)) maps

-- the rights for a region: the union of those of its maps
abbrev pub frame_rights : List Map → User → ℕ → Rights
frame_rights maps user region = if is_written_by maps user region then rights_with 3 else rights_with 1

-- a map of a user gives all the rights that the user has for a region
abbrev pub gives_rights : List Map → User → ℕ → Map → Bool
gives_rights maps user region one =
    is_user one.user user && (one.region == region && (one.writable || not (is_written_by maps user region)))

-- the first such map, and its line
abbrev pub giving_map : List Map → User → ℕ → Option ℕ
giving_map maps user region = position (gives_rights maps user region) maps

abbrev pub frame_line : List Map → User → ℕ → ℕ
frame_line maps user region =
    option_map_or (λ (map : Map). map.line) (option_and_then (slice_get maps) (giving_map maps user region)) 0

abbrev pub frame_held : List Map → User → ℕ → Held
frame_held maps user region =
    capability (frame_line maps user region) form.Frame region (detail.Frame (frame_rights maps user region))

-- the regions that a user maps, each once, in the order of the first maps, behind those that were seen
abbrev pub regions_from : List Map → User → List Map → List ℕ
regions_from seen user [] = []
regions_from seen user (one ∷ maps) =
    if is_user one.user user && not (is_mapped_by seen user one.region)
    then one.region ∷ regions_from (seen ++ one ∷ []) user maps
    else regions_from (seen ++ one ∷ []) user maps

-- the capabilities for the regions that a user maps, one for each region
abbrev pub maps_held : List Map → User → List Held
maps_held maps user = map (frame_held maps user) (regions_from [] user maps)

-- the endpoint at which a virtual processor's domain gets its faults, from the line of the virtual processor
abbrev pub fault_of : Minting → ℕ → Processor → Option Held
fault_of minting machine processor =
    if processor.machine == machine then parent_held minting processor.line processor.id else None

abbrev pub faults_held : Minting → ℕ → List Processor → List Held
faults_held minting machine processors = filter_map (fault_of minting machine) processors

-- what a virtual machine has: its maps, then an endpoint for each virtual processor
unfoldable pub guest_held : Description → Minting → ℕ → List Held
guest_held d minting n = maps_held d.maps (user.Machine n) ++ faults_held minting n d.processors
