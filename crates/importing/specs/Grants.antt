-- Capabilities in the CNodes of domains and virtual machines (confine's own).
use Rattle.std.specs.{List.{filter_map, flat_map, range_with_len}, Prelude.{[], ℕ, ◌++◌, ◌+◌, ◌-◌, ◌∷◌, List, Option, length, option_map}}
use Rattle.{microkit.specs.Description.Description, machine.specs.declared.cap.Detail.{Detail, Detail as detail}}
use Rattle.importing.specs.declared.{pieces.{Grant.Grant, Minting.Minting, Piece.Piece}, slots.{Held.Held, TheConstants.MAPS}}
use Rattle.importing.specs.{Maps.{guest_held, maps_held}, Objects.radix_of}
use Rattle.importing.specs.{Plan.{domain_line, machine_number, processor_line}, Slots.slot_held}
use Rattle.microkit.specs.declared.description.User.TheVariants as user
use Rattle.importing.specs.declared.pieces.Form.TheVariants as form

-- a capability in a slot of a holder
abbrev pub grant : Piece → ℕ → Held → Grant
grant holder index held =
    record { holder = holder; index = index; target = held.target; detail = held.detail; line = held.line }

-- capabilities in the slots of a holder from one on
abbrev pub numbered : Piece → ℕ → List Held → List Grant
numbered holder index [] = []
numbered holder index (held ∷ rest) = grant holder index held ∷ numbered holder (index + 1) rest

abbrev pub space_of : ℕ → Piece
space_of n = record { form = form.Space; number = n }

abbrev pub guest_space_of : ℕ → Piece
guest_space_of n = record { form = form.GuestSpace; number = n }

-- the capabilities below slot 458
abbrev pub slot_grant : Description → Minting → ℕ → ℕ → Option Grant
slot_grant d minting n index = option_map (grant (space_of n) index) (slot_held d minting n index)

abbrev pub slot_grants : Description → Minting → ℕ → List Grant
slot_grants d minting n = filter_map (slot_grant d minting n) (range_with_len 0 MAPS)

unfoldable pub domain_grants : Description → Minting → ℕ → List Grant
domain_grants d minting n =
    slot_grants d minting n ++ numbered (space_of n) MAPS (maps_held d.maps (user.Domain n))

-- what a virtual machine's CNode has: its maps from slot 1 on, then an endpoint for each virtual processor
unfoldable pub guest_grants : Description → Minting → ℕ → List Grant
guest_grants d minting n =
    numbered (guest_space_of n) 1 (guest_held d minting n)

unfoldable pub grants_of : Description → Minting → List Grant
grants_of d minting =
    flat_map (domain_grants d minting) (range_with_len 0 (length d.domains))
    ++ flat_map (guest_grants d minting) (range_with_len 0 (length d.machines))

-- the root of a thread: its CNode, with a guard for the bits that the radix leaves, from the line of the domain or virtual processor
abbrev pub root_detail : ℕ → Detail
root_detail radix = detail.CNode (record { size = 64 - radix; value = 0 })

abbrev pub root_grant : ℕ → Piece → Piece → ℕ → Grant
root_grant line thread space radix =
    record { holder = thread; index = 0; target = space; detail = root_detail radix; line = line }

abbrev pub root_of : ℕ → List Grant → Piece → Piece → Option Grant
root_of line grants thread space = option_map (root_grant line thread space) (radix_of grants space)

abbrev pub domain_root : Description → List Grant → ℕ → Option Grant
domain_root d grants n = root_of (domain_line d n) grants (record { form = form.Main; number = n }) (space_of n)

abbrev pub processor_root : Description → List Grant → ℕ → Option Grant
processor_root d grants n =
    root_of (processor_line d n) grants (record { form = form.Processor; number = n }) (guest_space_of (machine_number d n))

-- the roots of all threads
unfoldable pub roots_of : Description → List Grant → List Grant
roots_of d grants =
    filter_map (domain_root d grants) (range_with_len 0 (length d.domains))
    ++ filter_map (processor_root d grants) (range_with_len 0 (length d.processors))
