-- The authority of a machine that lies outside a policy, as denials say it (confine's own).
use Rattle.std.specs.Prelude.{ℕ, ◌≡◌, List, get_or}
use Rattle.{base.specs.declared.ids.ObjId.ObjId, machine.specs.{Layout.Layout, Machine.Machine}}
use Rattle.policy.specs.{Domain.EdgeTest, Places.IsUnder}
use Rattle.verdict.specs.{declared.denial.Denial.Denial, Sources.of_machine, Verdict.{IsExceeded, place_of}}

abbrev pub LiesOutside : Layout → EdgeTest → Machine → Denial → Type 0
LiesOutside t allowed m = IsExceeded (of_machine t m) allowed

-- at a place that begins with these numbers
abbrev pub LiesUnder : Layout → EdgeTest → Machine → List ℕ → Denial → Type 0
LiesUnder t allowed m = IsUnder place_of (LiesOutside t allowed m)

-- at an object, by any rule: each place names the object of its slot or link first
abbrev pub LiesAt : Layout → EdgeTest → Machine → ObjId → Denial → Type 0
LiesAt t allowed m id d = (get_or (place_of d) 1 0 ≡ id.0) × LiesOutside t allowed m d
