-- The verdict on a capability table and a policy: the rules that they break, and which broken place comes first; and the first place where
-- a machine's authority lies outside a policy (confine's own).
use Rattle.std.specs.{Option.{option_and_then, option_map_or}, Prelude.{[], ℕ, ◌∷◌, List, MatchOption, None, Option, Some, codes}}
use Rattle.{base.specs.declared.edge.Edge.Edge, machine.specs.{Layout.Layout, Machine.Machine}}
use Rattle.policy.specs.{Broken.{IsBrokenAt, broken_place, broken_rule, edge_asked_at}, Domain.EdgeTest, Places.{IsLeast, IsNone, IsUnder}}
use Rattle.sharp.specs.Broken.{sharp_edge_at, sharp_place, sharp_rule}
use Rattle.verdict.specs.{declared.denial.Denial.Denial, Rules.{Exceeds, Excess, a1, a2, a3, a4, a5, a6, binding, c1, capability}}
use Rattle.verdict.specs.{Rules.{edge_needed_at, excess_place, holding, pair, recorded, root}, Sources.{Sources, of_machine, of_table}}
use Rattle.verdict.specs.declared.denial.Denial.TheVariants as denial

-- the place where a denial by A1 to A6 says that authority lies outside
abbrev pub excess_of : Denial → Option Excess
excess_of (denial.Policy broken) = None
excess_of (denial.Sharp broken) = None
excess_of (denial.Capability slot kind label) = Some (capability slot kind label)
excess_of (denial.Root slot label) = Some (root slot label)
excess_of (denial.Pair child parent) = Some (pair child parent)
excess_of (denial.Binding thread context) = Some (binding thread context)
excess_of (denial.Holding reply thread) = Some (holding reply thread)
excess_of (denial.Recorded thread kind label) = Some (recorded thread kind label)
excess_of (denial.Certificate line) = None

-- the policy is exceeded as a denial says
abbrev pub IsExceeded : Sources → EdgeTest → Denial → Type 0
IsExceeded s allowed d = MatchOption (excess_of d) ⊥ (Exceeds s allowed)

-- the table or the policy breaks one of the rules P1 to P8 and A1 to A6 at a place; S1 to S8 belong to another set, and C1 to certificates
abbrev pub Breaks : Layout → EdgeTest → Denial → Type 0
Breaks t allowed (denial.Policy broken) = IsBrokenAt allowed broken
Breaks t allowed d = IsExceeded (of_table t) allowed d

-- a denial as numbers: its rule, and then the labels, kinds, objects and slots that it names
abbrev pub place_of : Denial → List ℕ
place_of (denial.Policy broken) = broken_place broken
place_of (denial.Sharp broken) = sharp_place broken
place_of (denial.Certificate line) = c1 ∷ line ∷ []
place_of d = option_map_or excess_place (excess_of d) []

-- the number of the rule A1 to A6 of a denial, and a greater number for any other denial
abbrev pub rule_number : Option Denial → ℕ
rule_number (Some (denial.Capability _ _ _)) = a1
rule_number (Some (denial.Root _ _)) = a2
rule_number (Some (denial.Pair _ _)) = a3
rule_number (Some (denial.Binding _ _)) = a4
rule_number (Some (denial.Holding _ _)) = a5
rule_number (Some (denial.Recorded _ _ _)) = a6
rule_number _ = c1

-- the edge that a denial asks a policy for, if one edge would mend it; P1 and C1 ask for none
abbrev pub edge_asked : Layout → Denial → Option Edge
edge_asked t (denial.Policy broken) = edge_asked_at broken
edge_asked t (denial.Sharp broken) = Some (sharp_edge_at broken)
edge_asked t d = option_and_then (edge_needed_at (of_table t)) (excess_of d)

abbrev pub rule_name : Denial → List ℕ
rule_name (denial.Policy broken) = broken_rule broken
rule_name (denial.Sharp broken) = sharp_rule broken
rule_name (denial.Capability _ _ _) = codes "A1"
rule_name (denial.Root _ _) = codes "A2"
rule_name (denial.Pair _ _) = codes "A3"
rule_name (denial.Binding _ _) = codes "A4"
rule_name (denial.Holding _ _) = codes "A5"
rule_name (denial.Recorded _ _ _) = codes "A6"
rule_name (denial.Certificate _) = codes "C1"

-- a broken place begins with these numbers
abbrev pub BreaksUnder : Layout → EdgeTest → List ℕ → Denial → Type 0
BreaksUnder t allowed = IsUnder place_of (Breaks t allowed)

abbrev pub IsLeastBroken : Layout → EdgeTest → Denial → Type 0
IsLeastBroken t allowed = IsLeast place_of (Breaks t allowed)

abbrev pub IsAccepted : Layout → EdgeTest → Type 0
IsAccepted t allowed = IsNone (Breaks t allowed)

-- the first place where a machine's authority lies outside the policy
abbrev pub IsOutside : Layout → EdgeTest → Machine → Excess → Type 0
IsOutside t allowed m = IsLeast excess_place (Exceeds (of_machine t m) allowed)
