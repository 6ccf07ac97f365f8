-- The text on what flows from one label to another: through which programs all of it goes, and a chain of flows (confine's own).
use Rattle.std.specs.{List.flat_map, Prelude.{[], ℕ, ◌++◌, ◌∷◌, ◌≡◌, List, codes, false, if◌then◌else◌}}
use Rattle.base.specs.{declared.labels.Labels.Labels, Labels.{is_in, members_of}}
use Rattle.{machine.specs.Layout.Layout, reach.specs.{Extents.{Limits, limits_of}, Reach.TableReach}}
use Rattle.flows.specs.{declared.{links.Link.Link, smallest.{Sets.Sets, Smallest.{Smallest, Smallest as smallest}}}, Chains.IsChain}
use Rattle.flows.specs.{Flowing.{FilterTest, GoesThrough}, Smallest.{IsFilterSet, IsSmallest}, Ways.programs_beside}
use Rattle.{captext.specs.PolicyText.label_name, summary.specs.declared.flow.TheConstants.MOST_SETS}

-- a label's name, behind a space
abbrev pub spaced : Layout → ℕ → List ℕ
spaced t label = 32 ∷ label_name t label

-- the line of a set of programs
abbrev pub set_line : Layout → Labels → List ℕ
set_line t set = codes "through" ++ (flat_map (spaced t) (members_of set) ++ codes "\n")

-- the line of a flow
abbrev pub link_line : Layout → Link → List ℕ
link_line t link = codes "link" ++ (spaced t link.from ++ (spaced t link.object ++ (spaced t link.to ++ codes "\n")))

-- whether there are other sets
abbrev pub rest_line : Sets → List ℕ
rest_line sets = if sets.all then [] else codes "and more\n"

-- the lines on the smallest sets
abbrev pub smallest_text : Layout → Smallest → List ℕ
smallest_text t smallest.Direct = codes "direct\n"
smallest_text t smallest.Larger = codes "more than 5\n"
smallest_text t (smallest.Fewest sets) = flat_map (set_line t) sets.sets.items ++ rest_line sets

-- the text where something flows from the one label to the other: the smallest sets, and a chain
abbrev pub reached_text : Layout → Smallest → List Link → List ℕ
reached_text t sets links = smallest_text t sets ++ flat_map (link_line t) links

-- the programs that a chain avoids: all others if no set of programs is one, else none
abbrev pub avoided_in : Limits → ℕ → ℕ → Smallest → FilterTest
avoided_in limits from to smallest.Direct = programs_beside limits from to
avoided_in limits from to _ = λ l. false

-- a set is that of these programs
abbrev pub AreAvoided : Limits → ℕ → ℕ → Smallest → Labels → Type 0
AreAvoided limits from to sets avoided = (l : ℕ) → is_in avoided l ≡ avoided_in limits from to sets l

-- the text says that nothing flows from the one label to the other, which is so; or what is so of the flows, and a chain
pub data IsFlowText (reach : TableReach) (from to : ℕ) (text : List ℕ) : Type 0 where
  none :
      (nobody : Labels) → ((l : ℕ) → is_in nobody l ≡ false) → GoesThrough (limits_of reach) (is_in nobody) from to → text ≡ codes "none\n"
      → IsFlowText reach from to text
  some :
      (sets : Smallest) (avoided : Labels) (links : List Link) → IsSmallest (IsFilterSet (limits_of reach) from to) MOST_SETS sets
      → AreAvoided (limits_of reach) from to sets avoided → IsChain (limits_of reach) (is_in avoided) from links to
      → text ≡ reached_text reach.table sets links → IsFlowText reach from to text
