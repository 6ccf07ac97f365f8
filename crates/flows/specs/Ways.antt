-- Ways in the graph of flows between programs, where a set of programs is left out (vertex cuts, in the words of graph theory).
use Rattle.std.specs.Prelude.{ℕ, ◌&&◌, ◌<◌, ◌==◌, ◌≡◌, List, not, true}
use Rattle.{base.specs.{declared.labels.Labels.Labels, Labels.is_in}, reach.specs.Extents.Limits}
use Rattle.flows.specs.{Flowing.{FilterTest, FlowsBeside, GoesOn}, Rows.{RelateSo, row_at}}
use Rattle.base.specs.declared.label.TheConstants.Label as Label

-- the row of the one label has the other
abbrev pub IsArrow : List Labels → ℕ → ℕ → Type 0
IsArrow rows x y = is_in (row_at rows x) y ≡ true

-- a way from one label to another, arrow by arrow: no label between the two is in the set
pub data Way (rows : List Labels) (set : FilterTest) (from : ℕ) : ℕ → Type 0 where
  starts : Way rows set from from
  goes_on : {x y : ℕ} → Way rows set from x → GoesOn set from x → IsArrow rows x y → Way rows set from y

-- the programs but for two labels
abbrev pub programs_beside : Limits → ℕ → ℕ → FilterTest
programs_beside limits x y l = (limits.acts l && not (l == x)) && not (l == y)

-- what the one label does may come to the other by objects that no third program owns
abbrev pub FlowsDirectly : Limits → ℕ → ℕ → Type 0
FlowsDirectly limits x y = FlowsBeside limits (programs_beside limits x y) x y

-- the arrows are these flows
pub record IsGraph (limits : Limits) (rows : List Labels) : Type 0 where
  pub few : (x : ℕ) → limits.acts x ≡ true → x < Label.COUNT
  pub arrows : RelateSo (FlowsDirectly limits) rows

-- some of the other labels, without which there is no way from the one end to the other
pub record Separates (rows : List Labels) (from to : ℕ) (others set : Labels) : Type 0 where
  pub among : (l : ℕ) → is_in set l ≡ true → is_in others l ≡ true
  pub cuts : ¬ Way rows (is_in set) from to
