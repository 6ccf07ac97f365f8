-- The finite map that takes its values from a function, at the keys of a list.
use Rattle.std.specs.{declared.cmp.Ordering.Ordering, FinMap.FinMap, Prelude.{[], ◌∷◌, List, None, Option, Some}}
use Rattle.std.specs.FinMap as map

-- the map with this value at the key, if there is a value
abbrev pub put_some : {K X : Type 0} {R : K → K → Ordering} → FinMap R X → K → Option X → FinMap R X
put_some m key None = m
put_some m key (Some value) = map.insert m key value

-- the map that has a function's values at the keys of the list
abbrev pub tabulate : {K X : Type 0} {R : K → K → Ordering} → (K → Option X) → List K → FinMap R X
tabulate value [] = map.empty
tabulate value (key ∷ keys) = put_some (tabulate value keys) key (value key)
