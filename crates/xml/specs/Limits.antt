-- The limits within which the elements of a document are (confine's own).
use Rattle.std.specs.{List.AllByRecursion, Prelude.{◌≤◌, List, length}}
use Rattle.xml.specs.{declared.{document.TheConstants.{MAX_ELEMENTS, MAX_LEVELS}, tags.TheConstants.MAX_ATTRIBUTES}, Document.Node}

-- an element
pub record IsLimited (node : Node) : Type 0 where
  pub level_from : 1 ≤ node.level
  pub level_to : node.level ≤ MAX_LEVELS
  pub attributes : length node.attributes ≤ MAX_ATTRIBUTES

-- all elements
pub record AreLimited (nodes : List Node) : Type 0 where
  pub count : length nodes ≤ MAX_ELEMENTS
  pub each : AllByRecursion IsLimited nodes
