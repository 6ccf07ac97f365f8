-- What a list of elements is, without where it lies in memory (confine's own).
use Rattle.{std.specs.Prelude.{List, map}, xml.specs.{declared.element.{Attribute.Attribute, Element.Element}, Document.Node, Tag.Pair}}

-- an attribute
abbrev pub pair_of : Attribute → Pair
pair_of attribute = record { name = attribute.name.now; value = attribute.value.items }

abbrev pub pairs_of : List Attribute → List Pair
pairs_of attributes = map pair_of attributes

-- an element
abbrev pub node_of : Element → Node
node_of element =
    record { level = element.level; line = element.line; name = element.name.now; attributes = pairs_of element.attributes.items }

abbrev pub nodes_of : List Element → List Node
nodes_of elements = map node_of elements
