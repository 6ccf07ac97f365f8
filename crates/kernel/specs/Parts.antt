-- Parts of a capability table that a boot goes through in turn: its objects, then its capabilities, then its derivation tree.
use Rattle.{std.specs.Prelude.[], machine.specs.Layout.Layout}

-- the table with its objects and bindings alone
abbrev pub objects_alone : Layout → Layout
objects_alone t = record t { caps = []; pairs = [] }

-- the table with no derivation tree
abbrev pub without_tree : Layout → Layout
without_tree t = record t { pairs = [] }
