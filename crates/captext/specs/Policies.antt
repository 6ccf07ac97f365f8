-- The text of a policy, line by line: each line adds an edge that rises above the one before, or is faulty.
use Rattle.std.specs.{Ordering.is_lt, Prelude.{[], ℕ, ◌&&◌, ◌++◌, ◌==◌, ◌||◌, ◌∷◌, Bool, List, None, Ok, Option, Result, Some, codes}}
use Rattle.{std.specs.Prelude.{nat_lt, not, true}, base.specs.{declared.{edge.Edge.Edge, kind.Kind.Kind}, Kinds.{kind_named, kind_number}}}
use Rattle.words.specs.{declared.faults.{Fault.Fault, Wrong.{Wrong, Wrong as wrong}}, Name.name_at, Parts.{PartReader, in_turn, keyed}}
use Rattle.words.specs.{Reading.{◌>>=◌, Format, ended_at, list_format, or_syntax, read_format, word_at}, Text.{lines_of, words_of}}
use Rattle.{machine.specs.Layout.Layout, table.specs.Names.label_named}
use Rattle.{policy.specs.Policy.{edge_cmp, last_edge}, captext.specs.Tables.{demand, value_or}}

-- the next word as a kind of authority
unfoldable pub kind_at : PartReader Kind
kind_at words = do
  word ← word_at words
  kind ← or_syntax (kind_named word.0)
  Ok (kind, word.1)

-- edge LABEL KIND LABEL, by the names of the labels
unfoldable pub named_edge_at : PartReader (List ℕ × (Kind × List ℕ))
named_edge_at = keyed ((codes "edge", in_turn name_at (in_turn kind_at name_at)) ∷ [])

-- whether an edge from this label of this kind may come after the last one, by these two entries
abbrev pub may_follow : Option Edge → ℕ → Kind → Bool
may_follow None from kind = true
may_follow (Some last) from kind =
    nat_lt last.from from || ((last.from == from) && not (nat_lt (kind_number kind) (kind_number last.kind)))

-- whether an edge rises above the last one
abbrev pub follows : Option Edge → Edge → Bool
follows None edge = true
follows (Some last) edge = is_lt (edge_cmp last edge)

-- the edges with one more, which has to rise above the last
unfoldable pub with_edge : List Edge → Edge → Result (List Edge) Wrong
with_edge edges edge = do
  _ ← demand (follows (last_edge edges) edge) wrong.Syntax
  Ok (edges ++ edge ∷ [])

-- the edges with one more, given by the names of its labels: the entries are compared from left to right, and an unknown name ends the
-- comparison
unfoldable pub labelled_edge : Layout → List Edge → List ℕ × (Kind × List ℕ) → Result (List Edge) Wrong
labelled_edge t edges named = do
  from ← value_or wrong.UnknownName (label_named t named.0)
  _ ← demand (may_follow (last_edge edges) from named.1.0) wrong.Syntax
  to ← value_or wrong.UnknownName (label_named t named.1.1)
  with_edge edges (record { from = from; kind = named.1.0; to = to })

-- edge LABEL KIND LABEL
unfoldable pub edge_line : Layout → List Edge → List (List ℕ) → Result (List Edge) Wrong
edge_line t edges words = do
  named ← named_edge_at words
  _ ← ended_at named.1
  labelled_edge t edges named.0

-- policies for the labels of a table, line by line
abbrev pub policy_format : Layout → Format (List Edge) (List Edge)
policy_format t = list_format (words_of (codes "confine-policy 1")) (edge_line t)

-- the policy that a text spells for the labels of a table, or its first fault
unfoldable pub read_policy_of : Layout → List ℕ → Result (List Edge) Fault
read_policy_of t bytes = read_format (policy_format t) (lines_of bytes)
