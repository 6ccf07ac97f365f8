-- Policies to be mended: edges in any order, some lines dropped (confine's own).
use Rattle.std.specs.{BTreeSet.insert_key, List.{AllByRecursion, list_any}, Prelude.{[], ℕ, ◌++◌, ◌+◌, ◌∷◌, ◌≡◌, Bool, Err, IsOk, List}}
use Rattle.{std.specs.Prelude.{None, Ok, Option, Result, Some, codes, false}, base.specs.declared.{edge.Edge.Edge, kind.Kind.Kind}}
use Rattle.words.specs.{declared.faults.{Fault.Fault, Wrong.Wrong}, FirstFault.{Line, ended}}
use Rattle.words.specs.{Reading.{◌>>=◌, Format, as_read, ended_at, read_format, whole_lines}, Text.{lines_of, words_of}}
use Rattle.{machine.specs.Layout.Layout, table.specs.Names.label_named, policy.specs.Policy.{allows, edge_cmp, is_edge}}
use Rattle.captext.specs.{Policies.named_edge_at, PolicyText.{IsPolicyOf, policy_header}}

-- the labels and the kind that a line names
abbrev pub Named : Type 0
Named = List ℕ × (Kind × List ℕ)

-- a line that was dropped: its number, and what it names
pub record Dropped : Type 0 where
  pub line : ℕ
  pub from : List ℕ
  pub kind : Kind
  pub to : List ℕ

abbrev pub dropped_line : ℕ → Named → Dropped
dropped_line line named = record { line = line; from = named.0; kind = named.1.0; to = named.1.1 }

-- what was read of a policy so far: its edges in their order, the lines that were dropped, and the number of the last line
pub record Draft : Type 0 where
  pub edges : List Edge
  pub dropped : List Dropped
  pub last : ℕ

-- before any line but the header, which is line 1
abbrev pub no_lines : Draft
no_lines = record { edges = []; dropped = []; last = 1 }

-- the edge of this kind between two labels, if both are there
abbrev pub joining : Kind → Option ℕ → Option ℕ → Option Edge
joining kind None to = None
joining kind (Some from) None = None
joining kind (Some from) (Some to) = Some (record { from = from; kind = kind; to = to })

-- the edge between labels of these names, if the table has both
unfoldable pub edge_between : Layout → Named → Option Edge
edge_between t named = joining named.1.0 (label_named t named.0) (label_named t named.1.1)

-- with one more line: its edge takes its place among the others, unless it is there; without an edge the line is dropped
abbrev pub with_line : Draft → Named → Option Edge → Draft
with_line draft named (Some edge) =
    record { edges = insert_key edge_cmp draft.edges edge; dropped = draft.dropped; last = draft.last + 1 }
with_line draft named None =
    record { edges = draft.edges; dropped = draft.dropped ++ dropped_line (draft.last + 1) named ∷ []; last = draft.last + 1 }

-- edge LABEL KIND LABEL
unfoldable pub draft_line : Layout → Draft → List (List ℕ) → Result Draft Wrong
draft_line t draft words = do
  named ← named_edge_at words
  _ ← ended_at named.1
  Ok (with_line draft named.0 (edge_between t named.0))

-- policies to be mended, for the labels of a table, line by line
abbrev pub draft_format : Layout → Format Draft Draft
draft_format t = record { header = words_of (codes "confine-policy 1"); step = draft_line t; whole = as_read; start = no_lines }

-- what a text says of a policy that is to be mended, for the labels of a table, or its first fault
unfoldable pub read_draft_of : Layout → List ℕ → Result Draft Fault
read_draft_of t bytes = read_format (draft_format t) (lines_of bytes)

-- the meaning of what is read

-- what a line names, if it is an edge
abbrev pub NamedAt : Type 0
NamedAt = Result (Named × List (List ℕ)) Wrong

-- whether an edge that may be there is this one
abbrev pub is_some_edge : ℕ → Kind → ℕ → Option Edge → Bool
is_some_edge from kind to None = false
is_some_edge from kind to (Some edge) = is_edge from kind to edge

-- whether a line names this edge, and the table has both of its labels
abbrev pub is_edge_between : Layout → ℕ → Kind → ℕ → NamedAt → Bool
is_edge_between t from kind to (Err wrong) = false
is_edge_between t from kind to (Ok named) = is_some_edge from kind to (edge_between t named.0)

abbrev pub names : Layout → ℕ → Kind → ℕ → Line → Bool
names t from kind to words = is_edge_between t from kind to (named_edge_at words)

-- the line of this number, where it names an edge of which the table lacks a label
abbrev pub unless_edge : ℕ → Named → Option Edge → List Dropped
unless_edge number named None = dropped_line number named ∷ []
unless_edge number named (Some edge) = []

abbrev pub unknown_line : Layout → ℕ → NamedAt → List Dropped
unknown_line t number (Err wrong) = []
unknown_line t number (Ok named) = unless_edge number named.0 (edge_between t named.0)

-- all such lines, where the first of these has this number
abbrev pub unknown_lines : Layout → ℕ → List Line → List Dropped
unknown_lines t number [] = []
unknown_lines t number (words ∷ lines) = unknown_line t number (named_edge_at words) ++ unknown_lines t (number + 1) lines

-- each line of a text between the header and `end` names an edge: the draft has just the edges of which the table has both labels, and the
-- other lines are those that were dropped
pub record IsDraftOf (t : Layout) (text : List ℕ) (draft : Draft) : Type 0 where
  pub body : List Line
  pub lines_are : lines_of text ≡ ended (whole_lines policy_header body)
  pub formed : AllByRecursion (λ words. IsOk (named_edge_at words)) body
  pub policy : IsPolicyOf t draft.edges
  pub named : (from : ℕ) (kind : Kind) (to : ℕ) → allows draft.edges from kind to ≡ list_any (names t from kind to) body
  pub dropped : draft.dropped ≡ unknown_lines t 2 body
