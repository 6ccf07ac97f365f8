-- Policies and their texts: what a policy that was read says of its text, and that the text of each policy is read back.
use Rattle.std.specs.declared.cmp.Ordering.{Ordering, TheVariants.{Equal, Greater, Less}}
use Rattle.std.specs.{Bool.⊤, List.Sorted.IsStrictlySortedBy, Ordering.{is_lt, nat_cmp, ordering_then}}
use Rattle.std.proofs.Common.{[], ℕ, ◌&&◌, ◌++◌, ◌-◌, ◌==◌, ◌||◌, ◌↔◌, ◌∙◌, ◌∷◌, ◌≡◌, IfSome, List, None, Ok, Option, Some}
use Rattle.std.proofs.{Common.{ap, arith, codes, length, nat_lt, not, refl, subst, sym, true}, lemmas.Bool.Decides.nat_tests}
use Rattle.std.proofs.lemmas.{List.{get_or_append_left, get_or_push, length_push}, Map.Keys.Less-from_sorted, Option.slice_get-get_or}
use Rattle.base.specs.declared.{edge.Edge.Edge, kind.Kind.{Kind, TheVariants.Control}}
use Rattle.base.{specs.Kinds.{kind_name, kind_named, kind_number}, proofs.KindNames.{kind_again, kind_is_named}}
use Rattle.words.specs.{declared.faults.Wrong.Wrong as wrong, Name.{is_name, name_at}}
use Rattle.words.specs.{Parts.{IsPart, by_word, in_turn, keyed}, Reading.{bind, word_at}, Text.IsPlainLine}
use Rattle.words.proofs.ListLaws.{IsListFormat, all_front, all_last, list_again, list_once, list_takes}
use Rattle.words.proofs.{Parts.{after_key, alone_again, alone_takes, both_parts, keyed_part, name_part, word_part}, TextLaws.both}
use Rattle.{words.proofs.WordLaws.{plain_bytes, plain_name}, machine.specs.Layout.Layout, table.specs.{Names.label_named, Rules.IsLawful}}
use Rattle.policy.{specs.Policy.{IsAboveLast, IsRising, edge_cmp, last_edge}, proofs.Members.rising_appended}
use Rattle.captext.specs.Policies.{edge_line, follows, kind_at, labelled_edge, may_follow, named_edge_at, read_policy_of, with_edge}
use Rattle.captext.specs.PolicyText.{IsEdgeOf, IsPolicyOf, edge_words, label_name, policy_header, policy_text}
use Rattle.captext.proofs.{NameLaws.{is_label_name, label_again, label_takes}, StepLaws.{demand_then, value_then}}

-- the words of a line

kind_is_name : (kind : Kind) → is_name (kind_name kind) ≡ true
kind_is_name Control = refl
kind_is_name _ = refl

kind_part : IsPart kind_at (λ kind. kind_name kind ∷ []) (λ kind. ⊤)
unfolding kind_at
kind_part =
    word_part kind_named kind_name (λ kind. ⊤) (λ word kind h. (kind_is_named word kind h, tt)) (λ kind is. kind_again kind)
    (λ kind is. plain_name (kind_name kind) (kind_is_name kind))

abbrev NamedEdge : Type 0
NamedEdge = List ℕ × (Kind × List ℕ)

named_words : NamedEdge → List (List ℕ)
named_words named = codes "edge" ∷ named.0 ∷ kind_name named.1.0 ∷ named.1.1 ∷ []

abbrev HasNames : NamedEdge → Type 0
HasNames named = (is_name named.0 ≡ true) × (⊤ × (is_name named.1.1 ≡ true))

named_edge_part : IsPart named_edge_at named_words HasNames
unfolding named_edge_at named_words keyed by_word bind word_at
named_edge_part =
    keyed_part named_words HasNames ((codes "edge", in_turn name_at (in_turn kind_at name_at)) ∷ []) (after_key entries (codes "edge"), tt) (λ named rest is. entries.again named rest is)
    (λ named is. (plain_bytes (codes "edge") refl, entries.plain named is))
  where
    entries : IsPart (in_turn name_at (in_turn kind_at name_at)) (λ named. named.0 ∷ kind_name named.1.0 ∷ named.1.1 ∷ []) HasNames
    entries = both_parts name_part (both_parts kind_part name_part)

-- reading gives its edges

with_takes : (edges : List Edge) (edge : Edge) (next : List Edge) → with_edge edges edge ≡ Ok next
    → (follows (last_edge edges) edge ≡ true) × (next ≡ edges ++ edge ∷ [])
unfolding with_edge
with_takes edges edge next h =
    let passed = demand_then (follows (last_edge edges) edge) wrong.Syntax _ next h in
    let same : next ≡ edges ++ edge ∷ [] = cc in (passed.0, same)

-- a line was taken: it is that of an edge, which joins those before it
record TakesEdge (t : Layout) (edges : List Edge) (words : List (List ℕ)) (next : List Edge) : Type 0 where
  edge : Edge
  words_are : words ≡ edge_words t edge
  within : IsEdgeOf t edge
  above : follows (last_edge edges) edge ≡ true
  grown : next ≡ edges ++ edge ∷ []

line_takes : (t : Layout) (edges : List Edge) (words : List (List ℕ)) (next : List Edge) → edge_line t edges words ≡ Ok next
    → TakesEdge t edges words next
unfolding edge_line labelled_edge named_words
line_takes t edges words next h =
    let read = alone_takes named_edge_part (labelled_edge t edges) words next h in
    let named = read.0 in
    let from = value_then (label_named t named.0) wrong.UnknownName _ next read.3 in
    let passed = demand_then (may_follow (last_edge edges) from.0 named.1.0) wrong.Syntax _ next from.2 in
    let to = value_then (label_named t named.1.1) wrong.UnknownName _ next passed.1 in
    let edge : Edge = record { from = from.0; kind = named.1.0; to = to.0 } in
    let joins = with_takes edges edge next to.2 in
    let one = label_takes t named.0 from.0 from.1 in
    let other = label_takes t named.1.1 to.0 to.1 in
    record {
      edge = edge;
      words_are = read.1
          ∙ ap (λ name. codes "edge" ∷ name ∷ kind_name named.1.0 ∷ named.1.1 ∷ []) one.1
          ∙ ap (λ name. codes "edge" ∷ label_name t from.0 ∷ kind_name named.1.0 ∷ name ∷ []) other.1;
      within = (one.0, other.0);
      above = joins.0;
      grown = joins.1;
    }

-- an edge above the last joins edges that rise, and where it joined them it is above their last

pub above_from_test : (last : Option Edge) (edge : Edge) → follows last edge ≡ true → IfSome last (λ last. edge_cmp last edge ≡ Less)
above_from_test None edge passed = tt
above_from_test (Some last) edge passed = less_from_test (edge_cmp last edge) passed
  where
    less_from_test : (order : Ordering) → is_lt order ≡ true → order ≡ Less
    less_from_test Less h = refl
    less_from_test Equal h = cc
    less_from_test Greater h = cc

rising_front : (edges more : List Edge) → IsRising (edges ++ more) → IsRising edges
unfolding IsStrictlySortedBy
rising_front [] more rising = tt
rising_front (edge ∷ edges) more rising = (all_front _ edges more rising.0, rising_front edges more rising.1)

rising_last : (edges : List Edge) (edge : Edge) → IsRising (edges ++ edge ∷ []) → IsAboveLast edges edge
rising_last [] edge rising = tt
rising_last (first ∷ rest) edge rising =
    let edges = first ∷ rest in
    let k = length edges - 1 in
    let less =
    Less-from_sorted edge_cmp (edges ++ edge ∷ []) k (length edges) edge rising (omega arith) (rw length_push (omega arith)) in
    let last = slice_get-get_or edges k edge (omega arith) in
    rw last
    (rw (get_or_append_left edges (edge ∷ []) edge k (omega arith), get_or_push edges edge edge (length edges) refl) at less)

takes : (t : Layout) (edges : List Edge) (words : List (List ℕ)) (next : List Edge) → IsPolicyOf t edges
    → edge_line t edges words ≡ Ok next
    → (edge : Edge) × (words ≡ edge_words t edge) × (edges ++ edge ∷ [] ≡ next) × IsPolicyOf t next
takes t edges words next is h =
    let taken = line_takes t edges words next h in
    let rises = rising_appended edges taken.edge is.0 (above_from_test (last_edge edges) taken.edge taken.above) in
    let within = both (IsEdgeOf t) edges (taken.edge ∷ []) is.1 (taken.within, tt) in
    (taken.edge, taken.words_are, sym taken.grown, subst (IsPolicyOf t) (sym taken.grown) (rises, within))

-- the edges of a policy are read back

-- an edge above the last passes both tests
passes : (last : Option Edge) (edge : Edge) → IfSome last (λ l. edge_cmp l edge ≡ Less)
    → (may_follow last edge.from edge.kind ≡ true) × (follows last edge ≡ true)
passes None edge above = (refl, refl)
passes (Some last) edge less =
    (in_order last.from edge.from (kind_number last.kind) (kind_number edge.kind) last.to edge.to less, ap is_lt less)
  where
    in_order : (a b c d e f : ℕ) → ordering_then (nat_cmp a b) (ordering_then (nat_cmp c d) (nat_cmp e f)) ≡ Less
        → (nat_lt a b || ((a == b) && not (nat_lt d c))) ≡ true
    in_order a b c d e f h = grind (arith, nat_tests)

line_again : (t : Layout) (edges : List Edge) (edge : Edge) → IsLawful t → IsEdgeOf t edge
    → IfSome (last_edge edges) (λ last. edge_cmp last edge ≡ Less)
    → edge_line t edges (edge_words t edge) ≡ Ok (edges ++ edge ∷ [])
unfolding edge_line labelled_edge with_edge bind named_words
line_again t edges edge lawful within above =
    let names : HasNames (label_name t edge.from, (edge.kind, label_name t edge.to)) =
    (is_label_name t edge.from lawful.draft within.0, (tt, is_label_name t edge.to lawful.draft within.1)) in
    let one = label_again t edge.from lawful.draft within.0 in
    let other = label_again t edge.to lawful.draft within.1 in
    let tests = passes (last_edge edges) edge above in
    alone_again named_edge_part (labelled_edge t edges) (label_name t edge.from, (edge.kind, label_name t edge.to)) names
    ∙ rw (one, tests.0, other, tests.1) refl

-- the words of an edge's line are plain

plain_edge : (t : Layout) (edge : Edge) → IsLawful t → IsEdgeOf t edge → IsPlainLine (edge_words t edge)
unfolding named_words
plain_edge t edge lawful within =
    named_edge_part.plain (label_name t edge.from, (edge.kind, label_name t edge.to))
    (is_label_name t edge.from lawful.draft within.0, (tt, is_label_name t edge.to lawful.draft within.1))

pub plain_header : IsPlainLine policy_header
plain_header = (plain_bytes (codes "confine-policy") refl, (plain_bytes (codes "1") refl, tt))

-- a policy is a list of edges

pub format : (t : Layout) → IsLawful t → IsListFormat (edge_words t) (edge_line t) (IsPolicyOf t)
unfolding IsStrictlySortedBy
format t lawful = record {
  none = (tt, tt);
  front = λ edges more is. (rising_front edges more is.0, all_front (IsEdgeOf t) edges more is.1);
  takes = takes t;
  again = λ edges edge is.
      line_again t edges edge lawful (all_last (IsEdgeOf t) edges edge is.1) (rising_last edges edge is.0);
  plain = λ edges edge is. (plain_edge t edge lawful (all_last (IsEdgeOf t) edges edge is.1), refl);
}

pub policy_is_read : (t : Layout) (bytes : List ℕ) (edges : List Edge) → IsLawful t → IsPolicyOf t edges
    → bytes ≡ policy_text t edges → read_policy_of t bytes ≡ Ok edges
unfolding read_policy_of
policy_is_read t bytes edges lawful is text = list_again (format t lawful) policy_header bytes edges plain_header is text

pub policy_iff : (t : Layout) (bytes : List ℕ) (edges : List Edge) → IsLawful t
    → (read_policy_of t bytes ≡ Ok edges) ↔ (IsPolicyOf t edges × (bytes ≡ policy_text t edges))
unfolding read_policy_of
policy_iff t bytes edges lawful =
    (list_takes (format t lawful) policy_header bytes edges, λ h. policy_is_read t bytes edges lawful h.0 h.1)

-- different policies have different texts
pub policy_once : (t : Layout) (one other : List Edge) → IsLawful t → IsPolicyOf t one → IsPolicyOf t other
    → policy_text t one ≡ policy_text t other → one ≡ other
policy_once t one other lawful = list_once (format t lawful) policy_header one other plain_header
