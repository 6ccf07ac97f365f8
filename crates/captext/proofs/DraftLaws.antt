-- Drafts of policies: what a draft that was read says of its text, and that the text of a policy is read as a draft of it.
use Rattle.std.specs.{declared.cmp.Ordering.{Ordering, TheVariants.{Equal, Greater, Less}}, BTreeSet.insert_key}
use Rattle.std.specs.{List.{AllByRecursion, Sorted.IsStrictlySortedBy, list_any}, Ordering.{is_eq, match_ordering, ordering_reverse}}
use Rattle.std.proofs.Common.{[], ℕ, ◌++◌, ◌+◌, ◌<◌, ◌||◌, ◌∙◌, ◌∷◌, ◌≡◌, Bool, Err, IfOk, IfSome, IsOk, List, None}
use Rattle.std.proofs.Common.{Ok, Option, Result, Some, ap, append_assoc, false, length, refl, subst, sym, true}
use Rattle.{std.proofs.lemmas.List.{append-nil, map-append}, base.specs.declared.{edge.Edge.Edge, kind.Kind.Kind}}
use Rattle.words.specs.{declared.faults.{Fault.Fault, Wrong.Wrong as wrong}, FirstFault.Line}
use Rattle.words.{specs.{Reading.{Reads, bind, ended_at, last_line, steps}, Text.lines_of}, proofs.FirstFaults.{is_text, reads}}
use Rattle.{words.proofs.{TextLaws.each, WordLaws.bind_ok}, machine.specs.Layout.Layout, table.specs.Names.label_named}
use Rattle.policy.{specs.Policy.{IsRising, allows, edge_cmp, is_edge, last_edge}, proofs.KindNumbers.same_kind}
use Rattle.policy.proofs.{Members.{IsAdded, pushed, same_rising}, Order.{edge_total, is_edge-edge_cmp}, RowEdges.same_parts}
use Rattle.captext.specs.Drafts.{Draft, IsDraftOf, Named, draft_format, draft_line, edge_between, is_edge_between, is_some_edge}
use Rattle.captext.specs.Drafts.{joining, names, no_lines, read_draft_of, unknown_line, unknown_lines, unless_edge, with_line}
use Rattle.captext.specs.Policies.{edge_line, follows, labelled_edge, may_follow, named_edge_at, policy_format, read_policy_of, with_edge}
use Rattle.captext.specs.PolicyText.{IsEdgeOf, IsPolicyOf, policy_header}
use Rattle.captext.proofs.{NameLaws.label_takes, PolicyLaws.above_from_test, StepLaws.{demand_then, value_then}}

-- an edge takes its place

or_move : (a b c : Bool) → ((a || b) || c) ≡ (b || (a || c))
or_move true true c = refl
or_move true false c = refl
or_move false true c = refl
or_move false false c = refl

or_turn : (a b c : Bool) → (a || (b || c)) ≡ (b || (a || c))
or_turn true true c = refl
or_turn true false c = refl
or_turn false true c = refl
or_turn false false c = refl

or_twice : (a b : Bool) → (a || b) ≡ (a || (a || b))
or_twice true b = refl
or_twice false b = refl

or_none : (a : Bool) → a ≡ (a || false)
or_none true = refl
or_none false = refl

tied : (edge other : Edge) → edge_cmp edge other ≡ Equal → edge ≡ other
tied edge other tie =
    let parts = same_parts edge other.from other.kind other.to (is_edge-edge_cmp other edge ∙ ap is_eq tie) in
    let kinds = same_kind edge.kind other.kind parts.1 in
    λ i. record { from = parts.0 i; kind = kinds i; to = parts.2 i }

all_placed : (P : Edge → Type 0) (edges : List Edge) (edge : Edge) → AllByRecursion P edges → P edge
    → AllByRecursion P (insert_key edge_cmp edges edge)
all_placed P [] edge all one = (one, tt)
all_placed P (first ∷ rest) edge all one = by (edge_cmp edge first) (all_placed P rest edge all.1 one)
  where
    by : (r : Ordering) → AllByRecursion P (insert_key edge_cmp rest edge)
        → AllByRecursion P (match_ordering r (edge ∷ first ∷ rest) (first ∷ rest) (first ∷ insert_key edge_cmp rest edge))
    by Less later = (one, all)
    by Equal later = all
    by Greater later = (all.0, later)

rising_placed : (edges : List Edge) (edge : Edge) → IsRising edges → IsRising (insert_key edge_cmp edges edge)
unfolding IsStrictlySortedBy
rising_placed [] edge rising = (tt, tt)
rising_placed (first ∷ rest) edge rising = by (edge_cmp edge first) refl (rising_placed rest edge rising.1)
  where
    by : (r : Ordering) → edge_cmp edge first ≡ r → IsRising (insert_key edge_cmp rest edge)
        → IsRising (match_ordering r (edge ∷ first ∷ rest) (first ∷ rest) (first ∷ insert_key edge_cmp rest edge))
    by Less less later =
        let above =
        each (λ other. edge_cmp first other ≡ Less) (λ other. edge_cmp edge other ≡ Less)
        (λ other above. edge_total.trans edge first other less above) rest rising.0 in
        ((less, above), rising)
    by Equal tie later = rising
    by Greater greater later =
        let below : edge_cmp first edge ≡ Less = edge_total.antisymm first edge ∙ ap ordering_reverse greater in
        (all_placed (λ other. edge_cmp first other ≡ Less) rest edge rising.0 below, later)

allows_placed : (edges : List Edge) (edge : Edge) (from : ℕ) (kind : Kind) (to : ℕ)
    → allows (insert_key edge_cmp edges edge) from kind to ≡ (is_edge from kind to edge || allows edges from kind to)
unfolding allows
allows_placed [] edge from kind to = refl
allows_placed (first ∷ rest) edge from kind to = by (edge_cmp edge first) refl (allows_placed rest edge from kind to)
  where
    is : Edge → Bool
    is = is_edge from kind to

    by : (r : Ordering) → edge_cmp edge first ≡ r
        → allows (insert_key edge_cmp rest edge) from kind to ≡ (is edge || allows rest from kind to)
        → allows (match_ordering r (edge ∷ first ∷ rest) (first ∷ rest) (first ∷ insert_key edge_cmp rest edge)) from kind to
        ≡ (is edge || (is first || allows rest from kind to))
    by Less less later = refl
    by Equal tie later =
        or_twice (is first) (allows rest from kind to)
        ∙ ap (λ e. is e || (is first || allows rest from kind to)) (sym (tied edge first tie))
    by Greater greater later =
        ap (λ b. is first || b) later ∙ or_turn (is first) (is edge) (allows rest from kind to)

-- rising edges with one more are those where it took its place
pub placed : (old new : List Edge) (edge : Edge) → IsRising old → IsRising new → IsAdded old new edge
    → new ≡ insert_key edge_cmp old edge
placed old new edge before rising added =
    same_rising new (insert_key edge_cmp old edge) rising (rising_placed old edge before)
    (λ other. added other.from other.kind other.to ∙ sym (allows_placed old edge other.from other.kind other.to))

-- what a line adds

joining_within : (t : Layout) (kind : Kind) (from to : Option ℕ) → IfSome from (λ from. from < length t.labels)
    → IfSome to (λ to. to < length t.labels) → IfSome (joining kind from to) (IsEdgeOf t)
joining_within t kind None to one other = tt
joining_within t kind (Some from) None one other = tt
joining_within t kind (Some from) (Some to) one other = (one, other)

label_within : (t : Layout) (name : List ℕ) → IfSome (label_named t name) (λ label. label < length t.labels)
label_within t name = by (label_named t name) refl
  where
    by : (o : Option ℕ) → label_named t name ≡ o → IfSome o (λ label. label < length t.labels)
    by None is = tt
    by (Some label) is = (label_takes t name label is).0

edge_within : (t : Layout) (named : Named) → IfSome (edge_between t named) (IsEdgeOf t)
unfolding edge_between
edge_within t named = joining_within t named.1.0 _ _ (label_within t named.0) (label_within t named.1.1)

policy_with : (t : Layout) (draft : Draft) (named : Named) (edge : Option Edge) → IfSome edge (IsEdgeOf t) → IsPolicyOf t draft.edges
    → IsPolicyOf t (with_line draft named edge).edges
policy_with t draft named None within is = is
policy_with t draft named (Some edge) within is =
    (rising_placed draft.edges edge is.0, all_placed (IsEdgeOf t) draft.edges edge is.1 within)

allows_with : (draft : Draft) (named : Named) (edge : Option Edge) (from : ℕ) (kind : Kind) (to : ℕ)
    → allows (with_line draft named edge).edges from kind to ≡ (is_some_edge from kind to edge || allows draft.edges from kind to)
allows_with draft named None from kind to = refl
allows_with draft named (Some edge) from kind to = allows_placed draft.edges edge from kind to

dropped_with : (draft : Draft) (named : Named) (edge : Option Edge)
    → (with_line draft named edge).dropped ≡ draft.dropped ++ unless_edge (draft.last + 1) named edge
dropped_with draft named None = refl
dropped_with draft named (Some edge) = sym (append-nil draft.dropped)

last_with : (draft : Draft) (named : Named) (edge : Option Edge) → (with_line draft named edge).last ≡ draft.last + 1
last_with draft named None = refl
last_with draft named (Some edge) = refl

-- a line was taken: it names an edge, which joins the draft, or the line is dropped
record TakesLine (t : Layout) (draft : Draft) (words : Line) (next : Draft) : Type 0 where
  named : Named
  rest : List (List ℕ)
  read : named_edge_at words ≡ Ok (named, rest)
  came : with_line draft named (edge_between t named) ≡ next

line_takes : (t : Layout) (draft : Draft) (words : Line) (next : Draft) → draft_line t draft words ≡ Ok next
    → TakesLine t draft words next
unfolding draft_line
line_takes t draft words next h =
    let read = bind_ok (named_edge_at words) _ next h in
    let ended = bind_ok (ended_at read.0.1) _ next read.2 in
    record { named = read.0.0; rest = read.0.1; read = read.1; came = cc (ended.2) }

-- lines were taken, from this draft to that
record Takes (t : Layout) (draft final : Draft) (body : List Line) : Type 0 where
  formed : AllByRecursion (λ words. IsOk (named_edge_at words)) body
  policy : IsPolicyOf t draft.edges → IsPolicyOf t final.edges
  named : (from : ℕ) (kind : Kind) (to : ℕ)
      → allows final.edges from kind to ≡ (allows draft.edges from kind to || list_any (names t from kind to) body)
  dropped : final.dropped ≡ draft.dropped ++ unknown_lines t (draft.last + 1) body

lines_take : (t : Layout) (draft final : Draft) (body : List Line) → steps (draft_line t) draft body ≡ Ok final
    → Takes t draft final body
unfolding steps
lines_take t draft final [] h =
    let same : final ≡ draft = cc in
    record {
      formed = tt;
      policy = λ is. subst (λ d. IsPolicyOf t d.edges) (sym same) is;
      named = λ from kind to. ap (λ d. allows d.edges from kind to) same ∙ or_none (allows draft.edges from kind to);
      dropped = ap (λ d. d.dropped) same ∙ sym (append-nil draft.dropped);
    }
lines_take t draft final (words ∷ body) h =
    let stepped = bind_ok (draft_line t draft words) (λ next. steps (draft_line t) next body) final h in
    let next = stepped.0 in
    let line = line_takes t draft words next stepped.1 in
    let named = line.named in
    let edge = edge_between t named in
    let later = lines_take t next final body stepped.2 in
    let number = draft.last + 1 in
    record {
      formed = (subst (λ r. IsOk r) (sym line.read) refl, later.formed);
      policy = λ is.
          later.policy (subst (λ d. IsPolicyOf t d.edges) line.came (policy_with t draft named edge (edge_within t named) is));
      named = λ from kind to.
          later.named from kind to
          ∙ ap (λ b. b || list_any (names t from kind to) body)
          (ap (λ d. allows d.edges from kind to) (sym line.came) ∙ allows_with draft named edge from kind to)
          ∙ or_move (is_some_edge from kind to edge) (allows draft.edges from kind to) (list_any (names t from kind to) body)
          ∙ ap (λ r. allows draft.edges from kind to || (is_edge_between t from kind to r || list_any (names t from kind to) body))
          (sym line.read);
      dropped =
          later.dropped
          ∙ ap (λ d. d.dropped ++ unknown_lines t (d.last + 1) body) (sym line.came)
          ∙ ap (λ n. (with_line draft named edge).dropped ++ unknown_lines t (n + 1) body) (last_with draft named edge)
          ∙ ap (λ ns. ns ++ unknown_lines t (number + 1) body) (dropped_with draft named edge)
          ∙ append_assoc draft.dropped (unless_edge number named edge) (unknown_lines t (number + 1) body)
          ∙ ap (λ r. draft.dropped ++ (unknown_line t number r ++ unknown_lines t (number + 1) body)) (sym line.read);
    }

pub draft_means : (t : Layout) (text : List ℕ) (draft : Draft) → read_draft_of t text ≡ Ok draft → IsDraftOf t text draft
unfolding read_draft_of IsStrictlySortedBy allows
draft_means t text draft h =
    let is = is_text (draft_format t) (lines_of text) draft h in
    let came : is.state ≡ draft = cc (is.whole) in
    let taken = lines_take t no_lines draft is.body (is.good.stepped ∙ ap (λ d. Ok d) came) in
    record {
      body = is.body;
      lines_are = is.good.lines_are ∙ sym (map-append (λ (line : Line). Some line) (policy_header ∷ is.body) (last_line ∷ []));
      formed = taken.formed;
      policy = taken.policy (tt, tt);
      named = taken.named;
      dropped = taken.dropped;
    }

-- a text that is read as a policy

strict_line : (t : Layout) (draft : Draft) (words : Line) (next : List Edge) → IsRising draft.edges
    → edge_line t draft.edges words ≡ Ok next
    → (draft_line t draft words ≡ Ok (record { edges = next; dropped = draft.dropped; last = draft.last + 1 })) × IsRising next
unfolding edge_line labelled_edge with_edge draft_line edge_between bind
strict_line t draft words next rising h =
    let edges = draft.edges in
    let read = bind_ok (named_edge_at words) _ next h in
    let named = read.0.0 in
    let ended = bind_ok (ended_at read.0.1) _ next read.2 in
    let from = value_then (label_named t named.0) wrong.UnknownName _ next ended.2 in
    let passed = demand_then (may_follow (last_edge edges) from.0 named.1.0) wrong.Syntax _ next from.2 in
    let to = value_then (label_named t named.1.1) wrong.UnknownName _ next passed.1 in
    let edge : Edge = record { from = from.0; kind = named.1.0; to = to.0 } in
    let joins = demand_then (follows (last_edge edges) edge) wrong.Syntax _ next to.2 in
    let above = above_from_test (last_edge edges) edge joins.0 in
    let grown : edges ++ edge ∷ [] ≡ next = cc (joins.1) in
    let rises = rising_placed edges edge rising in
    let here : insert_key edge_cmp edges edge ≡ next =
    pushed edges (insert_key edge_cmp edges edge) edge rising rises (allows_placed edges edge) above ∙ grown in
    let found : edge_between t named ≡ Some edge =
    ap (λ o. joining named.1.0 o (label_named t named.1.1)) from.1 ∙ ap (joining named.1.0 (Some from.0)) to.1 in (
      ap (λ r. bind r (λ n. bind (ended_at n.1) (λ _. Ok (with_line draft n.0 (edge_between t n.0))))) read.1
          ∙ ap (λ r. bind r (λ _. Ok (with_line draft named (edge_between t named)))) ended.1
          ∙ ap (λ e. Ok (with_line draft named e)) found
          ∙ ap (λ es. Ok (record { edges = es; dropped = draft.dropped; last = draft.last + 1 })) here,
      subst IsRising here rises,
    )

record TakesToo (t : Layout) (draft : Draft) (body : List Line) (final : List Edge) : Type 0 where
  came : Draft
  stepped : steps (draft_line t) draft body ≡ Ok came
  edges : came.edges ≡ final
  dropped : came.dropped ≡ draft.dropped

strict_lines : (t : Layout) (draft : Draft) (body : List Line) (final : List Edge) → IsRising draft.edges
    → steps (edge_line t) draft.edges body ≡ Ok final → TakesToo t draft body final
unfolding steps bind
strict_lines t draft [] final rising h = record { came = draft; stepped = refl; edges = cc; dropped = refl }
strict_lines t draft (words ∷ body) final rising h =
    let taken = bind_ok (edge_line t draft.edges words) (λ next. steps (edge_line t) next body) final h in
    let next : Draft = record { edges = taken.0; dropped = draft.dropped; last = draft.last + 1 } in
    let line = strict_line t draft words taken.0 rising taken.1 in
    let later = strict_lines t next body final line.1 taken.2 in
    record {
      came = later.came;
      stepped = ap (λ r. bind r (λ d. steps (draft_line t) d body)) line.0 ∙ later.stepped;
      edges = later.edges;
      dropped = later.dropped;
    }

pub policy_too : (t : Layout) (text : List ℕ) (edges : List Edge) → read_policy_of t text ≡ Ok edges
    → (draft : Draft) × (read_draft_of t text ≡ Ok draft) × (draft.edges ≡ edges) × (draft.dropped ≡ [])
unfolding read_policy_of read_draft_of IsStrictlySortedBy
policy_too t text edges h =
    let is = is_text (policy_format t) (lines_of text) edges h in
    let came : is.state ≡ edges = cc (is.whole) in
    let too = strict_lines t no_lines is.body is.state tt is.good.stepped in (
      too.came,
      reads (draft_format t) (lines_of text) too.came (record {
        body = is.body;
        state = too.came;
        good = record { lines_are = is.good.lines_are; inner = is.good.inner; stepped = too.stepped };
        whole = refl;
      }),
      too.edges ∙ came,
      too.dropped,
    )

-- a draft that is read of a text is a draft of it
pub draft_ok : (t : Layout) (text : List ℕ) (result : Result Draft Fault) → Reads (λ draft. draft) result (read_draft_of t text)
    → IfOk result (IsDraftOf t text)
draft_ok t text (Ok draft) read = draft_means t text draft read
draft_ok t text (Err fault) read = tt
