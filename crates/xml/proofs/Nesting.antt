-- What is read is nested as the grammar has it: the names that are open say which end tags are still to come.
use Rattle.std.{specs.{List.prefix_len, Prelude.IfOk, Str.bytes_eq}, proofs.Common.{[], ℕ, ◌&&◌, ◌++◌, ◌+◌, ◌<◌, ◌==◌, ◌∙◌, ◌∷◌, ◌≡◌, Bool}}
use Rattle.std.proofs.Common.{Err, Global, List, Ok, Result, Vec, ap, append_assoc, arith, codes, cond, false, length, length-append}
use Rattle.std.proofs.{Common.{length-drop, ltb-false, ltb-true, nat_lt, refl, subst, suc, sym, true, zero}, lemmas.Bool.eqb-true}
use Rattle.std.proofs.lemmas.{List.nil_from_length, Slice.Eq.bytes_eq-Decides}
use Rattle.words.specs.{declared.faults.{Fault.Fault, Wrong.TheVariants.Syntax}, Fault.fault_at, Reading.{Reads, bind}}
use Rattle.words.proofs.WordLaws.{bind_ok}
use Rattle.xml.specs.{declared.{document.TheConstants.MAX_TEXT_LENGTH, element.Element.Element}, Characters.{begins_with, is_space}}
use Rattle.xml.specs.Document.{Draft, Node, begin_at, closed_at, comment_at, declaration_at, document_of, end_at, finished_at, is_whole}
use Rattle.xml.specs.{Document.{item_at, items_at, no_nodes, room_at, with_node}, Grammar.{IsComment, IsContent, IsDocument, IsElement}}
use Rattle.xml.specs.{Grammar.{IsEndTag, IsGap, IsStartTag, branch, comment, empty, leaf, nothing, whole}, Place.{Place, after}}
use Rattle.xml.specs.{Place.{after_spaces, expected_at, start_of}, Tag.{attributes_at, name_at, tag_end_at}, View.nodes_of}
use Rattle.xml.proofs.Spelled.{chosen, ok_is, stands_comment, stands_declaration, stands_end, stands_spaces, stands_start}

-- white space up to where it ends
gap : (place : Place) → IsGap place (after_spaces place)
gap place = let s = stands_spaces place in record { text = s.0; spaces = s.1; stands = s.2 }

is_comment : (place end : Place) → comment_at place ≡ Ok end → IsComment place end
is_comment place end h = let s = stands_comment place end h in record { text = s.0; spelled = s.1; stands = s.2 }

-- the end tags of the elements that are open, with content before each, and comments up to the end of the text
Completes : List (List ℕ) → Place → List Node → Type 0
Completes [] place nodes = (end : Place) × IsContent 1 place [] end × (length (after_spaces end).rest ≡ 0) × (nodes ≡ [])
Completes (name ∷ outer) place nodes =
    (inner : List Node) × (later : List Node) × (close : Place) × (behind : Place)
    × IsContent (length outer + 2) place inner close × IsEndTag name (after_spaces close) behind
    × Completes outer behind later × (nodes ≡ inner ++ later)

-- a comment more before them
comment_more : (open_names : List (List ℕ)) (place behind : Place) (nodes : List Node) → comment_at (after_spaces place) ≡ Ok behind
    → Completes open_names behind nodes → Completes open_names place nodes
unfolding Completes
comment_more [] place behind nodes is h = (h.0, comment (after_spaces place) behind (gap place) (is_comment (after_spaces place) behind is) h.1, h.2, h.3)
comment_more (name ∷ outer) place behind nodes is h = (
  h.0,
  h.1,
  h.2,
  h.3,
  comment (after_spaces place) behind (gap place) (is_comment (after_spaces place) behind is) h.4,
  h.5,
  h.6,
  h.7,
)

-- an end tag more before them
end_more : (name : List ℕ) (outer : List (List ℕ)) (place behind : Place) (nodes : List Node)
    → IsEndTag name (after_spaces place) behind → Completes outer behind nodes → Completes (name ∷ outer) place nodes
unfolding Completes
end_more name outer place behind nodes is h = ([], nodes, place, behind, nothing refl refl, is, h, refl)

-- an empty element more before them, in another
leaf_more : (name : List ℕ) (outer : List (List ℕ)) (place behind : Place) (node : Node) (nodes : List Node)
    → IsStartTag (length outer + 2) (after_spaces place) node true behind → Completes (name ∷ outer) behind nodes
    → Completes (name ∷ outer) place (node ∷ nodes)
unfolding Completes
leaf_more name outer place behind node nodes is h =
    (node ∷ h.0, h.1, h.2, h.3, leaf (after_spaces place) behind node h.0 (gap place) is h.4 refl, h.5, h.6, ap (λ (ns : List Node). node ∷ ns) h.7)

-- an element with content more before them, in another
branch_more : (name : List ℕ) (outer : List (List ℕ)) (place inside : Place) (node : Node) (nodes : List Node)
    → IsStartTag (length outer + 2) (after_spaces place) node false inside → Completes (node.name ∷ name ∷ outer) inside nodes
    → Completes (name ∷ outer) place (node ∷ nodes)
unfolding Completes
branch_more name outer place inside node nodes is h =
    let k = h.6 in
    let deeper : IsContent (length outer + 2 + 1) inside h.0 h.2 = subst (λ n. IsContent n inside h.0 h.2) (omega arith) h.4 in (
      node ∷ (h.0 ++ k.0),
      k.1,
      k.2,
      k.3,
      branch (after_spaces place) inside h.2 (after_spaces h.2) h.3 node h.0 k.0 (gap place) is deeper (gap h.2) h.5 k.4 refl,
      k.5,
      k.6,
      ap (λ (ns : List Node). node ∷ ns) (h.7 ∙ ap (λ (ns : List Node). h.0 ++ ns) k.7 ∙ sym (append_assoc h.0 k.0 k.1)),
    )

-- what the tag that begins an element adds
begin_takes : (draft : Draft) (place : Place) (y : Draft × Place) → begin_at draft place ≡ Ok y
    → (node : Node) × (is_empty : Bool) × IsStartTag (length draft.open_names + 1) place node is_empty y.1
    × (y.0.nodes ≡ draft.nodes ++ node ∷ []) × (y.0.open_names ≡ cond is_empty draft.open_names (node.name ∷ draft.open_names))
unfolding begin_at with_node
begin_takes draft place y h =
    let a = bind_ok (expected_at (codes "<") place) _ y h in
    let b = bind_ok (name_at a.0) _ y a.2 in
    let r = bind_ok (room_at draft place.line) _ y b.2 in
    let l = bind_ok (attributes_at 33 [] b.0.1) _ y r.2 in
    let t = bind_ok (tag_end_at l.0.1) _ y l.2 in
    let s = stands_start place a.0 b.0.1 l.0.1 t.0.1 b.0.0 l.0.0 t.0.0 a.1 b.1 l.1 t.1 in
    let node : Node =
    record { level = length draft.open_names + 1; line = place.line; name = b.0.0; attributes = l.0.0 } in
    subst
    (λ (z : Draft × Place). (n : Node) × (e : Bool) × IsStartTag (length draft.open_names + 1) place n e z.1
    × (z.0.nodes ≡ draft.nodes ++ n ∷ []) × (z.0.open_names ≡ cond e draft.open_names (n.name ∷ draft.open_names)))
    (ok_is _ y t.2) (
      node,
      t.0.0,
      record { text = s.0; spelled = s.1; stands = s.2; level_is = refl; line_is = refl },
      refl,
      refl,
    )

-- the name that an end tag closes is the innermost
closed_takes : (line : ℕ) (open_names : List (List ℕ)) (name : List ℕ) (outer : List (List ℕ))
    → closed_at line open_names name ≡ Ok outer → open_names ≡ name ∷ outer
unfolding closed_at
closed_takes line [] name outer h = absurd cc
closed_takes line (inner ∷ others) name outer h = by_test (bytes_eq inner name) refl h
  where
    by_test : (b : Bool) → bytes_eq inner name ≡ b → cond b (Ok others) (Err (fault_at line Syntax)) ≡ Ok outer
        → inner ∷ others ≡ name ∷ outer
    by_test true e h = let same = (bytes_eq-Decides inner name).0 e in cc
    by_test false e h = absurd cc

-- what an end tag leaves
end_takes : (draft : Draft) (place : Place) (y : Draft × Place) → end_at draft place ≡ Ok y
    → (name : List ℕ) × (draft.open_names ≡ name ∷ y.0.open_names) × IsEndTag name place y.1 × (y.0.nodes ≡ draft.nodes)
unfolding end_at
end_takes draft place y h =
    let a = bind_ok (expected_at (codes "</") place) _ y h in
    let b = bind_ok (name_at a.0) _ y a.2 in
    let k = bind_ok (closed_at place.line draft.open_names b.0.0) _ y b.2 in
    let g = bind_ok (expected_at (codes ">") (after_spaces b.0.1)) _ y k.2 in
    let s = stands_end place a.0 b.0.1 g.0 b.0.0 a.1 b.1 g.1 in
    subst
    (λ (z : Draft × Place). (name : List ℕ) × (draft.open_names ≡ name ∷ z.0.open_names) × IsEndTag name place z.1
    × (z.0.nodes ≡ draft.nodes))
    (ok_is _ y g.2) (
      b.0.0,
      closed_takes place.line draft.open_names b.0.0 k.0 k.1,
      record { text = s.0; spelled = s.1; stands = s.2 },
      refl,
    )

-- what a comment or a tag makes of a draft
data Takes (draft : Draft) (place : Place) (y : Draft × Place) : Type 0 where
  a_comment : comment_at place ≡ Ok y.1 → y.0 ≡ draft → Takes draft place y
  an_end :
      (name : List ℕ) → draft.open_names ≡ name ∷ y.0.open_names → IsEndTag name place y.1 → y.0.nodes ≡ draft.nodes
      → Takes draft place y
  a_start :
      (node : Node) (is_empty : Bool) → is_whole draft ≡ false
      → IsStartTag (length draft.open_names + 1) place node is_empty y.1 → y.0.nodes ≡ draft.nodes ++ node ∷ []
      → y.0.open_names ≡ cond is_empty draft.open_names (node.name ∷ draft.open_names) → Takes draft place y

item_takes : (draft : Draft) (place : Place) (y : Draft × Place) → item_at draft place ≡ Ok y → Takes draft place y
unfolding item_at
item_takes draft place y h = by_comment (begins_with place.rest (codes "<!--")) h
  where
    by_end : (b : Bool) → is_whole draft ≡ false → cond b (end_at draft place) (begin_at draft place) ≡ Ok y → Takes draft place y
    by_end true goes h = let e = end_takes draft place y h in an_end e.0 e.1 e.2 e.3
    by_end false goes h = let e = begin_takes draft place y h in a_start e.0 e.1 goes e.2 e.3 e.4

    by_comment : (b : Bool)
        → cond b (bind (comment_at place) (λ behind. Ok (draft, behind)))
        (cond (is_whole draft) (Err (fault_at place.line Syntax))
        (cond (begins_with place.rest (codes "</")) (end_at draft place) (begin_at draft place)))
        ≡ Ok y
        → Takes draft place y
    by_comment true h =
        let c = bind_ok (comment_at place) _ y h in
        let same = ok_is _ y c.2 in
        a_comment (c.1 ∙ ap (λ (z : Draft × Place). Ok z.1) same) (sym (ap (λ (z : Draft × Place). z.0) same))
    by_comment false h =
        let c = chosen (is_whole draft) _ _ y h in
        by_end (begins_with place.rest (codes "</")) c.0 c.1

-- what the end of the text says
finished_takes : (draft : Draft) (place : Place) (nodes : List Node) → finished_at draft place ≡ Ok nodes
    → (draft.open_names ≡ []) × (0 < length draft.nodes) × (length place.rest ≡ 0) × (draft.nodes ≡ nodes)
unfolding finished_at is_whole
finished_takes draft place nodes h =
    by_tests (length draft.open_names == 0) (nat_lt 0 (length draft.nodes)) (length place.rest == 0) refl refl refl h
  where
    by_tests : (closed some none : Bool) → (length draft.open_names == 0) ≡ closed → nat_lt 0 (length draft.nodes) ≡ some
        → (length place.rest == 0) ≡ none
        → cond ((closed && some) && none) (Ok draft.nodes) (Err (fault_at place.line Syntax)) ≡ Ok nodes
        → (draft.open_names ≡ []) × (0 < length draft.nodes) × (length place.rest ≡ 0) × (draft.nodes ≡ nodes)
    by_tests false some none o p q h = absurd cc
    by_tests true false none o p q h = absurd cc
    by_tests true true false o p q h = absurd cc
    by_tests true true true o p q h = (
      nil_from_length draft.open_names (eqb-true (length draft.open_names) 0 o),
      ltb-true 0 (length draft.nodes) p,
      eqb-true (length place.rest) 0 q,
      ok_is draft.nodes nodes h,
    )

-- what the rest of a text adds to a draft
Rest : Draft → Place → List Node → Type 0
Rest draft place nodes = (more : List Node) × Completes draft.open_names place more × (nodes ≡ draft.nodes ++ more)

append_none : (nodes : List Node) → nodes ≡ nodes ++ []
append_none [] = refl
append_none (node ∷ nodes) = ap (λ (ns : List Node). node ∷ ns) (append_none nodes)

-- nothing, at the end of the text
rest_none : (draft : Draft) (place : Place) (nodes : List Node) → draft.open_names ≡ [] → length (after_spaces place).rest ≡ 0
    → draft.nodes ≡ nodes → Rest draft place nodes
unfolding Rest Completes
rest_none draft place nodes closed none same = (
  [],
  subst (λ (names : List (List ℕ)). Completes names place []) (sym closed) (place, nothing refl refl, none, refl),
  sym same ∙ append_none draft.nodes,
)

-- an element is open where the root was read and isn't whole
still_open : (draft : Draft) → 0 < length draft.nodes → is_whole draft ≡ false
    → (name : List ℕ) × (outer : List (List ℕ)) × (draft.open_names ≡ name ∷ outer)
unfolding is_whole
still_open draft some goes = by_names draft.open_names (length draft.nodes) some goes
  where
    by_names : (names : List (List ℕ)) (n : ℕ) → 0 < n → (length names == 0 && nat_lt 0 n) ≡ false
        → (name : List ℕ) × (outer : List (List ℕ)) × (names ≡ name ∷ outer)
    by_names [] n some e = absurd (omega (arith, ltb-false 0 n e, some))
    by_names (name ∷ outer) n some e = (name, outer, refl)

-- a comment or a tag, and the rest behind it
step : (draft : Draft) (place : Place) (nodes : List Node) (y : Draft × Place) → 0 < length draft.nodes
    → Takes draft (after_spaces place) y → (0 < length y.0.nodes → Rest y.0 y.1 nodes) → Rest draft place nodes
unfolding Rest
step draft place nodes y some (a_comment is same) next =
    let r = next (subst (λ (d : Draft). 0 < length d.nodes) (sym same) some) in (
      r.0,
      comment_more draft.open_names place y.1 r.0 is (subst (λ (d : Draft). Completes d.open_names y.1 r.0) same r.1),
      r.2 ∙ ap (λ (d : Draft). d.nodes ++ r.0) same,
    )
step draft place nodes y some (an_end name opens is same) next =
    let r = next (subst (λ (ns : List Node). 0 < length ns) (sym same) some) in (
      r.0,
      subst (λ (names : List (List ℕ)). Completes names place r.0) (sym opens) (end_more name y.0.open_names place y.1 r.0 is r.1),
      r.2 ∙ ap (λ (ns : List Node). ns ++ r.0) same,
    )
step draft place nodes y some (a_start node is_empty goes is added opens) next =
    let o = still_open draft some goes in
    let r = next (rw (added, length-append) (omega (arith, some))) in
    let deep : length draft.open_names + 1 ≡ length o.1 + 2 = omega (arith, ap length o.2) in
    let tag : IsStartTag (length o.1 + 2) (after_spaces place) node is_empty y.1 =
    subst (λ n. IsStartTag n (after_spaces place) node is_empty y.1) deep is in
    let names : y.0.open_names ≡ cond is_empty (o.0 ∷ o.1) (node.name ∷ o.0 ∷ o.1) =
    opens ∙ ap (λ (ns : List (List ℕ)). cond is_empty ns (node.name ∷ ns)) o.2 in (
      node ∷ r.0,
      subst (λ (ns : List (List ℕ)). Completes ns place (node ∷ r.0)) (sym o.2)
          (by_empty is_empty o.0 o.1 r.0 tag (subst (λ (ns : List (List ℕ)). Completes ns y.1 r.0) names r.1)),
      r.2 ∙ ap (λ (ns : List Node). ns ++ r.0) added ∙ append_assoc draft.nodes (node ∷ []) r.0,
    )
  where
    by_empty : (e : Bool) (name : List ℕ) (outer : List (List ℕ)) (more : List Node)
        → IsStartTag (length outer + 2) (after_spaces place) node e y.1
        → Completes (cond e (name ∷ outer) (node.name ∷ name ∷ outer)) y.1 more
        → Completes (name ∷ outer) place (node ∷ more)
    by_empty true name outer more tag h = leaf_more name outer place y.1 node more tag h
    by_empty false name outer more tag h = branch_more name outer place y.1 node more tag h

-- white space may be left at the end
none_behind : (place : Place) → length place.rest ≡ 0 → length (after_spaces place).rest ≡ 0
unfolding after_spaces after
none_behind place none = omega (arith, none, length-drop (prefix_len is_space place.rest) place.rest)

-- the rest of a text behind the tag of the root
sound : (n : ℕ) (draft : Draft) (place : Place) (nodes : List Node) → 0 < length draft.nodes → items_at n draft place ≡ Ok nodes
    → Rest draft place nodes
unfolding items_at
sound zero draft place nodes some h =
    let f = finished_takes draft place nodes h in rest_none draft place nodes f.0 (none_behind place f.2) f.3
sound (suc n) draft place nodes some h =
    by_end (length (after_spaces place).rest == 0) (λ d p some e. sound n d p nodes some e) h
  where
    by_end : (b : Bool) → ((d : Draft) (p : Place) → 0 < length d.nodes → items_at n d p ≡ Ok nodes → Rest d p nodes)
        → cond b (finished_at draft (after_spaces place))
        (bind (item_at draft (after_spaces place)) (λ next. items_at n next.0 next.1))
        ≡ Ok nodes
        → Rest draft place nodes
    by_end true again h =
        let f = finished_takes draft (after_spaces place) nodes h in rest_none draft place nodes f.0 f.2 f.3
    by_end false again h =
        let s = bind_ok (item_at draft (after_spaces place)) _ nodes h in
        step draft place nodes s.0 some (item_takes draft (after_spaces place) s.0 s.1)
        (λ some. again s.0.0 s.0.1 some s.2)

-- a document behind its declaration
record Behind (place : Place) (nodes : List Node) : Type 0 where
  root : Place
  behind : Place
  end : Place
  before : IsContent 1 place [] root
  element : IsElement 1 (after_spaces root) nodes behind
  later : IsContent 1 behind [] end
  ended : length (after_spaces end).rest ≡ 0

-- the root, and the rest behind its tag
root_step : (place : Place) (nodes : List Node) (y : Draft × Place) → Takes no_nodes (after_spaces place) y
    → (y.0 ≡ no_nodes → Behind y.1 nodes) → (0 < length y.0.nodes → Rest y.0 y.1 nodes) → Behind place nodes
unfolding Rest Completes
root_step place nodes y (a_comment is same) again next =
    let r = again same in
    record {
      root = r.root;
      behind = r.behind;
      end = r.end;
      before = comment (after_spaces place) y.1 (gap place) (is_comment (after_spaces place) y.1 is) r.before;
      element = r.element;
      later = r.later;
      ended = r.ended;
    }
root_step place nodes y (an_end name opens is same) again next = absurd cc
root_step place nodes y (a_start node is_empty goes is added opens) again next =
    let r = next (rw added (omega arith)) in
    let all : nodes ≡ node ∷ r.0 = r.2 ∙ ap (λ (ns : List Node). ns ++ r.0) added in
    by_empty is_empty is r.0 all (subst (λ (ns : List (List ℕ)). Completes ns y.1 r.0) opens r.1)
  where
    by_empty : (e : Bool) → IsStartTag 1 (after_spaces place) node e y.1 → (more : List Node) → nodes ≡ node ∷ more
        → Completes (cond e [] (node.name ∷ [])) y.1 more → Behind place nodes
    by_empty true tag more all h =
        record {
          root = place;
          behind = y.1;
          end = h.0;
          before = nothing refl refl;
          element = empty node tag (all ∙ ap (λ (ns : List Node). node ∷ ns) h.3);
          later = h.1;
          ended = h.2;
        }
    by_empty false tag more all h =
        let k = h.6 in
        record {
          root = place;
          behind = h.3;
          end = k.0;
          before = nothing refl refl;
          element = whole y.1 h.2 (after_spaces h.2) node h.0 tag h.4 (gap h.2) h.5
              (all ∙ ap (λ (ns : List Node). node ∷ ns) (h.7 ∙ ap (λ (ns : List Node). h.0 ++ ns) k.3 ∙ sym (append_none h.0)));
          later = k.1;
          ended = k.2;
        }

root_sound : (n : ℕ) (place : Place) (nodes : List Node) → items_at n no_nodes place ≡ Ok nodes → Behind place nodes
unfolding items_at
root_sound zero place nodes h = let f = finished_takes no_nodes place nodes h in absurd (omega (arith, f.1))
root_sound (suc n) place nodes h =
    by_end (length (after_spaces place).rest == 0) (λ p e. root_sound n p nodes e) h
  where
    by_end : (b : Bool) → ((p : Place) → items_at n no_nodes p ≡ Ok nodes → Behind p nodes)
        → cond b (finished_at no_nodes (after_spaces place))
        (bind (item_at no_nodes (after_spaces place)) (λ next. items_at n next.0 next.1))
        ≡ Ok nodes
        → Behind place nodes
    by_end true again h =
        let f = finished_takes no_nodes (after_spaces place) nodes h in absurd (omega (arith, f.1))
    by_end false again h =
        let s = bind_ok (item_at no_nodes (after_spaces place)) _ nodes h in
        root_step place nodes s.0 (item_takes no_nodes (after_spaces place) s.0 s.1)
        (λ same. again s.0.1 (ap (λ (d : Draft). items_at n d s.0.1) (sym same) ∙ s.2))
        (λ some. sound n s.0.0 s.0.1 nodes some s.2)

-- what is read is a document
pub is_document : (text : List ℕ) (nodes : List Node) → document_of text ≡ Ok nodes → IsDocument text nodes
unfolding document_of
is_document text nodes h =
    let small = chosen (nat_lt MAX_TEXT_LENGTH (length text)) _ _ nodes h in
    let d = bind_ok (declaration_at (start_of text)) _ nodes small.1 in
    let b = root_sound (length text) d.0 nodes d.2 in
    let s = stands_declaration (start_of text) d.0 d.1 in
    record {
      declaration = s.0;
      declared = d.0;
      close = b.root;
      root = after_spaces b.root;
      behind = b.behind;
      last = b.end;
      end = after_spaces b.end;
      declares = s.1;
      stands = s.2;
      before = b.before;
      gap = gap b.root;
      element = b.element;
      later = b.later;
      last_gap = gap b.end;
      ended = nil_from_length (after_spaces b.end).rest b.ended;
    }

-- the same of the elements that the code returns
pub is_found : (text : List ℕ) (r : Result (Vec Element Global) Fault)
    → Reads (λ (elements : Vec Element Global). nodes_of elements.items) r (document_of text)
    → IfOk r (λ (elements : Vec Element Global). IsDocument text (nodes_of elements.items))
is_found text (Ok elements) h = is_document text (nodes_of elements.items) h
is_found text (Err fault) h = tt
