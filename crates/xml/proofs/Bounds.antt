-- What is read is within the limits.
use Rattle.std.{specs.{List.AllByRecursion, Prelude.IfOk}, proofs.Common.{[], ℕ, ◌&&◌, ◌++◌, ◌+◌, ◌<◌, ◌==◌, ◌||◌, ◌∷◌, ◌≡◌, ◌≤◌, Bool}}
use Rattle.std.proofs.Common.{Err, Global, List, Ok, Result, Vec, ap, arith, codes, cond, false, length, length-append, nat_le, nat_lt}
use Rattle.std.proofs.{Common.{subst, suc, true, zero}, lemmas.Bool.leb-false}
use Rattle.words.specs.{declared.faults.{Fault.Fault, Wrong.TheVariants.Syntax}, Fault.fault_at, Reading.{Reads, bind}}
use Rattle.words.proofs.WordLaws.{bind_ok}
use Rattle.xml.specs.{declared.{document.TheConstants.MAX_TEXT_LENGTH, element.Element.Element}, Characters.begins_with, Document.Draft}
use Rattle.xml.specs.Document.{Node, begin_at, closed_at, comment_at, declaration_at, document_of, end_at, finished_at, is_whole, item_at}
use Rattle.xml.specs.{Document.{items_at, no_nodes, room_at, with_node}, Limits.{AreLimited, IsLimited}, Place.{Place, after_spaces}}
use Rattle.xml.specs.{Place.{expected_at, spaced_at, start_of}, Tag.{Pair, admitted, attribute_at, attributes_at, ends_tag, is_given}}
use Rattle.xml.{specs.{Tag.{name_at, tag_end_at}, View.nodes_of}, proofs.Spelled.{chosen, neither, ok_is}}

-- an attribute more is one of those that may be
attribute_few : (found : List Pair) (place : Place) (y : Pair × Place) → attribute_at found place ≡ Ok y → length found < 32
unfolding attribute_at admitted
attribute_few found place y h =
    let a = bind_ok (spaced_at place) _ y h in
    let b = bind_ok (name_at a.0) _ y a.2 in
    let m = bind_ok (admitted found b.0.0 b.0.1.line) _ y b.2 in
    let c = chosen (is_given found b.0.0) _ _ m.0 m.1 in
    let d = chosen (nat_le 32 (length found)) _ _ m.0 c.1 in
    leb-false 32 (length found) d.0

attributes_few : (room : ℕ) (found : List Pair) (place : Place) (y : List Pair × Place) → length found ≤ 32
    → attributes_at room found place ≡ Ok y → length y.0 ≤ 32
unfolding attributes_at
attributes_few zero found place y few h = absurd cc
attributes_few (suc room) found place y few h =
    by_end (ends_tag (after_spaces place).rest) (λ f p few e. attributes_few room f p y few e) h
  where
    by_end : (b : Bool) → ((f : List Pair) (p : Place) → length f ≤ 32 → attributes_at room f p ≡ Ok y → length y.0 ≤ 32)
        → cond b (Ok (found, after_spaces place))
        (bind (attribute_at found place) (λ next. attributes_at room (found ++ next.0 ∷ []) next.1))
        ≡ Ok y
        → length y.0 ≤ 32
    by_end true again h = omega (arith, few, ap (λ (z : List Pair × Place). length z.0) (ok_is _ y h))
    by_end false again h =
        let a = bind_ok (attribute_at found place) _ y h in
        let less = attribute_few found place a.0 a.1 in
        again (found ++ a.0.0 ∷ []) a.0.1 (omega (arith, less, length-append found (a.0.0 ∷ []))) a.2

each_more : (nodes : List Node) (node : Node) → AllByRecursion IsLimited nodes → IsLimited node
    → AllByRecursion IsLimited (nodes ++ node ∷ [])
each_more [] node all one = (one, tt)
each_more (first ∷ nodes) node all one = (all.0, each_more nodes node all.1 one)

-- an element more is within the limits
begin_limits : (draft : Draft) (place : Place) (y : Draft × Place) → AreLimited draft.nodes → begin_at draft place ≡ Ok y
    → AreLimited y.0.nodes
unfolding begin_at room_at with_node
begin_limits draft place y limited h =
    let a = bind_ok (expected_at (codes "<") place) _ y h in
    let b = bind_ok (name_at a.0) _ y a.2 in
    let r = bind_ok (room_at draft place.line) _ y b.2 in
    let l = bind_ok (attributes_at 33 [] b.0.1) _ y r.2 in
    let t = bind_ok (tag_end_at l.0.1) _ y l.2 in
    let c = chosen (nat_le 66 (length draft.open_names) || nat_le 20000 (length draft.nodes)) _ _ r.0 r.1 in
    let n = neither (nat_le 66 (length draft.open_names)) (nat_le 20000 (length draft.nodes)) c.0 in
    let low : length draft.open_names < 66 = leb-false 66 (length draft.open_names) n.0 in
    let few : length draft.nodes < 20000 = leb-false 20000 (length draft.nodes) n.1 in
    let node : Node =
    record { level = length draft.open_names + 1; line = place.line; name = b.0.0; attributes = l.0.0 } in
    subst (λ (z : Draft × Place). AreLimited z.0.nodes) (ok_is _ y t.2)
    (record {
      count = omega (arith, few, length-append draft.nodes (node ∷ []));
      each = each_more draft.nodes node limited.each
          (record {
            level_from = omega arith;
            level_to = omega (arith, low);
            attributes = attributes_few 33 [] b.0.1 l.0 (omega arith) l.1;
          });
    })

end_limits : (draft : Draft) (place : Place) (y : Draft × Place) → AreLimited draft.nodes → end_at draft place ≡ Ok y
    → AreLimited y.0.nodes
unfolding end_at
end_limits draft place y limited h =
    let a = bind_ok (expected_at (codes "</") place) _ y h in
    let b = bind_ok (name_at a.0) _ y a.2 in
    let k = bind_ok (closed_at place.line draft.open_names b.0.0) _ y b.2 in
    let g = bind_ok (expected_at (codes ">") (after_spaces b.0.1)) _ y k.2 in
    subst (λ (z : Draft × Place). AreLimited z.0.nodes) (ok_is _ y g.2) limited

item_limits : (draft : Draft) (place : Place) (y : Draft × Place) → AreLimited draft.nodes → item_at draft place ≡ Ok y
    → AreLimited y.0.nodes
unfolding item_at
item_limits draft place y limited h = by_comment (begins_with place.rest (codes "<!--")) h
  where
    by_end : (b : Bool) → cond b (end_at draft place) (begin_at draft place) ≡ Ok y → AreLimited y.0.nodes
    by_end true h = end_limits draft place y limited h
    by_end false h = begin_limits draft place y limited h

    by_comment : (b : Bool)
        → cond b (bind (comment_at place) (λ behind. Ok (draft, behind)))
        (cond (is_whole draft) (Err (fault_at place.line Syntax))
        (cond (begins_with place.rest (codes "</")) (end_at draft place) (begin_at draft place)))
        ≡ Ok y
        → AreLimited y.0.nodes
    by_comment true h =
        let c = bind_ok (comment_at place) _ y h in
        subst (λ (z : Draft × Place). AreLimited z.0.nodes) (ok_is _ y c.2) limited
    by_comment false h =
        let c = chosen (is_whole draft) _ _ y h in by_end (begins_with place.rest (codes "</")) c.1

finished_limits : (draft : Draft) (place : Place) (nodes : List Node) → AreLimited draft.nodes → finished_at draft place ≡ Ok nodes
    → AreLimited nodes
unfolding finished_at
finished_limits draft place nodes limited h = by_test (is_whole draft) (length place.rest == 0) h
  where
    by_test : (a b : Bool) → cond (a && b) (Ok draft.nodes) (Err (fault_at place.line Syntax)) ≡ Ok nodes → AreLimited nodes
    by_test true true h = subst (λ (ns : List Node). AreLimited ns) (ok_is draft.nodes nodes h) limited
    by_test true false h = absurd cc
    by_test false b h = absurd cc

items_limits : (n : ℕ) (draft : Draft) (place : Place) (nodes : List Node) → AreLimited draft.nodes
    → items_at n draft place ≡ Ok nodes → AreLimited nodes
unfolding items_at
items_limits zero draft place nodes limited h = finished_limits draft place nodes limited h
items_limits (suc n) draft place nodes limited h =
    by_end (length (after_spaces place).rest == 0) (λ d p limited e. items_limits n d p nodes limited e) h
  where
    by_end : (b : Bool) → ((d : Draft) (p : Place) → AreLimited d.nodes → items_at n d p ≡ Ok nodes → AreLimited nodes)
        → cond b (finished_at draft (after_spaces place))
        (bind (item_at draft (after_spaces place)) (λ next. items_at n next.0 next.1))
        ≡ Ok nodes
        → AreLimited nodes
    by_end true again h = finished_limits draft (after_spaces place) nodes limited h
    by_end false again h =
        let s = bind_ok (item_at draft (after_spaces place)) _ nodes h in
        again s.0.0 s.0.1 (item_limits draft (after_spaces place) s.0 limited s.1) s.2

-- what is read is within the limits
are_limited : (text : List ℕ) (nodes : List Node) → document_of text ≡ Ok nodes → AreLimited nodes
unfolding document_of
are_limited text nodes h =
    let small = chosen (nat_lt MAX_TEXT_LENGTH (length text)) _ _ nodes h in
    let d = bind_ok (declaration_at (start_of text)) _ nodes small.1 in
    items_limits (length text) no_nodes d.0 nodes (record { count = omega arith; each = tt }) d.2

-- the same of the elements that the code returns
pub limits_hold : (text : List ℕ) (r : Result (Vec Element Global) Fault)
    → Reads (λ (elements : Vec Element Global). nodes_of elements.items) r (document_of text)
    → IfOk r (λ (elements : Vec Element Global). AreLimited (nodes_of elements.items))
limits_hold text (Ok elements) h = are_limited text (nodes_of elements.items) h
limits_hold text (Err fault) h = tt
