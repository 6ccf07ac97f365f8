-- In a document the tags of the elements stand in their order, and each element has the line in which its own tag begins.
use Rattle.std.{specs.{List.list_all, Prelude.IfOk}, proofs.Common.{[], ℕ, ◌++◌, ◌∙◌, ◌∷◌, ◌≡◌, ◌⊎◌, Bool, Err, Global, List, Ok, Result}}
use Rattle.std.proofs.{Common.{Vec, ap, append_assoc, arith, false, inl, inr, refl, subst, sym, true}, lemmas.List.append-nil}
use Rattle.words.specs.{declared.faults.Fault.Fault, Reading.Reads}
use Rattle.xml.specs.{declared.element.Element.Element, Characters.is_space, Document.{Node, document_of}}
use Rattle.xml.specs.Grammar.{IsContent, IsDocument, IsElement, IsGap, IsStartTag, branch, comment, empty, leaf, nothing, whole}
use Rattle.xml.specs.{Lines.{AreAtLines, AreTags, BeginsNoElement, none_left, other_part, own_tag}, Place.{Place, start_of}}
use Rattle.xml.{specs.{Spelling.{SpellsDeclaration, Stands}, View.nodes_of}, proofs.{Nesting.is_document, Spelled.stands_then}}

-- the tags of these elements stand behind a place of a text
Behind : List ℕ → Place → List Node → Type 0
Behind text place nodes = (front : List ℕ) → Stands front (start_of text) place → AreTags front place.rest nodes

part_behind : (text part : List ℕ) (place end : Place) (nodes : List Node) → BeginsNoElement part → Stands part place end
    → Behind text end nodes → Behind text place nodes
unfolding Behind
part_behind text part place end nodes is stands next front before =
    subst (λ (rest : List ℕ). AreTags front rest nodes) (sym stands.parts)
    (other_part front part end.rest is (next (front ++ part) (stands_then front part (start_of text) place end before stands)))

gap_behind : (text : List ℕ) (place end : Place) (nodes : List Node) → IsGap place end → Behind text end nodes → Behind text place nodes
gap_behind text place end nodes gap next = part_behind text gap.text place end nodes (inr (inl gap.spaces)) gap.stands next

tag_behind : (text : List ℕ) (level : ℕ) (place end : Place) (node : Node) (is_empty : Bool) (nodes : List Node)
    → IsStartTag level place node is_empty end → Behind text end nodes → Behind text place (node ∷ nodes)
unfolding Behind
tag_behind text level place end node is_empty nodes is next front before =
    subst (λ (rest : List ℕ). AreTags front rest (node ∷ nodes)) (sym is.stands.parts)
    (own_tag front is.text end.rest node is_empty is.spelled (is.line_is ∙ before.lines)
    (next (front ++ is.text) (stands_then front is.text (start_of text) place end before is.stands)))

-- content, and more behind it
content_behind : {level : ℕ} {place end : Place} {nodes : List Node} (text : List ℕ) (more : List Node)
    → IsContent level place nodes end → Behind text end more → Behind text place (nodes ++ more)
content_behind {place = place} text more (nothing none same) next =
    subst (λ (ns : List Node). Behind text place (ns ++ more)) (sym none) (subst (λ (p : Place). Behind text p more) same next)
content_behind {place = place} {nodes = nodes} text more (comment front behind gap is rest) next =
    gap_behind text place front (nodes ++ more) gap
    (part_behind text is.text front behind (nodes ++ more) (inr (inr (inl is.spelled))) is.stands (content_behind text more rest next))
content_behind {level = level} {place = place} text more (leaf front behind node later gap is rest all) next =
    subst (λ (ns : List Node). Behind text place (ns ++ more)) (sym all)
    (gap_behind text place front (node ∷ (later ++ more)) gap
    (tag_behind text level front behind node true (later ++ more) is (content_behind text more rest next)))
content_behind {level = level} {place = place} text more
    (branch front inside close last behind node inner later gap is content end_gap ends rest all) next =
    let ended = part_behind text ends.text last behind (later ++ more) (inr (inr (inr (node.name, ends.spelled)))) ends.stands
    (content_behind text more rest next) in
    let within = content_behind text (later ++ more) content (gap_behind text close last (later ++ more) end_gap ended) in
    subst (λ (ns : List Node). Behind text place (ns ++ more)) (sym all)
    (gap_behind text place front (node ∷ ((inner ++ later) ++ more)) gap
    (tag_behind text level front inside node false ((inner ++ later) ++ more) is
    (subst (λ (ns : List Node). Behind text inside ns) (sym (append_assoc inner later more)) within)))

-- the root and the white space before it are content
root_is_content : (place root end : Place) (nodes : List Node) → IsGap place root → IsElement 1 root nodes end → IsContent 1 place nodes end
root_is_content place root end nodes gap (empty node is all) = leaf root end node [] gap is (nothing refl refl) all
root_is_content place root end nodes gap (whole inside close last node inner is content end_gap ends all) =
    branch root inside close last end node inner [] gap is content end_gap ends (nothing refl refl)
    (all ∙ ap (λ (ns : List Node). node ∷ ns) (sym (append-nil inner)))

declares_no_element : (part : List ℕ) → (part ≡ []) ⊎ SpellsDeclaration part → BeginsNoElement part
declares_no_element part (inl none) = inr (inl (ap (list_all is_space) none))
declares_no_element part (inr is) = inl is

are_at_lines : (text : List ℕ) (nodes : List Node) → IsDocument text nodes → AreAtLines text nodes
unfolding Behind
are_at_lines text nodes d =
    let end : Behind text d.end [] = λ front before. subst (λ (rest : List ℕ). AreTags front rest []) (sym d.ended) (none_left front) in
    let later = content_behind text [] d.later (gap_behind text d.last d.end [] d.last_gap end) in
    let root = content_behind text [] (root_is_content d.close d.root d.behind nodes d.gap d.element) later in
    let before = content_behind text nodes d.before (subst (λ (ns : List Node). Behind text d.close ns) (append-nil nodes) root) in
    part_behind text d.declaration (start_of text) d.declared nodes (declares_no_element d.declaration d.declares) d.stands before
    [] (record { parts = refl; lines = omega arith })

-- the elements that the code returns
pub lines_hold : (text : List ℕ) (r : Result (Vec Element Global) Fault)
    → Reads (λ (elements : Vec Element Global). nodes_of elements.items) r (document_of text)
    → IfOk r (λ (elements : Vec Element Global). AreAtLines text (nodes_of elements.items))
lines_hold text (Ok elements) h =
    are_at_lines text (nodes_of elements.items) (is_document text (nodes_of elements.items) h)
lines_hold text (Err fault) h = tt
