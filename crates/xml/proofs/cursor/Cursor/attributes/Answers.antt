-- Each place where the loop over the attributes goes on or ends.
use Rattle.std.proofs.Common.{◌+◌, ◌-◌, ◌<◌, ◌∙◌, ◌≡◌, ◌≤◌, List, Ok, ap, arith, false, sym, true, vec_len}
use Rattle.std.proofs.lemmas.Result.{err_from_is_err_and}
use Rattle.xml.specs.{declared.element.Attribute.Attribute, Place.{Place, after_spaces}, Tag.{Pair, attribute_at, attributes_at, ends_tag}}
use Rattle.xml.{specs.View.{pair_of, pairs_of}, proofs.{Items.pairs_more, Loops.{attributes_end, attributes_fault, attributes_more}}}
use Rattle.xml.proofs.cursor.Cursor.attributes.Goals as goal

pub returns-in_err-attribute : goal.returns-in_err-attribute
returns-in_err-attribute c =
    let p = err_from_is_err_and c.from_residual.result c.from_residual.ensures.1 in
    let place = c.loop-alloc.self in
    let found = c.loop-alloc.found in
    let few : vec_len found ≤ 32 = c.loop-alloc.invariant.few in
    let goes : ends_tag (after_spaces place).rest ≡ false = cc in
    rw (p.1, p.2)
    (λ lacked. sym c.loop-alloc.invariant.whole
    ∙ attributes_fault 33 (vec_len found) (pairs_of found.items) place _ (omega arith) goes
    (ap (λ (items : List Attribute). attribute_at (pairs_of items) place) (sym c.deref.ensures.value)
    ∙ c.in_err-attribute.ensures.exact lacked))

pub loop-alloc-preserved : goal.loop-alloc-preserved
loop-alloc-preserved c =
    let place = c.loop-alloc.self in
    let next = c.attribute.new.self in
    let found = c.loop-alloc.found in
    let one = c.in_ok-attribute.attribute in
    let pushed = c.push.new.self in
    let few : vec_len found ≤ 32 = c.loop-alloc.invariant.few in
    let room : vec_len found < 32 = omega (arith, c.in_ok-attribute.ensures.few, c.deref.ensures.len) in
    let goes : ends_tag (after_spaces place).rest ≡ false = cc in
    let counted : vec_len pushed ≡ vec_len found + 1 = omega (arith, c.in_ok-push.ensures.len) in
    record {
      whole = ap (λ n. attributes_at (33 - n) (pairs_of pushed.items) next) counted
          ∙ ap (λ (pairs : List Pair). attributes_at (33 - (vec_len found + 1)) pairs next)
          (ap pairs_of c.in_ok-push.ensures.items ∙ pairs_more found.items one)
          ∙ sym
          (attributes_more 33 (vec_len found) (pairs_of found.items) place next (pair_of one) (omega arith) goes
          (ap (λ (items : List Attribute). attribute_at (pairs_of items) place) (sym c.deref.ensures.value)
          ∙ c.in_ok-attribute.ensures.exact))
          ∙ c.loop-alloc.invariant.whole;
      few = omega (arith, counted, room);
    }

pub returns : goal.returns
returns c =
    let place = c.loop-alloc.self in
    let found = c.loop-alloc.found in
    let few : vec_len found ≤ 32 = c.loop-alloc.invariant.few in
    let ends : ends_tag (after_spaces place).rest ≡ true = cc in
    sym c.loop-alloc.invariant.whole
    ∙ attributes_end 33 (vec_len found) (pairs_of found.items) place (omega arith) ends
    ∙ ap (λ (behind : Place). Ok (pairs_of found.items, behind)) (sym c.spaces.ensures)
