use Rattle.std.{specs.Prelude.bytes_eq, proofs.Common.{◌+◌, ◌<◌, ◌∙◌, ◌≡◌, ap, subst, sym}}
use Rattle.base.{specs.Rights.{rights_with, rights_word}, proofs.RightsWords.{letters_below, letters_of, named_by, named_by_none}}
use Rattle.base.proofs.rights.Rights.from_word.Goals as goal

pub returns-then-eq : goal.returns-then-eq
returns-then-eq c =
    let bits : letters_of c.args.word.now
    ≡ c.bit_if-read.result + c.bit_if-write.result + c.bit_if-grant.result + c.bit_if-grant_reply.result = cc in
    let spelled = sym (c.as_bytes.ensures.value ∙ c.word_of.ensures) in
    sym (named_by c.args.word.now _ (subst (λ n. n < 16) bits (letters_below c.args.word.now))
    (ap (λ word. bytes_eq word c.args.word.now) spelled ∙ sym c.eq.ensures ∙ c.if-eq.true))

pub returns-else-eq : goal.returns-else-eq
returns-else-eq c =
    let bits : letters_of c.args.word.now
    ≡ c.bit_if-read.result + c.bit_if-write.result + c.bit_if-grant.result + c.bit_if-grant_reply.result = cc in
    let spelled = ap (λ n. rights_word (rights_with n)) bits ∙ sym (c.as_bytes.ensures.value ∙ c.word_of.ensures) in
    sym (named_by_none c.args.word.now
    (ap (λ word. bytes_eq word c.args.word.now) spelled ∙ sym c.eq.ensures ∙ c.if-eq.false))
