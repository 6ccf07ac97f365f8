use Rattle.std.proofs.{Common.{◌∙◌, sym}, lemmas.Bool.false≢true}
use Rattle.claims.proofs.FirstBreach.{among}
use Rattle.claims.proofs.breaches.objects_of_only.Goals as goal

pub returns-then-is_among : goal.returns-then-is_among
returns-then-is_among c = λ l. (
  λ is. absurd (false≢true (sym (c.none.ensures l) ∙ is)),
  λ bounded. absurd (bounded.2 (among c.args.actors.now c.args.actor (sym c.is_among.ensures ∙ c.if-is_among.true))),
)
