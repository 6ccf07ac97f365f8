use Rattle.std.proofs.Common.{◌∙◌, sym}
use mathlib.Core.Bool.{false≢true}
use Rattle.runs.proofs.Parts.{led_by, led_by_none, not_led_by}
use Rattle.runs.proofs.comparing.rest_after.Goals as goal

pub returns-then-same_thread : goal.returns-then-same_thread
returns-then-same_thread c = λ all.
    led_by c.args.part.now c.in-Some.first.now c.in-Some.rest.now c.args.thread all c.in-Some.ensures.cases.0
    (c.same_thread.ensures.0 c.if-same_thread.true)

pub returns-else-same_thread : goal.returns-else-same_thread
returns-else-same_thread c = λ all.
    not_led_by c.args.part.now c.in-Some.first.now c.in-Some.rest.now c.args.thread all c.in-Some.ensures.cases.0
    (λ same. false≢true (sym c.if-same_thread.false ∙ c.same_thread.ensures.1 same))

pub returns-in-None : goal.returns-in-None
returns-in-None c = λ all. led_by_none c.args.part.now c.args.thread all c.in-None.ensures.cases
