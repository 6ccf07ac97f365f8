use Rattle.std.proofs.Common.{◌<◌, ◌∙◌, subst, sym, ℕ}
use Rattle.runs.proofs.Looking.{sees}
use Rattle.runs.proofs.sight.look.Goals as goal

pub returns-clause-seen : goal.returns-clause-seen
returns-clause-seen c =
    sees c.args.state c.args.id
    (record {
      content = c.in-Some.field-0.now;
      queue = c.in_ok-queue.queue;
      words = c.in_ok-words.words;
      slots = c.in_ok-slots.slots;
    })
    c.requires (sym c.in-Some.ensures) c.in_ok-queue.ensures
    (λ words there long. c.in_ok-words.ensures words there (long ∙ sym c.word_count.ensures))
    (c.in_ok-slots.ensures.counted ∙ c.slot_count.ensures.count)
    (λ index within.
    c.in_ok-slots.ensures.held index (subst (λ (n : ℕ). index < n) (sym c.slot_count.ensures.count) within))
