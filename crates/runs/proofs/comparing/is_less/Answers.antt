use mathlib.Core.Bool.{false≢true}
use Rattle.std.proofs.Common.{◌∙◌, List, Option, subst, sym}
use Rattle.{base.specs.declared.ids.ObjId.ObjId, machine.specs.declared.cap.Cap.Cap}
use Rattle.{integrity.specs.Shrinks.IsPart, runs.specs.Comparing.LoseCaps}
use Rattle.runs.proofs.comparing.is_less.Goals as goal

pub returns-then-not-lessens : goal.returns-then-not-lessens
returns-then-not-lessens c =
    (λ h. absurd (false≢true h), λ less. sym c.if-not-lessens.true ∙ c.lessens.ensures.1 less.content)

pub returns : goal.returns
returns c = (
  λ h. record {
    content = c.lessens.ensures.0 c.if-not-lessens.false;
    queue =
        subst (λ (q : List ObjId). IsPart q c.args.was.now.queue.items) c.deref.ensures.value
        (subst (λ (q : List ObjId). IsPart c.deref.result.now q) c.deref-2.ensures.value
        (c.is_part.ensures.0 c.if-not-is_part.false));
    words =
        sym c.deref-4.ensures.value ∙ c.same_words.ensures.0 c.if-not-same_words.false ∙ c.deref-3.ensures.value;
    slots =
        subst (λ (s : List (Option Cap)). LoseCaps s c.args.is.now.slots.items) c.deref-5.ensures.value
        (subst (λ (s : List (Option Cap)). LoseCaps c.deref-5.result.now s) c.deref-6.ensures.value (c.lose_caps.ensures.0 h));
  },
  λ less.
      c.lose_caps.ensures.1
      (subst (λ (s : List (Option Cap)). LoseCaps s c.deref-6.result.now) (sym c.deref-5.ensures.value)
      (subst (λ (s : List (Option Cap)). LoseCaps c.args.was.now.slots.items s) (sym c.deref-6.ensures.value) less.slots)),
)
