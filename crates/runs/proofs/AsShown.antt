-- That a change between two states is as a question asks, if the tests of the states say so.
use Rattle.std.proofs.Common.{[], ◌++◌, ◌∷◌, ◌≡◌, Bool, IsTrue, List, Some, false, refl, true}
use Rattle.base.specs.declared.ids.ObjId.{ObjId}
use Rattle.machine.specs.{declared.call.{Event.Event, Outcome.Outcome}, Authority.label_of, Layout.Layout, Machine.Machine, Step.Step}
use Rattle.integrity.specs.{Allowed.IsLabelled, Shrinks.{IsSame, Shrinks}}
use Rattle.runs.specs.{declared.question.Question.Question, Shown.{AnswersQuestion, GoesSo, IsSought, IsChange, IsGain, IsLoss, IsMade, IsReachedBy}}
use mathlib.Core.Bool.{beq, false≢true}

pub as_told :
    (m next : Machine) (id : ObjId) (shrinking taking : Bool) → (IsTrue shrinking → Shrinks m next id)
    → (Shrinks m next id → IsTrue shrinking) → IsTrue (beq shrinking taking) → GoesSo taking m next id
as_told m next id true true does tells e = does refl
as_told m next id true false does tells e = absurd (false≢true e)
as_told m next id false true does tells e = absurd (false≢true e)
as_told m next id false false does tells e = λ shrinks. false≢true (tells shrinks)

pub asked :
    (t : Layout) (question : Question) (m : Machine) (event : Event) (outcome : Outcome) (next : Machine) (id : ObjId)
    → Step m event outcome next → IsMade outcome → label_of t m event.thread ≡ Some question.actor
    → IsLabelled t m next id question.object → ¬ (IsSame m next id) → GoesSo question.taking m next id
    → IsSought t question m event next id
asked t question m event outcome next id step made caller labelled changed so = by question.taking refl so where
  change : IsChange t m event next question.actor question.object id
  change = record {
    outcome = outcome;
    step = step;
    made = made;
    caller = caller;
    labelled = labelled;
    changed = changed;
  }

  by : (taking : Bool) → question.taking ≡ taking → GoesSo taking m next id → IsSought t question m event next id
  by true e so = rw e (record { change = change; shrinks = so })
  by false e so = rw e (record { change = change; grows = so })

pub answered :
    (t : Layout) (question : Question) (before : List Event) (last : Event) (m next : Machine) (id : ObjId)
    → IsReachedBy t before m → IsSought t question m last next id → AnswersQuestion t question (before ++ last ∷ [])
answered t question before last m next id reached as_asked = by question.taking refl where
  by : (taking : Bool) → question.taking ≡ taking → AnswersQuestion t question (before ++ last ∷ [])
  by true e =
      let loss : IsLoss t m last next question.actor question.object id = rw e at as_asked in
      rw e (record {
        before = before;
        last = last;
        is = refl;
        m = m;
        reached = reached;
        next = next;
        id = id;
        changes = loss;
      })
  by false e =
      let gain : IsGain t m last next question.actor question.object id = rw e at as_asked in
      rw e (record {
        before = before;
        last = last;
        is = refl;
        m = m;
        reached = reached;
        next = next;
        id = id;
        changes = gain;
      })
