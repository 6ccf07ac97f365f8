-- Which results are steps, that two steps of one event agree, and that a refused step changes nothing.
use Rattle.std.{specs.{List.{All, zip}, Prelude.{Err, Ok, Result}}, proofs.Common.{[], ◌∙◌, ◌∷◌, ◌≡◌, ◌≢◌, ◌⊎◌, List, ap, inl, inr, refl}}
use Rattle.std.proofs.{Common.{subst, sym}, lemmas.List.Elements.{All-cons, All-nil}}
use Rattle.base.specs.{declared.refusal.{Cause.Cause, Misuse.Misuse}, Refusals.{misuse_refusal, out_of_memory, refusal_of}}
use Rattle.base.proofs.CauseLemmas.{cause_no_misuse, memory_no_misuse, of_condition}
use Rattle.machine.specs.{declared.call.{Event.Event, Made.Made, Outcome.{Outcome, TheVariants.Refused}}, Machine.Machine}
use Rattle.machine.specs.declared.call.Made.TheVariants as made
use Rattle.machine.specs.{Outcomes.{IsRefused, outcome_of}, Run.Run, Step.{LacksMemory, MayEnd, Step, made_by, settled, step_of, Step.ends}}
use Rattle.machine.specs.Step.Step.{lacks}

-- a made event is a step, and so is a refused one

pub made_steps :
    (m : Machine) (event : Event) (made : Made) (next : Machine) → made_by m event ≡ Ok (made, next)
    → Step m event (outcome_of made) next
unfolding step_of
made_steps m event made next e = ends (ap (settled m) e)

pub refused_steps :
    (m : Machine) (event : Event) (cause : Cause) → made_by m event ≡ Err cause → Step m event (Refused (refusal_of cause)) m
unfolding step_of
refused_steps m event cause e = ends (ap (settled m) e)

pub steps_agree :
    (m : Machine) (event : Event) (outcome other : Outcome) (next after : Machine) → Step m event outcome next
    → Step m event other after
    → ((outcome ≡ other) × (next ≡ after)) ⊎ (LacksMemory m event outcome next ⊎ LacksMemory m event other after)
steps_agree m event outcome other next after (ends a) (ends b) =
    let same : (outcome, next) ≡ (other, after) = sym a ∙ b in inl (ap (λ made. made.0) same, ap (λ made. made.1) same)
steps_agree m event outcome other next after (lacks a) b = inr (inl a)
steps_agree m event outcome other next after (ends a) (lacks b) = inr (inr b)

made_is_not_refused : (made : Made) → ¬ (IsRefused (outcome_of made))
made_is_not_refused (made.Done answer) refused = refused
made_is_not_refused made.Blocked refused = refused

settled_refused :
    (m : Machine) (made : Result (Made × Machine) Cause) (outcome : Outcome) (next : Machine)
    → settled m made ≡ (outcome, next) → IsRefused outcome → next ≡ m
settled_refused m (Ok made) outcome next is refused =
    absurd (made_is_not_refused made.0 (subst IsRefused (sym (ap (λ p. p.0) is)) refused))
settled_refused m (Err cause) outcome next is refused = sym (ap (λ p. p.1) is)

pub refused_changes_nothing :
    (m : Machine) (event : Event) (outcome : Outcome) (next : Machine) → Step m event outcome next → IsRefused outcome → next ≡ m
unfolding step_of
refused_changes_nothing m event outcome next (ends e) = settled_refused m (made_by m event) outcome next e
refused_changes_nothing m event outcome next (lacks without) = λ refused. without.same

-- how an event ends, as its call decides
settled_ends : (m : Machine) (event : Event) (made : Result (Made × Machine) Cause) → MayEnd event (settled m made).0
settled_ends m event (Ok (made.Done answer, next)) = tt
settled_ends m event (Ok (made.Blocked, next)) = tt
settled_ends m event (Err cause) = inl (of_condition cause)

pub steps_end :
    (m : Machine) (event : Event) (outcome : Outcome) (next : Machine) → Step m event outcome next → MayEnd event outcome
unfolding step_of
steps_end m event outcome next (ends e) = subst (MayEnd event) (ap (λ p. p.0) e) (settled_ends m event (made_by m event))
steps_end m event outcome next (lacks without) = subst (MayEnd event) (sym without.refused) (inr (without.takes, refl))

-- how each event of a run ends
abbrev pub Ended : Event × Outcome → Type 0
Ended entry = MayEnd entry.0 entry.1

pub runs_end :
    (first : Machine) (events : List Event) (outcomes : List Outcome) (last : Machine) → Run first events outcomes last
    → All Ended (zip events outcomes)
runs_end first [] [] last ran = All-nil Ended
runs_end first [] (outcome ∷ outcomes) last ran = absurd ran
runs_end first (event ∷ events) [] last ran = absurd ran
runs_end first (event ∷ events) (outcome ∷ outcomes) last ran =
    All-cons Ended (event, outcome) (zip events outcomes) (steps_end first event outcome ran.0 ran.1)
    (runs_end ran.0 events outcomes last ran.2)

-- no step is refused as one that isn't begun

settled_is_begun : (m : Machine) (made : Result (Made × Machine) Cause) (wrong : Misuse) → (settled m made).0 ≢ Refused (misuse_refusal wrong)
settled_is_begun m (Ok (made.Done answer, next)) wrong same = cc
settled_is_begun m (Ok (made.Blocked, next)) wrong same = cc
settled_is_begun m (Err cause) wrong same =
    let refusals : refusal_of cause ≡ misuse_refusal wrong = cc in cause_no_misuse cause wrong refusals

pub steps_are_begun :
    (m : Machine) (event : Event) (outcome : Outcome) (next : Machine) → Step m event outcome next → (wrong : Misuse)
    → outcome ≢ Refused (misuse_refusal wrong)
unfolding step_of
steps_are_begun m event outcome next (ends e) wrong same =
    settled_is_begun m (made_by m event) wrong (ap (λ p. p.0) e ∙ same)
steps_are_begun m event outcome next (lacks without) wrong same =
    let refusals : out_of_memory ≡ misuse_refusal wrong = cc in memory_no_misuse wrong refusals
