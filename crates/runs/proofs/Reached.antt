-- The machine to which a script leads: one step further, and that there is only one.
use Rattle.std.proofs.Common.{[], ℕ, ◌++◌, ◌+◌, ◌<◌, ◌∙◌, ◌∷◌, ◌≡◌, ◌≢◌, All, List, ap, append_assoc, arith, drop, get_or}
use Rattle.std.proofs.{Common.{length, refl, subst, suc, sym, take}, lemmas.List.{Elements.All-push, take-append-drop, take_more}}
use Rattle.base.specs.{declared.refusal.Refusal.Refusal, Refusals.out_of_memory}
use Rattle.machine.specs.declared.call.{Event.Event, Outcome.{Outcome, Outcome as o}}
use Rattle.machine.specs.{Boot.IsBoot, Layout.Layout, Machine.Machine, Outcomes.IsRefused, Run.Run, Step.Step}
use Rattle.{kernel.proofs.RunLemmas.run_further, runs.specs.Shown.{IsMade, IsReachedBy, IsStopped}}

pub reached_first : (t : Layout) (boot : Machine) → IsBoot t boot → IsReachedBy t [] boot
reached_first t boot booted = record {
  boot = boot;
  booted = booted;
  outcomes = [];
  run = refl;
  made = λ k d within. absurd (omega arith);
}

pub reached_further :
    (t : Layout) (events : List Event) (m : Machine) (event : Event) (outcome : Outcome) (next : Machine)
    → IsReachedBy t events m → Step m event outcome next → IsMade outcome → IsReachedBy t (events ++ event ∷ []) next
reached_further t events m event outcome next reached step made = record {
  boot = reached.boot;
  booted = reached.booted;
  outcomes = reached.outcomes ++ outcome ∷ [];
  run = run_further reached.boot events reached.outcomes m event outcome next reached.run step;
  made = All-push IsMade reached.outcomes outcome reached.made made;
}

pub made_once :
    (m : Machine) (event : Event) (o p : Outcome) (one other : Machine) → Step m event o one → IsMade o → Step m event p other
    → IsMade p → one ≡ other
made_once m event o p one other (Step.ends e) made (Step.ends f) also = ap (λ (x : Outcome × Machine). x.1) (sym e ∙ f)
made_once m event o p one other (Step.lacks l) made s also = absurd (made (subst IsRefused (sym l.refused) tt))
made_once m event o p one other (Step.ends e) made (Step.lacks l) also = absurd (also (subst IsRefused (sym l.refused) tt))

of_rest : (o : Outcome) (os : List Outcome) → All IsMade (o ∷ os) → All IsMade os
of_rest o os made = λ k d within. made (suc k) d (omega arith)

of_first : (o : Outcome) (os : List Outcome) → All IsMade (o ∷ os) → IsMade o
of_first o os made = made 0 o (omega arith)

pub one_end :
    (first other : Machine) (events : List Event) (os ps : List Outcome) (m n : Machine) → first ≡ other → Run first events os m
    → Run other events ps n → All IsMade os → All IsMade ps → m ≡ n
one_end first other [] [] [] m n same ran went made also = sym ran ∙ same ∙ went
one_end first other [] (o ∷ os) ps m n same ran went made also = absurd ran
one_end first other [] [] (p ∷ ps) m n same ran went made also = absurd went
one_end first other (e ∷ es) [] ps m n same ran went made also = absurd ran
one_end first other (e ∷ es) (o ∷ os) [] m n same ran went made also = absurd went
one_end first other (e ∷ es) (o ∷ os) (p ∷ ps) m n same ran went made also =
    one_end ran.0 went.0 es os ps m n
    (made_once first e o p ran.0 went.0 ran.1 (of_first o os made)
    (subst (λ (x : Machine). Step x e p went.0) (sym same) went.1) (of_first p ps also))
    ran.2 went.2 (of_rest o os made) (of_rest p ps also)

-- an outcome that isn't a refusal is that of a call that was made
pub made_unless : (outcome : Outcome) → ((refusal : Refusal) → outcome ≡ o.Refused refusal → ⊥) → IsMade outcome
made_unless (o.Refused refusal) apart = λ _. apart refusal refl
made_unless (o.Done answer) apart = λ refused. refused
made_unless o.Blocked apart = λ refused. refused

-- a list split at one of its members
around : (script : List Event) (i : ℕ) (event : Event) → i < length script → event ≡ get_or script i event
    → script ≡ take i script ++ event ∷ drop (i + 1) script
around script i event within same =
    sym (take-append-drop (i + 1) script)
    ∙ ap (λ (front : List Event). front ++ drop (i + 1) script)
    (take_more script i event within ∙ ap (λ (e : Event). take i script ++ e ∷ []) (sym same))
    ∙ append_assoc (take i script) (event ∷ []) (drop (i + 1) script)

pub stopped_at :
    (t : Layout) (script : List Event) (i : ℕ) (event : Event) → i < length script → event ≡ get_or script i event → (m : Machine)
    → IsReachedBy t (take i script) m → (refusal : Refusal) (next : Machine) → Step m event (o.Refused refusal) next
    → refusal ≢ out_of_memory → IsStopped t script
stopped_at t script i event within same m reached refusal next step condition = record {
  before = take i script;
  event = event;
  after = drop (i + 1) script;
  are = around script i event within same;
  m = m;
  reached = reached;
  refusal = refusal;
  next = next;
  step = step;
  condition = condition;
}
