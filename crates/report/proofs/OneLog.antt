-- That a script has one log if no call is refused memory, and that a log has one report of its replay.
use Rattle.std.{specs.List.zip, proofs.Common.{[], ℕ, ◌+◌, ◌∙◌, ◌∷◌, ◌≡◌, ◌⊎◌, All, List, Some, ap, inl, inr, length, refl, subst, sym}}
use Rattle.{std.proofs.lemmas.List.Elements.{All-head, All-tail}, base.specs.declared.edge.Edge.Edge}
use Rattle.machine.specs.{declared.call.{Event.Event, Outcome.Outcome}, Boot.IsBoot, Layout.Layout, Machine.Machine, Run.Run}
use Rattle.{machine.specs.{Step.LacksMemory, WellFormed.kind_of}, steps.proofs.Steps.steps_agree, table.proofs.BootState.boot_one}
use Rattle.kernel.{specs.Legal.{Entry, IsLack, IsLogBetween, StopsAt}, proofs.LegalLemmas.{no_run, one_next, one_stop}}
use Rattle.{policy.specs.{Places.{ComesBefore, IsLeast}, Policy.allows}, integrity.specs.Confined.IsConfined}
use Rattle.verdict.specs.{declared.{denial.Denial.Denial, rules.Rules.Rules}, Rules.{Exceeds, Excess, excess_place}}
use Rattle.verdict.specs.{Sources.of_machine, Verdict.{excess_of, place_of, rule_name}}
use Rattle.verdict.proofs.{DenialPlaces.numbered, OneVerdict.{one_least, same_outside}, Outsides.within_confined}
use Rattle.{evtext.specs.Log.log_text, reptext.specs.{Places.place_names_by, Reports.{illegal_data, line_of, outside_data}}}
use Rattle.report.specs.{OneAnswer.{IsLogInMemory, RunsInMemory}, Replays.{IsFirstOutside, IsReplayedTo, Replays, illegal, outside, within}}
use Rattle.report.proofs.{OneAnswer.{IsOne, JudgesOnce}, OneReport.verdict_once}

abbrev Unrefused : Entry → Type 0
Unrefused entry = ¬ IsLack entry.0 entry.1

run_once :
    (events : List Event) (outcomes others : List Outcome) (m last after : Machine) → Run m events outcomes last
    → Run m events others after → All Unrefused (zip events outcomes) → All Unrefused (zip events others) → outcomes ≡ others
run_once [] [] [] m last after ran again free clear = refl
run_once [] [] (p ∷ ps) m last after ran again free clear = absurd again
run_once [] (o ∷ os) others m last after ran again free clear = absurd ran
run_once (e ∷ es) [] others m last after ran again free clear = absurd ran
run_once (e ∷ es) (o ∷ os) [] m last after ran again free clear = absurd again
run_once (e ∷ es) (o ∷ os) (p ∷ ps) m last after ran again free clear =
    by
    (λ same.
    run_once es os ps again.0 last after (subst (λ (n : Machine). Run n es os last) same ran.2) again.2
    (All-tail Unrefused (e, o) (zip es os) free) (All-tail Unrefused (e, p) (zip es ps) clear))
    (steps_agree m e o p ran.0 again.0 ran.1 again.1)
  where
    by :
        (ran.0 ≡ again.0 → os ≡ ps) → ((o ≡ p) × (ran.0 ≡ again.0)) ⊎ (LacksMemory m e o ran.0 ⊎ LacksMemory m e p again.0)
        → o ∷ os ≡ p ∷ ps
    by rest (inl same) = λ i. same.0 i ∷ rest same.1 i
    by rest (inr (inl lack)) = absurd (All-head Unrefused (e, o) (zip es os) free (lack.takes, lack.refused))
    by rest (inr (inr lack)) = absurd (All-head Unrefused (e, p) (zip es ps) clear (lack.takes, lack.refused))

log_once : (t : Layout) (events : List Event) → IsOne (IsLogInMemory t events)
log_once t events a b is also =
    let one = is.log.log in
    let other = also.log.log in
    let boot = boot_one t one.boot other.boot one.booted other.booted in
    let outcomes =
    run_once events is.log.outcomes.items also.log.outcomes.items other.boot one.last other.last
    (subst (λ (m : Machine). Run m events is.log.outcomes.items one.last) boot one.ran) other.ran is.unrefused also.unrefused in
    (one.told ∙ ap (λ (os : List Outcome). log_text (zip events os)) outcomes ∙ sym other.told, is.log.status ∙ sym also.log.status)

pub run_told_once : (set : Rules) → JudgesOnce (RunsInMemory set)
run_told_once set t edges events = verdict_once set t edges (IsLogInMemory t events) (log_once t events)

led_once : (entries : List Entry) (m last after : Machine) → IsLogBetween m entries last → IsLogBetween m entries after → last ≡ after
led_once [] m last after ran again = sym ran ∙ again
led_once (e ∷ es) m last after ran again =
    led_once es again.0 last after
    (subst (λ (n : Machine). IsLogBetween n es last) (one_next m e.0 e.1 ran.0 again.0 ran.1 again.1) ran.2) again.2

module _ (t : Layout) (edges : List Edge) (entries : List Entry) where
  -- a denial says where a machine's authority lies outside the policy
  abbrev TellsOutside : Machine → Denial → Type 0
  TellsOutside m d = (place : Excess) × (excess_of d ≡ Some place) × Exceeds (of_machine t m) (allows edges) place

  least_told : (m : Machine) (d : Denial) → IsFirstOutside t edges m d → IsLeast place_of (TellsOutside m) d
  least_told m d is = record {
    has = (is.0, is.1, is.2.has);
    first = λ other tells before.
        is.2.first tells.0 tells.2
        (subst (λ (p : List ℕ). ComesBefore p (excess_place is.0)) (numbered other tells.0 tells.1)
        (subst (λ (p : List ℕ). ComesBefore (place_of other) p) (numbered d is.0 is.1) before));
  }

  one_place : (m : Machine) (d e : Denial) → TellsOutside m d → TellsOutside m e → place_of d ≡ place_of e → d ≡ e
  one_place m d e one other same = same_outside d e one.0 other.0 one.1 other.1 same

  outside_once : (m : Machine) (d e : Denial) → IsFirstOutside t edges m d → IsFirstOutside t edges m e → d ≡ e
  outside_once m d e is also = one_least place_of (TellsOutside m) (one_place m) d e (least_told m d is) (least_told m e also)

  one_last : (m n : Machine) → IsReplayedTo t entries m → IsReplayedTo t entries n → m ≡ n
  one_last m n one two =
      led_once entries two.0 m n (subst (λ (b : Machine). IsLogBetween b entries m) (boot_one t one.0 two.0 one.1 two.1) one.2) two.2

  not_outside : (m n : Machine) (d : Denial) → IsReplayedTo t entries m → IsReplayedTo t entries n → IsConfined t (allows edges) m
      → IsFirstOutside t edges n d → ⊥
  not_outside m n d one two confined is =
      within_confined t (allows edges) n (subst (λ (x : Machine). IsConfined t (allows edges) x) (one_last m n one two) confined)
      is.0 is.2.has

  not_illegal : (m : Machine) (boot : Machine) (at : ℕ) → IsReplayedTo t entries m → IsBoot t boot → StopsAt boot entries at → ⊥
  not_illegal m boot at one booted stops =
      no_run boot m entries at stops
      (subst (λ (b : Machine). IsLogBetween b entries m) (boot_one t one.0 boot one.1 booted) one.2)

  abbrev told_outside : Machine → Denial → List ℕ
  told_outside m d = line_of (outside_data (length entries) (rule_name d) (place_names_by (kind_of m) t d))

  pub replay_at_once : IsOne (Replays t edges entries)
  replay_at_once a b (within m one confined told) (within n two again says) = (told.text ∙ sym says.text, told.status ∙ sym says.status)
  replay_at_once a b (within m one confined told) (outside n e two first says) = absurd (not_outside m n e one two confined first)
  replay_at_once a b (within m one confined told) (illegal boot at booted stops says) = absurd (not_illegal m boot at one booted stops)
  replay_at_once a b (outside n e two first says) (within m one confined told) = absurd (not_outside m n e one two confined first)
  replay_at_once a b (outside m d one is told) (outside n e two also says) =
      let last = one_last m n one two in
      let denied = outside_once n d e (subst (λ (x : Machine). IsFirstOutside t edges x d) last is) also in
      (told.text ∙ (λ i. told_outside (last i) (denied i)) ∙ sym says.text, told.status ∙ sym says.status)
  replay_at_once a b (outside m d one is told) (illegal boot at booted stops says) = absurd (not_illegal m boot at one booted stops)
  replay_at_once a b (illegal boot at booted stops says) (within m one confined told) = absurd (not_illegal m boot at one booted stops)
  replay_at_once a b (illegal boot at booted stops says) (outside m d one is told) = absurd (not_illegal m boot at one booted stops)
  replay_at_once a b (illegal boot at booted stops told) (illegal begin to began ends says) =
      let same =
      one_stop begin entries at to (subst (λ (b : Machine). StopsAt b entries at) (boot_one t boot begin booted began) stops) ends in
      (told.text ∙ ap (λ k. line_of (illegal_data (k + 1))) same ∙ sym says.text, told.status ∙ sym says.status)

pub replay_once : JudgesOnce Replays
replay_once = replay_at_once
