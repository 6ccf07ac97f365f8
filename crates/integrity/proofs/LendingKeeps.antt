-- A call that lends its context to the receiver, and an answer that gives it back, keep what a part of a call keeps: the receiver may run
-- on the context, since it receives where a thread that runs on it calls.
use Rattle.std.proofs.Common.{ℕ, ◌∙◌, ◌≡◌, ◌≢◌, ◌⊎◌, None, Option, Some, ap, arith, inl, inr, option_map, refl, subst, sym, true}
use Rattle.{std.proofs.lemmas.Option.{none-some, same_Some}, base.specs.declared.{ids.ObjId.ObjId, kind.Kind.Kind as authority}}
use Rattle.machine.specs.declared.{call.Event.Event, object.Object.Object as o, thread.{Lent.Lent, Receiving.Receiving, Tcb.Tcb}}
use Rattle.machine.specs.{Authority.{context_lent, label_of, links}, Layout.Layout, Machine.{Machine, object_of}}
use Rattle.machine.specs.Step.{Bind.{context_under, with_handed}, Reply.{loan_in, with_returned}}
use Rattle.machine.specs.{Step.Send.{called_through, loan_made, with_lent}, WellFormed.{IsFree, IsIdle, IsThread, WaitsAt}}
use Rattle.machine.proofs.{Idle.{idle_names, idle_waits}, Leaving.Names, RunsLinks.{runs_bound, runs_lent}}
use Rattle.steps.proofs.{Lending.{GivesBack, lends, returned_or_same}, MessageRows.{lending, lending_formed, lending_receiver}}
use Rattle.{steps.proofs.MessageRows.lending_there, policy.specs.{Change.WayToChange.own, Domain.EdgeTest, Sharp.MayIdle}}
use Rattle.integrity.specs.{Acting.MayAct, Awake.IsAwake, Invariant.{IsHeld, IsSound}, Keeping.IsIdleBorrower}
use Rattle.integrity.proofs.{Borrowers.lent_back, ContextTouches.{MayHand, handed_keeps}, Held.held_of, Keeps.Changes}
use Rattle.integrity.proofs.{Keeps.{Keeps, Takes, keeps_keeps, unchanged}, MessageParts.{halts, label_kept, thread_edge, waits_keep}}
use Rattle.integrity.proofs.{MessageTouches.{MayHold, idle_receives, sound_after}, Shrinking.same_tcb}
use Rattle.machine.specs.declared.thread.RunState.TheVariants as state

-- what runs on a context has it as its own
own_context :
    (m : Machine) (thread context : ObjId) (tcb : Tcb) → IsThread m thread tcb → context_under (object_of m thread) ≡ Some context
    → tcb.context ≡ Some context
own_context m thread context tcb there runs = sym (ap context_under there) ∙ runs

module _
    (t : Layout) (allowed : EdgeTest) (began : Machine) (event : Event) (a : ℕ) (m : Machine) (sound : IsSound t allowed m) where
  held : IsHeld t allowed m
  held = held_of t allowed m sound

  -- a thread of the label gives the context that it runs on to another
  handing :
      (thread other id : ObjId) (tcb its : Tcb) → IsThread m thread tcb → label_of t m thread ≡ Some a → tcb.context ≡ Some id
      → IsThread m other its → (b : ℕ) → label_of t m other ≡ Some b → Changes t allowed began a b
      → (IsAwake t allowed began a → MayAct t allowed b)
      → ((receiving : Receiving) → tcb.state ≡ state.Receiving receiving → ⊥)
      → ((s : ℕ) → label_of t m id ≡ Some s → allowed a authority.Runs s ≡ true
      → (links (o.Tcb its) authority.Runs id ≡ true) ⊎ (allowed b authority.Runs s ≡ true))
      → ((s : ℕ) → allowed a authority.Runs s ≡ true → Changes t allowed began a s)
      → MayHand t allowed began a m thread other id
  handing thread other id tcb its there mine runs at b labelled has acts still may_run may_give =
      let context = sound.well_formed.links.thread_context thread id tcb there runs in
      let s = sound.of_table.labelled id (o.Context context.0) context.1 in
      let ran =
      thread_edge t allowed began event a m sound thread id tcb authority.Runs a s.0 there (runs_bound tcb id runs) mine s.1 in
      record {
        gives = record { label = a; labelled = mine; has = λ awake. own refl };
        gets = record { label = b; labelled = labelled; has = has };
        acts = acts;
        still = λ giver receiving at waits.
            still receiving (ap (λ (x : Tcb). x.state) (same_tcb tcb giver (same_Some (o.Tcb tcb) (o.Tcb giver) (sym there ∙ at))) ∙ waits);
        goes = record { label = s.0; labelled = s.1; has = may_give s.0 ran };
        other = its;
        there = at;
        may_run = may_run s.0 s.1 ran;
      }

  -- what a thread lent goes back to it from the thread that answers
  returned_back :
      (thread called : ObjId) (giver tcb : Tcb) → IsThread m thread giver → IsIdle giver.state → label_of t m thread ≡ Some a
      → IsThread m called tcb
      → (l : ℕ) → label_of t m called ≡ Some l → Changes t allowed began a l → (IsAwake t allowed began a → MayAct t allowed l)
      → (MayIdle allowed a → (s : ℕ) → allowed a authority.Runs s ≡ true → Changes t allowed began a s) → GivesBack m thread called
      → Keeps t allowed began event a m (with_handed m thread called)
  returned_back thread called giver tcb there idle mine at l labelled has acts may_give back =
      handed_keeps t allowed began event a m sound thread called back.free (λ id runs.
      let same : back.context ≡ id = same_Some back.context id (sym back.runs ∙ runs) in
      let lent : context_lent tcb.state ≡ Some id =
      lent_back tcb tcb.state (record { context = back.context; borrower = thread }) (sym (ap loan_in at) ∙ back.lent)
      ∙ ap (λ (i : ObjId). Some i) same in
      handing thread called id giver tcb there mine (own_context m thread id giver there runs) at l labelled has acts
      (idle_receives giver.state idle) (λ s target ran. inl (runs_lent tcb id lent))
      (may_give ((sound.borrowers called _ back.lent).idles a mine)))

  pub returned_keeps :
      (thread called : ObjId) (giver tcb : Tcb) → IsThread m thread giver → IsIdle giver.state → label_of t m thread ≡ Some a
      → IsThread m called tcb
      → (l : ℕ) → label_of t m called ≡ Some l → Changes t allowed began a l → (IsAwake t allowed began a → MayAct t allowed l)
      → (MayIdle allowed a → (s : ℕ) → allowed a authority.Runs s ≡ true → Changes t allowed began a s)
      → Keeps t allowed began event a m (with_returned m thread called)
  returned_keeps thread called giver tcb there idle mine at l labelled has acts may_give = by_case (returned_or_same m thread called) where
    by_case :
        (GivesBack m thread called × (with_returned m thread called ≡ with_handed m thread called))
        ⊎ (with_returned m thread called ≡ m) → Keeps t allowed began event a m (with_returned m thread called)
    by_case (inl w) =
        subst (λ (n : Machine). Keeps t allowed began event a m n) (sym w.1)
        (returned_back thread called giver tcb there idle mine at l labelled has acts may_give w.0)
    by_case (inr same) =
        subst (λ (n : Machine). Keeps t allowed began event a m n) (sym same) (unchanged t allowed began event a m held)

-- a thread that called waits for the answer, and its receiver gets the context that it runs on, if it has none
module _
    (t : Layout) (allowed : EdgeTest) (began : Machine) (event : Event) (a : ℕ) (m : Machine) (sound : IsSound t allowed m)
    (thread receiver : ObjId) (tcb its : Tcb) (there : IsThread m thread tcb) (idle : IsIdle tcb.state)
    (receives : IsThread m receiver its) (apart : thread ≢ receiver) (mine : label_of t m thread ≡ Some a) (b : ℕ)
    (labelled : label_of t m receiver ≡ Some b) (has : Changes t allowed began a b)
    (acts : IsAwake t allowed began a → MayAct t allowed b) where
  names_none : (q : ObjId) (to : ℕ) → Names tcb.state q → label_of t m q ≡ Some to → Changes t allowed began a to
  names_none q to names target = absurd (idle_names tcb.state idle q names)

  waits_nowhere : (q : ObjId) (to : ℕ) → WaitsAt tcb.state q → label_of t m q ≡ Some to → Changes t allowed began a to ⊎ Takes t allowed began a to
  waits_nowhere q to stays target = absurd (idle_waits tcb.state idle q stays)

  module _
      (id : ObjId) (free : IsFree m id)
      (may : (r : ℕ) → label_of t m id ≡ Some r → MayHold t allowed began a r a)
      (may_idle : its.context ≡ None → MayIdle allowed b)
      (may_lend :
      its.context ≡ None → (s : ℕ) → allowed a authority.Runs s ≡ true
      → (allowed b authority.Runs s ≡ true) × Changes t allowed began a s) where
    abbrev own_loan : Option Lent
    own_loan = loan_made m thread receiver

    abbrev waits : Machine
    waits = lending m thread receiver tcb its sound.well_formed there receives apart id

    abbrev now : Tcb
    now = record tcb { state = state.Called (record { reply = id; lent = own_loan }) }

    now_called : (receiving : Receiving) → now.state ≡ state.Receiving receiving → ⊥
    now_called receiving waits = cc

    lends_own :
        (lent : Option Lent) → own_loan ≡ lent → (context : ObjId) → option_map (λ (l : Lent). l.context) lent ≡ Some context
        → tcb.context ≡ Some context
    lends_own None is context e = absurd (none-some context e)
    lends_own (Some lent) is context e =
        own_context m thread lent.context tcb there (lends m thread receiver lent is).runs ∙ e

    borrows : (loan : Lent) → own_loan ≡ Some loan → IsIdleBorrower t allowed m loan
    borrows loan is =
        let w = lends m thread receiver loan is in
        record {
          number =
              let below = sound.well_formed.numbers.below_next receiver (o.Tcb its) receives in
              let same = ap (λ (i : ObjId). i.0) w.borrower in
              omega (arith, below, same);
          idles = λ label at.
              subst (MayIdle allowed) (same_Some b label (sym labelled ∙ ap (label_of t m) (sym w.borrower) ∙ at))
              (may_idle (sym (ap context_under receives) ∙ w.free));
        }

    calls : Keeps t allowed began event a m waits
    calls =
        waits_keep t allowed began event a m sound thread tcb there a mine (λ awake. own refl) (λ awake. awake.acting) names_none
        waits_nowhere id own_loan free
        (lends_own own_loan refl) borrows may

    there_now : IsThread waits thread now
    there_now = lending_there m thread receiver tcb its sound.well_formed there receives apart id free

    receives_now : IsThread waits receiver its
    receives_now = lending_receiver m thread receiver tcb its sound.well_formed there receives apart id free

    waits_sound : IsSound t allowed waits
    waits_sound =
        sound_after t allowed began event a m waits sound calls
        (lending_formed m thread receiver tcb its sound.well_formed there receives apart id free)

    -- the context goes over if none was lent to the receiver, and the thread runs on it
    goes_over : context_under (object_of m receiver) ≡ None → Keeps t allowed began event a waits (with_handed waits thread receiver)
    goes_over alone =
        handed_keeps t allowed began event a waits waits_sound thread receiver
        (ap context_under receives_now ∙ sym (ap context_under receives) ∙ alone)
        (λ q runs.
        handing t allowed began event a waits waits_sound thread receiver q now its there_now
        (label_kept t allowed began event a m waits thread (o.Tcb tcb) (o.Tcb now) calls there there_now ∙ mine)
        (own_context waits thread q now there_now runs) receives_now b
        (label_kept t allowed began event a m waits receiver (o.Tcb its) (o.Tcb its) calls receives receives_now ∙ labelled) has acts
        now_called
        (λ s target ran. inr (may_lend none s ran).0) (λ s ran. (may_lend none s ran).1))
      where
        none : its.context ≡ None
        none = sym (ap context_under receives) ∙ alone

    by_loan : (lent : Option Lent) → own_loan ≡ lent → Keeps t allowed began event a m (with_lent waits thread lent)
    by_loan None is = calls
    by_loan (Some lent) is =
        let w = lends m thread receiver lent is in
        keeps_keeps t allowed began event a m waits (with_handed waits thread lent.borrower) (held_of t allowed m sound) calls
        (subst (λ (i : ObjId). Keeps t allowed began event a waits (with_handed waits thread i)) (sym w.borrower)
        (goes_over w.free))

  pub called_through_keeps :
      (through : Option ObjId) → ((id : ObjId) → through ≡ Some id → IsFree m id)
      → ((id : ObjId) (r : ℕ) → through ≡ Some id → label_of t m id ≡ Some r → MayHold t allowed began a r a)
      → ((id : ObjId) → through ≡ Some id → its.context ≡ None → MayIdle allowed b)
      → ((id : ObjId) → through ≡ Some id → its.context ≡ None → (s : ℕ) → allowed a authority.Runs s ≡ true
      → (allowed b authority.Runs s ≡ true) × Changes t allowed began a s)
      → Keeps t allowed began event a m (called_through m thread receiver through)
  called_through_keeps None free may may_idle may_lend =
      halts t allowed began event a m sound thread tcb there a mine (inl (λ awake. own refl)) (λ awake. awake.acting) names_none
      waits_nowhere
  called_through_keeps (Some id) free may may_idle may_lend =
      by_loan id (free id refl) (λ r. may id r refl) (may_idle id refl) (may_lend id refl) (loan_made m thread receiver) refl
