-- Ways to change as walks: each way is the walks along a chain of turns.
use Rattle.std.{specs.declared.alloc.Global.Global, proofs.Common.{[], ℕ, ◌||◌, ◌↔◌, ◌∙◌, ◌∷◌, ◌≡◌, ◌⊎◌, List, None, Option, Some, Vec, ap}}
use Rattle.std.proofs.Common.{inl, inr, not, refl, subst, sym, true}
use Rattle.base.specs.declared.{edge.Edge.Edge, kind.Kind.{Kind, TheVariants.{Await, Call, Context, Control, Grant, Holds, Notify}}}
use Rattle.base.specs.{declared.{kind.Kind.TheVariants.{Receive, Reply, Runs, SchedControl, Send}, labels.Labels.Labels}, Labels.is_in}
use Rattle.policy.specs.{declared.{change.TheConstants.CHANGING, guarded.Turn.Turn}, ActorReasons.{IsChangeBy, change_edges, context_edges}}
use Rattle.policy.specs.Change.{ActorTest, MayBorrow, MayChangeContext, MayHoldCaller, MayLend, WayToChange, is_changing, MayChangeContext.{binds, configures}}
use Rattle.policy.specs.Change.{MayChangeContext.{lends, returns}, WayToChange.{grants, links, modifies, notifies, own, receives, replies}}
use Rattle.policy.specs.{Change.WayToChange.{sends, shares}, Domain.EdgeTest, Guarded.{FindsLesserGuarded, IsGuardedWalk, lets_through}}
use Rattle.policy.{specs.{Reasons.edge, Steps.is_joined, Walks.{FindsWalk, GoesAgainst, GoesAlong, is_of}}, proofs.Gathering.first_joined}
use Rattle.policy.proofs.{Gathering.{joined_either, second_joined}, GuardedWalking.{ends_there, last_turn_against, last_turn_along}}
use Rattle.policy.proofs.GuardedWalking.{longer_along, more_turn_against, more_turn_along, one_turn_against, one_turn_along, or_guarded}
use Rattle.policy.proofs.{GuardedWalking.turn_along, KindNumbers.each_kind, Stepping.of_kind, WalkOrder.finds_same}

changing_from : (kind : Kind) → is_of CHANGING kind ≡ true → is_changing kind ≡ true
changing_from kind is = of_kind (is_of CHANGING kind) _ is (each_kind (λ k. not (is_of CHANGING k) || is_changing k) refl kind)

changing_to : (kind : Kind) → is_changing kind ≡ true → is_of CHANGING kind ≡ true
changing_to kind is = of_kind (is_changing kind) _ is (each_kind (λ k. not (is_changing k) || is_of CHANGING k) refl kind)

-- the labels that a turn lets through: all, or those with a property
abbrev pub LetsAll : Turn → Type 0
LetsAll turn = (label : ℕ) → lets_through turn.among label ≡ true

abbrev pub Lets : (ℕ → Type 0) → Turn → Type 0
Lets Passing turn = (label : ℕ) → (lets_through turn.among label ≡ true) ↔ Passing label

pub lets_all : (turn : Turn) → turn.among ≡ None → LetsAll turn
lets_all turn is label = ap (λ among. lets_through among label) is

pub lets_some : (Passing : ℕ → Type 0) (labels : Labels) (turn : Turn) → turn.among ≡ Some labels
    → ((label : ℕ) → (is_in labels label ≡ true) ↔ Passing label) → Lets Passing turn
lets_some Passing labels turn is are label =
    let same = ap (λ among. lets_through among label) is in
    (λ e. (are label).0 (sym same ∙ e), λ h. same ∙ (are label).1 h)

-- the turns that the ways take
pub record ChangeTurns (test : EdgeTest) (acts : ActorTest) (a l : ℕ)
    (modify bind lend send sender receive receiver notify awaiter call reply grant control answer held : Turn) : Type 0 where
  pub modify_is : GoesAlong CHANGING modify.step
  pub modify_lets : LetsAll modify
  pub bind_is : GoesAlong (Context ∷ []) bind.step
  pub bind_lets :
      Lets (λ to. (test a Context to ≡ true) × ((other : ℕ) × (is_joined test (SchedControl ∷ Control ∷ []) a other ≡ true))) bind
  pub lend_is : GoesAlong (Runs ∷ []) lend.step
  pub lend_lets : Lets (λ to. (test a Runs to ≡ true) × (MayLend test acts a ⊎ MayBorrow test a)) lend
  pub send_is : GoesAlong (Send ∷ []) send.step
  pub send_lets : LetsAll send
  pub sender_is : GoesAgainst (Send ∷ []) sender.step
  pub sender_lets : Lets (λ to. acts to ≡ true) sender
  pub receive_is : GoesAlong (Receive ∷ []) receive.step
  pub receive_lets : LetsAll receive
  pub receiver_is : GoesAgainst (Receive ∷ []) receiver.step
  pub receiver_lets : Lets (λ to. acts to ≡ true) receiver
  pub notify_is : GoesAlong (Notify ∷ []) notify.step
  pub notify_lets : LetsAll notify
  pub awaiter_is : GoesAgainst (Await ∷ []) awaiter.step
  pub awaiter_lets : Lets (λ to. acts to ≡ true) awaiter
  pub call_is : GoesAlong (Call ∷ []) call.step
  pub call_lets : Lets (λ to. test a Send to ≡ true) call
  pub reply_is : GoesAlong (Reply ∷ []) reply.step
  pub reply_lets : LetsAll reply
  pub grant_is : GoesAlong (Grant ∷ []) grant.step
  pub grant_lets : LetsAll grant
  pub control_is : GoesAlong (Control ∷ []) control.step
  pub control_lets : LetsAll control
  pub answer_is : GoesAlong (Reply ∷ []) answer.step
  pub answer_lets : Lets (λ reply. MayHoldCaller test acts reply l) answer
  pub held_is : GoesAlong (Holds ∷ []) held.step
  pub held_lets : LetsAll held

module _ (test : EdgeTest) (acts : ActorTest) (a l : ℕ) (actor : acts a ≡ true)
    (modify bind lend send sender receive receiver notify awaiter call reply grant control answer held : Turn)
    (turns : ChangeTurns test acts a l modify bind lend send sender receive receiver notify awaiter call reply grant control answer held) where
  abbrev By : List Edge → Type 0
  By x = IsChangeBy test acts a l x

  abbrev Walk : List Turn → List Edge → Type 0
  Walk chain x = IsGuardedWalk test chain a l x

  by_way : (x : List Edge) (way : WayToChange test acts a l) → change_edges way ≡ x → By x
  by_way x way is = (record { actor = actor; way = way }, is)

  own_by : (x : List Edge) → Walk [] x → By x
  own_by x walk = let end = ends_there test a l x walk in by_way x (own (sym end.1)) (sym end.0)

  modifies_by : (x : List Edge) → Walk (modify ∷ []) x → By x
  modifies_by x walk =
      let front = turn_along test modify CHANGING [] a l x turns.modify_is walk in
      let end = ends_there test front.next l front.rest front.walk in
      by_way x (modifies front.kind (changing_from front.kind front.of) (ap (test a front.kind) (sym end.1) ∙ front.there))
      (sym (front.is ∙ (λ i. edge a front.kind (end.1 i) ∷ end.0 i)))

  binds_by : (x : List Edge) → Walk (bind ∷ []) x → By x
  binds_by x walk =
      let last = last_turn_along test bind Context a l x turns.bind_is walk in
      let beside = ((turns.bind_lets l).0 last.1).1 in
      elim (joined_either test SchedControl Control a beside.0 beside.1) [
        | inl governs ↦ by_way x (shares (configures beside.0 last.0 governs)) (sym last.2)
        | inr controls ↦ by_way x (shares (binds beside.0 last.0 controls)) (sym last.2)
      ]

  lends_by : (x : List Edge) → Walk (lend ∷ []) x → By x
  lends_by x walk =
      let last = last_turn_along test lend Runs a l x turns.lend_is walk in
      elim ((turns.lend_lets l).0 last.1).1 [
        | inl lent ↦ by_way x (shares (lends last.0 lent)) (sym last.2)
        | inr borrowed ↦ by_way x (shares (returns last.0 borrowed)) (sym last.2)
      ]

  sends_by : (x : List Edge) → Walk (send ∷ receiver ∷ []) x → By x
  sends_by x walk =
      let front = one_turn_along test send Send (receiver ∷ []) a l x turns.send_is walk in
      let last = last_turn_against test receiver Receive front.0 l front.1 turns.receiver_is front.5 in
      by_way x (sends front.0 front.2 last.0 ((turns.receiver_lets l).0 last.1)) (sym (front.4 ∙ ap (λ es. edge a Send front.0 ∷ es) last.2))

  receives_by : (x : List Edge) → Walk (receive ∷ sender ∷ []) x → By x
  receives_by x walk =
      let front = one_turn_along test receive Receive (sender ∷ []) a l x turns.receive_is walk in
      let last = last_turn_against test sender Send front.0 l front.1 turns.sender_is front.5 in
      by_way x (receives front.0 front.2 last.0 ((turns.sender_lets l).0 last.1)) (sym (front.4 ∙ ap (λ es. edge a Receive front.0 ∷ es) last.2))

  notifies_by : (x : List Edge) → Walk (notify ∷ awaiter ∷ []) x → By x
  notifies_by x walk =
      let front = one_turn_along test notify Notify (awaiter ∷ []) a l x turns.notify_is walk in
      let last = last_turn_against test awaiter Await front.0 l front.1 turns.awaiter_is front.5 in
      by_way x (notifies front.0 front.2 last.0 ((turns.awaiter_lets l).0 last.1)) (sym (front.4 ∙ ap (λ es. edge a Notify front.0 ∷ es) last.2))

  links_by : (x : List Edge) → Walk (call ∷ receiver ∷ reply ∷ []) x → By x
  links_by x walk =
      let front = one_turn_along test call Call (receiver ∷ reply ∷ []) a l x turns.call_is walk in
      let met = one_turn_against test receiver Receive (reply ∷ []) front.0 l front.1 turns.receiver_is front.5 in
      let last = last_turn_along test reply Reply met.0 l met.1 turns.reply_is met.5 in
      by_way x (links front.0 met.0 ((turns.call_lets front.0).0 front.3) front.2 met.2 ((turns.receiver_lets met.0).0 met.3) last.0)
      (sym (front.4 ∙ ap (λ es. edge a Call front.0 ∷ es) (met.4 ∙ ap (λ es. edge met.0 Receive front.0 ∷ es) last.2)))

  grants_by : (x : List Edge) → Walk (grant ∷ receiver ∷ control ∷ []) x → By x
  grants_by x walk =
      let front = one_turn_along test grant Grant (receiver ∷ control ∷ []) a l x turns.grant_is walk in
      let met = one_turn_against test receiver Receive (control ∷ []) front.0 l front.1 turns.receiver_is front.5 in
      let last = last_turn_along test control Control met.0 l met.1 turns.control_is met.5 in
      by_way x (grants front.0 met.0 front.2 met.2 ((turns.receiver_lets met.0).0 met.3) last.0)
      (sym (front.4 ∙ ap (λ es. edge a Grant front.0 ∷ es) (met.4 ∙ ap (λ es. edge met.0 Receive front.0 ∷ es) last.2)))

  replies_by : (x : List Edge) → Walk (answer ∷ held ∷ []) x → By x
  replies_by x walk =
      let front = one_turn_along test answer Reply (held ∷ []) a l x turns.answer_is walk in
      let last = last_turn_along test held Holds front.0 l front.1 turns.held_is front.5 in
      by_way x (replies (record { reply = front.0; uses = front.2; called = (turns.answer_lets front.0).0 front.3 }))
      (sym (front.4 ∙ ap (λ es. edge a Reply front.0 ∷ es) last.2))

  -- all ways, in the order in which the code joins them

  abbrev Near : List Edge → Type 0
  Near x = ((((Walk [] x ⊎ Walk (modify ∷ []) x) ⊎ Walk (bind ∷ []) x) ⊎ Walk (lend ∷ []) x) ⊎ Walk (send ∷ receiver ∷ []) x) ⊎ Walk (receive ∷ sender ∷ []) x

  abbrev All : List Edge → Type 0
  All x =
      (((Near x ⊎ Walk (notify ∷ awaiter ∷ []) x) ⊎ Walk (call ∷ receiver ∷ reply ∷ []) x) ⊎ Walk (grant ∷ receiver ∷ control ∷ []) x)
      ⊎ Walk (answer ∷ held ∷ []) x

  near_by : (x : List Edge) → Near x → By x
  near_by x (inl (inl (inl (inl (inl walk))))) = own_by x walk
  near_by x (inl (inl (inl (inl (inr walk))))) = modifies_by x walk
  near_by x (inl (inl (inl (inr walk)))) = binds_by x walk
  near_by x (inl (inl (inr walk))) = lends_by x walk
  near_by x (inl (inr walk)) = sends_by x walk
  near_by x (inr walk) = receives_by x walk

  all_by : (x : List Edge) → All x → By x
  all_by x (inl (inl (inl (inl near)))) = near_by x near
  all_by x (inl (inl (inl (inr walk)))) = notifies_by x walk
  all_by x (inl (inl (inr walk))) = links_by x walk
  all_by x (inl (inr walk)) = grants_by x walk
  all_by x (inr walk) = replies_by x walk

  near_all : (x : List Edge) → Near x → All x
  near_all x near = inl (inl (inl (inl near)))

  context_of : (way : MayChangeContext test acts a l) → All (context_edges way)
  context_of (configures core used governs) =
      near_all (edge a Context l ∷ []) (inl (inl (inl (inr (more_turn_along test bind Context [] a l l [] turns.bind_is used
      ((turns.bind_lets l).1 (used, (core, first_joined test SchedControl Control a core governs))) refl)))))
  context_of (binds thread used controls) =
      near_all (edge a Context l ∷ []) (inl (inl (inl (inr (more_turn_along test bind Context [] a l l [] turns.bind_is used
      ((turns.bind_lets l).1 (used, (thread, second_joined test SchedControl Control a thread controls))) refl)))))
  context_of (lends ran lent) =
      near_all (edge a Runs l ∷ []) (inl (inl (inr (more_turn_along test lend Runs [] a l l [] turns.lend_is ran
      ((turns.lend_lets l).1 (ran, inl lent)) refl))))
  context_of (returns ran borrowed) =
      near_all (edge a Runs l ∷ []) (inl (inl (inr (more_turn_along test lend Runs [] a l l [] turns.lend_is ran
      ((turns.lend_lets l).1 (ran, inr borrowed)) refl))))

  case_of : (way : WayToChange test acts a l) → All (change_edges way)
  case_of (own same) = near_all [] (inl (inl (inl (inl (inl (sym same))))))
  case_of (modifies kind is there) =
      near_all (edge a kind l ∷ []) (inl (inl (inl (inl (inr (longer_along test modify CHANGING [] a kind l l [] turns.modify_is (changing_to kind is) there
      (turns.modify_lets l) refl))))))
  case_of (shares context) = context_of context
  case_of (sends endpoint sent received waits) =
      near_all (edge a Send endpoint ∷ edge l Receive endpoint ∷ []) (inl (inr (more_turn_along test send Send (receiver ∷ []) a endpoint l (edge l Receive endpoint ∷ []) turns.send_is sent
      (turns.send_lets endpoint)
      (more_turn_against test receiver Receive [] endpoint l l [] turns.receiver_is received ((turns.receiver_lets l).1 waits) refl))))
  case_of (receives endpoint received sent waits) =
      near_all (edge a Receive endpoint ∷ edge l Send endpoint ∷ []) (inr (more_turn_along test receive Receive (sender ∷ []) a endpoint l (edge l Send endpoint ∷ []) turns.receive_is received
      (turns.receive_lets endpoint)
      (more_turn_against test sender Send [] endpoint l l [] turns.sender_is sent ((turns.sender_lets l).1 waits) refl)))
  case_of (notifies notification notified awaited waits) =
      inl (inl (inl (inr (more_turn_along test notify Notify (awaiter ∷ []) a notification l (edge l Await notification ∷ []) turns.notify_is notified
      (turns.notify_lets notification)
      (more_turn_against test awaiter Await [] notification l l [] turns.awaiter_is awaited ((turns.awaiter_lets l).1 waits) refl)))))
  case_of (links endpoint met sent called received waits named) =
      inl (inl (inr (more_turn_along test call Call (receiver ∷ reply ∷ []) a endpoint l (edge met Receive endpoint ∷ edge met Reply l ∷ [])
      turns.call_is called ((turns.call_lets endpoint).1 sent)
      (more_turn_against test receiver Receive (reply ∷ []) endpoint met l (edge met Reply l ∷ []) turns.receiver_is received ((turns.receiver_lets met).1 waits)
      (more_turn_along test reply Reply [] met l l [] turns.reply_is named (turns.reply_lets l) refl)))))
  case_of (grants endpoint met granted received waits controlled) =
      inl (inr (more_turn_along test grant Grant (receiver ∷ control ∷ []) a endpoint l (edge met Receive endpoint ∷ edge met Control l ∷ [])
      turns.grant_is granted (turns.grant_lets endpoint)
      (more_turn_against test receiver Receive (control ∷ []) endpoint met l (edge met Control l ∷ []) turns.receiver_is received ((turns.receiver_lets met).1 waits)
      (more_turn_along test control Control [] met l l [] turns.control_is controlled (turns.control_lets l) refl))))
  case_of (replies may) =
      inr (more_turn_along test answer Reply (held ∷ []) a may.reply l (edge may.reply Holds l ∷ []) turns.answer_is may.uses
      ((turns.answer_lets may.reply).1 may.called)
      (more_turn_along test held Holds [] may.reply l l [] turns.held_is may.called.holds (turns.held_lets l) refl))

  pub change_least : (w1 w2 w3 w4 w5 w6 w7 w8 w9 w10 : Option (Vec Edge Global)) → FindsWalk (Walk []) w1
      → FindsLesserGuarded test (modify ∷ []) a l w1 w2 → FindsLesserGuarded test (bind ∷ []) a l w2 w3 → FindsLesserGuarded test (lend ∷ []) a l w3 w4
      → FindsLesserGuarded test (send ∷ receiver ∷ []) a l w4 w5 → FindsLesserGuarded test (receive ∷ sender ∷ []) a l w5 w6
      → FindsLesserGuarded test (notify ∷ awaiter ∷ []) a l w6 w7 → FindsLesserGuarded test (call ∷ receiver ∷ reply ∷ []) a l w7 w8
      → FindsLesserGuarded test (grant ∷ receiver ∷ control ∷ []) a l w8 w9 → FindsLesserGuarded test (answer ∷ held ∷ []) a l w9 w10
      → FindsWalk By w10
  change_least w1 w2 w3 w4 w5 w6 w7 w8 w9 w10 f1 f2 f3 f4 f5 f6 f7 f8 f9 f10 =
      let modified : FindsWalk (λ x. Walk [] x ⊎ Walk (modify ∷ []) x) w2 = or_guarded test a l (Walk []) (modify ∷ []) w1 w2 f1 f2 in
      let bound : FindsWalk (λ x. (Walk [] x ⊎ Walk (modify ∷ []) x) ⊎ Walk (bind ∷ []) x) w3 =
      or_guarded test a l (λ x. Walk [] x ⊎ Walk (modify ∷ []) x) (bind ∷ []) w2 w3 modified f3 in
      let lent : FindsWalk (λ x. ((Walk [] x ⊎ Walk (modify ∷ []) x) ⊎ Walk (bind ∷ []) x) ⊎ Walk (lend ∷ []) x) w4 =
      or_guarded test a l (λ x. (Walk [] x ⊎ Walk (modify ∷ []) x) ⊎ Walk (bind ∷ []) x) (lend ∷ []) w3 w4 bound f4 in
      let sent : FindsWalk (λ x. (((Walk [] x ⊎ Walk (modify ∷ []) x) ⊎ Walk (bind ∷ []) x) ⊎ Walk (lend ∷ []) x) ⊎ Walk (send ∷ receiver ∷ []) x) w5 =
      or_guarded test a l (λ x. ((Walk [] x ⊎ Walk (modify ∷ []) x) ⊎ Walk (bind ∷ []) x) ⊎ Walk (lend ∷ []) x) (send ∷ receiver ∷ []) w4 w5 lent f5 in
      let near : FindsWalk Near w6 =
      or_guarded test a l (λ x. (((Walk [] x ⊎ Walk (modify ∷ []) x) ⊎ Walk (bind ∷ []) x) ⊎ Walk (lend ∷ []) x) ⊎ Walk (send ∷ receiver ∷ []) x)
      (receive ∷ sender ∷ []) w5 w6 sent f6 in
      let notified : FindsWalk (λ x. Near x ⊎ Walk (notify ∷ awaiter ∷ []) x) w7 = or_guarded test a l Near (notify ∷ awaiter ∷ []) w6 w7 near f7 in
      let linked : FindsWalk (λ x. (Near x ⊎ Walk (notify ∷ awaiter ∷ []) x) ⊎ Walk (call ∷ receiver ∷ reply ∷ []) x) w8 =
      or_guarded test a l (λ x. Near x ⊎ Walk (notify ∷ awaiter ∷ []) x) (call ∷ receiver ∷ reply ∷ []) w7 w8 notified f8 in
      let granted :
      FindsWalk (λ x. ((Near x ⊎ Walk (notify ∷ awaiter ∷ []) x) ⊎ Walk (call ∷ receiver ∷ reply ∷ []) x) ⊎ Walk (grant ∷ receiver ∷ control ∷ []) x) w9 =
      or_guarded test a l (λ x. (Near x ⊎ Walk (notify ∷ awaiter ∷ []) x) ⊎ Walk (call ∷ receiver ∷ reply ∷ []) x) (grant ∷ receiver ∷ control ∷ []) w8 w9
      linked f9 in
      finds_same w10 all_by (λ x by. subst All by.1 (case_of by.0.way))
      (or_guarded test a l
      (λ x. ((Near x ⊎ Walk (notify ∷ awaiter ∷ []) x) ⊎ Walk (call ∷ receiver ∷ reply ∷ []) x) ⊎ Walk (grant ∷ receiver ∷ control ∷ []) x)
      (answer ∷ held ∷ []) w9 w10 granted f10)
