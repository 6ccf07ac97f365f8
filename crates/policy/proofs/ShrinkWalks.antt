-- Ways to make smaller as walks: each way is the walks along a chain of turns.
use Rattle.std.{specs.declared.alloc.Global.Global, proofs.Common.{[], ℕ, ◌||◌, ◌∙◌, ◌∷◌, ◌≡◌, ◌⊎◌, List, Option, Vec, ap, not, refl, subst, sym}}
use Rattle.std.proofs.Common.{inl, inr, true}
use Rattle.base.specs.declared.edge.Edge.{Edge}
use Rattle.base.specs.declared.kind.Kind.{Kind, TheVariants.{Context, Control, Holds, Receive, Reply, Reset, Runs, Send}}
use Rattle.policy.specs.{declared.{guarded.Turn.Turn, narrow_take.TheConstants.{REMOVED, WAITING}}, ActorReasons.{IsShrinkBy, control_edges, shrink_edges}}
use Rattle.policy.specs.{Change.ActorTest, Domain.EdgeTest, Guarded.{FindsLesserGuarded, IsGuardedWalk}, Reasons.edge}
use Rattle.policy.specs.NarrowTake.{TakesByControl, WayToShrink, is_removed, is_waiting, TakesByControl.{drops, releases, removes, wakes}}
use Rattle.policy.specs.{NarrowTake.WayToShrink.{controls, ends, frees, halts, stops, unbinds}, Walks.{FindsWalk, GoesAgainst, GoesAlong, is_of}}
use Rattle.policy.proofs.{ChangeWalks.{Lets, LetsAll}, KindNumbers.each_kind, Stepping.of_kind, WalkOrder.finds_same}
use Rattle.policy.proofs.GuardedWalking.{ends_there, last_turn_against, last_turn_along, longer_against, longer_along, more_turn_against}
use Rattle.policy.proofs.GuardedWalking.{more_turn_along, one_turn_against, one_turn_along, or_guarded, turn_against, turn_along}

removed_from : (kind : Kind) → is_of REMOVED kind ≡ true → is_removed kind ≡ true
removed_from kind is = of_kind (is_of REMOVED kind) _ is (each_kind (λ k. not (is_of REMOVED k) || is_removed k) refl kind)

removed_to : (kind : Kind) → is_removed kind ≡ true → is_of REMOVED kind ≡ true
removed_to kind is = of_kind (is_removed kind) _ is (each_kind (λ k. not (is_removed k) || is_of REMOVED k) refl kind)

waiting_from : (kind : Kind) → is_of WAITING kind ≡ true → is_waiting kind ≡ true
waiting_from kind is = of_kind (is_of WAITING kind) _ is (each_kind (λ k. not (is_of WAITING k) || is_waiting k) refl kind)

waiting_to : (kind : Kind) → is_waiting kind ≡ true → is_of WAITING kind ≡ true
waiting_to kind is = of_kind (is_waiting kind) _ is (each_kind (λ k. not (is_waiting k) || is_of WAITING k) refl kind)

-- the turns that the ways take
pub record ShrinkTurns (test : EdgeTest) (acts : ActorTest) (l : ℕ)
    (context runner named held use_reply holder queue send receiver control remove caller holding reset waiter : Turn) : Type 0 where
  pub context_is : GoesAlong (Context ∷ []) context.step
  pub context_lets : LetsAll context
  pub runner_is : GoesAgainst (Runs ∷ []) runner.step
  pub runner_lets : LetsAll runner
  pub named_is : GoesAlong (Reply ∷ []) named.step
  pub named_lets : Lets (λ to. test l Reply to ≡ true) named
  pub held_is : GoesAlong (Holds ∷ []) held.step
  pub held_lets : Lets (λ to. acts to ≡ true) held
  pub use_is : GoesAlong (Reply ∷ []) use_reply.step
  pub use_lets : LetsAll use_reply
  pub holder_is : GoesAgainst (Reply ∷ []) holder.step
  pub holder_lets : Lets (λ to. acts to ≡ true) holder
  pub queue_is : GoesAlong (Receive ∷ []) queue.step
  pub queue_lets : LetsAll queue
  pub send_is : GoesAlong (Send ∷ []) send.step
  pub send_lets : LetsAll send
  pub receiver_is : GoesAgainst (Receive ∷ []) receiver.step
  pub receiver_lets : Lets (λ to. acts to ≡ true) receiver
  pub control_is : GoesAlong (Control ∷ []) control.step
  pub control_lets : LetsAll control
  pub remove_is : GoesAlong REMOVED remove.step
  pub remove_lets : LetsAll remove
  pub caller_is : GoesAlong (Control ∷ []) caller.step
  pub caller_lets : Lets (λ to. acts to ≡ true) caller
  pub holding_is : GoesAgainst (Holds ∷ []) holding.step
  pub holding_lets : LetsAll holding
  pub reset_is : GoesAlong (Reset ∷ []) reset.step
  pub reset_lets : LetsAll reset
  pub waiter_is : GoesAgainst WAITING waiter.step
  pub waiter_lets : Lets (λ to. acts to ≡ true) waiter

module _ (test : EdgeTest) (acts : ActorTest) (a l : ℕ) (actor : acts a ≡ true)
    (context runner named held use_reply holder queue send receiver control remove caller holding reset waiter : Turn)
    (turns : ShrinkTurns test acts l context runner named held use_reply holder queue send receiver control remove caller holding reset waiter) where
  abbrev By : List Edge → Type 0
  By x = IsShrinkBy test acts a l x

  abbrev Walk : List Turn → List Edge → Type 0
  Walk chain x = IsGuardedWalk test chain a l x

  by_way : (x : List Edge) (way : WayToShrink test acts a l) → shrink_edges way ≡ x → By x
  by_way x way is = (record { actor = actor; way = way }, is)

  unbinds_by : (x : List Edge) → Walk (context ∷ []) x → By x
  unbinds_by x walk =
      let last = last_turn_along test context Context a l x turns.context_is walk in
      by_way x (unbinds last.0) (sym last.2)

  stops_by : (x : List Edge) → Walk (context ∷ runner ∷ []) x → By x
  stops_by x walk =
      let front = one_turn_along test context Context (runner ∷ []) a l x turns.context_is walk in
      let last = last_turn_against test runner Runs front.0 l front.1 turns.runner_is front.5 in
      by_way x (stops front.0 front.2 last.0) (sym (front.4 ∙ ap (λ es. edge a Context front.0 ∷ es) last.2))

  halts_by : (x : List Edge) → Walk (named ∷ held ∷ []) x → By x
  halts_by x walk =
      let front = one_turn_along test named Reply (held ∷ []) a l x turns.named_is walk in
      let last = last_turn_along test held Holds front.0 l front.1 turns.held_is front.5 in
      by_way x (halts (record {
        reply = front.0;
        uses = front.2;
        held = record { holds = last.0; names = (turns.named_lets front.0).0 front.3; waits = (turns.held_lets l).0 last.1 };
      })) (sym (front.4 ∙ ap (λ es. edge a Reply front.0 ∷ es) last.2))

  ends_by : (x : List Edge) → Walk (use_reply ∷ holder ∷ queue ∷ []) x → By x
  ends_by x walk =
      let front = one_turn_along test use_reply Reply (holder ∷ queue ∷ []) a l x turns.use_is walk in
      let met = one_turn_against test holder Reply (queue ∷ []) front.0 l front.1 turns.holder_is front.5 in
      let last = last_turn_along test queue Receive met.0 l met.1 turns.queue_is met.5 in
      by_way x (ends front.0 met.0 front.2 met.2 ((turns.holder_lets met.0).0 met.3) last.0)
      (sym (front.4 ∙ ap (λ es. edge a Reply front.0 ∷ es) (met.4 ∙ ap (λ es. edge met.0 Reply front.0 ∷ es) last.2)))

  frees_by : (x : List Edge) → Walk (send ∷ receiver ∷ use_reply ∷ []) x → By x
  frees_by x walk =
      let front = one_turn_along test send Send (receiver ∷ use_reply ∷ []) a l x turns.send_is walk in
      let met = one_turn_against test receiver Receive (use_reply ∷ []) front.0 l front.1 turns.receiver_is front.5 in
      let last = last_turn_along test use_reply Reply met.0 l met.1 turns.use_is met.5 in
      by_way x (frees front.0 met.0 front.2 met.2 ((turns.receiver_lets met.0).0 met.3) last.0)
      (sym (front.4 ∙ ap (λ es. edge a Send front.0 ∷ es) (met.4 ∙ ap (λ es. edge met.0 Receive front.0 ∷ es) last.2)))

  removes_by : (x : List Edge) → Walk (control ∷ remove ∷ []) x → By x
  removes_by x walk =
      let front = one_turn_along test control Control (remove ∷ []) a l x turns.control_is walk in
      let met = turn_along test remove REMOVED [] front.0 l front.1 turns.remove_is front.5 in
      let end = ends_there test met.next l met.rest met.walk in
      by_way x (controls (removes front.0 met.kind (removed_from met.kind met.of) front.2 (ap (test front.0 met.kind) (sym end.1) ∙ met.there)))
      (sym (front.4 ∙ ap (λ es. edge a Control front.0 ∷ es) (met.is ∙ (λ i. edge front.0 met.kind (end.1 i) ∷ end.0 i))))

  releases_by : (x : List Edge) → Walk (caller ∷ holding ∷ []) x → By x
  releases_by x walk =
      let front = one_turn_along test caller Control (holding ∷ []) a l x turns.caller_is walk in
      let last = last_turn_against test holding Holds front.0 l front.1 turns.holding_is front.5 in
      by_way x (controls (releases front.0 front.2 ((turns.caller_lets front.0).0 front.3) last.0))
      (sym (front.4 ∙ ap (λ es. edge a Control front.0 ∷ es) last.2))

  wakes_by : (x : List Edge) → Walk (control ∷ reset ∷ waiter ∷ []) x → By x
  wakes_by x walk =
      let front = one_turn_along test control Control (reset ∷ waiter ∷ []) a l x turns.control_is walk in
      let gone = one_turn_along test reset Reset (waiter ∷ []) front.0 l front.1 turns.reset_is front.5 in
      let met = turn_against test waiter WAITING [] gone.0 l gone.1 turns.waiter_is gone.5 in
      let end = ends_there test met.next l met.rest met.walk in
      by_way x
      (controls (wakes front.0 gone.0 met.kind (waiting_from met.kind met.of) front.2 gone.2 (ap (λ n. test n met.kind gone.0) (sym end.1) ∙ met.there)
      (ap acts (sym end.1) ∙ (turns.waiter_lets met.next).0 met.lets)))
      (sym (front.4 ∙ ap (λ es. edge a Control front.0 ∷ es)
      (gone.4 ∙ ap (λ es. edge front.0 Reset gone.0 ∷ es) (met.is ∙ (λ i. edge (end.1 i) met.kind gone.0 ∷ end.0 i)))))

  drops_by : (x : List Edge) → Walk (control ∷ reset ∷ receiver ∷ use_reply ∷ []) x → By x
  drops_by x walk =
      let front = one_turn_along test control Control (reset ∷ receiver ∷ use_reply ∷ []) a l x turns.control_is walk in
      let gone = one_turn_along test reset Reset (receiver ∷ use_reply ∷ []) front.0 l front.1 turns.reset_is front.5 in
      let met = one_turn_against test receiver Receive (use_reply ∷ []) gone.0 l gone.1 turns.receiver_is gone.5 in
      let last = last_turn_along test use_reply Reply met.0 l met.1 turns.use_is met.5 in
      by_way x (controls (drops front.0 gone.0 met.0 front.2 gone.2 met.2 ((turns.receiver_lets met.0).0 met.3) last.0))
      (sym (front.4 ∙ ap (λ es. edge a Control front.0 ∷ es)
      (gone.4 ∙ ap (λ es. edge front.0 Reset gone.0 ∷ es) (met.4 ∙ ap (λ es. edge met.0 Receive gone.0 ∷ es) last.2))))

  -- all ways, in the order in which the code joins them

  abbrev Unbound : List Edge → Type 0
  Unbound x = Walk (context ∷ []) x ⊎ Walk (context ∷ runner ∷ []) x

  abbrev Halted : List Edge → Type 0
  Halted x = (Unbound x ⊎ Walk (named ∷ held ∷ []) x) ⊎ Walk (use_reply ∷ holder ∷ queue ∷ []) x

  abbrev Removed : List Edge → Type 0
  Removed x = (Halted x ⊎ Walk (send ∷ receiver ∷ use_reply ∷ []) x) ⊎ Walk (control ∷ remove ∷ []) x

  abbrev Released : List Edge → Type 0
  Released x = Removed x ⊎ Walk (caller ∷ holding ∷ []) x

  abbrev All : List Edge → Type 0
  All x = (Released x ⊎ Walk (control ∷ reset ∷ waiter ∷ []) x) ⊎ Walk (control ∷ reset ∷ receiver ∷ use_reply ∷ []) x

  halted_by : (x : List Edge) → Halted x → By x
  halted_by x (inl (inl (inl walk))) = unbinds_by x walk
  halted_by x (inl (inl (inr walk))) = stops_by x walk
  halted_by x (inl (inr walk)) = halts_by x walk
  halted_by x (inr walk) = ends_by x walk

  all_by : (x : List Edge) → All x → By x
  all_by x (inl (inl (inl (inl (inl halted))))) = halted_by x halted
  all_by x (inl (inl (inl (inl (inr walk))))) = frees_by x walk
  all_by x (inl (inl (inl (inr walk)))) = removes_by x walk
  all_by x (inl (inl (inr walk))) = releases_by x walk
  all_by x (inl (inr walk)) = wakes_by x walk
  all_by x (inr walk) = drops_by x walk

  all_halted : (x : List Edge) → Halted x → All x
  all_halted x halted = inl (inl (inl (inl (inl halted))))

  control_of : (taken : TakesByControl test acts a l) → All (control_edges taken)
  control_of (removes controlled kind is may_control there) =
      inl (inl (inl (inr (more_turn_along test control Control (remove ∷ []) a controlled l (edge controlled kind l ∷ []) turns.control_is may_control
      (turns.control_lets controlled)
      (longer_along test remove REMOVED [] controlled kind l l [] turns.remove_is (removed_to kind is) there (turns.remove_lets l) refl)))))
  control_of (releases called may_control waits holds) =
      inl (inl (inr (more_turn_along test caller Control (holding ∷ []) a called l (edge l Holds called ∷ []) turns.caller_is may_control
      ((turns.caller_lets called).1 waits)
      (more_turn_against test holding Holds [] called l l [] turns.holding_is holds (turns.holding_lets l) refl))))
  control_of (wakes controlled end kind is may_control resets there waits) =
      inl (inr (more_turn_along test control Control (reset ∷ waiter ∷ []) a controlled l (edge controlled Reset end ∷ edge l kind end ∷ [])
      turns.control_is may_control (turns.control_lets controlled)
      (more_turn_along test reset Reset (waiter ∷ []) controlled end l (edge l kind end ∷ []) turns.reset_is resets (turns.reset_lets end)
      (longer_against test waiter WAITING [] end kind l l [] turns.waiter_is (waiting_to kind is) there ((turns.waiter_lets l).1 waits) refl))))
  control_of (drops controlled endpoint met may_control resets received waits names) =
      inr (more_turn_along test control Control (reset ∷ receiver ∷ use_reply ∷ []) a controlled l
      (edge controlled Reset endpoint ∷ edge met Receive endpoint ∷ edge met Reply l ∷ []) turns.control_is may_control (turns.control_lets controlled)
      (more_turn_along test reset Reset (receiver ∷ use_reply ∷ []) controlled endpoint l (edge met Receive endpoint ∷ edge met Reply l ∷ []) turns.reset_is resets
      (turns.reset_lets endpoint)
      (more_turn_against test receiver Receive (use_reply ∷ []) endpoint met l (edge met Reply l ∷ []) turns.receiver_is received ((turns.receiver_lets met).1 waits)
      (more_turn_along test use_reply Reply [] met l l [] turns.use_is names (turns.use_lets l) refl))))

  case_of : (way : WayToShrink test acts a l) → All (shrink_edges way)
  case_of (unbinds used) =
      all_halted (edge a Context l ∷ []) (inl (inl (inl (more_turn_along test context Context [] a l l [] turns.context_is used (turns.context_lets l) refl))))
  case_of (stops on used ran) =
      all_halted (edge a Context on ∷ edge l Runs on ∷ []) (inl (inl (inr (more_turn_along test context Context (runner ∷ []) a on l (edge l Runs on ∷ []) turns.context_is used (turns.context_lets on)
      (more_turn_against test runner Runs [] on l l [] turns.runner_is ran (turns.runner_lets l) refl)))))
  case_of (halts halt) =
      all_halted (edge a Reply halt.reply ∷ edge halt.reply Holds l ∷ []) (inl (inr (more_turn_along test named Reply (held ∷ []) a halt.reply l (edge halt.reply Holds l ∷ []) turns.named_is halt.uses
      ((turns.named_lets halt.reply).1 halt.held.names)
      (more_turn_along test held Holds [] halt.reply l l [] turns.held_is halt.held.holds ((turns.held_lets l).1 halt.held.waits) refl))))
  case_of (ends reply met used names waits received) =
      all_halted (edge a Reply reply ∷ edge met Reply reply ∷ edge met Receive l ∷ []) (inr (more_turn_along test use_reply Reply (holder ∷ queue ∷ []) a reply l (edge met Reply reply ∷ edge met Receive l ∷ []) turns.use_is used
      (turns.use_lets reply)
      (more_turn_against test holder Reply (queue ∷ []) reply met l (edge met Receive l ∷ []) turns.holder_is names ((turns.holder_lets met).1 waits)
      (more_turn_along test queue Receive [] met l l [] turns.queue_is received (turns.queue_lets l) refl))))
  case_of (frees endpoint met sent received waits names) =
      inl (inl (inl (inl (inr (more_turn_along test send Send (receiver ∷ use_reply ∷ []) a endpoint l (edge met Receive endpoint ∷ edge met Reply l ∷ [])
      turns.send_is sent (turns.send_lets endpoint)
      (more_turn_against test receiver Receive (use_reply ∷ []) endpoint met l (edge met Reply l ∷ []) turns.receiver_is received ((turns.receiver_lets met).1 waits)
      (more_turn_along test use_reply Reply [] met l l [] turns.use_is names (turns.use_lets l) refl)))))))
  case_of (controls taken) = control_of taken

  pub shrink_least : (w1 w2 w3 w4 w5 w6 w7 w8 w9 : Option (Vec Edge Global)) → FindsWalk (Walk (context ∷ [])) w1
      → FindsLesserGuarded test (context ∷ runner ∷ []) a l w1 w2 → FindsLesserGuarded test (named ∷ held ∷ []) a l w2 w3
      → FindsLesserGuarded test (use_reply ∷ holder ∷ queue ∷ []) a l w3 w4 → FindsLesserGuarded test (send ∷ receiver ∷ use_reply ∷ []) a l w4 w5
      → FindsLesserGuarded test (control ∷ remove ∷ []) a l w5 w6 → FindsLesserGuarded test (caller ∷ holding ∷ []) a l w6 w7
      → FindsLesserGuarded test (control ∷ reset ∷ waiter ∷ []) a l w7 w8
      → FindsLesserGuarded test (control ∷ reset ∷ receiver ∷ use_reply ∷ []) a l w8 w9 → FindsWalk By w9
  shrink_least w1 w2 w3 w4 w5 w6 w7 w8 w9 f1 f2 f3 f4 f5 f6 f7 f8 f9 =
      let unbound : FindsWalk Unbound w2 = or_guarded test a l (Walk (context ∷ [])) (context ∷ runner ∷ []) w1 w2 f1 f2 in
      let named_so : FindsWalk (λ x. Unbound x ⊎ Walk (named ∷ held ∷ []) x) w3 = or_guarded test a l Unbound (named ∷ held ∷ []) w2 w3 unbound f3 in
      let halted : FindsWalk Halted w4 =
      or_guarded test a l (λ x. Unbound x ⊎ Walk (named ∷ held ∷ []) x) (use_reply ∷ holder ∷ queue ∷ []) w3 w4 named_so f4 in
      let freed : FindsWalk (λ x. Halted x ⊎ Walk (send ∷ receiver ∷ use_reply ∷ []) x) w5 =
      or_guarded test a l Halted (send ∷ receiver ∷ use_reply ∷ []) w4 w5 halted f5 in
      let removed : FindsWalk Removed w6 =
      or_guarded test a l (λ x. Halted x ⊎ Walk (send ∷ receiver ∷ use_reply ∷ []) x) (control ∷ remove ∷ []) w5 w6 freed f6 in
      let released : FindsWalk Released w7 = or_guarded test a l Removed (caller ∷ holding ∷ []) w6 w7 removed f7 in
      let woken : FindsWalk (λ x. Released x ⊎ Walk (control ∷ reset ∷ waiter ∷ []) x) w8 =
      or_guarded test a l Released (control ∷ reset ∷ waiter ∷ []) w7 w8 released f8 in
      finds_same w9 all_by (λ x by. subst All by.1 (case_of by.0.way))
      (or_guarded test a l (λ x. Released x ⊎ Walk (control ∷ reset ∷ waiter ∷ []) x) (control ∷ reset ∷ receiver ∷ use_reply ∷ []) w8 w9 woken f9)
