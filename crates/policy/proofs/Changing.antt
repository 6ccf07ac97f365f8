-- Bounds on what labels change: changes are within full authority, and losses within cut or full authority, way by way; both grow with
-- the policy and with the labels that act.
use Rattle.std.proofs.Common.{ℕ, ◌∙◌, ◌≡◌, ◌⊎◌, inl, inr, refl, sym, true}
use Rattle.base.specs.declared.kind.Kind.{Kind, TheVariants.{Await, Call, Context, Control, Derive, Grant, Holds, Notify, Receive, Reply}}
use Rattle.base.specs.declared.kind.Kind.TheVariants.{Reset, Runs, SchedControl, Send, Space, Write}
use Rattle.policy.specs.Change.{ActorTest, MayAnswer, MayBorrow, MayChange, MayChangeContext, MayLend, WayToChange, is_changing, MayChangeContext.binds}
use Rattle.policy.specs.Change.{MayChangeContext.{configures, lends, returns}, WayToChange.{grants, links, modifies, notifies, own}}
use Rattle.policy.specs.{Change.WayToChange.{receives, replies, sends, shares}, Closing.IsWithin, Cut.{IsCut, IsHolding, IsNear, is_link}}
use Rattle.policy.specs.{Cut.IsNear.{against, along, stays}, Domain.EdgeTest, Full.{IsFull, is_modifying, IsFull.grants as full_grants}}
use Rattle.policy.specs.Full.IsFull.{links as full_links, modifies as full_modifies, notifies as full_notifies, own as full_own}
use Rattle.policy.specs.{Full.IsFull.{receives as full_receives, replies as full_replies, sends as full_sends}, NarrowTake.HasNone}
use Rattle.policy.specs.NarrowTake.{MaySendTo, MayShrink, TakesByControl, WayToShrink, is_removed, is_waiting, TakesByControl.drops}
use Rattle.policy.specs.NarrowTake.{TakesByControl.{releases, removes, wakes}, WayToShrink.{controls, ends, frees, halts, stops, unbinds}}
use mathlib.Core.Bool.{false≢true}

-- a kind that changes the object itself modifies it
is_modifying_too : (kind : Kind) → is_changing kind ≡ true → is_modifying kind ≡ true
is_modifying_too Control is = refl
is_modifying_too Send is = refl
is_modifying_too Receive is = refl
is_modifying_too Notify is = refl
is_modifying_too Await is = refl
is_modifying_too Write is = refl
is_modifying_too Reply is = refl
is_modifying_too _ is = absurd (false≢true is)

module _ (test : EdgeTest) (acts : ActorTest) (a l : ℕ) where
  context_is_full : MayChangeContext test acts a l → IsFull test a l
  context_is_full (configures core uses governs) = full_modifies Context refl uses
  context_is_full (binds thread uses controls_it) = full_modifies Context refl uses
  context_is_full (lends runs lent) = full_modifies Runs refl runs
  context_is_full (returns runs borrowed) = full_modifies Runs refl runs

  way_is_full : WayToChange test acts a l → IsFull test a l
  way_is_full (own same) = full_own same
  way_is_full (modifies kind is there) = full_modifies kind (is_modifying_too kind is) there
  way_is_full (shares context) = context_is_full context
  way_is_full (sends endpoint sent received waits) = full_sends endpoint sent received
  way_is_full (receives endpoint received sent waits) = full_receives endpoint received sent
  way_is_full (notifies notification notified awaited waits) = full_notifies notification notified awaited
  way_is_full (links endpoint receiver sent called received waits named) = full_links endpoint receiver sent received named
  way_is_full (grants endpoint receiver granted received waits controlled) = full_grants endpoint receiver granted received controlled
  way_is_full (replies answer) = full_replies answer.reply answer.uses answer.called.holds

  pub change_is_full : MayChange test acts a l → IsFull test a l
  change_is_full may = way_is_full may.way

  -- from a label that a controls to what is removed with it, and on to what is linked with that
  near_controlled :
      (controlled reached near : ℕ) → test a Control controlled ≡ true
      → (controlled ≡ reached) ⊎ ((kind : Kind) × (IsHolding kind) × (test controlled kind reached ≡ true))
      → IsNear test reached near → IsNear test near l → IsCut test a l
  near_controlled controlled reached near control edge one two = record {
    base = controlled;
    based = record { controlled = controlled; control = inr control; derive = inl refl };
    reached = reached;
    edge = edge;
    near = near;
    one = one;
    two = two;
  }

  -- from what a has a capability to, to what is linked with it and with that
  near_used :
      (kind : Kind) (reached near : ℕ) → IsHolding kind → test a kind reached ≡ true
      → IsNear test reached near → IsNear test near l → IsCut test a l
  near_used kind reached near holding uses one two = record {
    base = a;
    based = record { controlled = a; control = inl refl; derive = inl refl };
    reached = reached;
    edge = inr (kind, holding, uses);
    near = near;
    one = one;
    two = two;
  }

  removes_cut : (controlled : ℕ) (kind : Kind) → is_removed kind ≡ true → test a Control controlled ≡ true → test controlled kind l ≡ true → IsCut test a l
  removes_cut controlled Derive is control there = record {
    base = l;
    based = record { controlled = controlled; control = inr control; derive = inr there };
    reached = l;
    edge = inl refl;
    near = l;
    one = stays refl;
    two = stays refl;
  }
  removes_cut controlled Space is control there =
      near_controlled controlled l l control (inr (Space, inr refl, there)) (stays refl) (stays refl)
  removes_cut controlled Runs is control there =
      near_controlled controlled controlled l control (inl refl) (along Runs refl there) (stays refl)
  removes_cut controlled Reset is control there =
      near_controlled controlled l l control (inr (Reset, inl refl, there)) (stays refl) (stays refl)
  removes_cut controlled SchedControl is control there =
      near_controlled controlled l l control (inr (SchedControl, inl refl, there)) (stays refl) (stays refl)
  removes_cut controlled _ is control there = absurd (false≢true is)

  is_linked : (kind : Kind) → is_waiting kind ≡ true → is_link kind ≡ true
  is_linked Send is = refl
  is_linked Receive is = refl
  is_linked Await is = refl
  is_linked _ is = absurd (false≢true is)

  control_is_cut : TakesByControl test acts a l → IsCut test a l
  control_is_cut (removes controlled kind is control there) = removes_cut controlled kind is control there
  control_is_cut (releases caller control waits held) =
      near_controlled caller caller l control (inl refl) (against Holds refl held) (stays refl)
  control_is_cut (wakes controlled end kind is control reset there waits) =
      near_controlled controlled end l control (inr (Reset, inl refl, reset)) (against kind (is_linked kind is) there) (stays refl)
  control_is_cut (drops controlled endpoint receiver control reset received waits named) =
      near_controlled controlled endpoint receiver control (inr (Reset, inl refl, reset)) (against Receive refl received)
      (along Reply refl named)

  way_is_cut : WayToShrink test acts a l → IsCut test a l ⊎ IsFull test a l
  way_is_cut (unbinds uses) = inr (full_modifies Context refl uses)
  way_is_cut (stops context uses ran) = inl (near_used Context context l (inl refl) uses (against Runs refl ran) (stays refl))
  way_is_cut (halts halt) = inr (full_replies halt.reply halt.uses halt.held.holds)
  way_is_cut (ends reply receiver uses named waits received) =
      inl (near_used Reply reply receiver (inl refl) uses (against Reply refl named) (along Receive refl received))
  way_is_cut (frees endpoint receiver sent received waits named) = inr (full_links endpoint receiver sent received named)
  way_is_cut (controls taken) = inl (control_is_cut taken)

  pub shrink_is_cut : MayShrink test acts a l → IsCut test a l ⊎ IsFull test a l
  shrink_is_cut may = way_is_cut may.way

  control_needs : HasNone test a Control → ¬ TakesByControl test acts a l
  control_needs none (removes controlled kind is control there) = false≢true (sym (none controlled) ∙ control)
  control_needs none (releases caller control waits held) = false≢true (sym (none caller) ∙ control)
  control_needs none (wakes controlled end kind is control reset there waits) = false≢true (sym (none controlled) ∙ control)
  control_needs none (drops controlled endpoint receiver control reset received waits named) =
      false≢true (sym (none controlled) ∙ control)

  pub sends_at_most : HasNone test a Control → HasNone test a Context → HasNone test a Reply → MayShrink test acts a l → MaySendTo test a l
  sends_at_most controlled used answered may = by_way may.way where
    by_way : WayToShrink test acts a l → MaySendTo test a l
    by_way (unbinds uses) = absurd (false≢true (sym (used l) ∙ uses))
    by_way (stops context uses ran) = absurd (false≢true (sym (used context) ∙ uses))
    by_way (halts halt) = absurd (false≢true (sym (answered halt.reply) ∙ halt.uses))
    by_way (ends reply receiver uses named waits received) = absurd (false≢true (sym (answered reply) ∙ uses))
    by_way (frees endpoint receiver sent received waits named) =
        record { endpoint = endpoint; sends = sent; receiver = receiver; receives = received; names = named }
    by_way (controls taken) = absurd (control_needs controlled taken)

-- what may be done grows with the edges and with the labels that act
module _ (test other : EdgeTest) (acts more : ActorTest) (within : IsWithin test other) (also : (x : ℕ) → acts x ≡ true → more x ≡ true)
    (a l : ℕ) where
  borrow_grows : (b : ℕ) → MayBorrow test b → MayBorrow other b
  borrow_grows b may = record {
    idles = record {
      context = may.idles.context;
      runs = within b Runs may.idles.context may.idles.runs;
      owner = may.idles.owner;
      owns = within may.idles.owner Context may.idles.context may.idles.owns;
    };
    reply = may.reply;
    names = within b Reply may.reply may.names;
  }

  lend_grows : MayLend test acts a → MayLend other more a
  lend_grows may = record {
    endpoint = may.endpoint;
    calls = within a Call may.endpoint may.calls;
    receiver = may.receiver;
    receives = within may.receiver Receive may.endpoint may.receives;
    serves = also may.receiver may.serves;
    borrows = borrow_grows may.receiver may.borrows;
  }

  context_grows : MayChangeContext test acts a l → MayChangeContext other more a l
  context_grows (configures core uses governs) = configures core (within a Context l uses) (within a SchedControl core governs)
  context_grows (binds thread uses control) = binds thread (within a Context l uses) (within a Control thread control)
  context_grows (lends runs lent) = lends (within a Runs l runs) (lend_grows lent)
  context_grows (returns runs borrowed) = returns (within a Runs l runs) (borrow_grows a borrowed)

  answer_grows : MayAnswer test acts a l → MayAnswer other more a l
  answer_grows may = record {
    reply = may.reply;
    uses = within a Reply may.reply may.uses;
    called = record {
      holds = within may.reply Holds l may.called.holds;
      server = may.called.server;
      names = within may.called.server Reply may.reply may.called.names;
      serves = also may.called.server may.called.serves;
      endpoint = may.called.endpoint;
      receives = within may.called.server Receive may.called.endpoint may.called.receives;
      calls = within l Call may.called.endpoint may.called.calls;
      waits = also l may.called.waits;
    };
  }

  way_grows : WayToChange test acts a l → WayToChange other more a l
  way_grows (own same) = own same
  way_grows (modifies kind is there) = modifies kind is (within a kind l there)
  way_grows (shares context) = shares (context_grows context)
  way_grows (sends endpoint sent received waits) = sends endpoint (within a Send endpoint sent) (within l Receive endpoint received) (also l waits)
  way_grows (receives endpoint received sent waits) =
      receives endpoint (within a Receive endpoint received) (within l Send endpoint sent) (also l waits)
  way_grows (notifies notification notified awaited waits) =
      notifies notification (within a Notify notification notified) (within l Await notification awaited) (also l waits)
  way_grows (links endpoint receiver sent called received waits named) =
      links endpoint receiver (within a Send endpoint sent) (within a Call endpoint called) (within receiver Receive endpoint received) (also receiver waits)
      (within receiver Reply l named)
  way_grows (grants endpoint receiver granted received waits controlled) =
      grants endpoint receiver (within a Grant endpoint granted) (within receiver Receive endpoint received) (also receiver waits)
      (within receiver Control l controlled)
  way_grows (replies may) = replies (answer_grows may)

  pub change_grows : MayChange test acts a l → MayChange other more a l
  change_grows may = record { actor = also a may.actor; way = way_grows may.way }

  control_grows : TakesByControl test acts a l → TakesByControl other more a l
  control_grows (removes controlled kind is control there) = removes controlled kind is (within a Control controlled control) (within controlled kind l there)
  control_grows (releases caller control waits held) = releases caller (within a Control caller control) (also caller waits) (within l Holds caller held)
  control_grows (wakes controlled end kind is control reset there waits) =
      wakes controlled end kind is (within a Control controlled control) (within controlled Reset end reset) (within l kind end there) (also l waits)
  control_grows (drops controlled endpoint receiver control reset received waits named) =
      drops controlled endpoint receiver (within a Control controlled control) (within controlled Reset endpoint reset)
      (within receiver Receive endpoint received) (also receiver waits) (within receiver Reply l named)

  shrinks_grow : WayToShrink test acts a l → WayToShrink other more a l
  shrinks_grow (unbinds uses) = unbinds (within a Context l uses)
  shrinks_grow (stops context uses ran) = stops context (within a Context context uses) (within l Runs context ran)
  shrinks_grow (halts halt) = halts (record {
    reply = halt.reply;
    uses = within a Reply halt.reply halt.uses;
    held = record {
      holds = within halt.reply Holds l halt.held.holds;
      names = within l Reply halt.reply halt.held.names;
      waits = also l halt.held.waits;
    };
  })
  shrinks_grow (ends reply receiver uses named waits received) =
      ends reply receiver (within a Reply reply uses) (within receiver Reply reply named) (also receiver waits) (within receiver Receive l received)
  shrinks_grow (frees endpoint receiver sent received waits named) =
      frees endpoint receiver (within a Send endpoint sent) (within receiver Receive endpoint received) (also receiver waits) (within receiver Reply l named)
  shrinks_grow (controls taken) = controls (control_grows taken)

  pub shrink_grows : MayShrink test acts a l → MayShrink other more a l
  shrink_grows may = record { actor = also a may.actor; way = shrinks_grow may.way }
