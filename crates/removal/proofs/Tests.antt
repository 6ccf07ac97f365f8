-- Tests of which threads are reached: what one more object in a set adds to them.
use Rattle.std.{specs.Prelude.{None, Option, Some}, proofs.Common.{◌&&◌, ◌||◌, ◌∙◌, ◌≡◌, ◌≢◌, Bool, ap, false, refl, subst, sym, true}}
use Rattle.{std.proofs.lemmas.Bool.false≢true, base.specs.declared.ids.ObjId.ObjId}
use Rattle.machine.specs.declared.object.{Context.Context, Object.Object as o, ObjectKind.{ObjectKind, ObjectKind as kind}, Reply.Reply}
use Rattle.machine.specs.declared.thread.{RunState.{RunState, RunState as state}, Tcb.Tcb}
use Rattle.machine.specs.{Finalising.{is_aborted, is_halted, leads_nowhere}, Machine.{Machine, object_of, same_id}}
use Rattle.machine.specs.WellFormed.{IsThread, LinksAgree, WaitsAt, WaitsAtKind, kind_of}
use Rattle.machine.proofs.{HeldThreads.links_of, Ids.itself, Leaving.Names, LookUps.one_id, RemovalTable.one_thread}

-- one object alone, and a set with one more
abbrev pub alone : ObjId → ObjId → Bool
alone x id = same_id id x

abbrev pub plus : (ObjId → Bool) → ObjId → ObjId → Bool
plus done x id = done id || same_id id x

pub refuted : (b : Bool) → (b ≡ true → ⊥) → b ≡ false
refuted true never = absurd (never refl)
refuted false never = refl

pub neither : (a b : Bool) → (a || b) ≡ false → (a ≡ false) × (b ≡ false)
neither true b e = absurd (false≢true (sym e))
neither false b e = (refl, e)

pub or_false : (b : Bool) → (b || false) ≡ b
or_false true = refl
or_false false = refl

pub and_false : (b : Bool) → (b && false) ≡ false
and_false true = refl
and_false false = refl

module _ (done : ObjId → Bool) (x : ObjId) where
  pub both_links : (link : Option ObjId) → leads_nowhere (plus done x) link ≡ (leads_nowhere done link || leads_nowhere (alone x) link)
  both_links None = refl
  both_links (Some id) = refl

  pub both_halted : (run : RunState) → is_halted (plus done x) run ≡ (is_halted done run || is_halted (alone x) run)
  both_halted (state.Receiving receiving) = both_links receiving.reply
  both_halted (state.Called calling) = refl
  both_halted _ = refl

  pub both_aborted : (run : RunState) → is_aborted (plus done x) run ≡ (is_aborted done run || is_aborted (alone x) run)
  both_aborted (state.Sending sending) = refl
  both_aborted (state.Receiving receiving) = refl
  both_aborted (state.Waiting notification) = refl
  both_aborted _ = refl

module _ (x : ObjId) where
  pub link_is : (link : Option ObjId) → leads_nowhere (alone x) link ≡ true → link ≡ Some x
  link_is None e = absurd (false≢true e)
  link_is (Some id) e = ap (λ i. Some i) (one_id id x e)

  pub is_link : (link : Option ObjId) → link ≡ Some x → leads_nowhere (alone x) link ≡ true
  is_link link e = ap (leads_nowhere (alone x)) e ∙ itself x

  pub names_it : (run : RunState) → is_halted (alone x) run ≡ true → Names run x
  names_it (state.Receiving receiving) e = link_is receiving.reply e
  names_it (state.Called calling) e = one_id calling.reply x e
  names_it _ e = absurd (false≢true e)

  pub it_is_named : (run : RunState) → Names run x → is_halted (alone x) run ≡ true
  it_is_named (state.Receiving receiving) e = is_link receiving.reply e
  it_is_named (state.Called calling) e = ap (λ (c : ObjId). same_id c x) e ∙ itself x
  it_is_named _ e = absurd e

  pub waits_there : (run : RunState) → is_aborted (alone x) run ≡ true → WaitsAt run x
  waits_there (state.Sending sending) e = one_id sending.endpoint x e
  waits_there (state.Receiving receiving) e = one_id receiving.endpoint x e
  waits_there (state.Waiting notification) e = one_id notification x e
  waits_there _ e = absurd (false≢true e)

-- one of a set where a thread waits
pub waits_in : (done : ObjId → Bool) (run : RunState) → is_aborted done run ≡ true → (id : ObjId) × WaitsAt run id × (done id ≡ true)
waits_in done (state.Sending sending) e = (sending.endpoint, refl, e)
waits_in done (state.Receiving receiving) e = (receiving.endpoint, refl, e)
waits_in done (state.Waiting notification) e = (notification, refl, e)
waits_in done _ e = absurd (false≢true e)

-- nobody waits at an object that is neither an endpoint nor a notification
pub nobody_waits : (at : ObjectKind) → at ≢ kind.Endpoint → at ≢ kind.Notification → (run : RunState) → ¬ (WaitsAtKind run at)
nobody_waits kind.Endpoint not_endpoint not_notification run h = not_endpoint refl
nobody_waits kind.Notification not_endpoint not_notification run h = not_notification refl
nobody_waits _ not_endpoint not_notification (state.Sending sending) h = h
nobody_waits _ not_endpoint not_notification (state.Receiving receiving) h = h
nobody_waits _ not_endpoint not_notification (state.Waiting notification) h = h
nobody_waits _ not_endpoint not_notification _ h = h

-- links lead to objects of the kinds that go with them
module _ (m : Machine) (links : LinksAgree m) (thread : ObjId) (tcb : Tcb) (there : IsThread m thread tcb) where
  pub waited_kind : (id : ObjId) → WaitsAt tcb.state id → (at : ObjectKind) × (kind_of m id ≡ Some at) × WaitsAtKind tcb.state at
  waited_kind id waits =
      let w = links.waiting thread id tcb there waits in
      let is = links.queued id w.0 thread w.1 w.2 in (
        is.1,
        is.4,
        subst (λ (t : Tcb). WaitsAtKind t.state is.1) (one_thread m thread is.0 tcb is.2 there) is.5,
      )

  module _ (x : ObjId) where
    pub no_reply : ((holding : Reply) → object_of m x ≢ Some (o.Reply holding)) → is_halted (alone x) tcb.state ≡ false
    no_reply other =
        refuted (is_halted (alone x) tcb.state)
        (λ e. let w = (links_of m links thread tcb there).named x (names_it x tcb.state e) in other w.0 w.1)

    pub no_queue : ((run : RunState) (at : ObjectKind) → kind_of m x ≡ Some at → ¬ (WaitsAtKind run at)) → is_aborted (alone x) tcb.state ≡ false
    no_queue other =
        refuted (is_aborted (alone x) tcb.state)
        (λ e. let w = waited_kind x (waits_there x tcb.state e) in other tcb.state w.0 w.1 w.2)

    pub no_context : ((context : Context) → object_of m x ≢ Some (o.Context context)) → leads_nowhere (alone x) tcb.context ≡ false
    no_context other =
        refuted (leads_nowhere (alone x) tcb.context)
        (λ e. let w = links.thread_context thread x tcb there (link_is x tcb.context e) in other w.0 w.1)
