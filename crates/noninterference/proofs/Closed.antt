-- A set of labels to which nothing flows from without but through filters: a thread that waits at an object on which a label of the set
-- depends is of the set or of a filter, or the object is a filter's.
use Rattle.std.proofs.{Common.{ℕ, ◌∙◌, ◌≡◌, ◌⊎◌, Bool, Some, ap, false, inl, inr, refl, subst, sym, true}, lemmas.Bool.false≢true}
use Rattle.{std.proofs.lemmas.Option.same_Some, base.specs.declared.{ids.ObjId.ObjId, kind.Kind.{Kind, Kind as authority}}}
use Rattle.machine.specs.declared.{object.Object.Object as o, thread.{RunState.{RunState, RunState as state}, Tcb.Tcb}}
use Rattle.machine.specs.{Authority.{label_of, links, state_links}, Layout.Layout, Machine.{Machine, same_id}}
use Rattle.machine.{specs.WellFormed.{IsSending, IsThread, WaitsAt}, proofs.Ids.itself}
use Rattle.policy.specs.{Change.{ActorTest, WayToChange.{modifies, own}, is_changing}, Domain.EdgeTest}
use Rattle.integrity.{specs.{Acting.HoldsOfActors, Invariant.IsSound, Shrinks.{IsBlocked, IsSame}}, proofs.Asleep.blocked_acts}
use Rattle.integrity.proofs.{Awake.has_threads, Keeps.some_event, MessageParts.thread_edge, Runs.IsKept, Shrinking.same_tcb}
use Rattle.flows.specs.{Flowing.{DependsOn, FilterTest, FlowsBy}, Seeing.{WayToSee, WayToSee.{awaits, receives, sends}}}
use Rattle.noninterference.specs.Alike.{IsAlikeAt, IsAlikeTo, WaitAlike}
use Rattle.noninterference.{specs.Sets.{AreAlikeTo, FiltersShowAlike, IsClosedBeside, SetTest}, proofs.Both.limits}

-- the authority by which a run state waits at an object: a label that has it may change the object, and sees it
record IsWaitKind (run : RunState) (id : ObjId) : Type 0 where
  kind : Kind
  changing : is_changing kind ≡ true
  linked : (tcb : Tcb) → tcb.state ≡ run → links (o.Tcb tcb) kind id ≡ true
  sees : (allowed : EdgeTest) (acts : ActorTest) (a l : ℕ) → allowed a kind l ≡ true → WayToSee allowed acts a l

wait_kind : (run : RunState) (id : ObjId) → WaitsAt run id → IsWaitKind run id
wait_kind (state.Sending sending) id at = record {
  kind = authority.Send;
  changing = refl;
  linked = λ tcb is. ap (λ r. state_links r authority.Send id) is ∙ ap (λ (x : ObjId). same_id x id) at ∙ itself id;
  sees = λ allowed acts a l edge. sends edge;
}
wait_kind (state.Receiving receiving) id at = record {
  kind = authority.Receive;
  changing = refl;
  linked = λ tcb is. ap (λ r. state_links r authority.Receive id) is ∙ ap (λ (x : ObjId). same_id x id) at ∙ itself id;
  sees = λ allowed acts a l edge. receives edge;
}
wait_kind (state.Waiting notification) id at = record {
  kind = authority.Await;
  changing = refl;
  linked = λ tcb is. ap (λ r. state_links r authority.Await id) is ∙ ap (λ (x : ObjId). same_id x id) at ∙ itself id;
  sees = λ allowed acts a l edge. awaits edge;
}
wait_kind _ id at = absurd at

waits_blocked : (run : RunState) (id : ObjId) → WaitsAt run id → IsBlocked run
waits_blocked (state.Sending sending) id at = tt
waits_blocked (state.Receiving receiving) id at = tt
waits_blocked (state.Waiting notification) id at = tt
waits_blocked _ id at = absurd at

module _
    (t : Layout) (allowed : EdgeTest) (acts : ActorTest) (m n : Machine) (one : IsSound t allowed m) (kept : IsKept t allowed m)
    (actors : HoldsOfActors t allowed acts) (filters : FilterTest) (inside : SetTest)
    (closed : IsClosedBeside (limits allowed acts) filters inside) (alike : AreAlikeTo t (limits allowed acts) inside m n)
    (shows : FiltersShowAlike t (limits allowed acts) filters inside m n) where
  -- a thread that waits

  module _ (thread id : ObjId) (tcb : Tcb) (there : IsThread m thread tcb) (at : WaitsAt tcb.state id) (b e : ℕ)
      (labelled : label_of t m thread ≡ Some b) (target : label_of t m id ≡ Some e) where
    acting : acts b ≡ true
    acting =
        actors b (blocked_acts t allowed m thread tcb kept.others there (waits_blocked tcb.state id at) b labelled)
        (has_threads t m one.of_table thread tcb there b labelled)

    abbrev by_kind : IsWaitKind tcb.state id
    by_kind = wait_kind tcb.state id at

    edge : allowed b by_kind.kind e ≡ true
    edge = thread_edge t allowed m (some_event thread) b m one thread id tcb by_kind.kind b e there (by_kind.linked tcb refl) labelled target

    -- its label flows to each label that depends on that object
    waiter_flows : (y : ℕ) → DependsOn (limits allowed acts) y e → FlowsBy (limits allowed acts) b e y
    waiter_flows y depends =
        record { affects = inl (record { actor = acting; way = modifies by_kind.kind by_kind.changing edge }); depends = depends }

    -- its label sees the object
    waiter_sees : DependsOn (limits allowed acts) b e
    waiter_sees = inr (record { actor = acting; way = by_kind.sees allowed acts b e edge })

  -- the machines are alike to each label of the set that acts

  module _ (a : ℕ) (within : inside a ≡ true) (actor : acts a ≡ true) where
    -- a thread waits in both at an object to which the label may send
    module _ (id thread : ObjId) (before after : Tcb) (l : ℕ) (labelled : label_of t m id ≡ Some l) (may : allowed a authority.Send l ≡ true)
        (there : IsThread m thread before) (here : IsThread n thread after) (at : WaitsAt before.state id) (again : WaitsAt after.state id) where
      waiter : (b : ℕ) × (label_of t m thread ≡ Some b)
      waiter = one.of_table.labelled thread (o.Tcb before) there

      -- it waits alike if it is of the set
      ours_waits : inside waiter.0 ≡ true → WaitAlike before after
      ours_waits ours =
          let same = alike thread waiter.0 waiter.0 waiter.1 ours (inl refl) in
          let is : after ≡ before =
          same_tcb after before (same_Some (o.Tcb after) (o.Tcb before) (sym here ∙ same.content ∙ there)) in (
            λ so. subst (λ (x : Tcb). IsSending x.state) (sym is) so,
            λ so. subst (λ (x : Tcb). IsSending x.state) is so,
          )

      -- it waits alike if it or the object is a filter's
      shown : (filters l ≡ true) ⊎ (filters waiter.0 ≡ true) → WaitAlike before after
      shown filtered = shows.ways id thread before after l waiter.0 a labelled waiter.1 filtered within may there here at again

      waits_alike : WaitAlike before after
      waits_alike = by_object (filters l) refl where
        by_waiter : (inside waiter.0 ≡ true) ⊎ (filters waiter.0 ≡ true) → WaitAlike before after
        by_waiter (inl ours) = ours_waits ours
        by_waiter (inr filtered) = shown (inr filtered)

        by_object : (test : Bool) → filters l ≡ test → WaitAlike before after
        by_object true filtered = shown (inl filtered)
        by_object false beside =
            by_waiter
            (closed waiter.0 a within
            (record {
              object = l;
              flows = waiter_flows thread id before there at waiter.0 l waiter.1 labelled a (inr (record { actor = actor; way = sends may }));
              beside = beside;
            }))

    pub alike_to : IsAlikeTo t (limits allowed acts) a m n
    alike_to = record {
      seen = λ id l labelled depends. alike id l a labelled within depends;
      meets = λ id thread before after l labelled may there here at again.
          waits_alike id thread before after l labelled may there here at again;
    }

  -- an object on which a label of the set depends is alike in both, unless it is a filter's
  pub alike_at :
      (id : ObjId) (l y : ℕ) → label_of t m id ≡ Some l → filters l ≡ false → inside y ≡ true → DependsOn (limits allowed acts) y l
      → IsAlikeAt m n id
  alike_at id l y labelled beside within depends = record {
    same = alike id l y labelled within depends;
    waits = λ thread end there at.
        let queue = one.well_formed.links.waiting id end thread there at in
        let object = one.well_formed.parts.queue_of_object end queue.0 queue.1 in
        let e = one.of_table.labelled end object.0 object.1 in
        let actor = acting id end thread there at l e.0 labelled e.1 in
        by_set
        (closed l y within
        (record { object = l; flows = record { affects = inl (record { actor = actor; way = own refl }); depends = depends }; beside = beside }))
        end e.0 e.1 (waiter_sees id end thread there at l e.0 labelled e.1);
  } where
    by_set :
        (inside l ≡ true) ⊎ (filters l ≡ true) → (end : ObjId) (e : ℕ) → label_of t m end ≡ Some e → DependsOn (limits allowed acts) l e
        → IsSame m n end
    by_set (inl ours) end e target sees = alike end e l target ours sees
    by_set (inr filtered) end e target sees = absurd (false≢true (sym beside ∙ filtered))
