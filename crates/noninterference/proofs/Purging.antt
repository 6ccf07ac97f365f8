-- Two runs of a fixed system that differ only in events of threads outside a set of labels: they stay alike to the labels of the set if
-- nothing flows to these but through filters, and what filters show is alike.
use Rattle.std.proofs.Common.{[], ℕ, ◌∙◌, ◌∷◌, ◌≡◌, ◌⊎◌, Bool, List, None, Option, Some, ap, false, inl, inr, refl, subst, sym, true}
use Rattle.{std.proofs.lemmas.{Bool.false≢true, Option.{none-some, same_Some}}, base.specs.declared.ids.ObjId.ObjId}
use Rattle.machine.specs.declared.{call.{Event.Event, Outcome.Outcome}, object.Object.Object as o, thread.Tcb.Tcb}
use Rattle.machine.specs.{Authority.label_of, Boot.IsBoot, Layout.Layout, Machine.Machine, Outcomes.IsRefused, Run.Run, Step.Step}
use Rattle.{machine.specs.WellFormed.{IsSending, IsWellFormed}, steps.proofs.Steps.refused_changes_nothing}
use Rattle.{table.specs.Rules.IsLawful, policy.specs.{Change.ActorTest, Domain.EdgeTest}}
use Rattle.integrity.specs.{Acting.{HoldsOfActors, MayAct}, Keeping.IsSharp, Safe.{IsReached, IsSafe}, Shrinks.IsSame}
use Rattle.integrity.proofs.{Aparts.never_changes, Runs.safe_from, Shrinking.same_tcb, Starting.starts_kept}
use Rattle.{reach.specs.Reach.HasBootAuthority, flows.specs.Flowing.{DependsOn, FilterTest, IsClosedOff, MayAffect}}
use Rattle.noninterference.specs.{Alike.KeepsAlike, Fixed.IsFixed, Sets.{AreAlikeTo, AreBeside, DifferBeside, EndAlike, FiltersShowAlike}}
use Rattle.noninterference.specs.Sets.{FlowsOnlyWithin, IsClosedBeside, IsOfFilter, IsOfSet, IsPosition, RunsBeside, SetTest}
use Rattle.noninterference.proofs.{Both.limits, Carries.same_around, Closed.{alike_at, alike_to}, Kept.{kept_of, sound_of}}
use Rattle.noninterference.proofs.{Looking.looks_alike, Reaching.{boot_reached, labels_alike, reached_next}}

same_itself : (m : Machine) (id : ObjId) → IsSame m m id
same_itself m id = record { content = refl; queue = refl; words = refl; slots = λ index. refl }

module _
    (t : Layout) (allowed : EdgeTest) (acts : ActorTest) (lawful : IsLawful t) (fixed : IsFixed t) (sharp : IsSharp t allowed)
    (boots : HasBootAuthority t allowed) (actors : HoldsOfActors t allowed acts)
    (formed : (boot : Machine) → IsLawful t → IsBoot t boot → IsWellFormed boot) (filters : FilterTest) (inside : SetTest)
    (closed : IsClosedBeside (limits allowed acts) filters inside) where
  abbrev Alike : Machine → Machine → Type 0
  Alike m n = AreAlikeTo t (limits allowed acts) inside m n

  abbrev Shows : Machine → Machine → Type 0
  Shows m n = FiltersShowAlike t (limits allowed acts) filters inside m n

  label_before :
      (m next : Machine) (event : Event) (outcome : Outcome) → IsReached t m → Step m event outcome next → (id : ObjId)
      → label_of t m id ≡ label_of t next id
  label_before m next event outcome reached step id =
      labels_alike t lawful fixed formed next m (reached_next t m next event outcome reached step) reached id

  -- both machines have the same event of a thread of the set
  pub same_step :
      (m n next after : Machine) (event : Event) (outcome other : Outcome) (a : ℕ) → IsReached t m → IsReached t n
      → label_of t m event.thread ≡ Some a → inside a ≡ true → Alike m n → Shows m n → Shows next after → Step m event outcome next
      → Step n event other after → (other ≡ outcome) × Alike next after
  same_step m n next after event outcome other a one two mine within alike shows shown step again = (ends.0, kept) where
    ends : (other ≡ outcome) × KeepsAlike m n next after
    ends =
        looks_alike t allowed acts lawful fixed sharp boots actors formed a m n event one two mine
        (λ actor.
        alike_to t allowed acts m n (sound_of t allowed lawful sharp boots formed m one)
        (kept_of t allowed lawful sharp boots formed m one) actors filters inside closed alike shows a within actor)
        (alike event.thread a a mine within (inl refl)) outcome other next after step again

    by_object :
        (id : ObjId) (l y : ℕ) → label_of t next id ≡ Some l → inside y ≡ true → DependsOn (limits allowed acts) y l → (test : Bool)
        → filters l ≡ test → IsSame next after id
    by_object id l y labelled ours depends true filtered = shown.objects id l y labelled filtered ours depends
    by_object id l y labelled ours depends false beside =
        ends.1 id
        (alike_at t allowed acts m n (sound_of t allowed lawful sharp boots formed m one)
        (kept_of t allowed lawful sharp boots formed m one) actors filters inside closed alike shows id l y
        (label_before m next event outcome one step id ∙ labelled) beside ours depends)

    kept : Alike next after
    kept id l y labelled ours depends = by_object id l y labelled ours depends (filters l) refl

  -- a thread of no label of the set, and of no filter
  abbrev IsElse : Machine → ObjId → Type 0
  IsElse m thread = (a : ℕ) → label_of t m thread ≡ Some a → (inside a ≡ false) × (filters a ≡ false)

  -- its event leaves what the set depends on, except objects of filters
  other_step :
      (m next : Machine) (event : Event) (outcome : Outcome) → IsReached t m → IsElse m event.thread → Step m event outcome next
      → (id : ObjId) (l y : ℕ) → label_of t m id ≡ Some l → filters l ≡ false → inside y ≡ true → DependsOn (limits allowed acts) y l
      → IsSame m next id
  other_step m next event outcome reached apart step id l y labelled beside within depends =
      by_acting (safe.acting m next event outcome reached step)
    where
      safe : IsSafe t allowed
      safe = safe_from t allowed sharp (starts_kept t allowed formed lawful boots)

      by_closed : (b : ℕ) → (inside b ≡ false) × (filters b ≡ false) → (inside b ≡ true) ⊎ (filters b ≡ true) → ⊥
      by_closed b without (inl ours) = false≢true (sym without.0 ∙ ours)
      by_closed b without (inr filtered) = false≢true (sym without.1 ∙ filtered)

      never : (b : ℕ) → (inside b ≡ false) × (filters b ≡ false) → MayAffect (limits allowed acts) b l → ⊥
      never b without affects =
          by_closed b without
          (closed b y within (record { object = l; flows = record { affects = affects; depends = depends }; beside = beside }))

      by_acting :
          IsRefused outcome ⊎ ((b : ℕ) × (label_of t m event.thread ≡ Some b) × MayAct t allowed b) → IsSame m next id
      by_acting (inl refused) =
          subst (λ (x : Machine). IsSame m x id) (sym (refused_changes_nothing m event outcome next step refused)) (same_itself m id)
      by_acting (inr b) =
          let without = apart b.0 b.1 in
          never_changes t allowed acts actors b.0 l safe.narrow (λ change. never b.0 without (inl change))
          (λ shrink. never b.0 without (inr shrink)) m next event outcome reached step b.1 id (inl labelled)

  -- two events of such threads
  both_others :
      (m n next after : Machine) (first again : Event) (outcome other : Outcome) → IsReached t m → IsReached t n → IsElse m first.thread
      → IsElse n again.thread → Alike m n → Shows next after → Step m first outcome next → Step n again other after → Alike next after
  both_others m n next after first again outcome other one two apart differs alike shown step more id l y labelled within depends =
      by_object (filters l) refl
    where
      was : label_of t m id ≡ Some l
      was = label_before m next first outcome one step id ∙ labelled

      by_object : (test : Bool) → filters l ≡ test → IsSame next after id
      by_object true filtered = shown.objects id l y labelled filtered within depends
      by_object false beside =
          same_around m n next after id (other_step m next first outcome one apart step id l y was beside within depends)
          (other_step n after again other two differs more id l y (labels_alike t lawful fixed formed m n one two id ∙ was) beside within
          depends)
          (alike id l y was within depends)

  module _ (boot : Machine) (booted : IsBoot t boot) where
    abbrev IsOurs : ObjId → Type 0
    IsOurs thread = IsOfSet t boot inside thread

    abbrev IsFilters : ObjId → Type 0
    IsFilters thread = IsOfFilter t boot filters inside thread

    at_boot : (m : Machine) → IsReached t m → (id : ObjId) → label_of t m id ≡ label_of t boot id
    at_boot m reached id = labels_alike t lawful fixed formed boot m (boot_reached t boot booted) reached id

    -- a thread is of the set, of a filter, or of neither
    whose : (m : Machine) → IsReached t m → (thread : ObjId) → IsOurs thread ⊎ (IsFilters thread ⊎ IsElse m thread)
    whose m reached thread = by_label (label_of t m thread) refl where
      by_tests :
          (a : ℕ) → label_of t m thread ≡ Some a → (within filtered : Bool) → inside a ≡ within → filters a ≡ filtered
          → IsOurs thread ⊎ (IsFilters thread ⊎ IsElse m thread)
      by_tests a mine true filtered is so = inl (a, sym (at_boot m reached thread) ∙ mine, is)
      by_tests a mine false true is so = inr (inl (a, sym (at_boot m reached thread) ∙ mine, is, so))
      by_tests a mine false false is so =
          inr (inr (λ b at. let same : b ≡ a = same_Some b a (sym at ∙ mine) in (ap inside same ∙ is, ap filters same ∙ so)))

      by_label : (label : Option ℕ) → label_of t m thread ≡ label → IsOurs thread ⊎ (IsFilters thread ⊎ IsElse m thread)
      by_label (Some a) mine = by_tests a mine (inside a) (filters a) refl refl
      by_label None none = inr (inr (λ b at. absurd (none-some b (sym none ∙ at))))

    -- one event in each run
    module _
        (m n next after : Machine) (event again : Event) (outcome other : Outcome) (one : IsReached t m) (two : IsReached t n)
        (alike : Alike m n) (shows : Shows m n) (step : Step m event outcome next) (more : Step n again other after)
        (position : IsPosition t boot (limits allowed acts) filters inside event again next after) where
      -- both of threads outside the set
      outside : (IsOurs event.thread → ⊥) → (IsOurs again.thread → ⊥) → Alike next after
      outside apart differs = by_whose (whose m one event.thread) (whose n two again.thread) where
        by_whose :
            IsOurs event.thread ⊎ (IsFilters event.thread ⊎ IsElse m event.thread)
            → IsOurs again.thread ⊎ (IsFilters again.thread ⊎ IsElse n again.thread) → Alike next after
        by_whose (inl ours) also = absurd (apart ours)
        by_whose (inr whose) (inl ours) = absurd (differs ours)
        by_whose (inr (inl filtered)) (inr whose) = position.filtered (inl filtered)
        by_whose (inr (inr else)) (inr (inl filtered)) = position.filtered (inr filtered)
        by_whose (inr (inr else)) (inr (inr also)) =
            both_others m n next after event again outcome other one two else also alike position.shows step more

      same_event : again ≡ event → (IsOurs event.thread → other ≡ outcome) × Alike next after
      same_event same = by_whose (whose m one event.thread) where
        none : IsFilters event.thread ⊎ IsElse m event.thread → IsOurs event.thread → ⊥
        none (inl filtered) ours =
            let label : ours.0 ≡ filtered.0 = same_Some ours.0 filtered.0 (sym ours.1 ∙ filtered.1) in
            false≢true (sym filtered.2 ∙ ap inside (sym label) ∙ ours.2)
        none (inr else) ours = false≢true (sym (else ours.0 (at_boot m one event.thread ∙ ours.1)).0 ∙ ours.2)

        by_whose :
            IsOurs event.thread ⊎ (IsFilters event.thread ⊎ IsElse m event.thread)
            → (IsOurs event.thread → other ≡ outcome) × Alike next after
        by_whose (inl ours) =
            let ends =
            same_step m n next after event outcome other ours.0 one two (at_boot m one event.thread ∙ ours.1) ours.2 alike shows
            position.shows step (subst (λ (e : Event). Step n e other after) same more) in
            (λ mine. ends.0, ends.1)
        by_whose (inr whose) = (
          λ ours. absurd (none whose ours),
          outside (none whose) (λ ours. none whose (subst (λ (e : Event). IsOurs e.thread) same ours)),
        )

      position_alike : (IsOurs event.thread → other ≡ outcome) × Alike next after
      position_alike = by_beside position.beside where
        by_beside : AreBeside IsOurs event again → (IsOurs event.thread → other ≡ outcome) × Alike next after
        by_beside (inl same) = same_event same
        by_beside (inr apart) = (λ ours. absurd (apart.0 ours), outside apart.0 apart.1)

    pub runs_alike :
        (m n last end : Machine) (events others : List Event) (outcomes ends : List Outcome) → IsReached t m → IsReached t n → Alike m n
        → Shows m n → RunsBeside t boot (limits allowed acts) filters inside m n events outcomes others ends last end
        → EndAlike IsOurs events outcomes ends × Alike last end
    runs_alike m n last end [] [] [] [] one two alike shows runs =
        (tt, subst (λ (x : Machine). Alike x end) runs.0 (subst (λ (x : Machine). Alike m x) runs.1 alike))
    runs_alike m n last end [] [] [] (other ∷ ends) one two alike shows runs = absurd runs
    runs_alike m n last end [] (event ∷ others) [] ends one two alike shows runs = absurd runs
    runs_alike m n last end [] others (outcome ∷ outcomes) ends one two alike shows runs = absurd runs
    runs_alike m n last end (event ∷ events) others [] ends one two alike shows runs = absurd runs
    runs_alike m n last end (event ∷ events) [] (outcome ∷ outcomes) ends one two alike shows runs = absurd runs
    runs_alike m n last end (event ∷ events) (more ∷ others) (outcome ∷ outcomes) [] one two alike shows runs = absurd runs
    runs_alike m n last end (event ∷ events) (more ∷ others) (outcome ∷ outcomes) (other ∷ ends) one two alike shows runs =
        let here = position_alike m n runs.0 runs.1 event more outcome other one two alike shows runs.2 runs.3 runs.4 in
        let rest =
        runs_alike runs.0 runs.1 last end events others outcomes ends (reached_next t m runs.0 event outcome one runs.2)
        (reached_next t n runs.1 more other two runs.3) here.1 runs.4.shows runs.5 in
        ((here.0, rest.0), rest.1)

    -- from the boot state on
    pub boot_alike : Alike boot boot
    boot_alike id l y labelled within depends = same_itself boot id

    pub boot_shows : Shows boot boot
    boot_shows = record {
      objects = λ id l y labelled filtered within depends. same_itself boot id;
      ways = λ id thread one other l b y labelled waiter filtered within may there here at again.
          let is : other ≡ one = same_tcb other one (same_Some (o.Tcb other) (o.Tcb one) (sym here ∙ there)) in (
            λ so. subst (λ (x : Tcb). IsSending x.state) (sym is) so,
            λ so. subst (λ (x : Tcb). IsSending x.state) is so,
          );
    }

    pub filtered_runs_alike :
        (last end : Machine) (events others : List Event) (outcomes ends : List Outcome)
        → RunsBeside t boot (limits allowed acts) filters inside boot boot events outcomes others ends last end
        → EndAlike IsOurs events outcomes ends × Alike last end
    filtered_runs_alike last end events others outcomes ends =
        runs_alike boot boot last end events others outcomes ends (boot_reached t boot booted) (boot_reached t boot booted) boot_alike boot_shows

-- without filters

abbrev no_filters : FilterTest
no_filters label = false

closed_beside_none :
    (allowed : EdgeTest) (acts : ActorTest) (inside : SetTest) → FlowsOnlyWithin (limits allowed acts) inside
    → IsClosedBeside (limits allowed acts) no_filters inside
closed_beside_none allowed acts inside closed x y within flows = inl (closed x y within (flows.object, flows.flows))

none_show :
    (t : Layout) (allowed : EdgeTest) (acts : ActorTest) (inside : SetTest) (m n : Machine)
    → FiltersShowAlike t (limits allowed acts) no_filters inside m n
none_show t allowed acts inside m n = record {
  objects = λ id l y labelled filtered. absurd (false≢true filtered);
  ways = λ id thread one other l b y labelled waiter filtered.
      absurd (elim filtered [ inl is ↦ false≢true is | inr is ↦ false≢true is ]);
}

plain_runs :
    (t : Layout) (boot : Machine) (allowed : EdgeTest) (acts : ActorTest) (inside : SetTest) (m n last end : Machine)
    (events others : List Event) (outcomes ends : List Outcome) → DifferBeside (IsOfSet t boot inside) events others
    → Run m events outcomes last → Run n others ends end
    → RunsBeside t boot (limits allowed acts) no_filters inside m n events outcomes others ends last end
plain_runs t boot allowed acts inside m n last end [] [] [] [] differ ran also = (ran, also)
plain_runs t boot allowed acts inside m n last end [] [] [] (other ∷ ends) differ ran also = absurd also
plain_runs t boot allowed acts inside m n last end [] [] (outcome ∷ outcomes) ends differ ran also = absurd ran
plain_runs t boot allowed acts inside m n last end [] (event ∷ others) outcomes ends differ ran also = absurd differ
plain_runs t boot allowed acts inside m n last end (event ∷ events) [] outcomes ends differ ran also = absurd differ
plain_runs t boot allowed acts inside m n last end (event ∷ events) (more ∷ others) [] ends differ ran also = absurd ran
plain_runs t boot allowed acts inside m n last end (event ∷ events) (more ∷ others) (outcome ∷ outcomes) [] differ ran also = absurd also
plain_runs t boot allowed acts inside m n last end (event ∷ events) (more ∷ others) (outcome ∷ outcomes) (other ∷ ends) differ ran also = (
  ran.0,
  also.0,
  ran.1,
  also.1,
  record {
    beside = differ.0;
    shows = none_show t allowed acts inside ran.0 also.0;
    filtered = λ whose. absurd (elim whose [ inl is ↦ false≢true is.3 | inr is ↦ false≢true is.3 ]);
  },
  plain_runs t boot allowed acts inside ran.0 also.0 last end events others outcomes ends differ.1 ran.2 also.2,
)

pub closed_off_beside :
    (allowed : EdgeTest) (acts : ActorTest) (filters : FilterTest) (from to : ℕ) (off : IsClosedOff (limits allowed acts) filters from to)
    → IsClosedBeside (limits allowed acts) filters off.inside
closed_off_beside allowed acts filters from to off x y within flows = by_tests (off.inside x) (filters x) refl refl where
  by_tests :
      (ours filtered : Bool) → off.inside x ≡ ours → filters x ≡ filtered → (off.inside x ≡ true) ⊎ (filters x ≡ true)
  by_tests true filtered is so = inl is
  by_tests false true is so = inr so
  by_tests false false is so = absurd (off.closed x y is (inr so) within flows)

-- nothing flows to it from without if there are no filters
pub closed_off_set :
    (allowed : EdgeTest) (acts : ActorTest) (filters : FilterTest) (from to : ℕ) (off : IsClosedOff (limits allowed acts) filters from to)
    → ((label : ℕ) → filters label ≡ false) → FlowsOnlyWithin (limits allowed acts) off.inside
closed_off_set allowed acts filters from to off none x y within flows =
    by_set
    (closed_off_beside allowed acts filters from to off x y within
    (record { object = flows.0; flows = flows.1; beside = none flows.0 }))
  where
    by_set : (off.inside x ≡ true) ⊎ (filters x ≡ true) → off.inside x ≡ true
    by_set (inl ours) = ours
    by_set (inr filtered) = absurd (false≢true (sym (none x) ∙ filtered))

-- events of others make no difference to a closed set
pub no_difference :
    (t : Layout) (allowed : EdgeTest) (acts : ActorTest) (inside : SetTest) (boot m n : Machine) (events others : List Event)
    (outcomes ends : List Outcome)
    → ((boot : Machine) → IsLawful t → IsBoot t boot → IsWellFormed boot) → IsLawful t → IsFixed t → IsSharp t allowed
    → HasBootAuthority t allowed → HoldsOfActors t allowed acts → FlowsOnlyWithin (limits allowed acts) inside → IsBoot t boot
    → DifferBeside (IsOfSet t boot inside) events others → Run boot events outcomes m → Run boot others ends n
    → EndAlike (IsOfSet t boot inside) events outcomes ends × AreAlikeTo t (limits allowed acts) inside m n
no_difference t allowed acts inside boot m n events others outcomes ends formed lawful fixed sharp boots actors closed booted differ ran also =
    filtered_runs_alike t allowed acts lawful fixed sharp boots actors formed no_filters inside (closed_beside_none allowed acts inside closed)
    boot booted m n events others outcomes ends (plain_runs t boot allowed acts inside boot boot m n events others outcomes ends differ ran also)
