-- The links in entries after a thread has come to wait or has left.
use Rattle.std.specs.{Option.option_or, Prelude.{Contains, IsSome, None, Option, Some, filter, is_some, not, option_map}}
use Rattle.std.proofs.{Common.{[], ℕ, ◌++◌, ◌<◌, ◌∙◌, ◌∷◌, ◌≡◌, ◌≢◌, List, ap, arith, inl, inr, refl, subst, sym}, lemmas.Bool.false≢true}
use Rattle.{base.specs.declared.ids.ObjId.ObjId, machine.specs.Machine.same_id}
use Rattle.objects.specs.declared.{entry.Entry.Entry, links.{Ends.Ends, Standing.Standing}}
use Rattle.objects.specs.{Entries.{Entries, entry_of, set_ends_in, set_standing_in, with_entry}, Links.AreQueued}
use Rattle.objects.specs.{Links.{end_after, ends_of, pushed, queue_in, quitting, relinked, standing_of, with_standing}, Queues.walk}
use Rattle.objects.proofs.{ChangeLemmas.{changed_here, changed_other, rest}, EntryLemmas.entry_of-with_entry}
use Rattle.objects.proofs.QueueLemmas.{Joins, cases_id, joined_elsewhere, joined_here, joined_queues, reaches, walk_none}
use Rattle.objects.proofs.{Quitting.{Quits, quit_elsewhere, quit_here, quit_queues}, StateLemmas.present_kept}

abbrev pub SameRest : (ObjId → Option Entry) → (ObjId → Option Entry) → Type 0
SameRest old new = (q : ObjId) → option_map rest (new q) ≡ option_map rest (old q)

-- the ends at one object are these, and nothing else has changed
record SetsEnds (old new : ObjId → Option Entry) (id : ObjId) (ends : Ends) : Type 0 where
  pub here : ends_of (new id) ≡ ends
  pub other : (q : ObjId) → q ≢ id → ends_of (new q) ≡ ends_of (old q)
  pub standing : (q : ObjId) → standing_of (new q) ≡ standing_of (old q)
  pub same : SameRest old new

-- the thread, if one is named, stands as the change says, and nothing else has changed
record SetsStanding (old new : ObjId → Option Entry) (thread : Option ObjId) (change : Standing → Standing) : Type 0 where
  pub here : (q : ObjId) → thread ≡ Some q → standing_of (new q) ≡ change (standing_of (old q))
  pub other : (q : ObjId) → thread ≢ Some q → standing_of (new q) ≡ standing_of (old q)
  pub ends : (q : ObjId) → ends_of (new q) ≡ ends_of (old q)
  pub same : SameRest old new

still_there : (old new : ObjId → Option Entry) → SameRest old new → (q : ObjId) → IsSome (old q) → IsSome (new q)
still_there old new same q = present_kept rest (old q) (new q) (same q)

module _ (entries : Entries) where
  abbrev entry : ObjId → Option Entry
  entry = entry_of entries

  abbrev after : ObjId → (Entry → Entry) → ObjId → Option Entry
  after id change = entry_of (with_entry entries id change)

  -- each entry reads as it did, if the change of one keeps what is read
  kept :
      {A : Type 0} (id : ObjId) (change : Entry → Entry) (e : Entry) → entry id ≡ Some e → (read : Option Entry → A)
      → read (Some (change e)) ≡ read (Some e) → (q : ObjId) → read (after id change q) ≡ read (entry q)
  kept id change e is read keeps q =
      elim (cases_id q id) [
        | inl same ↦
            ap (λ k. read (after id change k)) same
            ∙ ap read (changed_here _ _ id change (entry_of-with_entry entries id change) e is) ∙ keeps
            ∙ ap read (sym is) ∙ ap (λ k. read (entry k)) (sym same)
        | inr differs ↦
            ap read (changed_other _ _ id change (entry_of-with_entry entries id change) q differs)
      ]

  sets_ends :
      (id : ObjId) (ends : Ends) (o : Option Entry) → entry id ≡ o → IsSome o
      → SetsEnds entry (after id (set_ends_in ends)) id ends
  sets_ends id ends None is some = absurd (false≢true some)
  sets_ends id ends (Some e) is some =
      let change : Entry → Entry = set_ends_in ends in
      record {
        here = ap ends_of (changed_here _ _ id change (entry_of-with_entry entries id change) e is);
        other =
            λ q differs.
            ap ends_of (changed_other _ _ id change (entry_of-with_entry entries id change) q differs);
        standing = kept id change e is standing_of refl;
        same = kept id change e is (option_map rest) refl;
      }

  sets_standing :
      (thread : Option ObjId) (change : Standing → Standing) → ((q : ObjId) → thread ≡ Some q → IsSome (entry q))
      → SetsStanding entry (entry_of (with_standing entries thread change)) thread change
  sets_standing None change there =
      record { here = λ q is. cc; other = λ q differs. refl; ends = λ q. refl; same = λ q. refl }
  sets_standing (Some thread) change there = by_entry (entry thread) refl (there thread refl) where
    by_entry :
        (o : Option Entry) → entry thread ≡ o → IsSome o
        → SetsStanding entry (entry_of (with_standing entries (Some thread) change)) (Some thread) change
    by_entry None is some = absurd (false≢true some)
    by_entry (Some e) is some =
        let set : Entry → Entry = set_standing_in (change (standing_of (entry thread))) in
        record {
          here = λ q same.
              let one : thread ≡ q = cc in
              ap (λ k. standing_of (after thread set k)) (sym one)
              ∙ ap standing_of (changed_here _ _ thread set (entry_of-with_entry entries thread set) e is)
              ∙ ap (λ k. change (standing_of (entry k))) one;
          other = λ q differs.
              ap standing_of
              (changed_other _ _ thread set (entry_of-with_entry entries thread set) q
              (λ same. differs (ap Some (sym same))));
          ends = kept thread set e is ends_of refl;
          same = kept thread set e is (option_map rest) refl;
        }

-- the queue of a present object
pub queue_there :
    (numbers : ℕ) (entry : ObjId → Option Entry) (o : Option Entry) → IsSome o
    → queue_in numbers entry o ≡ Some (walk (λ thread. standing_of (entry thread)) numbers (ends_of o).first)
queue_there numbers entry None there = absurd (false≢true there)
queue_there numbers entry (Some e) there = refl

-- objects whose walks are alike have queues alike
pub same_queue :
    (numbers : ℕ) (old new : ObjId → Option Entry) → SameRest old new → (q : ObjId)
    → walk (λ thread. standing_of (new thread)) numbers (ends_of (new q)).first
    ≡ walk (λ thread. standing_of (old thread)) numbers (ends_of (old q)).first
    → queue_in numbers new (new q) ≡ queue_in numbers old (old q)
same_queue numbers old new same q walks = by_entries (old q) (new q) refl refl (same q) where
  by_entries :
      (o o' : Option Entry) → old q ≡ o → new q ≡ o' → option_map rest o' ≡ option_map rest o
      → queue_in numbers new (new q) ≡ queue_in numbers old (old q)
  by_entries None None was is same = rw (was, is) refl
  by_entries None (Some e) was is same = cc
  by_entries (Some e) None was is same = cc
  by_entries (Some e) (Some e') was is same =
      queue_there numbers new (new q) (ap is_some is) ∙ ap Some walks ∙ sym (queue_there numbers old (old q) (ap is_some was))

-- a thread that stands somewhere has an entry
standing_there : (entry : ObjId → Option Entry) (a q : ObjId) → (standing_of (entry a)).at ≡ Some q → IsSome (entry a)
standing_there entry a q at = by_entry (entry a) refl where
  by_entry : (o : Option Entry) → entry a ≡ o → IsSome (entry a)
  by_entry None is = let none : None ≡ Some q = ap (λ o. (standing_of o).at) (sym is) ∙ at in cc
  by_entry (Some e) is = ap is_some is

-- a thread in no queue stands nowhere
pub stands_nowhere :
    (entry : ObjId → Option Entry) (numbers : ℕ) → AreQueued entry numbers → (t : ObjId)
    → ((q : ObjId) (threads : List ObjId) → queue_in numbers entry (entry q) ≡ Some threads → ¬ (Contains threads t))
    → (standing_of (entry t)).at ≡ None
stands_nowhere entry numbers queued t nowhere = by_at (standing_of (entry t)).at refl where
  by_at : (o : Option ObjId) → (standing_of (entry t)).at ≡ o → (standing_of (entry t)).at ≡ None
  by_at None at = at
  by_at (Some q) at =
      by_entry (entry q) refl (reaches (λ a. ends_of (entry a)) (λ a. standing_of (entry a)) numbers queued q numbers t (queued.ranked t (queued.known t q at)) at) where
        by_entry :
            (o : Option Entry) → entry q ≡ o
            → Contains (walk (λ a. standing_of (entry a)) numbers (ends_of (entry q)).first) t
            → (standing_of (entry t)).at ≡ None
        by_entry None is there =
            let empty : walk (λ a. standing_of (entry a)) numbers (ends_of (entry q)).first ≡ [] =
            ap (λ o. walk (λ a. standing_of (entry a)) numbers (ends_of o).first) is ∙ walk_none (λ a. standing_of (entry a)) numbers in
            let none : Contains [] t = subst (λ xs. Contains xs t) empty there in absurd (omega (arith, none.1))
        by_entry (Some e) is there =
            absurd (nowhere q _ (queue_there numbers entry (entry q) (ap is_some is)) there)

-- the entries after the links of a neighbour, a thread and a queue are set
record Relinks (old new : ObjId → Option Entry) (neighbour : Option ObjId) (change : Standing → Standing) (thread : ObjId)
    (standing : Standing) (id : ObjId) (ends : Ends) : Type 0 where
  pub ends_here : ends_of (new id) ≡ ends
  pub ends_other : (q : ObjId) → q ≢ id → ends_of (new q) ≡ ends_of (old q)
  pub here : standing_of (new thread) ≡ standing
  pub beside : (q : ObjId) → q ≢ thread → neighbour ≡ Some q → standing_of (new q) ≡ change (standing_of (old q))
  pub other : (q : ObjId) → q ≢ thread → neighbour ≢ Some q → standing_of (new q) ≡ standing_of (old q)
  pub same : SameRest old new

module _ (entries : Entries) (neighbour : Option ObjId)
    (change : Standing → Standing) (thread : ObjId) (standing : Standing) (id : ObjId) (ends : Ends) where
  abbrev entries1 : Entries
  entries1 = with_standing entries neighbour change

  abbrev entries2 : Entries
  entries2 = with_standing entries1 (Some thread) (λ _. standing)

  relinks :
      ((q : ObjId) → neighbour ≡ Some q → IsSome (entry_of entries q)) → IsSome (entry_of entries thread)
      → IsSome (entry_of entries id)
      → Relinks (entry_of entries)
      (entry_of (relinked entries neighbour change thread standing id ends)) neighbour change thread standing id ends
  relinks there_neighbour there_thread there_id =
      let first = sets_standing entries neighbour change there_neighbour in
      let there : (q : ObjId) → Some thread ≡ Some q → IsSome (entry_of entries1 q) =
      λ q is. still_there _ _ first.same q (let one : thread ≡ q = cc in subst (λ k. IsSome (entry_of entries k)) one there_thread) in
      let second = sets_standing entries1 (Some thread) (λ _. standing) there in
      let third =
      sets_ends entries2 id ends (entry_of entries2 id) refl
      (still_there _ _ second.same id (still_there _ _ first.same id there_id)) in
      record {
        ends_here = third.here;
        ends_other = λ q differs. third.other q differs ∙ second.ends q ∙ first.ends q;
        here = third.standing thread ∙ second.here thread refl;
        beside = λ q differs is. third.standing q ∙ second.other q (λ e. differs cc) ∙ first.here q is;
        other = λ q differs other. third.standing q ∙ second.other q (λ e. differs cc) ∙ first.other q other;
        same = λ q. third.same q ∙ second.same q ∙ first.same q;
      }

-- what a change of the queue at one object leaves
pub record Requeues (old new : ObjId → Option Entry) (numbers : ℕ) (id : ObjId) : Type 0 where
  pub queued : AreQueued new numbers
  pub same : SameRest old new
  pub others : (q : ObjId) → q ≢ id → queue_in numbers new (new q) ≡ queue_in numbers old (old q)

module _ (entries : Entries) (numbers : ℕ) (id thread : ObjId)
    (queued : AreQueued (entry_of entries) numbers) (e : Entry) (is : entry_of entries id ≡ Some e) where
  abbrev old : ObjId → Option Entry
  old = entry_of entries

  abbrev ends_old : ObjId → Ends
  ends_old q = ends_of (old q)

  abbrev standing_old : ObjId → Standing
  standing_old q = standing_of (old q)

  -- a thread comes to wait

  module _ (there : IsSome (old thread)) (known : thread.0 < numbers) (free : (standing_old thread).at ≡ None) where
    abbrev new : ObjId → Option Entry
    new = entry_of (pushed entries id thread (Some e.ends))

    last_waits : (q : ObjId) → e.ends.last ≡ Some q → (standing_old q).at ≡ Some id
    last_waits q last = (queued.last_is id q (ap (λ o. (ends_of o).last) is ∙ last)).0

    pushes :
        Relinks old new e.ends.last (λ s. record s { next = Some thread }) thread
        (record { at = Some id; previous = e.ends.last; next = None }) id
        (record { first = option_or e.ends.first (Some thread); last = Some thread })
    pushes =
        relinks entries e.ends.last (λ s. record s { next = Some thread }) thread
        (record { at = Some id; previous = e.ends.last; next = None }) id
        (record { first = option_or e.ends.first (Some thread); last = Some thread })
        (λ q last. standing_there old q id (last_waits q last)) there (ap is_some is)

    joins : Joins ends_old (λ q. ends_of (new q)) standing_old (λ q. standing_of (new q)) id thread
    joins =
        let last_is : (q : ObjId) → (ends_old id).last ≡ Some q → e.ends.last ≡ Some q =
        λ q last. ap (λ o. (ends_of o).last) (sym is) ∙ last in
        record {
          ends_here =
              pushes.ends_here
              ∙ ap (λ o. record { first = option_or (ends_of o).first (Some thread); last = Some thread }) (sym is);
          ends_other = pushes.ends_other;
          joined = pushes.here ∙ ap (λ o. record { at = Some id; previous = (ends_of o).last; next = None }) (sym is);
          before =
              λ q last. pushes.beside q (λ same. let at = last_waits q (last_is q last) in cc) (last_is q last);
          kept = λ q differs other. pushes.other q differs (λ last. other (ap (λ o. (ends_of o).last) is ∙ last));
        }

    pub pushed_requeues : Requeues old new numbers id
    pushed_requeues =
        let after : AreQueued new numbers = joined_queues _ _ _ _ numbers queued id thread joins known free in
        record {
          queued = after;
          same = pushes.same;
          others =
              λ q differs.
              same_queue numbers old new pushes.same q
              (joined_elsewhere _ _ _ _ numbers queued id thread joins known free after q differs);
        }

    pub pushed_queue : queue_in numbers new (new id) ≡ Some (walk standing_old numbers e.ends.first ++ thread ∷ [])
    pushed_queue =
        queue_there numbers new (new id) (still_there old new pushes.same id (ap is_some is))
        ∙ ap Some
        (joined_here _ _ _ _ numbers queued id thread joins known free pushed_requeues.queued
        ∙ ap (λ o. walk standing_old numbers (ends_of o).first ++ thread ∷ []) is)

  -- any of those that wait leaves

  module _ (waits : (standing_old thread).at ≡ Some id) where
    abbrev stands : Standing
    stands = standing_old thread

    abbrev nowhere : Standing
    nowhere = record { at = None; previous = None; next = None }

    abbrev ends_left : Ends
    ends_left =
        record {
          first = end_after stands.previous stands.next e.ends.first;
          last = end_after stands.next stands.previous e.ends.last;
        }

    abbrev forward : Standing → Standing
    forward s = record s { next = stands.next }

    abbrev backward : Standing → Standing
    backward s = record s { previous = stands.previous }

    abbrev between : Entries
    between = with_standing entries stands.previous forward

    abbrev without : ObjId → Option Entry
    without = entry_of (quitting entries id thread stands e.ends)

    precedes : (q : ObjId) → stands.previous ≡ Some q → (standing_old q).next ≡ Some thread
    precedes q before = queued.back q thread before

    first_step : SetsStanding old (entry_of between) stands.previous forward
    first_step =
        sets_standing entries stands.previous forward
        (λ q before. standing_there old q id (sym (queued.beside q thread (precedes q before)) ∙ waits))

    there_between : (q : ObjId) → IsSome (old q) → IsSome (entry_of between q)
    there_between q there = still_there old (entry_of between) first_step.same q there

    steps : Relinks (entry_of between) without stands.next backward thread nowhere id ends_left
    steps =
        relinks between stands.next backward thread nowhere id ends_left
        (λ q behind. there_between q (standing_there old q id (queued.beside thread q behind ∙ waits)))
        (there_between thread (standing_there old thread id waits)) (there_between id (ap is_some is))

    all_kept : SameRest old without
    all_kept q = steps.same q ∙ first_step.same q

    differs_before : (q : ObjId) → stands.previous ≡ Some q → q ≢ thread
    differs_before q before same =
        let later : queued.rank q < queued.rank thread = queued.later q thread (precedes q before) in
        let one : queued.rank q ≡ queued.rank thread = ap queued.rank same in omega arith

    differs_behind : (q : ObjId) → stands.next ≡ Some q → q ≢ thread
    differs_behind q behind same =
        let later : queued.rank thread < queued.rank q = queued.later thread q behind in
        let one : queued.rank q ≡ queued.rank thread = ap queued.rank same in omega arith

    one_neighbour : (q : ObjId) → stands.previous ≡ Some q → stands.next ≢ Some q
    one_neighbour q before behind =
        let early : queued.rank q < queued.rank thread = queued.later q thread (precedes q before) in
        let late : queued.rank thread < queued.rank q = queued.later thread q behind in omega arith

    quits : Quits ends_old (λ q. ends_of (without q)) standing_old (λ q. standing_of (without q)) id thread
    quits =
        record {
          ends_here =
              steps.ends_here
              ∙ ap (λ o. record {
                first = end_after stands.previous stands.next (ends_of o).first;
                last = end_after stands.next stands.previous (ends_of o).last;
              }) (sym is);
          ends_other = λ q differs. steps.ends_other q differs ∙ first_step.ends q;
          gone = steps.here;
          before = λ q before. steps.other q (differs_before q before) (one_neighbour q before) ∙ first_step.here q before;
          behind =
              λ q behind.
              steps.beside q (differs_behind q behind) behind
              ∙ ap backward (first_step.other q (λ before. one_neighbour q before behind));
          kept = λ q differs far other. steps.other q differs other ∙ first_step.other q far;
        }

    pub quitted_requeues : Requeues old without numbers id
    quitted_requeues =
        record {
          queued = quit_queues _ _ _ _ numbers queued id thread quits waits;
          same = all_kept;
          others =
              λ q differs.
              same_queue numbers old without all_kept q (quit_elsewhere _ _ _ _ numbers queued id thread quits waits q differs);
        }

    pub quitted_queue :
        queue_in numbers without (without id)
        ≡ Some (filter (λ other. not (same_id other thread)) (walk standing_old numbers e.ends.first))
    quitted_queue =
        queue_there numbers without (without id) (still_there old without all_kept id (ap is_some is))
        ∙ ap Some
        (quit_here _ _ _ _ numbers queued id thread quits waits
        ∙ ap (λ o. filter (λ other. not (same_id other thread)) (walk standing_old numbers (ends_of o).first)) is)
