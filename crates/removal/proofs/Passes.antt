-- The two rounds of the pass: replies let go of their threads, and then all else loses its links.
use Rattle.std.{specs.{List.list_any, Prelude.{Contains, None, Option, Some, slice_get}}, proofs.Common.{[], ℕ, ◌&&◌, ◌++◌, ◌+◌, ◌<◌}}
use Rattle.std.proofs.Common.{◌||◌, ◌∙◌, ◌∷◌, ◌≡◌, ◌≢◌, Bool, List, add-one, ap, false, get_or, length, not, refl, subst, sym, take, true}
use Rattle.std.proofs.{Math.Seq.take-suc, lemmas.{Bool.false≢true, List.Elements.Contains-get_or, Option.get_or_from_slice_get}}
use Rattle.{std.proofs.lemmas.Option.{none-some, same_Some, slice_get-get_or, slice_get_within}, base.specs.declared.ids.ObjId.ObjId}
use Rattle.machine.specs.declared.{object.{Object.{Object, Object as o}, Reply.Reply}, thread.RunState.{RunState, RunState as state}}
use Rattle.machine.specs.{declared.thread.Tcb.Tcb, Finalising.{is_aborted, is_halted, leads_nowhere}, Machine.{Machine, object_of, same_id}}
use Rattle.machine.{specs.{Releasing.with_holder_halted, WellFormed.LinksAgree}, proofs.{LookUps.one_id, RoundLemmas.or_second}}
use Rattle.removal.{specs.{Finalised.with_links_cut, Pass.IsFinalised}, proofs.Linked.{links_reached, reached_nobody}}
use Rattle.removal.proofs.{LinksStep.{links_step, no_holder}, Part.{Follows, finalised_end}, Reached.nobody}
use Rattle.removal.proofs.{ReplyStep.reply_step, Tests.{and_false, or_false, plus}, WaitersStep.in_any}

-- whether an object is in a list
abbrev pub among : List ObjId → ObjId → Bool
among ids id = list_any (same_id id) ids

among_last : (ids : List ObjId) (x id : ObjId) → among (ids ++ x ∷ []) id ≡ (among ids id || same_id id x)
among_last [] x id = or_false (same_id id x)
among_last (first ∷ ids) x id = by_test (among_last ids x id) (same_id id first) where
  by_test :
      among (ids ++ x ∷ []) id ≡ (among ids id || same_id id x) → (b : Bool)
      → (b || among (ids ++ x ∷ []) id) ≡ ((b || among ids id) || same_id id x)
  by_test later true = refl
  by_test later false = later

or_first : (a b : Bool) → a ≡ true → (a || b) ≡ true
or_first a b e = ap (λ t. t || b) e

-- the replies among the first of those that go have let go of their threads, and nothing else has lost its links
pub record HoldersHalted (old : Machine) (first : List ObjId) (now : Machine) : Type 0 where
  pub done : ObjId → Bool
  pub follows : Follows old done now
  pub only : (id : ObjId) → done id ≡ true → (holding : Reply) × (object_of old id ≡ Some (o.Reply holding))
  pub within : (id : ObjId) → done id ≡ true → among first id ≡ true
  pub all : (id : ObjId) (holding : Reply) → among first id ≡ true → object_of old id ≡ Some (o.Reply holding) → done id ≡ true

-- all replies among those that go have, and all else among the first
pub record LinksCut (old : Machine) (going first : List ObjId) (now : Machine) : Type 0 where
  pub done : ObjId → Bool
  pub follows : Follows old done now
  pub within : (id : ObjId) → done id ≡ true → among going id ≡ true
  pub replies : (id : ObjId) (holding : Reply) → among going id ≡ true → object_of old id ≡ Some (o.Reply holding) → done id ≡ true
  pub all : (id : ObjId) → among first id ≡ true → done id ≡ true

by_either : {P : Type 0} (a b : Bool) → (a || b) ≡ true → (a ≡ true → P) → (b ≡ true → P) → P
by_either true b e left right = left refl
by_either false b e left right = right e

module _ (old : Machine) (links : LinksAgree old) where
  pub none_halted : HoldersHalted old [] old
  none_halted =
      record {
        done = λ _. false;
        follows =
            record {
              reach = nobody;
              reached = reached_nobody old;
              part =
                  record {
                    halts = λ thread tcb there stays. sym (nothing_halted tcb);
                    aborts = λ thread tcb there stays. sym (nothing_aborted tcb);
                    unbinds = λ thread tcb there stays. sym (nothing_bound tcb.context);
                    halts_it = λ thread tcb there gone. absurd (false≢true gone);
                    unbinds_it = λ thread tcb there gone. absurd (false≢true gone);
                  };
            };
        only = λ id e. absurd (false≢true e);
        within = λ id e. absurd (false≢true e);
        all = λ id holding e is. absurd (false≢true e);
      } where
        nothing_bound : (link : Option ObjId) → leads_nowhere (λ _. false) link ≡ false
        nothing_bound None = refl
        nothing_bound (Some id) = refl

        run_halted : (run : RunState) → is_halted (λ _. false) run ≡ false
        run_halted (state.Receiving receiving) = nothing_bound receiving.reply
        run_halted (state.Called calling) = refl
        run_halted _ = refl

        run_aborted : (run : RunState) → is_aborted (λ _. false) run ≡ false
        run_aborted (state.Sending sending) = refl
        run_aborted (state.Receiving receiving) = refl
        run_aborted (state.Waiting notification) = refl
        run_aborted _ = refl

        nothing_halted : (tcb : Tcb) → is_halted (λ _. false) tcb.state ≡ false
        nothing_halted tcb = run_halted tcb.state

        nothing_aborted :
            (tcb : Tcb) → (not (is_halted (λ _. false) tcb.state) && is_aborted (λ _. false) tcb.state) ≡ false
        nothing_aborted tcb =
            ap (λ a. not (is_halted (λ _. false) tcb.state) && a) (run_aborted tcb.state)
            ∙ and_false (not (is_halted (λ _. false) tcb.state))

  pub one_halted :
      (first : List ObjId) (now : Machine) (x : ObjId) → HoldersHalted old first now
      → HoldersHalted old (first ++ x ∷ []) (with_holder_halted now x)
  one_halted first now x h = by_object (object_of old x) refl where
    more : (id : ObjId) → among first id ≡ true → among (first ++ x ∷ []) id ≡ true
    more id e = among_last first x id ∙ or_first (among first id) (same_id id x) e

    other :
        ((holding : Reply) → object_of old x ≢ Some (o.Reply holding)) → HoldersHalted old (first ++ x ∷ []) (with_holder_halted now x)
    other none =
        subst (λ (n : Machine). HoldersHalted old (first ++ x ∷ []) n) (sym (no_holder old links h.done x now h.follows none))
        (record {
          done = h.done;
          follows = h.follows;
          only = h.only;
          within = λ id e. more id (h.within id e);
          all =
              λ id holding e is.
              by_either (among first id) (same_id id x) (sym (among_last first x id) ∙ e) (λ before. h.all id holding before is)
              (λ tie. absurd (none holding (ap (object_of old) (sym (one_id id x tie)) ∙ is)));
        })

    no_other : {own : Object} (holding : Reply) → Some own ≡ Some (o.Reply holding) → own ≢ o.Reply holding → ⊥
    no_other {own} holding same apart = apart (same_Some own (o.Reply holding) same)

    by_object : (object : Option Object) → object_of old x ≡ object → HoldersHalted old (first ++ x ∷ []) (with_holder_halted now x)
    by_object (Some (o.Reply own)) e =
        record {
          done = plus h.done x;
          follows = reply_step old links h.done h.only x own e now h.follows;
          only =
              λ id gone.
              by_either (h.done id) (same_id id x) gone (h.only id) (λ tie. (own, ap (object_of old) (one_id id x tie) ∙ e));
          within =
              λ id gone.
              by_either (h.done id) (same_id id x) gone (λ before. more id (h.within id before))
              (λ tie. among_last first x id ∙ or_second (among first id) (same_id id x) tie);
          all =
              λ id holding found is.
              by_either (among first id) (same_id id x) (sym (among_last first x id) ∙ found)
              (λ before. or_first (h.done id) (same_id id x) (h.all id holding before is))
              (λ tie. or_second (h.done id) (same_id id x) tie);
        }
    by_object None e = other (λ holding is. none-some (o.Reply holding) (sym e ∙ is))
    by_object (Some _) e = other (λ holding is. no_other holding (sym e ∙ is) (λ same. cc))

  pub one_cut :
      (going first : List ObjId) (now : Machine) (x : ObjId) → among going x ≡ true → LinksCut old going first now
      → LinksCut old going (first ++ x ∷ []) (with_links_cut now x)
  one_cut going first now x goes h =
      record {
        done = plus h.done x;
        follows = links_step old links h.done x now h.follows (λ holding is. h.replies x holding goes is);
        within =
            λ id gone.
            by_either (h.done id) (same_id id x) gone (h.within id) (λ tie. ap (among going) (one_id id x tie) ∙ goes);
        replies = λ id holding found is. or_first (h.done id) (same_id id x) (h.replies id holding found is);
        all =
            λ id found.
            by_either (among first id) (same_id id x) (sym (among_last first x id) ∙ found)
            (λ before. or_first (h.done id) (same_id id x) (h.all id before))
            (λ tie. or_second (h.done id) (same_id id x) tie);
      }

  pub all_cut : (going : List ObjId) (now : Machine) → LinksCut old going going now → IsFinalised old (among going) now
  all_cut going now h =
      finalised_end old now (among going) links
      (subst (λ (d : ObjId → Bool). Follows old d now) (λ i id. agree id (h.done id) (among going id) refl refl i) h.follows) where
        agree : (id : ObjId) (a b : Bool) → h.done id ≡ a → among going id ≡ b → h.done id ≡ among going id
        agree id true b e f = e ∙ sym (h.within id e)
        agree id false true e f = h.all id f ∙ sym f
        agree id false false e f = e ∙ sym f

  pub agreed_in : (done : ObjId → Bool) (now : Machine) → Follows old done now → LinksAgree now
  agreed_in done now follows = links_reached old now follows.reach follows.reached links

-- one more of those that go

taken : (ids : List ObjId) (i : ℕ) (x : ObjId) → slice_get ids i ≡ Some x → take (i + 1) ids ≡ take i ids ++ x ∷ []
taken ids i x e =
    rw add-one
    (take-suc ids i x (slice_get_within ids i x e) ∙ ap (λ (y : ObjId). take i ids ++ y ∷ []) (get_or_from_slice_get ids i x x e))

pub is_taken : (ids : List ObjId) (i : ℕ) → i < length ids → slice_get ids i ≢ None
is_taken ids i less e =
    none-some (get_or ids i (record { 0 = 0 })) (sym e ∙ slice_get-get_or ids i (record { 0 = 0 }) less)

found_at : (ids : List ObjId) (i : ℕ) (x : ObjId) → slice_get ids i ≡ Some x → among ids x ≡ true
found_at ids i x e =
    in_any x ids
    (subst (λ (y : ObjId). Contains ids y) (get_or_from_slice_get ids i x x e)
    (Contains-get_or ids i x (slice_get_within ids i x e)))

module _ (old : Machine) (links : LinksAgree old) (i : ℕ) (now next : Machine) (x : ObjId) (e : slice_get now.going i ≡ Some x) where
  pub next_halted :
      next ≡ with_holder_halted now x → HoldersHalted old (take i old.going) now → HoldersHalted old (take (i + 1) old.going) next
  next_halted is h =
      let same : now.going ≡ old.going = h.follows.reached.rest.going in
      subst (λ (n : Machine). HoldersHalted old (take (i + 1) old.going) n) (sym is)
      (subst (λ (ids : List ObjId). HoldersHalted old ids (with_holder_halted now x))
      (sym (taken old.going i x (sym (ap (λ (ids : List ObjId). slice_get ids i) same) ∙ e)))
      (one_halted old links (take i old.going) now x h))

  pub next_cut :
      next ≡ with_links_cut now x → LinksCut old old.going (take i old.going) now
      → LinksCut old old.going (take (i + 1) old.going) next
  next_cut is h =
      let same : now.going ≡ old.going = h.follows.reached.rest.going in
      let at : slice_get old.going i ≡ Some x = sym (ap (λ (ids : List ObjId). slice_get ids i) same) ∙ e in
      subst (λ (n : Machine). LinksCut old old.going (take (i + 1) old.going) n) (sym is)
      (subst (λ (ids : List ObjId). LinksCut old old.going ids (with_links_cut now x)) (sym (taken old.going i x at))
      (one_cut old links old.going (take i old.going) now x (found_at old.going i x at) h))
