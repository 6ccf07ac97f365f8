-- Links of queues stay so as any thread of a queue leaves it, and the others stay in order.
use Rattle.std.{specs.Prelude.{Contains, None, Option, Some, filter, not}, proofs.Common.{ℕ, ◌+◌, ◌<◌, ◌∙◌, ◌∷◌, ◌≡◌, ◌≢◌}}
use Rattle.std.proofs.Common.{◌≤◌, ◌⊎◌, Bool, List, ap, arith, cond, false, inl, inr, refl, subst, suc, sym, true, zero}
use Rattle.{slab.proofs.SlabLemmas.Contains-cons_cases, base.specs.declared.ids.ObjId.ObjId}
use Rattle.machine.{specs.Machine.same_id, proofs.{Ids.{itself, two_ids}, LookUps.one_id}}
use Rattle.objects.specs.{declared.links.{Ends.Ends, Standing.Standing}, Links.end_after, Queues.{AreQueues, walk}}
use Rattle.objects.proofs.QueueLemmas.{cases_id, cases_some, walk_ends, walk_same}

-- the thread t leaves the queue q, and its neighbours come together
pub record Quits (ends ends' : ObjId → Ends) (standing standing' : ObjId → Standing) (q t : ObjId) : Type 0 where
  pub ends_here :
      ends' q
      ≡ record {
        first = end_after (standing t).previous (standing t).next (ends q).first;
        last = end_after (standing t).next (standing t).previous (ends q).last;
      }
  pub ends_other : (p : ObjId) → p ≢ q → ends' p ≡ ends p
  pub gone : standing' t ≡ record { at = None; previous = None; next = None }
  pub before : (a : ObjId) → (standing t).previous ≡ Some a → standing' a ≡ record (standing a) { next = (standing t).next }
  pub behind : (a : ObjId) → (standing t).next ≡ Some a → standing' a ≡ record (standing a) { previous = (standing t).previous }
  pub kept :
      (a : ObjId) → a ≢ t → (standing t).previous ≢ Some a → (standing t).next ≢ Some a → standing' a ≡ standing a

-- each thread on a walk through a queue waits there
pub on_walk_waits :
    (ends : ObjId → Ends) (standing : ObjId → Standing) (numbers : ℕ) → AreQueues ends standing numbers → (q : ObjId) (most : ℕ)
    (from : Option ObjId) → ((a : ObjId) → from ≡ Some a → (standing a).at ≡ Some q) → (t : ObjId)
    → Contains (walk standing most from) t → (standing t).at ≡ Some q
on_walk_waits ends standing numbers queues q zero from stands t there = absurd (omega (arith, there.1))
on_walk_waits ends standing numbers queues q (suc most) None stands t there = absurd (omega (arith, there.1))
on_walk_waits ends standing numbers queues q (suc most) (Some a) stands t there =
    elim (Contains-cons_cases a t (walk standing most (standing a).next) there) [
      | inl same ↦ subst (λ k. (standing k).at ≡ Some q) same (stands a refl)
      | inr later ↦
          on_walk_waits ends standing numbers queues q most (standing a).next
          (λ b is. queues.beside a b is ∙ stands a refl) t later
    ]

module _ (ends ends' : ObjId → Ends) (standing standing' : ObjId → Standing) (numbers : ℕ)
    (queues : AreQueues ends standing numbers) (q t : ObjId) (quits : Quits ends ends' standing standing' q t)
    (waits : (standing t).at ≡ Some q) where
  gone_at : (standing' t).at ≡ None
  gone_at = ap (λ s. s.at) quits.gone

  gone_next : (standing' t).next ≡ None
  gone_next = ap (λ s. s.next) quits.gone

  gone_previous : (standing' t).previous ≡ None
  gone_previous = ap (λ s. s.previous) quits.gone

  -- nobody stands beside itself
  apart_next : (a b : ObjId) → (standing a).next ≡ Some b → a ≢ b
  apart_next a b is same =
      let less : queues.rank a < queues.rank b = queues.later a b is in
      let equal : queues.rank a ≡ queues.rank b = ap queues.rank same in omega arith

  apart_before : (a : ObjId) → (standing t).previous ≡ Some a → a ≢ t
  apart_before a is = apart_next a t (queues.back a t is)

  apart_behind : (b : ObjId) → (standing t).next ≡ Some b → b ≢ t
  apart_behind b is same = apart_next t b is (sym same)

  at_other : (a : ObjId) → a ≢ t → (standing' a).at ≡ (standing a).at
  at_other a apart =
      elim (cases_some (standing t).previous a) [
        | inl before ↦ ap (λ s. s.at) (quits.before a before)
        | inr far ↦ elim (cases_some (standing t).next a) [
          | inl behind ↦ ap (λ s. s.at) (quits.behind a behind)
          | inr other ↦ ap (λ s. s.at) (quits.kept a apart far other)
        ]
      ]

  next_before : (a : ObjId) → (standing t).previous ≡ Some a → (standing' a).next ≡ (standing t).next
  next_before a before = ap (λ s. s.next) (quits.before a before)

  next_other : (a : ObjId) → a ≢ t → (standing t).previous ≢ Some a → (standing' a).next ≡ (standing a).next
  next_other a apart far =
      elim (cases_some (standing t).next a) [
        | inl behind ↦ ap (λ s. s.next) (quits.behind a behind)
        | inr other ↦ ap (λ s. s.next) (quits.kept a apart far other)
      ]

  previous_behind : (a : ObjId) → (standing t).next ≡ Some a → (standing' a).previous ≡ (standing t).previous
  previous_behind a behind = ap (λ s. s.previous) (quits.behind a behind)

  previous_other : (a : ObjId) → a ≢ t → (standing t).next ≢ Some a → (standing' a).previous ≡ (standing a).previous
  previous_other a apart other =
      elim (cases_some (standing t).previous a) [
        | inl before ↦ ap (λ s. s.previous) (quits.before a before)
        | inr far ↦ ap (λ s. s.previous) (quits.kept a apart far other)
      ]

  stays : (a p : ObjId) → (standing' a).at ≡ Some p → (a ≢ t) × ((standing a).at ≡ Some p)
  stays a p is =
      let apart : a ≢ t = λ same. (let none = gone_at in cc) in (apart, sym (at_other a apart) ∙ is)

  -- one neighbour is behind the other, and the rest as before
  behind_now :
      (a b : ObjId) → (standing' a).next ≡ Some b
      → (((standing t).previous ≡ Some a) × ((standing t).next ≡ Some b))
      ⊎ (((standing t).previous ≢ Some a) × (a ≢ t) × (b ≢ t) × ((standing a).next ≡ Some b))
  behind_now a b is =
      elim (cases_some (standing t).previous a) [
        | inl before ↦ inl (before, sym (next_before a before) ∙ is)
        | inr far ↦
            let apart : a ≢ t = λ same. (let none = gone_next in cc) in
            let next : (standing a).next ≡ Some b = sym (next_other a apart far) ∙ is in
            inr (far, apart, λ same. far (queues.onward a t (next ∙ ap Some same)), next)
      ]

  quit_later : (a b : ObjId) → (standing' a).next ≡ Some b → queues.rank a < queues.rank b
  quit_later a b is =
      elim (behind_now a b is) [
        | inl sides ↦
            let early : queues.rank a < queues.rank t = queues.later a t (queues.back a t sides.0) in
            let late : queues.rank t < queues.rank b = queues.later t b sides.1 in omega arith
        | inr kept ↦ queues.later a b kept.3
      ]

  quit_beside : (a b : ObjId) → (standing' a).next ≡ Some b → (standing' b).at ≡ (standing' a).at
  quit_beside a b is =
      elim (behind_now a b is) [
        | inl sides ↦
            at_other b (apart_behind b sides.1) ∙ queues.beside t b sides.1 ∙ queues.beside a t (queues.back a t sides.0)
            ∙ sym (at_other a (apart_before a sides.0))
        | inr kept ↦ at_other b kept.2 ∙ queues.beside a b kept.3 ∙ sym (at_other a kept.1)
      ]

  quit_onward : (a b : ObjId) → (standing' a).next ≡ Some b → (standing' b).previous ≡ Some a
  quit_onward a b is =
      elim (behind_now a b is) [
        | inl sides ↦ previous_behind b sides.1 ∙ sides.0
        | inr kept ↦
            let back = queues.onward a b kept.3 in
            previous_other b kept.2 (λ behind. let here = queues.onward t b behind in kept.1 cc) ∙ back
      ]

  quit_back : (a b : ObjId) → (standing' b).previous ≡ Some a → (standing' a).next ≡ Some b
  quit_back a b is =
      let apart : b ≢ t = λ same. (let none = gone_previous in cc) in
      elim (cases_some (standing t).next b) [
        | inl behind ↦ next_before a (sym (previous_behind b behind) ∙ is) ∙ behind
        | inr other ↦
            let next : (standing a).next ≡ Some b = queues.back a b (sym (previous_other b apart other) ∙ is) in
            next_other a (λ same. other (ap (λ k. (standing k).next) (sym same) ∙ next))
            (λ before. let there = queues.back a t before in apart cc)
            ∙ next
      ]

  first_here : (ends' q).first ≡ end_after (standing t).previous (standing t).next (ends q).first
  first_here = ap (λ e. e.first) quits.ends_here

  last_here : (ends' q).last ≡ end_after (standing t).next (standing t).previous (ends q).last
  last_here = ap (λ e. e.last) quits.ends_here

  -- the ends by the neighbours
  first_alone : (standing t).previous ≡ None → (ends' q).first ≡ (standing t).next
  first_alone none = first_here ∙ ap (λ o. end_after o (standing t).next (ends q).first) none

  first_kept : (a : ObjId) → (standing t).previous ≡ Some a → (ends' q).first ≡ (ends q).first
  first_kept a some = first_here ∙ ap (λ o. end_after o (standing t).next (ends q).first) some

  last_alone : (standing t).next ≡ None → (ends' q).last ≡ (standing t).previous
  last_alone none = last_here ∙ ap (λ o. end_after o (standing t).previous (ends q).last) none

  last_kept : (a : ObjId) → (standing t).next ≡ Some a → (ends' q).last ≡ (ends q).last
  last_kept a some = last_here ∙ ap (λ o. end_after o (standing t).previous (ends q).last) some

  -- a thread that was first or last elsewhere stays so
  old_first :
      (p a : ObjId) → a ≢ t → (ends p).first ≡ Some a → ((standing' a).at ≡ Some p) × ((standing' a).previous ≡ None)
  old_first p a apart is =
      let was = queues.first_is p a is in (
        at_other a apart ∙ was.0,
        previous_other a apart (λ behind. let back = queues.onward t a behind in let none = was.1 in cc) ∙ was.1,
      )

  old_last : (p a : ObjId) → a ≢ t → (ends p).last ≡ Some a → ((standing' a).at ≡ Some p) × ((standing' a).next ≡ None)
  old_last p a apart is =
      let was = queues.last_is p a is in (
        at_other a apart ∙ was.0,
        next_other a apart (λ before. let back = queues.back a t before in let none = was.1 in cc) ∙ was.1,
      )

  quit_first_is : (p a : ObjId) → (ends' p).first ≡ Some a → ((standing' a).at ≡ Some p) × ((standing' a).previous ≡ None)
  quit_first_is p a is =
      elim (cases_id p q) [
        | inl queue ↦ by_previous queue (standing t).previous refl (ap (λ r. (ends' r).first) (sym queue) ∙ is)
        | inr other ↦
            let first : (ends p).first ≡ Some a = ap (λ e. e.first) (sym (quits.ends_other p other)) ∙ is in
            old_first p a (λ same. let at = (queues.first_is p a first).0 in let here = waits in other cc) first
      ]
    where
      by_previous :
          p ≡ q → (o : Option ObjId) → (standing t).previous ≡ o → (ends' q).first ≡ Some a
          → ((standing' a).at ≡ Some p) × ((standing' a).previous ≡ None)
      by_previous queue None none first =
          let next : (standing t).next ≡ Some a = sym (first_alone none) ∙ first in (
            at_other a (apart_behind a next) ∙ queues.beside t a next ∙ waits ∙ ap Some (sym queue),
            previous_behind a next ∙ none,
          )
      by_previous queue (Some b) some first =
          let was : (ends q).first ≡ Some a = sym (first_kept b some) ∙ first in
          let now =
          old_first q a
          (λ same. let none = (queues.first_is q a was).1 in let here : (standing a).previous ≡ Some b = ap (λ k. (standing k).previous) same ∙ some in cc)
          was in (now.0 ∙ ap Some (sym queue), now.1)

  quit_is_first : (p a : ObjId) → (standing' a).at ≡ Some p → (standing' a).previous ≡ None → (ends' p).first ≡ Some a
  quit_is_first p a at previous =
      let was = stays a p at in
      elim (cases_some (standing t).next a) [
        | inl behind ↦
            let beside = queues.beside t a behind in
            let here = waits in
            let there = was.1 in
            let queue : p ≡ q = cc in
            ap (λ r. (ends' r).first) queue ∙ first_alone (sym (previous_behind a behind) ∙ previous) ∙ behind
        | inr other ↦
            let first : (ends p).first ≡ Some a = queues.is_first p a was.1 (sym (previous_other a was.0 other) ∙ previous) in
            elim (cases_id p q) [
              | inl queue ↦
                  ap (λ r. (ends' r).first) queue
                  ∙ by_previous was.0 (ap (λ r. (ends r).first) (sym queue) ∙ first) (standing t).previous refl
              | inr away ↦ ap (λ e. e.first) (quits.ends_other p away) ∙ first
            ]
      ]
    where
      by_previous : a ≢ t → (ends q).first ≡ Some a → (o : Option ObjId) → (standing t).previous ≡ o → (ends' q).first ≡ Some a
      by_previous apart first None none = let only = queues.is_first q t waits none in absurd (apart cc)
      by_previous apart first (Some b) some = first_kept b some ∙ first

  quit_last_is : (p a : ObjId) → (ends' p).last ≡ Some a → ((standing' a).at ≡ Some p) × ((standing' a).next ≡ None)
  quit_last_is p a is =
      elim (cases_id p q) [
        | inl queue ↦ by_next queue (standing t).next refl (ap (λ r. (ends' r).last) (sym queue) ∙ is)
        | inr other ↦
            let last : (ends p).last ≡ Some a = ap (λ e. e.last) (sym (quits.ends_other p other)) ∙ is in
            old_last p a (λ same. let at = (queues.last_is p a last).0 in let here = waits in other cc) last
      ]
    where
      by_next :
          p ≡ q → (o : Option ObjId) → (standing t).next ≡ o → (ends' q).last ≡ Some a
          → ((standing' a).at ≡ Some p) × ((standing' a).next ≡ None)
      by_next queue None none last =
          let before : (standing t).previous ≡ Some a = sym (last_alone none) ∙ last in
          let beside = queues.beside a t (queues.back a t before) in (
            at_other a (apart_before a before) ∙ sym beside ∙ waits ∙ ap Some (sym queue),
            next_before a before ∙ none,
          )
      by_next queue (Some b) some last =
          let was : (ends q).last ≡ Some a = sym (last_kept b some) ∙ last in
          let now =
          old_last q a
          (λ same. let none = (queues.last_is q a was).1 in let here : (standing a).next ≡ Some b = ap (λ k. (standing k).next) same ∙ some in cc)
          was in (now.0 ∙ ap Some (sym queue), now.1)

  quit_is_last : (p a : ObjId) → (standing' a).at ≡ Some p → (standing' a).next ≡ None → (ends' p).last ≡ Some a
  quit_is_last p a at next =
      let was = stays a p at in
      elim (cases_some (standing t).previous a) [
        | inl before ↦
            let beside = queues.beside a t (queues.back a t before) in
            let here = waits in
            let there = was.1 in
            let queue : p ≡ q = cc in
            ap (λ r. (ends' r).last) queue ∙ last_alone (sym (next_before a before) ∙ next) ∙ before
        | inr far ↦
            let last : (ends p).last ≡ Some a = queues.is_last p a was.1 (sym (next_other a was.0 far) ∙ next) in
            elim (cases_id p q) [
              | inl queue ↦
                  ap (λ r. (ends' r).last) queue
                  ∙ by_next was.0 (ap (λ r. (ends r).last) (sym queue) ∙ last) (standing t).next refl
              | inr away ↦ ap (λ e. e.last) (quits.ends_other p away) ∙ last
            ]
      ]
    where
      by_next : a ≢ t → (ends q).last ≡ Some a → (o : Option ObjId) → (standing t).next ≡ o → (ends' q).last ≡ Some a
      by_next apart last None none = let only = queues.is_last q t waits none in absurd (apart cc)
      by_next apart last (Some b) some = last_kept b some ∙ last

  -- a queue that has lost its last thread has no ends
  quit_no_first : (p : ObjId) → (ends' p).first ≡ None → (ends' p).last ≡ None
  quit_no_first p is =
      elim (cases_id p q) [
        | inl queue ↦
            ap (λ r. (ends' r).last) queue
            ∙ by_sides (ap (λ r. (ends' r).first) (sym queue) ∙ is) (standing t).previous (standing t).next refl refl
        | inr other ↦
            let kept = quits.ends_other p other in
            ap (λ e. e.last) kept ∙ queues.no_first p (ap (λ e. e.first) (sym kept) ∙ is)
      ]
    where
      by_sides :
          (ends' q).first ≡ None → (o o' : Option ObjId) → (standing t).previous ≡ o → (standing t).next ≡ o' → (ends' q).last ≡ None
      by_sides first None o' none next = last_alone (sym (first_alone none) ∙ first) ∙ none
      by_sides first (Some a) None some none =
          let last = queues.no_first q (sym (first_kept a some) ∙ first) in let only = queues.is_last q t waits none in cc
      by_sides first (Some a) (Some b) some next = last_kept b next ∙ queues.no_first q (sym (first_kept a some) ∙ first)

  quit_no_last : (p : ObjId) → (ends' p).last ≡ None → (ends' p).first ≡ None
  quit_no_last p is =
      elim (cases_id p q) [
        | inl queue ↦
            ap (λ r. (ends' r).first) queue
            ∙ by_sides (ap (λ r. (ends' r).last) (sym queue) ∙ is) (standing t).next (standing t).previous refl refl
        | inr other ↦
            let kept = quits.ends_other p other in
            ap (λ e. e.first) kept ∙ queues.no_last p (ap (λ e. e.last) (sym kept) ∙ is)
      ]
    where
      by_sides :
          (ends' q).last ≡ None → (o o' : Option ObjId) → (standing t).next ≡ o → (standing t).previous ≡ o' → (ends' q).first ≡ None
      by_sides last None o' none previous = first_alone (sym (last_alone none) ∙ last) ∙ none
      by_sides last (Some a) None some none =
          let first = queues.no_last q (sym (last_kept a some) ∙ last) in let only = queues.is_first q t waits none in cc
      by_sides last (Some a) (Some b) some previous = first_kept b previous ∙ queues.no_last q (sym (last_kept a some) ∙ last)

  quit_nowhere : (a : ObjId) → (standing' a).at ≡ None → ((standing' a).previous ≡ None) × ((standing' a).next ≡ None)
  quit_nowhere a is =
      elim (cases_id a t) [
        | inl same ↦ (
          ap (λ b. (standing' b).previous) same ∙ gone_previous,
          ap (λ b. (standing' b).next) same ∙ gone_next,
        )
        | inr apart ↦
            let was = queues.nowhere a (sym (at_other a apart) ∙ is) in
            let no_previous = was.0 in
            let no_next = was.1 in (
              previous_other a apart (λ behind. let back = queues.onward t a behind in cc) ∙ was.0,
              next_other a apart (λ before. let there = queues.back a t before in cc) ∙ was.1,
            )
      ]

  pub quit_queues : AreQueues ends' standing' numbers
  quit_queues =
      record {
        rank = queues.rank;
        one_each = queues.one_each;
        ranked = queues.ranked;
        unranked = queues.unranked;
        known = λ a p is. queues.known a p (stays a p is).1;
        later = quit_later;
        beside = quit_beside;
        onward = quit_onward;
        back = quit_back;
        first_is = quit_first_is;
        is_first = quit_is_first;
        last_is = quit_last_is;
        is_last = quit_is_last;
        no_first = quit_no_first;
        no_last = quit_no_last;
        nowhere = quit_nowhere;
      }

  quit_rank : (a : ObjId) → quit_queues.rank a ≡ queues.rank a
  unfolding quit_queues
  quit_rank a = refl

  -- the queues afterwards

  abbrev others : List ObjId → List ObjId
  others threads = filter (λ a. not (same_id a t)) threads

  -- the walk goes past the thread
  past : Option ObjId → Option ObjId
  past None = None
  past (Some a) = cond (same_id a t) (standing t).next (Some a)

  past_other : (o : Option ObjId) → o ≢ Some t → past o ≡ o
  unfolding past
  past_other None other = refl
  past_other (Some a) other = by_tie (same_id a t) refl where
    by_tie : (tie : Bool) → same_id a t ≡ tie → cond tie (standing t).next (Some a) ≡ Some a
    by_tie true same = absurd (other (ap Some (one_id a t same)))
    by_tie false differs = refl

  past_here : past (Some t) ≡ (standing t).next
  unfolding past
  past_here = ap (λ tie. cond tie (standing t).next (Some t)) (itself t)

  next_past : (a : ObjId) → a ≢ t → (standing' a).next ≡ past (standing a).next
  next_past a apart =
      elim (cases_some (standing t).previous a) [
        | inl before ↦ next_before a before ∙ sym (ap past (queues.back a t before) ∙ past_here)
        | inr far ↦ next_other a apart far ∙ sym (past_other (standing a).next (λ next. far (queues.onward a t next)))
      ]

  first_past : (ends' q).first ≡ past (ends q).first
  first_past = by_previous (standing t).previous refl where
    by_previous : (o : Option ObjId) → (standing t).previous ≡ o → (ends' q).first ≡ past (ends q).first
    by_previous None none = first_alone none ∙ sym (ap past (queues.is_first q t waits none) ∙ past_here)
    by_previous (Some b) some =
        first_kept b some
        ∙ sym (past_other (ends q).first (λ first. let none = (queues.first_is q t first).1 in cc))

  past_walk :
      (most : ℕ) (from : Option ObjId) → ((a : ObjId) → from ≡ Some a → (standing a).at ≡ Some q)
      → ((a : ObjId) → from ≡ Some a → numbers ≤ most + queues.rank a)
      → walk standing' most (past from) ≡ others (walk standing most from)
  unfolding past
  past_walk zero from stands long = refl
  past_walk (suc most) None stands long = refl
  past_walk (suc most) (Some a) stands long =
      by_tie (past_walk most (standing a).next (λ b is. queues.beside a b is ∙ stands a refl) (λ b is.
      let later : queues.rank a < queues.rank b = queues.later a b is in
      let more : numbers ≤ suc most + queues.rank a = long a refl in omega arith)) (same_id a t) refl
    where
      by_tie :
          walk standing' most (past (standing a).next) ≡ others (walk standing most (standing a).next)
          → (tie : Bool) → same_id a t ≡ tie
          → walk standing' (suc most) (cond tie (standing t).next (Some a))
          ≡ cond (not tie) (a ∷ others (walk standing most (standing a).next)) (others (walk standing most (standing a).next))
      by_tie rest true tie =
          let same : a ≡ t = one_id a t tie in
          let next : past (standing a).next ≡ (standing t).next =
          ap (λ k. past (standing k).next) same ∙ past_other (standing t).next (λ is. apart_next t t is refl) in
          walk_ends ends' standing' numbers quit_queues q most (standing t).next
          (λ b is. at_other b (apart_behind b is) ∙ queues.beside t b is ∙ waits)
          (λ b is.
          let later : queues.rank t < queues.rank b = queues.later t b is in
          let equal : queues.rank a ≡ queues.rank t = ap queues.rank same in
          let rank : quit_queues.rank b ≡ queues.rank b = quit_rank b in
          let more : numbers ≤ suc most + queues.rank a = long a refl in omega arith)
          ∙ ap (walk standing' most) (sym next) ∙ rest
      by_tie rest false tie =
          ap (λ xs. a ∷ xs) (ap (walk standing' most) (next_past a (two_ids a t tie)) ∙ rest)

  pub quit_here : walk standing' numbers (ends' q).first ≡ others (walk standing numbers (ends q).first)
  quit_here =
      ap (walk standing' numbers) first_past
      ∙ past_walk numbers (ends q).first (λ a is. (queues.first_is q a is).0) (λ a is. omega arith)

  pub quit_elsewhere : (p : ObjId) → p ≢ q → walk standing' numbers (ends' p).first ≡ walk standing numbers (ends p).first
  quit_elsewhere p apart =
      ap (λ e. walk standing' numbers e.first) (quits.ends_other p apart)
      ∙ walk_same ends standing numbers queues standing' p
      (λ a at.
      next_other a (λ same. let here = waits in apart cc)
      (λ before. let beside = queues.beside a t (queues.back a t before) in let here = waits in apart cc))
      numbers (ends p).first
      (λ a is. (queues.first_is p a is).0)
