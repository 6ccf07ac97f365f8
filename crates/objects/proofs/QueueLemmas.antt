-- Links of queues stay so as a thread joins a queue, and the queues are then as they were, with the thread at the end of one.
use Rattle.std.specs.{Option.option_or, Prelude.{Contains, List, None, Option, Some, slice_get}}
use Rattle.std.proofs.Common.{[], ℕ, ◌++◌, ◌+◌, ◌<◌, ◌∙◌, ◌∷◌, ◌≡◌, ◌≢◌, ◌≤◌, ◌⊎◌, ap, arith, inl}
use Rattle.std.proofs.{Common.{inr, refl, subst, suc, sym, zero}, lemmas.Bool.{cases_eq, cases_lt}}
use Rattle.{slab.proofs.SlabLemmas.{Contains-cons, Contains-cons_cases}, base.specs.declared.ids.ObjId.ObjId}
use Rattle.objects.specs.{declared.links.{Ends.Ends, Standing.Standing}, Queues.{AreQueues, walk}}
use Rattle.objects.proofs.RankLemmas.{moved, moved_below, moved_beyond, moved_last, moved_later, moved_one_each}

pub cases_id : (a b : ObjId) → (a ≡ b) ⊎ (a ≢ b)
cases_id a b =
    elim (cases_eq a.0 b.0) [
      | inl same ↦ inl (ap (λ n. record { 0 = n }) same)
      | inr differs ↦ inr (λ same. differs (ap (λ id. id.0) same))
    ]

pub cases_some : (o : Option ObjId) (a : ObjId) → (o ≡ Some a) ⊎ (o ≢ Some a)
cases_some None a = inr (λ same. cc)
cases_some (Some b) a =
    elim (cases_id b a) [ inl same ↦ inl (ap Some same) | inr differs ↦ inr (λ same. differs cc) ]

-- the thread t joins the end of the queue q
pub record Joins (ends ends' : ObjId → Ends) (standing standing' : ObjId → Standing) (q t : ObjId) : Type 0 where
  pub ends_here : ends' q ≡ record { first = option_or (ends q).first (Some t); last = Some t }
  pub ends_other : (p : ObjId) → p ≢ q → ends' p ≡ ends p
  pub joined : standing' t ≡ record { at = Some q; previous = (ends q).last; next = None }
  pub before : (a : ObjId) → (ends q).last ≡ Some a → standing' a ≡ record (standing a) { next = Some t }
  pub kept : (a : ObjId) → a ≢ t → (ends q).last ≢ Some a → standing' a ≡ standing a

pub walk_none : (standing : ObjId → Standing) (most : ℕ) → walk standing most None ≡ []
walk_none standing zero = refl
walk_none standing (suc most) = refl

-- a queue by its walk

module _ (ends : ObjId → Ends) (standing : ObjId → Standing) (numbers : ℕ) (queues : AreQueues ends standing numbers) where
  low : (a q : ObjId) → (standing a).at ≡ Some q → queues.rank a < numbers
  low a q at = queues.ranked a (queues.known a q at)

  -- a walk in another state that links the threads of the queue alike
  pub walk_same :
      (other : ObjId → Standing) (q : ObjId)
      → ((a : ObjId) → (standing a).at ≡ Some q → (other a).next ≡ (standing a).next)
      → (most : ℕ) (from : Option ObjId) → ((a : ObjId) → from ≡ Some a → (standing a).at ≡ Some q)
      → walk other most from ≡ walk standing most from
  walk_same other q alike zero from stands = refl
  walk_same other q alike (suc most) None stands = refl
  walk_same other q alike (suc most) (Some a) stands =
      ap (λ rest. a ∷ rest)
      (ap (walk other most) (alike a (stands a refl))
      ∙ walk_same other q alike most (standing a).next (λ b is. queues.beside a b is ∙ stands a refl))

  -- a walk of as many steps as there are numbers has come to the end
  pub walk_ends :
      (q : ObjId) (most : ℕ) (from : Option ObjId) → ((a : ObjId) → from ≡ Some a → (standing a).at ≡ Some q)
      → ((a : ObjId) → from ≡ Some a → numbers ≤ most + queues.rank a)
      → walk standing (suc most) from ≡ walk standing most from
  walk_ends q zero None stands long = refl
  walk_ends q zero (Some a) stands long =
      let less : queues.rank a < numbers = low a q (stands a refl) in
      let more : numbers ≤ 0 + queues.rank a = long a refl in absurd (omega arith)
  walk_ends q (suc most) None stands long = refl
  walk_ends q (suc most) (Some a) stands long =
      ap (λ rest. a ∷ rest)
      (walk_ends q most (standing a).next (λ b is. queues.beside a b is ∙ stands a refl)
      (λ b is.
      let later : queues.rank a < queues.rank b = queues.later a b is in
      let more : numbers ≤ suc most + queues.rank a = long a refl in omega arith))

  -- each thread is on a walk once

  walk_beyond :
      (t : ObjId) (most : ℕ) (from : Option ObjId) → ((a : ObjId) → from ≡ Some a → queues.rank t < queues.rank a)
      → ¬ (Contains (walk standing most from) t)
  walk_beyond t zero from beyond there = absurd (omega (arith, there.1))
  walk_beyond t (suc most) None beyond there = absurd (omega (arith, there.1))
  walk_beyond t (suc most) (Some a) beyond there =
      let less : queues.rank t < queues.rank a = beyond a refl in
      elim (Contains-cons_cases a t (walk standing most (standing a).next) there) [
        | inl same ↦ let equal : queues.rank a ≡ queues.rank t = ap queues.rank same in omega arith
        | inr rest ↦
            walk_beyond t most (standing a).next
            (λ b is. let later : queues.rank a < queues.rank b = queues.later a b is in omega arith) rest
      ]

  pub walk_once :
      (most : ℕ) (from : Option ObjId) (t : ObjId) (others : List ObjId) → walk standing most from ≡ t ∷ others
      → ¬ (Contains others t)
  walk_once zero from t others is there = cc
  walk_once (suc most) None t others is there = cc
  walk_once (suc most) (Some a) t others is there =
      let same : a ≡ t = cc in
      let rest : walk standing most (standing a).next ≡ others = cc in
      walk_beyond a most (standing a).next (λ b next. queues.later a b next)
      (subst (λ k. Contains (walk standing most (standing a).next) k) (sym same) (subst (λ all. Contains all t) (sym rest) there))

  first_stands : (q a : ObjId) → (ends q).first ≡ Some a → (standing a).at ≡ Some q
  first_stands q a is = (queues.first_is q a is).0

  -- the thread behind one that is on the walk is on it too
  on_walk :
      (q : ObjId) (most : ℕ) (from : Option ObjId) (a b : ObjId) → ((c : ObjId) → from ≡ Some c → (standing c).at ≡ Some q)
      → ((c : ObjId) → from ≡ Some c → numbers ≤ most + queues.rank c) → Contains (walk standing most from) a
      → (standing a).next ≡ Some b → Contains (walk standing most from) b
  on_walk q zero from a b stands long there next = absurd (omega (arith, there.1))
  on_walk q (suc most) None a b stands long there next = absurd (omega (arith, there.1))
  on_walk q (suc most) (Some c) a b stands long there next =
      let more : numbers ≤ suc most + queues.rank c = long c refl in
      elim (Contains-cons_cases c a (walk standing most (standing c).next) there) [
        | inl same ↦
            let next_c : (standing c).next ≡ Some b = ap (λ d. (standing d).next) same ∙ next in
            Contains-cons c b (walk standing most (standing c).next) (after c b most (stands c refl) next_c more)
        | inr rest ↦
            Contains-cons c b (walk standing most (standing c).next)
            (on_walk q most (standing c).next a b (λ d is. queues.beside c d is ∙ stands c refl)
            (λ d is. let later : queues.rank c < queues.rank d = queues.later c d is in omega arith) rest next)
      ]
    where
      after :
          (c b : ObjId) (most : ℕ) → (standing c).at ≡ Some q → (standing c).next ≡ Some b → numbers ≤ suc most + queues.rank c
          → Contains (walk standing most (standing c).next) b
      after c b zero at next more =
          let later : queues.rank c < queues.rank b = queues.later c b next in
          let less : queues.rank b < numbers = low b q (queues.beside c b next ∙ at) in absurd (omega arith)
      after c b (suc most) at next more = rw next (zero, omega arith, refl)

  begins : (most : ℕ) (a : ObjId) → 0 < most → Contains (walk standing most (Some a)) a
  begins zero a some = absurd (omega arith)
  begins (suc most) a some = (zero, omega arith, refl)

  -- each thread that waits somewhere is in that queue
  pub reaches :
      (q : ObjId) (order : ℕ) (a : ObjId) → queues.rank a < order → (standing a).at ≡ Some q
      → Contains (walk standing numbers (ends q).first) a
  reaches q zero a less at = absurd (omega arith)
  reaches q (suc order) a less at = by_previous (λ b lower at_b. reaches q order b lower at_b) (standing a).previous refl where
    by_previous :
        ((b : ObjId) → queues.rank b < order → (standing b).at ≡ Some q → Contains (walk standing numbers (ends q).first) b)
        → (o : Option ObjId) → (standing a).previous ≡ o → Contains (walk standing numbers (ends q).first) a
    by_previous earlier None is =
        let under : queues.rank a < numbers = low a q at in rw (queues.is_first q a at is) (begins numbers a (omega arith))
    by_previous earlier (Some b) is =
        let next : (standing b).next ≡ Some a = queues.back b a is in
        let later : queues.rank b < queues.rank a = queues.later b a next in
        on_walk q numbers (ends q).first b a (first_stands q) (λ c e. omega arith)
        (earlier b (omega arith) (sym (queues.beside b a next) ∙ at)) next

  pub walk_first : (q : ObjId) (o : Option ObjId) → (ends q).first ≡ o → slice_get (walk standing numbers o) 0 ≡ o
  walk_first q None is = ap (λ xs. slice_get xs 0) (walk_none standing numbers)
  walk_first q (Some a) is = by_numbers numbers (low a q (first_stands q a is)) where
    by_numbers : (n : ℕ) → queues.rank a < n → slice_get (walk standing n (Some a)) 0 ≡ Some a
    by_numbers zero less = absurd (omega arith)
    by_numbers (suc n) less = refl

  -- one more number

  pub more_numbers : AreQueues ends standing (numbers + 1)
  more_numbers =
      record {
        rank = queues.rank;
        one_each = queues.one_each;
        ranked = λ a less. elim (cases_lt a.0 numbers) [
          | inl before ↦ let low : queues.rank a < numbers = queues.ranked a before in omega arith
          | inr from ↦ let fixed : queues.rank a ≡ a.0 = queues.unranked a from in omega arith
        ];
        unranked = λ a more. queues.unranked a (omega arith);
        known = λ a q at. (let number : a.0 < numbers = queues.known a q at in omega arith);
        later = queues.later;
        beside = queues.beside;
        onward = queues.onward;
        back = queues.back;
        first_is = queues.first_is;
        is_first = queues.is_first;
        last_is = queues.last_is;
        is_last = queues.is_last;
        no_first = queues.no_first;
        no_last = queues.no_last;
        nowhere = queues.nowhere;
      }

  pub longer_walk : (q : ObjId) → walk standing (numbers + 1) (ends q).first ≡ walk standing numbers (ends q).first
  longer_walk q = by_numbers (numbers + 1) (omega arith) where
    by_numbers : (n : ℕ) → n ≡ numbers + 1 → walk standing n (ends q).first ≡ walk standing numbers (ends q).first
    by_numbers zero same = absurd (omega arith)
    by_numbers (suc n) same =
        subst (λ k. walk standing (suc k) (ends q).first ≡ walk standing numbers (ends q).first) (sym (omega arith))
        (walk_ends q numbers (ends q).first (first_stands q) (λ a is. omega arith))

-- a thread that waits nowhere joins the end of a queue

module _ (ends ends' : ObjId → Ends) (standing standing' : ObjId → Standing) (numbers : ℕ)
    (queues : AreQueues ends standing numbers) (q t : ObjId) (joins : Joins ends ends' standing standing' q t)
    (known : t.0 < numbers) (free : (standing t).at ≡ None) where
  first_after : (ends' q).first ≡ option_or (ends q).first (Some t)
  first_after = ap (λ e. e.first) joins.ends_here

  last_after : (ends' q).last ≡ Some t
  last_after = ap (λ e. e.last) joins.ends_here

  at_here : (standing' t).at ≡ Some q
  at_here = ap (λ s. s.at) joins.joined

  previous_here : (standing' t).previous ≡ (ends q).last
  previous_here = ap (λ s. s.previous) joins.joined

  -- the others wait at the same objects, behind the same threads
  as_before : (a : ObjId) → a ≢ t → ((standing' a).at ≡ (standing a).at) × ((standing' a).previous ≡ (standing a).previous)
  as_before a apart =
      elim (cases_some (ends q).last a) [
        | inl last ↦ (ap (λ s. s.at) (joins.before a last), ap (λ s. s.previous) (joins.before a last))
        | inr other ↦ (ap (λ s. s.at) (joins.kept a apart other), ap (λ s. s.previous) (joins.kept a apart other))
      ]

  next_last : (a : ObjId) → (ends q).last ≡ Some a → (standing' a).next ≡ Some t
  next_last a last = ap (λ s. s.next) (joins.before a last)

  next_other : (a : ObjId) → (ends q).last ≢ Some a → (standing' a).next ≡ (standing a).next
  next_other a other =
      elim (cases_id a t) [
        | inl same ↦
            let none : (standing t).next ≡ None = (queues.nowhere t free).1 in
            let now : (standing' t).next ≡ None = ap (λ s. s.next) joins.joined in cc
        | inr apart ↦ ap (λ s. s.next) (joins.kept a apart other)
      ]

  -- nobody stood beside the thread
  apart_next : (a b : ObjId) → (standing a).next ≡ Some b → (a ≢ t) × (b ≢ t)
  apart_next a b is =
      let none = queues.nowhere t free in
      let next = none.1 in
      let previous = none.0 in
      let back = queues.onward a b is in
      ((λ same. cc), (λ same. cc))

  apart_at : (a p : ObjId) → (standing a).at ≡ Some p → a ≢ t
  apart_at a p is same = cc

  joined_known : (a p : ObjId) → (standing' a).at ≡ Some p → a.0 < numbers
  joined_known a p is =
      elim (cases_id a t) [
        | inl same ↦ let number : a.0 ≡ t.0 = ap (λ id. id.0) same in omega arith
        | inr apart ↦ queues.known a p (sym (as_before a apart).0 ∙ is)
      ]

  joined_later :
      (a b : ObjId) → (standing' a).next ≡ Some b
      → moved (queues.rank t) numbers (queues.rank a) < moved (queues.rank t) numbers (queues.rank b)
  joined_later a b is =
      let below : queues.rank t < numbers = queues.ranked t known in
      elim (cases_some (ends q).last a) [
        | inl last ↦
            let behind : Some b ≡ Some t = sym is ∙ next_last a last in
            let same : queues.rank b ≡ queues.rank t = cc in
            let at : (standing a).at ≡ Some q = (queues.last_is q a last).0 in
            rw same
            (moved_last (queues.rank t) numbers below (queues.rank a) (λ e. apart_at a q at (queues.one_each a t e))
            (queues.ranked a (queues.known a q at)))
        | inr other ↦
            let next : (standing a).next ≡ Some b = sym (next_other a other) ∙ is in
            let apart = apart_next a b next in
            moved_later (queues.rank t) numbers below _ _ (λ e. apart.0 (queues.one_each a t e))
            (λ e. apart.1 (queues.one_each b t e)) (queues.later a b next)
      ]

  joined_beside : (a b : ObjId) → (standing' a).next ≡ Some b → (standing' b).at ≡ (standing' a).at
  joined_beside a b is =
      elim (cases_some (ends q).last a) [
        | inl last ↦
            let at : (standing a).at ≡ Some q = (queues.last_is q a last).0 in
            let kept = (as_before a (apart_at a q at)).0 in
            let behind = next_last a last in
            let here = at_here in cc
        | inr other ↦
            let next : (standing a).next ≡ Some b = sym (next_other a other) ∙ is in
            let apart = apart_next a b next in
            (as_before b apart.1).0 ∙ queues.beside a b next ∙ sym (as_before a apart.0).0
      ]

  joined_onward : (a b : ObjId) → (standing' a).next ≡ Some b → (standing' b).previous ≡ Some a
  joined_onward a b is =
      elim (cases_some (ends q).last a) [
        | inl last ↦ let behind = next_last a last in let here = previous_here in cc
        | inr other ↦
            let next : (standing a).next ≡ Some b = sym (next_other a other) ∙ is in
            (as_before b (apart_next a b next).1).1 ∙ queues.onward a b next
      ]

  joined_back : (a b : ObjId) → (standing' b).previous ≡ Some a → (standing' a).next ≡ Some b
  joined_back a b is =
      elim (cases_id b t) [
        | inl same ↦
            let here = previous_here in
            let last : (ends q).last ≡ Some a = cc in next_last a last ∙ ap Some (sym same)
        | inr apart ↦
            let next : (standing a).next ≡ Some b = queues.back a b (sym (as_before b apart).1 ∙ is) in
            next_other a (λ last. let none = (queues.last_is q a last).1 in cc) ∙ next
      ]

  joined_first_is :
      (p a : ObjId) → (ends' p).first ≡ Some a → ((standing' a).at ≡ Some p) × ((standing' a).previous ≡ None)
  joined_first_is p a is =
      elim (cases_id p q) [
        | inl same ↦
            let here : option_or (ends q).first (Some t) ≡ Some a = sym first_after ∙ ap (λ r. (ends' r).first) (sym same) ∙ is in
            let there = by_first (ends q).first refl here in (there.0 ∙ ap Some (sym same), there.1)
        | inr apart ↦
            let first : (ends p).first ≡ Some a = ap (λ e. e.first) (sym (joins.ends_other p apart)) ∙ is in old p first
      ]
    where
      old : (r : ObjId) → (ends r).first ≡ Some a → ((standing' a).at ≡ Some r) × ((standing' a).previous ≡ None)
      old r first =
          let was = queues.first_is r a first in
          let kept = as_before a (apart_at a r was.0) in (kept.0 ∙ was.0, kept.1 ∙ was.1)

      by_first :
          (o : Option ObjId) → (ends q).first ≡ o → option_or o (Some t) ≡ Some a
          → ((standing' a).at ≡ Some q) × ((standing' a).previous ≡ None)
      by_first (Some b) first here = old q (first ∙ here)
      by_first None first here =
          let at = at_here in
          let previous = previous_here in
          let last = queues.no_first q first in (cc, cc)

  joined_is_first :
      (p a : ObjId) → (standing' a).at ≡ Some p → (standing' a).previous ≡ None → (ends' p).first ≡ Some a
  joined_is_first p a at previous =
      elim (cases_id a t) [
        | inl same ↦
            let here = at_here in
            let queue : p ≡ q = cc in
            let before = previous_here in
            let none : (ends q).first ≡ None = queues.no_last q cc in
            ap (λ r. (ends' r).first) queue ∙ first_after ∙ ap (λ o. option_or o (Some t)) none ∙ ap Some (sym same)
        | inr apart ↦
            let kept = as_before a apart in
            let first : (ends p).first ≡ Some a = queues.is_first p a (sym kept.0 ∙ at) (sym kept.1 ∙ previous) in
            elim (cases_id p q) [
              | inl queue ↦
                  ap (λ r. (ends' r).first) queue ∙ first_after
                  ∙ ap (λ o. option_or o (Some t)) (ap (λ r. (ends r).first) (sym queue) ∙ first)
              | inr other ↦ ap (λ e. e.first) (joins.ends_other p other) ∙ first
            ]
      ]

  joined_last_is : (p a : ObjId) → (ends' p).last ≡ Some a → ((standing' a).at ≡ Some p) × ((standing' a).next ≡ None)
  joined_last_is p a is =
      elim (cases_id p q) [
        | inl queue ↦
            let last = last_after in
            let same : Some t ≡ Some a = sym last ∙ ap (λ r. (ends' r).last) (sym queue) ∙ is in
            let at = at_here in
            let next : (standing' t).next ≡ None = ap (λ s. s.next) joins.joined in (cc, cc)
        | inr other ↦
            let last : (ends p).last ≡ Some a = ap (λ e. e.last) (sym (joins.ends_other p other)) ∙ is in
            let was = queues.last_is p a last in (
              (as_before a (apart_at a p was.0)).0 ∙ was.0,
              next_other a (λ here. let at = (queues.last_is q a here).0 in other cc) ∙ was.1,
            )
      ]

  joined_is_last : (p a : ObjId) → (standing' a).at ≡ Some p → (standing' a).next ≡ None → (ends' p).last ≡ Some a
  joined_is_last p a at next =
      elim (cases_id a t) [
        | inl same ↦
            let here = at_here in
            let queue : p ≡ q = cc in ap (λ r. (ends' r).last) queue ∙ last_after ∙ ap Some (sym same)
        | inr apart ↦ elim (cases_some (ends q).last a) [
          | inl last ↦ let behind = next_last a last in cc
          | inr other ↦
              let last : (ends p).last ≡ Some a =
              queues.is_last p a (sym (as_before a apart).0 ∙ at) (sym (next_other a other) ∙ next) in
              ap (λ e. e.last) (joins.ends_other p (λ queue. other (ap (λ r. (ends r).last) (sym queue) ∙ last))) ∙ last
        ]
      ]

  some_or : (o : Option ObjId) (a : ObjId) → option_or o (Some a) ≢ None
  some_or None a is = cc
  some_or (Some b) a is = cc

  joined_no_first : (p : ObjId) → (ends' p).first ≡ None → (ends' p).last ≡ None
  joined_no_first p is =
      elim (cases_id p q) [
        | inl queue ↦ absurd (some_or (ends q).first t (sym first_after ∙ ap (λ r. (ends' r).first) (sym queue) ∙ is))
        | inr other ↦
            let kept = joins.ends_other p other in
            ap (λ e. e.last) kept ∙ queues.no_first p (ap (λ e. e.first) (sym kept) ∙ is)
      ]

  joined_no_last : (p : ObjId) → (ends' p).last ≡ None → (ends' p).first ≡ None
  joined_no_last p is =
      elim (cases_id p q) [
        | inl queue ↦ let last : Some t ≡ None = sym last_after ∙ ap (λ r. (ends' r).last) (sym queue) ∙ is in cc
        | inr other ↦
            let kept = joins.ends_other p other in
            ap (λ e. e.first) kept ∙ queues.no_last p (ap (λ e. e.last) (sym kept) ∙ is)
      ]

  joined_nowhere : (a : ObjId) → (standing' a).at ≡ None → ((standing' a).previous ≡ None) × ((standing' a).next ≡ None)
  joined_nowhere a is =
      elim (cases_id a t) [
        | inl same ↦ let here = at_here in let none = ap (λ b. (standing' b).at) (sym same) ∙ is in cc
        | inr apart ↦
            let kept = as_before a apart in
            let was = queues.nowhere a (sym kept.0 ∙ is) in
            (kept.1 ∙ was.0, next_other a (λ last. let at = (queues.last_is q a last).0 in cc) ∙ was.1)
      ]

  pub joined_queues : AreQueues ends' standing' numbers
  joined_queues =
      let below : queues.rank t < numbers = queues.ranked t known in
      record {
        rank = λ a. moved (queues.rank t) numbers (queues.rank a);
        one_each = λ a b same. queues.one_each a b (moved_one_each (queues.rank t) numbers below _ _ same);
        ranked = λ a less. moved_below (queues.rank t) numbers below _ (queues.ranked a less);
        unranked = λ a more.
            let fixed = queues.unranked a more in
            moved_beyond (queues.rank t) numbers below (queues.rank a) (omega arith) ∙ fixed;
        known = joined_known;
        later = joined_later;
        beside = joined_beside;
        onward = joined_onward;
        back = joined_back;
        first_is = joined_first_is;
        is_first = joined_is_first;
        last_is = joined_last_is;
        is_last = joined_is_last;
        no_first = joined_no_first;
        no_last = joined_no_last;
        nowhere = joined_nowhere;
      }

  -- the queues afterwards

  alone : (most : ℕ) → 0 < most → walk standing' most (Some t) ≡ t ∷ []
  alone zero some = absurd (omega arith)
  alone (suc most) some = ap (λ o. t ∷ walk standing' most o) (ap (λ s. s.next) joins.joined) ∙ ap (λ r. t ∷ r) (walk_none standing' most)

  joined_behind :
      (queues' : AreQueues ends' standing' numbers) (most : ℕ) (a : ObjId) → (standing a).at ≡ Some q
      → numbers ≤ most + queues'.rank a → walk standing' most (Some a) ≡ walk standing most (Some a) ++ t ∷ []
  joined_behind queues' zero a at long =
      let low : queues'.rank a < numbers =
      queues'.ranked a (queues.known a q at) in absurd (omega arith)
  joined_behind queues' (suc most) a at long =
      ap (λ rest. a ∷ rest)
      (by_next (λ b at_b long_b. joined_behind queues' most b at_b long_b) most long (standing a).next refl)
    where
      by_next :
          ((b : ObjId) → (standing b).at ≡ Some q → numbers ≤ most + queues'.rank b
          → walk standing' most (Some b) ≡ walk standing most (Some b) ++ t ∷ [])
          → (m : ℕ) → numbers ≤ suc most + queues'.rank a → (o : Option ObjId) → (standing a).next ≡ o
          → walk standing' most (standing' a).next ≡ walk standing most (standing a).next ++ t ∷ []
      by_next rest m long None none =
          let last : (ends q).last ≡ Some a = queues.is_last q a at none in
          let next : (standing' a).next ≡ Some t = next_last a last in
          let later : queues'.rank a < queues'.rank t = queues'.later a t next in
          let low : queues'.rank t < numbers = queues'.ranked t known in
          rw (next, none) (alone most (omega arith) ∙ sym (ap (λ xs. xs ++ t ∷ []) (walk_none standing most)))
      by_next rest m long (Some b) some =
          let next : (standing' a).next ≡ Some b =
          next_other a (λ last. let none = (queues.last_is q a last).1 in cc) ∙ some in
          let later : queues'.rank a < queues'.rank b = queues'.later a b next in
          rw (next, some) (rest b (queues.beside a b some ∙ at) (omega arith))

  pub joined_here :
      AreQueues ends' standing' numbers
      → walk standing' numbers (ends' q).first ≡ walk standing numbers (ends q).first ++ t ∷ []
  joined_here queues' = ap (walk standing' numbers) first_after ∙ by_first (ends q).first refl where
    by_first :
        (o : Option ObjId) → (ends q).first ≡ o
        → walk standing' numbers (option_or (ends q).first (Some t)) ≡ walk standing numbers (ends q).first ++ t ∷ []
    by_first None none = rw none (alone numbers (omega arith) ∙ sym (ap (λ xs. xs ++ t ∷ []) (walk_none standing numbers)))
    by_first (Some a) some = rw some (joined_behind queues' numbers a (queues.first_is q a some).0 (omega arith))

  pub joined_elsewhere :
      AreQueues ends' standing' numbers → (p : ObjId) → p ≢ q
      → walk standing' numbers (ends' p).first ≡ walk standing numbers (ends p).first
  joined_elsewhere queues' p apart =
      ap (λ e. walk standing' numbers e.first) (joins.ends_other p apart)
      ∙ walk_same ends standing numbers queues standing' p
      (λ a at. next_other a (λ last. let here = (queues.last_is q a last).0 in apart cc)) numbers (ends p).first
      (λ a is. (queues.first_is p a is).0)
