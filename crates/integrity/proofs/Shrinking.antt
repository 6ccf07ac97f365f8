-- Shrinking twice is shrinking, and so is staying the same before or after.
use Rattle.std.proofs.{Common.{◌∙◌, ◌≡◌, ◌⊎◌, List, None, Option, ap, inl, inr, subst, sym}, lemmas.Option.{none-some, same_Some}}
use Rattle.base.specs.declared.ids.ObjId.{ObjId}
use Rattle.machine.specs.declared.{cap.Cap.Cap, object.{Context.Context, Object.{Object, Object as o}, Reply.Reply}, thread.Tcb.Tcb}
use Rattle.machine.specs.Machine.{Machine}
use Rattle.integrity.specs.Shrinks.{HasLess, IsBlocked, IsPart, IsSame, Lessens, LosesLink, Shrinks, Stops, IsPart.{ended, left, stayed}}
use Rattle.integrity.specs.Shrinks.{Lessens.{as_it_was, freed, released, unbound}, Stops.{aborted, goes_on, halted}}

pub same_tcb : (a b : Tcb) → o.Tcb a ≡ o.Tcb b → a ≡ b
same_tcb a b e = cc

pub same_reply : (a b : Reply) → o.Reply a ≡ o.Reply b → a ≡ b
same_reply a b e = cc

pub same_context : (a b : Context) → o.Context a ≡ o.Context b → a ≡ b
same_context a b e = cc

part_part : (a b c : List ObjId) → IsPart a b → IsPart b c → IsPart a c
part_part a b c first ended = first
part_part a b c first (left more) = left (part_part a b _ first more)
part_part a b c (stayed first) (stayed more) = stayed (part_part _ _ _ first more)
part_part a b c (left first) (stayed more) = left (part_part a _ _ first more)

loses_loses : (a b c : Option ObjId) → LosesLink a b → LosesLink b c → LosesLink a c
loses_loses a b c (inl one) (inl two) = inl (two ∙ one)
loses_loses a b c (inr one) (inl two) = inr (two ∙ one)
loses_loses a b c first (inr two) = inr two

stops_stops : (a b c : Tcb) → Stops a b → Stops b c → Stops a c
stops_stops a b c (goes_on s i) (goes_on s' i') = goes_on (s' ∙ s) (i' ∙ i)
stops_stops a b c (goes_on s i) (aborted blocked s' i') = aborted (subst IsBlocked s blocked) s' i'
stops_stops a b c (goes_on s i) (halted blocked s' i') = halted (subst IsBlocked s blocked) s' (i' ∙ i)
stops_stops a b c (aborted blocked s i) (goes_on s' i') = aborted blocked (s' ∙ s) (i' ∙ i)
stops_stops a b c (aborted blocked s i) (aborted again s' i') = absurd (subst IsBlocked s again)
stops_stops a b c (aborted blocked s i) (halted again s' i') = absurd (subst IsBlocked s again)
stops_stops a b c (halted blocked s i) (goes_on s' i') = halted blocked (s' ∙ s) (i' ∙ i)
stops_stops a b c (halted blocked s i) (aborted again s' i') = absurd (subst IsBlocked s again)
stops_stops a b c (halted blocked s i) (halted again s' i') = absurd (subst IsBlocked s again)

lessens_lessens : (a b c : Object) → Lessens a b → Lessens b c → Lessens a c
lessens_lessens a b c (as_it_was same) more = subst (λ (x : Object). Lessens x c) same more
lessens_lessens a b c first (as_it_was same) = subst (λ (x : Object). Lessens a x) (sym same) first
lessens_lessens a b c (released was is x y address stops context) (released was' is' x' y' address' stops' context') =
    let same : was' ≡ is = same_tcb was' is (sym x' ∙ y) in
    released was is' x y' (address' ∙ ap (λ (t : Tcb). t.address) same ∙ address)
    (stops_stops was is is' stops (subst (λ (t : Tcb). Stops t is') same stops'))
    (loses_loses was.context is.context is'.context context (subst (λ (t : Tcb). LosesLink t.context is'.context) same context'))
lessens_lessens a b c (freed was is x y address free) (freed was' is' x' y' address' free') =
    let same : was' ≡ is = same_reply was' is (sym x' ∙ y) in freed was is' x y' (address' ∙ ap (λ (t : Reply). t.address) same ∙ address) free'
lessens_lessens a b c (unbound was is x y address share thread) (unbound was' is' x' y' address' share' thread') =
    let same : was' ≡ is = same_context was' is (sym x' ∙ y) in
    unbound was is' x y' (address' ∙ ap (λ (t : Context). t.address) same ∙ address)
    (share' ∙ ap (λ (t : Context). t.share) same ∙ share) thread'
lessens_lessens a b c (released was is x y address stops context) (freed was' is' x' y' address' free') = cc
lessens_lessens a b c (released was is x y address stops context) (unbound was' is' x' y' address' share' thread') = cc
lessens_lessens a b c (freed was is x y address free) (released was' is' x' y' address' stops' context') = cc
lessens_lessens a b c (freed was is x y address free) (unbound was' is' x' y' address' share' thread') = cc
lessens_lessens a b c (unbound was is x y address share thread) (released was' is' x' y' address' stops' context') = cc
lessens_lessens a b c (unbound was is x y address share thread) (freed was' is' x' y' address' free') = cc

lost_lost : (a b c : Option Cap) → (b ≡ a) ⊎ (b ≡ None) → (c ≡ b) ⊎ (c ≡ None) → (c ≡ a) ⊎ (c ≡ None)
lost_lost a b c (inl one) (inl two) = inl (two ∙ one)
lost_lost a b c (inr one) (inl two) = inr (two ∙ one)
lost_lost a b c first (inr two) = inr two

less_less : (m mid next : Machine) (id : ObjId) → HasLess m mid id → HasLess mid next id → HasLess m next id
less_less m mid next id first more =
    let same : more.old ≡ first.new = same_Some more.old first.new (sym more.was ∙ first.is) in
    let queue : more.waited ≡ first.waiting = same_Some more.waited first.waiting (sym more.queue_was ∙ first.queue_is) in
    record {
      old = first.old;
      new = more.new;
      was = first.was;
      is = more.is;
      content = lessens_lessens first.old first.new more.new first.content (subst (λ (x : Object). Lessens x more.new) same more.content);
      waited = first.waited;
      waiting = more.waiting;
      queue_was = first.queue_was;
      queue_is = more.queue_is;
      queue = part_part more.waiting first.waiting first.waited (subst (λ (l : List ObjId). IsPart more.waiting l) queue more.queue) first.queue;
      words = more.words ∙ first.words;
      slots = λ index. lost_lost _ _ _ (first.slots index) (more.slots index);
    }

pub shrinks_shrinks : (m mid next : Machine) (id : ObjId) → Shrinks m mid id → Shrinks mid next id → Shrinks m next id
shrinks_shrinks m mid next id first (inl gone) = inl gone
shrinks_shrinks m mid next id (inl gone) (inr less) = absurd (none-some less.old (sym gone ∙ less.was))
shrinks_shrinks m mid next id (inr less) (inr more) = inr (less_less m mid next id less more)

pub same_same : (m mid next : Machine) (id : ObjId) → IsSame m mid id → IsSame mid next id → IsSame m next id
same_same m mid next id first more =
    record { content = more.content ∙ first.content; queue = more.queue ∙ first.queue; words = more.words ∙ first.words; slots = λ index. more.slots index ∙ first.slots index }

kept_lost : (a b c : Option Cap) → b ≡ a → (c ≡ b) ⊎ (c ≡ None) → (c ≡ a) ⊎ (c ≡ None)
kept_lost a b c one two = lost_lost a b c (inl one) two

pub same_shrinks : (m mid next : Machine) (id : ObjId) → IsSame m mid id → Shrinks mid next id → Shrinks m next id
same_shrinks m mid next id same (inl gone) = inl gone
same_shrinks m mid next id same (inr less) =
    inr (record {
      old = less.old;
      new = less.new;
      was = sym same.content ∙ less.was;
      is = less.is;
      content = less.content;
      waited = less.waited;
      waiting = less.waiting;
      queue_was = sym same.queue ∙ less.queue_was;
      queue_is = less.queue_is;
      queue = less.queue;
      words = less.words ∙ same.words;
      slots = λ index. kept_lost _ _ _ (same.slots index) (less.slots index);
    })

pub shrinks_same : (m mid next : Machine) (id : ObjId) → Shrinks m mid id → IsSame mid next id → Shrinks m next id
shrinks_same m mid next id (inl gone) same = inl (same.content ∙ gone)
shrinks_same m mid next id (inr less) same =
    inr (record {
      old = less.old;
      new = less.new;
      was = less.was;
      is = same.content ∙ less.is;
      content = less.content;
      waited = less.waited;
      waiting = less.waiting;
      queue_was = less.queue_was;
      queue_is = same.queue ∙ less.queue_is;
      queue = less.queue;
      words = same.words ∙ less.words;
      slots = λ index. lost_lost _ _ _ (less.slots index) (inl (same.slots index));
    })
