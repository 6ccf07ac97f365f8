-- The difference between two sights of an object, as one of the object itself.
use Rattle.std.proofs.Common.{ℕ, ◌<◌, ◌∙◌, ◌≡◌, List, None, Option, Some, ap, get_or, inl, inr, length, refl, subst, sym}
use Rattle.{std.proofs.lemmas.{List.same_lists, Option.slice_get-get_or}, base.specs.declared.ids.ObjId.ObjId}
use Rattle.machine.specs.{declared.{cap.Cap.Cap, object.Object.Object}, Machine.Machine, Objects.slot_count}
use Rattle.integrity.specs.Shrinks.{HasLess, IsPart, IsSame, Lessens, Shrinks}
use Rattle.runs.specs.{declared.sight.Sight.Sight, Comparing.{AreAlike, HaveLess, IsLess}, Sights.{IsSeen, IsSightOf, held_at}}

pub same_by_sights :
    (m next : Machine) (id : ObjId) (was is : Option Sight) → IsSeen m id was → IsSeen next id is → AreAlike was is
    → IsSame m next id
same_by_sights m next id None None g h alike = record {
  content = h.content ∙ sym g.content;
  queue = h.queue ∙ sym g.queue;
  words = h.words ∙ sym g.words;
  slots = λ index. h.slots index ∙ sym (g.slots index);
}
same_by_sights m next id None (Some is) g h alike = absurd alike
same_by_sights m next id (Some was) None g h alike = absurd alike
same_by_sights m next id (Some was) (Some is) g h alike = record {
  content = h.content ∙ ap Some alike.content ∙ sym g.content;
  queue = h.queue ∙ ap Some alike.queue ∙ sym g.queue;
  words = h.words ∙ ap Some alike.words ∙ sym g.words;
  slots = λ index. h.slots index ∙ ap (λ (slots : List (Option Cap)). held_at slots index) alike.slots ∙ sym (g.slots index);
}

held_is : (slots : List (Option Cap)) (index : ℕ) (d : Option Cap) → index < length slots → held_at slots index ≡ get_or slots index d
held_is slots index d within = rw (slice_get-get_or slots index d within) refl

same_slots :
    (was is : List (Option Cap)) → length is ≡ length was → ((index : ℕ) → held_at is index ≡ held_at was index) → is ≡ was
same_slots was is long each =
    same_lists is was long
    (λ index d within.
    sym (held_is is index d within) ∙ each index ∙ held_is was index d (subst (λ (n : ℕ). index < n) long within))

pub sights_by_same :
    (m next : Machine) (id : ObjId) (was is : Option Sight) → IsSeen m id was → IsSeen next id is → IsSame m next id
    → AreAlike was is
sights_by_same m next id None None g h same = tt
sights_by_same m next id None (Some is) g h same =
    absurd (let no : Some is.content ≡ None = sym h.content ∙ same.content ∙ g.content in cc)
sights_by_same m next id (Some was) None g h same =
    absurd (let no : None ≡ Some was.content = sym h.content ∙ same.content ∙ g.content in cc)
sights_by_same m next id (Some was) (Some is) g h same =
    let contents : Some is.content ≡ Some was.content = sym h.content ∙ same.content ∙ g.content in
    let content : is.content ≡ was.content = cc in
    let queues : Some is.queue.items ≡ Some was.queue.items = sym h.queue ∙ same.queue ∙ g.queue in
    let words : Some is.words.items ≡ Some was.words.items = sym h.words ∙ same.words ∙ g.words in
    record {
      content = content;
      queue = cc;
      words = cc;
      slots =
          same_slots was.slots.items is.slots.items (h.count ∙ ap slot_count content ∙ sym g.count)
          (λ index. sym (h.slots index) ∙ same.slots index ∙ g.slots index);
    }

pub shrinks_by_sights :
    (m next : Machine) (id : ObjId) (was is : Option Sight) → IsSeen m id was → IsSeen next id is → HaveLess was is
    → Shrinks m next id
shrinks_by_sights m next id None None g h less = inl h.content
shrinks_by_sights m next id (Some was) None g h less = inl h.content
shrinks_by_sights m next id None (Some is) g h less = absurd less
shrinks_by_sights m next id (Some was) (Some is) g h less = inr (record {
  old = was.content;
  new = is.content;
  was = g.content;
  is = h.content;
  content = less.content;
  waited = was.queue.items;
  waiting = is.queue.items;
  queue_was = g.queue;
  queue_is = h.queue;
  queue = less.queue;
  words = h.words ∙ ap Some less.words ∙ sym g.words;
  slots = λ index. elim (less.slots index) [
    | inl same ↦ inl (h.slots index ∙ same ∙ sym (g.slots index))
    | inr gone ↦ inr (h.slots index ∙ gone)
  ];
})

of_parts :
    (m next : Machine) (id : ObjId) (was is : Sight) → IsSightOf m id was → IsSightOf next id is → HasLess m next id
    → IsLess was is
of_parts m next id was is g h less =
    let olds : Some less.old ≡ Some was.content = sym less.was ∙ g.content in
    let news : Some less.new ≡ Some is.content = sym less.is ∙ h.content in
    let old : less.old ≡ was.content = cc in
    let new : less.new ≡ is.content = cc in
    let befores : Some less.waited ≡ Some was.queue.items = sym less.queue_was ∙ g.queue in
    let afters : Some less.waiting ≡ Some is.queue.items = sym less.queue_is ∙ h.queue in
    let before : less.waited ≡ was.queue.items = cc in
    let later : less.waiting ≡ is.queue.items = cc in
    let words : Some is.words.items ≡ Some was.words.items = sym h.words ∙ less.words ∙ g.words in
    record {
      content =
          subst (λ (x : Object). Lessens x is.content) old (subst (λ (x : Object). Lessens less.old x) new less.content);
      queue =
          subst (λ (x : List ObjId). IsPart x was.queue.items) later
          (subst (λ (x : List ObjId). IsPart less.waiting x) before less.queue);
      words = cc;
      slots = λ index. elim (less.slots index) [
        | inl same ↦ inl (sym (h.slots index) ∙ same ∙ g.slots index)
        | inr gone ↦ inr (sym (h.slots index) ∙ gone)
      ];
    }

pub sights_by_shrinking :
    (m next : Machine) (id : ObjId) (was is : Option Sight) → IsSeen m id was → IsSeen next id is → Shrinks m next id
    → HaveLess was is
sights_by_shrinking m next id None None g h less = tt
sights_by_shrinking m next id (Some was) None g h less = tt
sights_by_shrinking m next id None (Some is) g h (inl gone) = absurd (let no : Some is.content ≡ None = sym h.content ∙ gone in cc)
sights_by_shrinking m next id None (Some is) g h (inr less) = absurd (let no : Some less.old ≡ None = sym less.was ∙ g.content in cc)
sights_by_shrinking m next id (Some was) (Some is) g h (inl gone) =
    absurd (let no : Some is.content ≡ None = sym h.content ∙ gone in cc)
sights_by_shrinking m next id (Some was) (Some is) g h (inr less) = of_parts m next id was is g h less
