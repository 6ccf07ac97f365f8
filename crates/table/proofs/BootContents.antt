-- The contents of objects in a boot state: which have a queue or words, and that their ranges obey the table's rules.
use Rattle.std.{specs.Prelude.{Some, option_map}, proofs.Common.{[], ◌∙◌, ◌≡◌, ◌≤◌, ap, replicate, subst, sym}}
use Rattle.{std.proofs.lemmas.List.length-replicate, base.specs.declared.{ids.ObjId.ObjId, limits.TheConstants.ADDRESS_END}}
use Rattle.machine.specs.{declared.object.Object.{Object, Object as o}, Boot.{IsBoot, booted, bound}, Layout.Layout}
use Rattle.machine.specs.{Machine.{Machine, object_of}, Objects.{end_of, word_count}, WellFormed.{IsRanged, PartsFit}}
use Rattle.table.{specs.Rules.{IsBlank, IsLawful}, proofs.BootParts.{declared-law, declares, map-some}}

pub boot-parts : (t : Layout) (m : Machine) → IsBoot t m → PartsFit m
boot-parts t m boot = record {
  queue =
      λ id object present. ([], boot.queues id ∙ ap (option_map (λ (x : Object). [])) (sym (boot.objects id) ∙ present));
  words =
      λ id object present. (
        replicate (word_count object) 0,
        boot.words id ∙ ap (option_map (λ (x : Object). replicate (word_count x) 0)) (sym (boot.objects id) ∙ present),
        length-replicate (word_count object) 0,
      );
  queue_of_object =
      λ id threads queued.
      let there = map-some (λ (x : Object). []) (booted t id) threads (sym (boot.queues id) ∙ queued) in
      (there.0, boot.objects id ∙ there.1);
  words_of_object =
      λ id words has.
      let there =
      map-some (λ (x : Object). replicate (word_count x) 0) (booted t id) words (sym (boot.words id) ∙ has) in
      (there.0, boot.objects id ∙ there.1);
}

ranged-bound : (t : Layout) (id : ObjId) (object : Object) → IsBlank object → end_of object ≤ ADDRESS_END → IsRanged (bound t id object)
ranged-bound t id (o.Untyped _) blank ends = (blank.0, blank.1, ends)
ranged-bound t id (o.Tcb _) blank ends = ends
ranged-bound t id (o.Context _) blank ends = ends
ranged-bound t id _ blank ends = ends

pub boot-ranged :
    (t : Layout) (m : Machine) (id : ObjId) (object : Object) → IsLawful t → IsBoot t m → object_of m id ≡ Some object
    → IsRanged object
boot-ranged t m id object lawful boot present =
    let declared = declares t m id object boot present in
    let law = declared-law t id object lawful declared in
    subst (λ (x : Object). IsRanged x) (sym declared.is) (ranged-bound t id declared.initial.object law.blank law.end)
