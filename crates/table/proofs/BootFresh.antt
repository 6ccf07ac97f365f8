-- That a boot state obeys the boot rule.
use Rattle.std.{specs.{Option.option_and_then, Prelude.option_map}, proofs.Common.{[], ◌∙◌, ◌≡◌, ◌⊎◌, ap, inl, inr, refl, replicate, sym}}
use Rattle.base.specs.declared.ids.ObjId.{ObjId}
use Rattle.machine.specs.declared.{object.Object.{Object, Object as o}, thread.{RunState.{RunState, RunState as run}, Tcb.Tcb}}
use Rattle.machine.specs.{Boot.{IsBoot, IsFresh, bound}, Layout.{Layout, initial_cap}, Machine.Machine, Objects.word_count}
use Rattle.table.{specs.{Rules.{IsAtRest, IsLawful}, Tree.{is_original, is_original_from, source_of}}, proofs.BootLinks.boot-queue}
use Rattle.table.proofs.BootParts.{at_boot, declares, mark-law}

rests-cases : (state : RunState) → IsAtRest state → (state ≡ run.Ready) ⊎ (state ≡ run.Inactive)
rests-cases run.Ready rests = inl refl
rests-cases run.Inactive rests = inr refl
rests-cases _ rests = absurd rests

-- an object that is bound to a thread is declared as a thread
thread-declared :
    (t : Layout) (id : ObjId) (thread : Tcb) (object : Object) → o.Tcb thread ≡ bound t id object
    → (declared : Tcb) × (object ≡ o.Tcb declared) × (thread.state ≡ declared.state)
thread-declared t id thread (o.Tcb declared) is = (declared, refl, cc)
thread-declared t id thread (o.Untyped _) is = absurd cc
thread-declared t id thread (o.CNode _) is = absurd cc
thread-declared t id thread (o.Endpoint _) is = absurd cc
thread-declared t id thread (o.Notification _) is = absurd cc
thread-declared t id thread (o.Reply _) is = absurd cc
thread-declared t id thread (o.Context _) is = absurd cc
thread-declared t id thread (o.Frame _) is = absurd cc
thread-declared t id thread (o.Control _) is = absurd cc

pub boot-fresh : (t : Layout) (m : Machine) → IsLawful t → IsBoot t m → IsFresh t m
unfolding is_original source_of
boot-fresh t m lawful boot = record {
  watermarks = λ id memory present. at_boot t m id (o.Untyped memory) lawful boot present;
  has_queue =
      λ id object present.
      ([], boot.queues id ∙ ap (option_map (λ (object : Object). [])) (sym (boot.objects id) ∙ present));
  empty_queues = λ id threads queue. boot-queue t m id threads boot queue;
  at_rest = λ id thread present. rests-cases thread.state (at_boot t m id (o.Tcb thread) lawful boot present).0;
  as_declared =
      λ id thread present.
      let declared = declares t m id (o.Tcb thread) boot present in
      let as_thread = thread-declared t id thread declared.initial.object declared.is in
      (declared.initial, as_thread.0, declared.at, as_thread.1, as_thread.2);
  inboxes = λ id thread present. (at_boot t m id (o.Tcb thread) lawful boot present).1;
  notifications = λ id notification present. at_boot t m id (o.Notification notification) lawful boot present;
  replies = λ id answer present. at_boot t m id (o.Reply answer) lawful boot present;
  frames =
      λ id frame present.
      boot.words id ∙ ap (option_map (λ (object : Object). replicate (word_count object) 0)) (sym (boot.objects id) ∙ present);
  originals =
      λ slot held filled parentless.
      mark-law t m slot held lawful boot filled
      ∙ ap (λ parent. is_original_from (option_and_then (initial_cap t) parent) held.detail)
      (sym (boot.parents slot) ∙ parentless);
}
