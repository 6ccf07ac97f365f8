use Rattle.std.proofs.Common.{◌<◌, IsSome, None, Option, Some, refl, subst, sym}
use Rattle.{base.specs.declared.ids.ObjId.ObjId, machine.specs.Machine.object_of}
use Rattle.objects.specs.{declared.{entry.Entry.Entry, state.State.TheInside.Inside}, Entries.entry_of, State.{IsConsistent, machine_of}}
use Rattle.objects.proofs.StateLemmas.{next-machine_of, object_at, tells-machine_of}
use Rattle.objects.proofs.state.State.objects_are_numbered.Goals as goal

there : (entry : Option Entry) → IsSome (object_at entry) → IsSome entry
there None some = some
there (Some entry) some = refl

numbered : (s : Inside) → IsConsistent s → (id : ObjId) → IsSome (object_of (machine_of s) id) → id.0 < (machine_of s).next
numbered s consistent id some =
    subst (λ n. id.0 < n) (sym (next-machine_of s))
    (consistent.fresh id (there (entry_of s.store id) (subst IsSome ((tells-machine_of s).objects id) some)))

pub returns : goal.returns
returns c = λ id some. rw (← c.self.view_is) (numbered c.self.inside c.self.invariant.consistent id (rw c.self.view_is some))
