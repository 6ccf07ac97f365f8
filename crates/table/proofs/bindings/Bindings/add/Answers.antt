-- That the list of threads has room for the context's number, and has the new thread there.
use Rattle.std.proofs.{Common.{◌+◌, ◌<◌, ◌≡◌, ◌≤◌, None, arith, length, refl, subst, sym, vec_len}, lemmas.Grind.common_steps}
use Rattle.table.{specs.Aims.thread_bound_to, proofs.{BindingAdded.threads_with, ListLemmas.lengthened}}
use Rattle.table.proofs.bindings.Bindings.add.Goals.{else-context-len, then-context-len+in_ok-resize}
use Rattle.table.proofs.bindings.Bindings.add.Goals as goal

pub invariant_of-self-2 : goal.invariant_of-self-2
invariant_of-self-2 c =
    let free = subst (λ bindings. thread_bound_to bindings c.args.binding.context ≡ None) (sym c.self.view_is) c.requires.free in
    elim c.if-context-len.branch [
      | then-context-len+in_ok-resize w ↦
          (let size : length w.resize.new.self.items ≡ c.args.binding.context.0 + 1 = grind (arith, common_steps) in
          let count : vec_len c.self.inside.threads ≡ length c.self.inside.threads.items = grind (arith, common_steps) in
          let kept = w.in_ok-resize.ensures.by_index in
          let within : c.args.binding.context.0 < length w.resize.new.self.items = grind (arith, common_steps) in
          let longer : length c.self.inside.threads.items ≤ c.args.binding.context.0 + 1 = grind (arith, common_steps) in
          rw (c.in_ok-push.ensures.items, w.self-inside-is)
          (threads_with c.self.inside.items.items c.args.binding c.self.inside.threads.items w.resize.new.self.items c.self.invariant free
          (lengthened c.self.inside.threads.items w.resize.new.self.items None _ size (λ k low in_old. kept.0 k None low (omega (arith, count, in_old)))
          (λ k high low. kept.1 k None refl (omega (arith, count, high)) low) longer) within))
      | else-context-len w ↦
          (let within : c.args.binding.context.0 < length c.self.inside.threads.items = grind (arith, common_steps) in
          rw (c.in_ok-push.ensures.items, w.self-inside-is)
          (threads_with c.self.inside.items.items c.args.binding c.self.inside.threads.items c.self.inside.threads.items
          c.self.invariant free (λ k. refl) within))
    ]
