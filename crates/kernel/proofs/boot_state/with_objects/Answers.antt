use Rattle.std.proofs.{Common.{[], ◌++◌, ◌+◌, ◌∙◌, ◌∷◌, ◌≡◌, ap, sym, take}, lemmas.List.take_more}
use Rattle.machine.specs.{Boot.bound, Layout.{Layout, bound_context, bound_thread}, Machine.{Machine, with_new}}
use Rattle.kernel.proofs.BootLemmas.{boot-nothing, boot-object}
use Rattle.kernel.proofs.boot_state.with_objects.Goals as goal

pub loop-initial-init : goal.loop-initial-init
loop-initial-init c = rw c.new-state.ensures (boot-nothing c.args.table.now)

pub loop-initial-preserved : goal.loop-initial-preserved
unfolding bound_context bound_thread
loop-initial-preserved c =
    let t = c.args.table.now in
    let i = c.loop-initial.initial-index in
    let initial = c.initial-item.result in
    let state : Machine = c.loop-initial.state in
    let before : Layout = record t { objects = take i t.objects; caps = []; pairs = [] } in
    let same = c.objects-initials.ensures.objects in
    let made : c.add_object.new.self ≡ with_new state (bound before (record { 0 = state.next }) initial.object) =
    c.in_ok-add_object.ensures.made
    ∙ ap (with_new state)
    (c.bound.ensures ∙ ap (λ number. bound before (record { 0 = number }) initial.object) c.next_id.ensures.value) in
    let more : take (i + 1) t.objects ≡ take i t.objects ++ initial ∷ [] =
    take_more t.objects i initial (rw (← same) c.loop-initial-test.true)
    ∙ ap (λ last. take i t.objects ++ last ∷ []) (sym (rw same at c.initial-item.is)) in
    rw (made, more) (boot-object before state initial c.loop-initial.invariant)
