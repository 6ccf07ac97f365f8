-- The threads rise, so a search finds the one binding of a thread, or there is none.
use Rattle.std.{specs.{declared.cmp.Ordering.TheVariants.Less, Cmp.nat_cmp_is}, proofs.Common.{◌<◌, ◌≡◌, AllPairs, List, rules, sym}}
use Rattle.std.proofs.lemmas.List.Sorted.{answers_always}
use Rattle.machine.{specs.{declared.layout.Binding.Binding, Machine.id_cmp}, proofs.LookUps.id_total}
use Rattle.table.proofs.SearchLemmas.{found_at, not_found, searchable}
use Rattle.table.proofs.table.binding_of.Goals as goal

rises : (bindings : List Binding) → AllPairs (λ one other. one.thread.0 < other.thread.0) bindings
    → AllPairs (λ one other. id_cmp one.thread other.thread ≡ Less) bindings
rises bindings rising i j d lower within = sym (nat_cmp_is _ _ Less (rising i j d lower within))

pub returns-in-Ok : goal.returns-in-Ok
returns-in-Ok c =
    let rising = rises c.args.bindings.now c.requires in
    let found = c.in-Ok.ensures.position (λ (binding : Binding). binding.thread) (answers_always _ _ _ (λ f a r g h. search rules)) in
    found_at id_total (λ (binding : Binding). binding.thread) c.args.bindings.now rising c.args.thread c.in-Ok.index _
    c.in-Ok.ensures.bound (found _)

pub returns-in-Err : goal.returns-in-Err
returns-in-Err c =
    let rising = rises c.args.bindings.now c.requires in
    let apart = c.in-Err.ensures.position (λ (binding : Binding). binding.thread) (answers_always _ _ _ (λ f a r g h. search rules)) in
    not_found id_total (λ (binding : Binding). binding.thread) c.args.bindings.now rising c.args.thread _
    (apart (searchable id_total (λ (binding : Binding). binding.thread) c.args.bindings.now rising c.args.thread))
