-- The thread that waits first waits once, so it leaves as any other does.
use Rattle.std.proofs.Common.{◌∙◌, ◌∷◌, ◌≡◌, ap, sym}
use Rattle.machine.{specs.{Changes.first_waiting, Machine.{Machine, queue_of}}, proofs.{Leaving.first_leaves, Queues.first_in}}
use Rattle.{machine.proofs.Queues.{nobody_leaves, queue_by_first}, objects.proofs.ConsistentLemmas.{first_once, first_waiting-machine_of}}
use Rattle.objects.proofs.state.State.pop_waiting.Goals as goal

pub returns-in_err-first-clause-value : goal.returns-in_err-first-clause-value
returns-in_err-first-clause-value c =
    let seen : c.first.result ≡ first_waiting c.args.self.now c.args.id =
    rw (c.first.ensures, ← c.self.view_is) (sym (first_waiting-machine_of c.self.inside c.self.invariant.consistent c.args.id)) in
    let none = c.in_err-first.was in
    let answer = c.from_residual.ensures in
    cc

pub returns-in_err-first-clause-rest : goal.returns-in_err-first-clause-rest
returns-in_err-first-clause-rest c =
    let seen : c.first.result ≡ first_waiting c.args.self.now c.args.id =
    rw (c.first.ensures, ← c.self.view_is) (sym (first_waiting-machine_of c.self.inside c.self.invariant.consistent c.args.id)) in
    sym (nobody_leaves c.args.self.now c.args.id (sym seen ∙ c.in_err-first.was))

pub take_waiting-requires : goal.take_waiting-requires
take_waiting-requires c =
    let first = c.in_ok-first.first in
    let seen : c.first.result ≡ first_waiting c.args.self.now c.args.id =
    rw (c.first.ensures, ← c.self.view_is) (sym (first_waiting-machine_of c.self.inside c.self.invariant.consistent c.args.id)) in
    let w = queue_by_first c.args.self.now c.args.id first (sym seen ∙ c.in_ok-first.was) in (first ∷ w.0, w.1, first_in first w.0)

pub returns-clause-value : goal.returns-clause-value
returns-clause-value c =
    let seen : c.first.result ≡ first_waiting c.args.self.now c.args.id =
    rw (c.first.ensures, ← c.self.view_is) (sym (first_waiting-machine_of c.self.inside c.self.invariant.consistent c.args.id)) in
    sym c.in_ok-first.was ∙ seen

pub returns-clause-rest : goal.returns-clause-rest
returns-clause-rest c =
    let first = c.in_ok-first.first in
    let seen : c.first.result ≡ first_waiting c.args.self.now c.args.id =
    rw (c.first.ensures, ← c.self.view_is) (sym (first_waiting-machine_of c.self.inside c.self.invariant.consistent c.args.id)) in
    let w = queue_by_first c.args.self.now c.args.id first (sym seen ∙ c.in_ok-first.was) in
    c.take_waiting.ensures
    ∙ first_leaves c.args.self.now c.args.id first w.0 w.1
    (first_once c.self.inside c.self.invariant.consistent c.args.id first w.0 (ap (λ (m : Machine). queue_of m c.args.id) c.self.view_is ∙ w.1))
