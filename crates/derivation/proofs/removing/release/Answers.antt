-- Each child that is left is taken away, until there is none.
use Rattle.std.{specs.{FinMap.keys, Prelude.None}, proofs.Common.{◌<◌, ◌∙◌, ap, subst, sym}}
use Rattle.{machine.specs.Machine.{Machine, parent_of}, objects.proofs.Ways.among_keys}
use Rattle.derivation.{specs.Removing.parent_past, proofs.Children.{children_among, one_taken}}
use Rattle.derivation.proofs.Removals.{had_parent, leaf_past, released_step, rest_without}
use Rattle.derivation.proofs.removing.release.Goals as goal

pub loop-child-smaller : goal.loop-child-smaller
loop-child-smaller c =
    subst
    (λ m.
    children_among m c.args.slot (keys c.args.state.now.parents)
    < children_among c.loop-child.state c.args.slot (keys c.args.state.now.parents))
    (sym c.detach.ensures)
    (one_taken c.loop-child.state c.args.slot c.in-Some.child c.in-Some.ensures.some (keys c.args.state.now.parents)
    (among_keys c.args.state.now c.in-Some.child c.args.slot
    (c.loop-child.invariant.had c.in-Some.child c.args.slot c.in-Some.ensures.some)))

pub loop-child-preserved : goal.loop-child-preserved
loop-child-preserved c =
    record {
      rest =
          c.detach.ensures
          ∙ rest_without c.args.state.now c.loop-child.state c.in-Some.child c.loop-child.invariant.rest
          ∙ ap (λ (m : Machine). let changed : Machine = record c.args.state.now { parents = m.parents } in changed) (sym c.detach.ensures);
      same =
          λ q.
          ap (λ m. parent_past m c.args.slot None q) c.detach.ensures
          ∙ released_step c.loop-child.state c.args.slot c.in-Some.child c.in-Some.ensures.some q
          ∙ c.loop-child.invariant.same q;
      had =
          λ q parent now.
          c.loop-child.invariant.had q parent
          (had_parent c.loop-child.state c.args.slot c.in-Some.child c.in-Some.ensures.some q parent
          (ap (λ m. parent_of m q) (sym c.detach.ensures) ∙ now));
    }

pub returns : goal.returns
returns c =
    record {
      rest = c.loop-child.invariant.rest;
      parents =
          λ q.
          leaf_past c.loop-child.state c.args.slot None c.in_default.ensures.none q ∙ c.loop-child.invariant.same q;
    }
