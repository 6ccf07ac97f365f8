use Rattle.std.proofs.{Common.{◌||◌, ◌∙◌, ◌≡◌, Bool, ap, arith, false, refl, sym, take, true}, lemmas.List.Folds.list_any_more}
use Rattle.policy.specs.Policy.{allows, is_edge}
use Rattle.policy.proofs.policy.Policy.extend.Goals as goal

turned : (here before old : Bool) → (here || (before || old)) ≡ ((before || here) || old)
turned true true old = refl
turned true false old = refl
turned false true old = refl
turned false false old = refl

pub loop-edge-init : goal.loop-edge-init
unfolding allows
loop-edge-init c = λ from kind to. refl

pub loop-edge-preserved : goal.loop-edge-preserved
unfolding allows
loop-edge-preserved c from kind to =
    let edges = c.args.edges.now in
    let edge = c.edge-item.result in
    let old = allows c.args.self.now from kind to in
    c.in_ok-insert.ensures.added from kind to ∙ ap (λ b. is_edge from kind to edge || b) (c.loop-edge.invariant from kind to)
    ∙ turned (is_edge from kind to edge) (allows (take c.loop-edge.edge-index edges) from kind to) old
    ∙ ap (λ e. (allows (take c.loop-edge.edge-index edges) from kind to || is_edge from kind to e) || old) c.edge-item.is
    ∙ sym (ap (λ b. b || old) (list_any_more (is_edge from kind to) edges c.loop-edge.edge-index edge (omega arith)))
