use Rattle.std.proofs.Common.{◌||◌, ◌≡◌, ◌≢◌, subst, sym, true}
use Rattle.{base.specs.Labels.is_in, claims.{specs.Holding.HasAtMost, proofs.FirstBreach.{nothing_excess, take_excess}}}
use Rattle.claims.proofs.breaches.excess.Goals as goal

pub returns-in-Nothing : goal.returns-in-Nothing
returns-in-Nothing c = λ limits a is l.
    let at = nothing_excess limits a l (is_in c.args.row.changed l) (is_in c.args.row.shrunk l) (is.changed l) (is.shrunk l) in
    subst (λ b. (b ≡ true → ¬ HasAtMost limits a l c.args.most) × (b ≢ true → HasAtMost limits a l c.args.most)) (sym (c.affected.ensures l))
    (subst (λ m. ((is_in c.args.row.changed l || is_in c.args.row.shrunk l) ≡ true → ¬ HasAtMost limits a l m)
    × ((is_in c.args.row.changed l || is_in c.args.row.shrunk l) ≢ true → HasAtMost limits a l m)) (sym c.in-Nothing.is) at)

pub returns-in-Take : goal.returns-in-Take
returns-in-Take c = λ limits a is l.
    let at = take_excess limits a l (is_in c.args.row.changed l) (is_in c.args.row.shrunk l) (is.changed l) (is.shrunk l) in
    subst (λ m. (is_in c.args.row.changed l ≡ true → ¬ HasAtMost limits a l m) × (is_in c.args.row.changed l ≢ true → HasAtMost limits a l m))
    (sym c.in-Take.is) at
