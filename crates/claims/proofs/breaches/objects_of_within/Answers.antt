-- The objects of the label that `within` bounds are those of the others that aren't named.
use Rattle.std.proofs.Common.{◌&&◌, ◌∙◌, ◌≡◌, ap, not, rules}
use Rattle.{base.specs.Labels.is_in, claims.proofs.FirstBreach.outside}
use Rattle.claims.proofs.breaches.objects_of_within.Goals as goal

pub returns : goal.returns
returns c = λ l.
    let set = c.difference.ensures l ∙ ap (λ b. is_in c.args.others l && not b) (c.set.ensures l) in
    let found = outside c.args.objects.now l (is_in c.args.others l) (is_in c.difference.result l) set in
    let same : c.args.actor ≡ c.args.by = search rules in (
      λ has. let parts = found.0 has in (parts.0, same, parts.1),
      λ bounded. found.1 (bounded.0, bounded.2),
    )
