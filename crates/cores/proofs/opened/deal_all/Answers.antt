-- The keeper of a new word may deal all seats.
use Rattle.std.proofs.Common.{◌∙◌, ◌≡◌, ap, rules}
use Rattle.cores.proofs.Visiting.{Knowing}
use Rattle.cores.proofs.opened.deal_all.Goals as goal

pub all_seats-requires-clause-first : goal.all_seats-requires-clause-first
all_seats-requires-clause-first c =
    let same : c.in_ok-list.list.items ≡ c.args.cores.now = search rules in
    record {
      start = _;
      of = ap (λ list. list.items) c.of-2.ensures ∙ same;
      view = ap (λ (m : Knowing). m.0) c.in_ok-board.ensures.view;
    }
