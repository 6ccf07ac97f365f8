use Rattle.std.{specs.Vec.vec_capacity, proofs.Common.{ℕ, List, arith, subst, sym}}
use Rattle.{machine.specs.Machine.Machine, cores.{specs.Seats.{IsOpened, ticket_of}, proofs.Seating.in_order_first}}
use Rattle.cores.proofs.opened.begun.Goals as goal

pub invariant_of-opened : goal.invariant_of-opened
invariant_of-opened c =
    let dealt = c.in_ok-board.ensures in
    let board = c.in_ok-board.field-0.board in
    let keeper = c.in_ok-board.field-0.keeper in
    let log = c.in_ok-log.log in
    let opened : Machine → List ℕ → Type 0 = λ boot cores.
    IsOpened (ticket_of board.shared.table_id boot cores c.args.size c.args.name) keeper log.items (vec_capacity log) c.args.state in
    let t = ticket_of board.shared.table_id c.args.state c.args.cores.now c.args.size c.args.name in
    subst (λ boot. opened boot board.shared.key.cores.value.items) (sym dealt.key.0)
    (subst (λ cores. opened c.args.state cores) (sym dealt.key.1)
    (record {
      order =
          in_order_first t keeper log.items (vec_capacity log) _ dealt.at dealt.keeper.0 dealt.keeper.1 c.requires.formed
          c.in_ok-log.ensures.items (search c.in_ok-log.ensures);
      words = dealt.at.0;
      small = omega (arith, c.requires.size);
    }))
