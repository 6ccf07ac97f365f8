-- The seat that has looked has seen the keeper's history.
use Rattle.std.proofs.Common.{◌∙◌, ◌≡◌, ap, subst, sym}
use Rattle.cores.{specs.{declared.view.About.About, History.{IsExactFor, IsLegal}, Seats.about_in}, proofs.Visiting.{Knowing, guest_is}}
use Rattle.cores.proofs.Visiting.{guest_saw, left_view, saw_guest, saw_legal, seated_at, seen_by}
use Rattle.cores.proofs.desk.Desk.look.Goals as goal

pub invariant_of-seat : goal.invariant_of-seat
invariant_of-seat g c =
    let seat = c.seat.invariant in
    let desk = c.self.invariant in
    let came = c.visit.new.to.me in
    let sees = c.see.ensures.seen in
    let is_guest = guest_is seat.start seat.hand c.seat.inside.token.me came c.self.inside.keeper.me.0 seat.me c.visit.ensures.to.1 in
    let shows = saw_guest seat.hand came c.see.new.token.me c.see.result sees is_guest in
    let boots : about_in c.seat.inside.token.me.0 ≡ c.args.seat.now.start = ap (λ k. k.start) c.seat.view_is in
    let starts : seat.start ≡ _ = sym (ap (λ (m : Knowing). about_in m.0) seat.me) ∙ boots ∙ c.requires.of.start in
    let told : came.0.about ≡ _ = ap (λ (m : Knowing). m.0.about) c.visit.ensures.to.1 ∙ ap (λ v. v.about) desk.view in
    let legal = saw_legal _ came c.see.new.token.me c.see.result sees told in
    seated_at c.leave.new.to seat.start (seen_by sees.0 seat.hand) c.seat.inside.number c.seat.inside.core
    (left_view seat.start seat.hand (seen_by sees.0 seat.hand) c.seat.inside.token.me c.visit.new.from.me c.leave.new.to.me c.see.new.token.me.0
    seat.me c.visit.ensures.from.1 (guest_saw sees.0 seat.hand came.0 c.see.new.token.me.0 is_guest sees.3) c.leave.ensures.to.1)
    seat.numbered seat.on_core
    (subst (λ (a : About). IsLegal a.boot a.cores sees.0) (sym starts) legal)
    (subst (λ n. IsExactFor n sees.0 seat.hand.mine) seat.numbered shows.1)
