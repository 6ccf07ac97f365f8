-- Both seats have seen the history that the first sees with the second as its guest.
use Rattle.std.proofs.Common.{◌∙◌, ◌≡◌, ap, subst, sym}
use Rattle.cores.specs.{declared.view.About.About, History.{IsExactFor, IsLegal}, Moves.hand_as_guest, Seats.about_in}
use Rattle.cores.proofs.Visiting.{Knowing, guest_is, guest_saw, host_left, left_view, saw_guest, saw_hand, saw_legal, seated_at, seen_by}
use Rattle.cores.proofs.running.show.Goals as goal

pub invariant_of-first : goal.invariant_of-first
invariant_of-first c =
    let first = c.first.invariant in
    let came = c.visit.new.to.me in
    let sees = c.see.ensures.seen in
    let is_hand : came.0.hand ≡ _ = ap (λ (m : Knowing). m.0.hand) c.visit.ensures.to.1 ∙ ap (λ (m : Knowing). m.0.hand) first.me in
    let told : came.0.about ≡ _ = ap (λ (m : Knowing). m.0.about) c.visit.ensures.to.1 ∙ ap (λ (m : Knowing). m.0.about) first.me in
    let shows = saw_hand first.hand came c.see.new.token.me c.see.result sees is_hand in
    seated_at c.leave.new.from first.start (seen_by sees.0 first.hand) c.first.inside.number c.first.inside.core
    (host_left first.start first.hand sees.0 c.first.inside.token.me came c.see.new.token.me c.leave.new.from.me
    (hand_as_guest c.second.inside.token.me.0) first.me c.visit.ensures.to.1 sees.3 c.leave.ensures.from.1)
    first.numbered first.on_core
    (saw_legal first.start came c.see.new.token.me c.see.result sees told)
    (subst (λ n. IsExactFor n sees.0 first.hand.mine) first.numbered shows.1)

pub invariant_of-second : goal.invariant_of-second
invariant_of-second c =
    let first = c.first.invariant in
    let second = c.second.invariant in
    let came = c.visit.new.to.me in
    let sees = c.see.ensures.seen in
    let is_guest = guest_is second.start second.hand c.second.inside.token.me came c.first.inside.token.me.0 second.me c.visit.ensures.to.1 in
    let told : came.0.about ≡ _ = ap (λ (m : Knowing). m.0.about) c.visit.ensures.to.1 ∙ ap (λ (m : Knowing). m.0.about) first.me in
    let shows = saw_guest second.hand came c.see.new.token.me c.see.result sees is_guest in
    let here : about_in c.first.inside.token.me.0 ≡ c.args.first.now.start = ap (λ k. k.start) c.first.view_is in
    let there : about_in c.second.inside.token.me.0 ≡ c.args.second.now.start = ap (λ k. k.start) c.second.view_is in
    let starts : second.start ≡ first.start =
    sym (ap (λ (m : Knowing). about_in m.0) second.me) ∙ there ∙ c.requires.start ∙ sym here ∙ ap (λ (m : Knowing). about_in m.0) first.me in
    seated_at c.leave.new.to second.start (seen_by sees.0 second.hand) c.second.inside.number c.second.inside.core
    (left_view second.start second.hand (seen_by sees.0 second.hand) c.second.inside.token.me c.visit.new.from.me c.leave.new.to.me
    c.see.new.token.me.0 second.me c.visit.ensures.from.1 (guest_saw sees.0 second.hand came.0 c.see.new.token.me.0 is_guest sees.3) c.leave.ensures.to.1)
    second.numbered second.on_core
    (subst (λ (a : About). IsLegal a.boot a.cores sees.0) (sym starts) (saw_legal first.start came c.see.new.token.me c.see.result sees told))
    (subst (λ n. IsExactFor n sees.0 second.hand.mine) second.numbered shows.1)
