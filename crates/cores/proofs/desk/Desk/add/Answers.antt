-- The seat visits the keeper, its call is recorded, and it leaves: what each knows on the way.
use Rattle.std.{specs.Prelude.{slice_get, vec_capacity}, proofs.Common.{[], ℕ, ◌++◌, ◌+◌, ◌∙◌, ◌∷◌, ◌≡◌, Some, ap, arith, length}}
use Rattle.{std.proofs.{Common.{refl, subst, sym}, lemmas.List.{length-map, length_push}}, machine.specs.declared.call.Event.Event}
use Rattle.cores.specs.{declared.view.{About.About, Hand.Hand, Keeping.Keeping, Noted.Noted, View.View}, History.{IsExactFor, IsLegal}}
use Rattle.cores.specs.{Moves.recorded, Rule.about, Seats.{Calls, Known, about_in, hand_in, history_of, keeping_in, known, seat_view}}
use Rattle.cores.proofs.Adding.{calls_more, can_record, exact_more, host_view, hosts_view, in_order_more}
use Rattle.cores.proofs.{Adding.{keeps_view, legal_more, records_view}, Visiting.{Knowing, left_view, seated_at}}
use Rattle.cores.proofs.desk.Desk.add.Goals as goal

pub record-requires-clause-may : goal.record-requires-clause-may
record-requires-clause-may g c =
    let seat = c.seat.invariant in
    let desk = c.self.invariant in
    let t = g.J.Naming.ticket in
    let a : About = about t.boot t.cores in
    let history = history_of c.self.inside.keeper in
    let kept : Keeping = record { history = history; next = desk.next } in
    let event : Event = record { core = c.seat.inside.core; thread = c.args.thread; call = c.args.call } in
    let noted : Noted = record { seat = c.seat.inside.number; event = event; outcome = c.step-outcome.result } in
    let boots : about_in c.seat.inside.token.me.0 ≡ c.args.seat.now.start = ap (λ k. k.start) c.seat.view_is in
    let starts : seat.start ≡ a = sym (ap (λ (m : Knowing). about_in m.0) seat.me) ∙ boots ∙ c.requires.of.start in
    let here : slice_get t.cores c.seat.inside.number ≡ Some c.seat.inside.core =
    subst (λ (b : About). slice_get b.cores c.seat.inside.number ≡ Some c.seat.inside.core) starts seat.on_core in
    let is : length history ≡ length c.args.self.now = ap length c.self.view_is in
    can_record a kept seat.hand noted c.visit.new.to.me.0
    (hosts_view a seat.start kept seat.hand c.self.inside.keeper.me.0 c.seat.inside.token.me c.visit.new.to.me desk.view seat.me c.visit.ensures.to.1)
    (sym seat.numbered)
    (legal_more t.boot c.self.inside.state c.step-outcome.new.state t.cores history noted desk.run c.step-outcome.ensures.stepped desk.on_cores here)
    (omega (arith, is, c.requires.room))

pub leave-requires-clause-from : goal.leave-requires-clause-from
leave-requires-clause-from g c =
    let seat = c.seat.invariant in
    let desk = c.self.invariant in
    let t = g.J.Naming.ticket in
    let a : About = about t.boot t.cores in
    let history = history_of c.self.inside.keeper in
    let kept : Keeping = record { history = history; next = desk.next } in
    let event : Event = record { core = c.seat.inside.core; thread = c.args.thread; call = c.args.call } in
    let noted : Noted = record { seat = c.seat.inside.number; event = event; outcome = c.step-outcome.result } in
    let hosted : c.visit.new.to.me.0 ≡ host_view a kept seat.hand =
    hosts_view a seat.start kept seat.hand c.self.inside.keeper.me.0 c.seat.inside.token.me c.visit.new.to.me desk.view seat.me c.visit.ensures.to.1 in
    let added = c.record.ensures.added kept seat.hand (ap (λ (v : View). v.kept) hosted) (ap (λ (v : View). v.guest) hosted) in (
      c.requires.board.0,
      c.record.ensures.same.0 ∙ c.visit.ensures.to.0.0 ∙ desk.at.1 ∙ sym c.requires.board.1,
      ap (λ (m : Knowing). m.1) added.0,
    )

pub invariant_of-self : goal.invariant_of-self
invariant_of-self g c =
    let seat = c.seat.invariant in
    let desk = c.self.invariant in
    let t = g.J.Naming.ticket in
    let a : About = about t.boot t.cores in
    let history = history_of c.self.inside.keeper in
    let kept : Keeping = record { history = history; next = desk.next } in
    let event : Event = record { core = c.seat.inside.core; thread = c.args.thread; call = c.args.call } in
    let noted : Noted = record { seat = c.seat.inside.number; event = event; outcome = c.step-outcome.result } in
    let boots : about_in c.seat.inside.token.me.0 ≡ c.args.seat.now.start = ap (λ k. k.start) c.seat.view_is in
    let starts : seat.start ≡ a = sym (ap (λ (m : Knowing). about_in m.0) seat.me) ∙ boots ∙ c.requires.of.start in
    let here : slice_get t.cores c.seat.inside.number ≡ Some c.seat.inside.core =
    subst (λ (b : About). slice_get b.cores c.seat.inside.number ≡ Some c.seat.inside.core) starts seat.on_core in
    let hosted : c.visit.new.to.me.0 ≡ host_view a kept seat.hand =
    hosts_view a seat.start kept seat.hand c.self.inside.keeper.me.0 c.seat.inside.token.me c.visit.new.to.me desk.view seat.me c.visit.ensures.to.1 in
    let added = c.record.ensures.added kept seat.hand (ap (λ (v : View). v.kept) hosted) (ap (λ (v : View). v.guest) hosted) in
    let more : Keeping = record { history = history ++ noted ∷ []; next = desk.next } in
    let hand : Hand = recorded history noted seat.hand in
    let recorded_view : c.record.new.keeper.me.0 ≡ host_view a more hand =
    records_view a kept seat.hand noted c.visit.new.to.me.0 c.record.new.keeper.me hosted added.0 in
    let is : length history ≡ length c.args.self.now = ap length c.self.view_is in
    let logged : length c.self.inside.log.items ≡ length history = ap length desk.logged ∙ length-map history (λ (n : Noted). (n.event, n.outcome)) in
    in_order_more t c.self.inside.keeper c.leave.new.from c.self.inside.log.items c.push_reserved.new.self.items (vec_capacity c.self.inside.log)
    (vec_capacity c.push_reserved.new.self) c.self.inside.state c.step-outcome.new.state noted desk
    (omega (arith, is, logged, c.requires.room)) (
      desk.at.0,
      c.leave.ensures.from.0.0 ∙ c.record.ensures.same.0 ∙ c.visit.ensures.to.0.0 ∙ desk.at.1,
      ap (λ (m : Knowing). m.1) c.leave.ensures.from.1,
    )
    (keeps_view a more hand c.record.new.keeper.me.0 c.leave.new.from.me recorded_view c.leave.ensures.from.1)
    c.step-outcome.ensures.stepped c.step-outcome.ensures.well_formed here c.push_reserved.ensures.items c.push_reserved.ensures.capacity

pub invariant_of-seat : goal.invariant_of-seat
invariant_of-seat g c =
    let seat = c.seat.invariant in
    let desk = c.self.invariant in
    let t = g.J.Naming.ticket in
    let a : About = about t.boot t.cores in
    let history = history_of c.self.inside.keeper in
    let kept : Keeping = record { history = history; next = desk.next } in
    let event : Event = record { core = c.seat.inside.core; thread = c.args.thread; call = c.args.call } in
    let noted : Noted = record { seat = c.seat.inside.number; event = event; outcome = c.step-outcome.result } in
    let boots : about_in c.seat.inside.token.me.0 ≡ c.args.seat.now.start = ap (λ k. k.start) c.seat.view_is in
    let starts : seat.start ≡ a = sym (ap (λ (m : Knowing). about_in m.0) seat.me) ∙ boots ∙ c.requires.of.start in
    let here : slice_get t.cores c.seat.inside.number ≡ Some c.seat.inside.core =
    subst (λ (b : About). slice_get b.cores c.seat.inside.number ≡ Some c.seat.inside.core) starts seat.on_core in
    let hosted : c.visit.new.to.me.0 ≡ host_view a kept seat.hand =
    hosts_view a seat.start kept seat.hand c.self.inside.keeper.me.0 c.seat.inside.token.me c.visit.new.to.me desk.view seat.me c.visit.ensures.to.1 in
    let added = c.record.ensures.added kept seat.hand (ap (λ (v : View). v.kept) hosted) (ap (λ (v : View). v.guest) hosted) in
    let more : Keeping = record { history = history ++ noted ∷ []; next = desk.next } in
    let hand : Hand = recorded history noted seat.hand in
    let recorded_view : c.record.new.keeper.me.0 ≡ host_view a more hand =
    records_view a kept seat.hand noted c.visit.new.to.me.0 c.record.new.keeper.me hosted added.0 in
    let back : c.leave.new.to.me ≡ (seat_view seat.start hand, []) =
    left_view seat.start seat.hand hand c.seat.inside.token.me c.visit.new.from.me c.leave.new.to.me c.record.new.keeper.me.0 seat.me
    c.visit.ensures.from.1 (ap (λ (v : View). v.guest) recorded_view) c.leave.ensures.to.1 in
    let legal : IsLegal t.boot t.cores (history ++ noted ∷ []) =
    legal_more t.boot c.self.inside.state c.step-outcome.new.state t.cores history noted desk.run c.step-outcome.ensures.stepped desk.on_cores here in
    let own_legal : IsLegal seat.start.boot seat.start.cores (history ++ noted ∷ []) =
    subst (λ (b : About). IsLegal b.boot b.cores (history ++ noted ∷ [])) (sym starts) legal in
    seated_at c.leave.new.to seat.start hand c.seat.inside.number c.seat.inside.core back seat.numbered seat.on_core own_legal
    (exact_more c.seat.inside.number history seat.hand.mine noted refl
    (subst (λ n. IsExactFor n history seat.hand.mine) seat.numbered added.1.1))

pub returns-clause-calls : goal.returns-clause-calls
returns-clause-calls g c =
    let seat = c.seat.invariant in
    let desk = c.self.invariant in
    let t = g.J.Naming.ticket in
    let a : About = about t.boot t.cores in
    let history = history_of c.self.inside.keeper in
    let kept : Keeping = record { history = history; next = desk.next } in
    let event : Event = record { core = c.seat.inside.core; thread = c.args.thread; call = c.args.call } in
    let noted : Noted = record { seat = c.seat.inside.number; event = event; outcome = c.step-outcome.result } in
    let boots : about_in c.seat.inside.token.me.0 ≡ c.args.seat.now.start = ap (λ k. k.start) c.seat.view_is in
    let starts : seat.start ≡ a = sym (ap (λ (m : Knowing). about_in m.0) seat.me) ∙ boots ∙ c.requires.of.start in
    let here : slice_get t.cores c.seat.inside.number ≡ Some c.seat.inside.core =
    subst (λ (b : About). slice_get b.cores c.seat.inside.number ≡ Some c.seat.inside.core) starts seat.on_core in
    let hosted : c.visit.new.to.me.0 ≡ host_view a kept seat.hand =
    hosts_view a seat.start kept seat.hand c.self.inside.keeper.me.0 c.seat.inside.token.me c.visit.new.to.me desk.view seat.me c.visit.ensures.to.1 in
    let added = c.record.ensures.added kept seat.hand (ap (λ (v : View). v.kept) hosted) (ap (λ (v : View). v.guest) hosted) in
    let more : Keeping = record { history = history ++ noted ∷ []; next = desk.next } in
    let hand : Hand = recorded history noted seat.hand in
    let recorded_view : c.record.new.keeper.me.0 ≡ host_view a more hand =
    records_view a kept seat.hand noted c.visit.new.to.me.0 c.record.new.keeper.me hosted added.0 in
    let back : c.leave.new.to.me ≡ (seat_view seat.start hand, []) =
    left_view seat.start seat.hand hand c.seat.inside.token.me c.visit.new.from.me c.leave.new.to.me c.record.new.keeper.me.0 seat.me
    c.visit.ensures.from.1 (ap (λ (v : View). v.guest) recorded_view) c.leave.ensures.to.1 in
    let legal : IsLegal t.boot t.cores (history ++ noted ∷ []) =
    legal_more t.boot c.self.inside.state c.step-outcome.new.state t.cores history noted desk.run c.step-outcome.ensures.stepped desk.on_cores here in
    let own_legal : IsLegal seat.start.boot seat.start.cores (history ++ noted ∷ []) =
    subst (λ (b : About). IsLegal b.boot b.cores (history ++ noted ∷ [])) (sym starts) legal in
    let same : c.leave.new.to.table_id ≡ c.seat.inside.token.table_id = c.leave.ensures.to.0.0 ∙ c.visit.ensures.from.0.0 in
    let calls = calls_more c.seat.inside.token c.leave.new.to seat.start seat.hand c.seat.inside.name c.seat.inside.number c.seat.inside.core
    history event c.step-outcome.result seat.me back same seat.numbered added.1 own_legal in
    let core : c.seat.inside.core ≡ c.args.seat.now.core = ap (λ k. k.core) c.seat.view_is in
    let on : ℕ → Event = λ n. record { core = n; thread = c.args.thread; call = c.args.call } in
    let known_back = known c.leave.new.to c.seat.inside.name c.seat.inside.number c.seat.inside.core in
    subst (λ (e : Event). Calls c.args.seat.now e c.step-outcome.result known_back) (ap on core)
    (subst (λ (k : Known). Calls k event c.step-outcome.result known_back) c.seat.view_is calls)

pub returns-clause-history : goal.returns-clause-history
returns-clause-history g c =
    let seat = c.seat.invariant in
    let desk = c.self.invariant in
    let t = g.J.Naming.ticket in
    let a : About = about t.boot t.cores in
    let history = history_of c.self.inside.keeper in
    let kept : Keeping = record { history = history; next = desk.next } in
    let event : Event = record { core = c.seat.inside.core; thread = c.args.thread; call = c.args.call } in
    let noted : Noted = record { seat = c.seat.inside.number; event = event; outcome = c.step-outcome.result } in
    let hosted : c.visit.new.to.me.0 ≡ host_view a kept seat.hand =
    hosts_view a seat.start kept seat.hand c.self.inside.keeper.me.0 c.seat.inside.token.me c.visit.new.to.me desk.view seat.me c.visit.ensures.to.1 in
    let added = c.record.ensures.added kept seat.hand (ap (λ (v : View). v.kept) hosted) (ap (λ (v : View). v.guest) hosted) in
    let more : Keeping = record { history = history ++ noted ∷ []; next = desk.next } in
    let hand : Hand = recorded history noted seat.hand in
    let recorded_view : c.record.new.keeper.me.0 ≡ host_view a more hand =
    records_view a kept seat.hand noted c.visit.new.to.me.0 c.record.new.keeper.me hosted added.0 in
    let back : c.leave.new.to.me ≡ (seat_view seat.start hand, []) =
    left_view seat.start seat.hand hand c.seat.inside.token.me c.visit.new.from.me c.leave.new.to.me c.record.new.keeper.me.0 seat.me
    c.visit.ensures.from.1 (ap (λ (v : View). v.guest) recorded_view) c.leave.ensures.to.1 in
    let kept_view = keeps_view a more hand c.record.new.keeper.me.0 c.leave.new.from.me recorded_view c.leave.ensures.from.1 in
    ap (λ (v : View). (keeping_in v).history) kept_view ∙ sym (ap (λ (m : Knowing). (hand_in m.0).seen) back)

pub returns-clause-within : goal.returns-clause-within
returns-clause-within g c =
    let seat = c.seat.invariant in
    let desk = c.self.invariant in
    let t = g.J.Naming.ticket in
    let a : About = about t.boot t.cores in
    let history = history_of c.self.inside.keeper in
    let kept : Keeping = record { history = history; next = desk.next } in
    let event : Event = record { core = c.seat.inside.core; thread = c.args.thread; call = c.args.call } in
    let noted : Noted = record { seat = c.seat.inside.number; event = event; outcome = c.step-outcome.result } in
    let hosted : c.visit.new.to.me.0 ≡ host_view a kept seat.hand =
    hosts_view a seat.start kept seat.hand c.self.inside.keeper.me.0 c.seat.inside.token.me c.visit.new.to.me desk.view seat.me c.visit.ensures.to.1 in
    let added = c.record.ensures.added kept seat.hand (ap (λ (v : View). v.kept) hosted) (ap (λ (v : View). v.guest) hosted) in
    let more : Keeping = record { history = history ++ noted ∷ []; next = desk.next } in
    let hand : Hand = recorded history noted seat.hand in
    let recorded_view : c.record.new.keeper.me.0 ≡ host_view a more hand =
    records_view a kept seat.hand noted c.visit.new.to.me.0 c.record.new.keeper.me hosted added.0 in
    let back : c.leave.new.to.me ≡ (seat_view seat.start hand, []) =
    left_view seat.start seat.hand hand c.seat.inside.token.me c.visit.new.from.me c.leave.new.to.me c.record.new.keeper.me.0 seat.me
    c.visit.ensures.from.1 (ap (λ (v : View). v.guest) recorded_view) c.leave.ensures.to.1 in
    let is : length history ≡ length c.args.self.now = ap length c.self.view_is in
    let seen : (hand_in c.leave.new.to.me.0).seen ≡ history ++ noted ∷ [] = ap (λ (m : Knowing). (hand_in m.0).seen) back in
    let longer : length (hand_in c.leave.new.to.me.0).seen ≡ length history + 1 = ap length seen ∙ length_push history noted in
    omega (arith, is, longer, c.requires.room)
