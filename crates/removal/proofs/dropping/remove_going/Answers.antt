-- Each object that is going is cut off when its turn comes.
use Rattle.std.{specs.Prelude.slice_get, proofs.Common.{◌∙◌, ap, arith, refl, sym}}
use Rattle.machine.{specs.Changes.without_object, proofs.ObjectGone.going-without_object}
use Rattle.removal.{specs.Dropping.without_objects, proofs.Dropped.{all_taken, cut_off_stays, listed_at, none_past, one_more_gone}}
use Rattle.removal.proofs.dropping.remove_going.Goals as goal

pub loop-next-init : goal.loop-next-init
loop-next-init c = record { going = refl; gone = refl; cut = c.requires }

pub remove_object-requires-clause-unheld : goal.remove_object-requires-clause-unheld
remove_object-requires-clause-unheld c =
    let found = ap (λ l. slice_get l c.loop-next.next) (sym c.loop-next.invariant.going) ∙ sym (c.in-Some.ensures {u = tt}) in
    (c.loop-next.invariant.cut c.in-Some.id (listed_at _ c.loop-next.next c.in-Some.id found)).unheld

pub remove_object-requires-clause-hollow : goal.remove_object-requires-clause-hollow
remove_object-requires-clause-hollow c =
    let found = ap (λ l. slice_get l c.loop-next.next) (sym c.loop-next.invariant.going) ∙ sym (c.in-Some.ensures {u = tt}) in
    (c.loop-next.invariant.cut c.in-Some.id (listed_at _ c.loop-next.next c.in-Some.id found)).hollow

pub remove_object-requires-clause-alone : goal.remove_object-requires-clause-alone
remove_object-requires-clause-alone c =
    let found = ap (λ l. slice_get l c.loop-next.next) (sym c.loop-next.invariant.going) ∙ sym (c.in-Some.ensures {u = tt}) in
    (c.loop-next.invariant.cut c.in-Some.id (listed_at _ c.loop-next.next c.in-Some.id found)).alone

pub remove_object-requires-clause-deserted : goal.remove_object-requires-clause-deserted
remove_object-requires-clause-deserted c =
    let found = ap (λ l. slice_get l c.loop-next.next) (sym c.loop-next.invariant.going) ∙ sym (c.in-Some.ensures {u = tt}) in
    (c.loop-next.invariant.cut c.in-Some.id (listed_at _ c.loop-next.next c.in-Some.id found)).deserted

pub remove_object-requires-clause-free : goal.remove_object-requires-clause-free
remove_object-requires-clause-free c =
    let found = ap (λ l. slice_get l c.loop-next.next) (sym c.loop-next.invariant.going) ∙ sym (c.in-Some.ensures {u = tt}) in
    (c.loop-next.invariant.cut c.in-Some.id (listed_at _ c.loop-next.next c.in-Some.id found)).free

pub loop-next-preserved : goal.loop-next-preserved
loop-next-preserved c =
    let found = ap (λ l. slice_get l c.loop-next.next) (sym c.loop-next.invariant.going) ∙ sym (c.in-Some.ensures {u = tt}) in
    let inv = c.loop-next.invariant in
    let id = c.in-Some.id in
    record {
      going = rw c.remove_object.ensures (going-without_object c.loop-next.state id ∙ inv.going);
      gone =
          c.remove_object.ensures ∙ ap (λ m. without_object m id) inv.gone
          ∙ sym (one_more_gone c.args.state.now c.args.state.now.going c.loop-next.next id found);
      cut = λ other is. rw c.remove_object.ensures (cut_off_stays c.loop-next.state id other (inv.cut other is));
    }

pub returns : goal.returns
returns c =
    let inv = c.loop-next.invariant in
    let past = c.loop-next-test.false in
    let count = c.going_count-next-end.ensures in
    inv.gone ∙ ap (without_objects c.args.state.now) (all_taken c.args.state.now.going c.loop-next.next (omega (arith, past, count)))

pub returns-in_default : goal.returns-in_default
returns-in_default c =
    let inv = c.loop-next.invariant in
    let none = ap (λ l. slice_get l c.loop-next.next) (sym inv.going) ∙ sym c.in_default.ensures in
    inv.gone ∙ ap (without_objects c.args.state.now) (all_taken c.args.state.now.going c.loop-next.next (none_past _ c.loop-next.next none))
