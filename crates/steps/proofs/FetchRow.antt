-- The effect of a fetch that isn't refused: it emptied the caller's inbox.
use Rattle.std.{specs.Prelude.Ok, proofs.Common.{◌≡◌, ap, sym}}
use Rattle.base.specs.declared.ids.ObjId.{ObjId}
use Rattle.machine.specs.{declared.call.Made.Made, Machine.{Machine, object_of}, Step.Fetch.{emptied, fetch_of, fetched_in}}
use Rattle.steps.proofs.Conditions.{both_done, same_ok}

pub record FetchDone (m : Machine) (caller : ObjId) (next : Machine) : Type 0 where
  pub changes : next ≡ emptied m caller

pub fetch_done :
    (m : Machine) (caller : ObjId) (made : Made) (next : Machine) → fetch_of m caller ≡ Ok (made, next) → FetchDone m caller next
unfolding fetch_of
fetch_done m caller made next e =
    let given = both_done (fetched_in (object_of m caller)) _ (made, next) e in
    record { changes = sym (ap (λ p. p.1) (same_ok given.2)) }
