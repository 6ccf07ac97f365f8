use Rattle.std.specs.{HashMap.get, Prelude.{ℕ, ◌++◌, ◌≡◌, Err, List, None, Ok, OnErr, OnOk, Option, Result, length, nat_eq, replicate}}
use Rattle.std.{specs.Prelude.slice_get, proofs.Common.{◌∙◌, ap}}
use Rattle.objects.{specs.{declared.numbers.Places.Places, Places.{from_either, places_in}}, proofs.NumberLemmas.widened}
use Rattle.objects.proofs.numbers.widen.Goals as goal

-- a table that is wider, or stays as it is, gives the same places
by_result :
    {X E : Type 0} (places : Places) (early : List (Option ℕ)) (count other : ℕ) → length places.late.entries ≡ 0 → (r : Result X E)
    → OnOk r (early ≡ places.early ++ replicate count None) → OnErr r (early ≡ places.early)
    → from_either (slice_get early other) (get nat_eq places.late other) ≡ places_in places other
by_result places early count other none (Ok x) wider same =
    ap (λ table. from_either (slice_get table other) (get nat_eq places.late other)) wider ∙ widened places count other none
by_result places early count other none (Err e) wider same =
    ap (λ table. from_either (slice_get table other) (get nat_eq places.late other)) same

pub returns : goal.returns
returns c =
    λ other.
    by_result c.args.places.now c.widen.new.self _ other (c.is_empty.ensures.0 c.if-not-is_empty.false) c.widen.result
    c.widen.ensures.widened c.widen.ensures.same
