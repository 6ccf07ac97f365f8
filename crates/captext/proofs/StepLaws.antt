-- Single steps of reading a line: what one says of the value or the test it rests on.
use Rattle.std.proofs.Common.{◌≡◌, Bool, None, Ok, Option, Result, Some, false, refl, true}
use Rattle.{words.specs.{declared.faults.Wrong.Wrong, Reading.bind}, captext.specs.Tables.{demand, value_or}}

-- a test was passed, and reading went on
pub demand_then : {Y : Type 0} (test : Bool) (wrong : Wrong) (f : Unit {0} → Result Y Wrong) (y : Y)
    → bind (demand test wrong) f ≡ Ok y → (test ≡ true) × (f tt ≡ Ok y)
unfolding bind
demand_then true wrong f y h = (refl, h)
demand_then false wrong f y h = cc

-- a value was there, and reading went on with it
pub value_then : {X Y : Type 0} (o : Option X) (wrong : Wrong) (f : X → Result Y Wrong) (y : Y) → bind (value_or wrong o) f ≡ Ok y
    → (x : X) × (o ≡ Some x) × (f x ≡ Ok y)
unfolding bind
value_then (Some x) wrong f y h = (x, refl, h)
value_then None wrong f y h = cc
