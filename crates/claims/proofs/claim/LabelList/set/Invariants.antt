-- The labels so far are in the set.
use Rattle.std.proofs.Common.{ℕ, ◌≡◌, take}
use Rattle.{base.specs.Labels.is_in, claims.specs.Claims.is_one_of}
use Rattle.claims.proofs.claim.LabelList.set.Given as goal

abbrev pub invariant-loop-label : goal.invariant-loop-label
invariant-loop-label l = (label : ℕ) → is_in l.set label ≡ is_one_of (take l.label-index l.self) label
