use Rattle.std.{specs.Prelude.All, proofs.Common.{◌≡◌, map, take}}
use Rattle.{reach.specs.Extents.{GoesTo, limits_of}, summary.specs.declared.user_lines.User.User}
use Rattle.summary.proofs.user_lines.users.Given as goal

-- the users of the labels so far are there
abbrev pub invariant-loop-label : goal.invariant-loop-label
invariant-loop-label l =
    (map (λ (user : User). user.label) l.users.items ≡ take l.label-index l.labels)
    × All (λ (user : User). GoesTo (limits_of l.reach) user.label l.object user.extent) l.users.items
