-- The verdict by a set of rules: P1 to P8 of closed policies or S1 to S8 of sharply closed ones, and A1 to A4 with either (confine's own).
use Rattle.{std.specs.Prelude.{Err, List, Ok, Result}, base.specs.declared.edge.Edge.Edge, machine.specs.Layout.Layout}
use Rattle.policy.specs.{Broken.IsBrokenAt, Domain.EdgeTest, Places.{IsLeast, IsNone}, Policy.allows}
use Rattle.{sharp.specs.Broken.IsSharplyBrokenAt, integrity.specs.Keeping.MayKeep}
use Rattle.verdict.specs.declared.{denial.Denial.Denial, rules.Rules.{Rules, Rules as rules}}
use Rattle.verdict.specs.{Sources.of_table, Verdict.{Breaks, IsExceeded, place_of}}
use Rattle.verdict.specs.declared.denial.Denial.TheVariants as denial

-- the policy breaks one of its own rules: P1 to P8, or S1 to S8 with the labels that may keep as keepers
abbrev pub BreaksOwn : Rules → Layout → EdgeTest → Denial → Type 0
BreaksOwn rules.Closed t allowed (denial.Policy broken) = IsBrokenAt allowed broken
BreaksOwn rules.Sharp t allowed (denial.Sharp broken) = IsSharplyBrokenAt allowed (MayKeep t allowed) broken
BreaksOwn set t allowed d = ⊥

-- a sharp rule or one of authority is broken at a place
abbrev pub BreaksSharply : Layout → EdgeTest → Denial → Type 0
BreaksSharply t allowed (denial.Sharp broken) = IsSharplyBrokenAt allowed (MayKeep t allowed) broken
BreaksSharply t allowed d = IsExceeded (of_table t) allowed d

-- a rule of the set is broken at a place
abbrev pub BreaksBy : Rules → Layout → EdgeTest → Denial → Type 0
BreaksBy rules.Closed = Breaks
BreaksBy rules.Sharp = BreaksSharply

abbrev pub IsLeastBrokenBy : Rules → Layout → EdgeTest → Denial → Type 0
IsLeastBrokenBy set t allowed = IsLeast place_of (BreaksBy set t allowed)

abbrev pub IsAcceptedBy : Rules → Layout → EdgeTest → Type 0
IsAcceptedBy set t allowed = IsNone (BreaksBy set t allowed)

-- accepted if no rule is broken; else denied with the least place where one is
abbrev pub IsVerdictBy : {X : Type 0} → Rules → Layout → List Edge → Result X Denial → Type 0
IsVerdictBy set t edges (Ok accepted) = IsAcceptedBy set t (allows edges)
IsVerdictBy set t edges (Err denial) = IsLeastBrokenBy set t (allows edges) denial
