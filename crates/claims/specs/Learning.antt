-- Calls in fixed systems in which `apart` or `through` holds: what they return (confine's own; compare noninterference).
use Rattle.std.specs.Prelude.{[], ℕ, ◌∷◌, List}
use Rattle.machine.specs.{declared.call.{Event.Event, Outcome.Outcome}, Boot.IsBoot, Layout.Layout, Machine.Machine, Run.Run}
use Rattle.{reach.specs.Extents.Limits, flows.specs.Flowing.{FilterTest, IsClosedOff}}
use Rattle.noninterference.specs.{Fixed.IsFixed, Sets.{AreAlikeTo, DifferBeside, EndAlike, IsOfSet, RunsBeside, SetTest}}
use Rattle.claims.specs.{declared.{claim.Claim.{Claim, Claim as claim}, keeping.Kept.{Kept, Kept as kept}}, Claims.is_one_of}

-- two runs, of which these are the scripts' events, or those of the first, the outcomes and the last machines, look the same to threads of
-- the set: each of their events has the same outcome in both, and in the end all on which the set depends is the same
abbrev pub LookTheSame :
    Layout → Limits → SetTest → Machine → List Event → List Outcome → List Outcome → Machine → Machine → Type 0
LookTheSame t limits inside boot events outcomes ends m n =
    EndAlike (IsOfSet t boot inside) events outcomes ends × AreAlikeTo t limits inside m n

-- threads of the set learn nothing of what others do: two runs from the table's boot state look the same to them, if their scripts differ,
-- position by position, only in events of threads of other labels
abbrev pub LearnsNothing : Layout → Limits → SetTest → Type 0
LearnsNothing t limits inside =
    (boot m n : Machine) (events others : List Event) (outcomes ends : List Outcome) → IsBoot t boot
    → DifferBeside (IsOfSet t boot inside) events others → Run boot events outcomes m → Run boot others ends n
    → LookTheSame t limits inside boot events outcomes ends m n

-- threads of the set learn nothing but through filters: what filters show to the set is alike in both runs too, at each position, and so
-- is, after each event of a filter's thread, all on which the set depends
abbrev pub LearnsByFilters : Layout → Limits → FilterTest → SetTest → Type 0
LearnsByFilters t limits filters inside =
    (boot m n : Machine) (events others : List Event) (outcomes ends : List Outcome) → IsBoot t boot
    → RunsBeside t boot limits filters inside boot boot events outcomes others ends m n
    → LookTheSame t limits inside boot events outcomes ends m n

-- by whether there are filters
abbrev pub LearnsThrough : Layout → Limits → List ℕ → SetTest → Type 0
LearnsThrough t limits [] inside = LearnsNothing t limits inside
LearnsThrough t limits (filter ∷ filters) inside = LearnsByFilters t limits (is_one_of (filter ∷ filters)) inside

-- the set of labels that decides the claim, which has the second label and not the first, and but for the second no filter; and what its
-- threads learn
pub record IsHidden (t : Layout) (limits : Limits) (filters : List ℕ) (from to : ℕ) : Type 0 where
  pub off : IsClosedOff limits (is_one_of filters) from to
  pub learns : LearnsThrough t limits filters off.inside

-- what a claim keeps in a fixed system beyond what it keeps in each
abbrev pub IsKeptInCalls : Layout → Limits → Claim → Type 0
IsKeptInCalls t limits (claim.Through from to filters) = IsHidden t limits filters from to
IsKeptInCalls t limits _ = Unit {0}

-- what is kept of a table: this too where it is of a fixed system
abbrev pub IsKeptSo : Layout → Kept → Type 0
IsKeptSo t kept.Calls = IsFixed t
IsKeptSo t kept.Changes = ¬ IsFixed t
