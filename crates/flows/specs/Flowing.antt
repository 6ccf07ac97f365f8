-- Flows from a label to others: to whom what it does may come, through whom, and what is then kept in every run (confine's own).
use Rattle.std.specs.Prelude.{ℕ, ◌≡◌, ◌⊎◌, Bool, false, true}
use Rattle.{machine.specs.Layout.Layout, integrity.specs.Apart.NeverChanges}
use Rattle.{reach.specs.Extents.{Limits, MayChangeIn, MayShrinkIn}, flows.specs.Seeing.Sees}

-- which labels are filters
abbrev pub FilterTest : Type 0
FilterTest = ℕ → Bool

-- threads of x may change objects of l, or make them smaller. Only a label that acts may
abbrev pub MayAffect : Limits → ℕ → ℕ → Type 0
MayAffect limits x l = MayChangeIn limits x l ⊎ MayShrinkIn limits x l

-- y depends on objects of l: they are its own, or it sees them. A label that doesn't act, as one of memory, depends on its own alone
abbrev pub DependsOn : Limits → ℕ → ℕ → Type 0
DependsOn limits y l = (l ≡ y) ⊎ Sees limits y l

-- what x does may come to y by objects of l
pub record FlowsBy (limits : Limits) (x l y : ℕ) : Type 0 where
  pub affects : MayAffect limits x l
  pub depends : DependsOn limits y l

-- what x does may come to y by objects of some label
abbrev pub FlowsTo : Limits → ℕ → ℕ → Type 0
FlowsTo limits x y = (l : ℕ) × FlowsBy limits x l y

-- what x does may come to y by objects of a label that is no filter
pub record FlowsBeside (limits : Limits) (filters : FilterTest) (x y : ℕ) : Type 0 where
  pub object : ℕ
  pub flows : FlowsBy limits x object y
  pub beside : filters object ≡ false

-- a chain goes on past a label that is an end of it, or no filter
abbrev pub GoesOn : FilterTest → ℕ → ℕ → Type 0
GoesOn filters end x = (x ≡ end) ⊎ (filters x ≡ false)

-- a chain of flows from one label to another: no label between them is a filter, and none of the flows is by an object of a filter
pub data FlowLeads (limits : Limits) (filters : FilterTest) (from : ℕ) : ℕ → Type 0 where
  starts : FlowLeads limits filters from from
  goes_on : {x y : ℕ} → FlowLeads limits filters from x → GoesOn filters from x → FlowsBeside limits filters x y → FlowLeads limits filters from y

-- there is no chain of flows from the one to the other that passes no filter and uses no object of a filter
abbrev pub GoesThrough : Limits → FilterTest → ℕ → ℕ → Type 0
GoesThrough limits filters from to = ¬ FlowLeads limits filters from to

-- a set of labels that has the second and not the first, and but for the second no filter. From each of its labels a chain leads to the
-- second. Labels outside it don't flow to labels in it, but for filters, and by objects of filters
pub record IsClosedOff (limits : Limits) (filters : FilterTest) (from to : ℕ) : Type 0 where
  pub inside : ℕ → Bool
  pub has : inside to ≡ true
  pub lacks : inside from ≡ false
  pub unfiltered : (y : ℕ) → inside y ≡ true → GoesOn filters to y
  pub leads : (y : ℕ) → inside y ≡ true → FlowLeads limits filters y to
  pub closed : (x y : ℕ) → inside x ≡ false → GoesOn filters from x → inside y ≡ true → ¬ FlowsBeside limits filters x y

-- what is kept in every run

-- no step of a thread of x ever changes an object on which y depends, but for objects of filters
abbrev pub NeverDisturbs : Layout → Limits → FilterTest → ℕ → ℕ → Type 0
NeverDisturbs t limits filters x y = (l : ℕ) → DependsOn limits y l → filters l ≡ false → NeverChanges t x l

-- there is a set of labels that has the second and not the first, and but for the second no filter. From each of its labels a chain leads
-- to the second. Threads of a label outside it, but for filters, never disturb a label in it
pub record IsShielded (t : Layout) (limits : Limits) (filters : FilterTest) (from to : ℕ) : Type 0 where
  pub inside : ℕ → Bool
  pub has : inside to ≡ true
  pub lacks : inside from ≡ false
  pub unfiltered : (y : ℕ) → inside y ≡ true → GoesOn filters to y
  pub leads : (y : ℕ) → inside y ≡ true → FlowLeads limits filters y to
  pub kept : (x y : ℕ) → inside x ≡ false → GoesOn filters from x → inside y ≡ true → NeverDisturbs t limits filters x y
