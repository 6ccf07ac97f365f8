-- Reasons why a label may change another's objects, or make them smaller, if only some labels act: the edges of a way, in their order, and
-- which of several reasons is told (telling why is confine's own).
use Rattle.std.specs.Prelude.{[], ℕ, ◌∷◌, ◌≡◌, List}
use Rattle.base.specs.declared.{edge.Edge.Edge, kind.Kind.{TheVariants.{Await, Call, Context, Control, Grant, Holds, Notify}}}
use Rattle.base.specs.declared.kind.Kind.TheVariants.{Receive, Reply, Reset, Runs, Send}
use Rattle.policy.specs.{declared.why.Why.{Why, Why as why}, Change.{ActorTest, MayChange, MayChangeContext, WayToChange}, Domain.EdgeTest}
use Rattle.policy.specs.Change.{binds, configures, grants, lends, links, modifies, notifies, own, receives, replies, returns, sends, shares}
use Rattle.policy.specs.NarrowTake.{MayShrink, TakesByControl, WayToShrink, controls, drops, ends, frees, halts, releases, removes, stops}
use Rattle.policy.specs.{NarrowTake.{unbinds, wakes}, Places.IsLeast, Reasons.{edge, reason_place}}

-- the edge by which a label may change a context
abbrev pub context_edges : {test : EdgeTest} {acts : ActorTest} {a l : ℕ} → MayChangeContext test acts a l → List Edge
context_edges {test} {acts} {a} {l} (configures core used governed) = edge a Context l ∷ []
context_edges {test} {acts} {a} {l} (binds thread used controlled) = edge a Context l ∷ []
context_edges {test} {acts} {a} {l} (lends ran lent) = edge a Runs l ∷ []
context_edges {test} {acts} {a} {l} (returns ran borrowed) = edge a Runs l ∷ []

abbrev pub change_edges : {test : EdgeTest} {acts : ActorTest} {a l : ℕ} → WayToChange test acts a l → List Edge
change_edges (own same) = []
change_edges {test} {acts} {a} {l} (modifies kind is_changing there) = edge a kind l ∷ []
change_edges (shares context) = context_edges context
change_edges {test} {acts} {a} {l} (sends endpoint sent received waits) = edge a Send endpoint ∷ edge l Receive endpoint ∷ []
change_edges {test} {acts} {a} {l} (receives endpoint received sent waits) = edge a Receive endpoint ∷ edge l Send endpoint ∷ []
change_edges {test} {acts} {a} {l} (notifies notification notified awaited waits) =
    edge a Notify notification ∷ edge l Await notification ∷ []
change_edges {test} {acts} {a} {l} (links endpoint receiver sent called received waits named) =
    edge a Call endpoint ∷ edge receiver Receive endpoint ∷ edge receiver Reply l ∷ []
change_edges {test} {acts} {a} {l} (grants endpoint receiver granted received waits controlled) =
    edge a Grant endpoint ∷ edge receiver Receive endpoint ∷ edge receiver Control l ∷ []
change_edges {test} {acts} {a} {l} (replies answer) = edge a Reply answer.reply ∷ edge answer.reply Holds l ∷ []

-- the edges by which a label takes through a label that it controls
abbrev pub control_edges : {test : EdgeTest} {acts : ActorTest} {a l : ℕ} → TakesByControl test acts a l → List Edge
control_edges {test} {acts} {a} {l} (removes controlled kind is_removed control there) =
    edge a Control controlled ∷ edge controlled kind l ∷ []
control_edges {test} {acts} {a} {l} (releases caller control waits held) = edge a Control caller ∷ edge l Holds caller ∷ []
control_edges {test} {acts} {a} {l} (wakes controlled end kind is_waiting control reset there waits) =
    edge a Control controlled ∷ edge controlled Reset end ∷ edge l kind end ∷ []
control_edges {test} {acts} {a} {l} (drops controlled endpoint receiver control reset received waits named) =
    edge a Control controlled ∷ edge controlled Reset endpoint ∷ edge receiver Receive endpoint ∷ edge receiver Reply l ∷ []

abbrev pub shrink_edges : {test : EdgeTest} {acts : ActorTest} {a l : ℕ} → WayToShrink test acts a l → List Edge
shrink_edges {test} {acts} {a} {l} (unbinds used) = edge a Context l ∷ []
shrink_edges {test} {acts} {a} {l} (stops context used ran) = edge a Context context ∷ edge l Runs context ∷ []
shrink_edges {test} {acts} {a} {l} (halts halt) = edge a Reply halt.reply ∷ edge halt.reply Holds l ∷ []
shrink_edges {test} {acts} {a} {l} (ends reply receiver used named waits received) =
    edge a Reply reply ∷ edge receiver Reply reply ∷ edge receiver Receive l ∷ []
shrink_edges {test} {acts} {a} {l} (frees endpoint receiver sent received waits named) =
    edge a Send endpoint ∷ edge receiver Receive endpoint ∷ edge receiver Reply l ∷ []
shrink_edges (controls taken) = control_edges taken

-- the list has the edges of a way in which a label may change another's objects
abbrev pub IsChangeBy : EdgeTest → ActorTest → ℕ → ℕ → List Edge → Type 0
IsChangeBy test acts a l edges = (may : MayChange test acts a l) × (change_edges may.way ≡ edges)

-- the list has the edges of a way in which a label may make another's objects smaller
abbrev pub IsShrinkBy : EdgeTest → ActorTest → ℕ → ℕ → List Edge → Type 0
IsShrinkBy test acts a l edges = (may : MayShrink test acts a l) × (shrink_edges may.way ≡ edges)

-- what a label may do to another's objects if these labels act, and the first reason for it
abbrev pub IsWhyAmong : EdgeTest → ActorTest → ℕ → ℕ → Why → Type 0
IsWhyAmong test acts a l (why.Full edges) = IsLeast reason_place (IsChangeBy test acts a l) edges.items
IsWhyAmong test acts a l (why.Take edges) = (¬ MayChange test acts a l) × IsLeast reason_place (IsShrinkBy test acts a l) edges.items
IsWhyAmong test acts a l why.Nothing = (¬ MayChange test acts a l) × (¬ MayShrink test acts a l)
