-- The answers on what a label may do to another, and the pictures of all labels (compare the integrity of 'seL4 Enforces Integrity',
-- section 4; reasons and pictures are confine's own).
use Rattle.std.specs.Prelude.{ℕ, ◌++◌, ◌<◌, ◌↔◌, ◌≡◌, List, None, Option, Some, codes, true}
use Rattle.{base.specs.declared.edge.Edge.Edge, machine.specs.Layout.Layout, table.specs.Names.label_named}
use Rattle.policy.specs.{declared.why.Why.{Why, Why as why}, ActorReasons.IsWhyAmong, Policy.allows}
use Rattle.reach.specs.{declared.extent.Extent.Extent, Extents.{GoesTo, KeepsTo, Limits, limits_of}, Reach.{IsReachOf, TableReach}}
use Rattle.{captext.specs.PolicyText.edge_lines, diagram.specs.Folded.IsFoldedDrawing}
use Rattle.{diagram.specs.Drawing.IsDrawing, reptext.specs.{Reasons.why_data, Reports.line_of}}
use Rattle.commands.specs.declared.choices.{Form.{Form, Form as form}, Picture.{Picture, Picture as picture}}
use Rattle.commands.specs.declared.end.Asked.{Asked, Asked as asked}
use Rattle.base.specs.declared.label.TheConstants.Label as Label

-- the first of two labels that is absent
abbrev pub first_absent : Option ℕ → Option ℕ → Option Asked
first_absent None object = Some asked.Actor
first_absent (Some a) None = Some asked.Object
first_absent (Some a) (Some b) = None

-- the first of two names that is no label of the table
abbrev pub unlabelled : Layout → List ℕ → List ℕ → Option Asked
unlabelled t actor object = first_absent (label_named t actor) (label_named t object)

-- no step of any run goes further with objects of a label than the limits say
abbrev pub ReachIsKept : Layout → Limits → Type 0
ReachIsKept t limits = (a l : ℕ) (far : Extent) → GoesTo limits a l far → KeepsTo t a l far

-- a fact holds within the limits of a table's reach, which every run keeps
pub record IsSoByReach (t : Layout) (Is : Limits → Type 0) : Type 0 where
  pub reach : TableReach
  pub is_reach : IsReachOf t reach
  pub kept : ReachIsKept t (limits_of reach)
  pub so : Is (limits_of reach)

-- the limits of a policy alone, in which threads of each label make calls
pub record AreLimitsOfPolicy (edges : List Edge) (limits : Limits) : Type 0 where
  pub test : limits.test ≡ allows edges
  pub acts : (a : ℕ) → (limits.acts a ≡ true) ↔ (a < Label.COUNT)

-- a fact holds within the limits of a policy alone
pub record IsSoByPolicy (edges : List Edge) (Is : Limits → Type 0) : Type 0 where
  pub limits : Limits
  pub are_limits : AreLimitsOfPolicy edges limits
  pub so : Is limits

-- the lines on what a label may do: change objects, or only take, with the edges of the reason
abbrev pub why_text : Layout → Why → List ℕ
why_text t (why.Full edges) = codes "full\n" ++ edge_lines t edges.items
why_text t (why.Take edges) = codes "take\n" ++ edge_lines t edges.items
why_text t why.Nothing = codes "none\n"

-- the text on what a label may do, in a form
abbrev pub told_in : Form → Layout → ℕ → ℕ → Why → List ℕ
told_in form.Text t a l authority = why_text t authority
told_in form.Json t a l authority = line_of (why_data t a l authority)

-- a text says what threads of one name's label may do to objects of another's within limits, with the first reason
pub record TellsWhy (written : Form) (actor object : List ℕ) (t : Layout) (text : List ℕ) (limits : Limits) : Type 0 where
  pub of_actor : ℕ
  pub of_object : ℕ
  pub actor_named : label_named t actor ≡ Some of_actor
  pub object_named : label_named t object ≡ Some of_object
  pub authority : Why
  pub is_why : IsWhyAmong limits.test limits.acts of_actor of_object authority
  pub told : text ≡ told_in written t of_actor of_object authority

-- a text is this picture of who may change or take from whom, within limits
abbrev pub IsPicture : Picture → Layout → List ℕ → Limits → Type 0
IsPicture picture.Labels t text limits = IsDrawing t limits text
IsPicture picture.Programs t text limits = IsFoldedDrawing t limits text
