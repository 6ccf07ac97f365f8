-- The answers to a system alone, and to a system and a policy, by what is asked (compare the integrity of 'seL4 Enforces Integrity',
-- section 4; the questions are confine's own).
use Rattle.std.specs.Prelude.{[], ℕ, ◌≡◌, List, None, Option}
use Rattle.{base.specs.declared.edge.Edge.Edge, machine.specs.Layout.Layout}
use Rattle.{captext.specs.{Drafts.read_draft_of, Policies.read_policy_of}, reptext.specs.Objects.objects_text}
use Rattle.commands.specs.declared.{answer.Answer.Answer, choices.OfPolicy.{OfPolicy, OfPolicy as of_policy}}
use Rattle.commands.specs.declared.{choices.{OfSystem.{OfSystem, OfSystem as of_system}, Taken.Taken}, end.{Asked.Asked, End.End}}
use Rattle.commands.specs.{Commands.{Input, IsDoneOnSystem, IsDoneWith, Output, Says, no_label}, Hearing.{Hearing, WithIsHeard}}
use Rattle.report.specs.{Claimed.TellsStrongest, Closings.AnswersClosing, Flowing.{TellsAllFlows, TellsFlows}}
use Rattle.report.specs.Questions.{IsPicture, IsSoByPolicy, IsSoByReach, TellsWhy, unlabelled}
use Rattle.report.specs.{Shows.AnswersSearch, Summaries.TellsSummary, Using.{TellsUsers, unlabelled_object}}
use Rattle.forms.specs.declared.file.File.TheVariants as file
use Rattle.commands.specs.Hearing as held

-- the first label of the question that the table lacks
abbrev pub lacking : OfSystem → Layout → Option Asked
lacking (of_system.Why form actor object) t = unlabelled t actor.now object.now
lacking (of_system.Users usage object) t = unlabelled_object t object.now
lacking (of_system.Show search actor object) t = unlabelled t actor.now object.now
lacking (of_system.Flows from to) t = unlabelled t from.now to.now
lacking _ t = None

-- the answer to a system
abbrev pub AnswersSystem : OfSystem → Layout → Answer → Type 0
AnswersSystem (of_system.Start set written) t = AnswersClosing set written t []
AnswersSystem of_system.List t = Says (λ text. text ≡ objects_text t)
AnswersSystem (of_system.Why form actor object) t = Says (λ text. IsSoByReach t (TellsWhy form actor.now object.now t text))
AnswersSystem (of_system.Users usage object) t = Says (TellsUsers usage object.now t)
AnswersSystem (of_system.Show search actor object) t = AnswersSearch search actor.now object.now t
AnswersSystem (of_system.Draw picture) t = Says (λ text. IsSoByReach t (IsPicture picture t text))
AnswersSystem (of_system.Summary form) t = Says (TellsSummary form t)
AnswersSystem (of_system.Flows from to) t = Says (TellsFlows from.now to.now t)
AnswersSystem of_system.AllFlows t = Says (TellsAllFlows t)
AnswersSystem of_system.Strongest t = Says (TellsStrongest t)

abbrev pub IsAskedOfSystem : {T O : Type 0} → OfSystem → Taken → Input T → Output O → End → Type 0
IsAskedOfSystem asked taken = IsDoneOnSystem taken (lacking asked) (AnswersSystem asked)

-- questions about a system and a policy

abbrev pub lacking_of_policy : OfPolicy → Layout → Option Asked
lacking_of_policy (of_policy.Why form actor object) t = unlabelled t actor.now object.now
lacking_of_policy _ t = None

abbrev pub AnswersPolicy : OfPolicy → Layout → List Edge → Answer → Type 0
AnswersPolicy (of_policy.Close set written) t edges = AnswersClosing set written t edges
AnswersPolicy (of_policy.Why form actor object) t edges = Says (λ text. IsSoByPolicy edges (TellsWhy form actor.now object.now t text))
AnswersPolicy (of_policy.Draw picture) t edges = Says (λ text. IsSoByPolicy edges (IsPicture picture t text))

-- the answer was given on a policy that may be mended, if it is to be closed, and is read strictly otherwise
abbrev pub IsAskedOfPolicy : {T P O : Type 0} → OfPolicy → Taken → Input T → Input P → Output O → End → Type 0
IsAskedOfPolicy (of_policy.Close set written) taken =
    IsDoneWith taken file.Policy read_draft_of no_label (λ t draft. AnswersClosing set written t draft.edges)
IsAskedOfPolicy asked taken = IsDoneWith taken file.Policy read_policy_of (lacking_of_policy asked) (AnswersPolicy asked)

-- what a listener hears of a question about a system and a policy
abbrev pub PolicyIsHeard :
    {L O : Type 0} → (L → Hearing → L → Type 0) → OfPolicy → Taken → Option (List ℕ) → Option (List ℕ) → L → L → Output O → End → Type 0
PolicyIsHeard Hears (of_policy.Close set written) taken =
    WithIsHeard Hears held.draft taken file.Policy read_draft_of no_label (λ t draft. AnswersClosing set written t draft.edges)
PolicyIsHeard Hears asked taken =
    WithIsHeard Hears held.policy taken file.Policy read_policy_of (lacking_of_policy asked) (AnswersPolicy asked)
