-- Requests: what a command line may ask for, and with which files (confine's own).
use Rattle.std.specs.{Borrow.Bor, Option.option_map_or, Prelude.{[], ℕ, ◌<◌, ◌≡◌, ◌≤◌, List, None, Option, Some}}
use Rattle.forms.specs.declared.file.File.{File, File as file}
use Rattle.commands.specs.declared.{choices.{OfPolicy.TheVariants.{Why as WhyAllowed}, OfSystem.TheVariants.{Flows, Show, Users, Why}}, end.Asked.{Asked, Asked as label}}
use Rattle.verdict.specs.declared.rules.Rules.{Rules as rules}
use Rattle.requests.specs.declared.request.{CommandLine.{CommandLine, TheVariants.{InTurn, Split}}, OfThree.TheVariants.Run}
use Rattle.requests.specs.declared.request.{Request.{Request, Request as request}, SplitRun.SplitRun}

-- a check has 1 to 16 workers
abbrev pub HasFewWorkers : {N : Type 0} → Request N → Type 0
HasFewWorkers (request.OfDescription asked description) = Unit {0}
HasFewWorkers (request.OfSystem asked taken system) = Unit {0}
HasFewWorkers (request.OfPolicy asked taken system policy) = Unit {0}
HasFewWorkers (request.OfClaims taken system claims) = Unit {0}
HasFewWorkers (request.OfTwo form taken old new) = Unit {0}
HasFewWorkers (request.Check asked table policy) = (1 ≤ asked.workers) × (asked.workers ≤ 16)
HasFewWorkers (request.OfThree asked table policy third) = Unit {0}

-- two requests ask the same, and their files correspond one by one
abbrev pub OnEach : {N M : Type 0} → (N → M → Type 0) → Request N → Request M → Type 0
OnEach R (request.OfDescription asked description) (request.OfDescription also d) = (asked ≡ also) × R description d
OnEach R (request.OfSystem asked taken system) (request.OfSystem also how s) = (asked ≡ also) × (taken ≡ how) × R system s
OnEach R (request.OfPolicy asked taken system policy) (request.OfPolicy also how s p) = (asked ≡ also) × (taken ≡ how) × R system s × R policy p
OnEach R (request.OfClaims taken system claims) (request.OfClaims how s c) = (taken ≡ how) × R system s × R claims c
OnEach R (request.OfTwo form taken old new) (request.OfTwo also how o n) = (form ≡ also) × (taken ≡ how) × R old o × R new n
OnEach R (request.Check asked table policy) (request.Check also t p) = (asked ≡ also) × R table t × R policy p
OnEach R (request.OfThree asked table policy third) (request.OfThree also t p x) = (asked ≡ also) × R table t × R policy p × R third x
OnEach R _ _ = ⊥

abbrev pub names_of : SplitRun → Request (Bor (List ℕ))
names_of run = request.OfThree (Run rules.Closed) run.table run.policy run.script

-- a fact for a request that is done in turn
abbrev pub OnInTurn : CommandLine → (Request (Bor (List ℕ)) → Type 0) → Type 0
OnInTurn (InTurn invocation) P = P invocation.request
OnInTurn (Split run) P = Unit {0}

-- the file of this kind, if a request has one; a system counts as a table and as a description, the third file as each other kind
abbrev pub file_of : {N : Type 0} → Request N → File → Option N
file_of (request.OfDescription asked description) file.Description = Some description
file_of (request.OfSystem asked taken system) file.Table = Some system
file_of (request.OfSystem asked taken system) file.Description = Some system
file_of (request.OfPolicy asked taken system policy) file.Table = Some system
file_of (request.OfPolicy asked taken system policy) file.Description = Some system
file_of (request.OfPolicy asked taken system policy) file.Policy = Some policy
file_of (request.OfClaims taken system claims) file.Table = Some system
file_of (request.OfClaims taken system claims) file.Description = Some system
file_of (request.OfClaims taken system claims) file.Claims = Some claims
file_of (request.OfTwo form taken old new) file.Table = Some old
file_of (request.OfTwo form taken old new) file.Description = Some old
file_of (request.OfTwo form taken old new) file.New = Some new
file_of (request.Check asked table policy) file.Table = Some table
file_of (request.Check asked table policy) file.Policy = Some policy
file_of (request.OfThree asked table policy third) file.Table = Some table
file_of (request.OfThree asked table policy third) file.Policy = Some policy
file_of (request.OfThree asked table policy third) _ = Some third
file_of _ _ = None

-- the name of the file of this kind, or an empty name
abbrev pub file_name_of : Request (Bor (List ℕ)) → File → List ℕ
file_name_of names kind = option_map_or (λ name. name.now) (file_of names kind) []

-- the label that a request asks about, or an empty word
abbrev pub label_of : {N : Type 0} → Request N → Asked → List ℕ
label_of (request.OfSystem (Why form actor object) taken system) label.Actor = actor.now
label_of (request.OfSystem (Why form actor object) taken system) label.Object = object.now
label_of (request.OfSystem (Users usage object) taken system) label.Object = object.now
label_of (request.OfSystem (Show search actor object) taken system) label.Actor = actor.now
label_of (request.OfSystem (Show search actor object) taken system) label.Object = object.now
label_of (request.OfSystem (Flows from to) taken system) label.Actor = from.now
label_of (request.OfSystem (Flows from to) taken system) label.Object = to.now
label_of (request.OfPolicy (WhyAllowed form actor object) taken system policy) label.Actor = actor.now
label_of (request.OfPolicy (WhyAllowed form actor object) taken system policy) label.Object = object.now
label_of _ _ = []

-- all workers of a check have arrived
abbrev pub HaveArrived : {N : Type 0} → (ℕ → Type 0) → Request N → Type 0
HaveArrived arrived (request.Check asked table policy) = (worker : ℕ) → worker < asked.workers → arrived worker
HaveArrived arrived _ = Unit {0}
