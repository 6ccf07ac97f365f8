-- The requests that command lines make: each command with its words and options, and what these ask for (confine's own).
use Rattle.std.specs.{Borrow.Bor, Prelude.{ℕ, ◌&&◌, Bool, List, None, Option, Some, codes, if◌then◌else◌, is_some, nat_le}}
use Rattle.std.specs.{Option.option_map_or, Prelude.option_and_then, Str.bytes_eq}
use Rattle.words.specs.Number.{dec_of}
use Rattle.importing.specs.declared.pieces.Minting.{Minting, Minting as minting}
use Rattle.commands.specs.declared.choices.{Form.{Form, Form as form}, Imported.{Imported, Imported as imported}, OnAccept.OnAccept}
use Rattle.commands.specs.declared.choices.{OnAccept.OnAccept as on_accept, OnClose.{OnClose, OnClose as on_close}, OnImport.OnImport}
use Rattle.commands.specs.declared.choices.{OfPolicy.{OfPolicy, OfPolicy as by_policy}, OfSystem.{OfSystem, OfSystem as asked}}
use Rattle.commands.specs.declared.choices.{Picture.{Picture, Picture as picture}, Search.Search, Taken.{Taken, Taken as taken}, Use.{Use, Use as usage}}
use Rattle.verdict.specs.declared.rules.Rules.{Rules, Rules as rules}
use Rattle.requests.specs.declared.request.{CommandLine.{CommandLine, TheVariants.{InTurn, Split}}, Format.{Format, Format as format}}
use Rattle.requests.specs.declared.request.{Manner.Manner, OfThree.{OfThree, OfThree as three}, Request.{Request, Request as request}}
use Rattle.requests.specs.declared.meaning.{Verb.{Verb, Verb as verb}, Words.Words}

infixl 10 ◌>>=◌
abbrev ◌>>=◌ : {A B : Type 0} → Option A → (A → Option B) → Option B
value >>= next = option_and_then next value

-- a word of the command line
abbrev pub Name : Type 0
Name = Bor (List ℕ)

-- the number within these limits that a word spells in decimal
abbrev pub number_in : ℕ → ℕ → List ℕ → Option ℕ
number_in least most word = do
  number ← dec_of word
  if nat_le least number && nat_le number most then Some number else None

-- the rights that capabilities get by a word
abbrev pub minting_of : List ℕ → Option Minting
minting_of word =
    if bytes_eq word (codes "least") then Some minting.Least else if bytes_eq word (codes "all") then Some minting.All else None

-- the text that `check` writes
abbrev pub on_accept_of : Words → OnAccept
on_accept_of words = if words.cert then on_accept.Certificate else on_accept.Report

-- the text that `close` writes
abbrev pub on_close_of : Words → OnClose
on_close_of words = if words.missing then on_close.Missing else if words.surplus then on_close.Surplus else on_close.Policy

-- the rules of a name
abbrev pub rules_of : List ℕ → Option Rules
rules_of word =
    if bytes_eq word (codes "closed") then Some rules.Closed else if bytes_eq word (codes "sharp") then Some rules.Sharp else None

-- the rules by which a policy is judged
abbrev pub set_of : Words → Option Rules
set_of words = do
  word ← words.rules
  rules_of word.now

-- the labels that `draw` draws
abbrev pub picture_of : Words → Picture
picture_of words = if words.all then picture.Labels else picture.Programs

-- the run that `show` looks for, and with how many calls
abbrev pub search_of : Words → Option Search
search_of words = do
  word ← words.steps
  steps ← number_in 1 1000000 word.now
  Some (record { takes = words.take; steps = steps })

-- the text that `import` writes
abbrev pub imported_of : Words → Imported
imported_of words = if words.as_claims then imported.Claims else imported.Table

-- the rights with which `import` reads a description, and the text that it writes
abbrev pub on_import_of : Words → Option OnImport
on_import_of words = do
  rights ← words.rights
  minting ← minting_of rights.now
  Some (record { minting = minting; writes = imported_of words })

-- the format of reports by a word
abbrev pub format_of : List ℕ → Option Format
format_of word =
    if bytes_eq word (codes "json") then Some format.Json
    else if bytes_eq word (codes "short") then Some format.Short else None

-- the format of a command whose answer has two forms; as text, reports are JSON too
abbrev pub format_beside : List ℕ → Option Format
format_beside word = if bytes_eq word (codes "text") then Some format.Json else format_of word

-- the format of each command by a word
abbrev pub format_for : Verb → List ℕ → Option Format
format_for verb.Why = format_beside
format_for verb.Summary = format_beside
format_for verb.Diff = format_beside
format_for _ = format_of

-- the form of an answer: text, unless the word is for JSON
abbrev pub form_of : Words → Option Form
form_of words = do
  word ← words.format
  Some (if bytes_eq word.now (codes "json") then form.Json else form.Text)

-- the number of seconds for which runs are searched that explain findings, up to a day; 10 without a word
abbrev pub seconds_of : Words → Option ℕ
seconds_of words = option_map_or (λ word. number_in 0 86400 word.now) words.seconds (Some 10)

-- the manner in which a command reports its findings
abbrev pub manner_of : Words → Option Manner
manner_of words = do
  word ← words.format
  format ← format_for words.verb word.now
  seconds ← seconds_of words
  Some (record { explains = words.explain; is_quiet = words.quiet; format = format; seconds = seconds })

-- the command line of a request that waits for nothing
abbrev pub in_turn : Words → Request Name → Option CommandLine
in_turn words told = do
  manner ← manner_of words
  Some (InTurn (record { request = told; manner = manner }))

-- the rights of the capabilities of a description, by a word
abbrev pub rights_of : List ℕ → Option Taken
rights_of word = do
  minting ← minting_of word
  Some (taken.System (Some minting))

-- the form in which a system is given: as a table, or a description with its rights
abbrev pub taken_of : Words → Option Taken
taken_of words = option_map_or (λ word. rights_of word.now) words.rights (Some (taken.System None))

-- the form in which either of two systems is given
abbrev pub either_of : List ℕ → Option Taken
either_of word = do
  minting ← minting_of word
  Some (taken.Either (Some minting))

abbrev pub taken_of_two : Words → Option Taken
taken_of_two words = option_map_or (λ word. either_of word.now) words.rights (Some (taken.Either None))

-- a command on a system alone
abbrev pub of_system : Words → OfSystem → Option CommandLine
of_system words what = do
  how ← taken_of words
  system ← words.system
  in_turn words (request.OfSystem what how system)

-- a command on a system and a policy
abbrev pub of_policy : Words → OfPolicy → Option CommandLine
of_policy words what = do
  how ← taken_of words
  system ← words.system
  policy ← words.policy
  in_turn words (request.OfPolicy what how system policy)

-- a command on a table, a policy and a third file
abbrev pub of_three : Words → OfThree → Option Name → Option CommandLine
of_three words what file = do
  table ← words.system
  policy ← words.policy
  third ← file
  in_turn words (request.OfThree what table policy third)

-- a policy is closed, if there is one; else a policy is made for the system
abbrev pub closing_of : Words → Rules → Option CommandLine
closing_of words set =
    if is_some words.policy then of_policy words (by_policy.Close set (on_close_of words))
    else of_system words (asked.Start set (on_close_of words))

-- the authority of a label over another: by a policy if there is one, else in runs of the table
abbrev pub why_one : Words → Form → Name → Name → Option CommandLine
why_one words written actor object =
    if is_some words.policy then of_policy words (by_policy.Why written actor object) else of_system words (asked.Why written actor object)

-- `*` in place of a label asks about each other label
abbrev pub is_everybody : List ℕ → Bool
is_everybody word = bytes_eq word (codes "*")

abbrev pub usage_of : Words → Use
usage_of words = if words.reads then usage.Reads else usage.Changes

-- the users of a label, in runs of the table and in one form
abbrev pub users_of : Words → Form → Name → Option CommandLine
users_of words form.Text object = if is_some words.policy then None else of_system words (asked.Users (usage_of words) object)
users_of words form.Json object = None

abbrev pub why_of : Words → Form → Name → Name → Option CommandLine
why_of words written actor object =
    if is_everybody actor.now then users_of words written object
    else if words.reads then None else why_one words written actor object

-- a drawing: of a policy if there is one, else of the table
abbrev pub drawing_of : Words → Option CommandLine
drawing_of words =
    if is_some words.policy then of_policy words (by_policy.Draw (picture_of words)) else of_system words (asked.Draw (picture_of words))

-- the flows from one label to another, or between all programs
abbrev pub flows_by : Words → Option Name → Option Name → Option CommandLine
flows_by words (Some from) (Some to) = of_system words (asked.Flows from to)
flows_by words None None = of_system words asked.AllFlows
flows_by words _ _ = None

abbrev pub flows_of : Words → Option CommandLine
flows_of words = flows_by words words.actor words.object

-- a run by workers
abbrev pub split_of : Words → Option CommandLine
split_of words = do
  table ← words.system
  policy ← words.policy
  script ← words.script
  manner ← manner_of words
  Some (Split (record { table = table; policy = policy; script = script; manner = manner }))

-- a run of a script in turn
abbrev pub running_of : Words → Option CommandLine
running_of words = do
  set ← set_of words
  of_three words (three.Run set) words.script

-- whether claims hold of a system
abbrev pub claims_of : Words → Option CommandLine
claims_of words = do
  how ← taken_of words
  system ← words.system
  claims ← words.claims
  in_turn words (request.OfClaims how system claims)

-- what changes from one system to another
abbrev pub diff_of : Words → Option CommandLine
diff_of words = do
  written ← form_of words
  how ← taken_of_two words
  old ← words.system
  new ← words.newer
  in_turn words (request.OfTwo written how old new)

-- a check of a table against a policy
abbrev pub check_of : Words → Option CommandLine
check_of words = do
  set ← set_of words
  word ← words.workers
  workers ← number_in 1 16 word.now
  table ← words.system
  policy ← words.policy
  in_turn words (request.Check (record { rules = set; workers = workers; on_accept = on_accept_of words }) table policy)

-- the command line of a command with these words; none if it lacks a word
abbrev pub asked_by : Verb → Words → Option CommandLine
asked_by verb.Import words = do
  on_import ← on_import_of words
  description ← words.system
  in_turn words (request.OfDescription on_import description)
asked_by verb.Check words = check_of words
asked_by verb.Verify words = do
  set ← set_of words
  of_three words (three.Verify set) words.certificate
asked_by verb.Run words = if words.split then split_of words else running_of words
asked_by verb.Replay words = of_three words three.Replay words.log
asked_by verb.Close words = do
  set ← set_of words
  closing_of words set
asked_by verb.Why words = do
  written ← form_of words
  actor ← words.actor
  object ← words.object
  why_of words written actor object
asked_by verb.Show words = do
  search ← search_of words
  actor ← words.actor
  object ← words.object
  of_system words (asked.Show search actor object)
asked_by verb.Draw words = drawing_of words
asked_by verb.Summary words = do
  written ← form_of words
  of_system words (asked.Summary written)
asked_by verb.Flows words = flows_of words
asked_by verb.Diff words = diff_of words
asked_by verb.Claims words = if words.all then of_system words asked.Strongest else claims_of words
asked_by verb.List words = of_system words asked.List

abbrev pub command_line_of : Words → Option CommandLine
command_line_of words = asked_by words.verb words

abbrev pub verb_name : Verb → List ℕ
verb_name verb.Import = codes "import"
verb_name verb.Check = codes "check"
verb_name verb.Verify = codes "verify"
verb_name verb.Run = codes "run"
verb_name verb.Replay = codes "replay"
verb_name verb.Close = codes "close"
verb_name verb.Why = codes "why"
verb_name verb.Show = codes "show"
verb_name verb.Draw = codes "draw"
verb_name verb.Summary = codes "summary"
verb_name verb.Flows = codes "flows"
verb_name verb.Diff = codes "diff"
verb_name verb.Claims = codes "claims"
verb_name verb.List = codes "list"
