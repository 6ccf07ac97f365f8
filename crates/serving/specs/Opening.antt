-- The service of a request on files that are opened by their names (confine's own).
use Rattle.std.specs.{declared.io.Error.Error, Borrow.Bor, Global.Vec, Prelude.{[], ℕ, ◌≡◌, ◌⊎◌, List, Option, Result, Some, false}}
use Rattle.devices.specs.{declared.{opened.Unopened.Unopened, watched.Watched.Watched}, Opened.{bytes_left, opened}, Watched.device_of}
use Rattle.devices.specs.Watched.{failed_of, is_flushed_of}
use Rattle.commands.specs.{declared.end.End.End, Commands.{Input, IsDoneOnTwo, Output, input, output}, Ends.status_of}
use Rattle.report.specs.{Answers.{IsChecked, IsRun, IsRunSplit, IsVerifiedWith}, Claimed.AreJudged, Compared.Compares, Imports.IsImported}
use Rattle.report.specs.{Replays.IsReplayed, Systems.{IsAskedOfSystem, IsAskedOfPolicy}}
use Rattle.requests.specs.declared.request.OfThree.{OfThree, TheVariants.{Replay, Run, Verify}}
use Rattle.requests.specs.{declared.request.Request.{Request, Request as request}, Requests.OnEach}
use Rattle.either.specs.declared.Either.{Either}

-- an output, before and after
abbrev pub written : {W : Type 0} → (W → Option (List ℕ)) → Watched W → Watched W → Output (Watched W)
written contents old new = output (λ o. contents (device_of o)) failed_of is_flushed_of old new

-- a file, or the error of opening it
abbrev pub Opened : Type 0 → Type 0
Opened F = Watched (Either F Unopened)

-- an opened file, before and after
abbrev pub read : {F : Type 0} → (F → Option (List ℕ)) → Opened F → Opened F → Input (Opened F)
read remaining old new = input (bytes_left remaining) failed_of old new

-- a file was opened by this name, with this result
pub record IsOpenedBy {F : Type 0} (opens : List ℕ → Result F Error → Type 0) (name : List ℕ) (file : Watched (Either F Unopened)) : Type 0 where
  pub given : Result F Error
  pub by_name : opens name given
  pub is : file ≡ opened given

-- the files of a request were opened by their names
abbrev pub AreOpenedBy : {F : Type 0} → (List ℕ → Result F Error → Type 0) → Request (Bor (List ℕ)) → Request (Opened F) → Type 0
AreOpenedBy opens = OnEach (λ name file. IsOpenedBy opens name.now file)

-- no file of a request has failed
abbrev pub AreSound : {F : Type 0} → Request (Opened F) → Type 0
AreSound files = OnEach (λ file also. failed_of file ≡ false) files files

-- a command on a table, a policy and a third file was done
abbrev pub ServesThree : {T P S O : Type 0} → OfThree → Input T → Input P → Input S → Output O → End → Type 0
ServesThree (Verify set) = IsVerifiedWith set
ServesThree (Run set) = IsRun set
ServesThree Replay = IsReplayed

-- a request was done on these files, which became those, and on this output
abbrev pub Serves : {F O : Type 0} → (F → Option (List ℕ)) → Output O → Request (Opened F) → Request (Opened F) → End → Type 0
Serves remaining out (request.OfDescription asked description) (request.OfDescription also d) end =
    IsImported asked (read remaining description d) out end
Serves remaining out (request.OfSystem asked taken system) (request.OfSystem also how s) end =
    IsAskedOfSystem asked taken (read remaining system s) out end
Serves remaining out (request.OfPolicy asked taken system policy) (request.OfPolicy also how s p) end =
    IsAskedOfPolicy asked taken (read remaining system s) (read remaining policy p) out end
Serves remaining out (request.OfClaims taken system claims) (request.OfClaims how s c) end =
    AreJudged taken (read remaining system s) (read remaining claims c) out end
Serves remaining out (request.OfTwo form taken old new) (request.OfTwo also how o n) end =
    IsDoneOnTwo taken (Compares form) (read remaining old o) (read remaining new n) out end
Serves remaining out (request.Check asked table policy) (request.Check also t p) end =
    IsChecked asked.rules asked.on_accept (read remaining table t) (read remaining policy p) out end
Serves remaining out (request.OfThree asked table policy third) (request.OfThree also t p x) end =
    ServesThree asked (read remaining table t) (read remaining policy p) (read remaining third x) out end
Serves remaining out _ _ end = ⊥

-- a script was run by workers on these files, which became those
abbrev pub RunsSplit : {F O : Type 0} → (F → Option (List ℕ)) → Output O → Request (Opened F) → Request (Opened F) → End → Type 0
RunsSplit remaining out (request.OfThree asked table policy third) (request.OfThree also t p x) end =
    IsRunSplit (read remaining table t) (read remaining policy p) (read remaining third x) out end
RunsSplit remaining out _ _ end = ⊥

-- a request's files were opened by their names, the request was done on them, and this is the exit status of its end
pub record IsAnswered
    {F : Type 0} (opens : List ℕ → Result F Error → Type 0) (does : Request (Opened F) → Request (Opened F) → End → Type 0)
    (names : Request (Bor (List ℕ))) (left : Request (Opened F)) (status : ℕ) : Type 0 where
  pub files : Request (Opened F)
  pub end : End
  pub opened : AreOpenedBy opens names files
  pub done : does files left end
  pub exit : status_of end ≡ status

-- bytes in memory that are written to, before and after
abbrev pub written_here : Watched (Vec ℕ) → Watched (Vec ℕ) → Output (Watched (Vec ℕ))
written_here = written (λ bytes. Some bytes.items)

-- a request was done with its answer kept in memory, and lines written in place of the answer: the exit status is that of the request's
-- end, or 2 if the lines can't be written
pub record IsServedInShort
    {F : Type 0} (opens : List ℕ → Result F Error → Type 0)
    (does : Output (Watched (Vec ℕ)) → Request (Opened F) → Request (Opened F) → End → Type 0)
    (names : Request (Bor (List ℕ))) (left : Request (Opened F)) (status : ℕ) : Type 0 where
  pub files : Request (Opened F)
  pub end : End
  pub before : Watched (Vec ℕ)
  pub after : Watched (Vec ℕ)
  pub opened : AreOpenedBy opens names files
  pub empty : (device_of before).items ≡ []
  pub done : does (written_here before after) files left end
  pub exit : (status ≡ status_of end) ⊎ (status ≡ 2)
