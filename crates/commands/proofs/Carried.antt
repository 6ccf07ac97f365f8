-- Commands that are carried out: what was loaded, judged and told is what the definition has.
use Rattle.std.proofs.Common.{ℕ, ◌∙◌, ◌≡◌, ◌≤◌, Err, IfOk, IfSome, List, None, Ok, Option, Result, Some, ap, arith, refl, sym}
use Rattle.{std.proofs.lemmas.Option.{none-some, same_Some}, forms.specs.declared.file.File.File, reptext.specs.Reports.fault_report}
use Rattle.commands.specs.declared.{answer.Answer.Answer, end.{Asked.Asked, End.{End, End as ends}, Misuse.Misuse}}
use Rattle.commands.specs.{declared.load.Stop.{Stop, Stop as stop}, Commands.{IsAnswerTo, IsCarriedOut, IsJudged, IsJudgedSo, IsMisused}}
use Rattle.commands.specs.{Commands.{IsTold, IsUnlabelled, Output, report_of}, Ends.{IfCannotWrite, IfMisused, IfNoLabel, IfStatus}}
use Rattle.commands.specs.{Ends.status_of, Files.{Contents, IsLoadedAs, faulty, lacking_of, misused, unknown, unread_of, whole}}

-- an answer to what was loaded is what is judged of it
judged_ok : (judges : Answer → Type 0) (lacking : Option Asked) (a : Answer) → IsJudgedSo lacking judges (Ok a)
    → judges a × (a.status ≤ 2)
judged_ok judges (Some asked) a is = cc
judged_ok judges None a is = is

-- stops for which no file is to blame: memory was refused, or a label is lacking
abbrev IsNoFault : Stop → Type 0
IsNoFault stop.NoMemory = Unit {0}
IsNoFault (stop.NoLabel asked) = Unit {0}
IsNoFault (stop.CannotRead file) = ⊥
IsNoFault (stop.Faulty file fault) = ⊥
IsNoFault (stop.Misused why) = ⊥

no_fault : (judges : Answer → Type 0) (lacking : Option Asked) (why : Stop) → IsJudgedSo lacking judges (Err why) → IsNoFault why
no_fault judges (Some asked) why is = let same : why ≡ stop.NoLabel asked = cc in rw same tt
no_fault judges None why is = rw is tt

-- the label that is told is the one that is lacking
told_lacks : (judges : Answer → Type 0) (lacking : Option Asked) (asked : Asked) → IsJudgedSo lacking judges (Err (stop.NoLabel asked))
    → lacking ≡ Some asked
told_lacks judges (Some other) asked is = cc
told_lacks judges None asked is = cc

module _ {X : Type 0} (lacks : X → Option Asked) (judges : X → Answer → Type 0) where
  at_held : (contents : Contents X) (x : X) (a : Answer) → IsLoadedAs contents (Ok x) → judges x a → IsAnswerTo judges contents a.text.items a.status
  at_held (whole y) x a gives right = (a, rw gives right, refl, refl)
  at_held (faulty file text table fault) x a gives right = absurd gives
  at_held (misused why) x a gives right = absurd gives
  at_held unknown x a gives right = tt

  at_fault : (contents : Contents X) (file : File) (fault : _) → IsLoadedAs contents (Err (stop.Faulty file fault))
      → IsAnswerTo judges contents (fault_report fault.number file fault.line) 2
  at_fault (whole y) file fault gives = absurd gives
  at_fault (faulty which text table told) file fault gives = (λ i. fault_report (gives.1 i).number (gives.0 i) (gives.1 i).line, refl)
  at_fault (misused why) file fault gives = absurd gives
  at_fault unknown file fault gives = tt

  -- a report is the answer to what the files hold
  abbrev IsReport : Contents X → Option (List ℕ × ℕ) → Type 0
  IsReport contents report = IfSome report (λ r. IsAnswerTo judges contents r.0 r.1 × (r.1 ≤ 2))

  of_stop : (contents : Contents X) (why : Stop) → IsLoadedAs contents (Err why) → IsReport contents (report_of (Err why))
  of_stop contents stop.NoMemory gives = tt
  of_stop contents (stop.CannotRead file) gives = tt
  of_stop contents (stop.NoLabel asked) gives = tt
  of_stop contents (stop.Misused why) gives = tt
  of_stop contents (stop.Faulty file fault) gives = (at_fault contents file fault gives, omega arith)

  of_judged : (contents : Contents X) (x : X) (answer : Result Answer Stop) → IsLoadedAs contents (Ok x)
      → IsJudgedSo (lacks x) (judges x) answer → IsReport contents (report_of answer)
  of_judged contents x (Ok a) gives judged =
      let is = judged_ok (judges x) (lacks x) a judged in (at_held contents x a gives is.0, is.1)
  of_judged contents x (Err stop.NoMemory) gives judged = tt
  of_judged contents x (Err (stop.CannotRead file)) gives judged = tt
  of_judged contents x (Err (stop.NoLabel asked)) gives judged = tt
  of_judged contents x (Err (stop.Faulty file fault)) gives judged =
      absurd (no_fault (judges x) (lacks x) (stop.Faulty file fault) judged)
  of_judged contents x (Err (stop.Misused why)) gives judged =
      absurd (no_fault (judges x) (lacks x) (stop.Misused why) judged)

  of_loaded : (contents : Contents X) (loaded : Result X Stop) (answer : Result Answer Stop) → IsLoadedAs contents loaded
      → IsJudged lacks judges loaded answer → IsReport contents (report_of answer)
  of_loaded contents (Ok x) answer gives judged = of_judged contents x answer gives judged
  of_loaded contents (Err why) answer gives judged = rw judged (of_stop contents why gives)

  unlabelled_of : (contents : Contents X) (loaded : Result X Stop) (asked : Asked) → IsLoadedAs contents loaded → lacking_of loaded ≡ None
      → IsJudged lacks judges loaded (Err (stop.NoLabel asked)) → IsUnlabelled lacks contents asked
  unlabelled_of (whole y) (Ok x) asked gives none judged = rw gives (told_lacks (judges x) (lacks x) asked judged)
  unlabelled_of (faulty file text table fault) (Ok x) asked gives none judged = absurd gives
  unlabelled_of (misused why) (Ok x) asked gives none judged = absurd gives
  unlabelled_of unknown (Ok x) asked gives none judged = (x, told_lacks (judges x) (lacks x) asked judged)
  unlabelled_of contents (Err why) asked gives none judged =
      let same : why ≡ stop.NoLabel asked = cc in absurd (none-some asked (sym (rw same at none)))

  -- why the system isn't read as it was given is why it wasn't loaded
  misused_of : (contents : Contents X) (loaded : Result X Stop) (told : Misuse) → IsLoadedAs contents loaded
      → IsJudged lacks judges loaded (Err (stop.Misused told)) → IsMisused contents told
  misused_of contents (Ok x) told gives judged = absurd (no_fault (judges x) (lacks x) (stop.Misused told) judged)
  misused_of (whole y) (Err why) told gives judged = let same : why ≡ stop.Misused told = cc in absurd (rw same at gives)
  misused_of (faulty file text table fault) (Err why) told gives judged = let same : why ≡ stop.Misused told = cc in absurd (rw same at gives)
  misused_of (misused is) (Err why) told gives judged = let same : why ≡ stop.Misused told = cc in rw same at gives
  misused_of unknown (Err why) told gives judged = tt

  unread_as : (loaded : Result X Stop) (answer : Result Answer Stop) → IsJudged lacks judges loaded answer → unread_of answer ≡ unread_of loaded
  unread_as (Ok x) (Ok a) judged = refl
  unread_as (Ok x) (Err stop.NoMemory) judged = refl
  unread_as (Ok x) (Err (stop.NoLabel asked)) judged = refl
  unread_as (Ok x) (Err (stop.Misused why)) judged = refl
  unread_as (Ok x) (Err (stop.Faulty file fault)) judged = refl
  unread_as (Ok x) (Err (stop.CannotRead file)) judged = absurd (no_fault (judges x) (lacks x) (stop.CannotRead file) judged)
  unread_as (Err why) answer judged = ap unread_of judged ∙ of_why why
    where
      of_why : (why : Stop) → unread_of {X = Answer} (Err why) ≡ unread_of {X = X} (Err why)
      of_why stop.NoMemory = refl
      of_why (stop.CannotRead file) = refl
      of_why (stop.NoLabel asked) = refl
      of_why (stop.Misused why) = refl
      of_why (stop.Faulty file fault) = refl

-- one fact gives another of an answer that was written
where_written : (end : End) (P Q : ℕ → Type 0) → ((status : ℕ) → P status → Q status) → IfStatus end P → IfStatus end Q
where_written (ends.Status status) P Q follows is = follows status is
where_written ends.NoMemory P Q follows is = tt
where_written (ends.CannotRead file) P Q follows is = tt
where_written (ends.NoLabel asked) P Q follows is = tt
where_written (ends.Misused why) P Q follows is = tt
where_written ends.CannotWrite P Q follows is = tt

where_begun : (end : End) (P Q : Type 0) → (P → Q) → IfCannotWrite end P → IfCannotWrite end Q
where_begun (ends.Status status) P Q follows is = tt
where_begun ends.NoMemory P Q follows is = tt
where_begun (ends.CannotRead file) P Q follows is = tt
where_begun (ends.NoLabel asked) P Q follows is = tt
where_begun (ends.Misused why) P Q follows is = tt
where_begun ends.CannotWrite P Q follows is = follows is

where_unlabelled : (end : End) (P Q : Asked → Type 0) → ((asked : Asked) → P asked → Q asked) → IfNoLabel end P → IfNoLabel end Q
where_unlabelled (ends.Status status) P Q follows is = tt
where_unlabelled ends.NoMemory P Q follows is = tt
where_unlabelled (ends.CannotRead file) P Q follows is = tt
where_unlabelled (ends.NoLabel asked) P Q follows is = follows asked is
where_unlabelled (ends.Misused why) P Q follows is = tt
where_unlabelled ends.CannotWrite P Q follows is = tt

where_misused : (end : End) (P Q : Misuse → Type 0) → ((why : Misuse) → P why → Q why) → IfMisused end P → IfMisused end Q
where_misused (ends.Status status) P Q follows is = tt
where_misused ends.NoMemory P Q follows is = tt
where_misused (ends.CannotRead file) P Q follows is = tt
where_misused (ends.NoLabel asked) P Q follows is = tt
where_misused (ends.Misused why) P Q follows is = follows why is
where_misused ends.CannotWrite P Q follows is = tt

exit_of : (end : End) → IfStatus end (λ status. status ≤ 2) → status_of end ≤ 2
exit_of (ends.Status status) is = is
exit_of ends.NoMemory is = omega arith
exit_of (ends.CannotRead file) is = omega arith
exit_of (ends.NoLabel asked) is = omega arith
exit_of (ends.Misused why) is = omega arith
exit_of ends.CannotWrite is = omega arith

pub carried_out :
    {X O : Type 0} {lacks : X → Option Asked} {judges : X → Answer → Type 0} {contents : Contents X} {failed : Option File}
    {answer : Result Answer Stop} {out : Output O} {end : End} (loaded : Result X Stop) → IsLoadedAs contents loaded → unread_of loaded ≡ failed
    → lacking_of loaded ≡ None → IsJudged lacks judges loaded answer → IsTold answer out end → IsCarriedOut lacks judges contents failed out end
carried_out {X} {O} {lacks} {judges} {contents} {failed} {answer} {out} {end} loaded gives is none judged told =
    let report = of_loaded lacks judges contents loaded answer gives judged in
    record {
      answered = where_written end _ _ (λ status w. (w.0, (rw w.1 at report).0, w.2)) told.written.whole;
      begun = where_begun end _ _ (λ w. (w.0, w.1, (rw w.2 at report).0, w.3)) told.written.begun;
      unwritten = told.written.unwritten;
      unlabelled = where_unlabelled end _ _ (λ asked w. unlabelled_of lacks judges contents loaded asked gives none (rw w at judged)) told.unlabelled;
      misused = where_misused end _ _ (λ why w. misused_of lacks judges contents loaded why gives (rw w at judged)) told.misused;
      flushed = told.written.flushed;
      exit = exit_of end (where_written end _ _ (λ status w. (rw w.1 at report).1) told.written.whole);
      unread = told.unread ∙ unread_as lacks judges loaded answer judged ∙ is;
      unwritable = told.written.unwritable;
    }

-- what holds of an answer with status 0 holds where the end has it
pub at_zero : {O : Type 0} {answer : Result Answer Stop} {out : Output O} {P : Type 0} (end : End) → IfOk answer (λ a. a.status ≡ 0 → P)
    → IsTold answer out end → status_of end ≡ 0 → P
at_zero {O} {answer} {out} {P} (ends.Status status) follows told zero = of_answer answer follows told.written.whole.0 told.written.whole.1
  where
    of_answer : (answer : Result Answer Stop) → IfOk answer (λ a. a.status ≡ 0 → P) → (text : List ℕ) → report_of answer ≡ Some (text, status) → P
    of_answer (Ok a) follows text is = follows (ap (λ r. r.1) (same_Some _ _ is) ∙ zero)
    of_answer (Err stop.NoMemory) follows text is = cc
    of_answer (Err (stop.CannotRead file)) follows text is = cc
    of_answer (Err (stop.NoLabel asked)) follows text is = cc
    of_answer (Err (stop.Misused why)) follows text is = cc
    of_answer (Err (stop.Faulty file fault)) follows text is = let same = ap (λ r. r.1) (same_Some _ _ is) in absurd (omega (arith, same, zero))
at_zero ends.NoMemory follows told zero = absurd (omega (arith, zero))
at_zero (ends.CannotRead file) follows told zero = absurd (omega (arith, zero))
at_zero (ends.NoLabel asked) follows told zero = absurd (omega (arith, zero))
at_zero (ends.Misused why) follows told zero = absurd (omega (arith, zero))
at_zero ends.CannotWrite follows told zero = absurd (omega (arith, zero))
