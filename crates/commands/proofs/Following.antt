-- Files that are loaded one after another: what the load gives, and what is heard of it.
use Rattle.std.proofs.Common.{ℕ, ◌≡◌, Err, IfSome, List, None, Ok, Option, Result, Some, subst, sym}
use Rattle.forms.specs.declared.file.File.{File}
use Rattle.commands.specs.{declared.{choices.Taken.Taken, given.Given.Given, load.Stop.{Stop, Stop as stop}}, Files.{Contents, IsLoadedAs}}
use Rattle.commands.specs.{Files.{and_then, as_taken, faulty, misused, named_contents, unknown, whole}, Hearing.{Hearing, HearsFault}}

-- a stop that is neither a fault nor a misuse says nothing of the files
abbrev IsFree : Stop → Type 0
IsFree stop.NoMemory = Unit {0}
IsFree (stop.CannotRead file) = Unit {0}
IsFree (stop.NoLabel asked) = Unit {0}
IsFree (stop.Faulty file fault) = ⊥
IsFree (stop.Misused told) = ⊥

gives_free : {X : Type 0} (contents : Contents X) (why : Stop) → IsFree why → IsLoadedAs contents (Err why)
gives_free (whole x) stop.NoMemory free = tt
gives_free (whole x) (stop.CannotRead file) free = tt
gives_free (whole x) (stop.NoLabel asked) free = tt
gives_free (whole x) (stop.Faulty file fault) free = absurd free
gives_free (whole x) (stop.Misused told) free = absurd free
gives_free (faulty file text table fault) stop.NoMemory free = tt
gives_free (faulty file text table fault) (stop.CannotRead which) free = tt
gives_free (faulty file text table fault) (stop.NoLabel asked) free = tt
gives_free (faulty file text table fault) (stop.Faulty which told) free = absurd free
gives_free (faulty file text table fault) (stop.Misused told) free = absurd free
gives_free (misused is) stop.NoMemory free = tt
gives_free (misused is) (stop.CannotRead file) free = tt
gives_free (misused is) (stop.NoLabel asked) free = tt
gives_free (misused is) (stop.Faulty file fault) free = absurd free
gives_free (misused is) (stop.Misused told) free = absurd free
gives_free unknown why free = tt

module _ {X Y : Type 0} (next : Y → Contents X) where
  -- the first files stop a load: so do all
  pub stopped_first : (contents : Contents Y) (why : Stop) → IsLoadedAs contents (Err why) → IsLoadedAs (and_then contents next) (Err why)
  stopped_first (whole y) stop.NoMemory gives = gives_free (next y) stop.NoMemory tt
  stopped_first (whole y) (stop.CannotRead file) gives = gives_free (next y) (stop.CannotRead file) tt
  stopped_first (whole y) (stop.NoLabel asked) gives = gives_free (next y) (stop.NoLabel asked) tt
  stopped_first (whole y) (stop.Faulty file fault) gives = absurd gives
  stopped_first (whole y) (stop.Misused told) gives = absurd gives
  stopped_first (faulty file text table fault) stop.NoMemory gives = tt
  stopped_first (faulty file text table fault) (stop.CannotRead which) gives = tt
  stopped_first (faulty file text table fault) (stop.NoLabel asked) gives = tt
  stopped_first (faulty file text table fault) (stop.Faulty which told) gives = gives
  stopped_first (faulty file text table fault) (stop.Misused told) gives = absurd gives
  stopped_first (misused is) stop.NoMemory gives = tt
  stopped_first (misused is) (stop.CannotRead file) gives = tt
  stopped_first (misused is) (stop.NoLabel asked) gives = tt
  stopped_first (misused is) (stop.Faulty file fault) gives = absurd gives
  stopped_first (misused is) (stop.Misused told) gives = gives
  stopped_first unknown why gives = tt

  -- the first files were loaded: then all give what those after them do
  pub given_after : (contents : Contents Y) (y : Y) (loaded : Result X Stop) → IsLoadedAs contents (Ok y) → IsLoadedAs (next y) loaded
      → IsLoadedAs (and_then contents next) loaded
  given_after (whole z) y loaded first gives = rw first gives
  given_after (faulty file text table fault) y loaded first gives = absurd first
  given_after (misused is) y loaded first gives = absurd first
  given_after unknown y loaded first gives = tt

  module _ {L : Type 0} (Hears : L → Hearing → L → Type 0) (old new : L) where
    pub heard_first : (contents : Contents Y) (why : Stop) → HearsFault Hears contents (Err why) old new
        → HearsFault Hears (and_then contents next) (Err why) old new
    heard_first contents stop.NoMemory heard = heard
    heard_first contents (stop.CannotRead file) heard = heard
    heard_first contents (stop.NoLabel asked) heard = heard
    heard_first contents (stop.Misused told) heard = heard
    heard_first (whole y) (stop.Faulty file fault) heard = absurd heard
    heard_first (faulty file text table fault) (stop.Faulty which told) heard = heard
    heard_first (misused is) (stop.Faulty file fault) heard = absurd heard
    heard_first unknown (stop.Faulty file fault) heard = heard

    told_as : (contents : Contents X) (why : Stop) → IsLoadedAs contents (Err why) → HearsFault Hears contents (Err why) old new
        → HearsFault {X = X} Hears unknown (Err why) old new
    told_as contents stop.NoMemory gives heard = heard
    told_as contents (stop.CannotRead file) gives heard = heard
    told_as contents (stop.NoLabel asked) gives heard = heard
    told_as contents (stop.Misused told) gives heard = heard
    told_as (whole x) (stop.Faulty file fault) gives heard = absurd heard
    told_as (faulty file text table fault) (stop.Faulty which told) gives heard = (text, table, rw (gives.0, gives.1) heard)
    told_as (misused is) (stop.Faulty file fault) gives heard = absurd heard
    told_as unknown (stop.Faulty file fault) gives heard = heard

    pub heard_after : (contents : Contents Y) (y : Y) (why : Stop) → IsLoadedAs contents (Ok y) → IsLoadedAs (next y) (Err why)
        → HearsFault Hears (next y) (Err why) old new → HearsFault Hears (and_then contents next) (Err why) old new
    heard_after (whole z) y why first gives heard = subst (λ (k : Y). HearsFault Hears (next k) (Err why) old new) (sym first) heard
    heard_after (faulty file text table fault) y why first gives heard = absurd first
    heard_after (misused is) y why first gives heard = absurd first
    heard_after unknown y why first gives heard = told_as (next y) why gives heard

-- what is heard of a system's text is heard of a file whose bytes are known to be that text
module _ (table description : File) (taken : Taken) {L : Type 0} (Hears : L → Hearing → L → Type 0) (old new : L) where
  pub named_heard : (known : Option (List ℕ)) (text : List ℕ) (loaded : Result Given Stop) → IfSome known (λ bytes. text ≡ bytes)
      → IsLoadedAs (as_taken table description taken text) loaded → HearsFault Hears (as_taken table description taken text) loaded old new
      → HearsFault Hears (named_contents table description taken known) loaded old new
  named_heard None text (Ok x) is gives heard = heard
  named_heard None text (Err why) is gives heard = told_as whole Hears old new (as_taken table description taken text) why gives heard
  named_heard (Some bytes) text loaded is gives heard =
      subst (λ (b : List ℕ). HearsFault Hears (as_taken table description taken b) loaded old new) is heard
