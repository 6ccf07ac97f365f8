-- Command lines as they are found in words (confine's own).
use Rattle.std.specs.Prelude.{[], ℕ, ◌∷◌, ◌≡◌, Bool, List, None, Option, Some, codes, false, option_copied, option_map, true}
use Rattle.clap.specs.{declared.parser.matches.{ArgMatches.ArgMatches, Found.Found}, Matches.{first_value, one_text, subcommand_name_of}}
use Rattle.clap.specs.{Simple.subcommand_rows_of, Walk.rows_of}
use Rattle.requests.specs.{declared.{meaning.Words.Words, request.CommandLine.CommandLine}, Meaning.{Name, command_line_of, verb_name}}

-- this word, or none, was found under this id
abbrev pub IsArgument : Found → List ℕ × Option Name → Type 0
IsArgument found (id, word) = option_copied word ≡ first_value found id

-- an option was given, or not, by what was found under this id
abbrev pub IsOptionGiven : Found → List ℕ × Bool → Type 0
IsOptionGiven found (id, given) =
    (one_text found id ≡ None → given ≡ false) × (one_text found id ≡ Some (codes "true") → given ≡ true)
    × (one_text found id ≡ Some (codes "false") → given ≡ false)

abbrev pub Each : {X : Type 0} → (X → Type 0) → List X → Type 0
Each P [] = Unit {0}
Each P (x ∷ xs) = P x × Each P xs

-- each word and option was found under its id
abbrev pub AreArguments : Found → Words → Type 0
AreArguments found words =
    Each (IsArgument found)
    ((codes "system", words.system) ∷ (codes "new", words.newer) ∷ (codes "policy", words.policy) ∷ (codes "certificate", words.certificate)
    ∷ (codes "script", words.script) ∷ (codes "log", words.log) ∷ (codes "claims", words.claims) ∷ (codes "actor", words.actor)
    ∷ (codes "object", words.object) ∷ (codes "workers", words.workers) ∷ (codes "steps", words.steps)
    ∷ (codes "seconds", words.seconds) ∷ (codes "rights", words.rights) ∷ (codes "rules", words.rules) ∷ (codes "format", words.format) ∷ [])
    × Each (IsOptionGiven found)
    ((codes "explain", words.explain) ∷ (codes "quiet", words.quiet) ∷ (codes "cert", words.cert) ∷ (codes "missing", words.missing)
    ∷ (codes "surplus", words.surplus) ∷ (codes "split", words.split) ∷ (codes "all", words.all) ∷ (codes "take", words.take)
    ∷ (codes "reads", words.reads) ∷ (codes "as-claims", words.as_claims) ∷ [])

-- a line asks for what its command and the words found for it make
pub record IsAskedIn (matches : ArgMatches) (line : CommandLine) : Type 0 where
  pub words : Words
  pub found : Found
  pub command : subcommand_name_of matches ≡ Some (verb_name words.verb)
  pub rows : option_map (λ rows. rows.1) (subcommand_rows_of matches) ≡ Some (rows_of found)
  pub read : AreArguments found words
  pub asks : command_line_of words ≡ Some line

-- a line asks for what a command and words make that the library for command lines found in the words of the line
abbrev pub IsRead : CommandLine → Type 0
IsRead line = (matches : ArgMatches) × IsAskedIn matches line
