-- The text of claims, line by line: each line adds a claim, or nothing where it is empty or a comment, or is faulty (confine's own).
use Rattle.std.specs.{List.list_any, Prelude.{[], ℕ, ◌&&◌, ◌++◌, ◌==◌, ◌||◌, ◌∷◌, Bool, Err, List, None}}
use Rattle.std.specs.Prelude.{Ok, Option, Result, Some, bytes_eq, codes, false, if◌then◌else◌, not, true}
use Rattle.words.specs.{declared.faults.{Fault.Fault, Wrong.{Wrong, Wrong as wrong}}, Name.{name_at, name_of}, Parts.PartReader}
use Rattle.words.specs.{Reading.{◌>>=◌, Format, ended_at, list_format, or_syntax, read_format, word_at}, Text.{line_is, lines_of, words_of}}
use Rattle.{machine.specs.Layout.Layout, table.specs.Names.label_named, captext.specs.{Policies.kind_at, Tables.{demand, is_nil, value_or}}}
use Rattle.claims.specs.declared.claim.{Claim.{Claim, Claim as claim}, Most.{Most, Most as most}, Who.{Who, Who as who}}
use Rattle.claims.specs.Claims.{is_one_of, same_claim}

-- the names of labels

-- the next word as `*`, for all others, or as the name of a label
unfoldable pub end_named : List ℕ → Result (Option (List ℕ)) Wrong
end_named word = if bytes_eq word (codes "*") then Ok None else (or_syntax (name_of word) >>= λ name. Ok (Some name))

unfoldable pub end_at : PartReader (Option (List ℕ))
end_at words = do
  word ← word_at words
  end ← end_named word.0
  Ok (end, word.1)

-- the words that are left as names, after these names
unfoldable pub names_after : List (List ℕ) → List (List ℕ) → Result (List (List ℕ)) Wrong
names_after names [] = Ok names
names_after names (word ∷ words) = do
  name ← or_syntax (name_of word)
  names_after (names ++ name ∷ []) words

-- the labels that names stand for

unfoldable pub label_at : Layout → List ℕ → Result ℕ Wrong
label_at t name = value_or wrong.UnknownName (label_named t name)

unfoldable pub who_named : Layout → Option (List ℕ) → Result Who Wrong
who_named t None = Ok who.Others
who_named t (Some name) = do
  label ← label_at t name
  Ok (who.One label)

-- whether the two ends of a claim may stand in one: they are two labels, or one label and all others
abbrev pub may_meet : Who → Who → Bool
may_meet (who.One actor) (who.One object) = not (actor == object)
may_meet (who.One _) who.Others = true
may_meet who.Others (who.One _) = true
may_meet who.Others who.Others = false

-- whether both ends stand for all others
abbrev pub are_others : Who → Who → Bool
are_others who.Others who.Others = true
are_others _ _ = false

-- these labels and those of the names
unfoldable pub labels_named : Layout → List ℕ → List (List ℕ) → Result (List ℕ) Wrong
labels_named t labels [] = Ok labels
labels_named t labels (name ∷ names) = do
  label ← label_at t name
  labels_named t (labels ++ label ∷ []) names

-- whether no label comes twice, after these
abbrev pub are_distinct : List ℕ → List ℕ → Bool
are_distinct before [] = true
are_distinct before (label ∷ labels) = not (is_one_of before label) && are_distinct (before ++ label ∷ []) labels

-- the claims, by what follows their first word: the form of the whole line comes first, then each label from left to right

-- END END
unfoldable pub at_most_claim : Layout → Most → List (List ℕ) → Result Claim Wrong
at_most_claim t limit words = do
  actor ← end_at words
  object ← end_at actor.1
  _ ← ended_at object.1
  one ← who_named t actor.0
  other ← who_named t object.0
  _ ← demand (may_meet one other) wrong.Syntax
  Ok (claim.AtMost limit one other)

-- a label and others: none of these is the label or comes twice
unfoldable pub label_and_others : Layout → List ℕ → List (List ℕ) → Result (ℕ × List ℕ) Wrong
label_and_others t name names = do
  label ← label_at t name
  others ← labels_named t [] names
  _ ← demand (not (is_one_of others label)) wrong.Syntax
  _ ← demand (are_distinct [] others) wrong.Double
  Ok (label, others)

-- LABEL LABEL ..
unfoldable pub one_and_more : Layout → List (List ℕ) → Result (ℕ × List ℕ) Wrong
one_and_more t words = do
  name ← name_at words
  names ← names_after [] name.1
  _ ← demand (not (is_nil names)) wrong.Syntax
  label_and_others t name.0 names

unfoldable pub only_claim : Layout → List (List ℕ) → Result Claim Wrong
only_claim t words = do
  labels ← one_and_more t words
  Ok (claim.Only labels.0 labels.1)

unfoldable pub within_claim : Layout → List (List ℕ) → Result Claim Wrong
within_claim t words = do
  labels ← one_and_more t words
  Ok (claim.Within labels.0 labels.1)

-- LABEL ..
unfoldable pub readers_claim : Layout → List (List ℕ) → Result Claim Wrong
readers_claim t words = do
  name ← name_at words
  names ← names_after [] name.1
  labels ← label_and_others t name.0 names
  Ok (claim.Readers labels.0 labels.1)

-- LABEL LABEL
unfoldable pub apart_claim : Layout → List (List ℕ) → Result Claim Wrong
apart_claim t words = do
  from ← name_at words
  to ← name_at from.1
  _ ← ended_at to.1
  one ← label_at t from.0
  other ← label_at t to.0
  _ ← demand (not (one == other)) wrong.Syntax
  Ok (claim.Through one other [])

-- LABEL LABEL LABEL ..
unfoldable pub through_claim : Layout → List (List ℕ) → Result Claim Wrong
through_claim t words = do
  from ← name_at words
  to ← name_at from.1
  names ← names_after [] to.1
  one ← label_at t from.0
  other ← label_at t to.0
  filters ← labels_named t [] names
  _ ← demand (not (one == other)) wrong.Syntax
  _ ← demand (not (is_one_of filters one || is_one_of filters other)) wrong.Syntax
  _ ← demand (are_distinct [] filters) wrong.Double
  Ok (claim.Through one other filters)

-- END KIND END
unfoldable pub without_claim : Layout → List (List ℕ) → Result Claim Wrong
without_claim t words = do
  actor ← end_at words
  kind ← kind_at actor.1
  object ← end_at kind.1
  _ ← ended_at object.1
  one ← who_named t actor.0
  other ← who_named t object.0
  _ ← demand (not (are_others one other)) wrong.Syntax
  Ok (claim.Without one kind.0 other)

-- by its first word
unfoldable pub claim_by : Layout → List ℕ → List (List ℕ) → Result Claim Wrong
claim_by t word words =
    if bytes_eq word (codes "none") then at_most_claim t most.Nothing words else
    (if bytes_eq word (codes "take") then at_most_claim t most.Take words else
    (if bytes_eq word (codes "only") then only_claim t words else
    (if bytes_eq word (codes "within") then within_claim t words else
    (if bytes_eq word (codes "readers") then readers_claim t words else
    (if bytes_eq word (codes "apart") then apart_claim t words else
    (if bytes_eq word (codes "through") then through_claim t words else
    (if bytes_eq word (codes "without") then without_claim t words else
    Err wrong.Syntax)))))))

-- lines

-- the first word of a comment begins with `#`
abbrev pub begins_comment : List ℕ → Bool
begins_comment [] = false
begins_comment (byte ∷ bytes) = byte == 35

-- a comment says nothing; any other line has to say a claim
unfoldable pub said_by : Layout → List ℕ → List (List ℕ) → Result (Option Claim) Wrong
said_by t word words = if begins_comment word then Ok None else (claim_by t word words >>= λ claim. Ok (Some claim))

-- what a line says: nothing, if it is empty or a comment, else a claim
unfoldable pub entry_at : Layout → List (List ℕ) → Result (Option Claim) Wrong
entry_at t words = if line_is words (words_of []) then Ok None else (word_at words >>= λ word. said_by t word.0 word.1)

-- whether a line says this claim
abbrev pub says : Claim → Option Claim → Bool
says claim None = false
says claim (Some other) = same_claim other claim

-- whether a line may follow these: none of them says the same claim
abbrev pub may_follow : List (Option Claim) → Option Claim → Bool
may_follow entries None = true
may_follow entries (Some claim) = not (list_any (says claim) entries)

unfoldable pub with_entry : List (Option Claim) → Option Claim → Result (List (Option Claim)) Wrong
with_entry entries entry = do
  _ ← demand (may_follow entries entry) wrong.Double
  Ok (entries ++ entry ∷ [])

unfoldable pub entry_line : Layout → List (Option Claim) → List (List ℕ) → Result (List (Option Claim)) Wrong
entry_line t entries words = do
  entry ← entry_at t words
  with_entry entries entry

-- claims on the labels of a table, line by line
abbrev pub claims_format : Layout → Format (List (Option Claim)) (List (Option Claim))
claims_format t = list_format (words_of (codes "confine-claims 2")) (entry_line t)

-- what the lines of a text say, with `None` for each that is empty or a comment; or its first fault
unfoldable pub read_claims_of : Layout → List ℕ → Result (List (Option Claim)) Fault
read_claims_of t bytes = read_format (claims_format t) (lines_of bytes)
