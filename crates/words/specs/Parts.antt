-- The parts of a line: readers of the words that are left, what their values are spelled as, and when both agree (confine's own).
use Rattle.std.specs.{List.AllByRecursion, Prelude.{[], ℕ, ◌++◌, ◌∷◌, ◌≡◌, Err, List, Ok, Result, if◌then◌else◌}, Str.bytes_eq}
use Rattle.words.specs.{declared.faults.Wrong.{Wrong, TheVariants.Syntax}, Reading.{◌>>=◌, word_at}, Text.IsPlainWord}

-- a reader of a value from the words that are left, with the words after it
abbrev pub PartReader : Type 0 → Type 0
PartReader X = List (List ℕ) → Result (X × List (List ℕ)) Wrong

-- one part and then another
unfoldable pub in_turn : {X Y : Type 0} → PartReader X → PartReader Y → PartReader (X × Y)
in_turn one other words = do
  first ← one words
  second ← other first.1
  Ok ((first.0, second.0), second.1)

-- a part as a value of another type
unfoldable pub read_as : {X Y : Type 0} → (X → Y) → PartReader X → PartReader Y
read_as f part words = do
  read ← part words
  Ok (f read.0, read.1)

-- the reader of the first choice whose word this is
unfoldable pub by_word : {X : Type 0} → List (List ℕ × PartReader X) → List ℕ → PartReader X
by_word [] word words = Err Syntax
by_word (choice ∷ choices) word words = if bytes_eq word choice.0 then choice.1 words else by_word choices word words

-- one of these words, and then what follows it
unfoldable pub keyed : {X : Type 0} → List (List ℕ × PartReader X) → PartReader X
keyed choices words = do
  word ← word_at words
  by_word choices word.0 word.1

-- the words taken are those of the value read
abbrev pub Takes : {X : Type 0} → PartReader X → (X → List (List ℕ)) → (X → Type 0) → Type 0
Takes {X} read spell Is =
    (words : List (List ℕ)) (taken : X × List (List ℕ)) → read words ≡ Ok taken
    → (words ≡ spell taken.0 ++ taken.1) × Is taken.0

-- reading and spelling are inverse for the values that can be spelled, and values are spelled in plain words
pub record IsPart {X : Type 0} (read : PartReader X) (spell : X → List (List ℕ)) (Is : X → Type 0) : Type 0 where
  pub takes : Takes read spell Is
  pub again : (x : X) (rest : List (List ℕ)) → Is x → read (spell x ++ rest) ≡ Ok (x, rest)
  pub plain : (x : X) → Is x → AllByRecursion IsPlainWord (spell x)

-- a part that must be the last on its line: its words may be the beginning of another value's words
pub record IsLastPart {X : Type 0} (read : PartReader X) (spell : X → List (List ℕ)) (Is : X → Type 0) : Type 0 where
  pub takes : Takes read spell Is
  pub again : (x : X) → Is x → read (spell x) ≡ Ok (x, [])
  pub plain : (x : X) → Is x → AllByRecursion IsPlainWord (spell x)
