-- Texts as lists of lines, and lines as lists of words: a line ends with a line feed, and one space parts two words (confine's own).
use Rattle.std.specs.{Cmp.Lexicographic.pointwise, List.{AllByRecursion, flat_map, join_with_byte, slice_split}, Prelude.{[], ℕ, ◌++◌, ◌<◌}}
use Rattle.std.specs.{Prelude.{◌==◌, ◌∷◌, Bool, List, None, Option, Some}, Str.bytes_eq}

-- the words of a line; between two spaces in a row is an empty word
abbrev pub words_of : List ℕ → List (List ℕ)
words_of line = slice_split (λ b. b == 32) line

-- the lines between line feeds; a last part without a line feed is `None`, or nothing if it is empty
abbrev pub lines_of_parts : List (List ℕ) → List (Option (List (List ℕ)))
lines_of_parts [] = []
lines_of_parts ([] ∷ []) = []
lines_of_parts ((b ∷ bs) ∷ []) = None ∷ []
lines_of_parts (part ∷ next ∷ parts) = Some (words_of part) ∷ lines_of_parts (next ∷ parts)

-- the lines of a text, each as its words, with `None` for a last line that isn't ended
unfoldable pub lines_of : List ℕ → List (Option (List (List ℕ)))
lines_of bytes = lines_of_parts (slice_split (λ b. b == 10) bytes)

abbrev pub line_text : List (List ℕ) → List ℕ
line_text line = join_with_byte 32 line ++ 10 ∷ []

-- the text of lines of words
abbrev pub text_of : List (List (List ℕ)) → List ℕ
text_of lines = flat_map line_text lines

-- a word without spaces and control characters
abbrev pub IsPlainWord : List ℕ → Type 0
IsPlainWord word = AllByRecursion (λ b. 32 < b) word

-- a line of at least one word, all of them plain
abbrev pub IsPlainLine : List (List ℕ) → Type 0
IsPlainLine [] = ⊥
IsPlainLine (word ∷ words) = AllByRecursion IsPlainWord (word ∷ words)

abbrev pub line_is : List (List ℕ) → List (List ℕ) → Bool
line_is line words = pointwise bytes_eq line words

-- the place of a reader: how many lines it has taken, and the lines that are left
pub record Progress : Type 0 where
  pub taken : ℕ
  pub lines : List (Option (List (List ℕ)))

-- no ended line comes next
abbrev pub IsOver : List (Option (List (List ℕ))) → Type 0
IsOver [] = Unit {0}
IsOver (None ∷ lines) = Unit {0}
IsOver (Some line ∷ lines) = ⊥
