-- Names of the table's labels and objects, by the names in a description (confine's own).
use Rattle.std.specs.{Char.{is_ascii_digit, is_ascii_lowercase, is_ascii_uppercase}, Fmt.decimal, List.list_any}
use Rattle.std.specs.Prelude.{[], ℕ, ◌++◌, ◌+◌, ◌-◌, ◌==◌, ◌||◌, ◌∷◌, ◌≡◌, ◌≤◌, Bool, List, None, Option, Some, codes}
use Rattle.std.specs.{Prelude.{drop, if◌then◌else◌, length, map, nat_le, nat_lt, suc, take, true, zero}, Str.bytes_eq}
use Rattle.{words.specs.Name.is_name, microkit.specs.declared.names.{Part.Part, TheConstants.MAX_LABEL_LENGTH}}
use Rattle.microkit.specs.declared.names.Part.TheVariants as part

-- a byte as a letter of a name: lower case, and `_` for what is neither a letter nor a digit
unfoldable pub letter_of : ℕ → ℕ
letter_of b =
    if is_ascii_uppercase b then b + 32 else
    if is_ascii_lowercase b || is_ascii_digit b then b else 95

-- a name begins with a letter: `x` is put before anything else
unfoldable pub with_letter : List ℕ → List ℕ
with_letter [] = 120 ∷ []
with_letter (b ∷ bs) = if is_ascii_lowercase b then b ∷ bs else 120 ∷ b ∷ bs

-- a text as a name
unfoldable pub plain_name : List ℕ → List ℕ
plain_name text = with_letter (map letter_of text)

-- the number of letters that stay behind the gap of a name that is shortened to this length
abbrev pub kept_last : ℕ → ℕ
kept_last room = if nat_lt room 16 then room - 3 else 13

-- a name of at most this length: the first letters of a longer one, `__`, and its last 13
unfoldable pub shortened : ℕ → List ℕ → List ℕ
shortened room name =
    if nat_le (length name) room then name else
    take (room - (kept_last room + 2)) name ++ (codes "__" ++ drop (length name - kept_last room) name)

-- the end of a name in the k-th try: the ending, and `_k` from the second try on
unfoldable pub tail_of : List ℕ → ℕ → List ℕ
tail_of ending k = if k == 1 then ending else ending ++ (codes "_" ++ decimal k)

-- the name at the k-th try
unfoldable pub candidate : List ℕ → List ℕ → ℕ → List ℕ
candidate name ending k =
    shortened (MAX_LABEL_LENGTH - length (tail_of ending k)) name ++ tail_of ending k

-- whether a name is taken
abbrev pub is_known : List (List ℕ) → List ℕ → Bool
is_known names name = list_any (λ (one : List ℕ). bytes_eq one name) names

-- the first free name, in this many tries from the k-th one on
unfoldable pub free_from : List (List ℕ) → List ℕ → List ℕ → ℕ → ℕ → Option (List ℕ)
free_from names name ending k zero = None
free_from names name ending k (suc tries) =
    if is_known names (candidate name ending k)
    then free_from names name ending (k + 1) tries
    else Some (candidate name ending k)

-- the word of an object's part in its label
abbrev pub part_word : Part → List ℕ
part_word part.Space = codes "space"
part_word part.Main = codes "main"
part_word part.Bell = codes "bell"
part_word part.Entry = codes "entry"
part_word part.Answer = codes "answer"
part_word part.Frame = codes "frame"
part_word (part.Processor n) = codes "vcpu" ++ decimal n
part_word (part.Time n) = codes "time" ++ decimal n

-- a part that can be spelled: its number is below 2 ^ 64
abbrev pub part_number : Part → ℕ
part_number (part.Processor n) = n
part_number (part.Time n) = n
part_number _ = 0

-- the name of an object: its label and its part
abbrev pub object_name : List ℕ → Part → List ℕ
object_name label part = label ++ (codes "_" ++ part_word part)

-- a name of a label: a name of a table, with few enough letters
abbrev pub IsLabelName : List ℕ → Type 0
IsLabelName name = (is_name name ≡ true) × (length name ≤ MAX_LABEL_LENGTH)
