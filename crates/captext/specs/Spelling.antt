-- The spelling of the parts of a table's lines: slots, as `NAME.DEC` or `NAME.root`, and terms, as rights or numbers (confine's own).
use Rattle.std.specs.{Fmt.decimal, Prelude.{[], ℕ, ⊤, ◌++◌, ◌<◌, ◌^◌, ◌∷◌, List, None, Option, Some, codes}}
use Rattle.{base.specs.Rights.{IsRights, rights_word}, words.specs.Number.hexadecimal}
use Rattle.captext.specs.declared.shapes.{Place.Place, Term.Term}
use Rattle.captext.specs.declared.shapes.Place.TheVariants as place
use Rattle.captext.specs.declared.shapes.Term.TheVariants as term

-- a place within a holder
abbrev pub place_word : Place → List ℕ
place_word (place.Index index) = decimal index
place_word place.Root = codes "root"

-- a place that can be spelled: its index is below 2 ^ 64
abbrev pub IsPlace : Place → Type 0
IsPlace (place.Index index) = index < 2 ^ 64
IsPlace place.Root = ⊤

-- a slot: its holder's name, a dot, and its place there
abbrev pub slot_word : List ℕ → Place → List ℕ
slot_word name at = name ++ (codes "." ++ place_word at)

abbrev pub term_word : Term → List ℕ
term_word (term.Rights rights) = rights_word rights
term_word (term.Decimal n) = decimal n
term_word (term.Hexadecimal n) = hexadecimal n

-- a term that can be spelled: a set of the four rights, or a number below 2 ^ 64
abbrev pub IsTerm : Term → Type 0
IsTerm (term.Rights rights) = IsRights rights
IsTerm (term.Decimal n) = n < 2 ^ 64
IsTerm (term.Hexadecimal n) = n < 2 ^ 64

abbrev pub option_words : Option Term → List (List ℕ)
option_words None = []
option_words (Some t) = term_word t ∷ []

abbrev pub IsOptionTerm : Option Term → Type 0
IsOptionTerm None = ⊤
IsOptionTerm (Some t) = IsTerm t

-- at most two terms, of which the first is there if the second is
abbrev pub AreTerms : Option Term × Option Term → Type 0
AreTerms (None, None) = ⊤
AreTerms (None, Some _) = ⊥
AreTerms (Some first, second) = IsTerm first × IsOptionTerm second
