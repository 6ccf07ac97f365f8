-- The operands of calls: what was read is what they spell, and each spelling is read back.
use Rattle.std.{specs.{Bool.{⊤, Decides}, Fmt.decimal, List.AllByRecursion, Option.option_map, Str.bytes_eq}, proofs.Common.{[], ℕ, ◌++◌}}
use Rattle.std.proofs.Common.{◌<◌, ◌^◌, ◌∙◌, ◌∷◌, ◌≡◌, Bool, List, None, Ok, Option, Some, ap, codes, cond, false, if◌then◌else◌, refl}
use Rattle.std.proofs.{Common.{subst, sym, true}, lemmas.{Option.{none-some, same_Some}, Slice.Eq.bytes_eq-Decides}}
use Rattle.base.specs.{declared.rights.Rights.Rights, Rights.{IsRights, letter_of, rights_of_word, rights_word}}
use Rattle.base.proofs.RightsWords.{rights_again, rights_named}
use Rattle.machine.specs.declared.{call.CapData.{CapData, TheVariants.{Badge, Guard}}, object.MemoryKind.{MemoryKind, TheVariants.Untyped}}
use Rattle.machine.specs.{declared.slot_address.SlotAddress.SlotAddress, KindWords.{memory_kind_of, memory_kind_word}}
use Rattle.machine.proofs.KindWords.{memory_again, memory_takes}
use Rattle.words.specs.{Number.{dec_of}, Parts.{IsPart, by_word, keyed, read_as}, Reading.{bind, word_at}}
use Rattle.words.{specs.Text.IsPlainWord, proofs.Parts.{after_word, both_parts, keyed_part, number_part, part_as, read_as_again, takes_as}}
use Rattle.words.proofs.{Parts.word_part, Spellings.decimal_iff, TextLaws.both, WordLaws.{plain_bytes, plain_decimal, word_then}}
use Rattle.evtext.specs.Operands.{AreFour, IsData, IsOptional, IsOptionalSlot, IsSlotAddress, Shape, data_at, data_words, four_at, four_of}
use Rattle.evtext.specs.Operands.{four_words, guard_of, memory_kind_at, nothing, nothing_at, optional_at, optional_of, optional_slot_at}
use Rattle.evtext.specs.Operands.{optional_slot_words, optional_word, rights_at, slot_address_at, slot_address_of, slot_address_words}

-- a shape's reading and spelling are one another's inverse
abbrev pub IsShape : {X : Type 0} → Shape X → Type 0
IsShape shape = IsPart shape.read shape.spell shape.Fits

-- no operand is no word
pub nothing_part : IsShape nothing
unfolding nothing_at
nothing_part =
    record { takes = λ words taken h. (ap (λ t. t.1) (same words taken h), tt); again = λ x rest is. refl; plain = λ x is. tt }
  where
    same : (words : List (List ℕ)) (taken : Unit {0} × List (List ℕ)) → nothing_at words ≡ Ok taken → (tt, words) ≡ taken
    same words taken h = cc

-- a slot is three numbers
pub slot_address_part : IsPart slot_address_at slot_address_words IsSlotAddress
unfolding slot_address_at
slot_address_part =
    part_as (both_parts number_part (both_parts number_part number_part)) slot_address_of slot_address_words IsSlotAddress
    (λ parts. refl) (λ parts is. (is.0, is.1.0, is.1.1))
    (λ slot is. ((slot.root, (slot.index, slot.depth)), refl, (is.0, (is.1, is.2))))

-- the word of rights is plain

plain_cond : (test : Bool) (one other : List ℕ) → IsPlainWord one → IsPlainWord other → IsPlainWord (cond test one other)
plain_cond true one other h k = h
plain_cond false one other h k = k

plain_rights : (rights : Rights) → IsPlainWord (rights_word rights)
plain_rights rights =
    plain_cond _ (codes "-") _ (plain_bytes (codes "-") refl)
    (both (λ b. 32 < b) _ _
    (both (λ b. 32 < b) _ _
    (both (λ b. 32 < b) _ _ (letter 1 (codes "r") (plain_bytes (codes "r") refl))
    (letter 2 (codes "w") (plain_bytes (codes "w") refl)))
    (letter 4 (codes "g") (plain_bytes (codes "g") refl)))
    (letter 8 (codes "y") (plain_bytes (codes "y") refl)))
  where
    letter : (right : ℕ) (word : List ℕ) → IsPlainWord word → IsPlainWord (letter_of rights right word)
    letter right word plain = plain_cond _ word [] plain tt

-- a set of the four rights is a word
pub rights_part : IsPart rights_at (λ rights. rights_word rights ∷ []) IsRights
unfolding rights_at
rights_part = word_part rights_of_word rights_word IsRights rights_named rights_again (λ rights is. plain_rights rights)

-- a kind of object is a word

plain_kind : (kind : MemoryKind) → IsPlainWord (memory_kind_word kind)
plain_kind Untyped = plain_bytes (codes "untyped") refl
plain_kind kind = plain_bytes (memory_kind_word kind) refl

pub memory_kind_part : IsPart memory_kind_at (λ kind. memory_kind_word kind ∷ []) (λ _. ⊤)
unfolding memory_kind_at
memory_kind_part =
    word_part memory_kind_of memory_kind_word (λ _. ⊤) (λ word kind named. (memory_takes word kind named, tt))
    (λ kind _. memory_again kind) (λ kind _. plain_kind kind)

-- what a mint gives is a badge or a guard, each after its word

data_again : (given : CapData) (rest : List (List ℕ)) → IsData given → data_at (data_words given ++ rest) ≡ Ok (given, rest)
unfolding data_at keyed by_word bind word_at
data_again (Badge badge) rest fits = read_as_again number_part Badge badge rest fits
data_again (Guard size value) rest fits = read_as_again (both_parts number_part number_part) guard_of (size, value) rest fits

plain_data : (given : CapData) → IsData given → AllByRecursion IsPlainWord (data_words given)
plain_data (Badge badge) fits = (plain_bytes (codes "badge") refl, (plain_decimal badge fits, tt))
plain_data (Guard size value) fits =
    (plain_bytes (codes "guard") refl, (plain_decimal size fits.0, (plain_decimal value fits.1, tt)))

pub data_part : IsPart data_at data_words IsData
unfolding data_at
data_part = keyed_part data_words IsData _ (
  after_word number_part (codes "badge") Badge data_words IsData (λ n. refl) (λ n small. small),
  (
    after_word (both_parts number_part number_part) (codes "guard") guard_of data_words IsData (λ parts. refl) (λ parts is. is),
    tt,
  ),
) data_again plain_data

-- the words of a message are four numbers

four_fits : (words : List ℕ) → AreFour words
    → (parts : ℕ × (ℕ × (ℕ × ℕ))) × (four_of parts ≡ words)
    × ((parts.0 < 2 ^ 64) × ((parts.1.0 < 2 ^ 64) × ((parts.1.1.0 < 2 ^ 64) × (parts.1.1.1 < 2 ^ 64))))
four_fits (first ∷ second ∷ third ∷ fourth ∷ []) is =
    ((first, (second, (third, fourth))), refl, (is.0, (is.1, (is.2, is.3))))
four_fits (first ∷ second ∷ third ∷ fourth ∷ fifth ∷ rest) is = absurd is
four_fits (first ∷ second ∷ third ∷ []) is = absurd is
four_fits (first ∷ second ∷ []) is = absurd is
four_fits (first ∷ []) is = absurd is
four_fits [] is = absurd is

pub four_part : IsPart four_at four_words AreFour
unfolding four_at
four_part =
    part_as (both_parts number_part (both_parts number_part (both_parts number_part number_part))) four_of four_words AreFour
    (λ parts. refl) (λ parts is. (is.0, is.1.0, is.1.1.0, is.1.1.1)) four_fits

-- an address is a number, or `-`

optional_takes : (word : List ℕ) (address : Option ℕ) → optional_of word ≡ Some address
    → (word ≡ optional_word address) × IsOptional address
optional_takes word address h = by_test (bytes_eq word (codes "-")) (bytes_eq-Decides word (codes "-")) h where
  by_number : (number : Option ℕ) → dec_of word ≡ number → option_map (λ n. Some n) number ≡ Some address
      → (word ≡ optional_word address) × IsOptional address
  by_number None is same = absurd (none-some address same)
  by_number (Some n) is same =
      let taken = (decimal_iff word n).0 is in
      subst (λ (a : Option ℕ). (word ≡ optional_word a) × IsOptional a) (same_Some (Some n) address same) (taken.0, taken.1)

  by_test : (dash : Bool) → Decides dash (word ≡ codes "-")
      → (if dash then Some None else option_map (λ n. Some n) (dec_of word)) ≡ Some address
      → (word ≡ optional_word address) × IsOptional address
  by_test true dash same =
      subst (λ (a : Option ℕ). (word ≡ optional_word a) × IsOptional a) (same_Some None address same) (dash.0 refl, tt)
  by_test false dash same = by_number (dec_of word) refl same

dash_is_none : dec_of (codes "-") ≡ None
unfolding dec_of
dash_is_none = refl

-- a number isn't spelled `-`
no_dash : (n : ℕ) → n < 2 ^ 64 → bytes_eq (decimal n) (codes "-") ≡ false
no_dash n small = by_test (bytes_eq (decimal n) (codes "-")) (bytes_eq-Decides (decimal n) (codes "-")) where
  by_test : (dash : Bool) → Decides dash (decimal n ≡ codes "-") → dash ≡ false
  by_test true dash =
      absurd (none-some n (sym dash_is_none ∙ ap dec_of (sym (dash.0 refl)) ∙ (decimal_iff (decimal n) n).1 (refl, small)))
  by_test false dash = refl

optional_again : (address : Option ℕ) → IsOptional address → optional_of (optional_word address) ≡ Some address
optional_again None is = refl
optional_again (Some n) is = rw (no_dash n is, (decimal_iff (decimal n) n).1 (refl, is)) refl

plain_optional : (address : Option ℕ) → IsOptional address → IsPlainWord (optional_word address)
plain_optional None is = plain_bytes (codes "-") refl
plain_optional (Some n) is = plain_decimal n is

pub optional_part : IsPart optional_at (λ address. optional_word address ∷ []) IsOptional
unfolding optional_at
optional_part = word_part optional_of optional_word IsOptional optional_takes optional_again plain_optional

-- a slot is three numbers, or `-`

optional_slot_takes :
    (words : List (List ℕ)) (taken : Option SlotAddress × List (List ℕ)) → optional_slot_at words ≡ Ok taken
    → (words ≡ optional_slot_words taken.0 ++ taken.1) × IsOptionalSlot taken.0
unfolding optional_slot_at
optional_slot_takes words taken h =
    let read = word_then _ words taken h in
    by_test read.word read.rest read.words_are (bytes_eq read.word (codes "-")) (bytes_eq-Decides read.word (codes "-")) read.goes_on
  where
    by_test :
        (word : List ℕ) (rest : List (List ℕ)) → words ≡ word ∷ rest → (dash : Bool) → Decides dash (word ≡ codes "-")
        → (if dash then Ok (None, rest) else read_as (λ slot. Some slot) slot_address_at words) ≡ Ok taken
        → (words ≡ optional_slot_words taken.0 ++ taken.1) × IsOptionalSlot taken.0
    by_test word rest are true dash same =
        let one : ◌≡◌ {A = Option SlotAddress × List (List ℕ)} (None, rest) taken = cc in
        subst (λ (t : Option SlotAddress × List (List ℕ)). (words ≡ optional_slot_words t.0 ++ t.1) × IsOptionalSlot t.0) one
        (are ∙ ap (λ w. w ∷ rest) (dash.0 refl), tt)
    by_test word rest are false dash same =
        takes_as slot_address_part (λ slot. Some slot) optional_slot_words IsOptionalSlot (λ slot. refl) (λ slot is. is) words taken
        same

optional_slot_again :
    (slot : Option SlotAddress) (rest : List (List ℕ)) → IsOptionalSlot slot
    → optional_slot_at (optional_slot_words slot ++ rest) ≡ Ok (slot, rest)
unfolding optional_slot_at bind word_at
optional_slot_again None rest is = refl
optional_slot_again (Some slot) rest is =
    rw (no_dash slot.root is.0) (read_as_again slot_address_part (λ s. Some s) slot rest is)

plain_optional_slot : (slot : Option SlotAddress) → IsOptionalSlot slot → AllByRecursion IsPlainWord (optional_slot_words slot)
plain_optional_slot None is = (plain_bytes (codes "-") refl, tt)
plain_optional_slot (Some slot) is = slot_address_part.plain slot is

pub optional_slot_part : IsPart optional_slot_at optional_slot_words IsOptionalSlot
optional_slot_part = record { takes = optional_slot_takes; again = optional_slot_again; plain = plain_optional_slot }
