-- Words of slots and terms: a word is read as a slot or a term just where it is that slot's or that term's word.
use Rattle.std.specs.{Bool.Decides, Char.is_ascii_digit, Fmt.decimal, List.{AllByRecursion, list_all, position_or_len}, Prelude.bytes_eq}
use Rattle.std.proofs.Common.{[], ℕ, ◌++◌, ◌+◌, ◌<◌, ◌==◌, ◌^◌, ◌↔◌, ◌∙◌, ◌∷◌, ◌≡◌, Bool, List, None, Option, Some, add-one, ap, arith}
use Rattle.std.proofs.Common.{codes, cond, drop, drop-cons, eqb-true, false, get_or, length, length-append, lit<, lt-ltb, nat_lt, not}
use Rattle.std.proofs.{Common.{option_map, position, refl, subst, suc, sym, take, true, zero}, Math.Seq.{drop-append-add, take-append_seam}}
use Rattle.std.proofs.lemmas.{Bool.{and_parts, cond-false, cond-true, Decides.nat_tests}, List.take-append-drop}
use Rattle.std.proofs.lemmas.{List.Quantifiers.position-Some, Slice.Eq.bytes_eq-Decides}
use Rattle.base.{specs.{declared.rights.Rights.Rights, Rights.{rights_of_word, rights_word}}, proofs.RightsWords.rights_again}
use Rattle.base.proofs.RightsWords.{rights_named}
use Rattle.words.specs.{Name.{is_name, is_name_byte, name_of}, Number.{dec_of, hex_of, hexadecimal}, Parts.IsPart, Text.IsPlainWord}
use Rattle.words.proofs.{Parts.word_part, Spellings.{decimal_first, decimal_iff, hexadecimal_first, hexadecimal_iff}}
use Rattle.words.proofs.{Spellings.{hexadecimal_no_decimal, name_iff}, TextLaws.both, WordLaws.{plain_bytes, plain_decimal, plain_name}}
use Rattle.captext.specs.{declared.shapes.{Place.Place, Term.Term}, Shapes.{first_term, place_of, slot_at, slot_at_dot, slot_of, slot_with}}
use Rattle.captext.specs.declared.shapes.Place.TheVariants as place
use Rattle.captext.specs.declared.shapes.Term.TheVariants as term
use Rattle.captext.specs.{Shapes.term_of, Spelling.{IsPlace, IsTerm, place_word, slot_word, term_word}}

-- terms

-- no word of rights begins with a digit
rights_first : (n : ℕ) → n < 16 → is_ascii_digit (get_or (rights_word (record { 0 = n })) 0 0) ≡ false
rights_first zero below = refl
rights_first (suc zero) below = refl
rights_first (suc (suc zero)) below = refl
rights_first (suc (suc (suc zero))) below = refl
rights_first (suc (suc (suc (suc zero)))) below = refl
rights_first (suc (suc (suc (suc (suc zero))))) below = refl
rights_first (suc (suc (suc (suc (suc (suc zero)))))) below = refl
rights_first (suc (suc (suc (suc (suc (suc (suc zero))))))) below = refl
rights_first (suc (suc (suc (suc (suc (suc (suc (suc zero)))))))) below = refl
rights_first (suc (suc (suc (suc (suc (suc (suc (suc (suc zero))))))))) below = refl
rights_first (suc (suc (suc (suc (suc (suc (suc (suc (suc (suc zero)))))))))) below = refl
rights_first (suc (suc (suc (suc (suc (suc (suc (suc (suc (suc (suc zero))))))))))) below = refl
rights_first (suc (suc (suc (suc (suc (suc (suc (suc (suc (suc (suc (suc zero)))))))))))) below = refl
rights_first (suc (suc (suc (suc (suc (suc (suc (suc (suc (suc (suc (suc (suc zero))))))))))))) below = refl
rights_first (suc (suc (suc (suc (suc (suc (suc (suc (suc (suc (suc (suc (suc (suc zero)))))))))))))) below = refl
rights_first (suc (suc (suc (suc (suc (suc (suc (suc (suc (suc (suc (suc (suc (suc (suc zero))))))))))))))) below = refl
rights_first (suc (suc (suc (suc (suc (suc (suc (suc (suc (suc (suc (suc (suc (suc (suc (suc n)))))))))))))))) below =
    absurd (omega arith)

no_rights : (word : List ℕ) → is_ascii_digit (get_or word 0 0) ≡ true → rights_of_word word ≡ None
no_rights word digit = by_found (rights_of_word word) refl where
  by_found : (found : Option Rights) → rights_of_word word ≡ found → found ≡ None
  by_found None is = refl
  by_found (Some rights) is =
      let named = rights_named word rights is in
      let first : is_ascii_digit (get_or word 0 0) ≡ false =
      ap (λ w. is_ascii_digit (get_or w 0 0)) named.0 ∙ rights_first rights.0 named.1 in
      cc

first_takes : (word : List ℕ) (rights : Option Rights) (dec hex : Option ℕ) (term : Term)
    → rights_of_word word ≡ rights → dec_of word ≡ dec → hex_of word ≡ hex → first_term rights dec hex ≡ Some term
    → (word ≡ term_word term) × IsTerm term
first_takes word (Some rights) dec hex t is_rights is_dec is_hex h =
    let same : term.Rights rights ≡ t = cc in
    subst (λ t. (word ≡ term_word t) × IsTerm t) same (rights_named word rights is_rights)
first_takes word None (Some n) hex t is_rights is_dec is_hex h =
    let same : term.Decimal n ≡ t = cc in subst (λ t. (word ≡ term_word t) × IsTerm t) same ((decimal_iff word n).0 is_dec)
first_takes word None None (Some n) t is_rights is_dec is_hex h =
    let same : term.Hexadecimal n ≡ t = cc in
    subst (λ t. (word ≡ term_word t) × IsTerm t) same ((hexadecimal_iff word n).0 is_hex)
first_takes word None None None t is_rights is_dec is_hex h = cc

-- a term that is read has that word
pub term_takes : (word : List ℕ) (term : Term) → term_of word ≡ Some term → (word ≡ term_word term) × IsTerm term
unfolding term_of
term_takes word t h = first_takes word (rights_of_word word) (dec_of word) (hex_of word) t refl refl refl h

-- a term's word is read as that term
pub term_again : (term : Term) → IsTerm term → term_of (term_word term) ≡ Some term
unfolding term_of
term_again (term.Rights rights) is =
    ap (λ r. first_term r (dec_of (rights_word rights)) (hex_of (rights_word rights))) (rights_again rights is)
term_again (term.Decimal n) is =
    ap (λ r. first_term r (dec_of (decimal n)) (hex_of (decimal n))) (no_rights (decimal n) (decimal_first n is))
    ∙ ap (λ d. first_term None d (hex_of (decimal n))) ((decimal_iff (decimal n) n).1 (refl, is))
term_again (term.Hexadecimal n) is =
    ap (λ r. first_term r (dec_of (hexadecimal n)) (hex_of (hexadecimal n))) (no_rights (hexadecimal n) (hexadecimal_first n))
    ∙ ap (λ d. first_term None d (hex_of (hexadecimal n))) (hexadecimal_no_decimal n)
    ∙ ap (λ h. first_term None None h) ((hexadecimal_iff (hexadecimal n) n).1 (refl, is))

pub term_iff : (word : List ℕ) (term : Term) → (term_of word ≡ Some term) ↔ ((word ≡ term_word term) × IsTerm term)
term_iff word t = (term_takes word t, λ h. ap (λ w. term_of w) h.0 ∙ term_again t h.1)

-- different terms have different words
pub term_once : (one other : Term) → IsTerm one → IsTerm other → term_word one ≡ term_word other → one ≡ other
term_once one other is_one is_other same =
    let both : Some one ≡ Some other = sym (term_again one is_one) ∙ ap (λ w. term_of w) same ∙ term_again other is_other in cc

-- places

-- the word `root` is no number
place_takes : (word : List ℕ) (at : Place) → place_of word ≡ Some at → (word ≡ place_word at) × IsPlace at
unfolding place_of
place_takes word at h = by_test (bytes_eq word (codes "root")) (bytes_eq-Decides word (codes "root")) h where
  by_number : (n : Option ℕ) → dec_of word ≡ n → option_map place.Index n ≡ Some at → (word ≡ place_word at) × IsPlace at
  by_number (Some n) is h =
      let same : place.Index n ≡ at = cc in subst (λ p. (word ≡ place_word p) × IsPlace p) same ((decimal_iff word n).0 is)
  by_number None is h = cc

  by_test : (same : Bool) → Decides same (word ≡ codes "root")
      → cond same (Some place.Root) (option_map place.Index (dec_of word)) ≡ Some at → (word ≡ place_word at) × IsPlace at
  by_test true same h = let root : place.Root ≡ at = cc in subst (λ p. (word ≡ place_word p) × IsPlace p) root (same.0 refl, tt)
  by_test false other h = by_number (dec_of word) refl h

-- no number begins like a word
pub no_number : (n : ℕ) (word : List ℕ) → n < 2 ^ 64 → is_ascii_digit (get_or word 0 0) ≡ false → bytes_eq (decimal n) word ≡ false
no_number n word small other = by (bytes_eq (decimal n) word) (bytes_eq-Decides (decimal n) word) where
  by : (same : Bool) → Decides same (decimal n ≡ word) → same ≡ false
  by false differ = refl
  by true same =
      let digit : is_ascii_digit (get_or word 0 0) ≡ true =
      ap (λ w. is_ascii_digit (get_or w 0 0)) (sym (same.0 refl)) ∙ decimal_first n small in
      cc

place_again : (at : Place) → IsPlace at → place_of (place_word at) ≡ Some at
unfolding place_of
place_again place.Root is = refl
place_again (place.Index index) is =
    cond-false _ _ _ (no_number index (codes "root") is refl)
    ∙ ap (λ n. option_map place.Index n) ((decimal_iff (decimal index) index).1 (refl, is))

-- slots

-- a word with a dot is what stands before it, the dot, and what stands after it
dotted : (word : List ℕ) (i : ℕ) → position (λ b. b == 46) word ≡ Some i → word ≡ take i word ++ 46 ∷ drop (i + 1) word
dotted word i at =
    let found = position-Some (λ b. b == 46) word i 0 at in
    let dot : get_or word i 0 ≡ 46 = eqb-true _ _ found.1 in
    let rest : drop i word ≡ get_or word i 0 ∷ drop (i + 1) word = rw add-one (drop-cons word i 0 found.0) in
    sym (take-append-drop i word) ∙ ap (λ r. take i word ++ r) (rest ∙ ap (λ b. b ∷ drop (i + 1) word) dot)

-- a name has no dot
no_dot : (b : ℕ) → is_name_byte b ≡ true → (b == 46) ≡ false
no_dot b h = grind (arith, nat_tests)

none_dotted : (name : List ℕ) → list_all is_name_byte name ≡ true → AllByRecursion (λ b. (b == 46) ≡ false) name
none_dotted [] h = tt
none_dotted (b ∷ bs) h = let parts = and_parts _ _ h in (no_dot b parts.0, none_dotted bs parts.1)

-- the first dot of a slot's word is the one after the name
first_dot : (name rest : List ℕ) → AllByRecursion (λ b. (b == 46) ≡ false) name
    → position_or_len (λ b. b == 46) (name ++ 46 ∷ rest) ≡ length name
first_dot [] rest h = refl
first_dot (b ∷ bs) rest h =
    ap (λ t. cond (not t) (1 + position_or_len (λ b. b == 46) (bs ++ 46 ∷ rest)) 0) h.0
    ∙ ap (λ n. 1 + n) (first_dot bs rest h.1)
    ∙ omega arith

dot_at : (name rest : List ℕ) → AllByRecursion (λ b. (b == 46) ≡ false) name
    → position (λ b. b == 46) (name ++ 46 ∷ rest) ≡ Some (length name)
dot_at name rest h =
    let first = first_dot name rest h in
    let size : length name < length (name ++ 46 ∷ rest) = omega (arith, length-append {A = ℕ}) in
    ap (λ n. cond (nat_lt n (length (name ++ 46 ∷ rest))) (Some n) None) first ∙ cond-true _ _ _ (lt-ltb _ _ size)

abbrev IsSlot : List ℕ → List ℕ → Place → Type 0
IsSlot word name at = (word ≡ slot_word name at) × (is_name name ≡ true) × IsPlace at

parts_take : (before after : List ℕ) (name : Option (List ℕ)) (found : Option Place) (slot : List ℕ × Place)
    → name_of before ≡ name → place_of after ≡ found → slot_with name found ≡ Some slot → IsSlot (before ++ 46 ∷ after) slot.0 slot.1
parts_take before after None found slot is_name is_place h = cc
parts_take before after (Some name) None slot is_name is_place h = cc
parts_take before after (Some name) (Some at) slot named placed h =
    let same : (name, at) ≡ slot = cc in
    let first = (name_iff before name).0 named in
    let second = place_takes after at placed in
    subst (λ (s : List ℕ × Place). IsSlot (before ++ 46 ∷ after) s.0 s.1) same
    (ap (λ w. w ++ 46 ∷ after) first.0 ∙ ap (λ w. name ++ 46 ∷ w) second.0, first.1, second.1)

-- a slot that is read has that word
pub slot_takes : (word name : List ℕ) (at : Place) → slot_of word ≡ Some (name, at)
    → (word ≡ slot_word name at) × (is_name name ≡ true) × IsPlace at
unfolding slot_of
slot_takes word name at h = by_dot (position (λ b. b == 46) word) refl h where
  by_dot : (dot : Option ℕ) → position (λ b. b == 46) word ≡ dot → slot_at_dot word dot ≡ Some (name, at) → IsSlot word name at
  by_dot None is h = cc
  by_dot (Some i) is h =
      subst (λ w. IsSlot w name at) (sym (dotted word i is))
      (parts_take (take i word) (drop (i + 1) word) _ _ (name, at) refl refl h)

-- a slot's word is read as that slot
pub slot_again : (name : List ℕ) (at : Place) → is_name name ≡ true → IsPlace at → slot_of (slot_word name at) ≡ Some (name, at)
unfolding slot_of
slot_again name at is place =
    let word = slot_word name at in
    let before : take (length name) word ≡ name = take-append_seam name (46 ∷ place_word at) in
    let after : drop (length name + 1) word ≡ place_word at = drop-append-add name (46 ∷ place_word at) 1 in
    ap (λ dot. slot_at_dot word dot) (dot_at name (place_word at) (none_dotted name (and_parts _ _ is).1))
    ∙ ap (λ w. slot_with (name_of w) (place_of (drop (length name + 1) word))) before
    ∙ ap (λ w. slot_with (name_of name) (place_of w)) after
    ∙ ap (λ n. slot_with n (place_of (place_word at))) ((name_iff name name).1 (refl, is))
    ∙ ap (λ p. slot_with (Some name) p) (place_again at place)

pub slot_iff : (word name : List ℕ) (at : Place)
    → (slot_of word ≡ Some (name, at)) ↔ ((word ≡ slot_word name at) × (is_name name ≡ true) × IsPlace at)
slot_iff word name at = (slot_takes word name at, λ h. ap (λ w. slot_of w) h.0 ∙ slot_again name at h.1 h.2)

-- different slots have different words
pub slot_once : (name other_name : List ℕ) (at other : Place) → is_name name ≡ true → IsPlace at → is_name other_name ≡ true
    → IsPlace other
    → slot_word name at ≡ slot_word other_name other → (name ≡ other_name) × (at ≡ other)
slot_once name other_name at other is place other_is other_place same =
    let this = slot_again name at is place in
    let that = slot_again other_name other other_is other_place in
    let found : ◌≡◌ {A = Option (List ℕ × Place)} (Some (name, at)) (Some (other_name, other)) =
    sym this ∙ ap (λ w. slot_of w) same ∙ that in
    let slots : ◌≡◌ {A = List ℕ × Place} (name, at) (other_name, other) = cc in
    (ap (λ (s : List ℕ × Place). s.0) slots, ap (λ (s : List ℕ × Place). s.1) slots)

-- words of places and slots are plain

plain_place : (at : Place) → IsPlace at → IsPlainWord (place_word at)
plain_place (place.Index index) is = plain_decimal index is
plain_place place.Root is = plain_bytes (codes "root") refl

abbrev pub IsSlotName : List ℕ × Place → Type 0
IsSlotName slot = (is_name slot.0 ≡ true) × IsPlace slot.1

plain_slot : (slot : List ℕ × Place) → IsSlotName slot → IsPlainWord (slot_word slot.0 slot.1)
plain_slot slot is = both (λ b. 32 < b) slot.0 _ (plain_name slot.0 is.0) (lit< tt, plain_place slot.1 is.1)

-- the next word is read as a slot
pub slot_part : IsPart slot_at (λ slot. slot_word slot.0 slot.1 ∷ []) IsSlotName
unfolding slot_at
slot_part =
    word_part slot_of (λ slot. slot_word slot.0 slot.1) IsSlotName
    (λ word slot h. let is = slot_takes word slot.0 slot.1 h in (is.0, (is.1, is.2))) (λ slot is. slot_again slot.0 slot.1 is.0 is.1)
    plain_slot
