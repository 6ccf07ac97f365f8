-- Words of sets of kinds: one is read as a set just where its names between commas are those of the set's kinds.
use Rattle.std.{specs.List.{AllByRecursion, join_with_byte, list_all, slice_split}, proofs.Common.{[], ℕ, ◌++◌, ◌+◌, ◌-◌, ◌<◌, ◌==◌, ◌^◌}}
use Rattle.std.proofs.Common.{◌∙◌, ◌∷◌, ◌≡◌, ◌≢◌, Bool, Err, List, None, Ok, Result, Some, ap, append_assoc, arith, codes, drop, false}
use Rattle.std.proofs.Common.{length, lit<, lt-ltb, ltb-true, map, nat_lt, position, refl, subst, suc, sym, take, true, zero}
use Rattle.std.proofs.lemmas.{Bool.{and_parts, ne_eqb}, List.{append-nil, map-append, Splits.join_with_byte-slice_split}}
use Rattle.base.specs.{declared.kind.{Kind.{Kind, TheVariants.Control}, Kinds.Kinds}, Kinds.{kind_bit, kind_name, kind_named}}
use Rattle.base.proofs.KindNames.{kind_again, kind_is_named}
use Rattle.words.specs.{declared.faults.Wrong.Wrong, Parts.IsPart, Reading.{bind, or_syntax, word_at}, Text.IsPlainWord}
use Rattle.words.proofs.{Splits.{parts_some, split_nowhere, split_round}, TextLaws.{both, each, first_part, one_part}, WordLaws.bind_ok}
use Rattle.words.specs.declared.faults.Wrong.TheVariants as wrong
use Rattle.captext.proofs.{LineLaws.{same_ok, spelled_then}, StepLaws.demand_then}
use Rattle.certificate.specs.Kinds.{IsKinds, kinds_at, kinds_of, kinds_word, members, set_of, with_kind, with_name, with_names}
use Rattle.certificate.proofs.Bits.{Joins, all_joined, members_join, members_more, one_joins, with_kind_small}
use denote.{Shadow.shadow, Text.Utf8}

abbrev comma : ℕ → Bool
comma b = b == 44

-- what the code does at a comma, and where there is none

name_first : (kinds : Kinds) (bs : List ℕ) (at : ℕ) → position comma bs ≡ Some at
    → with_names kinds (slice_split comma bs)
    ≡ bind (with_name kinds (take at bs)) (λ more. with_names more (slice_split comma (take (length bs - (at + 1)) (drop (at + 1) bs))))
unfolding with_names
name_first kinds bs at found = ap (with_names kinds) (split_round comma bs at found)

pub name_fails : (kinds : Kinds) (bs : List ℕ) (at : ℕ) (wrong : Wrong) → position comma bs ≡ Some at
    → with_name kinds (take at bs) ≡ Err wrong → with_names kinds (slice_split comma bs) ≡ Err wrong
unfolding bind
name_fails kinds bs at wrong found fails =
    name_first kinds bs at found ∙ ap (λ r. bind r (λ more. with_names more (slice_split comma (take (length bs - (at + 1)) (drop (at + 1) bs))))) fails

pub name_goes_on : (kinds more : Kinds) (bs : List ℕ) (at : ℕ) → position comma bs ≡ Some at
    → with_name kinds (take at bs) ≡ Ok more
    → with_names kinds (slice_split comma bs)
    ≡ with_names more (slice_split comma (take (length bs - (at + 1)) (drop (at + 1) bs)))
unfolding bind
name_goes_on kinds more bs at found passes =
    name_first kinds bs at found ∙ ap (λ r. bind r (λ more. with_names more (slice_split comma (take (length bs - (at + 1)) (drop (at + 1) bs))))) passes

pub name_alone : (kinds : Kinds) (bs : List ℕ) → position comma bs ≡ None → with_names kinds (slice_split comma bs) ≡ with_name kinds bs
unfolding with_names bind
name_alone kinds bs missing = ap (with_names kinds) (split_nowhere comma bs missing) ∙ itself (with_name kinds bs) where
  itself : (r : Result Kinds Wrong) → bind r (λ more. Ok more) ≡ r
  itself (Ok more) = refl
  itself (Err wrong) = refl

-- names that are read are those of the kinds that join the set

name_takes : (kinds : Kinds) (name : List ℕ) (more : Kinds) → with_name kinds name ≡ Ok more
    → (kind : Kind) × (name ≡ kind_name kind) × (kinds.0 < kind_bit kind) × (with_kind kinds kind ≡ more)
unfolding with_name
name_takes kinds name more h =
    let found = spelled_then (kind_named name) _ more h in
    let kind = found.0 in
    let passed = demand_then (nat_lt kinds.0 (kind_bit kind)) wrong.Syntax _ more found.2 in
    (kind, kind_is_named name kind found.1, ltb-true _ _ passed.0, same_ok _ _ passed.1)

names_take : (names : List (List ℕ)) (kinds all : Kinds) → kinds.0 < 2 ^ 17 → with_names kinds names ≡ Ok all
    → (map kind_name (members kinds) ++ names ≡ map kind_name (members all)) × (all.0 < 2 ^ 17)
unfolding with_names
names_take [] kinds all small h =
    let same : kinds ≡ all = same_ok _ _ h in
    subst (λ k. (map kind_name (members kinds) ++ [] ≡ map kind_name (members k)) × (k.0 < 2 ^ 17)) same
    (append-nil (map kind_name (members kinds)), small)
names_take (name ∷ names) kinds all small h =
    let first = bind_ok (with_name kinds name) _ all h in
    let taken = name_takes kinds name first.0 first.1 in
    let kind = taken.0 in
    let fits : first.0.0 < 2 ^ 17 = subst (λ k. k.0 < 2 ^ 17) taken.3 (with_kind_small kinds kind small) in
    let later = names_take names first.0 all fits first.2 in
    let grown : members first.0 ≡ members kinds ++ kind ∷ [] = ap members (sym taken.3) ∙ members_more kinds kind taken.2 in
    let longer : map kind_name (members first.0) ≡ map kind_name (members kinds) ++ kind_name kind ∷ [] =
    ap (map kind_name) grown ∙ map-append kind_name (members kinds) (kind ∷ []) in (
      ap (λ n. map kind_name (members kinds) ++ n ∷ names) taken.1
          ∙ sym (append_assoc (map kind_name (members kinds)) (kind_name kind ∷ []) names)
          ∙ ap (λ front. front ++ names) (sym longer)
          ∙ later.0,
      later.1,
    )

names_again : (kinds all : Kinds) (more : List Kind) → Joins kinds more all → with_names kinds (map kind_name more) ≡ Ok all
unfolding with_names with_name bind or_syntax
names_again kinds all more all_joined = refl
names_again kinds all more (one_joins {more = later} kind above joins) =
    rw (kind_again kind, lt-ltb _ _ above) (names_again (with_kind kinds kind) all later joins)

-- a word that is read is the set's, and the set's word is read

-- the bytes of a kind's name come after the comma, and after the space
after_comma : (kind : Kind) → AllByRecursion (λ b. 44 < b) (kind_name kind)
after_comma kind = by_test (kind_name kind) (named kind) where
  named : (kind : Kind) → list_all (λ b. nat_lt 44 b) (kind_name kind) ≡ true
  named Control = refl
  named _ = refl

  by_test : (bs : List ℕ) → list_all (λ b. nat_lt 44 b) bs ≡ true → AllByRecursion (λ b. 44 < b) bs
  by_test [] h = tt
  by_test (b ∷ bs) h = let parts = and_parts _ _ h in (ltb-true 44 b parts.0, by_test bs parts.1)

has_no_comma : (kind : Kind) → AllByRecursion (λ b. comma b ≡ false) (kind_name kind)
has_no_comma kind = each _ _ (λ b after. ne_eqb b 44 (λ e. absurd (omega (arith, e, after)))) (kind_name kind) (after_comma kind)

is_plain : (kind : Kind) → IsPlainWord (kind_name kind)
is_plain kind = each _ _ (λ b after. omega (arith, after)) (kind_name kind) (after_comma kind)

cut_names : (kind : Kind) (kinds : List Kind)
    → slice_split comma (join_with_byte 44 (map kind_name (kind ∷ kinds))) ≡ map kind_name (kind ∷ kinds)
cut_names kind [] = one_part 44 (kind_name kind) (has_no_comma kind)
cut_names kind (next ∷ kinds) =
    first_part 44 (kind_name kind) (join_with_byte 44 (map kind_name (next ∷ kinds))) (has_no_comma kind)
    ∙ ap (λ names. kind_name kind ∷ names) (cut_names next kinds)

-- a set with a bit has a kind
some_member : (kinds : Kinds) → IsKinds kinds → (kind : Kind) × (more : List Kind) × (members kinds ≡ kind ∷ more)
some_member kinds is = by (members kinds) refl (members_join kinds is.1) where
  by : (all : List Kind) → members kinds ≡ all → Joins (record { 0 = 0 }) all kinds
      → (kind : Kind) × (more : List Kind) × (members kinds ≡ kind ∷ more)
  by [] at joins = absurd (omega (arith, is.0, ap (λ (k : Kinds). k.0) (alone (record { 0 = 0 }) kinds joins))) where
    alone : (from to : Kinds) → Joins from [] to → from ≡ to
    alone from to all_joined = refl
  by (kind ∷ more) at joins = (kind, more, at)

-- a word has a part at least
some_part : (word : List ℕ) → slice_split comma word ≢ []
some_part word none = let some = parts_some comma word in cc

pub word_takes : (word : List ℕ) (kinds : Kinds) → kinds_of word ≡ Ok kinds → (word ≡ kinds_word kinds) × IsKinds kinds
unfolding kinds_of kinds_word
word_takes word kinds h =
    let read = names_take (slice_split comma word) (set_of []) kinds (lit< tt) h in
    (sym (join_with_byte-slice_split 44 word) ∙ ap (join_with_byte 44) read.0, (full kinds.0 read.0, read.1))
  where
    full : (n : ℕ) → slice_split comma word ≡ map kind_name (members (record { 0 = n })) → 0 < n
    full zero names = absurd (some_part word names)
    full (suc n) names = omega arith

pub word_again : (kinds : Kinds) → IsKinds kinds → kinds_of (kinds_word kinds) ≡ Ok kinds
unfolding kinds_of kinds_word
word_again kinds is =
    let some = some_member kinds is in
    let names : slice_split comma (kinds_word kinds) ≡ map kind_name (members kinds) =
    ap (λ ks. slice_split comma (join_with_byte 44 (map kind_name ks))) some.2 ∙ cut_names some.0 some.1
    ∙ ap (map kind_name) (sym some.2) in
    ap (with_names (set_of [])) names ∙ names_again (set_of []) kinds (members kinds) (members_join kinds is.1)

plain_names : (kinds : List Kind) → IsPlainWord (join_with_byte 44 (map kind_name kinds))
plain_names [] = tt
plain_names (kind ∷ []) = is_plain kind
plain_names (kind ∷ next ∷ kinds) =
    both (λ b. 32 < b) (kind_name kind) _ (is_plain kind) (lit< tt, plain_names (next ∷ kinds))

pub kinds_part : IsPart kinds_at (λ kinds. kinds_word kinds ∷ []) IsKinds
unfolding kinds_at kinds_word bind word_at
kinds_part = record {
  takes = takes;
  again = λ kinds rest is. ap (λ read. bind read (λ k. Ok (k, rest))) (word_again kinds is);
  plain = λ kinds is. (plain_names (members kinds), tt);
} where
  takes : (words : List (List ℕ)) (taken : Kinds × List (List ℕ)) → kinds_at words ≡ Ok taken
      → (words ≡ kinds_word taken.0 ∷ taken.1) × IsKinds taken.0
  takes [] taken h = cc
  takes (word ∷ rest) taken h =
      let read = bind_ok (kinds_of word) _ taken h in
      let same : (read.0, rest) ≡ taken = same_ok _ _ read.2 in
      let is = word_takes word read.0 read.1 in
      subst (λ (t : Kinds × List (List ℕ)). (word ∷ rest ≡ kinds_word t.0 ∷ t.1) × IsKinds t.0) same
      (ap (λ w. w ∷ rest) is.0, is.1)

-- the names so far, as they are written

-- what is written before the next name
abbrev pub separator_after : List (List ℕ) → List ℕ
separator_after [] = []
separator_after (name ∷ names) = codes ","

pub separator_is_text : (names : List (List ℕ)) (separator : List ℕ) → separator ≡ separator_after names → shadow (Utf8 separator)
unfolding lib.Utf8.encode
separator_is_text [] separator is = ([], (refl, sym is))
separator_is_text (name ∷ names) separator is = (44 ∷ [], (refl, sym is))

one_name_more : (names : List (List ℕ)) (name : List ℕ)
    → join_with_byte 44 (names ++ name ∷ []) ≡ join_with_byte 44 names ++ (separator_after names ++ name)
one_name_more [] name = refl
one_name_more (first ∷ []) name = refl
one_name_more (first ∷ next ∷ names) name =
    ap (λ rest. first ++ 44 ∷ rest) (one_name_more (next ∷ names) name)
    ∙ sym (append_assoc first (44 ∷ join_with_byte 44 (next ∷ names)) (44 ∷ name))

-- the text of names so far, and what is written before the next one
abbrev pub IsWritten : List ℕ → List ℕ → List (List ℕ) → Type 0
IsWritten text separator names = (text ≡ join_with_byte 44 names) × (separator ≡ separator_after names)

pub name_written : (text longer separator next name : List ℕ) (names more : List (List ℕ)) → more ≡ names ++ name ∷ []
    → IsWritten text separator names → longer ≡ text ++ (separator ++ name) → next ≡ codes "," → IsWritten longer next more
name_written text longer separator next name names more grown so_far written is = (
  written
      ∙ (λ i. so_far.0 i ++ (so_far.1 i ++ name))
      ∙ sym (one_name_more names name)
      ∙ ap (join_with_byte 44) (sym grown),
  is ∙ sym (ap separator_after grown ∙ comma_after names),
) where
  comma_after : (names : List (List ℕ)) → separator_after (names ++ name ∷ []) ≡ codes ","
  comma_after [] = refl
  comma_after (first ∷ names) = refl

pub same_written : (text same separator next : List ℕ) (names more : List (List ℕ)) → more ≡ names → IsWritten text separator names
    → same ≡ text → next ≡ separator → IsWritten same next more
same_written text same separator next names more grown so_far written is =
    (written ∙ so_far.0 ∙ ap (join_with_byte 44) (sym grown), is ∙ so_far.1 ∙ ap separator_after (sym grown))
