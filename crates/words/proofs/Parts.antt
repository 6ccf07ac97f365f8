-- That parts of a line can be put together: numbers and names, a sequence of parts, a part as a value of another type, a choice by a word.
use Rattle.std.{specs.{Bool.Decides, Fmt.decimal, List.AllByRecursion, Str.bytes_eq}, proofs.Common.{[], ℕ, ◌++◌, ◌<◌, ◌^◌, ◌∙◌, ◌∷◌, ◌≡◌}}
use Rattle.std.proofs.Common.{Bool, List, None, Ok, Option, Result, Some, ap, append_assoc, cond, false, refl, subst, sym, true}
use Rattle.std.proofs.lemmas.{List.append-nil, Slice.Eq.bytes_eq-Decides}
use Rattle.words.specs.{declared.faults.Wrong.Wrong, Name.{is_name, name_at, name_of}, Number.{dec_of, hex_at, hex_of, hexadecimal}}
use Rattle.words.specs.{Number.number_at, Parts.{IsLastPart, IsPart, PartReader, Takes, by_word, in_turn, keyed, read_as}, Reading.bind}
use Rattle.words.{specs.{Reading.{ended_at, or_syntax, word_at}, Text.IsPlainWord}, proofs.Decimals.{dec_again, dec_takes}}
use Rattle.words.proofs.{Hexadecimals.{hex_again, hex_takes}, Spellings.name_iff, TextLaws.both, WordLaws.{bind_ok, ended_then}}
use Rattle.words.proofs.WordLaws.{plain_decimal, plain_hexadecimal, plain_name, word_then}

-- a part of one word, if the word that is read is spelled again
pub word_part : {X : Type 0} (of : List ℕ → Option X) (spell : X → List ℕ) (Is : X → Type 0)
    → ((word : List ℕ) (x : X) → of word ≡ Some x → (word ≡ spell x) × Is x) → ((x : X) → Is x → of (spell x) ≡ Some x)
    → ((x : X) → Is x → IsPlainWord (spell x))
    → IsPart (λ words. bind (word_at words) (λ word. bind (or_syntax (of word.0)) (λ x. Ok (x, word.1)))) (λ x. spell x ∷ []) Is
unfolding bind word_at or_syntax
word_part {X} of spell Is takes_word again_word plain_word =
    record {
      takes = takes;
      again = λ x rest is. ap (λ found. bind (or_syntax found) (λ y. Ok (y, rest))) (again_word x is);
      plain = λ x is. (plain_word x is, tt);
    }
  where
    found : (word : List ℕ) (rest : List (List ℕ)) (taken : X × List (List ℕ)) (o : Option X) → of word ≡ o
        → bind (or_syntax o) (λ x. Ok (x, rest)) ≡ Ok taken → (word ∷ rest ≡ spell taken.0 ∷ taken.1) × Is taken.0
    found word rest taken None is h = absurd (cc h)
    found word rest taken (Some x) is h =
        let same : (x, rest) ≡ taken = cc in
        let spelled = takes_word word x is in
        subst (λ t. (word ∷ rest ≡ spell t.0 ∷ t.1) × Is t.0) same (ap (λ w. w ∷ rest) spelled.0, spelled.1)

    takes : (words : List (List ℕ)) (taken : X × List (List ℕ))
        → bind (word_at words) (λ word. bind (or_syntax (of word.0)) (λ x. Ok (x, word.1))) ≡ Ok taken
        → (words ≡ spell taken.0 ∷ taken.1) × Is taken.0
    takes [] taken h = absurd (cc h)
    takes (word ∷ rest) taken h = found word rest taken (of word) refl h

pub number_part : IsPart number_at (λ n. decimal n ∷ []) (λ n. n < 2 ^ 64)
unfolding number_at
number_part = word_part dec_of decimal (λ n. n < 2 ^ 64) dec_takes dec_again plain_decimal

pub hex_part : IsPart hex_at (λ n. hexadecimal n ∷ []) (λ n. n < 2 ^ 64)
unfolding hex_at
hex_part = word_part hex_of hexadecimal (λ n. n < 2 ^ 64) hex_takes hex_again plain_hexadecimal

pub name_part : IsPart name_at (λ name. name ∷ []) (λ name. is_name name ≡ true)
unfolding name_at
name_part =
    word_part name_of (λ name. name) (λ name. is_name name ≡ true) (λ word name h. (name_iff word name).0 h)
    (λ name is. (name_iff name name).1 (refl, is)) plain_name

-- a part was read, and reading went on with the words after it
pub record ReadsPart {X Y : Type 0} (spell : X → List (List ℕ)) (Is : X → Type 0) (f : X × List (List ℕ) → Result Y Wrong)
    (words : List (List ℕ)) (y : Y) : Type 0 where
  pub value : X
  pub rest : List (List ℕ)
  pub words_are : words ≡ spell value ++ rest
  pub is : Is value
  pub goes_on : f (value, rest) ≡ Ok y

pub part_then : {X Y : Type 0} {read : PartReader X} {spell : X → List (List ℕ)} {Is : X → Type 0} → IsPart read spell Is
    → (f : X × List (List ℕ) → Result Y Wrong) (words : List (List ℕ)) (y : Y) → bind (read words) f ≡ Ok y
    → ReadsPart spell Is f words y
part_then {read} part f words y h =
    let a = bind_ok (read words) f y h in
    let taken = part.takes words a.0 a.1 in
    record { value = a.0.0; rest = a.0.1; words_are = taken.0; is = taken.1; goes_on = a.2 }

-- a sequence of two parts

in_turn_takes : {X Y : Type 0} (one : PartReader X) (other : PartReader Y) (spell : X → List (List ℕ)) (spell_other : Y → List (List ℕ))
    (Is : X → Type 0) (IsOther : Y → Type 0) → Takes one spell Is → Takes other spell_other IsOther
    → Takes (in_turn one other) (λ p. spell p.0 ++ spell_other p.1) (λ p. Is p.0 × IsOther p.1)
unfolding in_turn
in_turn_takes one other spell spell_other Is IsOther first second words taken h =
    let a = bind_ok (one words) _ taken h in
    let b = bind_ok (other a.0.1) _ taken a.2 in
    let of_one = first words a.0 a.1 in
    let of_other = second a.0.1 b.0 b.1 in
    let same : ((a.0.0, b.0.0), b.0.1) ≡ taken = cc in
    subst (λ t. (words ≡ (spell t.0.0 ++ spell_other t.0.1) ++ t.1) × (Is t.0.0 × IsOther t.0.1)) same (
      of_one.0 ∙ ap (λ rest. spell a.0.0 ++ rest) of_other.0 ∙ sym (append_assoc (spell a.0.0) (spell_other b.0.0) b.0.1),
      (of_one.1, of_other.1),
    )

pub both_parts : {X Y : Type 0} {one : PartReader X} {other : PartReader Y} {spell : X → List (List ℕ)} {spell_other : Y → List (List ℕ)}
    {Is : X → Type 0} {IsOther : Y → Type 0} → IsPart one spell Is → IsPart other spell_other IsOther
    → IsPart (in_turn one other) (λ p. spell p.0 ++ spell_other p.1) (λ p. Is p.0 × IsOther p.1)
unfolding in_turn bind
both_parts {X} {Y} {one} {other} {spell} {spell_other} {Is} {IsOther} first second =
    record {
      takes = in_turn_takes one other spell spell_other Is IsOther first.takes second.takes;
      again = again;
      plain = λ p is. both IsPlainWord (spell p.0) (spell_other p.1) (first.plain p.0 is.0) (second.plain p.1 is.1);
    }
  where
    again : (p : X × Y) (rest : List (List ℕ)) → Is p.0 × IsOther p.1
        → (in_turn one other) ((spell p.0 ++ spell_other p.1) ++ rest) ≡ Ok (p, rest)
    again p rest is =
        ap (λ ws. in_turn one other ws) (append_assoc (spell p.0) (spell_other p.1) rest)
        ∙ ap (λ r. bind r (λ a. bind (other a.1) (λ b. Ok ((a.0, b.0), b.1)))) (first.again p.0 (spell_other p.1 ++ rest) is.0)
        ∙ ap (λ r. bind r (λ b. Ok ((p.0, b.0), b.1))) (second.again p.1 rest is.1)

-- a sequence of a part and a last part
pub then_last : {X Y : Type 0} {one : PartReader X} {other : PartReader Y} {spell : X → List (List ℕ)} {spell_other : Y → List (List ℕ)}
    {Is : X → Type 0} {IsOther : Y → Type 0} → IsPart one spell Is → IsLastPart other spell_other IsOther
    → IsLastPart (in_turn one other) (λ p. spell p.0 ++ spell_other p.1) (λ p. Is p.0 × IsOther p.1)
unfolding in_turn bind
then_last {X} {Y} {one} {other} {spell} {spell_other} {Is} {IsOther} first last =
    record {
      takes = in_turn_takes one other spell spell_other Is IsOther first.takes last.takes;
      again = λ p is.
          ap (λ r. bind r (λ a. bind (other a.1) (λ b. Ok ((a.0, b.0), b.1)))) (first.again p.0 (spell_other p.1) is.0)
          ∙ ap (λ r. bind r (λ b. Ok ((p.0, b.0), b.1))) (last.again p.1 is.1);
      plain = λ p is. both IsPlainWord (spell p.0) (spell_other p.1) (first.plain p.0 is.0) (last.plain p.1 is.1);
    }

-- a part that is read as a value of another type
pub takes_as : {X Y : Type 0} {read : PartReader X} {spell : X → List (List ℕ)} {Is : X → Type 0} → IsPart read spell Is → (f : X → Y)
    (spell_as : Y → List (List ℕ)) (IsAs : Y → Type 0) → ((x : X) → spell_as (f x) ≡ spell x) → ((x : X) → Is x → IsAs (f x))
    → (words : List (List ℕ)) (taken : Y × List (List ℕ)) → read_as f read words ≡ Ok taken
    → (words ≡ spell_as taken.0 ++ taken.1) × IsAs taken.0
unfolding read_as
takes_as {read} part f spell_as IsAs same_words is words taken h =
    let a = bind_ok (read words) _ taken h in
    let of_part = part.takes words a.0 a.1 in
    let same : (f a.0.0, a.0.1) ≡ taken = cc in
    subst (λ t. (words ≡ spell_as t.0 ++ t.1) × IsAs t.0) same
    (of_part.0 ∙ ap (λ ws. ws ++ a.0.1) (sym (same_words a.0.0)), is a.0.0 of_part.1)

-- a part as a part of another type that maps back
pub part_as : {X Y : Type 0} {read : PartReader X} {spell : X → List (List ℕ)} {Is : X → Type 0} → IsPart read spell Is → (f : X → Y)
    (spell_as : Y → List (List ℕ)) (IsAs : Y → Type 0) → ((x : X) → spell_as (f x) ≡ spell x) → ((x : X) → Is x → IsAs (f x))
    → ((y : Y) → IsAs y → (x : X) × (f x ≡ y) × Is x) → IsPart (read_as f read) spell_as IsAs
unfolding read_as bind
part_as {X} {Y} {read} {spell} {Is} part f spell_as IsAs same_words is of =
    record { takes = takes_as part f spell_as IsAs same_words is; again = again; plain = plain } where
      again : (y : Y) (rest : List (List ℕ)) → IsAs y → read_as f read (spell_as y ++ rest) ≡ Ok (y, rest)
      again y rest is_as =
          let x = of y is_as in
          ap (λ v. read_as f read (spell_as v ++ rest)) (sym x.1)
          ∙ ap (λ ws. read_as f read (ws ++ rest)) (same_words x.0)
          ∙ ap (λ r. bind r (λ a. Ok (f a.0, a.1))) (part.again x.0 rest x.2)
          ∙ ap (λ v. Ok (v, rest)) x.1

      plain : (y : Y) → IsAs y → AllByRecursion IsPlainWord (spell_as y)
      plain y is_as =
          let x = of y is_as in
          subst (λ v. AllByRecursion IsPlainWord (spell_as v)) x.1
          (subst (AllByRecursion IsPlainWord) (sym (same_words x.0)) (part.plain x.0 x.2))

-- a choice by a word: what is read after each word is spelled with that word
abbrev pub IsChoice : {X : Type 0} → (X → List (List ℕ)) → (X → Type 0) → List ℕ × PartReader X → Type 0
IsChoice {X} spell Is choice =
    (words : List (List ℕ)) (taken : X × List (List ℕ)) → choice.1 words ≡ Ok taken
    → (choice.0 ∷ words ≡ spell taken.0 ++ taken.1) × Is taken.0

-- a value is read after its word
pub takes_after_word : {X Y : Type 0} {read : PartReader X} {spell_part : X → List (List ℕ)} {IsX : X → Type 0} (key : List ℕ) (f : X → Y)
    (spell : Y → List (List ℕ)) (Is : Y → Type 0) → Takes read spell_part IsX → ((x : X) → spell (f x) ≡ key ∷ spell_part x)
    → ((x : X) → IsX x → Is (f x)) → IsChoice spell Is (key, read_as f read)
unfolding read_as
takes_after_word {read} key f spell Is part_takes spelled is words taken h =
    let a = bind_ok (read words) _ taken h in
    let of_part = part_takes words a.0 a.1 in
    let same : (f a.0.0, a.0.1) ≡ taken = cc in
    subst (λ t. (key ∷ words ≡ spell t.0 ++ t.1) × Is t.0) same
    (ap (λ ws. key ∷ ws) of_part.0 ∙ ap (λ ws. ws ++ a.0.1) (sym (spelled a.0.0)), is a.0.0 of_part.1)

-- a part after its word
pub after_word : {X Y : Type 0} {read : PartReader X} {spell_part : X → List (List ℕ)} {IsX : X → Type 0} → IsPart read spell_part IsX
    → (key : List ℕ) (f : X → Y) (spell : Y → List (List ℕ)) (Is : Y → Type 0) → ((x : X) → spell (f x) ≡ key ∷ spell_part x)
    → ((x : X) → IsX x → Is (f x)) → IsChoice spell Is (key, read_as f read)
after_word {read} {spell_part} {IsX} part key f spell Is =
    takes_after_word {read = read} {spell_part = spell_part} {IsX = IsX} key f spell Is part.takes

-- a last part after its word
pub last_after_word : {X Y : Type 0} {read : PartReader X} {spell_part : X → List (List ℕ)} {IsX : X → Type 0} → IsLastPart read spell_part IsX
    → (key : List ℕ) (f : X → Y) (spell : Y → List (List ℕ)) (Is : Y → Type 0) → ((x : X) → spell (f x) ≡ key ∷ spell_part x)
    → ((x : X) → IsX x → Is (f x)) → IsChoice spell Is (key, read_as f read)
last_after_word {read} {spell_part} {IsX} part key f spell Is =
    takes_after_word {read = read} {spell_part = spell_part} {IsX = IsX} key f spell Is part.takes

-- a part after its word, with its own type
pub after_key : {X : Type 0} {read : PartReader X} {spell_part : X → List (List ℕ)} {Is : X → Type 0} → IsPart read spell_part Is
    → (key : List ℕ) → IsChoice (λ x. key ∷ spell_part x) Is (key, read)
after_key part key words taken h =
    let of_part = part.takes words taken h in (ap (λ ws. key ∷ ws) of_part.0, of_part.1)

-- what a value of another type is spelled as is read as that value
pub read_as_again : {X Y : Type 0} {read : PartReader X} {spell : X → List (List ℕ)} {Is : X → Type 0} → IsPart read spell Is
    → (f : X → Y) (x : X) (rest : List (List ℕ)) → Is x → read_as f read (spell x ++ rest) ≡ Ok (f x, rest)
unfolding read_as bind
read_as_again part f x rest is = ap (λ r. bind r (λ a. Ok (f a.0, a.1))) (part.again x rest is)

by_word_takes : {X : Type 0} (spell : X → List (List ℕ)) (Is : X → Type 0) (choices : List (List ℕ × PartReader X))
    → AllByRecursion (IsChoice spell Is) choices → (word : List ℕ) (words : List (List ℕ)) (taken : X × List (List ℕ))
    → by_word choices word words ≡ Ok taken → (word ∷ words ≡ spell taken.0 ++ taken.1) × Is taken.0
unfolding by_word
by_word_takes spell Is [] all word words taken h = absurd (cc h)
by_word_takes {X} spell Is (choice ∷ choices) all word words taken h =
    by_test (bytes_eq word choice.0) (bytes_eq-Decides word choice.0) (by_word_takes spell Is choices all.1 word words taken) h
  where
    by_test : (same : Bool) → Decides same (word ≡ choice.0)
        → (by_word choices word words ≡ Ok taken → (word ∷ words ≡ spell taken.0 ++ taken.1) × Is taken.0)
        → cond same (choice.1 words) (by_word choices word words) ≡ Ok taken
        → (word ∷ words ≡ spell taken.0 ++ taken.1) × Is taken.0
    by_test true same later h =
        subst (λ w. (w ∷ words ≡ spell taken.0 ++ taken.1) × Is taken.0) (sym (same.0 refl)) (all.0 words taken h)
    by_test false same later h = later h

pub keyed_takes : {X : Type 0} (spell : X → List (List ℕ)) (Is : X → Type 0) (choices : List (List ℕ × PartReader X))
    → AllByRecursion (IsChoice spell Is) choices → Takes (keyed choices) spell Is
unfolding keyed
keyed_takes spell Is choices all words taken h =
    let read = word_then _ words taken h in
    subst (λ ws. (ws ≡ spell taken.0 ++ taken.1) × Is taken.0) (sym read.words_are)
    (by_word_takes spell Is choices all read.word read.rest taken read.goes_on)

pub keyed_part : {X : Type 0} (spell : X → List (List ℕ)) (Is : X → Type 0) (choices : List (List ℕ × PartReader X))
    → AllByRecursion (IsChoice spell Is) choices
    → ((x : X) (rest : List (List ℕ)) → Is x → keyed choices (spell x ++ rest) ≡ Ok (x, rest))
    → ((x : X) → Is x → AllByRecursion IsPlainWord (spell x)) → IsPart (keyed choices) spell Is
keyed_part spell Is choices all again plain =
    record { takes = keyed_takes spell Is choices all; again = again; plain = plain }

pub keyed_last : {X : Type 0} (spell : X → List (List ℕ)) (Is : X → Type 0) (choices : List (List ℕ × PartReader X))
    → AllByRecursion (IsChoice spell Is) choices → ((x : X) → Is x → keyed choices (spell x) ≡ Ok (x, []))
    → ((x : X) → Is x → AllByRecursion IsPlainWord (spell x)) → IsLastPart (keyed choices) spell Is
keyed_last spell Is choices all again plain =
    record { takes = keyed_takes spell Is choices all; again = again; plain = plain }

-- words that begin with those of a value don't begin with those of another
pub part_once : {X : Type 0} {read : PartReader X} {spell : X → List (List ℕ)} {Is : X → Type 0} → IsPart read spell Is
    → (one other : X) (rest later : List (List ℕ)) → Is one → Is other → spell one ++ rest ≡ spell other ++ later
    → (one ≡ other) × (rest ≡ later)
part_once {X} {read} part one other rest later this that same =
    let taken : ◌≡◌ {A = Result (X × List (List ℕ)) Wrong} (Ok (one, rest)) (Ok (other, later)) =
    sym (part.again one rest this) ∙ ap read same ∙ part.again other later that in
    let both : ◌≡◌ {A = X × List (List ℕ)} (one, rest) (other, later) = cc in
    (ap (λ (p : X × List (List ℕ)). p.0) both, ap (λ (p : X × List (List ℕ)). p.1) both)

-- the words of a value that stand last are those of no other value
pub last_once : {X : Type 0} {read : PartReader X} {spell : X → List (List ℕ)} {Is : X → Type 0} → IsLastPart read spell Is
    → (one other : X) → Is one → Is other → spell one ≡ spell other → one ≡ other
last_once {X} {read} part one other this that same =
    let taken : ◌≡◌ {A = Result (X × List (List ℕ)) Wrong} (Ok (one, [])) (Ok (other, [])) =
    sym (part.again one this) ∙ ap read same ∙ part.again other that in
    let both : ◌≡◌ {A = X × List (List ℕ)} (one, []) (other, []) = cc in
    ap (λ (p : X × List (List ℕ)). p.0) both

-- each part is a last part
as_last : {X : Type 0} {read : PartReader X} {spell : X → List (List ℕ)} {Is : X → Type 0} → IsPart read spell Is
    → IsLastPart read spell Is
as_last {read} {spell} part =
    record {
      takes = part.takes;
      again = λ x is. ap read (sym (append-nil (spell x))) ∙ part.again x [] is;
      plain = part.plain;
    }

-- a line that is the words of a last part is read as its value
pub last_again : {X Y : Type 0} {read : PartReader X} {spell : X → List (List ℕ)} {Is : X → Type 0} → IsLastPart read spell Is
    → (next : X → Result Y Wrong) (x : X) → Is x → bind (read (spell x)) (λ x. bind (ended_at x.1) (λ _. next x.0)) ≡ next x
unfolding bind ended_at
last_again part next x is = ap (λ r. bind r (λ x. bind (ended_at x.1) (λ _. next x.0))) (part.again x is)

pub alone_again : {X Y : Type 0} {read : PartReader X} {spell : X → List (List ℕ)} {Is : X → Type 0} → IsPart read spell Is
    → (next : X → Result Y Wrong) (x : X) → Is x → bind (read (spell x)) (λ x. bind (ended_at x.1) (λ _. next x.0)) ≡ next x
alone_again part = last_again (as_last part)

-- a line that was read as a last part is the words of its value
pub last_takes : {X Y : Type 0} {read : PartReader X} {spell : X → List (List ℕ)} {Is : X → Type 0} → IsLastPart read spell Is
    → (next : X → Result Y Wrong) (words : List (List ℕ)) (y : Y) → bind (read words) (λ x. bind (ended_at x.1) (λ _. next x.0)) ≡ Ok y
    → (x : X) × (words ≡ spell x) × Is x × (next x ≡ Ok y)
last_takes {read} {spell} part next words y h =
    let a = bind_ok (read words) _ y h in
    let taken = part.takes words a.0 a.1 in
    let ended = ended_then (λ _. next a.0.0) a.0.1 y a.2 in
    (a.0.0, taken.0 ∙ ap (λ rest. spell a.0.0 ++ rest) ended.0 ∙ append-nil (spell a.0.0), taken.1, ended.1)

pub alone_takes : {X Y : Type 0} {read : PartReader X} {spell : X → List (List ℕ)} {Is : X → Type 0} → IsPart read spell Is
    → (next : X → Result Y Wrong) (words : List (List ℕ)) (y : Y) → bind (read words) (λ x. bind (ended_at x.1) (λ _. next x.0)) ≡ Ok y
    → (x : X) × (words ≡ spell x) × Is x × (next x ≡ Ok y)
alone_takes part = last_takes (as_last part)
