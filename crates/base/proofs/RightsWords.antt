-- Sets of rights and their words: each way between a set and its word.
use Rattle.std.{specs.{Bool.Decides, List.{AllByRecursion, find, list_any}, Prelude.{IfSome, bytes_eq}}, proofs.Common.{[], ℕ, ◌+◌, ◌<◌, ◌==◌, ◌≤◌, ◌↔◌, ◌∙◌, ◌∷◌}}
use Rattle.std.proofs.Common.{◌≡◌, Bool, List, None, Option, Some, ap, arith, cond, false, lit<, refl, subst, suc, sym, true, zero}
use Rattle.std.proofs.lemmas.Slice.Eq.{bytes_eq-Decides}
use mathlib.Core.Bool.{false≢true}
use Rattle.base.specs.{declared.rights.Rights.Rights, Rights.{IsRights, all_rights, bit_in, rights_of_word, rights_with, rights_word}}

abbrev Names : List ℕ → Rights → Type 0
Names word rights = (word ≡ rights_word rights) × IsRights rights

-- what is found has the word
by_test : (word : List ℕ) (first : Rights) (found : Option Rights) (same : Bool) → Decides same (word ≡ rights_word first)
    → IsRights first → IfSome found (Names word) → IfSome (cond same (Some first) found) (Names word)
by_test word first found true same is rest = (same.0 refl, is)
by_test word first found false same is rest = rest

found_word : (word : List ℕ) (sets : List Rights) → AllByRecursion IsRights sets
    → IfSome (find (λ rights. bytes_eq word (rights_word rights)) sets) (Names word)
found_word word [] are = tt
found_word word (first ∷ rest) are =
    by_test word first _ (bytes_eq word (rights_word first)) (bytes_eq-Decides word (rights_word first)) are.0 (found_word word rest are.1)

each_is : AllByRecursion IsRights all_rights
each_is = (lit< tt, (lit< tt, (lit< tt, (lit< tt, (lit< tt, (lit< tt, (lit< tt, (lit< tt, (lit< tt, (lit< tt, (lit< tt, (lit< tt, (lit< tt, (lit< tt, (lit< tt, (lit< tt, tt))))))))))))))))

named_word : (word : List ℕ) → IfSome (rights_of_word word) (Names word)
unfolding rights_of_word
named_word word = found_word word all_rights each_is

-- the set that a word names has that word
pub rights_word-rights_of_word : (word : List ℕ) → IfSome (rights_of_word word) (λ rights. word ≡ rights_word rights)
rights_word-rights_of_word word = spelled (rights_of_word word) (named_word word) where
  spelled : (found : Option Rights) → IfSome found (Names word) → IfSome found (λ rights. word ≡ rights_word rights)
  spelled None names = tt
  spelled (Some rights) names = names.0

-- the word of a set is read as that set
pub rights_of_word-rights_word : (n : ℕ) → n < 16 → rights_of_word (rights_word (rights_with n)) ≡ Some (rights_with n)
unfolding rights_of_word
rights_of_word-rights_word zero below = refl
rights_of_word-rights_word (suc zero) below = refl
rights_of_word-rights_word (suc (suc zero)) below = refl
rights_of_word-rights_word (suc (suc (suc zero))) below = refl
rights_of_word-rights_word (suc (suc (suc (suc zero)))) below = refl
rights_of_word-rights_word (suc (suc (suc (suc (suc zero))))) below = refl
rights_of_word-rights_word (suc (suc (suc (suc (suc (suc zero)))))) below = refl
rights_of_word-rights_word (suc (suc (suc (suc (suc (suc (suc zero))))))) below = refl
rights_of_word-rights_word (suc (suc (suc (suc (suc (suc (suc (suc zero)))))))) below = refl
rights_of_word-rights_word (suc (suc (suc (suc (suc (suc (suc (suc (suc zero))))))))) below = refl
rights_of_word-rights_word (suc (suc (suc (suc (suc (suc (suc (suc (suc (suc zero)))))))))) below = refl
rights_of_word-rights_word (suc (suc (suc (suc (suc (suc (suc (suc (suc (suc (suc zero))))))))))) below = refl
rights_of_word-rights_word (suc (suc (suc (suc (suc (suc (suc (suc (suc (suc (suc (suc zero)))))))))))) below = refl
rights_of_word-rights_word (suc (suc (suc (suc (suc (suc (suc (suc (suc (suc (suc (suc (suc zero))))))))))))) below = refl
rights_of_word-rights_word (suc (suc (suc (suc (suc (suc (suc (suc (suc (suc (suc (suc (suc (suc zero)))))))))))))) below = refl
rights_of_word-rights_word (suc (suc (suc (suc (suc (suc (suc (suc (suc (suc (suc (suc (suc (suc (suc zero))))))))))))))) below = refl
rights_of_word-rights_word (suc (suc (suc (suc (suc (suc (suc (suc (suc (suc (suc (suc (suc (suc (suc (suc n)))))))))))))))) below = absurd (omega arith)

-- a word names a set just where it is the word of that set of the four rights
pub rights_named : (word : List ℕ) (rights : Rights) → rights_of_word word ≡ Some rights
    → (word ≡ rights_word rights) × IsRights rights
rights_named word rights is = subst (λ found. IfSome found (Names word)) is (named_word word)

pub rights_again : (rights : Rights) → IsRights rights → rights_of_word (rights_word rights) ≡ Some rights
rights_again rights is = rights_of_word-rights_word rights.0 is

pub named_iff : (word : List ℕ) (rights : Rights)
    → (rights_of_word word ≡ Some rights) ↔ ((word ≡ rights_word rights) × IsRights rights)
named_iff word rights = (rights_named word rights, λ h. ap (λ w. rights_of_word w) h.0 ∙ rights_again rights h.1)

-- different sets have different words
pub rights_once : (one other : Rights) → IsRights one → IsRights other → rights_word one ≡ rights_word other → one ≡ other
rights_once one other is_one is_other same =
    let both : Some one ≡ Some other = sym (rights_again one is_one) ∙ ap (λ w. rights_of_word w) same ∙ rights_again other is_other in cc

-- a set whose word it is is the one that the word names
pub named_by : (word : List ℕ) (n : ℕ) → n < 16 → bytes_eq (rights_word (rights_with n)) word ≡ true
    → rights_of_word word ≡ Some (rights_with n)
named_by word n below is =
    ap (λ w. rights_of_word w) (sym ((bytes_eq-Decides (rights_word (rights_with n)) word).0 is)) ∙ rights_of_word-rights_word n below

-- the rights whose letters are in a word
abbrev pub letters_of : List ℕ → ℕ
letters_of word = bit_in word 114 1 + bit_in word 119 2 + bit_in word 103 4 + bit_in word 121 8

bit_below : (word : List ℕ) (letter right : ℕ) → bit_in word letter right ≤ right
bit_below word letter right = by (list_any (λ x. x == letter) word) where
  by : (has : Bool) → cond has right 0 ≤ right
  by true = omega arith
  by false = omega arith

pub letters_below : (word : List ℕ) → letters_of word < 16
letters_below word = omega (arith, bit_below word 114 1, bit_below word 119 2, bit_below word 103 4, bit_below word 121 8)

letters_again : (n : ℕ) → n < 16 → letters_of (rights_word (rights_with n)) ≡ n
letters_again zero below = refl
letters_again (suc zero) below = refl
letters_again (suc (suc zero)) below = refl
letters_again (suc (suc (suc zero))) below = refl
letters_again (suc (suc (suc (suc zero)))) below = refl
letters_again (suc (suc (suc (suc (suc zero))))) below = refl
letters_again (suc (suc (suc (suc (suc (suc zero)))))) below = refl
letters_again (suc (suc (suc (suc (suc (suc (suc zero))))))) below = refl
letters_again (suc (suc (suc (suc (suc (suc (suc (suc zero)))))))) below = refl
letters_again (suc (suc (suc (suc (suc (suc (suc (suc (suc zero))))))))) below = refl
letters_again (suc (suc (suc (suc (suc (suc (suc (suc (suc (suc zero)))))))))) below = refl
letters_again (suc (suc (suc (suc (suc (suc (suc (suc (suc (suc (suc zero))))))))))) below = refl
letters_again (suc (suc (suc (suc (suc (suc (suc (suc (suc (suc (suc (suc zero)))))))))))) below = refl
letters_again (suc (suc (suc (suc (suc (suc (suc (suc (suc (suc (suc (suc (suc zero))))))))))))) below = refl
letters_again (suc (suc (suc (suc (suc (suc (suc (suc (suc (suc (suc (suc (suc (suc zero)))))))))))))) below = refl
letters_again (suc (suc (suc (suc (suc (suc (suc (suc (suc (suc (suc (suc (suc (suc (suc zero))))))))))))))) below = refl
letters_again (suc (suc (suc (suc (suc (suc (suc (suc (suc (suc (suc (suc (suc (suc (suc (suc n)))))))))))))))) below = absurd (omega arith)

-- a word that isn't that of the set of its letters names no set
pub named_by_none : (word : List ℕ) → bytes_eq (rights_word (rights_with (letters_of word))) word ≡ false → rights_of_word word ≡ None
named_by_none word other = by_found (rights_of_word word) (named_word word) where
  by_found : (found : Option Rights) → IfSome found (Names word) → found ≡ None
  by_found None names = refl
  by_found (Some rights) names =
      let letters : letters_of word ≡ rights.0 = ap (λ w. letters_of w) names.0 ∙ letters_again rights.0 names.1 in
      let is : rights_word (rights_with (letters_of word)) ≡ word = ap (λ n. rights_word (rights_with n)) letters ∙ sym names.0 in
      absurd (false≢true (sym other ∙ (bytes_eq-Decides (rights_word (rights_with (letters_of word))) word).1 is))
