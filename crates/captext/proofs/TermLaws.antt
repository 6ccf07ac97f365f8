-- Terms at the end of a line: the words left are read as at most two terms just as these are spelled.
use Rattle.std.{specs.List.AllByRecursion, proofs.Common.{[], ℕ, ◌++◌, ◌<◌, ◌∙◌, ◌∷◌, ◌≡◌, Bool, List, None, Ok, Option, Some, ap, codes}}
use Rattle.std.proofs.Common.{cond, false, refl, subst, sym, true}
use Rattle.base.specs.{declared.rights.Rights.Rights, Rights.{letter_of, rights_word}}
use Rattle.words.{specs.{Parts.{IsLastPart, in_turn}, Reading.{bind, or_syntax}, Text.IsPlainWord}, proofs.TextLaws.both}
use Rattle.words.proofs.WordLaws.{bind_ok, plain_bytes, plain_decimal, plain_hexadecimal}
use Rattle.captext.specs.{declared.shapes.Term.{Term, Term as term}, Shapes.{term_at, term_of, terms_at}, Spelling.{AreTerms, IsTerm}}
use Rattle.captext.{specs.Spelling.{option_words, term_word}, proofs.{LineLaws.{same_ok, spelled_then}, SlotLaws.{term_again, term_takes}}}

abbrev Terms : Type 0
Terms = Option Term × Option Term

abbrev pub terms_words : Terms → List (List ℕ)
terms_words terms = option_words terms.0 ++ option_words terms.1

-- what is read

abbrev TakesTerms : List (List ℕ) → Terms × List (List ℕ) → Type 0
TakesTerms words taken = (words ≡ terms_words taken.0 ++ taken.1) × AreTerms taken.0

second_takes : (first : Term) (rest : List (List ℕ)) (taken : Terms × List (List ℕ)) → IsTerm first
    → bind (term_at rest) (λ second. Ok ((Some first, second.0), second.1)) ≡ Ok taken → TakesTerms (term_word first ∷ rest) taken
unfolding term_at bind
second_takes first [] taken is h =
    let same : ((Some first, None), []) ≡ taken = same_ok _ _ h in
    subst (TakesTerms (term_word first ∷ [])) same (refl, (is, tt))
second_takes first (word ∷ rest) taken is h =
    let read = bind_ok (term_at (word ∷ rest)) _ taken h in
    let second = spelled_then (term_of word) _ read.0 read.1 in
    let its = term_takes word second.0 second.1 in
    let left : (Some second.0, rest) ≡ read.0 = same_ok _ _ second.2 in
    let same : ((Some first, Some second.0), rest) ≡ taken = (λ i. ((Some first, (left i).0), (left i).1)) ∙ same_ok _ _ read.2 in
    subst (TakesTerms (term_word first ∷ word ∷ rest)) same (ap (λ w. term_word first ∷ w ∷ rest) its.0, (is, its.1))

takes : (words : List (List ℕ)) (taken : Terms × List (List ℕ)) → terms_at words ≡ Ok taken → TakesTerms words taken
unfolding terms_at in_turn term_at bind
takes [] taken h = let same : ((None, None), []) ≡ taken = same_ok _ _ h in subst (TakesTerms []) same (refl, tt)
takes (word ∷ rest) taken h =
    let read = bind_ok (term_at (word ∷ rest)) _ taken h in
    let first = spelled_then (term_of word) _ read.0 read.1 in
    let its = term_takes word first.0 first.1 in
    let left : (Some first.0, rest) ≡ read.0 = same_ok _ _ first.2 in
    let goes_on =
    ap (λ (r : Option Term × List (List ℕ)). bind (term_at r.1) (λ second. Ok ((r.0, second.0), second.1))) left ∙ read.2 in
    subst (λ w. TakesTerms (w ∷ rest) taken) (sym its.0) (second_takes first.0 rest taken its.1 goes_on)

-- terms are read again

again : (terms : Terms) → AreTerms terms → terms_at (terms_words terms) ≡ Ok (terms, [])
unfolding terms_at in_turn term_at bind or_syntax
again (None, None) is = refl
again (None, Some _) is = absurd is
again (Some one, None) is = rw (term_again one is.0) refl
again (Some one, Some two) is = rw (term_again one is.0, term_again two is.1) refl

-- in plain words

plain_cond : (test : Bool) (one other : List ℕ) → IsPlainWord one → IsPlainWord other → IsPlainWord (cond test one other)
plain_cond true one other h k = h
plain_cond false one other h k = k

plain_rights : (rights : Rights) → IsPlainWord (rights_word rights)
plain_rights rights =
    plain_cond _ (codes "-") _ (plain_bytes (codes "-") refl)
    (both (λ b. 32 < b) _ _
    (both (λ b. 32 < b) _ _
    (both (λ b. 32 < b) _ _ (letter 1 (codes "r") (plain_bytes (codes "r") refl))
    (letter 2 (codes "w") (plain_bytes (codes "w") refl)))
    (letter 4 (codes "g") (plain_bytes (codes "g") refl)))
    (letter 8 (codes "y") (plain_bytes (codes "y") refl)))
  where
    letter : (right : ℕ) (word : List ℕ) → IsPlainWord word → IsPlainWord (letter_of rights right word)
    letter right word plain = plain_cond _ word [] plain tt

plain_term : (t : Term) → IsTerm t → IsPlainWord (term_word t)
plain_term (term.Rights rights) is = plain_rights rights
plain_term (term.Decimal n) is = plain_decimal n is
plain_term (term.Hexadecimal n) is = plain_hexadecimal n is

plain : (terms : Terms) → AreTerms terms → AllByRecursion IsPlainWord (terms_words terms)
plain (None, None) is = tt
plain (None, Some _) is = absurd is
plain (Some one, None) is = (plain_term one is.0, tt)
plain (Some one, Some two) is = (plain_term one is.0, (plain_term two is.1, tt))

-- terms are the last part of a line
pub terms_part : IsLastPart terms_at terms_words AreTerms
terms_part = record { takes = takes; again = again; plain = plain }
