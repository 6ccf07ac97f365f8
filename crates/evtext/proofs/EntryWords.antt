-- The words of outcomes and of entries: what was read is what they spell, and each spelling is read back.
use Rattle.std.{specs.{Bool.{⊤, Decides}, Fmt.decimal, List.AllByRecursion, Str.bytes_eq}, proofs.Common.{[], ℕ, ◌++◌, ◌∙◌, ◌∷◌, ◌≡◌, Bool}}
use Rattle.std.proofs.{Common.{List, None, Ok, Some, ap, codes, cond, false, refl, subst, sym, true}, lemmas.Option.{none-some, same_Some}}
use Rattle.std.proofs.lemmas.Slice.Eq.{bytes_eq-Decides}
use Rattle.machine.specs.declared.call.{Answer.Answer, Event.Event, Outcome.Outcome}
use Rattle.machine.specs.declared.call.Answer.TheVariants as answer
use Rattle.machine.specs.declared.call.Outcome.TheVariants as outcome
use Rattle.words.specs.{Parts.{IsLastPart, IsPart, by_word, keyed, read_as}, Reading.{bind, word_at}, Text.{IsPlainLine, IsPlainWord}}
use Rattle.words.proofs.Parts.{IsChoice, after_word, both_parts, keyed_last, keyed_takes, last_after_word, number_part, part_as}
use Rattle.words.proofs.{Parts.{read_as_again, then_last, word_part}, WordLaws.{plain_bytes, plain_decimal}}
use Rattle.evtext.specs.{Log.{IsEntry, entry_at, entry_words}, Outcome.{IsAnswer, IsMessage, IsOutcome, aborted_at, answer_at}}
use Rattle.evtext.specs.Outcome.{answer_words, blocked_at, equals_at, flag_at, flag_of, flag_word, message_of, message_words, outcome_at}
use Rattle.evtext.{specs.Outcome.{outcome_words, received_at, refused_of}, proofs.{CallParts.four_part, EventWords.event_part}}

-- a yes or no is a word

flag_takes : (word : List ℕ) (flag : Bool) → flag_of word ≡ Some flag → (word ≡ flag_word flag) × ⊤
flag_takes word flag h =
    by_test (bytes_eq word (codes "1")) (bytes_eq word (codes "0")) (bytes_eq-Decides word (codes "1")) (bytes_eq-Decides word (codes "0"))
    h
  where
    by_test :
        (is_one is_zero : Bool) → Decides is_one (word ≡ codes "1") → Decides is_zero (word ≡ codes "0")
        → cond is_one (Some true) (cond is_zero (Some false) None) ≡ Some flag → (word ≡ flag_word flag) × ⊤
    by_test true is_zero one zero same = subst (λ f. (word ≡ flag_word f) × ⊤) (same_Some true flag same) (one.0 refl, tt)
    by_test false true one zero same = subst (λ f. (word ≡ flag_word f) × ⊤) (same_Some false flag same) (zero.0 refl, tt)
    by_test false false one zero same = absurd (none-some flag same)

flag_again : (flag : Bool) → flag_of (flag_word flag) ≡ Some flag
flag_again true = refl
flag_again false = refl

plain_flag : (flag : Bool) → IsPlainWord (flag_word flag)
plain_flag true = plain_bytes (codes "1") refl
plain_flag false = plain_bytes (codes "0") refl

flag_part : IsPart flag_at (λ flag. flag_word flag ∷ []) (λ _. ⊤)
unfolding flag_at
flag_part = word_part flag_of flag_word (λ _. ⊤) flag_takes (λ flag _. flag_again flag) (λ flag _. plain_flag flag)

-- a message is its badge, its four words, and whether a capability arrived
message_part : IsPart received_at message_words IsMessage
unfolding received_at
message_part =
    part_as (both_parts number_part (both_parts four_part flag_part)) message_of message_words IsMessage (λ parts. refl)
    (λ parts is. (is.0, is.1.0)) (λ message is. ((message.badge, (message.words, message.capability)), refl, (is.0, (is.1, tt))))

-- what a call that is done answers is what stands after `done`, up to the end of the line

told_words : Answer → List (List ℕ)
told_words answer.Nothing = []
told_words (answer.Word word) = codes "word" ∷ decimal word ∷ []
told_words (answer.Message message) = codes "msg" ∷ message_words message
told_words (answer.Count count) = codes "count" ∷ decimal count ∷ []
told_words answer.Aborted = codes "aborted" ∷ []

done_words : (answer : Answer) → answer_words answer ≡ codes "done" ∷ told_words answer
unfolding told_words
done_words answer.Nothing = refl
done_words (answer.Word word) = refl
done_words (answer.Message message) = refl
done_words (answer.Count count) = refl
done_words answer.Aborted = refl

aborted_alone : IsChoice told_words IsAnswer (codes "aborted", aborted_at)
unfolding aborted_at told_words
aborted_alone words taken h =
    let same : ◌≡◌ {A = Answer × List (List ℕ)} (answer.Aborted, words) taken = cc in
    subst (λ (t : Answer × List (List ℕ)). (codes "aborted" ∷ words ≡ told_words t.0 ++ t.1) × IsAnswer t.0) same (refl, tt)

answer_takes : (words : List (List ℕ)) (taken : Answer × List (List ℕ)) → answer_at words ≡ Ok taken
    → (words ≡ told_words taken.0 ++ taken.1) × IsAnswer taken.0
unfolding answer_at told_words
answer_takes [] taken h =
    let same : ◌≡◌ {A = Answer × List (List ℕ)} (answer.Nothing, []) taken = cc in
    subst (λ (t : Answer × List (List ℕ)). ([] ≡ told_words t.0 ++ t.1) × IsAnswer t.0) same (refl, tt)
answer_takes (word ∷ words) taken h = keyed_takes told_words IsAnswer _ (
  after_word number_part (codes "word") answer.Word told_words IsAnswer (λ n. refl) (λ n small. small),
  (
    after_word message_part (codes "msg") answer.Message told_words IsAnswer (λ message. refl) (λ message is. is),
    (
      after_word number_part (codes "count") answer.Count told_words IsAnswer (λ n. refl) (λ n small. small),
      (aborted_alone, tt),
    ),
  ),
) (word ∷ words) taken h

answer_again : (answer : Answer) → IsAnswer answer → answer_at (told_words answer) ≡ Ok (answer, [])
unfolding answer_at aborted_at told_words keyed by_word bind word_at
answer_again answer.Nothing is = refl
answer_again (answer.Word word) is = read_as_again number_part answer.Word word [] is
answer_again (answer.Message message) is = read_as_again message_part answer.Message message [] is
answer_again (answer.Count count) is = read_as_again number_part answer.Count count [] is
answer_again answer.Aborted is = refl

plain_answer : (answer : Answer) → IsAnswer answer → AllByRecursion IsPlainWord (told_words answer)
unfolding told_words
plain_answer answer.Nothing is = tt
plain_answer (answer.Word word) is = (plain_bytes (codes "word") refl, (plain_decimal word is, tt))
plain_answer (answer.Message message) is = (plain_bytes (codes "msg") refl, message_part.plain message is)
plain_answer (answer.Count count) is = (plain_bytes (codes "count") refl, (plain_decimal count is, tt))
plain_answer answer.Aborted is = (plain_bytes (codes "aborted") refl, tt)

answer_part : IsLastPart answer_at told_words IsAnswer
answer_part = record { takes = answer_takes; again = answer_again; plain = plain_answer }

-- an outcome is its word and what follows it

outcome_again : (outcome : Outcome) → IsOutcome outcome → outcome_at (outcome_words outcome) ≡ Ok (outcome, [])
unfolding outcome_at blocked_at keyed by_word read_as bind word_at
outcome_again (outcome.Done answer) is =
    ap outcome_at (done_words answer) ∙ ap (λ r. bind r (λ a. Ok (outcome.Done a.0, a.1))) (answer_part.again answer is)
outcome_again outcome.Blocked is = refl
outcome_again (outcome.Refused refusal) is =
    read_as_again (both_parts number_part number_part) refused_of (refusal.code, refusal.detail) [] is

plain_outcome : (outcome : Outcome) → IsOutcome outcome → AllByRecursion IsPlainWord (outcome_words outcome)
plain_outcome (outcome.Done answer) is =
    subst (AllByRecursion IsPlainWord) (sym (done_words answer)) (plain_bytes (codes "done") refl, answer_part.plain answer is)
plain_outcome outcome.Blocked is = (plain_bytes (codes "blocked") refl, tt)
plain_outcome (outcome.Refused refusal) is =
    (plain_bytes (codes "refused") refl, (plain_decimal refusal.code is.0, (plain_decimal refusal.detail is.1, tt)))

blocked_alone : IsChoice outcome_words IsOutcome (codes "blocked", blocked_at)
unfolding blocked_at
blocked_alone words taken h =
    let same : ◌≡◌ {A = Outcome × List (List ℕ)} (outcome.Blocked, words) taken = cc in
    subst (λ (t : Outcome × List (List ℕ)). (codes "blocked" ∷ words ≡ outcome_words t.0 ++ t.1) × IsOutcome t.0) same (refl, tt)

outcome_part : IsLastPart outcome_at outcome_words IsOutcome
unfolding outcome_at
outcome_part = keyed_last outcome_words IsOutcome _ (
  last_after_word answer_part (codes "done") outcome.Done outcome_words IsOutcome done_words (λ answer is. is),
  (
    blocked_alone,
    (
      after_word (both_parts number_part number_part) (codes "refused") refused_of outcome_words IsOutcome (λ parts. refl)
          (λ parts is. is),
      tt,
    ),
  ),
) outcome_again plain_outcome

-- the word `=` stands before it

after_equals : IsChoice (λ outcome. codes "=" ∷ outcome_words outcome) IsOutcome (codes "=", outcome_at)
after_equals words taken h =
    let of_part = outcome_part.takes words taken h in (ap (λ ws. codes "=" ∷ ws) of_part.0, of_part.1)

equals_part : IsLastPart equals_at (λ outcome. codes "=" ∷ outcome_words outcome) IsOutcome
unfolding equals_at keyed by_word bind word_at
equals_part =
    keyed_last (λ outcome. codes "=" ∷ outcome_words outcome) IsOutcome ((codes "=", outcome_at) ∷ []) (after_equals, tt)
    (λ outcome is. outcome_part.again outcome is) (λ outcome is. (plain_bytes (codes "=") refl, outcome_part.plain outcome is))

-- an entry is an event, and after `=` its outcome
pub entry_part : IsLastPart entry_at entry_words IsEntry
unfolding entry_at
entry_part = then_last event_part equals_part

pub plain_entry : (entry : Event × Outcome) → IsEntry entry → IsPlainLine (entry_words entry)
plain_entry entry is = entry_part.plain entry is
