-- Lists of at most 1,000,000 values, with a line for each: the laws of their lines are those of one line.
use Rattle.std.{specs.List.AllByRecursion, proofs.Common.{[], ℕ, ◌++◌, ◌<◌, ◌∷◌, ◌≡◌, ◌≤◌, List, Ok, Result, ap, arith, length}}
use Rattle.{std.proofs.{Common.{length-append, subst}, lemmas.List.length_push}, base.specs.declared.limits.TheConstants.MAX_EVENTS}
use Rattle.words.specs.{declared.faults.Wrong.Wrong, FirstFault.Line, Reading.{IsNotLast, bind}, Text.IsPlainLine}
use Rattle.words.proofs.{ListLaws.{IsListFormat, all_front, all_last}, TextLaws.both, WordLaws.bind_ok}

-- a line after so many others is read just where it is that of a value, and they are below the limit
pub record IsLimitedLine {X : Type 0} (line : X → Line) (read : ℕ → Line → Result X Wrong) (Is : X → Type 0) : Type 0 where
  pub takes : (before : ℕ) (words : Line) (value : X) → read before words ≡ Ok value
      → (words ≡ line value) × Is value × (before < MAX_EVENTS)
  pub again : (before : ℕ) (value : X) → Is value → before < MAX_EVENTS → read before (line value) ≡ Ok value
  pub plain : (value : X) → Is value → IsPlainLine (line value) × IsNotLast (line value)

module _ {X : Type 0} {line : X → Line} {read : ℕ → Line → Result X Wrong} {Is : X → Type 0} (laws : IsLimitedLine line read Is) where
  abbrev step : List X → Line → Result (List X) Wrong
  step values words = bind (read (length values) words) (λ value. Ok (values ++ value ∷ []))

  abbrev Fits : List X → Type 0
  Fits values = (length values ≤ MAX_EVENTS) × AllByRecursion Is values

  takes : (values : List X) (words : Line) (next : List X) → Fits values → step values words ≡ Ok next
      → (value : X) × (words ≡ line value) × (values ++ value ∷ [] ≡ next) × Fits next
  takes values words next is h =
      let stepped = bind_ok (read (length values) words) (λ value. Ok (values ++ value ∷ [])) next h in
      let value = laws.takes (length values) words stepped.0 stepped.1 in
      let same : values ++ stepped.0 ∷ [] ≡ next = cc in
      let few : length (values ++ stepped.0 ∷ []) ≤ MAX_EVENTS = rw length_push (omega (arith, value.2)) in
      (stepped.0, value.0, same, subst Fits same (few, both Is values (stepped.0 ∷ []) is.1 (value.1, tt)))

  again : (values : List X) (value : X) → Fits (values ++ value ∷ []) → step values (line value) ≡ Ok (values ++ value ∷ [])
  unfolding bind
  again values value is =
      let below : length values < MAX_EVENTS = omega (arith, length_push values value, is.0) in
      ap (λ r. bind r (λ v. Ok (values ++ v ∷ []))) (laws.again (length values) value (all_last Is values value is.1) below)

  pub limited_format : IsListFormat line step Fits
  limited_format = record {
    none = (omega arith, tt);
    front = λ values more is. (omega (arith, length-append values more, is.0), all_front Is values more is.1);
    takes = takes;
    again = again;
    plain = λ values value is. laws.plain value (all_last Is values value is.1);
  }
