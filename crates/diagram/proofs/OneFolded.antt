-- The folded drawing of a table with a reach: there is one, since programs with the same labels have the same tests.
use Rattle.std.proofs.Common.{[], ℕ, ◌∙◌, ◌∷◌, ◌≡◌, All, Bool, List, ap, false, map, refl, subst, sym, true}
use Rattle.{std.proofs.lemmas.List.Elements.{All-head, All-tail}, base.specs.declared.kind.Kind.TheVariants.Write}
use Rattle.{machine.specs.Layout.Layout, policy.proofs.Gathering.Tells, reach.specs.Extents.{Limits, MayChangeIn, MayShrinkIn}}
use Rattle.summary.specs.{Labelled.others_of, Letters.{HasLetter, by_answer, by_call, by_other, by_signal}, Sharing.reads_of}
use Rattle.diagram.specs.{Folded.{IsFoldedDrawing, folded_text}, Programs.{IsProgram, Program}}

same_answer : (one other : Bool) → (one ≡ true → other ≡ true) → (other ≡ true → one ≡ true) → one ≡ other
same_answer true other there back = sym (there refl)
same_answer false true there back = back refl
same_answer false false there back = refl

-- two tests of one condition on labels are the same test
agree : (X : ℕ → ℕ → Type 0) (a b : ℕ) → a ≡ b → (one other : ℕ → Bool) → ((l : ℕ) → Tells (one l) (X a l)) → ((l : ℕ) → Tells (other l) (X b l))
    → one ≡ other
agree X a b same one other is also =
    λ i l.
    same_answer (one l) (other l) (λ e. (also l).1 (subst (λ (c : ℕ). X c l) same ((is l).0 e)))
    (λ e. (is l).1 (subst (λ (c : ℕ). X c l) (sym same) ((also l).0 e))) i

agree_as : (test : ℕ → ℕ → Bool) (a b : ℕ) → a ≡ b → (one other : ℕ → Bool) → ((l : ℕ) → one l ≡ test a l) → ((l : ℕ) → other l ≡ test b l)
    → one ≡ other
agree_as test a b same one other is also = λ i l. (is l ∙ ap (λ (c : ℕ). test c l) same ∙ sym (also l)) i

module _ (limits : Limits) where
  program_once : (p q : Program) → p.label ≡ q.label → IsProgram limits p → IsProgram limits q → p ≡ q
  program_once p q same is also =
      let calls = agree (HasLetter by_call limits) p.label q.label same p.calls q.calls is.calls also.calls in
      let answers = agree (HasLetter by_answer limits) p.label q.label same p.answers q.answers is.answers also.answers in
      let signals = agree (HasLetter by_signal limits) p.label q.label same p.signals q.signals is.signals also.signals in
      let does_else = agree (HasLetter by_other limits) p.label q.label same p.does_else q.does_else is.does_else also.does_else in
      let changes = agree (MayChangeIn limits) p.label q.label same p.changes q.changes is.changes also.changes in
      let shrinks = agree (MayShrinkIn limits) p.label q.label same p.shrinks q.shrinks is.shrinks also.shrinks in
      let writes = agree_as (λ a l. limits.test a Write l) p.label q.label same p.writes q.writes is.writes also.writes in
      let reads = agree_as (reads_of limits.test) p.label q.label same p.reads q.reads is.reads also.reads in
      λ i. record {
        label = same i;
        calls = calls i;
        answers = answers i;
        signals = signals i;
        does_else = does_else i;
        changes = changes i;
        shrinks = shrinks i;
        writes = writes i;
        reads = reads i;
      }

  programs_once : (ps qs : List Program) → map (λ (p : Program). p.label) ps ≡ map (λ (p : Program). p.label) qs
      → All (IsProgram limits) ps → All (IsProgram limits) qs → ps ≡ qs
  programs_once [] [] same is also = refl
  programs_once [] (q ∷ qs) same is also = absurd (cc)
  programs_once (p ∷ ps) [] same is also = absurd (cc)
  programs_once (p ∷ ps) (q ∷ qs) same is also =
      let label : p.label ≡ q.label = cc in
      let labels : map (λ (r : Program). r.label) ps ≡ map (λ (r : Program). r.label) qs = cc in
      let first = program_once p q label (All-head (IsProgram limits) p ps is) (All-head (IsProgram limits) q qs also) in
      let rest = programs_once ps qs labels (All-tail (IsProgram limits) p ps is) (All-tail (IsProgram limits) q qs also) in
      λ i. first i ∷ rest i

pub drawn_once : (t : Layout) (limits : Limits) (text other : List ℕ) → IsFoldedDrawing t limits text → IsFoldedDrawing t limits other → text ≡ other
drawn_once t limits text other is also =
    let same = programs_once limits is.programs also.programs (is.are.labels ∙ sym also.are.labels) is.are.each also.are.each in
    is.is ∙ ap (λ (programs : List Program). folded_text t programs (others_of t)) same ∙ sym also.is
