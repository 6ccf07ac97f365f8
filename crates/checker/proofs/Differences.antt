-- The first line where two lists differ, and lists that never do.
use Rattle.std.proofs.Common.{[], ℕ, ◌+◌, ◌<◌, ◌∙◌, ◌∷◌, ◌≡◌, ◌≢◌, List, arith, inl, inr, length, min, refl, slice_get, suc, sym}
use Rattle.std.proofs.lemmas.Option.{none-some, slice_get_cases, slice_get_past}
use Rattle.{base.specs.declared.edge.Edge.Edge, machine.specs.Layout.Layout, policy.specs.Policy.allows}
use Rattle.verdict.specs.declared.{denial.Denial.Denial, rules.Rules.{Rules, Rules as rules}}
use Rattle.verdict.specs.{ByRules.IsLeastBrokenBy, Verdict.IsLeastBroken}
use Rattle.{certificate.specs.declared.line.Line.Line, checker.specs.Verified.{DiffersFirst, IsDenied, IsDeniedBy}}
use Rattle.verdict.specs.declared.denial.Denial.TheVariants as denial

-- lists agree below a place
abbrev pub Agree : List Line → List Line → ℕ → Type 0
Agree one other n = (k : ℕ) → k < n → slice_get one k ≡ slice_get other k

-- the first place past the shorter one
pub differ_at_end : (one other : List Line) (n : ℕ) → n ≡ min (length one) (length other) → Agree one other n
    → length one ≢ length other → DiffersFirst (n + 1) one other
differ_at_end one other n end before apart =
    record {
      before = n;
      counted = refl;
      agree = before;
      differ = λ same. elim (slice_get_cases one n).1 [
        | inl here ↦ none-some here.0
            (sym (slice_get_past other n (omega (arith, end, here.1, apart))) ∙ sym same ∙ here.2)
        | inr past ↦ elim (slice_get_cases other n).1 [
          | inl there ↦ none-some there.0 (sym past.1 ∙ same ∙ there.2)
          | inr over ↦ absurd (omega (arith, end, past.0, over.0, apart))
        ]
      ];
    }

pub same_lists : (one other : List Line) → length one ≡ length other → Agree one other (length one) → one ≡ other
same_lists [] [] same agree = refl
same_lists [] (y ∷ ys) same agree = absurd (omega arith)
same_lists (x ∷ xs) [] same agree = absurd (omega arith)
same_lists (x ∷ xs) (y ∷ ys) same agree =
    let head : x ≡ y = cc (agree 0 (omega arith)) in
    let tail : xs ≡ ys = same_lists xs ys (omega arith) (λ k below. agree (suc k) (omega arith)) in
    cc

-- a denial of the table and the policy is one of them with any certificate
pub rules_deny : (t : Layout) (edges : List Edge) (lines : List Line) (d : Denial) → IsLeastBroken t (allows edges) d
    → IsDenied t edges lines d
rules_deny t edges lines (denial.Certificate line) least = absurd least.has
rules_deny t edges lines (denial.Policy broken) least = least
rules_deny t edges lines (denial.Sharp broken) least = least
rules_deny t edges lines (denial.Capability slot kind label) least = least
rules_deny t edges lines (denial.Root slot label) least = least
rules_deny t edges lines (denial.Pair child parent) least = least
rules_deny t edges lines (denial.Binding thread context) least = least
rules_deny t edges lines (denial.Holding reply thread) least = least
rules_deny t edges lines (denial.Recorded thread kind label) least = least

-- a denial of the table and the policy by a set of rules is one of them with any certificate, by this set
pub rules_deny_by : (set : Rules) (t : Layout) (edges : List Edge) (lines : List Line) (d : Denial) → IsLeastBrokenBy set t (allows edges) d
    → IsDeniedBy set t edges lines d
rules_deny_by rules.Closed t edges lines (denial.Certificate line) least = absurd least.has
rules_deny_by rules.Sharp t edges lines (denial.Certificate line) least = absurd least.has
rules_deny_by set t edges lines (denial.Policy broken) least = least
rules_deny_by set t edges lines (denial.Sharp broken) least = least
rules_deny_by set t edges lines (denial.Capability slot kind label) least = least
rules_deny_by set t edges lines (denial.Root slot label) least = least
rules_deny_by set t edges lines (denial.Pair child parent) least = least
rules_deny_by set t edges lines (denial.Binding thread context) least = least
rules_deny_by set t edges lines (denial.Holding reply thread) least = least
rules_deny_by set t edges lines (denial.Recorded thread kind label) least = least
