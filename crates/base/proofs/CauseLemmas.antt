-- Refusals as they are written, and details: they tell the cause, the misuse or the failure that they stand for.
use Rattle.std.{specs.Prelude.slice_index_or, proofs.Common.{ℕ, ◌<◌, ◌==◌, ◌∙◌, ◌≡◌, ◌≢◌, Bool, ap, arith, cond, lit<, refl, sym}}
use Rattle.base.specs.declared.refusal.{Cause.Cause, LookupFailure.{LookupFailure, TheVariants.{DepthMismatch, GuardMismatch, InvalidRoot}}}
use Rattle.base.specs.declared.refusal.Cause.TheVariants as cause
use Rattle.base.specs.declared.refusal.{LookupFailure.TheVariants.MissingCapability, Misuse.Misuse, Refusal.Refusal}
use Rattle.base.specs.declared.refusal.Misuse.TheVariants as misuse
use Rattle.base.specs.Refusals.{IsOfCondition, condition_codes, failure_detail, misuse_refusal, out_of_memory, plain, refusal_of}

-- the failure of a detail
failure_told : ℕ → LookupFailure
failure_told detail =
    cond (detail == 1) InvalidRoot (
    cond (detail == 2) MissingCapability (
    cond (detail == 3) DepthMismatch GuardMismatch))

failure_again : (failure : LookupFailure) → failure_told (failure_detail failure) ≡ failure
unfolding failure_told
failure_again InvalidRoot = refl
failure_again MissingCapability = refl
failure_again DepthMismatch = refl
failure_again GuardMismatch = refl

-- different failures have different details
pub failure_once : (one other : LookupFailure) → failure_detail one ≡ failure_detail other → one ≡ other
failure_once one other same = sym (failure_again one) ∙ ap (λ n. failure_told n) same ∙ failure_again other

-- the cause of a refusal
cause_told : Refusal → Cause
cause_told refusal =
    cond (refusal.code == 1) cause.InvalidArgument (
    cond (refusal.code == 2) cause.InvalidCapability (
    cond (refusal.code == 3) cause.IllegalOperation (
    cond (refusal.code == 4) cause.RangeError (
    cond (refusal.code == 8) cause.DeleteFirst (
    cond (refusal.code == 10) cause.NotEnoughMemory (
    cond (refusal.code == 32) cause.NotRunnable (
    cond (refusal.code == 33) cause.WrongCore (
    cond (refusal.code == 34) cause.NoSuchThread (
    cond (refusal.code == 6) (cause.FailedLookup (failure_told refusal.detail)) cause.TooMany)))))))))

cause_again : (why : Cause) → cause_told (refusal_of why) ≡ why
unfolding cause_told failure_told
cause_again cause.InvalidArgument = refl
cause_again cause.InvalidCapability = refl
cause_again cause.IllegalOperation = refl
cause_again cause.RangeError = refl
cause_again cause.DeleteFirst = refl
cause_again cause.NotEnoughMemory = refl
cause_again cause.NotRunnable = refl
cause_again cause.WrongCore = refl
cause_again cause.NoSuchThread = refl
cause_again cause.TooMany = refl
cause_again (cause.FailedLookup InvalidRoot) = refl
cause_again (cause.FailedLookup MissingCapability) = refl
cause_again (cause.FailedLookup DepthMismatch) = refl
cause_again (cause.FailedLookup GuardMismatch) = refl

-- different causes have different refusals
pub cause_once : (one other : Cause) → refusal_of one ≡ refusal_of other → one ≡ other
cause_once one other same = sym (cause_again one) ∙ ap (λ refusal. cause_told refusal) same ∙ cause_again other

-- the misuse of a refusal
misuse_told : Refusal → Misuse
misuse_told refusal =
    cond (refusal.code == 41) misuse.LogFull (
    cond (refusal.code == 42) misuse.ForeignSeat (
    cond (refusal.code == 43) misuse.LogSize (
    cond (refusal.code == 45) misuse.WorkerCount misuse.SeatCount)))

misuse_again : (wrong : Misuse) → misuse_told (misuse_refusal wrong) ≡ wrong
unfolding misuse_told
misuse_again misuse.LogFull = refl
misuse_again misuse.ForeignSeat = refl
misuse_again misuse.LogSize = refl
misuse_again misuse.WorkerCount = refl
misuse_again misuse.SeatCount = refl

-- different misuses have different refusals
pub misuse_once : (one other : Misuse) → misuse_refusal one ≡ misuse_refusal other → one ≡ other
misuse_once one other same = sym (misuse_again one) ∙ ap (λ refusal. misuse_told refusal) same ∙ misuse_again other

-- a condition gives a refusal of its own codes

without_detail : (code place : ℕ) → place < 11 → slice_index_or condition_codes place code ≡ code → code ≢ 6 → IsOfCondition (plain code)
without_detail code place within here other =
    record { code = (place, within, here); no_detail = λ _. refl; failure = λ six. absurd (other six) }

of_lookup : (failure : LookupFailure) → IsOfCondition (refusal_of (cause.FailedLookup failure))
of_lookup InvalidRoot = record { code = (4, lit< tt, refl); no_detail = λ other. absurd (other refl); failure = λ _. (omega arith, omega arith) }
of_lookup MissingCapability = record { code = (4, lit< tt, refl); no_detail = λ other. absurd (other refl); failure = λ _. (omega arith, omega arith) }
of_lookup DepthMismatch = record { code = (4, lit< tt, refl); no_detail = λ other. absurd (other refl); failure = λ _. (omega arith, omega arith) }
of_lookup GuardMismatch = record { code = (4, lit< tt, refl); no_detail = λ other. absurd (other refl); failure = λ _. (omega arith, omega arith) }

pub of_condition : (why : Cause) → IsOfCondition (refusal_of why)
of_condition cause.InvalidArgument = without_detail 1 0 (lit< tt) refl (λ e. omega arith)
of_condition cause.InvalidCapability = without_detail 2 1 (lit< tt) refl (λ e. omega arith)
of_condition cause.IllegalOperation = without_detail 3 2 (lit< tt) refl (λ e. omega arith)
of_condition cause.RangeError = without_detail 4 3 (lit< tt) refl (λ e. omega arith)
of_condition (cause.FailedLookup failure) = of_lookup failure
of_condition cause.DeleteFirst = without_detail 8 5 (lit< tt) refl (λ e. omega arith)
of_condition cause.NotEnoughMemory = without_detail 10 6 (lit< tt) refl (λ e. omega arith)
of_condition cause.NotRunnable = without_detail 32 7 (lit< tt) refl (λ e. omega arith)
of_condition cause.WrongCore = without_detail 33 8 (lit< tt) refl (λ e. omega arith)
of_condition cause.NoSuchThread = without_detail 34 9 (lit< tt) refl (λ e. omega arith)
of_condition cause.TooMany = without_detail 44 10 (lit< tt) refl (λ e. omega arith)

-- no other refusal has such a code

is_condition : Refusal → Bool
is_condition refusal =
    cond (refusal.code == 40) Bool.false (
    cond (refusal.code == 41) Bool.false (
    cond (refusal.code == 42) Bool.false (
    cond (refusal.code == 43) Bool.false (
    cond (refusal.code == 45) Bool.false (
    cond (refusal.code == 46) Bool.false Bool.true)))))

condition_told : (why : Cause) → is_condition (refusal_of why) ≡ Bool.true
unfolding is_condition
condition_told cause.InvalidArgument = refl
condition_told cause.InvalidCapability = refl
condition_told cause.IllegalOperation = refl
condition_told cause.RangeError = refl
condition_told cause.DeleteFirst = refl
condition_told cause.NotEnoughMemory = refl
condition_told cause.NotRunnable = refl
condition_told cause.WrongCore = refl
condition_told cause.NoSuchThread = refl
condition_told cause.TooMany = refl
condition_told (cause.FailedLookup failure) = refl

misuse_untold : (wrong : Misuse) → is_condition (misuse_refusal wrong) ≡ Bool.false
unfolding is_condition
misuse_untold misuse.LogFull = refl
misuse_untold misuse.ForeignSeat = refl
misuse_untold misuse.LogSize = refl
misuse_untold misuse.WorkerCount = refl
misuse_untold misuse.SeatCount = refl

memory_untold : is_condition out_of_memory ≡ Bool.false
unfolding is_condition
memory_untold = refl

pub cause_no_misuse : (why : Cause) (wrong : Misuse) → refusal_of why ≢ misuse_refusal wrong
cause_no_misuse why wrong same =
    let told : Bool.true ≡ Bool.false = sym (condition_told why) ∙ ap (λ refusal. is_condition refusal) same ∙ misuse_untold wrong in cc

pub cause_no_memory : (why : Cause) → refusal_of why ≢ out_of_memory
cause_no_memory why same =
    let told : Bool.true ≡ Bool.false = sym (condition_told why) ∙ ap (λ refusal. is_condition refusal) same ∙ memory_untold in cc

-- nor is want of memory a misuse
pub memory_no_misuse : (wrong : Misuse) → out_of_memory ≢ misuse_refusal wrong
memory_no_misuse wrong same = by wrong (ap (λ (refusal : Refusal). refusal.code) same) where
  by : (wrong : Misuse) → 40 ≢ (misuse_refusal wrong).code
  by misuse.LogFull e = omega arith
  by misuse.ForeignSeat e = omega arith
  by misuse.LogSize e = omega arith
  by misuse.WorkerCount e = omega arith
  by misuse.SeatCount e = omega arith
