-- Kinds of authority, their names and their numbers: each way between a kind and these.
use Rattle.std.{specs.{Bool.Decides, Prelude.{IfSome, bytes_eq, slice_get}}, proofs.Common.{ℕ, ◌+◌, ◌<◌, ◌==◌, ◌↔◌, ◌∙◌, ◌≡◌, ◌≤◌, ◌⊎◌, Bool, List}}
use Rattle.std.proofs.Common.{None, Option, Some, ap, arith, cond, false, inl, inr, lit<, refl, slice_index_or, subst, sym, true}
use Rattle.std.proofs.lemmas.{Bool.cases_lt, Option.get_or_from_slice_get, Slice.Eq.bytes_eq-Decides}
use mathlib.Core.Bool.{false≢true}
use Rattle.base.specs.declared.kind.Kind.{Kind, TheVariants.{Await, Call, Context, Control, Derive, Grant, Holds, Notify, Read, Receive}}
use Rattle.base.specs.declared.kind.{Kind.TheVariants.{Reply, Reset, Runs, SchedControl, Send, Space, Write}, TheConstants.Kind.ALL}
use Rattle.base.specs.Kinds.{kind_name, kind_named, kind_number}

-- a kind that is found by its name, or one that is found later, has the name
here : (word : List ℕ) (kind : Kind) (later : Option Kind) → IfSome later (λ other. word ≡ kind_name other)
    → IfSome (cond (bytes_eq word (kind_name kind)) (Some kind) later) (λ other. word ≡ kind_name other)
here word kind later rest = by_test (bytes_eq word (kind_name kind)) (bytes_eq-Decides word (kind_name kind)) where
  by_test : (same : Bool) → Decides same (word ≡ kind_name kind)
      → IfSome (cond same (Some kind) later) (λ other. word ≡ kind_name other)
  by_test true same = same.0 refl
  by_test false other = rest

named_name : (word : List ℕ) → IfSome (kind_named word) (λ kind. word ≡ kind_name kind)
unfolding kind_named
named_name word =
    (here word Control _
    (here word Reset _
    (here word Send _
    (here word Receive _
    (here word Grant _
    (here word Call _
    (here word Notify _
    (here word Await _
    (here word Read _
    (here word Write _
    (here word Reply _
    (here word Context _
    (here word SchedControl _
    (here word Space _
    (here word Derive _
    (here word Runs _
    (here word Holds _ tt)))))))))))))))))

pub kind_again : (kind : Kind) → kind_named (kind_name kind) ≡ Some kind
unfolding kind_named
kind_again Control = refl
kind_again Reset = refl
kind_again Send = refl
kind_again Receive = refl
kind_again Grant = refl
kind_again Call = refl
kind_again Notify = refl
kind_again Await = refl
kind_again Read = refl
kind_again Write = refl
kind_again Reply = refl
kind_again Context = refl
kind_again SchedControl = refl
kind_again Space = refl
kind_again Derive = refl
kind_again Runs = refl
kind_again Holds = refl

-- a word names a kind just where it is the kind's name
pub kind_is_named : (word : List ℕ) (kind : Kind) → kind_named word ≡ Some kind → word ≡ kind_name kind
kind_is_named word kind is = subst (λ found. IfSome found (λ other. word ≡ kind_name other)) is (named_name word)

pub named_iff : (word : List ℕ) (kind : Kind) → (kind_named word ≡ Some kind) ↔ (word ≡ kind_name kind)
named_iff word kind = (kind_is_named word kind, λ h. ap (λ w. kind_named w) h ∙ kind_again kind)

-- different kinds have different names
pub kind_once : (one other : Kind) → kind_name one ≡ kind_name other → one ≡ other
kind_once one other same = let both : Some one ≡ Some other = sym (kind_again one) ∙ ap (λ w. kind_named w) same ∙ kind_again other in cc

-- different kinds have different numbers
numbered : ℕ → Kind
numbered n =
    cond (n == 0) Control (
    cond (n == 1) Reset (
    cond (n == 2) Send (
    cond (n == 3) Receive (
    cond (n == 4) Grant (
    cond (n == 5) Call (
    cond (n == 6) Notify (
    cond (n == 7) Await (
    cond (n == 8) Read (
    cond (n == 9) Write (
    cond (n == 10) Reply (
    cond (n == 11) Context (
    cond (n == 12) SchedControl (
    cond (n == 13) Space (
    cond (n == 14) Derive (
    cond (n == 15) Runs (
    Holds))))))))))))))))

number_again : (kind : Kind) → numbered (kind_number kind) ≡ kind
unfolding numbered
number_again Control = refl
number_again Reset = refl
number_again Send = refl
number_again Receive = refl
number_again Grant = refl
number_again Call = refl
number_again Notify = refl
number_again Await = refl
number_again Read = refl
number_again Write = refl
number_again Reply = refl
number_again Context = refl
number_again SchedControl = refl
number_again Space = refl
number_again Derive = refl
number_again Runs = refl
number_again Holds = refl

pub number_once : (one other : Kind) → kind_number one ≡ kind_number other → one ≡ other
number_once one other same = sym (number_again one) ∙ ap (λ n. numbered n) same ∙ number_again other

pub number_below : (kind : Kind) → kind_number kind < 17
number_below Control = lit< tt
number_below Reset = lit< tt
number_below Send = lit< tt
number_below Receive = lit< tt
number_below Grant = lit< tt
number_below Call = lit< tt
number_below Notify = lit< tt
number_below Await = lit< tt
number_below Read = lit< tt
number_below Write = lit< tt
number_below Reply = lit< tt
number_below Context = lit< tt
number_below SchedControl = lit< tt
number_below Space = lit< tt
number_below Derive = lit< tt
number_below Runs = lit< tt
number_below Holds = lit< tt

-- each kind stands at its number in the list of all
pub in_order : (kind : Kind) → slice_get ALL (kind_number kind) ≡ Some kind
in_order Control = refl
in_order Reset = refl
in_order Send = refl
in_order Receive = refl
in_order Grant = refl
in_order Call = refl
in_order Notify = refl
in_order Await = refl
in_order Read = refl
in_order Write = refl
in_order Reply = refl
in_order Context = refl
in_order SchedControl = refl
in_order Space = refl
in_order Derive = refl
in_order Runs = refl
in_order Holds = refl

pub at_number : (kind : Kind) → slice_index_or ALL (kind_number kind) Control ≡ kind
at_number kind = get_or_from_slice_get ALL (kind_number kind) kind Control (in_order kind)

-- a kind whose name is a word is the one that the word names
pub named_by : (word : List ℕ) (kind : Kind) → bytes_eq (kind_name kind) word ≡ true → kind_named word ≡ Some kind
named_by word kind is = ap (λ w. kind_named w) (sym ((bytes_eq-Decides (kind_name kind) word).0 is)) ∙ kind_again kind

-- a word that isn't the name of any names none
pub named_by_none : (word : List ℕ) → ((kind : Kind) → bytes_eq (kind_name kind) word ≡ false) → kind_named word ≡ None
named_by_none word none = by_found (kind_named word) (named_name word) where
  by_found : (found : Option Kind) → IfSome found (λ kind. word ≡ kind_name kind) → found ≡ None
  by_found None is = refl
  by_found (Some kind) is = absurd (false≢true (sym (none kind) ∙ (bytes_eq-Decides (kind_name kind) word).1 (sym is)))

-- nor is it that of the next kind, which leaves one kind less that it may be of
pub not_named : (word : List ℕ) (k : ℕ) → bytes_eq (kind_name (slice_index_or ALL k Control)) word ≡ false
    → ((kind : Kind) → kind_number kind < k → bytes_eq (kind_name kind) word ≡ false)
    → (kind : Kind) → kind_number kind < k + 1 → bytes_eq (kind_name kind) word ≡ false
not_named word k at_k before kind below = by (cases_lt (kind_number kind) k) where
  by : (kind_number kind < k) ⊎ (k ≤ kind_number kind) → bytes_eq (kind_name kind) word ≡ false
  by (inl earlier) = before kind earlier
  by (inr later) =
      let at : k ≡ kind_number kind = omega (arith, below, later) in
      ap (λ other. bytes_eq (kind_name other) word) (sym (ap (λ n. slice_index_or ALL n Control) at ∙ at_number kind)) ∙ at_k
