-- Policies of few labels: they obey the rules of closed policies if they pass a test at each of the labels.
use Rattle.std.{specs.List.list_all, proofs.Common.{[], ℕ, ◌&&◌, ◌<◌, ◌==◌, ◌||◌, ◌∙◌, ◌∷◌, ◌≡◌, ◌≢◌, ◌≤◌, Bool, List, ap, arith, false}}
use Rattle.std.proofs.{Common.{get_or, inl, inr, lit<, nat_lt, not, refl, suc, sym, true, zero}, lemmas.Bool.{and_parts, cases_eq}}
use Rattle.std.proofs.lemmas.{Bool.{eqb-true, false≢true, ltb-true, or_cases, or_left, or_right}, List.Sums.AllPass-from_list_all}
use Rattle.base.specs.declared.kind.Kind.{Kind, TheVariants.{Call, Context, Control, Derive, Grant, Holds, Receive, Reply, Runs}}
use Rattle.base.specs.{declared.kind.Kind.TheVariants.{SchedControl, Space}, Kinds.is_structural}
use Rattle.base.specs.declared.label.TheConstants.Label as Label
use Rattle.policy.specs.{Closed.{IsGivenByControl, MayBeGranted, caller, derived, granted, server}, Domain.{EdgeTest, IsInDomain}}
use Rattle.policy.specs.Needed.{Obeys, Rule, context_runs, control_gives_all, derive_by_grant, derive_in_domain, grant_shares, lent_runs}
use Rattle.policy.{specs.Needed.{reply_holds, subjects_agree}, proofs.KindNumbers.{all_kinds, each_kind}}
use Rattle.verdict.proofs.TestPolicies.{IsWithin}

-- the edges of a test between the first labels
unfoldable pub among : ℕ → EdgeTest → EdgeTest
among n joins a k b = joins a k b && (nat_lt a n && nat_lt b n)

-- a test that matters where another passes
unfoldable pub when : Bool → Bool → Bool
when condition test = not condition || test

-- a test of each of the first labels, and of each kind
unfoldable pub each : ℕ → (ℕ → Bool) → Bool
each zero p = true
each (suc n) p = p n && each n p

unfoldable pub kinds : (Kind → Bool) → Bool
kinds p = list_all p all_kinds

then_so : (a b : Bool) → when a b ≡ true → a ≡ true → b ≡ true
unfolding when
then_so true b e is = e
then_so false b e is = absurd (false≢true is)

at : (n : ℕ) (p : ℕ → Bool) → each n p ≡ true → (a : ℕ) → a < n → p a ≡ true
unfolding each
at zero p e a below = absurd (omega arith)
at (suc n) p e a below =
    let parts = and_parts (p n) (each n p) e in
    elim (cases_eq a n) [ inl same ↦ ap p same ∙ parts.0 | inr apart ↦ at n p parts.1 a (omega arith) ]

of_kind : (p : Kind → Bool) → kinds p ≡ true → (k : Kind) → p k ≡ true
unfolding kinds
of_kind p e k = each_kind p e k

-- two tests that follow from each other agree
same_tests : (a b : Bool) → (a ≡ true → b ≡ true) → (b ≡ true → a ≡ true) → a ≡ b
same_tests true b on back = sym (on refl)
same_tests false true on back = back refl
same_tests false false on back = refl

-- whether control gives a kind
abbrev is_given : Kind → Bool
is_given Space = true
is_given SchedControl = false
is_given k = not (is_structural k)

given : (k : Kind) → IsGivenByControl k → is_given k ≡ true
given Space is = refl
given SchedControl (inl space) = let clash : SchedControl ≡ Space = space in cc
given SchedControl (inr is) = absurd (is.1 refl)
given k (inl space) = ap is_given space
given k (inr is) = used k is.0 is.1 where
  used : (k : Kind) → is_structural k ≡ false → (k ≡ SchedControl → ⊥) → is_given k ≡ true
  used Space e differ = refl
  used SchedControl e differ = absurd (differ refl)
  used k e differ = ap not e

-- the rules in order, as numbers

abbrev all_rules : List Rule
all_rules =
    subjects_agree ∷ control_gives_all ∷ grant_shares ∷ derive_in_domain ∷ derive_by_grant ∷ context_runs ∷ reply_holds ∷ lent_runs ∷ []

abbrev number : Rule → ℕ
number subjects_agree = 0
number control_gives_all = 1
number grant_shares = 2
number derive_in_domain = 3
number derive_by_grant = 4
number context_runs = 5
number reply_holds = 6
number lent_runs = 7

stands : (rule d : Rule) → (number rule < 8) × (get_or all_rules (number rule) d ≡ rule)
stands subjects_agree d = (lit< tt, refl)
stands control_gives_all d = (lit< tt, refl)
stands grant_shares d = (lit< tt, refl)
stands derive_in_domain d = (lit< tt, refl)
stands derive_by_grant d = (lit< tt, refl)
stands context_runs d = (lit< tt, refl)
stands reply_holds d = (lit< tt, refl)
stands lent_runs d = (lit< tt, refl)

same_rule : (a b : Rule) → number a ≡ number b → a ≡ b
same_rule a b same = sym (stands a a).1 ∙ ap (λ k. get_or all_rules k a) same ∙ (stands b a).1

each_rule : (p : Rule → Bool) → list_all p all_rules ≡ true → (rule : Rule) → p rule ≡ true
each_rule p e rule =
    let here = stands rule rule in sym (ap p here.1) ∙ AllPass-from_list_all p all_rules e (number rule) rule here.0

module _ (n : ℕ) (joins : EdgeTest) where
  abbrev has : EdgeTest
  has = among n joins

  labels_of : (a : ℕ) (k : Kind) (b : ℕ) → has a k b ≡ true → (a < n) × (b < n)
  unfolding among
  labels_of a k b e =
      let labels = and_parts _ _ (and_parts (joins a k b) _ e).1 in (ltb-true a n labels.0, ltb-true b n labels.1)

  pub few_within : n ≤ Label.COUNT → IsWithin has
  few_within few a k b e = let labels = labels_of a k b e in (omega (arith, labels.0, few), omega (arith, labels.1, few))

  -- whether a label is in the domain of another
  unfoldable pub in_domain : ℕ → ℕ → Bool
  in_domain a x = has a Space x || has a Control x

  domain : (a x : ℕ) → IsInDomain has a x → (in_domain a x ≡ true) × (a < n) × (x < n)
  unfolding in_domain
  domain a x (inl e) =
      let labels = labels_of a Space x e in (or_left (has a Space x) (has a Control x) e, labels.0, labels.1)
  domain a x (inr e) =
      let labels = labels_of a Control x e in (or_right (has a Space x) (has a Control x) e, labels.0, labels.1)

  -- whether a label has the edges of use that another has
  unfoldable pub uses : ℕ → ℕ → Bool
  uses a b = kinds (λ k. is_structural k || each n (λ to. when (has a k to) (has b k to)))

  used : (a b : ℕ) → uses a b ≡ true → (k : Kind) (to : ℕ) → is_structural k ≡ false → has a k to ≡ true → has b k to ≡ true
  unfolding uses
  used a b e k to free is = elim (or_cases _ _ (of_kind _ e k)) [
    | inl structural ↦ absurd (false≢true (sym free ∙ structural))
    | inr test ↦ then_so _ _ (at n _ test to (labels_of a k to is).1) is
  ]

  -- what may be granted may be derived, and what may be derived in two steps in one

  unfoldable pub grants_derive : Bool
  grants_derive =
      each n (λ a. each n (λ b. each n (λ e. each n (λ x. each n (λ y.
      when (has a Grant e) (when (has b Receive e) (when (in_domain a x) (when (in_domain b y) (has x Derive y)))))))))

  pub granted_derives :
      grants_derive ≡ true → (x y a b : ℕ) → MayBeGranted has a b → IsInDomain has a x → IsInDomain has b y
      → has x Derive y ≡ true
  unfolding grants_derive
  granted_derives test x y a b may in_one in_other =
      let one = domain a x in_one in
      let other = domain b y in_other in
      let end = (labels_of a Grant may.endpoint may.grants).1 in
      let there = at n _ (at n _ (at n _ (at n _ (at n _ test a one.1) b other.1) may.endpoint end) x one.2) y other.2 in
      then_so _ _ (then_so _ _ (then_so _ _ (then_so _ _ there may.grants) may.receives) one.0) other.0

  unfoldable pub steps_derive : Bool
  steps_derive = each n (λ x. each n (λ m. each n (λ y. when (has x Derive m) (when (has m Derive y) (has x Derive y)))))

  pub derived_at_once :
      steps_derive ≡ true → (x m y : ℕ) → has x Derive m ≡ true → has m Derive y ≡ true → has x Derive y ≡ true
  unfolding steps_derive
  derived_at_once test x m y one other =
      let labels = labels_of x Derive m one in
      then_so _ _ (then_so _ _ (at n _ (at n _ (at n _ test x labels.0) m labels.1) y (labels_of m Derive y other).1) one) other

  -- the rules as tests
  unfoldable pub passes : Rule → Bool
  passes subjects_agree = each n (λ a. each n (λ b. when (in_domain a b) (uses a b && uses b a)))
  passes control_gives_all = each n (λ a. each n (λ b. when (has a Control b) (kinds (λ k. when (is_given k) (has a k b)))))
  passes grant_shares =
      each n (λ a. each n (λ b. each n (λ e. when (has a Grant e) (when (has b Receive e) (uses a b)))))
  passes derive_in_domain =
      each n (λ a. each n (λ x. each n (λ y. when (in_domain a x) (when (in_domain a y) (has x Derive y)))))
  passes derive_by_grant = grants_derive && steps_derive
  passes context_runs = each n (λ a. each n (λ s. when (has a Context s) (has a Runs s)))
  passes reply_holds =
      each n (λ r. each n (λ thread. when (has thread Reply r) (has r Holds thread)))
      && each n (λ r. each n (λ thread. each n (λ b. each n (λ e.
      when (has b Reply r) (when (has thread Call e) (when (has b Receive e) (has r Holds thread)))))))
  passes lent_runs =
      each n (λ b. each n (λ s. each n (λ a. each n (λ e.
      when (has a Call e) (when (has b Receive e) (when (has a Runs s) (has b Runs s)))))))

  obeys : (rule : Rule) → passes rule ≡ true → Obeys has rule
  unfolding passes
  obeys subjects_agree test = λ a b k share to.
      let labels = domain a b share.domain in
      let both = and_parts _ _ (then_so _ _ (at n _ (at n _ test a labels.1) b labels.2) labels.0) in
      same_tests _ _ (used a b both.0 k to share.of_use) (used b a both.1 k to share.of_use)
  obeys control_gives_all test = λ a k b h.
      let labels = labels_of a Control b h.controls in
      then_so _ _ (of_kind _ (then_so _ _ (at n _ (at n _ test a labels.0) b labels.1) h.controls) k) (given k h.given)
  obeys grant_shares test = λ a b k to h.
      let may = h.granted in
      let from = labels_of a Grant may.endpoint may.grants in
      let there = at n _ (at n _ (at n _ test a from.0) b (labels_of b Receive may.endpoint may.receives).0) may.endpoint from.1 in
      used a b (then_so _ _ (then_so _ _ there may.grants) may.receives) k to h.of_use h.has
  obeys derive_in_domain test = λ x y h.
      let one = domain h.subject x h.of_parent in
      let other = domain h.subject y h.of_child in
      then_so _ _ (then_so _ _ (at n _ (at n _ (at n _ test h.subject one.1) x one.2) y other.2) one.0) other.0
  obeys derive_by_grant test = λ x y come. elim come [
    | granted a b may one other ↦ granted_derives (and_parts grants_derive _ test).0 x y a b may one other
    | derived m one other ↦ derived_at_once (and_parts grants_derive _ test).1 x m y one other
  ]
  obeys context_runs test = λ a s is. let labels = labels_of a Context s is in then_so _ _ (at n _ (at n _ test a labels.0) s labels.1) is
  obeys reply_holds test = λ r thread come. elim come [
    | server is ↦
        let labels = labels_of thread Reply r is in then_so _ _ (at n _ (at n _ (and_parts _ _ test).0 r labels.1) thread labels.0) is
    | caller b e is calls receives ↦
        let uses = labels_of b Reply r is in
        let called = labels_of thread Call e calls in
        let there = at n _ (at n _ (at n _ (at n _ (and_parts _ _ test).1 r uses.1) thread called.0) b uses.0) e called.1 in
        then_so _ _ (then_so _ _ (then_so _ _ there is) calls) receives
  ]
  obeys lent_runs test = λ b s h.
      let calls = labels_of h.lender Call h.endpoint h.calls in
      let takes = labels_of b Receive h.endpoint h.receives in
      let there = at n _ (at n _ (at n _ (at n _ test b takes.0) s (labels_of h.lender Runs s h.runs).1) h.lender calls.0) h.endpoint calls.1 in
      then_so _ _ (then_so _ _ (then_so _ _ there h.calls) h.receives) h.runs

  -- the rules but one
  unfoldable pub passes_others : Rule → Bool
  passes_others rule = list_all (λ other. (number other == number rule) || passes other) all_rules

  pub others_obeyed : (rule : Rule) → passes_others rule ≡ true → (other : Rule) → other ≢ rule → Obeys has other
  unfolding passes_others
  others_obeyed rule test other differ = elim (or_cases _ _ (each_rule (λ other. (number other == number rule) || passes other) test other)) [
    | inl same ↦ absurd (differ (same_rule other rule (eqb-true _ _ same)))
    | inr passed ↦ obeys other passed
  ]

-- what the tests compute with
unfoldable pub trying : Bool
unfolding among each grants_derive in_domain kinds passes passes_others steps_derive uses when
trying = true
