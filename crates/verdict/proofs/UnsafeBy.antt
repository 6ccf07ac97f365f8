-- Proofs that a rule is needed: a run leads from a system's boot state to authority outside its policy; and the rest are tests.
use Rattle.std.proofs.Common.{[], ℕ, ◌&&◌, ◌∙◌, ◌∷◌, ◌≡◌, ◌≢◌, ◌≤◌, Bool, List, false, refl, subst, sym, true}
use Rattle.{std.proofs.lemmas.Bool.{and_parts, false≢true}, base.specs.declared.kind.Kind.Kind}
use Rattle.machine.specs.{declared.call.{Event.Event, Outcome.Outcome}, Authority.HasAuthority, Boot.IsBoot}
use Rattle.machine.specs.{Layout.{Layout, declared_label, initial_of}, Machine.Machine, Run.Run, Step.{Step.ends, step_of}}
use Rattle.table.{specs.Rules.{IsLawful, kind_at}, proofs.BootState.{boot_state, boot_state_is}}
use Rattle.{policy.specs.{Domain.EdgeTest, Needed.{Obeys, Rule}, Policy.allows}, integrity.specs.{Confined.IsConfined, Safe.IsReached}}
use Rattle.verdict.specs.Counterexamples.{HoldsHeadline, UnsafeWithout}
use Rattle.verdict.proofs.FewLabels.{among, few_within, others_obeyed, passes_others, trying}
use Rattle.verdict.proofs.{LineByLine.{confined_by_lines, is_within}, TestPolicies.{IsWithin, allows_policy, is_policy, policy_of}}
use Rattle.verdict.proofs.TestTables.{is_rebuilt, lawful_by_tests, marked_again, rebuilding}
use Rattle.base.specs.declared.label.TheConstants.Label as Label

-- a run that leads outside
pub record LeadsOutside (t : Layout) (allowed : EdgeTest) (m : Machine) : Type 0 where
  pub events : List Event
  pub outcomes : List Outcome
  pub next : Machine
  pub run : Run m events outcomes next
  pub from : ℕ
  pub kind : Kind
  pub to : ℕ
  pub has : HasAuthority t next from kind to
  pub missing : allowed from kind to ≡ false

-- one event leads there
pub led_by_one :
    (t : Layout) (allowed : EdgeTest) (m : Machine) (event : Event) (outcome : Outcome) (next : Machine)
    → step_of m event ≡ (outcome, next) → (from : ℕ) (k : Kind) (to : ℕ) → HasAuthority t next from k to
    → allowed from k to ≡ false → LeadsOutside t allowed m
led_by_one t allowed m event outcome next made from k to has missing = record {
  events = event ∷ [];
  outcomes = outcome ∷ [];
  next = next;
  run = (next, ends made, refl);
  from = from;
  kind = k;
  to = to;
  has = has;
  missing = missing;
}

pub not_safe : (t : Layout) (allowed : EdgeTest) → ((m : Machine) → IsBoot t m → LeadsOutside t allowed m) → ¬ HoldsHeadline t allowed
not_safe t allowed leads safe =
    let out = leads (boot_state t) (boot_state_is t) in
    let reached : IsReached t out.next =
    record {
      boot = boot_state t;
      booted = boot_state_is t;
      events = out.events;
      outcomes = out.outcomes;
      run = out.run;
    } in
    false≢true (sym out.missing ∙ safe.confined out.next reached out.from out.kind out.to out.has)

-- a system that is shown to need the rule
pub record Needs (rule : Rule) (t : Layout) (allowed : EdgeTest) : Type 0 where
  pub lawful : IsLawful t
  pub labels : IsWithin allowed
  pub others : (other : Rule) → other ≢ rule → Obeys allowed other
  pub confined : (m : Machine) → IsBoot t m → IsConfined t allowed m
  pub unsafe : ¬ HoldsHeadline t allowed

-- the tests of a table and of a policy of few labels
unfoldable pub pass : Rule → Layout → ℕ → EdgeTest → Bool
pass rule t n joins = is_rebuilt t && (is_within t (among n joins) && passes_others n joins rule)

-- what they compute with
unfoldable pub tests : Bool
unfolding declared_label initial_of is_within kind_at pass rebuilding trying
tests = true

pub needs_by_tests :
    (rule : Rule) (t : Layout) (n : ℕ) (joins : EdgeTest) → n ≤ Label.COUNT → pass rule t n joins ≡ true → marked_again t ≡ t
    → ¬ HoldsHeadline t (among n joins) → Needs rule t (among n joins)
unfolding pass
needs_by_tests rule t n joins few e same unsafe =
    let l = and_parts (is_rebuilt t) _ e in
    let m = and_parts (is_within t (among n joins)) _ l.1 in
    let lawful = lawful_by_tests t l.0 same in
    record {
      lawful = lawful;
      labels = few_within n joins few;
      others = others_obeyed n joins rule m.1;
      confined = confined_by_lines t (among n joins) m.0 lawful;
      unsafe = unsafe;
    }

-- such a system, with what else its policy keeps
pub unsafe_keeping :
    (rule : Rule) (t : Layout) (allowed : EdgeTest) (Keeps : EdgeTest → Type 0) → Needs rule t allowed → Keeps allowed
    → (system : UnsafeWithout rule) × Keeps (allows system.edges)
unsafe_keeping rule t allowed Keeps needs keeps =
    let same = allows_policy allowed needs.labels in
    let system : UnsafeWithout rule =
    record {
      t = t;
      edges = policy_of allowed;
      lawful = needs.lawful;
      policy = is_policy allowed needs.labels;
      others = λ other differ. subst (λ test. Obeys test other) (sym same) (needs.others other differ);
      confined = λ m boot. subst (λ test. IsConfined t test m) (sym same) (needs.confined m boot);
      unsafe = λ safe. needs.unsafe (subst (HoldsHeadline t) same safe);
    } in
    (system, subst Keeps (sym same) keeps)

pub unsafe_without : (rule : Rule) (t : Layout) (allowed : EdgeTest) → Needs rule t allowed → UnsafeWithout rule
unsafe_without rule t allowed needs = (unsafe_keeping rule t allowed (λ test. Unit {0}) needs tt).0

pub unsafe_by_tests :
    (rule : Rule) (t : Layout) (n : ℕ) (joins : EdgeTest) → n ≤ Label.COUNT → pass rule t n joins ≡ true → marked_again t ≡ t
    → ((m : Machine) → IsBoot t m → LeadsOutside t (among n joins) m) → UnsafeWithout rule
unsafe_by_tests rule t n joins few e same leads =
    unsafe_without rule t (among n joins) (needs_by_tests rule t n joins few e same (not_safe t (among n joins) leads))
