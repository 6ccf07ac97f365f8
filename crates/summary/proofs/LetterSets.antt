-- The labels that a label may change by the reasons of one letter, as unions of sets of labels.
use Rattle.std.proofs.Common.{ℕ, ◌≡◌, ◌⊎◌, inl, inr, refl, sym, true}
use Rattle.base.specs.declared.kind.Kind.{Kind, TheVariants.{Await, Call, Context, Control, Grant, Notify, Receive, Reply, Runs}}
use Rattle.base.specs.declared.kind.Kind.TheVariants.{SchedControl, Send, Write}
use Rattle.policy.specs.Change.{ActorTest, IsBeside, MayAnswer, MayBorrow, MayLend, WayToChange, is_changing, MayChangeContext.{binds, configures, lends}}
use Rattle.policy.specs.Change.{MayChangeContext.returns as returns_it, WayToChange.{grants, links, modifies, notifies, own, receives}}
use Rattle.policy.{specs.{Change.WayToChange.{replies, sends, shares}, Domain.EdgeTest}, proofs.ChangeSets.{IsCallee, Meets}}
use Rattle.summary.specs.{Letters.{Letter, by_answer, by_call, by_other, by_signal, letter_of, unlettered, way_letter}}
use mathlib.Core.Bool.{false≢true}

lettered_kind : (kind : Kind) → letter_of kind ≡ unlettered → ⊥
lettered_kind Send is = cc
lettered_kind _ is = cc

module _ (test : EdgeTest) (acts : ActorTest) (a l : ℕ) where
  -- the ways to change that have a letter
  abbrev pub WaysOf : Letter → Type 0
  WaysOf letter = (way : WayToChange test acts a l) × (way_letter way ≡ letter)

  abbrev pub CallParts : Type 0
  CallParts = ((test a Send l ≡ true) ⊎ Meets test acts a Send Receive l) ⊎ ((receiver : ℕ) × IsCallee test acts a receiver × (test receiver Reply l ≡ true))

  pub call_to : CallParts → WaysOf by_call
  call_to (inl (inl there)) = (modifies Send refl there, refl)
  call_to (inl (inr w)) = (sends w.0 w.1 w.2 w.3, refl)
  call_to (inr w) = (links w.1.0 w.0 w.1.1.0 w.1.1.1 w.1.2 w.1.3 w.2, refl)

  modified_by_call : (kind : Kind) → is_changing kind ≡ true → letter_of kind ≡ by_call → test a kind l ≡ true → test a Send l ≡ true
  modified_by_call Send changing is there = there
  modified_by_call Call changing is there = absurd (false≢true changing)
  modified_by_call _ changing is there = absurd (cc)

  pub call_from : (way : WayToChange test acts a l) → way_letter way ≡ by_call → CallParts
  call_from (own same) is = absurd (cc)
  call_from (modifies kind changing there) is = inl (inl (modified_by_call kind changing is there))
  call_from (shares (configures core used governed)) is = absurd (cc)
  call_from (shares (binds thread used controlled)) is = absurd (cc)
  call_from (shares (lends ran lent)) is = absurd (cc)
  call_from (shares (returns_it ran borrowed)) is = absurd (cc)
  call_from (sends endpoint sent received waits) is = inl (inr (endpoint, sent, received, waits))
  call_from (receives endpoint received sent waits) is = absurd (cc)
  call_from (notifies notification notified awaited waits) is = absurd (cc)
  call_from (links endpoint receiver sent called received waits named) is = inr (receiver, (endpoint, (sent, called), received, waits), named)
  call_from (grants endpoint receiver granted received waits controlled) is = absurd (cc)
  call_from (replies answer) is = absurd (cc)

  abbrev pub AnswerParts : Type 0
  AnswerParts =
      ((((test a Receive l ≡ true) ⊎ (test a Reply l ≡ true)) ⊎ Meets test acts a Receive Send l) ⊎ ((test a Runs l ≡ true) × MayBorrow test a)) ⊎ MayAnswer test acts a l

  pub answer_to : AnswerParts → WaysOf by_answer
  answer_to (inl (inl (inl (inl there)))) = (modifies Receive refl there, refl)
  answer_to (inl (inl (inl (inr there)))) = (modifies Reply refl there, refl)
  answer_to (inl (inl (inr w))) = (receives w.0 w.1 w.2 w.3, refl)
  answer_to (inl (inr w)) = (shares (returns_it w.0 w.1), refl)
  answer_to (inr answer) = (replies answer, refl)

  modified_by_answer : (kind : Kind) → letter_of kind ≡ by_answer → test a kind l ≡ true → (test a Receive l ≡ true) ⊎ (test a Reply l ≡ true)
  modified_by_answer Receive is there = inl there
  modified_by_answer Reply is there = inr there
  modified_by_answer _ is there = absurd (cc)

  pub answer_from : (way : WayToChange test acts a l) → way_letter way ≡ by_answer → AnswerParts
  answer_from (own same) is = absurd (cc)
  answer_from (modifies kind changing there) is = inl (inl (inl (modified_by_answer kind is there)))
  answer_from (shares (configures core used governed)) is = absurd (cc)
  answer_from (shares (binds thread used controlled)) is = absurd (cc)
  answer_from (shares (lends ran lent)) is = absurd (cc)
  answer_from (shares (returns_it ran borrowed)) is = inl (inr (ran, borrowed))
  answer_from (sends endpoint sent received waits) is = absurd (cc)
  answer_from (receives endpoint received sent waits) is = inl (inl (inr (endpoint, received, sent, waits)))
  answer_from (notifies notification notified awaited waits) is = absurd (cc)
  answer_from (links endpoint receiver sent called received waits named) is = absurd (cc)
  answer_from (grants endpoint receiver granted received waits controlled) is = absurd (cc)
  answer_from (replies answer) is = inr answer

  abbrev pub SignalParts : Type 0
  SignalParts = (test a Notify l ≡ true) ⊎ Meets test acts a Notify Await l

  pub signal_to : SignalParts → WaysOf by_signal
  signal_to (inl there) = (modifies Notify refl there, refl)
  signal_to (inr w) = (notifies w.0 w.1 w.2 w.3, refl)

  modified_by_signal : (kind : Kind) → letter_of kind ≡ by_signal → test a kind l ≡ true → test a Notify l ≡ true
  modified_by_signal Notify is there = there
  modified_by_signal _ is there = absurd (cc)

  pub signal_from : (way : WayToChange test acts a l) → way_letter way ≡ by_signal → SignalParts
  signal_from (own same) is = absurd (cc)
  signal_from (modifies kind changing there) is = inl (modified_by_signal kind is there)
  signal_from (shares (configures core used governed)) is = absurd (cc)
  signal_from (shares (binds thread used controlled)) is = absurd (cc)
  signal_from (shares (lends ran lent)) is = absurd (cc)
  signal_from (shares (returns_it ran borrowed)) is = absurd (cc)
  signal_from (sends endpoint sent received waits) is = absurd (cc)
  signal_from (receives endpoint received sent waits) is = absurd (cc)
  signal_from (notifies notification notified awaited waits) is = inr (notification, notified, awaited, waits)
  signal_from (links endpoint receiver sent called received waits named) is = absurd (cc)
  signal_from (grants endpoint receiver granted received waits controlled) is = absurd (cc)
  signal_from (replies answer) is = absurd (cc)

  abbrev pub ContextParts : Type 0
  ContextParts = IsBeside test Context SchedControl a l ⊎ IsBeside test Context Control a l

  abbrev pub OtherParts : Type 0
  OtherParts =
      (((((test a Control l ≡ true) ⊎ (test a Await l ≡ true)) ⊎ (test a Write l ≡ true)) ⊎ ContextParts)
      ⊎ ((test a Runs l ≡ true) × MayLend test acts a))
      ⊎ ((receiver : ℕ) × Meets test acts a Grant Receive receiver × (test receiver Control l ≡ true))

  pub other_to : OtherParts → WaysOf by_other
  other_to (inl (inl (inl (inl (inl there))))) = (modifies Control refl there, refl)
  other_to (inl (inl (inl (inl (inr there))))) = (modifies Await refl there, refl)
  other_to (inl (inl (inl (inr there)))) = (modifies Write refl there, refl)
  other_to (inl (inl (inr (inl w)))) = (shares (configures w.1.0 w.0 w.1.1), refl)
  other_to (inl (inl (inr (inr w)))) = (shares (binds w.1.0 w.0 w.1.1), refl)
  other_to (inl (inr w)) = (shares (lends w.0 w.1), refl)
  other_to (inr w) = (grants w.1.0 w.0 w.1.1 w.1.2 w.1.3 w.2, refl)

  modified_otherwise : (kind : Kind) → is_changing kind ≡ true → letter_of kind ≡ by_other → test a kind l ≡ true
      → ((test a Control l ≡ true) ⊎ (test a Await l ≡ true)) ⊎ (test a Write l ≡ true)
  modified_otherwise Control changing is there = inl (inl there)
  modified_otherwise Await changing is there = inl (inr there)
  modified_otherwise Write changing is there = inr there
  modified_otherwise Send changing is there = absurd (cc)
  modified_otherwise Receive changing is there = absurd (cc)
  modified_otherwise Notify changing is there = absurd (cc)
  modified_otherwise Reply changing is there = absurd (cc)
  modified_otherwise _ changing is there = absurd (false≢true changing)

  pub other_from : (way : WayToChange test acts a l) → way_letter way ≡ by_other → OtherParts
  other_from (own same) is = absurd (cc)
  other_from (modifies kind changing there) is = inl (inl (inl (modified_otherwise kind changing is there)))
  other_from (shares (configures core used governed)) is = inl (inl (inr (inl (used, (core, governed)))))
  other_from (shares (binds thread used controlled)) is = inl (inl (inr (inr (used, (thread, controlled)))))
  other_from (shares (lends ran lent)) is = inl (inr (ran, lent))
  other_from (shares (returns_it ran borrowed)) is = absurd (cc)
  other_from (sends endpoint sent received waits) is = absurd (cc)
  other_from (receives endpoint received sent waits) is = absurd (cc)
  other_from (notifies notification notified awaited waits) is = absurd (cc)
  other_from (links endpoint receiver sent called received waits named) is = absurd (cc)
  other_from (grants endpoint receiver granted received waits controlled) is = inr (receiver, (endpoint, granted, received, waits), controlled)
  other_from (replies answer) is = absurd (cc)

  -- each way to change another label has one of the letters

  abbrev pub SomeLetter : Type 0
  SomeLetter = (WaysOf by_call ⊎ WaysOf by_answer) ⊎ (WaysOf by_signal ⊎ WaysOf by_other)

  kind_lettered : (kind : Kind) (changing : is_changing kind ≡ true) (there : test a kind l ≡ true) (letter : Letter) → letter_of kind ≡ letter → SomeLetter
  kind_lettered kind changing there by_call is = inl (inl (modifies kind changing there, is))
  kind_lettered kind changing there by_answer is = inl (inr (modifies kind changing there, is))
  kind_lettered kind changing there by_signal is = inr (inl (modifies kind changing there, is))
  kind_lettered kind changing there by_other is = inr (inr (modifies kind changing there, is))
  kind_lettered kind changing there unlettered is = absurd (lettered_kind kind is)

  pub lettered : (way : WayToChange test acts a l) → (a ≡ l → ⊥) → SomeLetter
  lettered (own same) apart = absurd (apart (sym same))
  lettered (modifies kind changing there) apart = kind_lettered kind changing there (letter_of kind) refl
  lettered (shares (configures core used governed)) apart = inr (inr (shares (configures core used governed), refl))
  lettered (shares (binds thread used controlled)) apart = inr (inr (shares (binds thread used controlled), refl))
  lettered (shares (lends ran lent)) apart = inr (inr (shares (lends ran lent), refl))
  lettered (shares (returns_it ran borrowed)) apart = inl (inr (shares (returns_it ran borrowed), refl))
  lettered (sends endpoint sent received waits) apart = inl (inl (sends endpoint sent received waits, refl))
  lettered (receives endpoint received sent waits) apart = inl (inr (receives endpoint received sent waits, refl))
  lettered (notifies notification notified awaited waits) apart = inr (inl (notifies notification notified awaited waits, refl))
  lettered (links endpoint receiver sent called received waits named) apart = inl (inl (links endpoint receiver sent called received waits named, refl))
  lettered (grants endpoint receiver granted received waits controlled) apart =
      inr (inr (grants endpoint receiver granted received waits controlled, refl))
  lettered (replies answer) apart = inl (inr (replies answer, refl))
