-- A policy is closed exactly if no rule is broken anywhere.
use Rattle.std.proofs.Common.{◌≡◌, ◌≢◌, Bool, false, refl, sym, true}
use Rattle.policy.specs.{declared.broken.Broken.{Broken, Broken as broken}, Broken.{Asks, IsBrokenAt, edge_asked_at, is_there}}
use Rattle.policy.{specs.{Closed.{IsClosed, IsLacking}, Domain.EdgeTest}, proofs.Cells.not_both}
use mathlib.Core.Bool.{false≢true}

abbrev IsUnbroken : EdgeTest → Type 0
IsUnbroken test = (b : Broken) → ¬ IsBrokenAt test b

module _ (test : EdgeTest) (closed : IsClosed test) where
  -- the edge that a rule asks for is there
  pub has_asked_at : (place : Broken) → Asks test place → is_there test (edge_asked_at place) ≡ true
  has_asked_at (broken.SubjectsDisagree a b kind to) = λ none. refl
  has_asked_at (broken.ControlLacks a kind b) = closed.control_gives_all a kind b
  has_asked_at (broken.GrantLacks a b kind to) = closed.grant_shares a b kind to
  has_asked_at (broken.DomainLacks x y) = closed.derive_in_domain x y
  has_asked_at (broken.DeriveLacks x y) = closed.derive_by_grant x y
  has_asked_at (broken.ContextLacks a s) = closed.context_runs a s
  has_asked_at (broken.ReplyLacks r c) = closed.reply_holds r c
  has_asked_at (broken.LentLacks b s) = closed.lent_runs b s

  pub unbroken : IsUnbroken test
  unbroken (broken.SubjectsDisagree a b kind to) h = h.differ (closed.subjects_agree a b kind h.share to)
  unbroken place h = not_both (has_asked_at place h.asked) h.missing

-- what isn't missing is there, and what doesn't differ is the same

there : {Asked : Type 0} {edge : Bool} → Asked → ¬ IsLacking Asked edge → edge ≡ true
there {edge = true} asked none = refl
there {edge = false} asked none = absurd (none (record { asked = asked; missing = refl }))

alike : (a b : Bool) → (a ≢ b → ⊥) → a ≡ b
alike true true h = refl
alike true false h = absurd (h (λ e. false≢true (sym e)))
alike false true h = absurd (h false≢true)
alike false false h = refl

pub closed_if : (test : EdgeTest) → IsUnbroken test → IsClosed test
closed_if test none = record {
  subjects_agree = λ a b kind share to.
      alike (test a kind to) (test b kind to) (λ differ. none (broken.SubjectsDisagree a b kind to) (record { share = share; differ = differ }));
  control_gives_all = λ a kind b asked. there asked (none (broken.ControlLacks a kind b));
  grant_shares = λ a b kind to asked. there asked (none (broken.GrantLacks a b kind to));
  derive_in_domain = λ x y asked. there asked (none (broken.DomainLacks x y));
  derive_by_grant = λ x y asked. there asked (none (broken.DeriveLacks x y));
  context_runs = λ a s asked. there asked (none (broken.ContextLacks a s));
  reply_holds = λ r c asked. there asked (none (broken.ReplyLacks r c));
  lent_runs = λ b s asked. there asked (none (broken.LentLacks b s));
}
