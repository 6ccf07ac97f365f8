-- That a policy is sharply closed exactly if no sharp rule is broken at any place.
use Rattle.std.proofs.{Common.{ℕ, ◌≡◌, Bool, true}, lemmas.Bool.true_from_ne_false}
use Rattle.base.specs.declared.kind.Kind.{Kind, Kind as kinds, TheVariants.Derive}
use Rattle.policy.{specs.{Closed.IsLacking, Domain.EdgeTest, Sharp.{IsSharplyClosed, Keepers}}, proofs.Cells.not_both}
use Rattle.sharp.specs.declared.broken.SharpBroken.{SharpBroken, SharpBroken as broken}
use Rattle.sharp.specs.{Asked.{HoldsSharply, caller, server}, Broken.{IsSharplyBrokenAt, PutsByGrant}}
use Rattle.sharp.specs.Broken.{SharplyAsks, UsesSharply, derived, falls, granted, has_edge, rises, sharp_edge_at}

abbrev pub IsUnbroken : EdgeTest → Keepers → Type 0
IsUnbroken test Keeps = (place : SharpBroken) → ¬ IsSharplyBrokenAt test Keeps place

module _ (test : EdgeTest) (Keeps : Keepers) (closed : IsSharplyClosed test Keeps) where
  has_use : (subject other : ℕ) (kind : Kind) (target : ℕ) → UsesSharply test Keeps subject other kind target → test subject kind target ≡ true
  has_use subject other kind target (rises share has) = closed.uses_rise subject other kind share target has
  has_use subject other kind target (falls puts of_use has) = closed.uses_fall other subject kind target puts of_use has

  has_derived : (parent child : ℕ) → PutsByGrant test Keeps parent child → test parent Derive child ≡ true
  has_derived parent child (granted giver taker may of_parent puts) = closed.grants_derive giver taker parent child may of_parent puts
  has_derived parent child (derived middle one other) = closed.derives_on parent middle child one other

  has_held : (reply thread : ℕ) → HoldsSharply test reply thread → test reply kinds.Holds thread ≡ true
  has_held reply thread (server endpoint serves) = closed.holds_servers thread reply endpoint serves
  has_held reply thread (caller b endpoint serves calls) = closed.holds_callers b reply endpoint thread serves calls

  -- the edge is there if a rule asks for it
  has_asked_at : (place : SharpBroken) → SharplyAsks test Keeps place → has_edge test (sharp_edge_at place) ≡ true
  has_asked_at (broken.SubjectLacks subject other kind target) = has_use subject other kind target
  has_asked_at (broken.ControlLacks subject kind object) = λ h. closed.keepers_have_all subject kind object h.keeps h.gives
  has_asked_at (broken.GrantLacks giver taker kind target) = λ h. closed.keepers_are_granted giver taker kind target h.keeps h.gives
  has_asked_at (broken.DomainLacks parent child) = λ h. closed.keepers_derive h.subject parent child h.of_parent h.puts
  has_asked_at (broken.DeriveLacks parent child) = has_derived parent child
  has_asked_at (broken.ContextLacks subject context) = λ h. closed.bound_run h.binder subject context h.binds h.controls
  has_asked_at (broken.ReplyLacks reply thread) = has_held reply thread
  has_asked_at (broken.LentLacks borrower context) = λ h.
      closed.lends_to_servers borrower h.reply h.endpoint h.lender context h.serves h.idles h.calls h.runs

  pub unbroken : IsUnbroken test Keeps
  unbroken place h = not_both (has_asked_at place h.asked) h.missing

-- an edge that isn't missing is there
there : {Asked : Type 0} {edge : Bool} → Asked → ¬ IsLacking Asked edge → edge ≡ true
there {edge = edge} asked none = true_from_ne_false edge (λ missing. none (record { asked = asked; missing = missing }))

pub sharply_closed_if : (test : EdgeTest) (Keeps : Keepers) → IsUnbroken test Keeps → IsSharplyClosed test Keeps
sharply_closed_if test Keeps none = record {
  uses_rise = λ a b kind share to has. there (rises share has) (none (broken.SubjectLacks a b kind to));
  uses_fall = λ a b kind to puts of_use has. there (falls puts of_use has) (none (broken.SubjectLacks b a kind to));
  keepers_have_all = λ a kind b keeps gives. there (record { keeps = keeps; gives = gives }) (none (broken.ControlLacks a kind b));
  keepers_are_granted = λ a b kind to keeps gives. there (record { keeps = keeps; gives = gives }) (none (broken.GrantLacks a b kind to));
  keepers_derive = λ a x y of_parent puts.
      there (record { subject = a; of_parent = of_parent; puts = puts }) (none (broken.DomainLacks x y));
  grants_derive = λ a b x y may of_parent puts. there (granted a b may of_parent puts) (none (broken.DeriveLacks x y));
  derives_on = λ x y z one other. there (derived y one other) (none (broken.DeriveLacks x z));
  bound_run = λ a b s binds controls. there (record { binder = a; binds = binds; controls = controls }) (none (broken.ContextLacks b s));
  holds_servers = λ b reply endpoint serves. there (server endpoint serves) (none (broken.ReplyLacks reply b));
  holds_callers = λ b reply endpoint thread serves calls. there (caller b endpoint serves calls) (none (broken.ReplyLacks reply thread));
  lends_to_servers = λ b reply endpoint lender s serves idles calls runs. there (record {
    idles = idles;
    reply = reply;
    endpoint = endpoint;
    serves = serves;
    lender = lender;
    calls = calls;
    runs = runs;
  }) (none (broken.LentLacks b s));
}
