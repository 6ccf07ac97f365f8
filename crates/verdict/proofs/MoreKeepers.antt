-- Sharp rules for two sets of keepers: with more keepers they ask for no less, and with the same they are broken at the same places.
use Rattle.{std.proofs.Common.{ℕ, None, Option, Some}, policy.specs.{Domain.EdgeTest, Places.FindsLeast, Sharp.{Keepers, MayPut}}}
use Rattle.sharp.specs.declared.broken.SharpBroken.{SharpBroken, SharpBroken as broken}
use Rattle.sharp.specs.Broken.{IsSharplyBrokenAt, SharplyAsks, derived, falls, granted, rises, sharp_place}

module _ (test : EdgeTest) (Keeps More : Keepers) (more : (a : ℕ) → Keeps a → More a) where
  puts : (a b : ℕ) → MayPut test Keeps a b → MayPut test More a b
  puts a b put = record { keeps = more a put.keeps; controls = put.controls }

  asks : (place : SharpBroken) → SharplyAsks test Keeps place → SharplyAsks test More place
  asks (broken.SubjectLacks subject other kind target) (rises share has) = rises share has
  asks (broken.SubjectLacks subject other kind target) (falls put of_use has) = falls (puts other subject put) of_use has
  asks (broken.ControlLacks subject kind object) h = record { keeps = more subject h.keeps; gives = h.gives }
  asks (broken.GrantLacks giver taker kind target) h = record { keeps = more taker h.keeps; gives = h.gives }
  asks (broken.DomainLacks parent child) h = record { subject = h.subject; of_parent = h.of_parent; puts = puts h.subject child h.puts }
  asks (broken.DeriveLacks parent child) (granted giver taker may of_parent put) =
      granted giver taker may of_parent (puts taker child put)
  asks (broken.DeriveLacks parent child) (derived middle one other) = derived middle one other
  asks (broken.ContextLacks subject context) h = h
  asks (broken.ReplyLacks reply thread) h = h
  asks (broken.LentLacks borrower context) h = h

  pub breaks : (place : SharpBroken) → IsSharplyBrokenAt test Keeps place → IsSharplyBrokenAt test More place
  breaks place h = record { asked = asks place h.asked; missing = h.missing }

pub least_of_same :
    (test : EdgeTest) (Keeps Other : Keepers) → ((a : ℕ) → Keeps a → Other a) → ((a : ℕ) → Other a → Keeps a)
    → (found : Option SharpBroken) → FindsLeast sharp_place (IsSharplyBrokenAt test Keeps) found
    → FindsLeast sharp_place (IsSharplyBrokenAt test Other) found
least_of_same test Keeps Other to from None none = λ place broken. none place (breaks test Other Keeps from place broken)
least_of_same test Keeps Other to from (Some place) least = record {
  has = breaks test Keeps Other to place least.has;
  first = λ other broken before. least.first other (breaks test Other Keeps from other broken) before;
}
