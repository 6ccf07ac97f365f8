-- Ends of channels that are found by an id: the id of the other end is one too, below 62.
use Rattle.std.{specs.Option.option_and_then, proofs.Common.{ℕ, ◌<◌, ◌≡◌, List, None, Option, Some, arith, slice_get}}
use Rattle.std.proofs.lemmas.{Bool.Decides.nat_tests, Grind.common_steps}
use Rattle.{microkit.specs.declared.description.{Channel.Channel, End.End}, importing.specs.Slots.{channel_at, end_at, end_in}}

in_channel : (n id : ℕ) (channel : Channel) (own other : End) → end_in n id channel ≡ Some (own, other) → other.id.number < 62
in_channel n id channel own other is = grind (arith, common_steps, nat_tests)

pub other_is_id : (channels : List Channel) (n id : ℕ) (own other : End) → end_at channels n id ≡ Some (own, other)
    → other.id.number < 62
unfolding end_at
other_is_id channels n id own other is = by (channel_at channels n id) is
  where
    found : (o : Option Channel) → option_and_then (end_in n id) o ≡ Some (own, other) → other.id.number < 62
    found None e = absurd cc
    found (Some channel) e = in_channel n id channel own other e

    by : (o : Option ℕ) → option_and_then (λ number. option_and_then (end_in n id) (slice_get channels number)) o ≡ Some (own, other)
        → other.id.number < 62
    by None e = absurd cc
    by (Some number) e = found (slice_get channels number) e
