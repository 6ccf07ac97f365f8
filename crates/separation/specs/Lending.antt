-- The domains on whose time a domain may run: its own, and those that call it directly or through others (confine's own; compare the seL4
-- manual, "Passive Servers").
use Rattle.std.specs.{List.{list_any, range_with_len}, Prelude.{[], ℕ, ◌&&◌, ◌==◌, ◌||◌, ◌∷◌, Bool, List, filter, length, map, suc, zero}}
use Rattle.microkit.specs.{declared.description.{Channel.Channel, End.End}, Description.Description}

abbrev pub is_among : List ℕ → ℕ → Bool
is_among numbers n = list_any (λ (one : ℕ). one == n) numbers

-- one of these domains calls this one by an end
unfoldable pub end_lends : List ℕ → ℕ → End → End → Bool
end_lends runners n end other = end.may_call && (other.id.domain == n && is_among runners end.id.domain)

unfoldable pub channel_lends : List ℕ → ℕ → Channel → Bool
channel_lends runners n channel =
    end_lends runners n channel.first channel.second || end_lends runners n channel.second channel.first

-- a domain is one of these, or is called by one of them
unfoldable pub is_lent : List Channel → List ℕ → ℕ → Bool
is_lent channels runners n = is_among runners n || list_any (channel_lends runners n) channels

abbrev pub with_called : Description → List ℕ → List ℕ
with_called d runners = filter (is_lent d.channels runners) (range_with_len 0 (length d.domains))

-- the domains that may run on the time of a domain, by at most this number of calls
unfoldable pub runners_by : Description → ℕ → ℕ → List ℕ
runners_by d n zero = n ∷ []
runners_by d n (suc calls) = with_called d (runners_by d n calls)

-- the domains that may run on the time of a domain; there are no more calls between than domains
abbrev pub runners_of : Description → ℕ → List ℕ
runners_of d n = runners_by d n (length d.domains)

-- for each domain, the domains that may run on its time
abbrev pub all_runners : Description → List (List ℕ)
all_runners d = map (runners_of d) (range_with_len 0 (length d.domains))
