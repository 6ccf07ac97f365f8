-- Sound descriptions: what a description names is there, in each that is read (confine's own).
use Rattle.std.specs.{List.AllByRecursion, Prelude.{◌<◌, ◌≤◌, length}}
use Rattle.microkit.specs.{declared.{description.{Channel.Channel, Map.Map}, domains.TheConstants.MAX_DOMAINS}, Description.Description}

-- there aren't too many domains, each map is of a region, and each channel between domains
pub record IsSound (d : Description) : Type 0 where
  pub few : length d.domains ≤ MAX_DOMAINS
  pub maps : AllByRecursion (λ (map : Map). map.region < length d.regions) d.maps
  pub channels :
      AllByRecursion
      (λ (channel : Channel). (channel.first.id.domain < length d.domains) × (channel.second.id.domain < length d.domains))
      d.channels
