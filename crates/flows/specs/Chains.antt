-- Chains of flows, link by link, and the links by which a search from their end found the labels from which one leads (confine's own).
use Rattle.std.specs.Prelude.{[], ℕ, ◌++◌, ◌<◌, ◌↔◌, ◌∷◌, ◌≡◌, ◌≢◌, ◌⊎◌, List, Some, false, length, slice_get, true}
use Rattle.{base.specs.Labels.is_in, reach.specs.Extents.Limits}
use Rattle.flows.specs.{declared.links.{Link.Link, Sources.Sources}, Flowing.{FilterTest, FlowsBy, GoesOn, FlowLeads}}

-- what the one label does may come to the other by objects of a label that is no filter
pub record IsLink (limits : Limits) (filters : FilterTest) (link : Link) : Type 0 where
  pub flows : FlowsBy limits link.from link.object link.to
  pub beside : filters link.object ≡ false

-- links that lead from one label to another, each from where the link before ends: no label between the two is a filter
pub data IsChain (limits : Limits) (filters : FilterTest) (from : ℕ) : List Link → ℕ → Type 0 where
  starts : IsChain limits filters from [] from
  goes_on : {links : List Link} {link : Link} → IsChain limits filters from links link.from → GoesOn filters from link.from
      → IsLink limits filters link → IsChain limits filters from (links ++ link ∷ []) link.to

-- a label is the end, or one from which one of the first of these links leads
abbrev pub IsLinked : ℕ → List Link → ℕ → ℕ → Type 0
IsLinked to links count label =
    (label ≡ to) ⊎ ((at : ℕ) × (link : Link) × (at < count) × (slice_get links at ≡ Some link) × (link.from ≡ label))

-- a link of a search: it doesn't begin at the end, and leads to a label that was found by an earlier link, past which a chain goes on
pub record IsFoundLink (limits : Limits) (filters : FilterTest) (to : ℕ) (links : List Link) (at : ℕ) (link : Link) : Type 0 where
  pub is : IsLink limits filters link
  pub new : link.from ≢ to
  pub on : GoesOn filters to link.to
  pub found : IsLinked to links at link.to

abbrev pub AreFoundLinks : Limits → FilterTest → ℕ → List Link → Type 0
AreFoundLinks limits filters to links = (at : ℕ) (link : Link) → slice_get links at ≡ Some link → IsFoundLink limits filters to links at link

-- the labels from which a chain leads to one, each with a link by which it was found
pub record AreSources (limits : Limits) (filters : FilterTest) (to : ℕ) (sources : Sources) : Type 0 where
  pub leads : (l : ℕ) → (is_in sources.labels l ≡ true) ↔ FlowLeads limits filters l to
  pub found : (l : ℕ) → is_in sources.labels l ≡ true → IsLinked to sources.links.items (length sources.links.items) l
  pub links : AreFoundLinks limits filters to sources.links.items
