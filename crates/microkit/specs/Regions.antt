-- Memory regions of a description, and how they are read (Microkit user manual, "memory_region").
use Rattle.std.specs.{List.{find, position}, Option.option_map, Prelude.{[], ℕ, ◌%◌, ◌&&◌, ◌++◌, ◌+◌, ◌==◌, ◌^◌, ◌∷◌}}
use Rattle.std.specs.Prelude.{Bool, Err, List, None, Ok, Option, Result, Some, codes, false, if◌then◌else◌, nat_lt, not}
use Rattle.{std.specs.Str.bytes_eq, words.specs.Reading.◌>>=◌, xml.specs.Document.Node}
use Rattle.microkit.specs.declared.{description.Page.{Page, TheVariants.{Large, Small}}, flaws.Flaw.Flaw}
use Rattle.microkit.specs.{Attributes.{number_in, number_or, text_in}, Description.Region}
use Rattle.microkit.specs.{Draft.{Draft, known_number}, Flaws.unless_found, Pages.page_bytes}
use Rattle.microkit.specs.declared.flaws.Flaw.TheVariants as flaw

-- the pages of a region, small ones unless it says otherwise
unfoldable pub page_in : Node → Page
page_in node = if number_or node (codes "page_size") 4096 == 2097152 then Large else Small

-- the region of an element
unfoldable pub region_in : Node → Region
region_in node =
    record {
      name = text_in node (codes "name");
      size = number_or node (codes "size") 0;
      page = page_in node;
      address = number_in node (codes "phys_addr");
      line = node.line;
    }

-- the line of the region of this name
abbrev pub region_line : List Region → List ℕ → Option ℕ
region_line regions name =
    option_map (λ (region : Region). region.line) (find (λ (region : Region). bytes_eq region.name name) regions)

-- a physical address begins a page, and all of the region lies below 2 ^ 64
unfoldable pub address_fits : Option ℕ → Region → Result (Unit {0}) Flaw
address_fits None region = Ok tt
address_fits (Some address) region =
    if not (address % page_bytes region.page == 0) then Err flaw.Address else
    if nat_lt (address + region.size) (2 ^ 64) then Ok tt else Err flaw.Beyond

-- a region has whole pages
unfoldable pub pages_fit : Region → Result (Unit {0}) Flaw
pages_fit region =
    if region.size % page_bytes region.page == 0 then address_fits region.address region else Err flaw.Pages

-- two ranges of memory share a byte
abbrev pub ranges_meet : ℕ → ℕ → ℕ → ℕ → Bool
ranges_meet base size other count = nat_lt base (other + count) && nat_lt other (base + size)

-- two regions overlap: both have a physical address, and their ranges meet
unfoldable pub regions_meet : Region → Region → Bool
regions_meet region other = addresses_meet region.address other.address
  where
    addresses_meet : Option ℕ → Option ℕ → Bool
    addresses_meet (Some address) (Some base) = ranges_meet address region.size base other.size
    addresses_meet _ _ = false

-- the line of the first region that overlaps this one
abbrev pub overlap_line : List Region → Region → Option ℕ
overlap_line regions region = option_map (λ (other : Region). other.line) (find (regions_meet region) regions)

-- a region may follow these: its name is new (52), it has whole pages, and overlaps none (55)
unfoldable pub region_fits : List Region → Region → Result (Unit {0}) Flaw
region_fits regions region = do
  _ ← unless_found flaw.Name (region_line regions region.name)
  _ ← pages_fit region
  unless_found flaw.Overlap (overlap_line regions region)

-- a draft with one more region
abbrev pub with_region : Region → Draft → Draft
with_region region draft =
    record draft { description = record draft.description { regions = draft.description.regions ++ region ∷ [] } }

-- an element that is a region
unfoldable pub region_at : Node → Draft → Result Draft Flaw
region_at node draft = do
  _ ← region_fits draft.description.regions (region_in node)
  Ok (with_region (region_in node) draft)

-- the number of the region of this name, which must be known
unfoldable pub region_number : List Region → List ℕ → Result ℕ Flaw
region_number regions name = known_number flaw.NoRegion (position (λ (region : Region). bytes_eq region.name name) regions)
