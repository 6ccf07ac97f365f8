-- Reading a description off the elements of its text (Microkit user manual, "System Description File").
--
-- The text must be a document of XML. Then its elements are gone over four times, each time in document order: for places and forms
-- (50), ids and priorities (54) and the program images of domains (50); for regions; for domains and what stands in them; for channels.
-- The first fault ends the reading. For one element, the faults are looked for in the order 50, 51, 52, 55, 54. A channel that lacks an
-- end is found at the next channel, or at the end; its fault has the channel's line, as has the fault of two ends that don't go together.
use Rattle.std.specs.Prelude.{[], ℕ, ◌+◌, ◌∷◌, List, Ok, Result}
use Rattle.{words.specs.{declared.faults.Fault.Fault, Reading.◌>>=◌}, xml.specs.Document.{Node, document_of}}
use Rattle.microkit.specs.declared.{draft.Place.Place, flaws.{ElementFault.ElementFault, Flaw.Flaw, Spot.Spot}}
use Rattle.microkit.specs.{declared.{kinds.Kind.Kind, reading.Phase.Phase}, Channels.{channel_part_at, whole_at}}
use Rattle.microkit.specs.{Description.Description, Domains.domain_part_at, Draft.{Draft, no_draft, place_at}}
use Rattle.microkit.specs.{Flaws.{of_element, of_text, spot_of}, Forms.form_at, Images.images_at, Regions.region_at}
use Rattle.microkit.specs.declared.kinds.Kind.TheVariants as kind
use Rattle.microkit.specs.declared.reading.Phase.TheVariants as phase

-- a region; another element is passed over
unfoldable pub region_part_at : Kind → Node → Draft → Result Draft Flaw
region_part_at kind.Region node draft = region_at node draft
region_part_at _ node draft = Ok draft

-- what is taken from the element here, which stands in this place
unfoldable pub part_at : Phase → Spot → Place → Node → Draft → Result Draft ElementFault
part_at phase.Forms spot place node draft = of_element spot (form_at place.kind node) >>= λ _. Ok draft
part_at phase.Regions spot place node draft = of_element spot (region_part_at place.kind node draft)
part_at phase.Domains spot place node draft = of_element spot (domain_part_at place node draft)
part_at phase.Channels spot place node draft = channel_part_at place.kind spot node draft

unfoldable pub element_at : Phase → Spot → Node → Draft → Result Draft ElementFault
element_at phase spot node draft = do
  placed ← of_element spot (place_at node draft)
  part_at phase spot placed.0 node placed.1

-- what is taken from all elements, one after another; the first has this number
unfoldable pub elements_at : Phase → ℕ → List Node → Draft → Result Draft ElementFault
elements_at phase number [] draft = Ok draft
elements_at phase number (node ∷ nodes) draft =
    element_at phase (spot_of number node) node draft >>= λ next. elements_at phase (number + 1) nodes next

-- what is taken from all elements, gone over four times
unfoldable pub all_taken : List Node → Draft → Result Draft ElementFault
all_taken nodes draft = do
  forms ← elements_at phase.Forms 0 nodes draft
  _ ← images_at 0 nodes
  regions ← elements_at phase.Regions 0 nodes forms
  domains ← elements_at phase.Domains 0 nodes regions
  elements_at phase.Channels 0 nodes domains

-- the description of these elements, or their first fault
unfoldable pub description_at : List Node → Result Description ElementFault
description_at nodes = do
  draft ← all_taken nodes no_draft
  _ ← whole_at draft.begun
  Ok draft.description

-- the description that a text is, or its first fault
unfoldable pub description_of_text : List ℕ → Result Description Fault
description_of_text text = do
  nodes ← document_of text
  of_text (description_at nodes)
