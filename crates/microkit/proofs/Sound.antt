-- Sound descriptions: what a description names is there, since each element is read so.
use Rattle.std.{specs.{List.{AllByRecursion, position}, Prelude.⊤}, proofs.Common.{[], ℕ, ◌++◌, ◌+◌, ◌<◌, ◌∷◌, ◌≡◌, ◌≤◌, Bool}}
use Rattle.std.proofs.Common.{Err, List, None, Ok, Option, Result, Some, ap, arith, cond, false, length, refl, subst, true}
use Rattle.std.proofs.lemmas.{Bool.{leb-false, ltb-true}, Grind.common_steps, Option.cond_some}
use Rattle.{words.specs.{declared.faults.Fault.Fault, Reading.bind}, xml.specs.Document.Node}
use Rattle.microkit.specs.declared.description.{Channel.Channel, End.End, Id.Id, Processor.Processor, User.User}
use Rattle.microkit.specs.declared.{draft.{Begun.Begun, Place.Place, Taken.Taken}, flaws.{ElementFault.ElementFault, Flaw.Flaw, Spot.Spot}}
use Rattle.microkit.specs.{declared.{kinds.Kind.Kind, reading.Phase.Phase}, Channels.{calling, channel_at, channel_of, channel_part_at}}
use Rattle.microkit.specs.{Channels.{domain_number, end_at, end_begun, end_domain, end_in, end_joined, joined_at}, Description.Description}
use Rattle.microkit.specs.{Description.{Domain, Region}, Domains.{domain_at, domain_fits, domain_in, domain_part_at, domain_part_of}}
use Rattle.microkit.specs.Domains.{interrupt_at, machine_at, machine_in, map_at, own_processor_at, port_at, processor_at, processor_fits}
use Rattle.microkit.specs.{Domains.{variable_at, with_domain, with_machine}, Draft.{Draft, known_number, no_draft, place_at}}
use Rattle.microkit.specs.{Flaws.{of_element, of_text}, Reading.{all_taken, description_at, description_of_text, element_at, elements_at}}
use Rattle.microkit.specs.{Reading.{part_at, region_part_at}, Regions.{region_at, region_in, region_number, with_region}, Sound.IsSound}
use Rattle.microkit.specs.declared.kinds.Kind.TheVariants as kind
use Rattle.microkit.specs.declared.reading.Phase.TheVariants as phase

-- both results gave a value, the second by the first's
pub record Then {E X Y : Type 0} (r : Result X E) (next : X → Result Y E) (y : Y) : Type 0 where
  pub x : X
  pub is : r ≡ Ok x
  pub then : next x ≡ Ok y

pub parts : {E X Y : Type 0} (r : Result X E) (next : X → Result Y E) (y : Y) → bind r next ≡ Ok y → Then r next y
unfolding bind
parts (Ok x) next y e = record { x = x; is = refl; then = e }
parts (Err fault) next y e = absurd cc

abbrev pub given : {E X : Type 0} → X → Result X E
given x = Ok x

pub same_ok : {E X : Type 0} (x y : X) → given {E = E} x ≡ Ok y → x ≡ y
same_ok x y e = cc

-- an element without a flaw has the result
pub unflawed : {X : Type 0} (spot : Spot) (r : Result X Flaw) (y : X) → of_element spot r ≡ Ok y → r ≡ Ok y
unfolding of_element
unflawed spot (Ok x) y e = ap (λ z. Ok z) (same_ok {E = ElementFault} x y e)
unflawed spot (Err flaw) y e = absurd cc

-- the first end of the channel that is begun is in a domain
abbrev IsKnownEnd : ℕ → Option End → Type 0
IsKnownEnd count None = ⊤
IsKnownEnd count (Some end) = end.id.domain < count

abbrev IsKnownBegun : ℕ → Option Begun → Type 0
IsKnownBegun count None = ⊤
IsKnownBegun count (Some begun) = IsKnownEnd count begun.first

record IsKept (description : Description) (begun : Option Begun) : Type 0 where
  sound : IsSound description
  known : IsKnownBegun (length description.domains) begun

abbrev Keeps : Draft → Type 0
Keeps draft = IsKept draft.description draft.begun

all_then : {X : Type 0} (P Q : X → Type 0) → ((x : X) → P x → Q x) → (xs : List X) → AllByRecursion P xs → AllByRecursion Q xs
all_then P Q more [] all = tt
all_then P Q more (x ∷ xs) all = (more x all.0, all_then P Q more xs all.1)

all_more : {X : Type 0} (P : X → Type 0) (xs : List X) (y : X) → AllByRecursion P xs → P y → AllByRecursion P (xs ++ y ∷ [])
all_more P [] y all here = (here, tt)
all_more P (x ∷ xs) y all here = (all.0, all_more P xs y all.1 here)

longer : {X : Type 0} (xs : List X) (y : X) → length (xs ++ y ∷ []) ≡ length xs + 1
longer xs y = grind (arith, common_steps)

-- the number of what is found is in range
found_below : {X : Type 0} (test : X → Bool) (xs : List X) (n : ℕ) → position test xs ≡ Some n → n < length xs
found_below test xs n e = let found = cond_some _ _ _ e in omega (arith, ltb-true _ _ found.0, found.1)

pub found_number : (flaw : Flaw) (o : Option ℕ) (n : ℕ) → known_number flaw o ≡ Ok n → o ≡ Some n
found_number flaw None n e = absurd cc
found_number flaw (Some m) n e = ap (λ k. Some k) (same_ok {E = Flaw} m n e)

known_region : (regions : List Region) (name : List ℕ) (n : ℕ) → region_number regions name ≡ Ok n → n < length regions
unfolding region_number
known_region regions name n e = found_below _ regions n (found_number _ _ n e)

known_domain : (domains : List Domain) (name : List ℕ) (n : ℕ) → domain_number domains name ≡ Ok n → n < length domains
unfolding domain_number
known_domain domains name n e = found_below _ domains n (found_number _ _ n e)

placed_keeps : (node : Node) (draft next : Draft) (place : Place) → place_at node draft ≡ Ok (place, next) → Keeps draft → Keeps next
unfolding place_at
placed_keeps node draft next place e kept =
    let one = parts _ _ _ e in
    let same = ap (λ p. p.1) (same_ok _ _ one.then) in
    subst (λ d. Keeps d) same kept

region_keeps : (node : Node) (draft next : Draft) → region_at node draft ≡ Ok next → Keeps draft → Keeps next
unfolding region_at
region_keeps node draft next e kept =
    let one = parts _ _ _ e in
    let same : with_region (region_in node) draft ≡ next = same_ok _ _ one.then in
    subst (λ d. Keeps d) same
    (record {
      sound = record {
        few = kept.sound.few;
        maps = all_then _ _ (λ m below. omega (arith, below, longer draft.description.regions (region_in node))) _ kept.sound.maps;
        channels = kept.sound.channels;
      };
      known = kept.known;
    })

guard : {X : Type 0} (t : Bool) (flaw : Flaw) (r : Result X Flaw) (y : X) → cond t (Err flaw) r ≡ Ok y
    → (t ≡ false) × (r ≡ Ok y)
guard true flaw r y e = absurd cc
guard false flaw r y e = (refl, e)

room_left : (domains : List Domain) (children : List Taken) (domain : Domain) (y : Unit {0}) → domain_fits domains children domain ≡ Ok y
    → length domains < 63
unfolding domain_fits
room_left domains children domain y e =
    let named = parts _ _ _ e in
    let free = parts _ _ _ named.then in
    let timed = parts _ _ _ free.then in
    let few = guard _ _ _ _ timed.then in
    leb-false _ _ few.0

known_more : (n m : ℕ) (begun : Option Begun) → n ≤ m → IsKnownBegun n begun → IsKnownBegun m begun
known_more n m None less known = tt
known_more n m (Some begun) less known = end_more begun.first known
  where
    end_more : (end : Option End) → IsKnownEnd n end → IsKnownEnd m end
    end_more None known = tt
    end_more (Some end) below = omega (arith, below, less)

domain_keeps : (parent : Option Id) (node : Node) (draft next : Draft) → domain_at parent node draft ≡ Ok next → Keeps draft → Keeps next
unfolding domain_at with_domain
domain_keeps parent node draft next e kept =
    let one = parts _ _ _ e in
    let few = room_left _ _ _ one.x one.is in
    let long = longer draft.description.domains (domain_in parent node) in
    let same : with_domain (domain_in parent node) draft ≡ next = same_ok _ _ one.then in
    subst (λ d. Keeps d) same
    (record {
      sound = record {
        few = omega (arith, few, long);
        maps = kept.sound.maps;
        channels = all_then _ _ (λ c both. (omega (arith, both.0, long), omega (arith, both.1, long))) _ kept.sound.channels;
      };
      known = known_more _ _ _ (omega (arith, long)) kept.known;
    })

map_keeps : (user : User) (node : Node) (draft next : Draft) → map_at user node draft ≡ Ok next → Keeps draft → Keeps next
unfolding map_at
map_keeps user node draft next e kept =
    let one = parts _ _ _ e in
    let below = known_region _ _ one.x one.is in
    let same = same_ok _ _ one.then in
    subst (λ d. Keeps d) same
    (record {
      sound = record {
        few = kept.sound.few;
        maps = all_more _ draft.description.maps _ kept.sound.maps below;
        channels = kept.sound.channels;
      };
      known = kept.known;
    })

same_keeps : {E : Type 0} (draft next : Draft) → given {E = E} draft ≡ Ok next → Keeps draft → Keeps next
same_keeps {E = E} draft next e kept = subst (λ d. Keeps d) (same_ok {E = E} _ _ e) kept

variable_keeps : (domain : ℕ) (node : Node) (draft next : Draft) → variable_at domain node draft ≡ Ok next → Keeps draft → Keeps next
unfolding variable_at
variable_keeps domain node draft next e kept =
    same_keeps _ next (parts _ _ _ e).then
    (record {
      sound = record { few = kept.sound.few; maps = kept.sound.maps; channels = kept.sound.channels };
      known = kept.known;
    })

interrupt_keeps : (domain : ℕ) (node : Node) (draft next : Draft) → interrupt_at domain node draft ≡ Ok next → Keeps draft → Keeps next
unfolding interrupt_at
interrupt_keeps domain node draft next e kept =
    same_keeps _ next (parts _ _ _ e).then
    (record {
      sound = record { few = kept.sound.few; maps = kept.sound.maps; channels = kept.sound.channels };
      known = kept.known;
    })

processor_keeps : (p : Processor) (draft next : Draft) → processor_fits p draft ≡ Ok next → Keeps draft → Keeps next
unfolding processor_fits
processor_keeps p draft next e kept =
    same_keeps _ next (parts _ _ _ e).then
    (record {
      sound = record { few = kept.sound.few; maps = kept.sound.maps; channels = kept.sound.channels };
      known = kept.known;
    })

own_keeps : (id : Option ℕ) (machine domain line : ℕ) (draft next : Draft) → own_processor_at id machine domain line draft ≡ Ok next
    → Keeps draft → Keeps next
unfolding own_processor_at
own_keeps None machine domain line draft next e kept = same_keeps draft next e kept
own_keeps (Some number) machine domain line draft next e kept = processor_keeps _ draft next e kept

machine_keeps : (domain : ℕ) (node : Node) (draft next : Draft) → machine_at domain node draft ≡ Ok next → Keeps draft → Keeps next
unfolding machine_at
machine_keeps domain node draft next e kept =
    own_keeps _ _ _ _ (with_machine (machine_in domain node) draft) next (parts _ _ _ e).then
    (record {
      sound = record { few = kept.sound.few; maps = kept.sound.maps; channels = kept.sound.channels };
      known = kept.known;
    })

port_keeps : (domain : ℕ) (node : Node) (draft : Draft) → Keeps draft → Keeps (port_at domain node draft)
unfolding port_at
port_keeps domain node draft kept =
    record {
      sound = record { few = kept.sound.few; maps = kept.sound.maps; channels = kept.sound.channels };
      known = kept.known;
    }

domain_part_keeps : (k : Kind) (place : Place) (node : Node) (draft next : Draft) → domain_part_of k place node draft ≡ Ok next
    → Keeps draft → Keeps next
unfolding domain_part_of processor_at
domain_part_keeps kind.Domain place node draft next e kept = domain_keeps _ node draft next e kept
domain_part_keeps kind.Child place node draft next e kept = domain_keeps _ node draft next e kept
domain_part_keeps kind.Map place node draft next e kept = map_keeps _ node draft next e kept
domain_part_keeps kind.MachineMap place node draft next e kept = map_keeps _ node draft next e kept
domain_part_keeps kind.Interrupt place node draft next e kept = interrupt_keeps _ node draft next e kept
domain_part_keeps kind.Port place node draft next e kept =
    same_keeps _ next e (port_keeps place.domain node draft kept)
domain_part_keeps kind.Variable place node draft next e kept = variable_keeps _ node draft next e kept
domain_part_keeps kind.Machine place node draft next e kept = machine_keeps _ node draft next e kept
domain_part_keeps kind.Processor place node draft next e kept = processor_keeps _ draft next e kept
domain_part_keeps _ place node draft next e kept = same_keeps draft next e kept

channel_keeps : (spot : Spot) (draft next : Draft) → channel_at spot draft ≡ Ok next → Keeps draft → Keeps next
unfolding channel_at
channel_keeps spot draft next e kept =
    same_keeps _ next (parts _ _ _ e).then (record { sound = kept.sound; known = tt })

pub joins : (domains : List Domain) (line : ℕ) (first second : End) (channel : Channel) → joined_at domains line first second ≡ Ok channel
    → channel_of domains line first second ≡ channel
unfolding joined_at
joins domains line first second channel e = same_ok _ _ (parts _ _ _ e).then

joined_keeps : (end : End) (spot : Spot) (first : Option End) (draft next : Draft) → end.id.domain < length draft.description.domains
    → end_joined end spot first draft ≡ Ok next → IsSound draft.description → IsKnownEnd (length draft.description.domains) first
    → Keeps next
unfolding end_joined calling
joined_keeps end spot None draft next below e sound known = same_keeps _ next e (record { sound = sound; known = below })
joined_keeps end spot (Some first) draft next below e sound known =
    let one = parts _ _ _ e in
    let channel = joins _ _ _ _ one.x (unflawed _ _ _ one.is) in
    let inside : (one.x.first.id.domain < length draft.description.domains) × (one.x.second.id.domain < length draft.description.domains) =
    subst
    (λ (c : Channel).
    (c.first.id.domain < length draft.description.domains) × (c.second.id.domain < length draft.description.domains))
    channel (known, below) in
    same_keeps _ next one.then
    (record {
      sound = record {
        few = sound.few;
        maps = sound.maps;
        channels = all_more _ draft.description.channels one.x sound.channels inside;
      };
      known = tt;
    })

begun_keeps : (spot : Spot) (end : End) (begun : Option Begun) (draft next : Draft) → end.id.domain < length draft.description.domains
    → end_begun spot end begun draft ≡ Ok next → IsSound draft.description → IsKnownBegun (length draft.description.domains) begun
    → Keeps next
unfolding end_begun of_element
begun_keeps spot end None draft next below e sound known = absurd cc
begun_keeps spot end (Some begun) draft next below e sound known =
    joined_keeps end begun.spot begun.first draft next below e sound known

pub followed_domain : (ids : List Taken) (domains : List Domain) (node : Node) (n : ℕ) → end_domain ids domains node ≡ Ok n
    → n < length domains
unfolding end_domain
followed_domain ids domains node n e =
    let one = parts _ _ _ e in
    subst (λ m. m < length domains) (same_ok _ _ (parts _ _ _ one.then).then) (known_domain _ _ one.x one.is)

end_keeps : (spot : Spot) (node : Node) (draft next : Draft) → end_at spot node draft ≡ Ok next → Keeps draft → Keeps next
unfolding end_at end_in
end_keeps spot node draft next e kept =
    let one = parts _ _ _ e in
    let below = followed_domain _ _ _ one.x (unflawed _ _ _ one.is) in
    begun_keeps spot (end_in one.x node) draft.begun draft next below one.then kept.sound kept.known

channel_part_keeps : (k : Kind) (spot : Spot) (node : Node) (draft next : Draft) → channel_part_at k spot node draft ≡ Ok next
    → Keeps draft → Keeps next
unfolding channel_part_at
channel_part_keeps kind.Channel spot node draft next e kept = channel_keeps spot draft next e kept
channel_part_keeps kind.End spot node draft next e kept = end_keeps spot node draft next e kept
channel_part_keeps _ spot node draft next e kept = same_keeps draft next e kept

region_part_keeps : (k : Kind) (node : Node) (draft next : Draft) → region_part_at k node draft ≡ Ok next → Keeps draft → Keeps next
unfolding region_part_at
region_part_keeps kind.Region node draft next e kept = region_keeps node draft next e kept
region_part_keeps _ node draft next e kept = same_keeps draft next e kept

part_keeps : (p : Phase) (spot : Spot) (place : Place) (node : Node) (draft next : Draft) → part_at p spot place node draft ≡ Ok next
    → Keeps draft → Keeps next
unfolding part_at domain_part_at
part_keeps phase.Forms spot place node draft next e kept = same_keeps draft next (parts _ _ _ e).then kept
part_keeps phase.Regions spot place node draft next e kept = region_part_keeps place.kind node draft next (unflawed _ _ _ e) kept
part_keeps phase.Domains spot place node draft next e kept =
    domain_part_keeps place.kind place node draft next (unflawed _ _ _ e) kept
part_keeps phase.Channels spot place node draft next e kept = channel_part_keeps place.kind spot node draft next e kept

element_keeps : (p : Phase) (spot : Spot) (node : Node) (draft next : Draft) → element_at p spot node draft ≡ Ok next → Keeps draft
    → Keeps next
unfolding element_at
element_keeps p spot node draft next e kept =
    let one = parts _ _ _ e in
    part_keeps p spot one.x.0 node one.x.1 next one.then
    (placed_keeps node draft one.x.1 one.x.0 (unflawed _ _ _ one.is) kept)

elements_keep : (p : Phase) (number : ℕ) (nodes : List Node) (draft next : Draft) → elements_at p number nodes draft ≡ Ok next
    → Keeps draft → Keeps next
unfolding elements_at
elements_keep p number [] draft next e kept = same_keeps draft next e kept
elements_keep p number (node ∷ nodes) draft next e kept =
    let one = parts _ _ _ e in
    elements_keep p (number + 1) nodes one.x next one.then (element_keeps p _ node draft one.x one.is kept)

nothing_keeps : Keeps no_draft
unfolding no_draft
nothing_keeps = record { sound = record { few = omega arith; maps = tt; channels = tt }; known = tt }

phases_keep : (nodes : List Node) (draft next : Draft) → all_taken nodes draft ≡ Ok next → Keeps draft → Keeps next
unfolding all_taken
phases_keep nodes draft next e kept =
    let forms = parts _ _ _ e in
    let images = parts _ _ _ forms.then in
    let regions = parts _ _ _ images.then in
    let domains = parts _ _ _ regions.then in
    elements_keep _ _ nodes _ next domains.then
    (elements_keep _ _ nodes _ domains.x domains.is
    (elements_keep _ _ nodes _ regions.x regions.is (elements_keep _ _ nodes _ forms.x forms.is kept)))

description_sound : (nodes : List Node) (d : Description) → description_at nodes ≡ Ok d → IsSound d
unfolding description_at
description_sound nodes d e =
    let taken = parts _ _ _ e in
    let whole = parts _ _ _ taken.then in
    subst (λ o. IsSound o) (same_ok _ _ whole.then) (phases_keep nodes _ taken.x taken.is nothing_keeps).sound

pub unfaulted : {X : Type 0} (r : Result X ElementFault) (y : X) → of_text r ≡ Ok y → r ≡ Ok y
unfolding of_text
unfaulted (Ok x) y e = ap (λ z. Ok z) (same_ok {E = Fault} x y e)
unfaulted (Err fault) y e = absurd cc

pub texts_are_sound : (text : List ℕ) (d : Description) → description_of_text text ≡ Ok d → IsSound d
unfolding description_of_text
texts_are_sound text d e = let one = parts _ _ _ e in description_sound one.x d (unfaulted _ d one.then)
