-- Descriptions say what their elements say, pass after pass.
use Rattle.std.specs.{List.{filter, flat_map}, Prelude.{⊤, codes, map}, Str.bytes_eq}
use Rattle.std.proofs.Common.{[], ℕ, ◌++◌, ◌+◌, ◌-◌, ◌∙◌, ◌∷◌, ◌≡◌, ◌≤◌, Bool, List, None, Ok, Option, Some, ap, arith, cond, false, length, refl, subst, sym, take, true}
use Rattle.std.proofs.lemmas.List.{append_assoc, append-nil}
use Rattle.words.specs.{declared.faults.Fault.Fault}
use Rattle.xml.specs.{Document.{Node, document_of}, Grammar.{IsContent, IsContent.{branch, comment, leaf, nothing as no_more}, IsDocument, IsElement, IsElement.{empty, whole}}, Place.{Place as Text}}
use Rattle.microkit.specs.declared.{description.{Channel.Channel, End.End}, draft.{Begun.Begun, Place.Place}, kinds.Kind.Kind}
use Rattle.microkit.specs.declared.flaws.{ElementFault.ElementFault, Flaw.Flaw, Spot.Spot}
use Rattle.microkit.specs.{Channels.{channel_at, channel_part_at, end_at, end_begun, end_joined}, Description.{Description}}
use Rattle.microkit.specs.{Domains.{domain_part_at, domain_part_of}, Draft.{Draft, entered, outer_path, innermost, known_kind, no_draft, place_at}, Flaws.{of_element, spot_of}}
use Rattle.microkit.specs.{Outline.{IsOutlinedBy, Said, all_say, end_says, ends_of, is_named, joined, nearest, nothing, said_by, says_named}, Regions.{region_at, region_in}}
use Rattle.microkit.specs.Reading.{all_taken, description_at, description_of_text, element_at, elements_at, part_at, region_part_at}
use Rattle.microkit.specs.declared.kinds.Kind.TheVariants as kind
use Rattle.microkit.specs.declared.reading.Phase.TheVariants as phase
use Rattle.microkit.proofs.Around.{AreCounted, IsAround, IsPath, IsReady, Surrounds, path_more, ready_less}
use Rattle.microkit.proofs.{Saying.{IsStep, add_nothing, channels_in, said_step}, EndsSaid.{IsEnded, begun_ends, begun_lines, ended_step, ends_so_far, line_says, lines_of, lines_so_far, none_begun}, Sound.{given, parts, same_ok, unfaulted, unflawed}, Within.{IsWithin, within}}

-- elements may follow these, one after another
AreReady : List Node → List Node → Type 0
AreReady before [] = ⊤
AreReady before (node ∷ nodes) = IsReady before node.level × AreReady (node ∷ before) nodes

-- elements of a content are ready, and so is what follows it
content_ready : (level : ℕ) (place end : Text) (nodes rest before : List Node) → IsContent level place nodes end → 1 ≤ level
    → IsReady before level → ((after : List Node) → IsReady after level → AreReady after rest) → AreReady before (nodes ++ rest)
unfolding AreReady
content_ready level place end nodes rest before (no_more is same) from ready later =
    subst (λ ns. AreReady before (ns ++ rest)) (sym is) (later before ready)
content_ready level place end nodes rest before (comment front behind gap text inner) from ready later =
    content_ready level behind end nodes rest before inner from ready later
content_ready level place end nodes rest before (leaf front behind node more gap tag content is) from ready later =
    subst (λ ns. AreReady before (ns ++ rest)) (sym is) (
      subst (λ l. IsReady before l) (sym tag.level_is) ready,
      content_ready level behind end more rest (node ∷ before) content from (from, omega (arith, tag.level_is)) later,
    )
content_ready level place end nodes rest before (branch front within_it close last behind node inner more gap tag content gap_after ends after is) from ready later =
    subst (λ ns. AreReady before (ns ++ rest)) (sym is) (
      subst (λ l. IsReady before l) (sym tag.level_is) ready,
      subst (λ ns. AreReady (node ∷ before) ns) (sym (append_assoc inner more rest))
          (content_ready (level + 1) within_it close inner (more ++ rest) (node ∷ before) content (omega arith)
          (omega arith, omega (arith, tag.level_is))
          (λ others may. content_ready level behind end more rest others after from (ready_less others (level + 1) level may from (omega arith)) later)),
    )

document_ready : (text : List ℕ) (nodes : List Node) → IsDocument text nodes → AreReady [] nodes
unfolding AreReady
document_ready text nodes is = element_ready is.root is.behind is.element
  where
    element_ready : (place end : Text) → IsElement 1 place nodes end → AreReady [] nodes
    element_ready place end (empty node tag only) = subst (λ ns. AreReady [] ns) (sym only) (tag.level_is, tt)
    element_ready place end (whole within_it close last node inner tag content gap ends all) =
        subst (λ ns. AreReady [] ns) (sym all) (
          tag.level_is,
          subst (λ ns. AreReady (node ∷ []) ns) (append-nil inner)
              (content_ready 2 within_it close inner [] (node ∷ []) content (omega arith) (omega arith, omega (arith, tag.level_is)) (λ after may. tt)),
        )

joined_joined : (a b c : Said) → joined (joined a b) c ≡ joined a (joined b c)
joined_joined a b c =
    rw (
      append_assoc a.domains b.domains c.domains,
      append_assoc a.machines b.machines c.machines,
      append_assoc a.processors b.processors c.processors,
      append_assoc a.maps b.maps c.maps,
      append_assoc a.interrupts b.interrupts c.interrupts,
      append_assoc a.ports b.ports c.ports,
      append_assoc a.variables b.variables c.variables,
    ) refl

-- the place of an element, and the path to it
record IsPlaced (node : Node) (draft : Draft) (placed : Place × Draft) : Type 0 where
  k : Kind
  within_it : IsWithin (innermost (outer_path node.level draft)).kind k node.name
  is : (record (innermost (outer_path node.level draft)) { kind = k }, entered node.level (record (innermost (outer_path node.level draft)) { kind = k }) draft)
      ≡ placed

known : (outer : Kind) (found : Option Kind) (k : Kind) → known_kind outer found ≡ Ok k → found ≡ Some k
unfolding known_kind
known outer None k e = absurd cc
known outer (Some one) k e = ap (λ x. Some x) (same_ok {E = Flaw} one k e)

placed_so : (node : Node) (draft : Draft) (placed : Place × Draft) → place_at node draft ≡ Ok placed → IsPlaced node draft placed
unfolding place_at
placed_so node draft placed e =
    let one = parts _ _ _ e in
    record { k = one.x; within_it = within _ _ _ (known _ _ _ one.is); is = same_ok {E = Flaw} _ _ one.then }

-- one element of the pass over domains
record IsTaken (before : List Node) (node : Node) (draft next : Draft) : Type 0 where
  said : said_by next.description ≡ joined (said_by draft.description) (says_named node.name draft.description.regions before node)
  regions : next.description.regions ≡ draft.description.regions
  counted : AreCounted (node ∷ before) next.description.domains next.description.machines
  path : IsPath (node ∷ before) next.path
  left : channels_in next ≡ channels_in draft

domain_element : (spot : Spot) (before : List Node) (node : Node) (draft next : Draft) → IsReady before node.level
    → IsPath before draft.path → AreCounted before draft.description.domains draft.description.machines
    → element_at phase.Domains spot node draft ≡ Ok next → IsTaken before node draft next
unfolding element_at part_at domain_part_at
domain_element spot before node draft next ready path counted e =
    let one = parts _ _ _ e in
    let placed = placed_so node draft one.x (unflawed _ _ _ one.is) in
    let outer : Place = innermost (outer_path node.level draft) in
    let here : Place × Draft = (record outer { kind = placed.k }, entered node.level (record outer { kind = placed.k }) draft) in
    let taken = subst (λ (p : Place × Draft). of_element spot (domain_part_of p.0.kind p.0 node p.1) ≡ Ok next) (sym placed.is) one.then in
    let step : IsStep before node here.1 next =
    said_step before node here.1 placed.k outer next counted placed.within_it (path.around node.level ready) (unflawed _ _ _ taken) in
    record {
      said = step.said;
      regions = step.regions;
      counted = step.counted;
      path = subst (λ p. IsPath (node ∷ before) p) (sym step.path)
          (path_more placed.k before node draft.description draft.path ready path counted placed.within_it);
      left = step.left;
    }

-- all elements of the pass over domains
record IsSaid (before nodes : List Node) (draft final : Draft) : Type 0 where
  said : said_by final.description ≡ joined (said_by draft.description) (all_say draft.description.regions before nodes)
  regions : final.description.regions ≡ draft.description.regions
  left : channels_in final ≡ channels_in draft

domains_pass : (number : ℕ) (before nodes : List Node) (draft final : Draft) → AreReady before nodes → IsPath before draft.path
    → AreCounted before draft.description.domains draft.description.machines
    → elements_at phase.Domains number nodes draft ≡ Ok final → IsSaid before nodes draft final
unfolding elements_at all_say AreReady
domains_pass number before [] draft final ready path counted e =
    subst (λ f. IsSaid before [] draft f) (same_ok {E = ElementFault} _ _ e)
    (record { said = sym (add_nothing (said_by draft.description)); regions = refl; left = refl })
domains_pass number before (node ∷ nodes) draft final ready path counted e =
    let one = parts _ _ _ e in
    let taken = domain_element _ before node draft one.x ready.0 path counted one.is in
    let rest = domains_pass (number + 1) (node ∷ before) nodes one.x final ready.1 taken.path taken.counted one.then in
    record {
      said = rest.said
          ∙ ap (λ regions. joined (said_by one.x.description) (all_say regions (node ∷ before) nodes)) taken.regions
          ∙ ap (λ s. joined s (all_say draft.description.regions (node ∷ before) nodes)) taken.said
          ∙ joined_joined (said_by draft.description) (says_named node.name draft.description.regions before node)
          (all_say draft.description.regions (node ∷ before) nodes);
      regions = rest.regions ∙ taken.regions;
      left = rest.left ∙ taken.left;
    }

-- the pass over forms leaves all but the path
record IsLeft (draft next : Draft) : Type 0 where
  description : next.description ≡ draft.description
  begun : next.begun ≡ draft.begun

forms_pass : (number : ℕ) (nodes : List Node) (draft final : Draft) → elements_at phase.Forms number nodes draft ≡ Ok final → IsLeft draft final
unfolding elements_at element_at part_at
forms_pass number [] draft final e =
    subst (λ f. IsLeft draft f) (same_ok {E = ElementFault} _ _ e) (record { description = refl; begun = refl })
forms_pass number (node ∷ nodes) draft final e =
    let one = parts _ _ _ e in
    let part = parts _ _ _ one.is in
    let placed = placed_so node draft part.x (unflawed _ _ _ part.is) in
    let same : part.x.1 ≡ one.x = same_ok {E = ElementFault} _ _ (parts _ _ _ part.then).then in
    let entering : IsLeft draft one.x =
    subst (λ d. IsLeft draft d) same (subst (λ (d : Place × Draft). IsLeft draft d.1) placed.is (record { description = refl; begun = refl })) in
    let rest = forms_pass (number + 1) nodes one.x final one.then in
    record { description = rest.description ∙ entering.description; begun = rest.begun ∙ entering.begun }

-- the pass over channels leaves all but channels
record IsKeptBy (a b : Description) : Type 0 where
  said : said_by b ≡ said_by a
  regions : b.regions ≡ a.regions

same_kept : {E : Type 0} (draft next : Draft) → given {E = E} draft ≡ Ok next → IsKeptBy draft.description next.description
same_kept {E = E} draft next e =
    subst (λ (d : Draft). IsKeptBy draft.description d.description) (same_ok {E = E} _ _ e) (record { said = refl; regions = refl })

joined_kept : (end : End) (spot : Spot) (first : Option End) (draft next : Draft) → end_joined end spot first draft ≡ Ok next
    → IsKeptBy draft.description next.description
unfolding end_joined
joined_kept end spot None draft next e =
    subst (λ (d : Draft). IsKeptBy draft.description d.description) (same_ok {E = ElementFault} _ _ e) (record { said = refl; regions = refl })
joined_kept end spot (Some first) draft next e =
    subst (λ (d : Draft). IsKeptBy draft.description d.description) (same_ok {E = ElementFault} _ _ (parts _ _ _ e).then)
    (record { said = refl; regions = refl })

begun_kept : (spot : Spot) (end : End) (begun : Option Begun) (draft next : Draft) → end_begun spot end begun draft ≡ Ok next
    → IsKeptBy draft.description next.description
unfolding end_begun of_element
begun_kept spot end None draft next e = absurd cc
begun_kept spot end (Some begun) draft next e = joined_kept end begun.spot begun.first draft next e

channel_kept : (k : Kind) (spot : Spot) (node : Node) (draft next : Draft) → channel_part_at k spot node draft ≡ Ok next
    → IsKeptBy draft.description next.description
unfolding channel_part_at channel_at end_at
channel_kept kind.Channel spot node draft next e =
    subst (λ (d : Draft). IsKeptBy draft.description d.description) (same_ok {E = ElementFault} _ _ (parts _ _ _ e).then)
    (record { said = refl; regions = refl })
channel_kept kind.End spot node draft next e = begun_kept spot _ draft.begun draft next (parts _ _ _ e).then
channel_kept _ spot node draft next e = same_kept draft next e

record AreJoined (nodes : List Node) (draft final : Draft) : Type 0 where
  kept : IsKeptBy draft.description final.description
  ends : ends_so_far final ≡ ends_so_far draft ++ flat_map (end_says draft.description.domains) nodes
  lines : lines_so_far final ≡ lines_so_far draft ++ map (λ (node : Node). node.line) (filter (is_named (codes "channel")) nodes)

line_filtered : (node : Node) (nodes : List Node) → line_says node ++ map (λ (n : Node). n.line) (filter (is_named (codes "channel")) nodes)
    ≡ map (λ (n : Node). n.line) (filter (is_named (codes "channel")) (node ∷ nodes))
line_filtered node nodes = by_test (bytes_eq node.name (codes "channel"))
  where
    by_test : (t : Bool) → cond t (node.line ∷ []) [] ++ map (λ (n : Node). n.line) (filter (is_named (codes "channel")) nodes)
        ≡ map (λ (n : Node). n.line) (cond t (node ∷ filter (is_named (codes "channel")) nodes) (filter (is_named (codes "channel")) nodes))
    by_test true = refl
    by_test false = refl

channels_pass : (number : ℕ) (nodes : List Node) (draft final : Draft) → elements_at phase.Channels number nodes draft ≡ Ok final
    → AreJoined nodes draft final
unfolding elements_at element_at part_at
channels_pass number [] draft final e =
    subst (λ f. AreJoined [] draft f) (same_ok {E = ElementFault} _ _ e)
    (record {
      kept = record { said = refl; regions = refl };
      ends = sym (append-nil (ends_so_far draft));
      lines = sym (append-nil (lines_so_far draft));
    })
channels_pass number (node ∷ nodes) draft final e =
    let one = parts _ _ _ e in
    let part = parts _ _ _ one.is in
    let placed = placed_so node draft part.x (unflawed _ _ _ part.is) in
    let outer : Place = innermost (outer_path node.level draft) in
    let entering : Draft = entered node.level (record outer { kind = placed.k }) draft in
    let taken = subst (λ (p : Place × Draft). channel_part_at p.0.kind (spot_of number node) node p.1 ≡ Ok one.x) (sym placed.is) part.then in
    let kept = channel_kept placed.k (spot_of number node) node entering one.x taken in
    let more : IsEnded node entering one.x =
    ended_step node entering outer.kind placed.k (spot_of number node) one.x refl placed.within_it taken in
    let rest = channels_pass (number + 1) nodes one.x final one.then in
    let domains : one.x.description.domains ≡ draft.description.domains = ap (λ (s : Said). s.domains) kept.said in
    record {
      kept = record { said = rest.kept.said ∙ kept.said; regions = rest.kept.regions ∙ kept.regions };
      ends = rest.ends ∙ ap (λ ds. ends_so_far one.x ++ flat_map (end_says ds) nodes) domains
          ∙ ap (λ es. es ++ flat_map (end_says draft.description.domains) nodes) more.ends
          ∙ append_assoc (ends_so_far draft) (end_says draft.description.domains node) (flat_map (end_says draft.description.domains) nodes);
      lines = rest.lines
          ∙ ap (λ ls. ls ++ map (λ (n : Node). n.line) (filter (is_named (codes "channel")) nodes)) more.lines
          ∙ append_assoc (lines_so_far draft) (line_says node) (map (λ (n : Node). n.line) (filter (is_named (codes "channel")) nodes))
          ∙ ap (λ ls. lines_so_far draft ++ ls) (line_filtered node nodes);
    }

-- the pass over regions
record IsListed (nodes : List Node) (draft final : Draft) : Type 0 where
  left : channels_in final ≡ channels_in draft
  said : said_by final.description ≡ said_by draft.description
  regions : final.description.regions ≡ draft.description.regions ++ map region_in (filter (is_named (codes "memory_region")) nodes)

record IsOneMore (node : Node) (draft next : Draft) : Type 0 where
  left : channels_in next ≡ channels_in draft
  said : said_by next.description ≡ said_by draft.description
  regions : next.description.regions
      ≡ draft.description.regions ++ cond (bytes_eq node.name (codes "memory_region")) (region_in node ∷ []) []

other_part : (name : List ℕ) (node : Node) (draft next : Draft) → node.name ≡ name → bytes_eq name (codes "memory_region") ≡ false
    → given {E = Flaw} draft ≡ Ok next → IsOneMore node draft next
other_part name node draft next is other e =
    subst (λ d. IsOneMore node draft d) (same_ok {E = Flaw} _ _ e)
    (record {
      left = refl;
      said = refl;
      regions = sym
          (ap (λ n. draft.description.regions ++ cond (bytes_eq n (codes "memory_region")) (region_in node ∷ []) []) is
          ∙ ap (λ t. draft.description.regions ++ cond t (region_in node ∷ []) []) other
          ∙ append-nil draft.description.regions);
    })

region_part : (outer k : Kind) (node : Node) (draft next : Draft) → IsWithin outer k node.name → region_part_at k node draft ≡ Ok next
    → IsOneMore node draft next
unfolding region_part_at region_at IsWithin
region_part outer kind.Region node draft next is e =
    let one = parts _ _ _ e in
    subst (λ d. IsOneMore node draft d) (same_ok {E = Flaw} _ _ one.then)
    (record {
      left = refl;
      said = refl;
      regions = sym (ap (λ n. draft.description.regions ++ cond (bytes_eq n (codes "memory_region")) (region_in node ∷ []) []) is.1);
    })
region_part outer kind.Document node draft next is e = absurd is
region_part outer kind.System node draft next is e = other_part _ node draft next is.1 refl e
region_part outer kind.Domain node draft next is e = other_part _ node draft next is.1 refl e
region_part outer kind.Child node draft next is e = other_part _ node draft next is.1 refl e
region_part outer kind.Channel node draft next is e = other_part _ node draft next is.1 refl e
region_part outer kind.End node draft next is e = other_part _ node draft next is.1 refl e
region_part outer kind.Image node draft next is e = other_part _ node draft next is.1 refl e
region_part outer kind.Map node draft next is e = other_part _ node draft next is.1 refl e
region_part outer kind.MachineMap node draft next is e = other_part _ node draft next is.1 refl e
region_part outer kind.Interrupt node draft next is e = other_part _ node draft next is.1 refl e
region_part outer kind.Port node draft next is e = other_part _ node draft next is.1 refl e
region_part outer kind.Variable node draft next is e = other_part _ node draft next is.1 refl e
region_part outer kind.Machine node draft next is e = other_part _ node draft next is.1 refl e
region_part outer kind.Processor node draft next is e = other_part _ node draft next is.1 refl e

-- a list of regions with one more element
filtered : (node : Node) (nodes : List Node) → cond (bytes_eq node.name (codes "memory_region")) (region_in node ∷ []) []
    ++ map region_in (filter (is_named (codes "memory_region")) nodes)
    ≡ map region_in (filter (is_named (codes "memory_region")) (node ∷ nodes))
filtered node nodes = by_test (bytes_eq node.name (codes "memory_region"))
  where
    by_test : (t : Bool) → cond t (region_in node ∷ []) [] ++ map region_in (filter (is_named (codes "memory_region")) nodes)
        ≡ map region_in (cond t (node ∷ filter (is_named (codes "memory_region")) nodes) (filter (is_named (codes "memory_region")) nodes))
    by_test true = refl
    by_test false = refl

regions_pass : (number : ℕ) (nodes : List Node) (draft final : Draft) → elements_at phase.Regions number nodes draft ≡ Ok final
    → IsListed nodes draft final
unfolding elements_at element_at part_at
regions_pass number [] draft final e =
    subst (λ f. IsListed [] draft f) (same_ok {E = ElementFault} _ _ e)
    (record { left = refl; said = refl; regions = sym (append-nil draft.description.regions) })
regions_pass number (node ∷ nodes) draft final e =
    let one = parts _ _ _ e in
    let part = parts _ _ _ one.is in
    let placed = placed_so node draft part.x (unflawed _ _ _ part.is) in
    let outer : Place = innermost (outer_path node.level draft) in
    let entering : Draft = entered node.level (record outer { kind = placed.k }) draft in
    let taken = subst (λ (p : Place × Draft). of_element (spot_of number node) (region_part_at p.0.kind node p.1) ≡ Ok one.x) (sym placed.is) part.then in
    let more : IsOneMore node entering one.x =
    region_part outer.kind placed.k node entering one.x placed.within_it (unflawed _ _ _ taken) in
    let rest = regions_pass (number + 1) nodes one.x final one.then in
    record {
      left = rest.left ∙ more.left;
      said = rest.said ∙ more.said;
      regions = rest.regions
          ∙ ap (λ rs. rs ++ map region_in (filter (is_named (codes "memory_region")) nodes)) more.regions
          ∙ append_assoc draft.description.regions _ _
          ∙ ap (λ rs. draft.description.regions ++ rs) (filtered node nodes);
    }

-- all passes
rooted : (path : List Place) → IsPath [] path
unfolding IsAround nearest
rooted path = record { long = tt; around = λ level one. subst (λ l. Surrounds l [] (innermost (take (l - 1) path))) (sym one) (refl, refl) }

outlined : (nodes : List Node) (d : Description) → AreReady [] nodes → description_at nodes ≡ Ok d → IsOutlinedBy nodes d
unfolding description_at all_taken no_draft
outlined nodes d ready e =
    let taken = parts _ _ _ e in
    let whole = parts _ _ _ taken.then in
    let forms_taken = parts _ _ _ taken.is in
    let images = parts _ _ _ forms_taken.then in
    let regions_taken = parts _ _ _ images.then in
    let domains_taken = parts _ _ _ regions_taken.then in
    let formed = forms_pass 0 nodes no_draft forms_taken.x forms_taken.is in
    let listed = regions_pass 0 nodes forms_taken.x regions_taken.x regions_taken.is in
    let empty : said_by regions_taken.x.description ≡ nothing = listed.said ∙ ap (λ (o : Description). said_by o) formed.description in
    let inside =
    domains_pass 0 [] nodes regions_taken.x domains_taken.x ready (rooted regions_taken.x.path)
    (record { domain_count = ap (λ (s : Said). length s.domains) empty; machine_count = ap (λ (s : Said). length s.machines) empty })
    domains_taken.is in
    let channels = channels_pass 0 nodes domains_taken.x taken.x domains_taken.then in
    let regions : taken.x.description.regions ≡ regions_taken.x.description.regions = channels.kept.regions ∙ inside.regions in
    let left = inside.left ∙ listed.left in
    let start : channels_in domains_taken.x ≡ ([], None) =
    left ∙ ap (λ (o : Description). (o.channels, forms_taken.x.begun)) formed.description ∙ ap (λ b. ([], b)) formed.begun in
    let none_left = none_begun taken.x.begun whole.x whole.is in
    let domains : domains_taken.x.description.domains ≡ taken.x.description.domains = sym (ap (λ (s : Said). s.domains) channels.kept.said) in
    subst (λ o. IsOutlinedBy nodes o) (same_ok {E = ElementFault} _ _ whole.then)
    (record {
      regions = regions ∙ listed.regions
          ∙ ap (λ (o : Description). o.regions ++ map region_in (filter (is_named (codes "memory_region")) nodes)) formed.description;
      inside = channels.kept.said ∙ inside.said ∙ ap (λ s. joined s (all_say regions_taken.x.description.regions [] nodes)) empty
          ∙ ap (λ rs. all_say rs [] nodes) (sym regions);
      channels = sym (append-nil (lines_of taken.x.description.channels))
          ∙ ap (λ b. lines_of taken.x.description.channels ++ begun_lines b) (sym none_left) ∙ channels.lines
          ∙ ap
          (λ (c : List Channel × Option Begun).
          (lines_of c.0 ++ begun_lines c.1) ++ map (λ (n : Node). n.line) (filter (is_named (codes "channel")) nodes)) start;
      ends = sym (append-nil (ends_of taken.x.description.channels))
          ∙ ap (λ b. ends_of taken.x.description.channels ++ begun_ends b) (sym none_left) ∙ channels.ends
          ∙ ap
          (λ (c : List Channel × Option Begun).
          (ends_of c.0 ++ begun_ends c.1) ++ flat_map (end_says domains_taken.x.description.domains) nodes) start
          ∙ ap (λ ds. flat_map (end_says ds) nodes) domains;
    })

-- each text is outlined
pub texts_are_outlined : (text : List ℕ) (nodes : List Node) (d : Description) → IsDocument text nodes → document_of text ≡ Ok nodes
    → description_of_text text ≡ Ok d → IsOutlinedBy nodes d
unfolding description_of_text
texts_are_outlined text nodes d is read e =
    let one = parts _ _ _ e in
    let same : one.x ≡ nodes = same_ok {E = Fault} _ _ (sym one.is ∙ read) in
    outlined nodes d (document_ready text nodes is) (subst (λ ns. description_at ns ≡ Ok d) same (unfaulted _ d one.then))
