-- Elements and drafts: what is taken from an element is what the element says.
use Rattle.std.specs.{List.filter, Option.{option_map, option_to_list}, Prelude.codes, Str.bytes_eq}
use Rattle.std.proofs.Common.{[], ℕ, ◌++◌, ◌∙◌, ◌∷◌, ◌≡◌, List, None, Ok, Option, Some, ap, arith, cond, false}
use Rattle.{std.proofs.{Common.{length, refl, subst, suc, sym}, lemmas.List.append-nil}, xml.specs.Document.Node}
use Rattle.microkit.specs.declared.description.{Channel.Channel, Id.Id, Interrupt.Interrupt, Map.Map, Port.Port, Processor.Processor}
use Rattle.microkit.specs.declared.{description.{User.User, Variable.Variable}, draft.{Begun.Begun, Place.Place}, flaws.Flaw.Flaw}
use Rattle.microkit.specs.{declared.kinds.Kind.Kind, Attributes.number_in, Description.{Domain, Machine, Region}}
use Rattle.microkit.specs.Domains.{domain_at, domain_in, domain_part_of, id_in, interrupt_at, interrupt_in, machine_at, machine_in}
use Rattle.microkit.specs.Domains.{map_at, own_processor_at, port_at, processor_at, processor_fits, variable_at, with_domain, with_machine}
use Rattle.microkit.specs.{Draft.Draft, Outline.{Said, count_before, domain_of, is_named, joined, machine_of, made_of, map_in}}
use Rattle.microkit.specs.Outline.{nothing, own_processor, port_in, processor_in, region_of, said_by, says_named, user_of, variable_in}
use Rattle.microkit.{specs.Regions.region_number, proofs.Around.{AreCounted, IsAround, Surrounds, around_of, in_domain, longer}}
use Rattle.microkit.proofs.{Sound.{found_number, given, parts, same_ok}, Within.IsWithin}
use Rattle.microkit.specs.declared.kinds.Kind.TheVariants as kind

-- what was said, with something more
module _ (s : Said) where
  add : (more : Said) → Said
  add more = joined s more

  pub add_nothing : joined s nothing ≡ s
  add_nothing =
      rw (
        append-nil s.domains,
        append-nil s.machines,
        append-nil s.processors,
        append-nil s.maps,
        append-nil s.interrupts,
        append-nil s.ports,
        append-nil s.variables,
      ) refl

  add_domains : (xs : List Domain) → joined s (record nothing { domains = xs }) ≡ record s { domains = s.domains ++ xs }
  add_domains xs =
      rw (
        append-nil s.machines,
        append-nil s.processors,
        append-nil s.maps,
        append-nil s.interrupts,
        append-nil s.ports,
        append-nil s.variables,
      ) refl

  add_machines : (xs : List Machine) (ps : List Processor) → joined s (record nothing { machines = xs; processors = ps })
      ≡ record s { machines = s.machines ++ xs; processors = s.processors ++ ps }
  add_machines xs ps =
      rw (append-nil s.domains, append-nil s.maps, append-nil s.interrupts, append-nil s.ports, append-nil s.variables) refl

  add_processors : (xs : List Processor) → joined s (record nothing { processors = xs }) ≡ record s { processors = s.processors ++ xs }
  add_processors xs =
      rw (
        append-nil s.domains,
        append-nil s.machines,
        append-nil s.maps,
        append-nil s.interrupts,
        append-nil s.ports,
        append-nil s.variables,
      ) refl

  add_maps : (xs : List Map) → joined s (record nothing { maps = xs }) ≡ record s { maps = s.maps ++ xs }
  add_maps xs =
      rw (
        append-nil s.domains,
        append-nil s.machines,
        append-nil s.processors,
        append-nil s.interrupts,
        append-nil s.ports,
        append-nil s.variables,
      ) refl

  add_interrupts : (xs : List Interrupt) → joined s (record nothing { interrupts = xs }) ≡ record s { interrupts = s.interrupts ++ xs }
  add_interrupts xs =
      rw (
        append-nil s.domains,
        append-nil s.machines,
        append-nil s.processors,
        append-nil s.maps,
        append-nil s.ports,
        append-nil s.variables,
      ) refl

  add_ports : (xs : List Port) → joined s (record nothing { ports = xs }) ≡ record s { ports = s.ports ++ xs }
  add_ports xs =
      rw (
        append-nil s.domains,
        append-nil s.machines,
        append-nil s.processors,
        append-nil s.maps,
        append-nil s.interrupts,
        append-nil s.variables,
      ) refl

  add_variables : (xs : List Variable) → joined s (record nothing { variables = xs }) ≡ record s { variables = s.variables ++ xs }
  add_variables xs =
      rw (
        append-nil s.domains,
        append-nil s.machines,
        append-nil s.processors,
        append-nil s.maps,
        append-nil s.interrupts,
        append-nil s.ports,
      ) refl

-- the channels so far, with the one that is begun
abbrev pub channels_in : Draft → List Channel × Option Begun
channels_in draft = (draft.description.channels, draft.begun)

-- an element is taken, after these
pub record IsStep (before : List Node) (node : Node) (draft next : Draft) : Type 0 where
  pub said : said_by next.description ≡ joined (said_by draft.description) (says_named node.name draft.description.regions before node)
  pub regions : next.description.regions ≡ draft.description.regions
  pub path : next.path ≡ draft.path
  pub left : channels_in next ≡ channels_in draft
  pub counted : AreCounted (node ∷ before) next.description.domains next.description.machines

module _ (before : List Node) (node : Node) (draft : Draft) where
  abbrev regions : List Region
  regions = draft.description.regions

  abbrev domains : List Domain
  domains = draft.description.domains

  abbrev machines : List Machine
  machines = draft.description.machines

  abbrev so_far : Said
  so_far = said_by draft.description

  -- an element of this name says what its name says
  says : (name : List ℕ) → node.name ≡ name → says_named node.name regions before node ≡ says_named name regions before node
  says name is = ap (λ n. says_named n regions before node) is

  -- this many elements of a name stand before what follows
  counts : (known name : List ℕ) → node.name ≡ name
      → count_before known (node ∷ before)
      ≡ length (cond (bytes_eq name known) (node ∷ filter (is_named known) before) (filter (is_named known) before))
  counts known name is = ap (λ n. length (cond (bytes_eq n known) (node ∷ filter (is_named known) before) (filter (is_named known) before))) is

  module _ (counted : AreCounted before domains machines) where
    uncounted : (name : List ℕ) → node.name ≡ name → bytes_eq name (codes "protection_domain") ≡ false
        → bytes_eq name (codes "virtual_machine") ≡ false → AreCounted (node ∷ before) domains machines
    uncounted name is other none =
        record {
          domain_count = counted.domain_count
              ∙ sym
              (counts (codes "protection_domain") name is
              ∙ ap (λ t. length (cond t (node ∷ filter (is_named (codes "protection_domain")) before) (filter (is_named (codes "protection_domain")) before))) other);
          machine_count = counted.machine_count
              ∙ sym
              (counts (codes "virtual_machine") name is
              ∙ ap (λ t. length (cond t (node ∷ filter (is_named (codes "virtual_machine")) before) (filter (is_named (codes "virtual_machine")) before))) none);
        }

    domain_counted : (domain : Domain) → node.name ≡ codes "protection_domain" → AreCounted (node ∷ before) (domains ++ domain ∷ []) machines
    domain_counted domain is =
        let one : count_before (codes "protection_domain") (node ∷ before) ≡ suc (count_before (codes "protection_domain") before) =
        counts (codes "protection_domain") _ is in
        record {
          domain_count = omega (arith, longer domains domain, counted.domain_count, one);
          machine_count = counted.machine_count ∙ sym (counts (codes "virtual_machine") _ is);
        }

    machine_counted : (machine : Machine) → node.name ≡ codes "virtual_machine" → AreCounted (node ∷ before) domains (machines ++ machine ∷ [])
    machine_counted machine is =
        let one : count_before (codes "virtual_machine") (node ∷ before) ≡ suc (count_before (codes "virtual_machine") before) =
        counts (codes "virtual_machine") _ is in
        record {
          domain_count = counted.domain_count ∙ sym (counts (codes "protection_domain") _ is);
          machine_count = omega (arith, longer machines machine, counted.machine_count, one);
        }

    -- an element that says nothing
    silent : (name : List ℕ) → node.name ≡ name → says_named name regions before node ≡ nothing
        → bytes_eq name (codes "protection_domain") ≡ false → bytes_eq name (codes "virtual_machine") ≡ false
        → (next : Draft) → given {E = Flaw} draft ≡ Ok next → IsStep before node draft next
    silent name is nil other none next e =
        subst (λ n. IsStep before node draft n) (same_ok {E = Flaw} _ _ e)
        (record {
          said = sym (ap (λ more. joined so_far more) (says name is ∙ nil) ∙ add_nothing so_far);
          regions = refl;
          path = refl;
          left = refl;
          counted = uncounted name is other none;
        })

    domain_step : (parent : Option Id) (next : Draft) → node.name ≡ codes "protection_domain"
        → option_map (λ domain. id_in domain node) (domain_of before node) ≡ parent → domain_at parent node draft ≡ Ok next
        → IsStep before node draft next
    unfolding domain_at with_domain says_named
    domain_step parent next is around e =
        let one = parts _ _ _ e in
        subst (λ n. IsStep before node draft n) (same_ok {E = Flaw} _ _ one.then)
        (record {
          said = sym
              (ap (λ more. joined so_far more)
              (says _ is ∙ ap (λ p. record nothing { domains = domain_in p node ∷ [] }) around)
              ∙ add_domains so_far (domain_in parent node ∷ []));
          regions = refl;
          path = refl;
          left = refl;
          counted = domain_counted (domain_in parent node) is;
        })

    map_step : (by : User) (next : Draft) → node.name ≡ codes "map" → user_of (machine_of before node) (domain_of before node) ≡ Some by
        → map_at by node draft ≡ Ok next → IsStep before node draft next
    unfolding map_at says_named region_number made_of
    map_step by next is around e =
        let one = parts _ _ _ e in
        let region = found_number _ _ one.x one.is in
        subst (λ n. IsStep before node draft n) (same_ok {E = Flaw} _ _ one.then)
        (record {
          said = sym
              (ap (λ more. joined so_far more)
              (says _ is ∙ ap (λ o. record nothing { maps = made_of (map_in node) o (region_of regions (codes "mr") node) }) around
              ∙ ap (λ o. record nothing { maps = made_of (map_in node) (Some by) o }) region)
              ∙ add_maps so_far (map_in node by one.x ∷ []));
          regions = refl;
          path = refl;
          left = refl;
          counted = uncounted _ is refl refl;
        })

    variable_step : (domain : ℕ) (next : Draft) → node.name ≡ codes "setvar" → domain_of before node ≡ Some domain
        → variable_at domain node draft ≡ Ok next → IsStep before node draft next
    unfolding variable_at says_named region_number made_of
    variable_step domain next is around e =
        let one = parts _ _ _ e in
        let region = found_number _ _ one.x one.is in
        subst (λ n. IsStep before node draft n) (same_ok {E = Flaw} _ _ one.then)
        (record {
          said = sym
              (ap (λ more. joined so_far more)
              (says _ is
              ∙ ap (λ o. record nothing { variables = made_of (variable_in node) o (region_of regions (codes "region_paddr") node) }) around
              ∙ ap (λ o. record nothing { variables = made_of (variable_in node) (Some domain) o }) region)
              ∙ add_variables so_far (variable_in node domain one.x ∷ []));
          regions = refl;
          path = refl;
          left = refl;
          counted = uncounted _ is refl refl;
        })

    interrupt_step : (domain : ℕ) (next : Draft) → node.name ≡ codes "irq" → domain_of before node ≡ Some domain
        → interrupt_at domain node draft ≡ Ok next → IsStep before node draft next
    unfolding interrupt_at says_named
    interrupt_step domain next is around e =
        let one = parts _ _ _ e in
        subst (λ n. IsStep before node draft n) (same_ok {E = Flaw} _ _ one.then)
        (record {
          said = sym
              (ap (λ more. joined so_far more)
              (says _ is
              ∙ ap (λ o. record nothing { interrupts = option_to_list (option_map (λ domain. interrupt_in domain node) o) }) around)
              ∙ add_interrupts so_far (interrupt_in domain node ∷ []));
          regions = refl;
          path = refl;
          left = refl;
          counted = uncounted _ is refl refl;
        })

    port_step : (domain : ℕ) (next : Draft) → node.name ≡ codes "ioport" → domain_of before node ≡ Some domain
        → given {E = Flaw} (port_at domain node draft) ≡ Ok next → IsStep before node draft next
    unfolding port_at says_named
    port_step domain next is around e =
        subst (λ n. IsStep before node draft n) (same_ok {E = Flaw} _ _ e)
        (record {
          said = sym
              (ap (λ more. joined so_far more)
              (says _ is ∙ ap (λ o. record nothing { ports = option_to_list (option_map (port_in node) o) }) around)
              ∙ add_ports so_far (port_in node domain ∷ []));
          regions = refl;
          path = refl;
          left = refl;
          counted = uncounted _ is refl refl;
        })

    processor_step : (place : Place) (next : Draft) → node.name ≡ codes "vcpu" → domain_of before node ≡ Some place.domain
        → machine_of before node ≡ Some place.machine → processor_at place node draft ≡ Ok next → IsStep before node draft next
    unfolding processor_at processor_fits says_named made_of
    processor_step place next is around machine e =
        let one = parts _ _ _ e in
        subst (λ n. IsStep before node draft n) (same_ok {E = Flaw} _ _ one.then)
        (record {
          said = sym
              (ap (λ more. joined so_far more)
              (says _ is ∙ ap (λ o. record nothing { processors = made_of (processor_in node) o (domain_of before node) }) machine
              ∙ ap (λ o. record nothing { processors = made_of (processor_in node) (Some place.machine) o }) around)
              ∙ add_processors so_far (processor_in node place.machine place.domain ∷ []));
          regions = refl;
          path = refl;
          left = refl;
          counted = uncounted _ is refl refl;
        })

    -- a virtual machine, with its own virtual processor if it has one
    own_step : (domain : ℕ) (own : Option ℕ) (next : Draft) → node.name ≡ codes "virtual_machine"
        → number_in node (codes "id") ≡ own → domain_of before node ≡ Some domain
        → own_processor_at own (length machines) domain node.line (with_machine (machine_in domain node) draft) ≡ Ok next
        → IsStep before node draft next
    unfolding own_processor_at processor_fits says_named made_of
    own_step domain own next is has around e = by_own own has e
      where
        told : (o : Option ℕ) → number_in node (codes "id") ≡ o → says_named node.name regions before node
            ≡ record nothing {
              machines = machine_in domain node ∷ [];
              processors = made_of (own_processor (length machines) node) (Some domain) o;
            }
        told o has =
            says _ is
            ∙ ap
            (λ d.
            record nothing {
              machines = option_to_list (option_map (λ domain. machine_in domain node) d);
              processors =
                  made_of (own_processor (count_before (codes "virtual_machine") before) node) d (number_in node (codes "id"));
            })
            around
            ∙ ap
            (λ n.
            record nothing {
              machines = machine_in domain node ∷ [];
              processors = made_of (own_processor n node) (Some domain) (number_in node (codes "id"));
            })
            (sym counted.machine_count)
            ∙ ap
            (λ o.
            record nothing {
              machines = machine_in domain node ∷ [];
              processors = made_of (own_processor (length machines) node) (Some domain) o;
            })
            has

        by_own : (o : Option ℕ) → number_in node (codes "id") ≡ o
            → own_processor_at o (length machines) domain node.line (with_machine (machine_in domain node) draft) ≡ Ok next
            → IsStep before node draft next
        by_own None has e =
            subst (λ n. IsStep before node draft n) (same_ok {E = Flaw} _ _ e)
            (record {
              said = sym
                  (ap (λ more. joined so_far more) (told None has) ∙ add_machines so_far (machine_in domain node ∷ []) []
                  ∙ ap (λ ps. record so_far { machines = machines ++ machine_in domain node ∷ []; processors = ps })
                  (append-nil draft.description.processors));
              regions = refl;
              path = refl;
              left = refl;
              counted = machine_counted (machine_in domain node) is;
            })
        by_own (Some number) has e =
            let one = parts _ _ _ e in
            subst (λ n. IsStep before node draft n) (same_ok {E = Flaw} _ _ one.then)
            (record {
              said = sym
                  (ap (λ more. joined so_far more) (told (Some number) has)
                  ∙ add_machines so_far (machine_in domain node ∷ []) (own_processor (length machines) node domain number ∷ []));
              regions = refl;
              path = refl;
              left = refl;
              counted = machine_counted (machine_in domain node) is;
            })

    machine_step : (domain : ℕ) (next : Draft) → node.name ≡ codes "virtual_machine" → domain_of before node ≡ Some domain
        → machine_at domain node draft ≡ Ok next → IsStep before node draft next
    unfolding machine_at
    machine_step domain next is around e = own_step domain _ next is refl around (parts _ _ _ e).then

  -- by the kind of the element, in this place
  pub said_step : (k : Kind) (outer : Place) (next : Draft) → AreCounted before domains machines → IsWithin outer.kind k node.name
      → Surrounds node.level before outer → domain_part_of k (record outer { kind = k }) node draft ≡ Ok next
      → IsStep before node draft next
  unfolding domain_part_of IsWithin IsAround says_named user_of
  said_step kind.Document outer next counted within around e = absurd within
  said_step kind.System outer next counted within around e = silent counted _ within.1 refl refl refl next e
  said_step kind.Region outer next counted within around e = silent counted _ within.1 refl refl refl next e
  said_step kind.Channel outer next counted within around e = silent counted _ within.1 refl refl refl next e
  said_step kind.End outer next counted within around e = silent counted _ within.1 refl refl refl next e
  said_step kind.Image outer next counted within around e = silent counted _ within.1 refl refl refl next e
  said_step kind.Domain outer next counted within around e =
      let none = around_of outer _ _ _ within.0 around in
      domain_step counted _ next within.1 (ap (λ o. option_map (λ domain. id_in domain node) o) none.0) e
  said_step kind.Child outer next counted within around e =
      let here = in_domain outer.kind _ _ outer within.0 around in
      domain_step counted _ next within.1 (ap (λ o. option_map (λ domain. id_in domain node) o) here.0) e
  said_step kind.Map outer next counted within around e =
      let here = in_domain outer.kind _ _ outer within.0 around in
      map_step counted _ next within.1 (ap (λ m. user_of m (domain_of before node)) here.1 ∙ ap (λ d. user_of None d) here.0) e
  said_step kind.MachineMap outer next counted within around e =
      let here = around_of outer _ _ _ within.0 around in
      map_step counted _ next within.1 (ap (λ m. user_of m (domain_of before node)) here.1) e
  said_step kind.Interrupt outer next counted within around e =
      interrupt_step counted _ next within.1 (in_domain outer.kind _ _ outer within.0 around).0 e
  said_step kind.Port outer next counted within around e =
      port_step counted _ next within.1 (in_domain outer.kind _ _ outer within.0 around).0 e
  said_step kind.Variable outer next counted within around e =
      variable_step counted _ next within.1 (in_domain outer.kind _ _ outer within.0 around).0 e
  said_step kind.Machine outer next counted within around e =
      machine_step counted _ next within.1 (in_domain outer.kind _ _ outer within.0 around).0 e
  said_step kind.Processor outer next counted within around e =
      let here = around_of outer _ _ _ within.0 around in
      processor_step counted (record outer { kind = kind.Processor }) next within.1 here.0 here.1 e
