-- Protection domains and what stands in them, and how they are read (Microkit user manual, "protection_domain" and the elements within it).
use Rattle.std.specs.{List.find, Option.{option_map, option_map_or, option_to_list}, Prelude.{[], ℕ, ◌++◌, ◌==◌, ◌∷◌, Bool, Err}}
use Rattle.std.specs.Prelude.{List, None, Ok, Option, Result, Some, codes, false, if◌then◌else◌, length, nat_le, nat_lt, true}
use Rattle.{std.specs.Str.bytes_eq, words.specs.Reading.◌>>=◌, xml.specs.Document.Node}
use Rattle.microkit.specs.declared.description.{Id.Id, Interrupt.Interrupt, Map.Map, Processor.Processor, Schedule.Schedule}
use Rattle.microkit.specs.declared.{description.{User.User, Variable.Variable}, domains.TheConstants.MAX_DOMAINS}
use Rattle.microkit.specs.declared.{draft.{Place.Place, Taken.Taken}, flaws.Flaw.Flaw, kinds.Kind.Kind}
use Rattle.microkit.specs.{Attributes.{flag_in, flag_or, number_in, number_or, text_in, value_in}, Description.{Domain, Machine}}
use Rattle.microkit.specs.{Draft.{Draft, free_at}, Flaws.unless_found, Forms.has_byte, Regions.region_number}
use Rattle.microkit.specs.declared.flaws.Flaw.TheVariants as flaw
use Rattle.microkit.specs.declared.description.User.TheVariants as user
use Rattle.microkit.specs.declared.kinds.Kind.TheVariants as kind

-- what an element says of scheduling: a budget of 1,000 microseconds, and a period as long as the budget, unless it says otherwise
unfoldable pub schedule_in : Node → Schedule
schedule_in node =
    record {
      priority = number_or node (codes "priority") 0;
      budget = number_or node (codes "budget") 1000;
      period = number_or node (codes "period") (number_or node (codes "budget") 1000);
    }

-- the id of an element, in this domain
abbrev pub id_in : ℕ → Node → Id
id_in domain node = record { domain = domain; number = number_or node (codes "id") 0 }

-- the domain of an element
unfoldable pub domain_in : Option Id → Node → Domain
domain_in parent node =
    record {
      name = text_in node (codes "name");
      parent = parent;
      schedule = schedule_in node;
      core = number_or node (codes "cpu") 0;
      passive = flag_or node (codes "passive") false;
      smc = flag_or node (codes "smc") false;
      serves = flag_in node (codes "pp");
      line = node.line;
    }

-- the line of the domain of this name
abbrev pub domain_line : List Domain → List ℕ → Option ℕ
domain_line domains name =
    option_map (λ (domain : Domain). domain.line) (find (λ (domain : Domain). bytes_eq domain.name name) domains)

-- the id of a child must be free
unfoldable pub parent_free_at : List Taken → Option Id → Result (Unit {0}) Flaw
parent_free_at children None = Ok tt
parent_free_at children (Some id) = free_at children id

-- a budget is at most its period
unfoldable pub budget_fits : Schedule → Result (Unit {0}) Flaw
budget_fits schedule = if nat_lt schedule.period schedule.budget then Err flaw.Budget else Ok tt

-- a domain may follow these: its name and its id are new (52), its budget is at most its period (55), and they aren't too many (54)
unfoldable pub domain_fits : List Domain → List Taken → Domain → Result (Unit {0}) Flaw
domain_fits domains children domain = do
  _ ← unless_found flaw.Name (domain_line domains domain.name)
  _ ← parent_free_at children domain.parent
  _ ← budget_fits domain.schedule
  if nat_le MAX_DOMAINS (length domains) then Err flaw.ManyDomains else Ok tt

-- an id with the line that has it
abbrev pub taken_at : ℕ → Id → Taken
taken_at line id = record { id = id; line = line }

-- a draft with one more domain
unfoldable pub with_domain : Domain → Draft → Draft
with_domain domain draft =
    record draft {
      description = record draft.description { domains = draft.description.domains ++ domain ∷ [] };
      children = draft.children ++ option_to_list (option_map (λ id. taken_at domain.line id) domain.parent);
    }

-- an element that is a domain
unfoldable pub domain_at : Option Id → Node → Draft → Result Draft Flaw
domain_at parent node draft = do
  _ ← domain_fits draft.description.domains draft.children (domain_in parent node)
  Ok (with_domain (domain_in parent node) draft)

-- the virtual machine of an element
unfoldable pub machine_in : ℕ → Node → Machine
machine_in domain node =
    record { name = text_in node (codes "name"); domain = domain; schedule = schedule_in node; line = node.line }

-- the line of the virtual machine of this name
abbrev pub machine_line : List Machine → List ℕ → Option ℕ
machine_line machines name =
    option_map (λ (machine : Machine). machine.line) (find (λ (machine : Machine). bytes_eq machine.name name) machines)

-- the line of the virtual machine of this domain
abbrev pub guest_line : List Machine → ℕ → Option ℕ
guest_line machines domain =
    option_map (λ (machine : Machine). machine.line) (find (λ (machine : Machine). machine.domain == domain) machines)

-- a virtual machine may follow these: its name is new, its domain has no other (52), and its budget is at most its period (55)
unfoldable pub machine_fits : List Machine → Machine → Result (Unit {0}) Flaw
machine_fits machines machine = do
  _ ← unless_found flaw.Name (machine_line machines machine.name)
  _ ← unless_found flaw.SecondMachine (guest_line machines machine.domain)
  budget_fits machine.schedule

-- a draft with one more virtual machine
abbrev pub with_machine : Machine → Draft → Draft
with_machine machine draft =
    record draft { description = record draft.description { machines = draft.description.machines ++ machine ∷ [] } }

-- a draft with one more virtual processor, whose id must be free
unfoldable pub processor_fits : Processor → Draft → Result Draft Flaw
processor_fits processor draft = do
  _ ← free_at draft.children processor.id
  Ok (record draft {
    description = record draft.description { processors = draft.description.processors ++ processor ∷ [] };
    children = draft.children ++ taken_at processor.line processor.id ∷ [];
  })

-- the one virtual processor of a virtual machine that has an id itself
unfoldable pub own_processor_at : Option ℕ → ℕ → ℕ → ℕ → Draft → Result Draft Flaw
own_processor_at None machine domain line draft = Ok draft
own_processor_at (Some number) machine domain line draft =
    processor_fits (record { machine = machine; id = record { domain = domain; number = number }; core = 0; line = line }) draft

-- an element that is a virtual machine
unfoldable pub machine_at : ℕ → Node → Draft → Result Draft Flaw
machine_at domain node draft = do
  _ ← machine_fits draft.description.machines (machine_in domain node)
  own_processor_at (number_in node (codes "id")) (length draft.description.machines) domain node.line
      (with_machine (machine_in domain node) draft)

-- an element that is a virtual processor
unfoldable pub processor_at : Place → Node → Draft → Result Draft Flaw
processor_at place node draft =
    processor_fits
    (record {
      machine = place.machine;
      id = id_in place.domain node;
      core = number_or node (codes "cpu") 0;
      line = node.line;
    }) draft

-- a map is writable, unless its rights say otherwise
unfoldable pub is_writable : Node → Bool
is_writable node = option_map_or (λ rights. has_byte 119 rights) (value_in node (codes "perms")) true

-- an element that is a map, whose region must be known
unfoldable pub map_at : User → Node → Draft → Result Draft Flaw
map_at user node draft = do
  region ← region_number draft.description.regions (text_in node (codes "mr"))
  let map : Map = record {
    user = user;
    region = region;
    vaddr = number_or node (codes "vaddr") 0;
    writable = is_writable node;
    cached = flag_or node (codes "cached") true;
    line = node.line;
  }
  Ok (record draft { description = record draft.description { maps = draft.description.maps ++ map ∷ [] } })

-- a variable of a domain that is set to the address of a region, which must be known
unfoldable pub variable_at : ℕ → Node → Draft → Result Draft Flaw
variable_at domain node draft = do
  region ← region_number draft.description.regions (text_in node (codes "region_paddr"))
  let variable : Variable = record { domain = domain; region = region; line = node.line }
  Ok (record draft { description = record draft.description { variables = draft.description.variables ++ variable ∷ [] } })

-- the line of the element of this interrupt
abbrev pub interrupt_line : List Interrupt → ℕ → Option ℕ
interrupt_line interrupts irq =
    option_map (λ (interrupt : Interrupt). interrupt.line) (find (λ (interrupt : Interrupt). interrupt.irq == irq) interrupts)

-- an interrupt may follow these: its id and the interrupt are new
unfoldable pub interrupt_fits : List Taken → List Interrupt → Interrupt → Result (Unit {0}) Flaw
interrupt_fits ids interrupts interrupt = do
  _ ← free_at ids interrupt.id
  unless_found flaw.Interrupt (interrupt_line interrupts interrupt.irq)

abbrev pub interrupt_in : ℕ → Node → Interrupt
interrupt_in domain node = record { id = id_in domain node; irq = number_or node (codes "irq") 0; line = node.line }

-- an element that is an interrupt
unfoldable pub interrupt_at : ℕ → Node → Draft → Result Draft Flaw
interrupt_at domain node draft = do
  _ ← interrupt_fits draft.ids draft.description.interrupts (interrupt_in domain node)
  Ok (record draft {
    description = record draft.description { interrupts = draft.description.interrupts ++ interrupt_in domain node ∷ [] };
    ids = draft.ids ++ taken_at node.line (id_in domain node) ∷ [];
  })

-- an element that is a range of ports
unfoldable pub port_at : ℕ → Node → Draft → Draft
port_at domain node draft =
    record draft {
      description = record draft.description {
        ports = draft.description.ports ++ record { id = id_in domain node; line = node.line } ∷ [];
      };
    }

-- the domain itself, and what stands in it, by the kind of the element
unfoldable pub domain_part_of : Kind → Place → Node → Draft → Result Draft Flaw
domain_part_of kind.Domain place node draft = domain_at None node draft
domain_part_of kind.Child place node draft = domain_at (Some (id_in place.domain node)) node draft
domain_part_of kind.Map place node draft = map_at (user.Domain place.domain) node draft
domain_part_of kind.MachineMap place node draft = map_at (user.Machine place.machine) node draft
domain_part_of kind.Interrupt place node draft = interrupt_at place.domain node draft
domain_part_of kind.Port place node draft = Ok (port_at place.domain node draft)
domain_part_of kind.Variable place node draft = variable_at place.domain node draft
domain_part_of kind.Machine place node draft = machine_at place.domain node draft
domain_part_of kind.Processor place node draft = processor_at place node draft
domain_part_of _ place node draft = Ok draft

unfoldable pub domain_part_at : Place → Node → Draft → Result Draft Flaw
domain_part_at place node draft = domain_part_of place.kind place node draft
