-- The outline of a description: what each element says, by its name and by what stands nearest around it (Microkit user manual,
-- "System Description File").
use Rattle.std.specs.{List.{filter, flat_map, position}, Option.{option_map, option_to_list}, Prelude.{[], ℕ, ◌++◌, ◌≡◌, ◌∷◌, Bool, List, None, Option}}
use Rattle.std.specs.{Prelude.{Some, codes, if◌then◌else◌, length, map, nat_lt, true}, Str.bytes_eq}
use Rattle.xml.specs.Document.{Node}
use Rattle.microkit.specs.declared.description.{Channel.Channel, End.End, Id.Id, Interrupt.Interrupt, Map.Map, Port.Port, Processor.Processor, User.User, Variable.Variable}
use Rattle.microkit.specs.{Attributes.{flag_or, number_in, number_or, text_in}, Description.{Description, Domain, Machine, Region}}
use Rattle.microkit.specs.{Domains.{domain_in, id_in, interrupt_in, is_writable, machine_in}, Regions.region_in}
use Rattle.microkit.specs.declared.description.User.TheVariants as user

-- an element has this name
abbrev pub is_named : List ℕ → Node → Bool
is_named name node = bytes_eq node.name name

-- the number of elements of a name before the next one: they are numbered in the order of the text
abbrev pub count_before : List ℕ → List Node → ℕ
count_before name before = length (filter (is_named name) before)

-- the number of the nearest element of this name in which an element of this level stands, after these elements, the latest first
unfoldable pub nearest : List ℕ → ℕ → List Node → Option ℕ
nearest name level [] = None
nearest name level (node ∷ before) =
    if nat_lt node.level level
    then (if is_named name node then Some (count_before name before) else nearest name node.level before)
    else nearest name level before

-- the domain, and the virtual machine, that an element stands in
abbrev pub domain_of : List Node → Node → Option ℕ
domain_of before node = nearest (codes "protection_domain") node.level before

abbrev pub machine_of : List Node → Node → Option ℕ
machine_of before node = nearest (codes "virtual_machine") node.level before

-- the user of a map: the virtual machine that it stands in, else the domain
unfoldable pub user_of : Option ℕ → Option ℕ → Option User
user_of (Some machine) domain = Some (user.Machine machine)
user_of None (Some domain) = Some (user.Domain domain)
user_of None None = None

-- the number of the region that an attribute names
abbrev pub region_of : List Region → List ℕ → Node → Option ℕ
region_of regions attribute node = position (λ (region : Region). bytes_eq region.name (text_in node attribute)) regions

-- what two things make together, if both are there
unfoldable pub made_of : {X Y Z : Type 0} → (X → Y → Z) → Option X → Option Y → List Z
made_of make (Some x) (Some y) = make x y ∷ []
made_of make _ _ = []

-- what elements say of domains, and of what stands in domains
pub record Said : Type 0 where
  pub domains : List Domain
  pub machines : List Machine
  pub processors : List Processor
  pub maps : List Map
  pub interrupts : List Interrupt
  pub ports : List Port
  pub variables : List Variable

abbrev pub nothing : Said
nothing =
    record { domains = []; machines = []; processors = []; maps = []; interrupts = []; ports = []; variables = [] }

-- what a domain says: it is the child of the domain in which it stands, if it stands in one
abbrev pub by_domain : List Node → Node → Said
by_domain before node =
    record nothing { domains = domain_in (option_map (λ domain. id_in domain node) (domain_of before node)) node ∷ [] }

-- the virtual processor that a virtual machine has by its own tag, if that has an id
abbrev pub own_processor : ℕ → Node → ℕ → ℕ → Processor
own_processor machine node domain number =
    record { machine = machine; id = record { domain = domain; number = number }; core = 0; line = node.line }

abbrev pub by_machine : List Node → Node → Said
by_machine before node =
    record nothing {
      machines = option_to_list (option_map (λ domain. machine_in domain node) (domain_of before node));
      processors =
          made_of (own_processor (count_before (codes "virtual_machine") before) node) (domain_of before node) (number_in node (codes "id"));
    }

abbrev pub processor_in : Node → ℕ → ℕ → Processor
processor_in node machine domain =
    record { machine = machine; id = id_in domain node; core = number_or node (codes "cpu") 0; line = node.line }

abbrev pub by_processor : List Node → Node → Said
by_processor before node =
    record nothing { processors = made_of (processor_in node) (machine_of before node) (domain_of before node) }

abbrev pub map_in : Node → User → ℕ → Map
map_in node by region =
    record {
      user = by;
      region = region;
      vaddr = number_or node (codes "vaddr") 0;
      writable = is_writable node;
      cached = flag_or node (codes "cached") true;
      line = node.line;
    }

abbrev pub by_map : List Region → List Node → Node → Said
by_map regions before node =
    record nothing {
      maps =
          made_of (map_in node) (user_of (machine_of before node) (domain_of before node)) (region_of regions (codes "mr") node);
    }

abbrev pub by_interrupt : List Node → Node → Said
by_interrupt before node =
    record nothing { interrupts = option_to_list (option_map (λ domain. interrupt_in domain node) (domain_of before node)) }

abbrev pub port_in : Node → ℕ → Port
port_in node domain = record { id = id_in domain node; line = node.line }

abbrev pub by_port : List Node → Node → Said
by_port before node = record nothing { ports = option_to_list (option_map (port_in node) (domain_of before node)) }

abbrev pub variable_in : Node → ℕ → ℕ → Variable
variable_in node domain region = record { domain = domain; region = region; line = node.line }

abbrev pub by_variable : List Region → List Node → Node → Said
by_variable regions before node =
    record nothing {
      variables = made_of (variable_in node) (domain_of before node) (region_of regions (codes "region_paddr") node);
    }

-- what an element of this name says, of these regions and after these elements
unfoldable pub says_named : List ℕ → List Region → List Node → Node → Said
says_named name regions before node =
    if bytes_eq name (codes "protection_domain") then by_domain before node else
    if bytes_eq name (codes "virtual_machine") then by_machine before node else
    if bytes_eq name (codes "vcpu") then by_processor before node else
    if bytes_eq name (codes "map") then by_map regions before node else
    if bytes_eq name (codes "irq") then by_interrupt before node else
    if bytes_eq name (codes "ioport") then by_port before node else
    if bytes_eq name (codes "setvar") then by_variable regions before node else nothing

-- what some elements say, and then others
abbrev pub joined : Said → Said → Said
joined one other =
    record {
      domains = one.domains ++ other.domains;
      machines = one.machines ++ other.machines;
      processors = one.processors ++ other.processors;
      maps = one.maps ++ other.maps;
      interrupts = one.interrupts ++ other.interrupts;
      ports = one.ports ++ other.ports;
      variables = one.variables ++ other.variables;
    }

-- what elements say one after another, after these elements
unfoldable pub all_say : List Region → List Node → List Node → Said
all_say regions before [] = nothing
all_say regions before (node ∷ nodes) =
    joined (says_named node.name regions before node) (all_say regions (node ∷ before) nodes)

-- what a description says of domains, and of what stands in them
abbrev pub said_by : Description → Said
said_by d =
    record {
      domains = d.domains;
      machines = d.machines;
      processors = d.processors;
      maps = d.maps;
      interrupts = d.interrupts;
      ports = d.ports;
      variables = d.variables;
    }

-- what an end says, except who may call: that depends on the other end and on both domains
pub record Ended : Type 0 where
  pub id : Id
  pub may_notify : Bool
  pub line : ℕ

abbrev pub ended : End → Ended
ended end = record { id = end.id; may_notify = end.may_notify; line = end.line }

abbrev pub ended_in : Node → ℕ → Ended
ended_in node domain = record { id = id_in domain node; may_notify = flag_or node (codes "notify") true; line = node.line }

-- an end is of the domain that it names
unfoldable pub end_says : List Domain → Node → List Ended
end_says domains node =
    if is_named (codes "end") node
    then option_to_list
    (option_map (ended_in node) (position (λ (domain : Domain). bytes_eq domain.name (text_in node (codes "pd"))) domains))
    else []

abbrev pub ends_of : List Channel → List Ended
ends_of channels = flat_map (λ (channel : Channel). ended channel.first ∷ ended channel.second ∷ []) channels

-- a description says what these elements say, in their order, and nothing else
pub record IsOutlinedBy (nodes : List Node) (d : Description) : Type 0 where
  pub regions : d.regions ≡ map region_in (filter (is_named (codes "memory_region")) nodes)
  pub inside : said_by d ≡ all_say d.regions [] nodes
  pub channels : map (λ (channel : Channel). channel.line) d.channels ≡ map (λ (node : Node). node.line) (filter (is_named (codes "channel")) nodes)
  pub ends : ends_of d.channels ≡ flat_map (end_says d.domains) nodes
