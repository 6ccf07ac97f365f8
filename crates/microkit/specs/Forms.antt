-- Forms of elements: the attributes that each kind has, and the forms of their values (Microkit user manual, "System Description File").
use Rattle.std.specs.{List.{list_all, list_any, position}, Prelude.{[], ℕ, ◌&&◌, ◌==◌, ◌||◌, ◌∷◌, Bool, Err, List, None, Ok}}
use Rattle.std.specs.{Prelude.{Option, Result, Some, codes, false, if◌then◌else◌, is_some, nat_lt, not, true}, Str.bytes_eq}
use Rattle.{words.specs.Reading.◌>>=◌, xml.specs.{Document.Node, Tag.{Pair, is_given}}}
use Rattle.microkit.specs.declared.{flaws.Flaw.Flaw, forms.TheConstants.{MAX_ID, MAX_PRIORITY}, kinds.Kind.Kind}
use Rattle.microkit.specs.declared.rules.{Form.Form, Need.{Need, TheVariants.{Optional, Required}}}
use Rattle.microkit.specs.{Attributes.number_or, Flaws.unless_found, Values.{flag_of, number_of}}
use Rattle.microkit.specs.declared.flaws.Flaw.TheVariants as flaw
use Rattle.microkit.specs.declared.rules.Form.TheVariants as form
use Rattle.microkit.specs.declared.kinds.Kind.TheVariants as kind

-- an attribute that an element may have
pub record Rule : Type 0 where
  pub name : List ℕ
  pub form : Form
  pub need : Need

-- the sizes of pages: 4 KiB and 2 MiB
unfoldable pub is_page_size : Option ℕ → Bool
is_page_size (Some size) = size == 4096 || size == 2097152
is_page_size None = false

-- the letters of rights are `r`, `w` and `x`
abbrev pub is_right : ℕ → Bool
is_right b = (b == 114 || b == 119) || b == 120

abbrev pub has_byte : ℕ → List ℕ → Bool
has_byte b text = list_any (λ c. c == b) text

-- rights: some letters, with one to read if there is one to write
unfoldable pub is_rights : List ℕ → Bool
is_rights [] = false
is_rights (b ∷ bs) = list_all is_right (b ∷ bs) && (not (has_byte 119 (b ∷ bs)) || has_byte 114 (b ∷ bs))

-- a name has at least one letter
unfoldable pub is_name : List ℕ → Bool
is_name [] = false
is_name (b ∷ bs) = true

-- a value has this form
unfoldable pub has_form : Form → List ℕ → Bool
has_form form.Text value = true
has_form form.Name value = is_name value
has_form form.Number value = is_some (number_of value)
has_form form.Flag value = is_some (flag_of value)
has_form form.PageSize value = is_page_size (number_of value)
has_form form.Rights value = is_rights value
has_form form.Trigger value = bytes_eq value (codes "level") || bytes_eq value (codes "edge")

abbrev pub required : List ℕ → Form → Rule
required name form = record { name = name; form = form; need = Required }

abbrev pub optional : List ℕ → Form → Rule
optional name form = record { name = name; form = form; need = Optional }

-- the attributes of a domain
abbrev pub domain_rules : List Rule
domain_rules =
    required (codes "name") form.Name
    ∷ optional (codes "priority") form.Number
    ∷ optional (codes "budget") form.Number
    ∷ optional (codes "period") form.Number
    ∷ optional (codes "passive") form.Flag
    ∷ optional (codes "stack_size") form.Number
    ∷ optional (codes "smc") form.Flag
    ∷ optional (codes "cpu") form.Number
    ∷ optional (codes "fpu") form.Flag
    ∷ optional (codes "pp") form.Flag
    ∷ []

-- the attributes of a map, by a domain or by a virtual machine
abbrev pub map_rules : List Rule
map_rules =
    required (codes "mr") form.Text
    ∷ required (codes "vaddr") form.Number
    ∷ optional (codes "perms") form.Rights
    ∷ optional (codes "cached") form.Flag
    ∷ optional (codes "setvar_vaddr") form.Text
    ∷ optional (codes "setvar_size") form.Text
    ∷ optional (codes "setvar_prefill_size") form.Text
    ∷ []

-- the attributes of each kind. A child has those of a domain and the id by which its parent knows it. Before version 1.4 a virtual
-- machine has one processor, whose id the machine's own attribute gives.
unfoldable pub rules_of : Kind → List Rule
rules_of kind.Region =
    required (codes "name") form.Name
    ∷ required (codes "size") form.Number
    ∷ optional (codes "page_size") form.PageSize
    ∷ optional (codes "phys_addr") form.Number
    ∷ optional (codes "prefill_path") form.Text
    ∷ []
rules_of kind.Domain = domain_rules
rules_of kind.Child = required (codes "id") form.Number ∷ optional (codes "setvar_id") form.Text ∷ domain_rules
rules_of kind.Image = required (codes "path") form.Text ∷ optional (codes "path_for_symbols") form.Text ∷ []
rules_of kind.Map = map_rules
rules_of kind.MachineMap = map_rules
rules_of kind.Interrupt =
    required (codes "irq") form.Number
    ∷ required (codes "id") form.Number
    ∷ optional (codes "trigger") form.Trigger
    ∷ optional (codes "setvar_id") form.Text
    ∷ []
rules_of kind.Port =
    required (codes "id") form.Number
    ∷ required (codes "addr") form.Number
    ∷ required (codes "size") form.Number
    ∷ optional (codes "setvar_id") form.Text
    ∷ optional (codes "setvar_addr") form.Text
    ∷ []
rules_of kind.Variable = required (codes "symbol") form.Text ∷ required (codes "region_paddr") form.Text ∷ []
rules_of kind.Machine =
    required (codes "name") form.Name
    ∷ optional (codes "priority") form.Number
    ∷ optional (codes "budget") form.Number
    ∷ optional (codes "period") form.Number
    ∷ optional (codes "id") form.Number
    ∷ []
rules_of kind.Processor =
    required (codes "id") form.Number
    ∷ optional (codes "setvar_id") form.Text
    ∷ optional (codes "cpu") form.Number
    ∷ []
rules_of kind.End =
    required (codes "pd") form.Text
    ∷ required (codes "id") form.Number
    ∷ optional (codes "pp") form.Flag
    ∷ optional (codes "notify") form.Flag
    ∷ optional (codes "setvar_id") form.Text
    ∷ []
rules_of _ = []

-- an attribute follows a rule
abbrev pub follows : Pair → Rule → Bool
follows pair rule = bytes_eq rule.name pair.name && has_form rule.form pair.value

-- a rule is met: it requires no attribute, or the attribute is given
abbrev pub is_met : List Pair → Rule → Bool
is_met pairs rule = need_is_met rule.need
  where
    need_is_met : Need → Bool
    need_is_met Optional = true
    need_is_met Required = is_given pairs rule.name

-- the first attribute that follows no rule
abbrev pub first_stray : List Rule → List Pair → Option ℕ
first_stray rules pairs = position (λ (pair : Pair). not (list_any (follows pair) rules)) pairs

-- the first rule that isn't met
abbrev pub first_unmet : List Rule → List Pair → Option ℕ
first_unmet rules pairs = position (λ (rule : Rule). not (is_met pairs rule)) rules

-- ids and priorities keep to their limits
unfoldable pub limits_at : Node → Result (Unit {0}) Flaw
limits_at node =
    if nat_lt MAX_ID (number_or node (codes "id") 0) then Err flaw.LargeId else
    if nat_lt MAX_PRIORITY (number_or node (codes "priority") 0) then Err flaw.LargePriority else Ok tt

-- an element has its form: no attribute is unknown or malformed, none is missing that is required (50), and no limit is passed (54)
unfoldable pub form_at : Kind → Node → Result (Unit {0}) Flaw
form_at kind node = do
  _ ← unless_found (λ number. flaw.Attribute kind number) (first_stray (rules_of kind) node.attributes)
  _ ← unless_found (λ number. flaw.Missing kind number) (first_unmet (rules_of kind) node.attributes)
  limits_at node
