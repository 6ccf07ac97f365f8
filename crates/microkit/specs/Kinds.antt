-- Kinds of elements, by where they stand (Microkit user manual, "System Description File").
use Rattle.std.specs.{Prelude.{[], ℕ, ◌∷◌, List, None, Option, Some, codes, if◌then◌else◌}, Str.bytes_eq}
use Rattle.microkit.specs.declared.kinds.Kind.{Kind}
use Rattle.microkit.specs.declared.kinds.Kind.TheVariants as kind

-- what has this name in a list
unfoldable pub named_in : {X : Type 0} → List (List ℕ × X) → List ℕ → Option X
named_in [] name = None
named_in (row ∷ rows) name = if bytes_eq name row.0 then Some row.1 else named_in rows name

unfoldable pub kind_in_document : List ℕ → Option Kind
kind_in_document name = named_in ((codes "system", kind.System) ∷ []) name

unfoldable pub kind_in_system : List ℕ → Option Kind
kind_in_system name =
    named_in
    ((codes "memory_region", kind.Region)
    ∷ (codes "protection_domain", kind.Domain)
    ∷ (codes "channel", kind.Channel)
    ∷ []) name

unfoldable pub kind_in_domain : List ℕ → Option Kind
kind_in_domain name =
    named_in
    ((codes "program_image", kind.Image)
    ∷ (codes "map", kind.Map)
    ∷ (codes "irq", kind.Interrupt)
    ∷ (codes "ioport", kind.Port)
    ∷ (codes "setvar", kind.Variable)
    ∷ (codes "virtual_machine", kind.Machine)
    ∷ (codes "protection_domain", kind.Child)
    ∷ []) name

unfoldable pub kind_in_machine : List ℕ → Option Kind
kind_in_machine name = named_in ((codes "vcpu", kind.Processor) ∷ (codes "map", kind.MachineMap) ∷ []) name

unfoldable pub kind_in_channel : List ℕ → Option Kind
kind_in_channel name = named_in ((codes "end", kind.End) ∷ []) name

-- the kind of an element of this name within one of this kind
unfoldable pub kind_within : Kind → List ℕ → Option Kind
kind_within kind.Document name = kind_in_document name
kind_within kind.System name = kind_in_system name
kind_within kind.Domain name = kind_in_domain name
kind_within kind.Child name = kind_in_domain name
kind_within kind.Machine name = kind_in_machine name
kind_within kind.Channel name = kind_in_channel name
kind_within _ name = None
