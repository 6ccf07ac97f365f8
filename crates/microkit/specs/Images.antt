-- Program images of domains: each domain must have one (Microkit user manual, "protection_domain").
use Rattle.std.specs.Prelude.{[], ℕ, ◌&&◌, ◌+◌, ◌==◌, ◌||◌, ◌∷◌, Bool, Err, List, Ok, Result, codes, false, if◌then◌else◌, nat_lt, not}
use Rattle.{std.specs.Str.bytes_eq, xml.specs.Document.Node}
use Rattle.microkit.specs.{declared.flaws.ElementFault.ElementFault, Flaws.{fault_here, spot_of}}
use Rattle.microkit.specs.declared.flaws.Flaw.TheVariants as flaw

-- an element of this level is a program image
abbrev pub is_image : ℕ → Node → Bool
is_image level node = node.level == level && bytes_eq node.name (codes "program_image")

-- a program image stands right within an element of this level, which these elements follow
unfoldable pub has_image : ℕ → List Node → Bool
has_image level [] = false
has_image level (node ∷ nodes) = nat_lt level node.level && (is_image (level + 1) node || has_image level nodes)

-- an element is a domain without a program image
abbrev pub lacks_image : Node → List Node → Bool
lacks_image node nodes = bytes_eq node.name (codes "protection_domain") && not (has_image node.level nodes)

-- the fault of the first domain without a program image, if the first element has this number
unfoldable pub images_at : ℕ → List Node → Result (Unit {0}) ElementFault
images_at number [] = Ok tt
images_at number (node ∷ nodes) =
    if lacks_image node nodes then Err (fault_here (spot_of number node) flaw.NoImage) else images_at (number + 1) nodes
