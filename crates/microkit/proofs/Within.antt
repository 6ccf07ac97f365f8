-- The name of an element, and the kind of what it stands in, by its own kind.
use Rattle.std.specs.{List.AllByRecursion, Prelude.{⊤, codes}, Str.bytes_eq}
use Rattle.std.proofs.{Common.{[], ℕ, ◌∷◌, ◌≡◌, Bool, List, Some, cond, false, refl, subst, sym, true}, lemmas.Slice.Eq.bytes_eq-Decides}
use Rattle.microkit.specs.{declared.kinds.Kind.Kind, Kinds.{kind_in_channel, kind_in_document}}
use Rattle.microkit.specs.Kinds.{kind_in_domain, kind_in_machine, kind_in_system, kind_within, named_in}
use Rattle.microkit.specs.declared.kinds.Kind.TheVariants as kind

abbrev pub IsDomainKind : Kind → Type 0
IsDomainKind kind.Domain = ⊤
IsDomainKind kind.Child = ⊤
IsDomainKind _ = ⊥

-- an element of a kind, by the kind of what it stands in and by its name
unfoldable pub IsWithin : Kind → Kind → List ℕ → Type 0
IsWithin outer kind.System name = (outer ≡ kind.Document) × (name ≡ codes "system")
IsWithin outer kind.Region name = (outer ≡ kind.System) × (name ≡ codes "memory_region")
IsWithin outer kind.Domain name = (outer ≡ kind.System) × (name ≡ codes "protection_domain")
IsWithin outer kind.Channel name = (outer ≡ kind.System) × (name ≡ codes "channel")
IsWithin outer kind.Image name = IsDomainKind outer × (name ≡ codes "program_image")
IsWithin outer kind.Map name = IsDomainKind outer × (name ≡ codes "map")
IsWithin outer kind.Interrupt name = IsDomainKind outer × (name ≡ codes "irq")
IsWithin outer kind.Port name = IsDomainKind outer × (name ≡ codes "ioport")
IsWithin outer kind.Variable name = IsDomainKind outer × (name ≡ codes "setvar")
IsWithin outer kind.Machine name = IsDomainKind outer × (name ≡ codes "virtual_machine")
IsWithin outer kind.Child name = IsDomainKind outer × (name ≡ codes "protection_domain")
IsWithin outer kind.Processor name = (outer ≡ kind.Machine) × (name ≡ codes "vcpu")
IsWithin outer kind.MachineMap name = (outer ≡ kind.Machine) × (name ≡ codes "map")
IsWithin outer kind.End name = (outer ≡ kind.Channel) × (name ≡ codes "end")
IsWithin outer kind.Document name = ⊥

-- what is found by a name is one of what has names
found_one : {X : Type 0} (P : List ℕ → X → Type 0) (rows : List (List ℕ × X)) (name : List ℕ) (x : X)
    → AllByRecursion (λ (row : List ℕ × X). P row.0 row.1) rows → named_in rows name ≡ Some x → P name x
unfolding named_in
found_one P [] name x all e = absurd cc
found_one {X = X} P (row ∷ rows) name x all e = cases (bytes_eq name row.0) refl e (found_one P rows name x all.1)
  where
    cases : (same : Bool) → bytes_eq name row.0 ≡ same → cond same (Some row.1) (named_in rows name) ≡ Some x
        → (named_in rows name ≡ Some x → P name x) → P name x
    cases true is here later =
        let one : row.1 ≡ x = cc in
        subst (λ n. P n x) (sym ((bytes_eq-Decides name row.0).0 is)) (subst (λ y. P row.0 y) one all.0)
    cases false is below later = later below

pub within : (outer : Kind) (name : List ℕ) (k : Kind) → kind_within outer name ≡ Some k → IsWithin outer k name
unfolding kind_within kind_in_document kind_in_system kind_in_domain kind_in_machine kind_in_channel IsWithin
within kind.Document name k e = found_one (λ n k. IsWithin kind.Document k n) _ name k ((refl, refl), tt) e
within kind.System name k e =
    found_one (λ n k. IsWithin kind.System k n) _ name k ((refl, refl), ((refl, refl), ((refl, refl), tt))) e
within kind.Domain name k e =
    found_one (λ n k. IsWithin kind.Domain k n) _ name k
    ((tt, refl), ((tt, refl), ((tt, refl), ((tt, refl), ((tt, refl), ((tt, refl), ((tt, refl), tt))))))) e
within kind.Child name k e =
    found_one (λ n k. IsWithin kind.Child k n) _ name k
    ((tt, refl), ((tt, refl), ((tt, refl), ((tt, refl), ((tt, refl), ((tt, refl), ((tt, refl), tt))))))) e
within kind.Machine name k e = found_one (λ n k. IsWithin kind.Machine k n) _ name k ((refl, refl), ((refl, refl), tt)) e
within kind.Channel name k e = found_one (λ n k. IsWithin kind.Channel k n) _ name k ((refl, refl), tt) e
within _ name k e = absurd cc
