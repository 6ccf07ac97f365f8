-- The place of an element: the path says which domain and which virtual machine stand nearest around it.
use Rattle.std.{specs.{Prelude.{⊤, codes}, Str.bytes_eq}, proofs.Common.{[], ℕ, ◌++◌, ◌+◌, ◌-◌, ◌<◌, ◌∙◌, ◌∷◌, ◌≡◌, ◌≤◌, Bool, List}}
use Rattle.std.proofs.Common.{None, Option, Some, ap, arith, cond, false, get_or, length, nat_lt, refl, subst, suc, sym, take, true, zero}
use Rattle.std.proofs.{Math.Seq.get_or-append_seam, lemmas.{Bool.Decides.nat_tests, Grind.common_steps}}
use Rattle.{std.proofs.lemmas.{List.{length-take-le, take-append-le, take_all}, Option.unwrap_or-slice_get}, xml.specs.Document.Node}
use Rattle.microkit.specs.{declared.{draft.Place.Place, kinds.Kind.Kind}, Description.{Description, Domain, Machine}, Draft.innermost}
use Rattle.microkit.{specs.{Draft.{inside, outermost}, Outline.{count_before, is_named, nearest}}, proofs.Within.{IsDomainKind, IsWithin}}
use Rattle.microkit.specs.declared.kinds.Kind.TheVariants as kind

-- an element of this level may follow these, the latest first: the first is the root, and each other lies at most one level deeper than
-- the one before
abbrev pub IsReady : List Node → ℕ → Type 0
IsReady [] level = level ≡ 1
IsReady (node ∷ before) level = (1 ≤ level) × (level ≤ node.level + 1)

abbrev pub domain_at : ℕ → List Node → Option ℕ
domain_at level before = nearest (codes "protection_domain") level before

abbrev pub machine_at : ℕ → List Node → Option ℕ
machine_at level before = nearest (codes "virtual_machine") level before

-- the domain and the virtual machine nearest to what stands in this place
unfoldable pub IsAround : Kind → Option ℕ → Option ℕ → Place → Type 0
IsAround kind.Document domain machine place = (domain ≡ None) × (machine ≡ None)
IsAround kind.System domain machine place = (domain ≡ None) × (machine ≡ None)
IsAround kind.Domain domain machine place = (domain ≡ Some place.domain) × (machine ≡ None)
IsAround kind.Child domain machine place = (domain ≡ Some place.domain) × (machine ≡ None)
IsAround kind.Machine domain machine place = (domain ≡ Some place.domain) × (machine ≡ Some place.machine)
IsAround _ domain machine place = ⊤

abbrev pub Surrounds : ℕ → List Node → Place → Type 0
Surrounds level before place = IsAround place.kind (domain_at level before) (machine_at level before) place

-- a path is as long as its element is deep
abbrev pub IsLong : List Node → List Place → Type 0
IsLong [] path = ⊤
IsLong (node ∷ before) path = length path ≡ node.level

-- the path after these elements says what is around the next one
pub record IsPath (before : List Node) (path : List Place) : Type 0 where
  pub long : IsLong before path
  pub around : (level : ℕ) → IsReady before level → Surrounds level before (innermost (take (level - 1) path))

-- there are as many domains and virtual machines as those elements have
pub record AreCounted (before : List Node) (domains : List Domain) (machines : List Machine) : Type 0 where
  pub domain_count : length domains ≡ count_before (codes "protection_domain") before
  pub machine_count : length machines ≡ count_before (codes "virtual_machine") before

pub in_domain : (k : Kind) (domain machine : Option ℕ) (place : Place) → IsDomainKind k → IsAround k domain machine place
    → (domain ≡ Some place.domain) × (machine ≡ None)
unfolding IsAround
in_domain kind.Domain domain machine place is around = around
in_domain kind.Child domain machine place is around = around
in_domain _ domain machine place is around = absurd is

pub longer : {X : Type 0} (xs : List X) (y : X) → length (xs ++ y ∷ []) ≡ length xs + 1
longer xs y = grind (arith, common_steps)

-- the innermost of a path with one more
last_more : (path : List Place) (place : Place) → innermost (path ++ place ∷ []) ≡ place
last_more path place =
    let last : length (path ++ place ∷ []) - 1 ≡ length path = omega (arith, longer path place) in
    unwrap_or-slice_get (path ++ place ∷ []) (length (path ++ place ∷ []) - 1) outermost
    ∙ ap (λ n. get_or (path ++ place ∷ []) n outermost) last
    ∙ get_or-append_seam path place [] outermost

take_shorter : {X : Type 0} (n m : ℕ) (xs : List X) → n ≤ m → take n (take m xs) ≡ take n xs
take_shorter zero m xs less = refl
take_shorter (suc n) zero xs less = absurd (omega (arith, less))
take_shorter (suc n) (suc m) [] less = refl
take_shorter (suc n) (suc m) (x ∷ xs) less = ap (λ ys. x ∷ ys) (take_shorter n m xs (omega (arith, less)))

ready_from : (before : List Node) (level : ℕ) → IsReady before level → 1 ≤ level
ready_from [] level ready = omega (arith, ready)
ready_from (node ∷ before) level ready = ready.0

-- the path is long enough for what may follow
ready_long : (before : List Node) (path : List Place) (level : ℕ) → IsReady before level → IsLong before path → level - 1 ≤ length path
ready_long [] path level ready long = omega (arith, ready)
ready_long (node ∷ before) path level ready long = omega (arith, ready.1, long)

-- an element that is less deep may follow too
pub ready_less : (before : List Node) (level less : ℕ) → IsReady before level → 1 ≤ less → less ≤ level → IsReady before less
ready_less [] level less ready from to = omega (arith, ready, from, to)
ready_less (node ∷ before) level less ready from to = (from, omega (arith, ready.1, to))

below : (a b : ℕ) → a < b → nat_lt a b ≡ true
below a b less = grind (arith, nat_tests)

above : (a b : ℕ) → b ≤ a → nat_lt a b ≡ false
above a b less = grind (arith, nat_tests)

-- what is nearest within one more element, and beside it
nearest_within : (name : List ℕ) (node : Node) (before : List Node) (level : ℕ) → node.level < level
    → nearest name level (node ∷ before) ≡ cond (is_named name node) (Some (count_before name before)) (nearest name node.level before)
unfolding nearest
nearest_within name node before level deeper =
    ap
    (λ t. cond t (cond (is_named name node) (Some (count_before name before)) (nearest name node.level before)) (nearest name level before))
    (below node.level level deeper)

nearest_beside : (name : List ℕ) (node : Node) (before : List Node) (level : ℕ) → level ≤ node.level
    → nearest name level (node ∷ before) ≡ nearest name level before
unfolding nearest
nearest_beside name node before level beside =
    ap
    (λ t. cond t (cond (is_named name node) (Some (count_before name before)) (nearest name node.level before)) (nearest name level before))
    (above node.level level beside)

-- what is around what stands in an element
pub around_of : (outer : Place) (k : Kind) (domain machine : Option ℕ) → outer.kind ≡ k → IsAround outer.kind domain machine outer
    → IsAround k domain machine outer
around_of outer k domain machine is around = subst (λ j. IsAround j domain machine outer) is around

-- the nearest element of a name, if the next has another name, and if it has this name
abbrev other_name : (known name : List ℕ) (x y : Option ℕ) → Type 0
other_name known name x y = cond (bytes_eq name known) x y ≡ y

beside_name : (known name one : List ℕ) (x y : Option ℕ) → name ≡ one → cond (bytes_eq one known) x y ≡ y → other_name known name x y
beside_name known name one x y is other = ap (λ n. cond (bytes_eq n known) x y) is ∙ other

same_name : (known name : List ℕ) (x y : Option ℕ) → name ≡ known → bytes_eq known known ≡ true → cond (bytes_eq name known) x y ≡ x
same_name known name x y is same = ap (λ n. cond (bytes_eq n known) x y) is ∙ ap (λ t. cond t x y) same

begun : (k : Kind) (before : List Node) (node : Node) (d : Description) (outer : Place) → IsWithin outer.kind k node.name
    → AreCounted before d.domains d.machines → Surrounds node.level before outer
    → IsAround k
    (cond (is_named (codes "protection_domain") node) (Some (count_before (codes "protection_domain") before)) (domain_at node.level before))
    (cond (is_named (codes "virtual_machine") node) (Some (count_before (codes "virtual_machine") before)) (machine_at node.level before))
    (inside d (record outer { kind = k }))
unfolding IsAround inside IsWithin
begun kind.Document before node d outer within counted around = absurd within
begun kind.System before node d outer within counted around =
    let none = around_of outer _ _ _ within.0 around in
    (beside_name _ _ _ _ _ within.1 refl ∙ none.0, beside_name _ _ _ _ _ within.1 refl ∙ none.1)
begun kind.Domain before node d outer within counted around =
    let none = around_of outer _ _ _ within.0 around in
    (same_name _ _ _ _ within.1 refl ∙ ap (λ n. Some n) (sym counted.domain_count), beside_name _ _ _ _ _ within.1 refl ∙ none.1)
begun kind.Child before node d outer within counted around =
    let here = in_domain outer.kind _ _ outer within.0 around in
    (same_name _ _ _ _ within.1 refl ∙ ap (λ n. Some n) (sym counted.domain_count), beside_name _ _ _ _ _ within.1 refl ∙ here.1)
begun kind.Machine before node d outer within counted around =
    let here = in_domain outer.kind _ _ outer within.0 around in
    (beside_name _ _ _ _ _ within.1 refl ∙ here.0, same_name _ _ _ _ within.1 refl ∙ ap (λ n. Some n) (sym counted.machine_count))
begun _ before node d outer within counted around = tt

inside_kind : (d : Description) (kind : Kind) (domain machine : ℕ)
    → (inside d (record { kind = kind; domain = domain; machine = machine })).kind ≡ kind
unfolding inside
inside_kind d kind.Domain domain machine = refl
inside_kind d kind.Child domain machine = refl
inside_kind d kind.Machine domain machine = refl
inside_kind d _ domain machine = refl

around_in : (k : Kind) (level : ℕ) (before : List Node) (node : Node) (here : Place) → here.kind ≡ k → node.level < level
    → IsAround k
    (cond (is_named (codes "protection_domain") node) (Some (count_before (codes "protection_domain") before)) (domain_at node.level before))
    (cond (is_named (codes "virtual_machine") node) (Some (count_before (codes "virtual_machine") before)) (machine_at node.level before))
    here
    → Surrounds level (node ∷ before) here
around_in k level before node here is deeper around =
    let domain = nearest_within (codes "protection_domain") node before level deeper in
    let machine = nearest_within (codes "virtual_machine") node before level deeper in
    subst (λ j. IsAround j (domain_at level (node ∷ before)) (machine_at level (node ∷ before)) here) (sym is)
    (subst (λ x. IsAround k x (machine_at level (node ∷ before)) here) (sym domain)
    (subst
    (λ x.
    IsAround k
    (cond (is_named (codes "protection_domain") node) (Some (count_before (codes "protection_domain") before)) (domain_at node.level before))
    x here)
    (sym machine) around))

around_beside : (level : ℕ) (before : List Node) (node : Node) (place : Place) → level ≤ node.level → Surrounds level before place
    → Surrounds level (node ∷ before) place
around_beside level before node place beside around =
    let domain = nearest_beside (codes "protection_domain") node before level beside in
    let machine = nearest_beside (codes "virtual_machine") node before level beside in
    subst (λ x. IsAround place.kind x (machine_at level (node ∷ before)) place) (sym domain)
    (subst (λ x. IsAround place.kind (domain_at level before) x place) (sym machine) around)

-- the path with one more element
pub path_more : (k : Kind) (before : List Node) (node : Node) (d : Description) (path : List Place) → IsReady before node.level
    → IsPath before path → AreCounted before d.domains d.machines → IsWithin (innermost (take (node.level - 1) path)).kind k node.name
    → IsPath (node ∷ before)
    (take (node.level - 1) path ++ inside d (record (innermost (take (node.level - 1) path)) { kind = k }) ∷ [])
path_more k before node d path ready is counted within =
    record {
      long = long;
      around = λ level may. cases level may (nat_lt node.level level) refl;
    }
  where
    outer : Place
    outer = innermost (take (node.level - 1) path)

    here : Place
    here = inside d (record outer { kind = k })

    first : List Place
    first = take (node.level - 1) path

    kept : length first ≡ node.level - 1
    kept = length-take-le (node.level - 1) path (ready_long before path node.level ready is.long)

    long : length (first ++ here ∷ []) ≡ node.level
    long = omega (arith, longer first here, kept, ready_from before node.level ready)

    cases : (level : ℕ) → (1 ≤ level) × (level ≤ node.level + 1) → (deeper : Bool) → nat_lt node.level level ≡ deeper
        → Surrounds level (node ∷ before) (innermost (take (level - 1) (first ++ here ∷ [])))
    cases level may true deeper =
        let within_it : node.level < level = grind (arith, nat_tests, deeper) in
        let all = take_all (level - 1) (first ++ here ∷ []) (omega (arith, long, within_it)) in
        subst (λ q. Surrounds level (node ∷ before) q) (sym (ap (λ p. innermost p) all ∙ last_more first here))
        (around_in k level before node here (inside_kind d k outer.domain outer.machine) within_it
        (begun k before node d outer within counted (is.around node.level ready)))
    cases level may false deeper =
        let beside : level ≤ node.level = grind (arith, nat_tests, deeper) in
        let same =
        take-append-le (level - 1) first (here ∷ []) (omega (arith, kept, beside))
        ∙ take_shorter (level - 1) (node.level - 1) path (omega (arith, beside)) in
        subst (λ q. Surrounds level (node ∷ before) q) (sym (ap (λ p. innermost p) same))
        (around_beside level before node (innermost (take (level - 1) path)) beside
        (is.around level (ready_less before node.level level ready may.0 beside)))
