-- Capabilities and bindings of a table, added one after another if the tests say that the table takes them.
use Rattle.std.proofs.Common.{ℕ, ◌+◌, ◌<◌, ◌∙◌, ◌≡◌, ◌≤◌, Err, List, Ok, Option, Some, ap, arith, drop, get_or, length, true}
use Rattle.std.proofs.lemmas.{Bool.{and_parts, not-true}, List.drop_all}
use Rattle.{words.specs.{declared.faults.Fault.Fault, Reading.bind}, microkit.specs.Description.Description}
use Rattle.machine.specs.{declared.{layout.{Binding.Binding, Filled.Filled}, object.ObjectKind.ObjectKind}, Layout.Layout}
use Rattle.table.specs.Building.{AdmitsBinding, AdmitsCap}
use Rattle.importing.specs.{declared.{pieces.{Grant.Grant, Piece.Piece}, tables.Bond.Bond}, Tables.{bond_added, bonds_added}}
use Rattle.importing.{specs.Tables.{grant_added, grants_added, is_context, is_thread, takes_binding, takes_cap}, proofs.Regions.drop_more}
use Rattle.machine.specs.declared.object.ObjectKind.TheVariants as kind

-- a table admits a filled slot that it takes
pub admits_cap : (t : Layout) (filled : Filled) → takes_cap t filled ≡ true → filled.cap.original ≡ true → AdmitsCap t filled
unfolding takes_cap
admits_cap t filled takes original =
    let a = and_parts _ _ takes in
    let b = and_parts _ _ a.1 in
    let c = and_parts _ _ b.1 in
    let d = and_parts _ _ c.1 in
    record { rises = a.0; slot = b.0; root = c.0; fits = d.0; once = not-true _ d.1; original = original }

-- no capability is left
pub no_grant : (d : Description) (pieces : List Piece) (grants : List Grant) (i : ℕ) (t : Layout) → length grants ≤ i
    → grants_added d pieces (drop i grants) t ≡ Ok t
unfolding grants_added
no_grant d pieces grants i t past = ap (λ left. grants_added d pieces left t) (drop_all i grants past)

-- one is added
pub one_grant : (d : Description) (pieces : List Piece) (grants : List Grant) (i : ℕ) (none : Grant) (t next : Layout) → i < length grants
    → grant_added d pieces (get_or grants i none) t ≡ Ok next
    → grants_added d pieces (drop i grants) t ≡ grants_added d pieces (drop (i + 1) grants) next
unfolding grants_added bind
one_grant d pieces grants i none t next below added =
    ap (λ left. grants_added d pieces left t) (drop_more grants i none below)
    ∙ ap (λ step. bind step (λ u. grants_added d pieces (drop (i + 1) grants) u)) added

-- one is refused
pub bad_grant : (d : Description) (pieces : List Piece) (grants : List Grant) (i : ℕ) (none : Grant) (t : Layout) (fault : Fault)
    → i < length grants → grant_added d pieces (get_or grants i none) t ≡ Err fault
    → grants_added d pieces (drop i grants) t ≡ Err fault
unfolding grants_added bind
bad_grant d pieces grants i none t fault below refused =
    ap (λ left. grants_added d pieces left t) (drop_more grants i none below)
    ∙ ap (λ step. bind step (λ u. grants_added d pieces (drop (i + 1) grants) u)) refused

-- a table admits a binding that it takes

thread_kind : (o : Option ObjectKind) → is_thread o ≡ true → o ≡ Some kind.Tcb
thread_kind o is = grind arith

context_kind : (o : Option ObjectKind) → is_context o ≡ true → o ≡ Some kind.Context
context_kind o is = grind arith

pub admits_binding : (t : Layout) (binding : Binding) → takes_binding t binding ≡ true → AdmitsBinding t binding
unfolding takes_binding
admits_binding t binding takes =
    let a = and_parts _ _ takes in
    let b = and_parts _ _ a.1 in
    let c = and_parts _ _ b.1 in
    record { rises = a.0; thread = thread_kind _ b.0; context = context_kind _ c.0; once = not-true _ c.1 }

-- no binding is left
pub no_bond : (d : Description) (pieces : List Piece) (bonds : List Bond) (i : ℕ) (t : Layout) → length bonds ≤ i
    → bonds_added d pieces (drop i bonds) t ≡ Ok t
unfolding bonds_added
no_bond d pieces bonds i t past = ap (λ left. bonds_added d pieces left t) (drop_all i bonds past)

-- one is added
pub one_bond : (d : Description) (pieces : List Piece) (bonds : List Bond) (i : ℕ) (none : Bond) (t next : Layout) → i < length bonds
    → bond_added d pieces (get_or bonds i none) t ≡ Ok next
    → bonds_added d pieces (drop i bonds) t ≡ bonds_added d pieces (drop (i + 1) bonds) next
unfolding bonds_added bind
one_bond d pieces bonds i none t next below added =
    ap (λ left. bonds_added d pieces left t) (drop_more bonds i none below)
    ∙ ap (λ step. bind step (λ u. bonds_added d pieces (drop (i + 1) bonds) u)) added

-- one is refused
pub bad_bond : (d : Description) (pieces : List Piece) (bonds : List Bond) (i : ℕ) (none : Bond) (t : Layout) (fault : Fault)
    → i < length bonds → bond_added d pieces (get_or bonds i none) t ≡ Err fault
    → bonds_added d pieces (drop i bonds) t ≡ Err fault
unfolding bonds_added bind
bad_bond d pieces bonds i none t fault below refused =
    ap (λ left. bonds_added d pieces left t) (drop_more bonds i none below)
    ∙ ap (λ step. bind step (λ u. bonds_added d pieces (drop (i + 1) bonds) u)) refused
