-- Filled slots of a table that is built up: they come from the capabilities of its description, one from each.
use Rattle.std.{specs.List.AllZip, proofs.Common.{[], ℕ, ◌++◌, ◌∙◌, ◌∷◌, ◌≡◌, List, Ok, Option, Some, ap, map, refl, subst, sym, unwrap_or}}
use Rattle.{microkit.specs.Description.Description, machine.specs.{declared.layout.Filled.Filled, Layout.Layout}}
use Rattle.importing.specs.{declared.pieces.{Grant.Grant, Minting.Minting, Piece.Piece}, Grants.{grants_of, roots_of}, Origins.ComesFrom}
use Rattle.importing.specs.{Origins.origins_of, Pieces.pieces_of, Tables.{filled_up, grant_added, grants_added, piece_number, plan_for}}
use Rattle.importing.{specs.{Tables.{table_at, table_by}, Whole.filled_at}, proofs.Whole.{found, planned_was, stepped, table_whole}}

-- what is there is found with any default
there : (o : Option ℕ) (n : ℕ) → o ≡ Some n → o ≡ Some (unwrap_or o 0)
there o n e = e ∙ sym (ap (λ p. Some (unwrap_or p 0)) e)

grant_comes : (d : Description) (pieces : List Piece) (grant : Grant) (t u : Layout) → grant_added d pieces grant t ≡ Ok u
    → ComesFrom pieces (filled_at pieces grant) grant
unfolding grant_added
grant_comes d pieces grant t u e =
    let one = stepped _ _ u e in
    let two = stepped _ _ u one.2 in
    record {
      holder = there _ one.0 (found _ _ (piece_number pieces grant.holder) one.0 one.1);
      index = refl;
      object = there _ two.0 (found _ _ (piece_number pieces grant.target) two.0 two.1);
      detail = refl;
    }

grants_come : (d : Description) (pieces : List Piece) (grants : List Grant) (t u : Layout) → grants_added d pieces grants t ≡ Ok u
    → AllZip (ComesFrom pieces) (map (filled_at pieces) grants) grants
unfolding grants_added
grants_come d pieces [] t u e = tt
grants_come d pieces (grant ∷ grants) t u e =
    let one = stepped _ _ u e in
    (grant_comes d pieces grant t one.0 one.1, grants_come d pieces grants one.0 u one.2)

both_zip : {X Y : Type 0} (R : X → Y → Type 0) (f : Y → X) (ys zs : List Y) → AllZip R (map f ys) ys → AllZip R (map f zs) zs
    → AllZip R (map f (ys ++ zs)) (ys ++ zs)
both_zip R f [] zs one other = other
both_zip R f (y ∷ ys) zs one other = (one.0, both_zip R f ys zs one.1 other)

filled_come : (d : Description) (pieces : List Piece) (grants : List Grant) (t u : Layout) → filled_up d pieces grants t ≡ Ok u
    → AllZip (ComesFrom pieces) (map (filled_at pieces) (grants ++ roots_of d grants)) (grants ++ roots_of d grants)
unfolding filled_up
filled_come d pieces grants t u e =
    let one = stepped _ _ u e in
    let two = stepped _ _ u one.2 in
    both_zip (ComesFrom pieces) (filled_at pieces) grants (roots_of d grants) (grants_come d pieces grants t one.0 one.1)
    (grants_come d pieces (roots_of d grants) one.0 two.0 two.1)

table_come : (d : Description) (minting : Minting) (names : List (List ℕ)) (t : Layout)
    → table_by (pieces_of d) (plan_for d names (grants_of d minting)) ≡ Ok t
    → AllZip (ComesFrom (pieces_of d)) (map (filled_at (pieces_of d)) (origins_of d minting)) (origins_of d minting)
unfolding table_by
table_come d minting names t e =
    let one = stepped _ _ t e in
    let two = stepped _ _ t one.2 in
    filled_come d (pieces_of d) (grants_of d minting) one.0 two.0 two.1

pub caps_come : (d : Description) (minting : Minting) (t : Layout) → table_at d minting ≡ Ok t
    → AllZip (ComesFrom (pieces_of d)) t.caps (origins_of d minting)
unfolding table_at
caps_come d minting t e =
    let one = stepped _ _ t e in
    let plan = planned_was d minting one.0 one.1 in
    let built = subst (λ p. table_by (pieces_of d) p ≡ Ok t) plan.2 one.2 in
    subst (λ (caps : List Filled). AllZip (ComesFrom (pieces_of d)) caps (origins_of d minting))
    (sym (table_whole d minting t e).caps) (table_come d minting plan.0 t built)
