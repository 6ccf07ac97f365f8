-- The shares of a list, one after another: they are the list that was dealt.
use Rattle.std.proofs.Common.{ℕ, ◌++◌, ◌+◌, ◌∙◌, ◌≡◌, ◌≤◌, List, ap, arith, drop, length, map, slice_range, sym}
use Rattle.{std.proofs.lemmas.{List.{Folds.drop_split, append_assoc, map-append}, Nat.rows}, deal.specs.Shares.{share_of, start_of}}

starts_rise : (items workers worker : ℕ) → start_of items workers worker ≤ start_of items workers (worker + 1)
starts_rise items workers worker = grind (arith, rows)

-- what the shares before this one made, and what the rest will make, is the whole
pub next_share :
    {A B : Type 0} (f : A → B) (done part : List B) (items : List A) (workers worker : ℕ)
    → done ++ map f (drop (start_of (length items) workers worker) items) ≡ map f items
    → part ≡ map f (share_of items workers worker)
    → (done ++ part) ++ map f (drop (start_of (length items) workers (worker + 1)) items) ≡ map f items
unfolding share_of
next_share f done part items workers worker so_far is =
    let from = start_of (length items) workers worker in
    let to = start_of (length items) workers (worker + 1) in
    let cut = drop_split items from to (starts_rise (length items) workers worker) in
    append_assoc done part (map f (drop to items))
    ∙ ap (λ more. done ++ more) (ap (λ p. p ++ map f (drop to items)) is ∙ sym (map-append f (slice_range items from to) (drop to items)) ∙ ap (map f) (sym cut))
    ∙ so_far
