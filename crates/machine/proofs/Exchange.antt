-- Two slots that change places in the derivation tree.
use Rattle.std.specs.{Cmp.tied_itself, FinMap.{Entries.find, entries, get-entries, get-from_entries}, Ordering.is_eq}
use Rattle.std.{specs.Prelude.{Some, cond, if◌then◌else◌, map, option_map}, proofs.Common.{[], ◌∙◌, ◌∷◌, ◌≡◌, Bool}}
use Rattle.{std.proofs.Common.{List, ap, false, refl, subst, sym, true}, base.specs.declared.ids.SlotRef.SlotRef}
use Rattle.machine.specs.Machine.{Machine, parent_of, same_slot, slot_cmp}
use Rattle.machine.{specs.Tree.{exchange, with_exchanged}, proofs.LookUps.{one_slot, slot_total}}

pub slot_itself : (slot : SlotRef) → same_slot slot slot ≡ true
slot_itself slot = ap is_eq (tied_itself slot_total slot)

same_from : (a b : SlotRef) → a ≡ b → same_slot a b ≡ true
same_from a b e = subst (λ s. same_slot a s ≡ true) e (slot_itself a)

-- a second exchange undoes the first
pub exchange_twice : (a b q : SlotRef) → exchange a b (exchange a b q) ≡ q
exchange_twice a b q = by_first (same_slot q a) refl where
  back : (tie : Bool) → same_slot b a ≡ tie → q ≡ a → exchange a b b ≡ q
  back true is at = rw is (one_slot b a is ∙ sym at)
  back false is at = rw (is, slot_itself b) (sym at)

  by_second : (tie : Bool) → same_slot q a ≡ false → same_slot q b ≡ tie → exchange a b (exchange a b q) ≡ q
  by_second true apart is =
      let to : exchange a b q ≡ a = rw (apart, is) refl in
      ap (exchange a b) to ∙ ap (λ tie. if tie then b else if same_slot a b then a else a) (slot_itself a) ∙ sym (one_slot q b is)
  by_second false apart is =
      let to : exchange a b q ≡ q = rw (apart, is) refl in ap (exchange a b) to ∙ to

  by_first : (tie : Bool) → same_slot q a ≡ tie → exchange a b (exchange a b q) ≡ q
  by_first true is =
      let to : exchange a b q ≡ b = rw is refl in ap (exchange a b) to ∙ back (same_slot b a) refl (one_slot q a is)
  by_first false is = by_second (same_slot q b) is refl

same_exchanged : (a b q x : SlotRef) → same_slot q (exchange a b x) ≡ same_slot (exchange a b q) x
same_exchanged a b q x = by_tie (same_slot q (exchange a b x)) (same_slot (exchange a b q) x) refl refl where
  by_tie :
      (one two : Bool) → same_slot q (exchange a b x) ≡ one → same_slot (exchange a b q) x ≡ two → one ≡ two
  by_tie true true e f = refl
  by_tie false false e f = refl
  by_tie true false e f =
      sym (same_from (exchange a b q) x (ap (exchange a b) (one_slot q _ e) ∙ exchange_twice a b x)) ∙ f
  by_tie false true e f =
      sym e ∙ same_from q (exchange a b x) (sym (exchange_twice a b q) ∙ ap (exchange a b) (one_slot _ x f))

find_exchanged :
    (a b q : SlotRef) (pairs : List (SlotRef × SlotRef))
    → find slot_cmp q (map (λ pair. (exchange a b pair.0, exchange a b pair.1)) pairs)
    ≡ option_map (exchange a b) (find slot_cmp (exchange a b q) pairs)
find_exchanged a b q [] = refl
find_exchanged a b q (pair ∷ pairs) =
    ap
    (λ tie. cond tie (Some (exchange a b pair.1)) (find slot_cmp q (map (λ p. (exchange a b p.0, exchange a b p.1)) pairs)))
    (same_exchanged a b q pair.0)
    ∙ ap (cond (same_slot (exchange a b q) pair.0) (Some (exchange a b pair.1))) (find_exchanged a b q pairs)
    ∙ by_tie (same_slot (exchange a b q) pair.0) where
      by_tie :
          (tie : Bool)
          → cond tie (Some (exchange a b pair.1)) (option_map (exchange a b) (find slot_cmp (exchange a b q) pairs))
          ≡ option_map (exchange a b) (cond tie (Some pair.1) (find slot_cmp (exchange a b q) pairs))
      by_tie true = refl
      by_tie false = refl

pub parent_of-with_exchanged :
    (m : Machine) (a b q : SlotRef)
    → parent_of (with_exchanged m a b) q ≡ option_map (exchange a b) (parent_of m (exchange a b q))
unfolding parent_of with_exchanged
parent_of-with_exchanged m a b q =
    get-from_entries slot_total (map (λ pair. (exchange a b pair.0, exchange a b pair.1)) (entries m.parents)) q
    ∙ find_exchanged a b q (entries m.parents)
    ∙ ap (option_map (exchange a b)) (sym (get-entries m.parents (exchange a b q)))
