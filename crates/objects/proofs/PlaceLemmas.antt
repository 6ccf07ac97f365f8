-- Entries at places after a change: each object has the entry that it had, except the one whose entry was changed or added; and the
-- entries by number are these.
use Rattle.std.specs.FinMap as finite
use Rattle.std.specs.{List.list_any, Prelude.{IsSome, None, Option, Some, is_some, option_and_then, option_map}}
use Rattle.std.proofs.Common.{[], ℕ, ◌∙◌, ◌≡◌, ◌≢◌, ◌⊎◌, ap, cond, inl, inr, map, refl, subst, sym, true}
use Rattle.std.proofs.lemmas.{Bool.cases_eq, Option.same_Some}
use Rattle.{slab.{specs.Slab.Slab, proofs.SlabLemmas.Updates-with_value}, base.specs.declared.ids.ObjId.ObjId}
use Rattle.machine.{specs.Machine.{id_cmp, same_id}, proofs.{FiniteLemmas.{by_key, get-tabulate}, LookUps.{id_apart, id_total}}}
use Rattle.objects.specs.declared.{entry.Entry.Entry, numbers.Places.Places, store.Store.TheInside.Inside}
use Rattle.objects.specs.{Entries.{Entries, entry_of, with_entry}, Places.{AddsEntry, IsPlaced, RemovesEntry, SameEntries}}
use Rattle.objects.specs.Places.{changed, changed_at, entries_by_number, numbers_in, placed, places_in, with_placed}
use Rattle.objects.proofs.{EntryLemmas.{entry_of-with_entry, some-none}, NumberLemmas.{number_listed, unplaced}}
use Rattle.slab.specs.Slab as slab

-- no two numbers share a place
abbrev pub IsApart : (ℕ → Option ℕ) → Type 0
IsApart places = (a b place : ℕ) → places a ≡ Some place → places b ≡ Some place → a ≡ b

module _ (entries : Slab Entry) (change : Entry → Entry) where
  at_place :
      (place : ℕ) (o : Option Entry) → slab.get entries place ≡ o
      → slab.get (changed_at entries change place o) place ≡ option_map change o
  at_place place None e = e
  at_place place (Some entry) e = (Updates-with_value entries place (change entry) (ap is_some e)).changed

  at_other :
      (place other : ℕ) (o : Option Entry) → slab.get entries place ≡ o → other ≢ place
      → slab.get (changed_at entries change place o) other ≡ slab.get entries other
  at_other place other None e apart = refl
  at_other place other (Some entry) e apart = (Updates-with_value entries place (change entry) (ap is_some e)).others other apart

  changed_here :
      (o : Option ℕ)
      → option_and_then (slab.get (changed entries change o)) o ≡ option_map change (option_and_then (slab.get entries) o)
  changed_here None = refl
  changed_here (Some place) = at_place place (slab.get entries place) refl

  changed_elsewhere :
      (o q : Option ℕ) → ((place : ℕ) → o ≡ Some place → q ≡ Some place → ⊥)
      → option_and_then (slab.get (changed entries change o)) q ≡ option_and_then (slab.get entries) q
  changed_elsewhere None q apart = refl
  changed_elsewhere (Some place) None apart = refl
  changed_elsewhere (Some place) (Some other) apart =
      at_other place other (slab.get entries place) refl (λ is. apart place refl (ap Some is))

  -- no entry is added or removed
  pub is_some-changed :
      (o : Option ℕ) (place : ℕ) → is_some (slab.get (changed entries change o) place) ≡ is_some (slab.get entries place)
  is_some-changed None place = refl
  is_some-changed (Some at) place =
      elim (cases_eq place at) [
        | inl same ↦
            subst (λ k. is_some (slab.get (changed_at entries change at (slab.get entries at)) k) ≡ is_some (slab.get entries k))
            (sym same) (ap is_some (at_place at (slab.get entries at) refl) ∙ mapped (slab.get entries at))
        | inr differs ↦ ap is_some (at_other at place (slab.get entries at) refl differs)
      ]
    where
      mapped : (o : Option Entry) → is_some (option_map change o) ≡ is_some o
      mapped None = refl
      mapped (Some entry) = refl

-- a change to one object's entry is seen there and nowhere else
pub placed-with_placed :
    (places : ℕ → Option ℕ) (entries : Slab Entry) → IsApart places → (id : ObjId) (change : Entry → Entry) (q : ObjId)
    → placed places (with_placed places entries id change) q
    ≡ cond (same_id q id) (option_map change (placed places entries q)) (placed places entries q)
placed-with_placed places entries apart id change q =
    by_key id_total id_apart q id _ _ _
    (λ is.
    subst (λ k. placed places (with_placed places entries id change) k ≡ option_map change (placed places entries k))
    (sym is) (changed_here entries change (places id.0)))
    (λ differs.
    changed_elsewhere entries change (places id.0) (places q.0)
    (λ place here there. differs (ap (λ n. record { 0 = n }) (apart q.0 id.0 place there here))))

-- an added entry is found under its number, and every other object has the entry that it had
pub placed-added :
    (places places' : ℕ → Option ℕ) (entries entries' : Slab Entry) (id : ObjId) (entry : Entry)
    → ((a place : ℕ) → places a ≡ Some place → IsSome (slab.get entries place))
    → AddsEntry places places' entries entries' id.0 entry → (q : ObjId)
    → placed places' entries' q ≡ cond (same_id q id) (Some entry) (placed places entries q)
placed-added places places' entries entries' id entry held adds q =
    by_key id_total id_apart q id _ _ _
    (λ is.
    subst (λ k. placed places' entries' k ≡ Some entry) (sym is)
    (ap (option_and_then (slab.get entries')) adds.placed ∙ adds.added.changed))
    (λ differs.
    ap (option_and_then (slab.get entries'))
    (adds.stays q.0 (λ same. differs (ap (λ n. record { 0 = n }) same)))
    ∙ kept (places q.0) refl)
  where
    kept : (o : Option ℕ) → places q.0 ≡ o → option_and_then (slab.get entries') o ≡ option_and_then (slab.get entries) o
    kept None e = refl
    kept (Some place) e =
        adds.added.others place
        (λ is. some-none (slab.get entries place) (held q.0 place e) (ap (slab.get entries) is ∙ adds.vacant))

pub placed-same :
    (places places' : ℕ → Option ℕ) (entries entries' : Slab Entry) → SameEntries places places' entries entries' → (q : ObjId)
    → placed places' entries' q ≡ placed places entries q
placed-same places places' entries entries' same q =
    ap (option_and_then (slab.get entries')) (same.placed q.0) ∙ kept (places q.0) where
      kept : (o : Option ℕ) → option_and_then (slab.get entries') o ≡ option_and_then (slab.get entries) o
      kept None = refl
      kept (Some place) = same.kept place

-- an object with an entry is listed
listed :
    (places : Places) (entries : Slab Entry) (q : ObjId) → IsSome (placed (places_in places) entries q)
    → list_any (same_id q) (map (λ number. record { 0 = number }) (numbers_in places)) ≡ true
listed places entries q some = number_listed places q (there (places_in places q.0) some) where
  there : (o : Option ℕ) → IsSome (option_and_then (slab.get entries) o) → IsSome o
  there None some = some
  there (Some place) some = refl

-- an entry is found by its number
pub by_number : (s : Inside) (q : ObjId) → entry_of (entries_by_number s) q ≡ placed (places_in s.places) s.entries q
unfolding entries_by_number
by_number s q =
    get-tabulate id_total id_apart (placed (places_in s.places) s.entries)
    (map (λ number. record { 0 = number }) (numbers_in s.places)) q
    (listed s.places s.entries q)

-- entries are equal if each object has the same
same_entries : (m n : Entries) → ((q : ObjId) → entry_of m q ≡ entry_of n q) → m ≡ n
same_entries = finite.same_map id_total id_apart

pub IsPlaced-empty : (s : Inside) → s.places.early ≡ [] → s.places.late.entries ≡ [] → IsPlaced s
IsPlaced-empty s early late =
    let nowhere = unplaced s.places early late in
    record {
      apart = λ a b place here there. (let none = nowhere a in cc);
      held = λ a place is. (let none = nowhere a in cc);
    }

pub empty_by_number : (s : Inside) → s.places.early ≡ [] → s.places.late.entries ≡ [] → entries_by_number s ≡ finite.empty
empty_by_number s early late =
    same_entries _ _
    (λ q.
    by_number s q ∙ ap (option_and_then (slab.get s.entries)) (unplaced s.places early late q.0)
    ∙ sym (finite.get-empty id_cmp q))

-- one entry changes

pub IsPlaced-changed :
    (s : Inside) → IsPlaced s → (id : ObjId) (change : Entry → Entry)
    → IsPlaced (record s { entries = with_placed (places_in s.places) s.entries id change })
IsPlaced-changed s is id change =
    record {
      apart = is.apart;
      held = λ a place here. is_some-changed s.entries change (places_in s.places id.0) place ∙ is.held a place here;
    }

pub changed_by_number :
    (s : Inside) → IsPlaced s → (id : ObjId) (change : Entry → Entry)
    → entries_by_number (record s { entries = with_placed (places_in s.places) s.entries id change }) ≡ with_entry (entries_by_number s) id change
changed_by_number s is id change =
    same_entries _ _
    (λ q.
    by_number (record s { entries = with_placed (places_in s.places) s.entries id change }) q
    ∙ placed-with_placed (places_in s.places) s.entries is.apart id change q
    ∙ ap (λ o. cond (same_id q id) (option_map change o) o) (sym (by_number s q))
    ∙ sym (entry_of-with_entry (entries_by_number s) id change q))

-- memory for more was found, and nothing else has changed

abbrev SameIn : Inside → Inside → Type 0
SameIn s t = SameEntries (places_in s.places) (places_in t.places) s.entries t.entries

pub IsPlaced-same : (s t : Inside) → IsPlaced s → SameIn s t → IsPlaced t
IsPlaced-same s t is same =
    record {
      apart = λ a b place here there. is.apart a b place (sym (same.placed a) ∙ here) (sym (same.placed b) ∙ there);
      held = λ a place here. ap is_some (same.kept place) ∙ is.held a place (sym (same.placed a) ∙ here);
    }

pub same_by_number : (s t : Inside) → SameIn s t → entries_by_number t ≡ entries_by_number s
same_by_number s t same =
    same_entries _ _
    (λ q.
    by_number t q ∙ placed-same (places_in s.places) (places_in t.places) s.entries t.entries same q ∙ sym (by_number s q))

-- an entry is added

module _ (s t : Inside) (is : IsPlaced s) (number : ℕ) (entry : Entry)
    (adds : AddsEntry (places_in s.places) (places_in t.places) s.entries t.entries number entry) where
  before : (a : ℕ) → a ≢ number → places_in s.places a ≡ places_in t.places a
  before a differs = sym (adds.stays a differs)

  clash :
      (b place : ℕ) → b ≢ number → places_in t.places b ≡ Some place → places_in t.places number ≡ Some place → ⊥
  clash b place differs there here =
      let same : adds.place ≡ place = same_Some adds.place place (sym adds.placed ∙ here) in
      some-none (slab.get s.entries place) (is.held b place (before b differs ∙ there))
      (subst (λ k. slab.get s.entries k ≡ None) same adds.vacant)

  held_after :
      (a place : ℕ) → places_in t.places a ≡ Some place → (place ≡ adds.place) ⊎ (place ≢ adds.place) → (a ≡ number) ⊎ (a ≢ number)
      → IsSome (slab.get t.entries place)
  held_after a place here (inl same) one = ap is_some (ap (slab.get t.entries) same ∙ adds.added.changed)
  held_after a place here (inr apart) (inl one) =
      absurd (apart (same_Some place adds.place (sym (subst (λ n. places_in t.places n ≡ Some place) one here) ∙ adds.placed)))
  held_after a place here (inr apart) (inr one) =
      ap is_some (adds.added.others place apart) ∙ is.held a place (before a one ∙ here)

  pub IsPlaced-added : IsPlaced t
  IsPlaced-added =
      record {
        apart = λ a b place here there. elim (cases_eq a number) [
          | inl first ↦ elim (cases_eq b number) [
            | inl second ↦ first ∙ sym second
            | inr differs ↦ absurd (clash b place differs there (subst (λ n. places_in t.places n ≡ Some place) first here))
          ]
          | inr differs ↦ elim (cases_eq b number) [
            | inl second ↦ absurd (clash a place differs here (subst (λ n. places_in t.places n ≡ Some place) second there))
            | inr apart ↦ is.apart a b place (before a differs ∙ here) (before b apart ∙ there)
          ]
        ];
        held = λ a place here. held_after a place here (cases_eq place adds.place) (cases_eq a number);
      }

  pub added_by_number : entries_by_number t ≡ finite.insert (entries_by_number s) (record { 0 = number }) entry
  added_by_number =
      same_entries _ _
      (λ q.
      by_number t q
      ∙ placed-added (places_in s.places) (places_in t.places) s.entries t.entries (record { 0 = number }) entry is.held adds q
      ∙ ap (cond (same_id q (record { 0 = number })) (Some entry)) (sym (by_number s q))
      ∙ sym (finite.get-insert id_total (entries_by_number s) (record { 0 = number }) entry q))

-- an entry is removed

module _ (s t : Inside) (is : IsPlaced s) (id : ObjId)
    (removes : RemovesEntry (places_in s.places) (places_in t.places) s.entries t.entries id.0) where
  another : (a place : ℕ) → places_in t.places a ≡ Some place → a ≢ id.0
  another a place here same = let none : places_in t.places a ≡ None = ap (places_in t.places) same ∙ removes.gone in cc

  placed_before : (a place : ℕ) → places_in t.places a ≡ Some place → places_in s.places a ≡ Some place
  placed_before a place here = sym (removes.stays a (another a place here)) ∙ here

  entry_stays :
      (a place : ℕ) → a ≢ id.0 → places_in s.places a ≡ Some place → slab.get t.entries place ≡ slab.get s.entries place
  entry_stays a place differs here = removes.kept place (λ there. differs (is.apart a id.0 place here there))

  pub IsPlaced-removed : IsPlaced t
  IsPlaced-removed =
      record {
        apart = λ a b place here there. is.apart a b place (placed_before a place here) (placed_before b place there);
        held =
            λ a place here.
            let was = placed_before a place here in
            ap is_some (entry_stays a place (another a place here) was) ∙ is.held a place was;
      }

  placed-removed :
      (q : ObjId)
      → placed (places_in t.places) t.entries q ≡ cond (same_id q id) None (placed (places_in s.places) s.entries q)
  placed-removed q =
      by_key id_total id_apart q id _ _ _
      (λ same. ap (placed (places_in t.places) t.entries) same ∙ ap (option_and_then (slab.get t.entries)) removes.gone)
      (λ apart.
      let differs : q.0 ≢ id.0 = λ same. apart (ap (λ n. record { 0 = n }) same) in
      ap (option_and_then (slab.get t.entries)) (removes.stays q.0 differs) ∙ by_place differs (places_in s.places q.0) refl)
    where
      by_place :
          q.0 ≢ id.0 → (o : Option ℕ) → places_in s.places q.0 ≡ o
          → option_and_then (slab.get t.entries) o ≡ option_and_then (slab.get s.entries) o
      by_place differs None here = refl
      by_place differs (Some place) here = entry_stays q.0 place differs here

  pub removed_by_number : entries_by_number t ≡ finite.remove (entries_by_number s) id
  removed_by_number =
      same_entries _ _
      (λ q.
      by_number t q ∙ placed-removed q ∙ ap (cond (same_id q id) None) (sym (by_number s q))
      ∙ sym (finite.get-remove id_total (entries_by_number s) id q))
