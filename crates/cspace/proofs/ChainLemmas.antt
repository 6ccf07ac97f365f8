-- Walks and chains: a walk ends just where a chain does.
use Rattle.std.proofs.Common.{[], ℕ, ◌++◌, ◌+◌, ◌<◌, ◌∙◌, ◌∷◌, ◌≡◌, ◌⊎◌, Bool, Err, List, None, Ok, Option, Result, Some, ap, append_assoc}
use Rattle.std.proofs.Common.{arith, false, inl, inr, length, length-append, refl, subst, suc, sym, true, zero}
use Rattle.base.specs.declared.{ids.SlotRef.SlotRef, refusal.LookupFailure.{LookupFailure, TheVariants.{DepthMismatch, GuardMismatch}}}
use Rattle.base.specs.declared.refusal.LookupFailure.TheVariants.{InvalidRoot, MissingCapability}
use Rattle.machine.specs.{Bits.{after, split}, Lookup.{Level, hop, level_at, onward, walk}, Machine.Machine}
use Rattle.cspace.specs.Chain.{BeginsWith, Hinders, IsWhole, Joins, Leads, Link, Misses, Resolves, TakesBits, selected, spelled, taken}
use Rattle.cspace.proofs.{HopLemmas.{hop-apart, hop-deep, hop-slot}, WalkLemmas.{walk-done, walk-err, walk-none}}

-- beginnings of strings

after-cons : (b : Bool) (bs cs : List Bool) → after (b ∷ bs) (b ∷ cs) ≡ after bs cs
after-cons true bs cs = refl
after-cons false bs cs = refl

after-append : (beginning rest : List Bool) → after beginning (beginning ++ rest) ≡ Some rest
after-append [] rest = refl
after-append (b ∷ bs) rest = after-cons b bs (bs ++ rest) ∙ after-append bs rest

after-some : (beginning string rest : List Bool) → after beginning string ≡ Some rest → beginning ++ rest ≡ string
after-some [] string rest e = let p : string ≡ rest = cc in sym p
after-some (b ∷ bs) [] rest e = cc
after-some (true ∷ bs) (true ∷ cs) rest e = ap (λ s. true ∷ s) (after-some bs cs rest e)
after-some (false ∷ bs) (false ∷ cs) rest e = ap (λ s. false ∷ s) (after-some bs cs rest e)
after-some (true ∷ bs) (false ∷ cs) rest e = cc
after-some (false ∷ bs) (true ∷ cs) rest e = cc

pub after-begins :
    (beginning string : List Bool) → BeginsWith string beginning
    → (rest : List Bool) × (after beginning string ≡ Some rest) × (beginning ++ rest ≡ string)
after-begins beginning string h = (h.0, ap (after beginning) (sym h.1) ∙ after-append beginning h.0, h.1)

after-none : (beginning string : List Bool) → (BeginsWith string beginning → ⊥) → after beginning string ≡ None
after-none beginning string apart = by_result (after beginning string) refl where
  by_result : (r : Option (List Bool)) → after beginning string ≡ r → r ≡ None
  by_result None e = refl
  by_result (Some rest) e = absurd (apart (rest, after-some beginning string rest e))

-- first bits of strings

with_first :
    (b : Bool) (size : ℕ) (string : List Bool) (parts : List Bool × List Bool) → split size string ≡ Some parts
    → split (suc size) (b ∷ string) ≡ Some (b ∷ parts.0, parts.1)
with_first b size string parts e = rw e refl

pub split-append : (size : ℕ) (first rest : List Bool) → length first ≡ size → split size (first ++ rest) ≡ Some (first, rest)
split-append zero [] rest e = refl
split-append zero (b ∷ bs) rest e = absurd (omega arith)
split-append (suc size) [] rest e = absurd (omega arith)
split-append (suc size) (b ∷ bs) rest e =
    let shorter : length bs ≡ size = omega arith in with_first b size (bs ++ rest) (bs, rest) (split-append size bs rest shorter)

split-short : (size : ℕ) (string : List Bool) → length string < size → split size string ≡ None
split-short zero string h = absurd (omega arith)
split-short (suc size) [] h = refl
split-short (suc size) (b ∷ bs) h =
    let shorter : length bs < size = omega arith in let e = split-short size bs shorter in rw e refl

-- what a split says of its string
abbrev IsSplit : ℕ → List Bool → Option (List Bool × List Bool) → Type 0
IsSplit size string None = length string < size
IsSplit size string (Some parts) = (length parts.0 ≡ size) × (parts.0 ++ parts.1 ≡ string)

split-is : (size : ℕ) (string : List Bool) → IsSplit size string (split size string)
split-is zero string = (refl, refl)
split-is (suc size) [] = omega arith
split-is (suc size) (b ∷ bs) = longer (split size bs) refl (split-is size bs) where
  longer :
      (r : Option (List Bool × List Bool)) → split size bs ≡ r → IsSplit size bs r
      → IsSplit (suc size) (b ∷ bs) (split (suc size) (b ∷ bs))
  longer None e h = rw e (omega arith)
  longer (Some parts) e h = rw e (ap suc h.0, ap (λ s. b ∷ s) h.1)

-- hops

pub hop-link : (link : Link) (rest : List Bool) → IsWhole link → hop link.level (taken link ++ rest) ≡ Ok (selected link, rest)
hop-link link rest whole =
    let begun : after link.level.guard (taken link ++ rest) ≡ Some (link.index ++ rest) =
    rw append_assoc (after-append link.level.guard (link.index ++ rest)) in
    hop-slot link.level (taken link ++ rest) (link.index ++ rest) (link.index, rest) begun
    (split-append link.level.radix link.index rest whole)

pub hop-hinders :
    (failure : LookupFailure) (level : Level) (rest : List Bool) → Hinders failure level rest → hop level rest ≡ Err failure
hop-hinders GuardMismatch level rest h = hop-apart level rest (after-none level.guard rest h)
hop-hinders DepthMismatch level rest h =
    let begun = after-begins level.guard rest h.0 in
    let whole : length level.guard + length begun.0 ≡ length rest = sym (length-append level.guard begun.0) ∙ ap length begun.2 in
    let deep : length begun.0 < level.radix = omega (arith, h.1) in
    hop-deep level rest begun.0 begun.1 (split-short level.radix begun.0 deep)
hop-hinders InvalidRoot level rest h = absurd h
hop-hinders MissingCapability level rest h = absurd h

-- a walk goes on if bits are left
onward-some :
    (go : Level → List Bool → Result (SlotRef × List Bool) LookupFailure) (m : Machine) (slot : SlotRef) (rest : List Bool)
    (next : Level)
    → 0 < length rest → level_at m slot ≡ Some next
    → onward go m (Ok (slot, rest)) ≡ go next rest
onward-some go m slot [] next h e = absurd (omega arith)
onward-some go m slot (b ∷ bs) next h e = rw e refl

walk-onward :
    (most : ℕ) (m : Machine) (level : Level) (string : List Bool) (slot : SlotRef) (rest : List Bool) (next : Level)
    → 0 < length rest → hop level string ≡ Ok (slot, rest) → level_at m slot ≡ Some next
    → walk (suc most) m level string ≡ walk most m next rest
unfolding walk
walk-onward most m level string slot rest next h e at =
    ap (onward (walk most m) m) e ∙ onward-some (walk most m) m slot rest next h at

-- a link takes bits
length-link :
    (link : Link) (rest string : List Bool) → IsWhole link → 0 < link.level.radix → taken link ++ rest ≡ string
    → length rest < length string
length-link link rest string whole radix spells =
    let all : length (taken link) + length rest ≡ length string = sym (length-append (taken link) rest) ∙ ap length spells in
    let bits : length (taken link) ≡ length link.level.guard + length link.index = length-append link.level.guard link.index in
    omega (arith, all, bits, whole)

walk-link :
    (most : ℕ) (m : Machine) (from next : Level) (link : Link) (rest string : List Bool) → Joins m from link next
    → taken link ++ rest ≡ string → 0 < length rest
    → walk (suc most) m from string ≡ walk most m next rest
walk-link most m from next link rest string joins spells left =
    let hopped =
    ap (λ level. hop level string) (sym joins.here) ∙ ap (hop link.level) (sym spells) ∙ hop-link link rest joins.whole in
    walk-onward most m from string (selected link) rest next left hopped joins.held

-- a chain ends where the lookup does

abbrev pub Ends : Machine → Level → List Bool → Result (SlotRef × List Bool) LookupFailure → Type 0
Ends m from string (Ok place) = Resolves m from string place.0 place.1
Ends m from string (Err failure) = Misses m from string failure

longer_chain :
    (m : Machine) (from next : Level) (link : Link) (string rest : List Bool) (end : Result (SlotRef × List Bool) LookupFailure)
    → Joins m from link next → taken link ++ rest ≡ string
    → Ends m next rest end → Ends m from string end
longer_chain m from next link string rest (Ok place) joins spells h =
    record {
      links = link ∷ h.links;
      last = h.last;
      leads = (next, joins, h.leads);
      whole = h.whole;
      spells =
          append_assoc (taken link) (spelled h.links) (taken h.last ++ place.1) ∙ ap (λ s. taken link ++ s) h.spells ∙ spells;
      selects = h.selects;
      ends = h.ends;
    }
longer_chain m from next link string rest (Err failure) joins spells h =
    record {
      links = link ∷ h.links;
      to = h.to;
      rest = h.rest;
      leads = (next, joins, h.leads);
      spells = append_assoc (taken link) (spelled h.links) h.rest ∙ ap (λ s. taken link ++ s) h.spells ∙ spells;
      left = h.left;
      why = h.why;
    }

ends-step :
    (most : ℕ) (m : Machine) (from : Level) (string : List Bool) → TakesBits m → 0 < from.radix → 0 < length string
    → ((next : Level) (rest : List Bool) → 0 < next.radix → length rest < length string → 0 < length rest
    → Ends m next rest (walk most m next rest))
    → Ends m from string (walk (suc most) m from string)
ends-step most m from string takes radix some below = by_guard (after from.guard string) refl where
  by_slot :
      (link : Link) (rest : List Bool) → link.level ≡ from → IsWhole link → taken link ++ rest ≡ string
      → hop from string ≡ Ok (selected link, rest)
      → (next : Option Level) → level_at m (selected link) ≡ next → Ends m from string (walk (suc most) m from string)
  by_slot link rest here whole spells hopped None at =
      subst (Ends m from string) (sym (walk-none (suc most) m from string (selected link) rest (omega arith) hopped at))
      (record { links = []; last = link; leads = sym here; whole = whole; spells = spells; selects = refl; ends = inr at })
  by_slot link [] here whole spells hopped (Some next) at =
      subst (Ends m from string) (sym (walk-done (suc most) m from string (selected link) (omega arith) hopped))
      (record { links = []; last = link; leads = sym here; whole = whole; spells = spells; selects = refl; ends = inl refl })
  by_slot link (b ∷ bs) here whole spells hopped (Some next) at =
      let takes_some : 0 < link.level.radix = subst (λ (level : Level). 0 < level.radix) (sym here) radix in
      let shorter = length-link link (b ∷ bs) string whole takes_some spells in
      let joins : Joins m from link next = record { here = here; whole = whole; held = at } in
      subst (Ends m from string) (sym (walk-onward most m from string (selected link) (b ∷ bs) next (omega arith) hopped at))
      (longer_chain m from next link string (b ∷ bs) (walk most m next (b ∷ bs)) joins spells
      (below next (b ∷ bs) (takes (selected link) next at) shorter (omega arith)))

  by_split :
      (rest : List Bool) → after from.guard string ≡ Some rest → (parts : Option (List Bool × List Bool))
      → split from.radix rest ≡ parts → IsSplit from.radix rest parts
      → Ends m from string (walk (suc most) m from string)
  by_split rest begun None e deep =
      let spells = after-some from.guard string rest begun in
      let all : length from.guard + length rest ≡ length string = sym (length-append from.guard rest) ∙ ap length spells in
      let why : length string < length from.guard + from.radix = omega (arith, all, deep) in
      subst (Ends m from string)
      (sym (walk-err (suc most) m from string DepthMismatch (omega arith) (hop-deep from string rest begun e)))
      (record { links = []; to = from; rest = string; leads = refl; spells = refl; left = some; why = ((rest, spells), why) })
  by_split rest begun (Some parts) e whole =
      let spells =
      append_assoc from.guard parts.0 parts.1 ∙ ap (λ s. from.guard ++ s) whole.1 ∙ after-some from.guard string rest begun in
      let link : Link = record { level = from; index = parts.0 } in
      by_slot link parts.1 refl whole.0 spells (hop-slot from string rest parts begun e) (level_at m (selected link)) refl

  by_guard : (r : Option (List Bool)) → after from.guard string ≡ r → Ends m from string (walk (suc most) m from string)
  by_guard None e =
      subst (Ends m from string) (sym (walk-err (suc most) m from string GuardMismatch (omega arith) (hop-apart from string e)))
      (record {
        links = [];
        to = from;
        rest = string;
        leads = refl;
        spells = refl;
        left = some;
        why = λ begins. let begun = (after-begins from.guard string begins).1 in let clash : None ≡ Some _ = sym e ∙ begun in cc;
      })
  by_guard (Some rest) e = by_split rest e (split from.radix rest) refl (split-is from.radix rest)

pub ends-walk :
    (most : ℕ) (m : Machine) (from : Level) (string : List Bool) → TakesBits m → 0 < from.radix → 0 < length string
    → length string < most → Ends m from string (walk most m from string)
ends-walk zero m from string takes radix some fuel = absurd (omega arith)
ends-walk (suc most) m from string takes radix some fuel =
    ends-step most m from string takes radix some
    (λ next rest r shorter s. let enough : length rest < most = omega arith in ends-walk most m next rest takes r s enough)

-- each CNode on a chain takes bits
pub leads-radix :
    (m : Machine) (from to : Level) (links : List Link) → TakesBits m → 0 < from.radix → Leads m from links to → 0 < to.radix
leads-radix m from to [] takes radix leads = subst (λ (level : Level). 0 < level.radix) leads radix
leads-radix m from to (link ∷ links) takes radix leads =
    leads-radix m leads.0 to links takes (takes (selected link) leads.0 leads.1.held) leads.2

-- a link at a CNode that takes bits leaves fewer
length-joined :
    (m : Machine) (from next : Level) (link : Link) (rest string : List Bool) → Joins m from link next → 0 < from.radix
    → taken link ++ rest ≡ string → length rest < length string
length-joined m from next link rest string joins radix spells =
    length-link link rest string joins.whole (subst (λ (level : Level). 0 < level.radix) (sym joins.here) radix) spells

walk-resolves :
    (links : List Link) (most : ℕ) (m : Machine) (from : Level) (string : List Bool) (last : Link) (rest : List Bool)
    → TakesBits m → 0 < from.radix → length string < most
    → Leads m from links last.level → IsWhole last → spelled links ++ (taken last ++ rest) ≡ string
    → (rest ≡ []) ⊎ (level_at m (selected last) ≡ None) → walk most m from string ≡ Ok (selected last, rest)
walk-resolves links zero m from string last rest takes radix fuel leads whole spells ends = absurd (omega arith)
walk-resolves [] (suc most) m from string last rest takes radix fuel leads whole spells ends = by_end ends where
  hopped : hop from string ≡ Ok (selected last, rest)
  hopped = ap (λ level. hop level string) leads ∙ ap (hop last.level) (sym spells) ∙ hop-link last rest whole

  by_end : (rest ≡ []) ⊎ (level_at m (selected last) ≡ None) → walk (suc most) m from string ≡ Ok (selected last, rest)
  by_end (inl none) =
      let found : List Bool → Result (SlotRef × List Bool) LookupFailure = λ s. Ok (selected last, s) in
      let e = ap found none in walk-done (suc most) m from string (selected last) (omega arith) (hopped ∙ e) ∙ sym e
  by_end (inr none) = walk-none (suc most) m from string (selected last) rest (omega arith) hopped none
walk-resolves (link ∷ links) (suc most) m from string last rest takes radix fuel leads whole spells ends =
    let tail = spelled links ++ (taken last ++ rest) in
    let joined = sym (append_assoc (taken link) (spelled links) (taken last ++ rest)) ∙ spells in
    let next_radix = takes (selected link) leads.0 leads.1.held in
    let last_takes =
    length-link last rest (taken last ++ rest) whole (leads-radix m leads.0 last.level links takes next_radix leads.2) refl in
    let left : 0 < length tail = omega (arith, last_takes, length-append (spelled links) (taken last ++ rest)) in
    let shorter = length-joined m from leads.0 link tail string leads.1 radix joined in
    let enough : length tail < most = omega (arith, shorter) in
    walk-link most m from leads.0 link tail string leads.1 joined left
    ∙ walk-resolves links most m leads.0 tail last rest takes next_radix enough leads.2 whole refl ends

walk-misses :
    (links : List Link) (most : ℕ) (m : Machine) (from to : Level) (string rest : List Bool) (failure : LookupFailure)
    → TakesBits m → 0 < from.radix → length string < most
    → Leads m from links to → spelled links ++ rest ≡ string → 0 < length rest → Hinders failure to rest
    → walk most m from string ≡ Err failure
walk-misses links zero m from to string rest failure takes radix fuel leads spells left why = absurd (omega arith)
walk-misses [] (suc most) m from to string rest failure takes radix fuel leads spells left why =
    walk-err (suc most) m from string failure (omega arith)
    (ap (λ level. hop level string) leads ∙ ap (hop to) (sym spells) ∙ hop-hinders failure to rest why)
walk-misses (link ∷ links) (suc most) m from to string rest failure takes radix fuel leads spells left why =
    let tail = spelled links ++ rest in
    let joined = sym (append_assoc (taken link) (spelled links) rest) ∙ spells in
    let some : 0 < length tail = omega (arith, length-append (spelled links) rest) in
    let shorter = length-joined m from leads.0 link tail string leads.1 radix joined in
    let enough : length tail < most = omega (arith, shorter) in
    walk-link most m from leads.0 link tail string leads.1 joined some
    ∙ walk-misses links most m leads.0 to tail rest failure takes (takes (selected link) leads.0 leads.1.held) enough leads.2 refl
    left why

-- the walk and the chain end alike
pub walk-ends :
    (most : ℕ) (m : Machine) (from : Level) (string : List Bool) (end : Result (SlotRef × List Bool) LookupFailure) → TakesBits m
    → 0 < from.radix → length string < most → Ends m from string end
    → walk most m from string ≡ end
walk-ends most m from string (Ok place) takes radix fuel h =
    walk-resolves h.links most m from string h.last place.1 takes radix fuel h.leads h.whole h.spells
    (subst (λ slot. (place.1 ≡ []) ⊎ (level_at m slot ≡ None)) (sym h.selects) h.ends)
    ∙ ap (λ slot. Ok (slot, place.1)) h.selects
walk-ends most m from string (Err failure) takes radix fuel h =
    walk-misses h.links most m from h.to string h.rest failure takes radix fuel h.leads h.spells h.left h.why
