-- The chain for a string: it is the only one.
use Rattle.std.proofs.Common.{[], ◌++◌, ◌<◌, ◌∙◌, ◌∷◌, ◌≡◌, ◌⊎◌, Bool, Err, List, None, Ok, Result, Some, ap, append_assoc, arith, inl, inr}
use Rattle.std.proofs.{Common.{length, length-append, refl, subst, sym}, lemmas.{List.append_cancel_left, Option.same_Some}}
use Rattle.base.specs.declared.{ids.SlotRef.SlotRef, refusal.LookupFailure.LookupFailure}
use Rattle.machine.specs.{Bits.split, Lookup.{Level, hop, level_at}, Machine.Machine}
use Rattle.cspace.{specs.Chain.{Hinders, IsWhole, Joins, Leads, Link, TakesBits, selected, spelled, taken}, proofs.ChainLemmas.hop-hinders}
use Rattle.cspace.proofs.ChainLemmas.{hop-link, leads-radix, split-append}

-- at one CNode a string has one link
same_link :
    (a b : Link) (rest remainder : List Bool) → a.level ≡ b.level → IsWhole a → IsWhole b → taken a ++ rest ≡ taken b ++ remainder
    → (a ≡ b) × (rest ≡ remainder)
same_link a b rest remainder level whole_a whole_b spells =
    let guard : a.level.guard ≡ b.level.guard = ap (λ (l : Level). l.guard) level in
    let beyond : a.level.guard ++ (a.index ++ rest) ≡ a.level.guard ++ (b.index ++ remainder) =
    sym (append_assoc a.level.guard a.index rest) ∙ spells ∙ append_assoc b.level.guard b.index remainder
    ∙ ap (λ g. g ++ (b.index ++ remainder)) (sym guard) in
    let after : a.index ++ rest ≡ b.index ++ remainder = append_cancel_left a.level.guard _ _ beyond in
    let radix : b.level.radix ≡ a.level.radix = ap (λ (l : Level). l.radix) (sym level) in
    let parts : (a.index, rest) ≡ (b.index, remainder) =
    same_Some _ _
    (sym (split-append a.level.radix a.index rest whole_a) ∙ ap (split a.level.radix) after
    ∙ split-append a.level.radix b.index remainder (whole_b ∙ radix))
    in
    (λ i. record { level = level i; index = (parts i).0 }, λ i. (parts i).1)

-- no lookup is hindered at a CNode where a link leads on
not_hindered :
    (failure : LookupFailure) (from : Level) (string rest : List Bool) (link : Link) → link.level ≡ from → IsWhole link
    → taken link ++ rest ≡ string → Hinders failure from string → ⊥
not_hindered failure from string rest link here whole spells why =
    let leads : hop from string ≡ Ok (selected link, rest) =
    ap (λ level. hop level string) (sym here) ∙ ap (hop link.level) (sym spells) ∙ hop-link link rest whole in
    let hindered : hop from string ≡ Err failure = hop-hinders failure from string why in
    let clash : ◌≡◌ {A = Result (SlotRef × List Bool) LookupFailure} (Ok (selected link, rest)) (Err failure) =
    sym leads ∙ hindered in
    cc

-- a CNode is hindered in one way
same_failure : (level : Level) (rest : List Bool) (a b : LookupFailure) → Hinders a level rest → Hinders b level rest → a ≡ b
same_failure level rest a b why_a why_b =
    let same : ◌≡◌ {A = Result (SlotRef × List Bool) LookupFailure} (Err a) (Err b) =
    sym (hop-hinders a level rest why_a) ∙ hop-hinders b level rest why_b in
    cc

module _ (m : Machine) where
  --   no chain that takes bits goes on where a lookup ends
  ends_there :
      (from next : Level) (string rest tail : List Bool) (last link : Link) → last.level ≡ from → IsWhole last
      → taken last ++ rest ≡ string → (rest ≡ []) ⊎ (level_at m (selected last) ≡ None)
      → Joins m from link next → taken link ++ tail ≡ string → 0 < length tail → ⊥
  ends_there from next string rest tail last link here whole spells ends joins goes some =
      let same = same_link last link rest tail (here ∙ sym joins.here) whole joins.whole (spells ∙ sym goes) in
      by_end same ends
    where
      by_end : (last ≡ link) × (rest ≡ tail) → (rest ≡ []) ⊎ (level_at m (selected last) ≡ None) → ⊥
      by_end same (inl none) = let empty : length tail ≡ 0 = ap length (sym same.1 ∙ none) in omega (arith, empty)
      by_end same (inr none) =
          let clash : Some next ≡ None = sym joins.held ∙ ap (λ l. level_at m (selected l)) (sym same.0) ∙ none in cc

  -- the next CNode, and what is left there, are the same
  same_next :
      (from next other : Level) (a b : Link) (string rest remainder : List Bool) → Joins m from a next → Joins m from b other
      → taken a ++ rest ≡ string → taken b ++ remainder ≡ string
      → (a ≡ b) × (next ≡ other) × (rest ≡ remainder)
  same_next from next other a b string rest remainder joins_a joins_b spells_a spells_b =
      let same =
      same_link a b rest remainder (joins_a.here ∙ sym joins_b.here) joins_a.whole joins_b.whole (spells_a ∙ sym spells_b) in
      (same.0, same_Some next other (sym joins_a.held ∙ ap (λ l. level_at m (selected l)) same.0 ∙ joins_b.held), same.1)

  -- the bits that the last link takes
  some_bits :
      (next : Level) (links : List Link) (last : Link) (rest : List Bool) → TakesBits m → 0 < next.radix
      → Leads m next links last.level → IsWhole last → 0 < length (spelled links ++ (taken last ++ rest))
  some_bits next links last rest takes radix leads whole =
      let last_takes : 0 < last.level.radix = leads-radix m next last.level links takes radix leads in
      omega (
        arith,
        last_takes,
        whole,
        length-append (spelled links) (taken last ++ rest),
        length-append (taken last) rest,
        length-append last.level.guard last.index,
      )

  pub same_chain :
      (from : Level) (string : List Bool) (links_a links_b : List Link) (last_a last_b : Link) (rest_a rest_b : List Bool)
      → TakesBits m
      → Leads m from links_a last_a.level → IsWhole last_a → spelled links_a ++ (taken last_a ++ rest_a) ≡ string
      → (rest_a ≡ []) ⊎ (level_at m (selected last_a) ≡ None)
      → Leads m from links_b last_b.level → IsWhole last_b → spelled links_b ++ (taken last_b ++ rest_b) ≡ string
      → (rest_b ≡ []) ⊎ (level_at m (selected last_b) ≡ None)
      → (links_a ≡ links_b) × (last_a ≡ last_b) × (rest_a ≡ rest_b)
  same_chain from string [] [] last_a last_b rest_a rest_b takes leads_a whole_a spells_a ends_a leads_b whole_b spells_b ends_b =
      let same = same_link last_a last_b rest_a rest_b (sym leads_a ∙ leads_b) whole_a whole_b (spells_a ∙ sym spells_b) in
      (refl, same.0, same.1)
  same_chain from string [] (link ∷ links) last_a last_b rest_a rest_b takes leads_a whole_a spells_a ends_a leads_b whole_b spells_b ends_b =
      let tail = spelled links ++ (taken last_b ++ rest_b) in
      let some =
      some_bits leads_b.0 links last_b rest_b takes (takes (selected link) leads_b.0 leads_b.1.held) leads_b.2 whole_b in
      absurd
      (ends_there from leads_b.0 string rest_a tail last_a link (sym leads_a) whole_a spells_a ends_a leads_b.1
      (sym (append_assoc (taken link) (spelled links) (taken last_b ++ rest_b)) ∙ spells_b) some)
  same_chain from string (link ∷ links) [] last_a last_b rest_a rest_b takes leads_a whole_a spells_a ends_a leads_b whole_b spells_b ends_b =
      let tail = spelled links ++ (taken last_a ++ rest_a) in
      let some =
      some_bits leads_a.0 links last_a rest_a takes (takes (selected link) leads_a.0 leads_a.1.held) leads_a.2 whole_a in
      absurd
      (ends_there from leads_a.0 string rest_b tail last_b link (sym leads_b) whole_b spells_b ends_b leads_a.1
      (sym (append_assoc (taken link) (spelled links) (taken last_a ++ rest_a)) ∙ spells_a) some)
  same_chain from string (a ∷ as_a) (b ∷ as_b) last_a last_b rest_a rest_b takes leads_a whole_a spells_a ends_a leads_b whole_b spells_b ends_b =
      let tail_a = spelled as_a ++ (taken last_a ++ rest_a) in
      let tail_b = spelled as_b ++ (taken last_b ++ rest_b) in
      let same =
      same_next from leads_a.0 leads_b.0 a b string tail_a tail_b leads_a.1 leads_b.1
      (sym (append_assoc (taken a) (spelled as_a) (taken last_a ++ rest_a)) ∙ spells_a)
      (sym (append_assoc (taken b) (spelled as_b) (taken last_b ++ rest_b)) ∙ spells_b) in
      let leads : Leads m leads_a.0 as_b last_b.level =
      subst (λ (next : Level). Leads m next as_b last_b.level) (sym same.1) leads_b.2 in
      let below =
      same_chain leads_a.0 tail_a as_a as_b last_a last_b rest_a rest_b takes leads_a.2 whole_a refl ends_a leads whole_b
      (sym same.2) ends_b in
      (λ i. same.0 i ∷ below.0 i, below.1, below.2)

  pub same_miss :
      (from : Level) (string : List Bool) (links_a links_b : List Link) (to_a to_b : Level) (rest_a rest_b : List Bool)
      (failure_a failure_b : LookupFailure)
      → Leads m from links_a to_a → spelled links_a ++ rest_a ≡ string → Hinders failure_a to_a rest_a
      → Leads m from links_b to_b → spelled links_b ++ rest_b ≡ string → Hinders failure_b to_b rest_b
      → (links_a ≡ links_b) × (to_a ≡ to_b) × (rest_a ≡ rest_b) × (failure_a ≡ failure_b)
  same_miss from string [] [] to_a to_b rest_a rest_b failure_a failure_b leads_a spells_a why_a leads_b spells_b why_b =
      let to : to_a ≡ to_b = sym leads_a ∙ leads_b in
      let rest : rest_a ≡ rest_b = spells_a ∙ sym spells_b in
      let why : Hinders failure_b to_a rest_a = rw (to, rest) why_b in
      (refl, to, rest, same_failure to_a rest_a failure_a failure_b why_a why)
  same_miss from string [] (link ∷ links) to_a to_b rest_a rest_b failure_a failure_b leads_a spells_a why_a leads_b spells_b why_b =
      absurd
      (not_hindered failure_a to_a rest_a (spelled links ++ rest_b) link (leads_b.1.here ∙ leads_a) leads_b.1.whole
      (sym (append_assoc (taken link) (spelled links) rest_b) ∙ spells_b ∙ sym spells_a) why_a)
  same_miss from string (link ∷ links) [] to_a to_b rest_a rest_b failure_a failure_b leads_a spells_a why_a leads_b spells_b why_b =
      absurd
      (not_hindered failure_b to_b rest_b (spelled links ++ rest_a) link (leads_a.1.here ∙ leads_b) leads_a.1.whole
      (sym (append_assoc (taken link) (spelled links) rest_a) ∙ spells_a ∙ sym spells_b) why_b)
  same_miss from string (a ∷ as_a) (b ∷ as_b) to_a to_b rest_a rest_b failure_a failure_b leads_a spells_a why_a leads_b spells_b why_b =
      let same =
      same_next from leads_a.0 leads_b.0 a b string (spelled as_a ++ rest_a) (spelled as_b ++ rest_b) leads_a.1 leads_b.1
      (sym (append_assoc (taken a) (spelled as_a) rest_a) ∙ spells_a)
      (sym (append_assoc (taken b) (spelled as_b) rest_b) ∙ spells_b) in
      let leads : Leads m leads_a.0 as_b to_b = subst (λ (next : Level). Leads m next as_b to_b) (sym same.1) leads_b.2 in
      let below =
      same_miss leads_a.0 (spelled as_a ++ rest_a) as_a as_b to_a to_b rest_a rest_b failure_a failure_b leads_a.2 refl
      why_a leads (sym same.2) why_b in
      (λ i. same.0 i ∷ below.0 i, below.1, below.2, below.3)

  pub not_both :
      (from : Level) (string : List Bool) (links_a links_b : List Link) (last : Link) (to : Level) (rest_a rest_b : List Bool)
      (failure : LookupFailure)
      → Leads m from links_a last.level → IsWhole last → spelled links_a ++ (taken last ++ rest_a) ≡ string
      → (rest_a ≡ []) ⊎ (level_at m (selected last) ≡ None)
      → Leads m from links_b to → spelled links_b ++ rest_b ≡ string → 0 < length rest_b → Hinders failure to rest_b → ⊥
  not_both from string [] [] last to rest_a rest_b failure leads_a whole spells_a ends leads_b spells_b left why =
      not_hindered failure to rest_b rest_a last (sym leads_a ∙ leads_b) whole (spells_a ∙ sym spells_b) why
  not_both from string [] (link ∷ links) last to rest_a rest_b failure leads_a whole spells_a ends leads_b spells_b left why =
      let some : 0 < length (spelled links ++ rest_b) = omega (arith, left, length-append (spelled links) rest_b) in
      ends_there from leads_b.0 string rest_a (spelled links ++ rest_b) last link (sym leads_a) whole spells_a ends leads_b.1
      (sym (append_assoc (taken link) (spelled links) rest_b) ∙ spells_b) some
  not_both from string (link ∷ links) [] last to rest_a rest_b failure leads_a whole spells_a ends leads_b spells_b left why =
      not_hindered failure to rest_b (spelled links ++ (taken last ++ rest_a)) link (leads_a.1.here ∙ leads_b) leads_a.1.whole
      (sym (append_assoc (taken link) (spelled links) (taken last ++ rest_a)) ∙ spells_a ∙ sym spells_b) why
  not_both from string (a ∷ as_a) (b ∷ as_b) last to rest_a rest_b failure leads_a whole spells_a ends leads_b spells_b left why =
      let tail_a = spelled as_a ++ (taken last ++ rest_a) in
      let same =
      same_next from leads_a.0 leads_b.0 a b string tail_a (spelled as_b ++ rest_b) leads_a.1 leads_b.1
      (sym (append_assoc (taken a) (spelled as_a) (taken last ++ rest_a)) ∙ spells_a)
      (sym (append_assoc (taken b) (spelled as_b) rest_b) ∙ spells_b) in
      let leads : Leads m leads_a.0 as_b to = subst (λ (next : Level). Leads m next as_b to) (sym same.1) leads_b.2 in
      not_both leads_a.0 tail_a as_a as_b last to rest_a rest_b failure leads_a.2 whole refl ends leads (sym same.2) left why
