-- The search for the labels from which a chain leads to one, link by link; and the way from one of them along the links.
use Rattle.std.proofs.Common.{[], ℕ, ◌++◌, ◌+◌, ◌==◌, ◌||◌, ◌∙◌, ◌∷◌, ◌≡◌, ◌≢◌, ◌≤◌, ◌⊎◌, Bool, List, Some, ap, arith}
use Rattle.std.proofs.{Common.{false, get_or, inl, inr, length, refl, slice_get, subst, sym, true}, lemmas.Bool.cases_order}
use Rattle.std.proofs.lemmas.{Bool.{eqb-true, false≢true, or_cases, or_left}, List.{get_or_append_left, get_or_push, length_push}}
use Rattle.{std.proofs.lemmas.Option.{get_or_from_slice_get, slice_get-get_or, slice_get_within}, reach.specs.Extents.Limits}
use Rattle.flows.specs.{declared.links.Link.Link, Chains.{AreFoundLinks, IsChain, IsChain.{goes_on, starts}, IsLinked, IsFoundLink, IsLink}}
use Rattle.flows.{specs.Flowing.{FilterTest, FlowsBeside, GoesOn, FlowLeads}, proofs.Leading.{AreLeading, leads_on}}

-- no link yet

pub none_found : (limits : Limits) (filters : FilterTest) (to : ℕ) (links : List Link) → links ≡ [] → AreFoundLinks limits filters to links
none_found limits filters to links none at link there =
    let within = slice_get_within links at link there in
    let empty = ap length none in
    absurd (omega (arith, within, empty))

-- a link more

module _ (links : List Link) (more : Link) where
  still_there : (at : ℕ) (link : Link) → slice_get links at ≡ Some link → slice_get (links ++ more ∷ []) at ≡ Some link
  still_there at link there =
      let within = slice_get_within links at link there in
      let longer = length_push links more in
      slice_get-get_or (links ++ more ∷ []) at link (omega arith)
      ∙ ap Some (get_or_append_left links (more ∷ []) link at within ∙ get_or_from_slice_get links at link link there)

  last_there : slice_get (links ++ more ∷ []) (length links) ≡ Some more
  last_there =
      let longer = length_push links more in
      slice_get-get_or (links ++ more ∷ []) (length links) more (omega arith) ∙ ap Some (get_or_push links more more (length links) refl)

  -- one of the links is one of those before, or the new one
  before_or_last : (at : ℕ) (link : Link) → slice_get (links ++ more ∷ []) at ≡ Some link
      → (slice_get links at ≡ Some link) ⊎ ((at ≡ length links) × (more ≡ link))
  before_or_last at link there =
      let within = slice_get_within (links ++ more ∷ []) at link there in
      let longer = length_push links more in
      let value = get_or_from_slice_get (links ++ more ∷ []) at link link there in
      elim (cases_order at (length links)) [
        | inl same ↦ inr (same, sym (get_or_push links more link at (sym same)) ∙ value)
        | inr (inl before) ↦
            inl (slice_get-get_or links at link before ∙ ap Some (sym (get_or_append_left links (more ∷ []) link at before) ∙ value))
        | inr (inr after) ↦ absurd (omega (arith, within, longer))
      ]

  module _ (to : ℕ) where
    still_found : (count longer label : ℕ) → count ≤ longer → IsLinked to links count label → IsLinked to (links ++ more ∷ []) longer label
    still_found count longer label fewer (inl end) = inl end
    still_found count longer label fewer (inr (at, link, before, there, begins)) =
        inr (at, link, omega (arith, fewer, before), still_there at link there, begins)

    pub links_more : (limits : Limits) (filters : FilterTest) → AreFoundLinks limits filters to links
        → IsFoundLink limits filters to links (length links) more → AreFoundLinks limits filters to (links ++ more ∷ [])
    links_more limits filters are is at link there = elim (before_or_last at link there) [
      | inl before ↦ longer at (are at link before)
      | inr last ↦
          subst (λ n. IsFoundLink limits filters to (links ++ more ∷ []) n link) (sym last.0)
          (subst (λ l. IsFoundLink limits filters to (links ++ more ∷ []) (length links) l) last.1 (longer (length links) is))
    ] where
      longer : (at : ℕ) {link : Link} → IsFoundLink limits filters to links at link → IsFoundLink limits filters to (links ++ more ∷ []) at link
      longer at {link} one = record {
        is = one.is;
        new = one.new;
        on = one.on;
        found = still_found at at link.to (omega arith) one.found;
      }

    -- and the label where it begins is found
    pub found_more : (found : ℕ → Bool) (label : ℕ) → ((l : ℕ) → found l ≡ true → IsLinked to links (length links) l)
        → (found label || (label == more.from)) ≡ true → IsLinked to (links ++ more ∷ []) (length (links ++ more ∷ [])) label
    found_more found label before is =
        let longer = length_push links more in
        elim (or_cases (found label) (label == more.from) is) [
          | inl known ↦ still_found (length links) (length (links ++ more ∷ [])) label (omega arith) (before label known)
          | inr now ↦ inr (length links, more, omega arith, last_there, sym (eqb-true label more.from now))
        ]

-- a new link to a label that was found
pub new_link : (limits : Limits) (filters : FilterTest) (to : ℕ) (done found : ℕ → Bool) (links : List Link) (label : ℕ) (link : Link)
    → AreLeading limits filters to done found → IsLinked to links (length links) label → done label ≡ false → IsLink limits filters link
    → link.to ≡ label → found link.from ≡ false → IsFoundLink limits filters to links (length links) link
new_link limits filters to done found links label link are known undone is leads new = record {
  is = is;
  new = λ same. false≢true (sym new ∙ ap found same ∙ are.ends);
  on = subst (GoesOn filters to) (sym leads) (are.barred label undone);
  found = subst (IsLinked to links (length links)) (sym leads) known;
}

-- the labels so far from which a chain leads, with one more that flows to one of them
module _ (limits : Limits) (filters : FilterTest) (to : ℕ) (done leading : ℕ → Bool) (are : AreLeading limits filters to done leading) where
  pub one_leading : (a x : ℕ) (grown : ℕ → Bool) → leading a ≡ true → done a ≡ false → FlowsBeside limits filters x a
      → ((l : ℕ) → grown l ≡ (leading l || (l == x))) → AreLeading limits filters to done grown
  one_leading a x grown has undone flow grown_is = record {
    ends = grown_is to ∙ or_left (leading to) (to == x) are.ends;
    lead = λ l is. elim (or_cases (leading l) (l == x) (sym (grown_is l) ∙ is)) [
      | inl before ↦ are.lead l before
      | inr now ↦
          subst (λ n. FlowLeads limits filters n to) (sym (eqb-true l x now)) (leads_on limits filters to x a (are.lead a has) (are.barred a undone) flow)
    ];
    barred = are.barred;
    closed = λ b l is goes flow. grown_is b ∙ or_left (leading b) (b == x) (are.closed b l is goes flow);
  }

  -- a label is done once all that flow to it are among them
  pub one_done : (a : ℕ) (more : ℕ → Bool) → ((x : ℕ) → FlowsBeside limits filters x a → leading x ≡ true)
      → ((l : ℕ) → more l ≡ (done l || (l == a))) → AreLeading limits filters to more leading
  one_done a more all more_is = record {
    ends = are.ends;
    lead = are.lead;
    barred = λ l free. are.barred l (neither (done l) (l == a) (sym (more_is l) ∙ free));
    closed = λ b l is goes flow. elim (or_cases (done l) (l == a) (sym (more_is l) ∙ is)) [
      | inl before ↦ are.closed b l before goes flow
      | inr now ↦ all b (subst (λ n. FlowsBeside limits filters b n) (eqb-true l a now) flow)
    ];
  } where
    neither : (b c : Bool) → (b || c) ≡ false → b ≡ false
    neither true c is = is
    neither false c is = refl

-- the way along the links, from the last one to the first
module _ (limits : Limits) (filters : FilterTest) (from to : ℕ) (links : List Link) (are : AreFoundLinks limits filters to links) where
  -- the label where it is was found by one of the first links, and a chain goes on from there
  pub record IsOnTheWay (chain : List Link) (at left : ℕ) : Type 0 where
    pub chain_is : IsChain limits filters from chain at
    pub found : IsLinked to links left at
    pub on : (at ≡ from) ⊎ GoesOn filters to at

  pub begun : IsLinked to links (length links) from → (chain : List Link) → chain ≡ [] → IsOnTheWay chain from (length links)
  begun found chain none = record {
    chain_is = subst (λ ls. IsChain limits filters from ls from) (sym none) starts;
    found = found;
    on = inl refl;
  }

  module _ (chain : List Link) (at left fewer : ℕ) (link : Link) (next : left ≡ fewer + 1) (there : slice_get links fewer ≡ Some link)
      (is : IsOnTheWay chain at left)
    where
      pub link_taken : link.from ≡ at → (longer : List Link) → longer ≡ chain ++ link ∷ [] → IsOnTheWay longer link.to fewer
      link_taken begins longer grown =
          let one = are fewer link there in
          record {
            chain_is =
                subst (λ ls. IsChain limits filters from ls link.to) (sym grown)
                (goes_on (subst (λ n. IsChain limits filters from chain n) (sym begins) is.chain_is) (passes one.new is.on) one.is);
            found = one.found;
            on = inr one.on;
          } where
            passes : link.from ≢ to → (at ≡ from) ⊎ GoesOn filters to at → GoesOn filters from link.from
            passes new (inl same) = inl (begins ∙ same)
            passes new (inr (inl end)) = absurd (new (begins ∙ end))
            passes new (inr (inr free)) = inr (ap filters begins ∙ free)

      pub link_left : link.from ≢ at → IsOnTheWay chain at fewer
      link_left other = record { chain_is = is.chain_is; found = earlier is.found; on = is.on } where
        earlier : IsLinked to links left at → IsLinked to links fewer at
        earlier (inl end) = inl end
        earlier (inr (j, found, before, at_j, begins)) = elim (cases_order j fewer) [
          | inl same ↦
              let one : found ≡ link =
              sym (get_or_from_slice_get links j found found at_j) ∙ ap (λ n. get_or links n found) same
              ∙ get_or_from_slice_get links fewer link found there in
              absurd (other (ap (λ l. l.from) (sym one) ∙ begins))
          | inr (inl less) ↦ inr (j, found, less, at_j, begins)
          | inr (inr more) ↦ absurd (omega (arith, more, before, next))
        ]

  -- the way is at the end if no link is left
  pub arrived : (chain : List Link) (at : ℕ) → IsOnTheWay chain at 0 → IsChain limits filters from chain to
  arrived chain at is = by is.found where
    by : IsLinked to links 0 at → IsChain limits filters from chain to
    by (inl end) = subst (λ n. IsChain limits filters from chain n) end is.chain_is
    by (inr (j, found, before, there, begins)) = absurd (omega (arith, before))
