-- The search for the labels from which a chain of flows leads to one, label by label; and what is kept of them.
use Rattle.std.proofs.Common.{ℕ, ◌&&◌, ◌==◌, ◌||◌, ◌↔◌, ◌∙◌, ◌≡◌, Bool, ap, false, inl, inr, not, refl, subst, sym, true}
use Rattle.std.proofs.lemmas.Bool.{and_from, and_parts, eq-eqb, eqb-true, false≢true, or_cases, or_left, or_right}
use Rattle.{machine.specs.Layout.Layout, integrity.specs.Apart.NeverChanges, reach.specs.Extents.Limits}
use Rattle.flows.specs.Flowing.{FilterTest, FlowsBeside, GoesOn, GoesThrough, IsClosedOff, IsShielded, FlowLeads}
use Rattle.flows.{specs.Flowing.{FlowLeads.{goes_on, starts}, MayAffect, NeverDisturbs}, proofs.Chains.{passes, stopped, was_not}}

-- labels from which a chain leads, with all that flow to those that are done, if a chain goes on past them
pub record AreLeading (limits : Limits) (filters : FilterTest) (to : ℕ) (done leading : ℕ → Bool) : Type 0 where
  pub ends : leading to ≡ true
  pub lead : (l : ℕ) → leading l ≡ true → FlowLeads limits filters l to
  pub barred : (l : ℕ) → done l ≡ false → GoesOn filters to l
  pub closed : (x l : ℕ) → done l ≡ true → GoesOn filters to l → FlowsBeside limits filters x l → leading x ≡ true

-- a chain with a flow before it
pub flows_first : (limits : Limits) (filters : FilterTest) (x y : ℕ) → FlowsBeside limits filters x y → filters y ≡ false → {z : ℕ}
    → FlowLeads limits filters y z → FlowLeads limits filters x z
flows_first limits filters x y flow free starts = goes_on starts (inl refl) flow
flows_first limits filters x y flow free (goes_on {x = w} before goes last) =
    goes_on (flows_first limits filters x y flow free before) (inr (unfiltered goes)) last where
      unfiltered : GoesOn filters y w → filters w ≡ false
      unfiltered (inl same) = ap filters same ∙ free
      unfiltered (inr is) = is

module _ (limits : Limits) (filters : FilterTest) (to : ℕ) where
  pub first_leading : (barred one : ℕ → Bool) → ((l : ℕ) → barred l ≡ (filters l && not (l == to))) → ((l : ℕ) → one l ≡ (l == to))
      → AreLeading limits filters to barred one
  first_leading barred one barred_is only = record {
    ends = only to ∙ eq-eqb to to refl;
    lead = λ l is. at l (eqb-true l to (sym (only l) ∙ is));
    barred = λ l free. passes filters to l (filters l) refl (sym (barred_is l) ∙ free);
    closed = λ x l done goes flow. absurd (stopped filters to l (sym (barred_is l) ∙ done) goes);
  } where
    at : (l : ℕ) → l ≡ to → FlowLeads limits filters l to
    at l same = let P : ℕ → Type 0 = λ n. FlowLeads limits filters l n in subst P same starts

  -- a flow to a label from which a chain leads, and past which one goes on
  pub leads_on : (x a : ℕ) → FlowLeads limits filters a to → GoesOn filters to a → FlowsBeside limits filters x a → FlowLeads limits filters x to
  leads_on x a leads (inl same) flow =
      let P : ℕ → Type 0 = λ n. FlowsBeside limits filters x n in goes_on starts (inl refl) (subst P same flow)
  leads_on x a leads (inr free) flow = flows_first limits filters x a flow free leads

  module _ (done leading : ℕ → Bool) (are : AreLeading limits filters to done leading) where
    pub more_leading : (a : ℕ) (row more grown : ℕ → Bool) → leading a ≡ true → done a ≡ false
        → ((x : ℕ) → (row x ≡ true) ↔ FlowsBeside limits filters x a)
        → ((l : ℕ) → more l ≡ (done l || (l == a))) → ((l : ℕ) → grown l ≡ (leading l || row l))
        → AreLeading limits filters to more grown
    more_leading a row more grown has undone row_is more_is grown_is = record {
      ends = grown_is to ∙ or_left (leading to) (row to) are.ends;
      lead = λ l is. elim (or_cases (leading l) (row l) (sym (grown_is l) ∙ is)) [
        | inl before ↦ are.lead l before
        | inr now ↦ leads_on l a (are.lead a has) (are.barred a undone) ((row_is l).0 now)
      ];
      barred = λ l free. are.barred l (neither (done l) (l == a) (sym (more_is l) ∙ free));
      closed = λ x b is goes flow. grown_is x ∙ elim (or_cases (done b) (b == a) (sym (more_is b) ∙ is)) [
        | inl before ↦ or_left (leading x) (row x) (are.closed x b before goes flow)
        | inr now ↦
            let P : ℕ → Type 0 = λ n. FlowsBeside limits filters x n in
            or_right (leading x) (row x) ((row_is x).1 (subst P (eqb-true b a now) flow))
      ];
    } where
      neither : (b c : Bool) → (b || c) ≡ false → b ≡ false
      neither true c is = is
      neither false c is = refl

    -- a chain leads from no other label once all are done
    pub all_leading : ((a : ℕ) → (leading a && not (done a)) ≡ false) → (l : ℕ) → (leading l ≡ true) ↔ FlowLeads limits filters l to
    all_leading all l = (are.lead l, λ leads. back leads are.ends (inl refl)) where
      is_done : (b c : Bool) → (b && not c) ≡ false → b ≡ true → c ≡ true
      is_done true true none is = refl
      is_done true false none is = sym none
      is_done false c none is = absurd (false≢true is)

      back : {z : ℕ} → FlowLeads limits filters l z → leading z ≡ true → GoesOn filters to z → leading l ≡ true
      back starts is goes = is
      back (goes_on {x = w} {y = z} before on flow) is goes =
          let here = are.closed w z (is_done (leading z) (done z) (all z) is) goes flow in
          elim on [ inl same ↦ sym (ap leading same) ∙ here | inr free ↦ back before here (inr free) ]

module _ (limits : Limits) (filters : FilterTest) where
  -- labels from which no chain leads to one: where the first is among them, they are closed off from it
  pub closed_off : (from to : ℕ) (leading : ℕ → Bool) → ((l : ℕ) → (leading l ≡ true) ↔ FlowLeads limits filters l to) → leading from ≡ false
      → IsClosedOff limits filters from to
  closed_off from to leading is lacks = record {
    inside = inside;
    has = and_from (leading to) (not (filters to && not (to == to))) ((is to).1 starts)
        (ap not (stays (filters to) (to == to) (eq-eqb to to refl)));
    lacks = ap (λ b. b && not (filters from && not (from == to))) lacks;
    unfiltered = unfiltered;
    leads = leads;
    closed = closed;
  } where
    -- what leads, but for filters that aren't the end
    inside : ℕ → Bool
    inside y = leading y && not (filters y && not (y == to))

    stays : (b c : Bool) → c ≡ true → (b && not c) ≡ false
    stays true true is = refl
    stays true false is = sym is
    stays false c is = refl

    unfiltered : (y : ℕ) → inside y ≡ true → GoesOn filters to y
    unfiltered y within =
        passes filters to y (filters y) refl
        (was_not (filters y && not (y == to)) (and_parts (leading y) (not (filters y && not (y == to))) within).1)

    leads : (y : ℕ) → inside y ≡ true → FlowLeads limits filters y to
    leads y within = (is y).0 (and_parts (leading y) (not (filters y && not (y == to))) within).0

    left_out : (b c d : Bool) → (b && not (c && not d)) ≡ false → c ≡ false → b ≡ false
    left_out false c d out free = refl
    left_out true false d out free = out
    left_out true true d out free = absurd (false≢true (sym free))

    unled : (x : ℕ) → inside x ≡ false → GoesOn filters from x → leading x ≡ false
    unled x outside (inl same) = ap leading same ∙ lacks
    unled x outside (inr free) = left_out (leading x) (filters x) (x == to) outside free

    closed : (x y : ℕ) → inside x ≡ false → GoesOn filters from x → inside y ≡ true → ¬ FlowsBeside limits filters x y
    closed x y outside goes within flow =
        false≢true (sym (unled x outside goes) ∙ (is x).1 (leads_on limits filters to x y (leads y within) (unfiltered y within) flow))

  -- no chain leads into such a set
  pub no_chain : (from to : ℕ) → IsClosedOff limits filters from to → GoesThrough limits filters from to
  no_chain from to off leads = false≢true (sym (stays_out leads) ∙ off.has) where
    out : (y : ℕ) (b : Bool) → off.inside y ≡ b → (b ≡ true → ⊥) → off.inside y ≡ false
    out y true is never = absurd (never refl)
    out y false is never = is

    stays_out : {y : ℕ} → FlowLeads limits filters from y → off.inside y ≡ false
    stays_out starts = off.lacks
    stays_out (goes_on {x} {y} before goes flow) =
        out y (off.inside y) refl (λ is. off.closed x y (stays_out before) goes is flow)

module _ (t : Layout) (limits : Limits) (filters : FilterTest) where
  -- what may affect nothing on which a label depends disturbs it in no run
  undisturbed_by : ((x l : ℕ) → ¬ MayAffect limits x l → NeverChanges t x l) → (x y : ℕ) → ¬ FlowsBeside limits filters x y
      → NeverDisturbs t limits filters x y
  undisturbed_by keeps x y none l depends beside =
      keeps x l (λ affects. none (record { object = l; flows = record { affects = affects; depends = depends }; beside = beside }))

  -- no label from which no chain leads to another disturbs that one, or one from which a chain leads to it
  pub undisturbed : (to : ℕ) (leading : ℕ → Bool) → ((l : ℕ) → (leading l ≡ true) ↔ FlowLeads limits filters l to)
      → ((x l : ℕ) → ¬ MayAffect limits x l → NeverChanges t x l) → (x y : ℕ) → leading x ≡ false → leading y ≡ true
      → GoesOn filters to y → NeverDisturbs t limits filters x y
  undisturbed to leading is keeps x y outside within goes =
      undisturbed_by keeps x y
      (λ flow. false≢true (sym outside ∙ (is x).1 (leads_on limits filters to x y ((is y).0 within) goes flow)))

  -- what is closed off is shielded in every run
  pub shielded : ((x l : ℕ) → ¬ MayAffect limits x l → NeverChanges t x l) → (from to : ℕ) → IsClosedOff limits filters from to
      → IsShielded t limits filters from to
  shielded keeps from to off = record {
    inside = off.inside;
    has = off.has;
    lacks = off.lacks;
    unfiltered = off.unfiltered;
    leads = off.leads;
    kept = λ x y outside goes within. undisturbed_by keeps x y (off.closed x y outside goes within);
  }
