-- The labels to which a label's flows come: those that depend on one that it affects.
use Rattle.std.proofs.Common.{ℕ, ◌&&◌, ◌<◌, ◌∙◌, ◌≡◌, Bool, List, ap, arith, false, inl, inr, not, refl, subst, sym, true}
use Rattle.{std.proofs.lemmas.Bool.{and_from, and_parts}, base.specs.{declared.labels.Labels.Labels, Labels.is_in}}
use Rattle.{policy.proofs.Gathering.{Tells, told_as}, reach.specs.Extents.Limits}
use Rattle.flows.specs.{Flowing.{DependsOn, FlowsBeside, FlowsBy, FlowsTo, MayAffect}, Rows.{AreFlowRows, MeetsSet, row_at}}

-- what fails where something holds
was_not : (b : Bool) → not b ≡ true → b ≡ false
was_not true is = sym is
was_not false is = refl

module _ (limits : Limits) (affected needed : List Labels) (are : AreFlowRows limits affected needed) (few : (y : ℕ) → limits.acts y ≡ true → y < 256)
    (from : ℕ) (below : from < 256) (affected_few : (l : ℕ) → is_in (row_at affected from) l ≡ true → l < 256) (filters rest : Labels)
    (rest_is : (l : ℕ) → is_in rest l ≡ (is_in (row_at affected from) l && not (is_in filters l))) (y : ℕ) (b : Bool) where
  pub flows_told : Tells b (MeetsSet needed rest y) → Tells b (FlowsBeside limits (is_in filters) from y)
  flows_told tells = told_as b tells to back where
    to : MeetsSet needed rest y → FlowsBeside limits (is_in filters) from y
    to met =
        let parts = and_parts (is_in (row_at affected from) met.at) (not (is_in filters met.at)) (sym (rest_is met.at) ∙ met.among) in
        record {
          object = met.at;
          flows = record {
            affects = (are.affects.each from below met.at).0 parts.0;
            depends = (are.depends.each y (omega (arith, met.there, are.depends.count)) met.at).0 met.has;
          };
          beside = was_not (is_in filters met.at) parts.1;
        }

    at_most : (l : ℕ) → MayAffect limits from l → DependsOn limits y l → y < 256
    at_most l affects (inl same) = subst (λ n. n < 256) same (affected_few l ((are.affects.each from below l).1 affects))
    at_most l affects (inr sees) = few y sees.actor

    back : FlowsBeside limits (is_in filters) from y → MeetsSet needed rest y
    back flow =
        let there = at_most flow.object flow.flows.affects flow.flows.depends in
        record {
          there = omega (arith, there, are.depends.count);
          at = flow.object;
          has = (are.depends.each y there flow.object).1 flow.flows.depends;
          among = rest_is flow.object ∙ and_from (is_in (row_at affected from) flow.object) (not (is_in filters flow.object))
              ((are.affects.each from below flow.object).1 flow.flows.affects) (ap not flow.beside);
        }

-- the labels from which flows come to one: those whose row has a label that it sees
module _ (limits : Limits) (affected needed : List Labels) (are : AreFlowRows limits affected needed) (few : (x : ℕ) → limits.acts x ≡ true → x < 256)
    (to : ℕ) (below : to < 256) (filters rest : Labels)
    (rest_is : (l : ℕ) → is_in rest l ≡ (is_in (row_at needed to) l && not (is_in filters l))) (x : ℕ) (b : Bool) where
  pub sources_told : Tells b (MeetsSet affected rest x) → Tells b (FlowsBeside limits (is_in filters) x to)
  sources_told tells = told_as b tells forth back where
    forth : MeetsSet affected rest x → FlowsBeside limits (is_in filters) x to
    forth met =
        let parts = and_parts (is_in (row_at needed to) met.at) (not (is_in filters met.at)) (sym (rest_is met.at) ∙ met.among) in
        record {
          object = met.at;
          flows = record {
            affects = (are.affects.each x (omega (arith, met.there, are.affects.count)) met.at).0 met.has;
            depends = (are.depends.each to below met.at).0 parts.0;
          };
          beside = was_not (is_in filters met.at) parts.1;
        }

    acts : {l : ℕ} → MayAffect limits x l → limits.acts x ≡ true
    acts (inl change) = change.actor
    acts (inr shrink) = shrink.actor

    back : FlowsBeside limits (is_in filters) x to → MeetsSet affected rest x
    back flow =
        let there = few x (acts flow.flows.affects) in
        record {
          there = omega (arith, there, are.affects.count);
          at = flow.object;
          has = (are.affects.each x there flow.object).1 flow.flows.affects;
          among = rest_is flow.object ∙ and_from (is_in (row_at needed to) flow.object) (not (is_in filters flow.object))
              ((are.depends.each to below flow.object).1 flow.flows.depends) (ap not flow.beside);
        }

-- by whose objects what the one does comes to the other: what the one affects, and the other depends on
module _ (limits : Limits) (affected needed : List Labels) (are : AreFlowRows limits affected needed) (from to : ℕ) (below : from < 256) (also : to < 256)
    (filters : Labels) (l : ℕ) where
  pub between_told : (b : Bool) → b ≡ ((is_in (row_at affected from) l && is_in (row_at needed to) l) && not (is_in filters l))
      → Tells b (FlowsBy limits from l to × (is_in filters l ≡ false))
  between_told b is = (forth, back) where
    affects : Bool
    affects = is_in (row_at affected from) l

    depends : Bool
    depends = is_in (row_at needed to) l

    forth : b ≡ true → FlowsBy limits from l to × (is_in filters l ≡ false)
    forth there =
        let outer = and_parts (affects && depends) (not (is_in filters l)) (sym is ∙ there) in
        let inner = and_parts affects depends outer.0 in (
          record { affects = (are.affects.each from below l).0 inner.0; depends = (are.depends.each to also l).0 inner.1 },
          was_not (is_in filters l) outer.1,
        )

    back : FlowsBy limits from l to × (is_in filters l ≡ false) → b ≡ true
    back flow =
        is ∙ and_from (affects && depends) (not (is_in filters l))
        (and_from affects depends ((are.affects.each from below l).1 flow.0.affects) ((are.depends.each to also l).1 flow.0.depends)) (ap not flow.1)

-- flows beside no filter are flows
pub flows_beside_none : (limits : Limits) (none : Labels) → ((l : ℕ) → is_in none l ≡ false) → (x y : ℕ) (b : Bool) → Tells b (FlowsBeside limits (is_in none) x y)
    → Tells b (FlowsTo limits x y)
flows_beside_none limits none nobody x y b tells = told_as b tells (λ flow. (flow.object, flow.flows))
    (λ w. record { object = w.0; flows = w.1; beside = nobody w.0 })
