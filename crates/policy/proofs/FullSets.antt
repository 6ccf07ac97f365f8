-- Full authority as a union of sets of labels, each found by steps along edges.
use Rattle.std.{specs.List.list_any, proofs.Common.{[], ℕ, ◌==◌, ◌||◌, ◌↔◌, ◌∙◌, ◌∷◌, ◌≡◌, Bool, inl, inr, not, refl, sym, true}}
use Rattle.std.proofs.lemmas.Bool.{eq-eqb, eqb-true, or_cases, or_left, or_right}
use Rattle.base.specs.declared.kind.Kind.{Kind, TheVariants.{Await, Control, Grant, Holds, Notify, Receive, Reply, Send}}
use Rattle.base.specs.{declared.labels.Labels.Labels, Labels.is_in}
use Rattle.policy.specs.{declared.full.TheConstants.MODIFYING, Domain.EdgeTest, Full.{IsFull, is_modifying, IsFull.{grants, links}}}
use Rattle.policy.specs.{Full.IsFull.{modifies, notifies, own, receives, replies, sends}, Steps.{IsSource, IsTarget, is_joined}}
use Rattle.policy.proofs.{KindNumbers.{each_kind, is_kind}, Stepping.{IsRow, chosen, found_kind, of_kind, only_kind, source_by, target_by}}

abbrev Sources : EdgeTest → Kind → Labels → ℕ → Bool → Type 0
Sources test kind tos from here = (here ≡ true) ↔ IsSource test (kind ∷ []) tos from

abbrev Targets : EdgeTest → Kind → Labels → ℕ → Bool → Type 0
Targets test kind froms to here = (here ≡ true) ↔ IsTarget test (kind ∷ []) froms to

-- the sets whose union is full authority, and whether a label is in each
pub record FullSets (test : EdgeTest) (actor object : ℕ) (itself modified received sent notified linked granted held : Bool) : Type 0 where
  pub to_send : Labels
  pub to_receive : Labels
  pub to_notify : Labels
  pub to_grant : Labels
  pub to_reply : Labels
  pub receivers : Labels
  pub takers : Labels
  pub send_row : IsRow test actor Send to_send
  pub receive_row : IsRow test actor Receive to_receive
  pub notify_row : IsRow test actor Notify to_notify
  pub grant_row : IsRow test actor Grant to_grant
  pub reply_row : IsRow test actor Reply to_reply
  pub receiving : (label : ℕ) → (is_in receivers label ≡ true) ↔ IsSource test (Receive ∷ []) to_send label
  pub taking : (label : ℕ) → (is_in takers label ≡ true) ↔ IsSource test (Receive ∷ []) to_grant label
  pub itself_is : itself ≡ (object == actor)
  pub modified_is : modified ≡ is_joined test MODIFYING actor object
  pub received_is : Sources test Receive to_send object received
  pub sent_is : Sources test Send to_receive object sent
  pub notified_is : Sources test Await to_notify object notified
  pub linked_is : Targets test Reply receivers object linked
  pub granted_is : Targets test Control takers object granted
  pub held_is : Targets test Holds to_reply object held

modifying : (kind : Kind) → is_modifying kind ≡ true → list_any (is_kind kind) MODIFYING ≡ true
modifying kind is = of_kind (is_modifying kind) _ is (each_kind (λ k. not (is_modifying k) || list_any (is_kind k) MODIFYING) refl kind)

module _ (test : EdgeTest) (actor object : ℕ) (itself modified received sent notified linked granted held : Bool)
    (sets : FullSets test actor object itself modified received sent notified linked granted held) where
  abbrev InUnion : Bool
  InUnion = ((((((itself || modified) || received) || sent) || notified) || linked) || granted) || held

  by_modifying : modified ≡ true → IsFull test actor object
  by_modifying is =
      let kind = chosen is_modifying (λ k. test actor k object) MODIFYING refl (sym sets.modified_is ∙ is) in
      modifies kind.0 kind.1 kind.2

  to_full : InUnion ≡ true → IsFull test actor object
  to_full is = elim (or_cases _ held is) [
    | inr last ↦
        let step = sets.held_is.0 last in
        replies step.from (sym (sets.reply_row step.from) ∙ step.among) (only_kind test Holds step.from object step.joined)
    | inl before ↦ elim (or_cases _ granted before) [
      | inr last ↦
          let step = sets.granted_is.0 last in
          let taker = (sets.taking step.from).0 step.among in
          grants taker.to step.from (sym (sets.grant_row taker.to) ∙ taker.among) (only_kind test Receive step.from taker.to taker.joined)
          (only_kind test Control step.from object step.joined)
      | inl before ↦ elim (or_cases _ linked before) [
        | inr last ↦
            let step = sets.linked_is.0 last in
            let receiver = (sets.receiving step.from).0 step.among in
            links receiver.to step.from (sym (sets.send_row receiver.to) ∙ receiver.among)
            (only_kind test Receive step.from receiver.to receiver.joined) (only_kind test Reply step.from object step.joined)
        | inl before ↦ elim (or_cases _ notified before) [
          | inr last ↦
              let step = sets.notified_is.0 last in
              notifies step.to (sym (sets.notify_row step.to) ∙ step.among) (only_kind test Await object step.to step.joined)
          | inl before ↦ elim (or_cases _ sent before) [
            | inr last ↦
                let step = sets.sent_is.0 last in
                receives step.to (sym (sets.receive_row step.to) ∙ step.among) (only_kind test Send object step.to step.joined)
            | inl before ↦ elim (or_cases _ received before) [
              | inr last ↦
                  let step = sets.received_is.0 last in
                  sends step.to (sym (sets.send_row step.to) ∙ step.among) (only_kind test Receive object step.to step.joined)
              | inl before ↦ elim (or_cases itself modified before) [
                | inl first ↦ own (eqb-true object actor (sym sets.itself_is ∙ first))
                | inr last ↦ by_modifying last
              ]
            ]
          ]
        ]
      ]
    ]
  ]

  from_modified : (modified ≡ true) → InUnion ≡ true
  from_modified is = or_left _ held (or_left _ granted (or_left _ linked (or_left _ notified (or_left _ sent (or_left _ received (or_right itself modified is))))))

  from_received : received ≡ true → InUnion ≡ true
  from_received is = or_left _ held (or_left _ granted (or_left _ linked (or_left _ notified (or_left _ sent (or_right _ received is)))))

  from_full : IsFull test actor object → InUnion ≡ true
  from_full (own is) =
      or_left _ held (or_left _ granted (or_left _ linked (or_left _ notified (or_left _ sent (or_left _ received
      (or_left itself modified (sets.itself_is ∙ eq-eqb object actor is)))))))
  from_full (modifies kind is edge) =
      from_modified (sets.modified_is ∙ found_kind (λ k. test actor k object) MODIFYING kind (modifying kind is) edge)
  from_full (sends endpoint sent_to received_from) =
      from_received (sets.received_is.1 (source_by test Receive sets.to_send endpoint object (sets.send_row endpoint ∙ sent_to) received_from))
  from_full (receives endpoint received_from sent_to) =
      or_left _ held (or_left _ granted (or_left _ linked (or_left _ notified (or_right _ sent
      (sets.sent_is.1 (source_by test Send sets.to_receive endpoint object (sets.receive_row endpoint ∙ received_from) sent_to))))))
  from_full (notifies notification signalled awaited) =
      or_left _ held (or_left _ granted (or_left _ linked (or_right _ notified
      (sets.notified_is.1 (source_by test Await sets.to_notify notification object (sets.notify_row notification ∙ signalled) awaited)))))
  from_full (links endpoint receiver sent_to received_from reply) =
      let receives_it = (sets.receiving receiver).1 (source_by test Receive sets.to_send endpoint receiver (sets.send_row endpoint ∙ sent_to) received_from) in
      or_left _ held (or_left _ granted (or_right _ linked
      (sets.linked_is.1 (target_by test Reply sets.receivers receiver object receives_it reply))))
  from_full (grants endpoint receiver granted_to received_from controls) =
      let takes_it = (sets.taking receiver).1 (source_by test Receive sets.to_grant endpoint receiver (sets.grant_row endpoint ∙ granted_to) received_from) in
      or_left _ held (or_right _ granted
      (sets.granted_is.1 (target_by test Control sets.takers receiver object takes_it controls)))
  from_full (replies reply uses holds) =
      or_right _ held (sets.held_is.1 (target_by test Holds sets.to_reply reply object (sets.reply_row reply ∙ uses) holds))

  pub full_is : (InUnion ≡ true) ↔ IsFull test actor object
  full_is = (to_full, from_full)
