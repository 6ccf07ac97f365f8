use Rattle.std.proofs.Common.{◌||◌, ◌∙◌, ◌≡◌, ap, sym}
use Rattle.{base.specs.Labels.is_in, policy.{specs.Policy.allows, proofs.FullSets.{FullSets, full_is}}}
use Rattle.policy.proofs.policy.Policy.full_labels.Goals as goal

pub returns : goal.returns
returns c object =
    let own = is_in c.only.result object in
    let modified = is_in c.row_of_kinds.result object in
    let received = is_in c.sources-receivers.result object in
    let sent = is_in c.sources.result object in
    let notified = is_in c.sources-2.result object in
    let linked = is_in c.targets.result object in
    let granted = is_in c.targets-2.result object in
    let held = is_in c.targets-3.result object in
    let sets : FullSets (allows c.args.self.now) c.args.actor object own modified received sent notified linked granted held = record {
      to_send = c.row.result;
      to_receive = c.row-3.result;
      to_notify = c.row-4.result;
      to_grant = c.row-2.result;
      to_reply = c.row-replies.result;
      receivers = c.sources-receivers.result;
      takers = c.sources-takers.result;
      send_row = c.row.ensures;
      receive_row = c.row-3.ensures;
      notify_row = c.row-4.ensures;
      grant_row = c.row-2.ensures;
      reply_row = c.row-replies.ensures;
      receiving = c.sources-receivers.ensures;
      taking = c.sources-takers.ensures;
      itself_is = c.only.ensures object;
      modified_is = c.row_of_kinds.ensures object;
      received_is = c.sources-receivers.ensures object;
      sent_is = c.sources.ensures object;
      notified_is = c.sources-2.ensures object;
      linked_is = c.targets.ensures object;
      granted_is = c.targets-2.ensures object;
      held_is = c.targets-3.ensures object;
    } in
    let full = full_is (allows c.args.self.now) c.args.actor object own modified received sent notified linked granted held sets in
    let union : is_in c.union-7.result object ≡ (((((((own || modified) || received) || sent) || notified) || linked) || granted) || held) =
    c.union-7.ensures object ∙ ap (λ b. b || held)
    (c.union-6.ensures object ∙ ap (λ b. b || granted)
    (c.union-5.ensures object ∙ ap (λ b. b || linked)
    (c.union-4.ensures object ∙ ap (λ b. b || notified)
    (c.union-3.ensures object ∙ ap (λ b. b || sent)
    (c.union-2.ensures object ∙ ap (λ b. b || received) (c.union.ensures object)))))) in
    (λ is. full.0 (sym union ∙ is), λ holds. union ∙ full.1 holds)
