use Rattle.std.proofs.{Common.{◌∙◌, string_bytes, sym}, lemmas.Result.on_ok_weaker}
use Rattle.summary.proofs.Written.{group_there}
use Rattle.summary.proofs.regions.write_group.Goals as goal

pub returns : goal.returns
returns c =
    on_ok_weaker c.write_users.result
    (λ used.
    group_there c.args.table.now c.args.rows.now c.args.others.now c.args.label c.deref.result.now c.deref-2.result.now c.deref-3.result.now
    c.deref-4.result.now (string_bytes c.args.text.now) (string_bytes c.write_names.new.text) (string_bytes c.write_users.new.text)
    (sym c.leads.ensures ∙ c.if-not-leads.false) (c.deref.ensures.value ∙ c.in_ok-group.ensures) (c.deref-2.ensures.value ∙ c.in_ok-changers.ensures)
    (c.deref-3.ensures.value ∙ c.in_ok-takers.ensures) (c.deref-4.ensures.value ∙ c.in_ok-readers.ensures) c.in_ok-write_names.ensures used)
    c.write_users.ensures
