use Rattle.runs.proofs.Reached.{one_end}
use Rattle.runs.proofs.reaching.scripts_lead_to_one_state.Goals as goal

pub returns : goal.returns
returns c t script m n one other =
    one_end one.boot other.boot script one.outcomes other.outcomes m n
    (c.each_table_has_one_boot_state.ensures.one t one.boot other.boot one.booted other.booted) one.run other.run one.made other.made
