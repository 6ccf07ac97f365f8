use Rattle.{std.proofs.Common.sym, kernel.proofs.LegalLemmas.follows_lack}
use Rattle.kernel.proofs.replaying.could_lack.Goals as goal

pub returns : goal.returns
returns c =
    follows_lack c.args.state.now c.args.event.now c.retype_refusal.result c.is_none.result c.requires.takes (sym c.retype_refusal.ensures)
    c.is_none.ensures
