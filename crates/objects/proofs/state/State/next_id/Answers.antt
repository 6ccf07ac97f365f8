use Rattle.{std.proofs.Common.sym, objects.proofs.StateLemmas.next-machine_of}
use Rattle.objects.proofs.state.State.next_id.Goals as goal

pub returns-clause-value : goal.returns-clause-value
returns-clause-value c = rw (← c.self.view_is) (sym (next-machine_of c.self.inside))
