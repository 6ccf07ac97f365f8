use Rattle.{std.proofs.Common.sym, objects.proofs.PlaceLemmas.by_number}
use Rattle.objects.proofs.store.Store.entry.Goals as goal

pub returns : goal.returns
returns c = rw (c.entry.ensures, ← c.self.view_is) (sym (by_number c.self.inside c.args.id))
