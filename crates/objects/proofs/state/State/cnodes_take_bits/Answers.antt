use Rattle.{machine.specs.declared.object.Object.Object as o, objects.proofs.ConsistentLemmas.HasRadix-machine_of}
use Rattle.objects.proofs.state.State.cnodes_take_bits.Goals as goal

pub returns : goal.returns
returns c = λ id node present. HasRadix-machine_of c.self.inside c.self.invariant.consistent id (o.CNode node) (rw c.self.view_is present)
