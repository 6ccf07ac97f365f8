use Rattle.std.{specs.Str.bytes_eq, proofs.Common.{◌∙◌, sym}}
use Rattle.microkit.{specs.{Description.Machine, View.machine_of}, proofs.Items.find_seen}
use Rattle.microkit.proofs.domains.machine_line.Goals as goal

pub returns : goal.returns
returns c = c.line_of_machine.ensures
    ∙ sym (find_seen machine_of (λ (one : Machine). one.line) (λ (one : Machine). bytes_eq one.name c.args.name.now) c.args.machines.now)
