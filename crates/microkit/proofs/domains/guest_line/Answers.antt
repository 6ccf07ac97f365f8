use Rattle.std.proofs.Common.{◌==◌, ◌∙◌, sym}
use Rattle.microkit.{specs.{Description.Machine, View.machine_of}, proofs.Items.find_seen}
use Rattle.microkit.proofs.domains.guest_line.Goals as goal

pub returns : goal.returns
returns c = c.line_of_guest.ensures
    ∙ sym (find_seen machine_of (λ (one : Machine). one.line) (λ (one : Machine). one.domain == c.args.domain) c.args.machines.now)
