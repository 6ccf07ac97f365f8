use Rattle.std.{specs.{Global.Vec, Str.bytes_eq}, proofs.Common.{ℕ, ◌∙◌, List, sym}}
use Rattle.microkit.proofs.Items.{any_seen}
use Rattle.microkit.proofs.labels.is_known.Goals as goal

pub returns : goal.returns
returns c =
    c.has_name.ensures
    ∙ sym (any_seen (λ (name : Vec ℕ). name.items) (λ (one : List ℕ). bytes_eq one c.args.name.now) c.args.names.now)
