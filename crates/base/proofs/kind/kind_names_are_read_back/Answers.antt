use Rattle.{std.proofs.Common.refl, base.proofs.KindNames.{in_order, kind_once, named_iff, number_below, number_once}}
use Rattle.base.proofs.kind.kind_names_are_read_back.Goals as goal

pub returns : goal.returns
returns c =
    record {
      named = named_iff;
      once = kind_once;
      number_once = number_once;
      number_below = number_below;
      in_order = in_order;
      all = refl;
    }
