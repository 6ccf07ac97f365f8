use Rattle.std.proofs.{Common.{◌∙◌, rules, tests}, lemmas.Iterator.{Search.find_from_yields_List, YieldsList-from_slice}}
use Rattle.{policy.specs.Policy.allows, verdict.specs.Slots.is_missing}
use Rattle.verdict.proofs.slots.first_missing.Goals as goal

pub returns : goal.returns
returns c =
    c.copied.ensures
    ∙ find_from_yields_List (is_missing (allows c.args.policy.now)) _ _ c.find.result c.find.ensures.ran
    (YieldsList-from_slice c.args.edges.now cc) (λ x b q k. search (rules, tests))
