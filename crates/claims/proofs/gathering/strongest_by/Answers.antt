-- The strongest claims are made by the rows, of which each label has one.
use Rattle.std.proofs.{Common.{◌∙◌, ◌≡◌, ◌≤◌, arith, length}, lemmas.Grind.common_steps}
use Rattle.machine.specs.{declared.layout.Version.{Version, Version as version}, Layout.most_labels}
use Rattle.{reach.specs.Extents.limits_of, claims.{specs.Rows.extents_of, proofs.StrongestLaws.{all_said, rows_go}}}
use Rattle.base.specs.declared.label.TheConstants.Label as Label
use Rattle.claims.proofs.gathering.strongest_by.Goals as goal

most_few : (v : Version) → most_labels v ≤ Label.COUNT
most_few version.One = omega arith
most_few version.Two = omega arith

pub returns : goal.returns
returns c =
    let t = c.args.table.now in
    let rows = c.in_ok-rows.rows in
    let all : length rows.rows.items ≡ Label.COUNT = grind (arith, common_steps) in
    record {
      extents = extents_of rows;
      are = rows_go t (limits_of c.args.reach.now) rows c.in_ok-rows.ensures (omega (arith, most_few t.version, c.keeps_rules.ensures.draft.labels.few, all));
      is = all_said t (extents_of rows) c.deref.result.now c.deref-2.result.now _ _ _
          (c.deref.ensures.value ∙ c.in_ok-programs.ensures) (c.deref-2.ensures.value ∙ c.in_ok-others.ensures) c.new-lines.ensures
          c.in_ok-add_claims_among.ensures c.in_ok-add_claims_for.ensures;
    }
