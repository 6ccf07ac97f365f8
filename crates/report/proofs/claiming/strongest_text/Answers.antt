-- That the text is of the strongest claims by the reach, whose labels have their names in the table.
use Rattle.std.proofs.Common.{◌≡◌, refl, subst, sym}
use Rattle.{machine.specs.Layout.Layout, claims.specs.Text.lines_text, report.specs.Claimed.TellsStrongest}
use Rattle.report.proofs.claiming.strongest_text.Goals as goal

pub returns : goal.returns
returns c =
    let lines = c.in_ok-lines.lines in
    let table = c.in_ok-reach.ensures.table in
    let text = c.in_ok-text.text.items in
    record {
      text =
          subst (λ (l : Layout). TellsStrongest l text) table
          (record {
            reach = c.in_ok-reach.reach;
            is_reach = record { of_table = refl; is = c.in_ok-reach.ensures.reach };
            lines = lines;
            strongest = c.in_ok-lines.ensures.strongest;
            none_broken = c.in_ok-lines.ensures.hold;
            kept = c.in_ok-lines.ensures.kept;
            told = subst (λ (l : Layout). text ≡ lines_text l lines) (sym table) c.in_ok-text.ensures;
          });
    }
