-- The claims of one label more, by its row.
use Rattle.std.{specs.List.flat_map, proofs.Common.{◌++◌, ◌∙◌, Some, ap, arith, map}}
use Rattle.claims.{specs.{Rows.extents_of, Strongest.{claims_of, claims_on}}, proofs.StrongestLaws.{row_at, said_more}}
use Rattle.claims.proofs.gathering.add_claims_among.Goals as goal

pub loop-actor-preserved : goal.loop-actor-preserved
loop-actor-preserved c =
    let rows = c.args.rows.now in
    let programs = c.args.programs.now in
    let actor = c.actor-item.result in
    said_more (claims_of (extents_of rows) programs) programs c.loop-actor.actor-index actor c.args.lines.now c.loop-actor.lines
    c.add_claims_of.new.lines (omega arith) c.loop-actor.invariant
    (c.in_ok-add_claims_of.ensures
    ∙ ap (λ goes. c.loop-actor.lines ++ map Some (flat_map (claims_on goes actor) programs)) (row_at rows actor c.row.result c.row.ensures)
    ∙ ap (λ a. c.loop-actor.lines ++ map Some (claims_of (extents_of rows) programs a)) c.actor-item.is)
