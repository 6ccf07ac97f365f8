use Rattle.untyped.{specs.Shown.source_shown, proofs.Children.{begun_first, begun_later}}
use Rattle.untyped.proofs.room.begun.Goals as goal

pub returns-in-Some : goal.returns-in-Some
returns-in-Some c =
    begun_later c.args.state.now (source_shown c.args.source) c.in-Some.field-0 c.in-Some.ensures.some

pub returns : goal.returns
returns c = begun_first c.args.state.now (source_shown c.args.source) c.in_default.ensures.none
