use Rattle.std.proofs.Common.{◌∙◌, Ok, ap}
use Rattle.captext.proofs.ObjectParts.{object_takes}
use Rattle.captext.proofs.objects.object_line.Goals as goal

pub declare-requires-clause-blank : goal.declare-requires-clause-blank
declare-requires-clause-blank c =
    (object_takes c.args.kind _ c.in-Some.object _ (c.in-Ok.ensures ∙ ap (λ found. Ok (found, c.object.new.words)) c.in-Some.is)).2
