-- A mint fills an empty slot that is there, and the machine stays well formed.
use Rattle.std.{specs.Prelude.Option, proofs.Common.{◌∙◌, ap, sym}}
use Rattle.machine.specs.{declared.object.Object.Object, Machine.object_of, Step.Mint.minted}
use Rattle.cnodeops.proofs.CopyLemmas.{minted_formed, source_filled, target_there, target_vacant}
use Rattle.cnodeops.proofs.minting.mint.Goals as goal

pub derive-requires-clause-there : goal.derive-requires-clause-there
derive-requires-clause-there c =
    target_there c.args.state.now c.args.caller c.args.to c.args.from c.in_ok-ends.ends (sym (c.in_ok-ends.ensures {u = tt}))

pub derive-requires-clause-vacant : goal.derive-requires-clause-vacant
derive-requires-clause-vacant c =
    target_vacant c.args.state.now c.args.caller c.args.to c.args.from c.in_ok-ends.ends (sym (c.in_ok-ends.ensures {u = tt}))

pub derive-requires-clause-filled : goal.derive-requires-clause-filled
derive-requires-clause-filled c =
    source_filled c.args.state.now c.args.caller c.args.to c.args.from c.in_ok-ends.ends (sym (c.in_ok-ends.ensures {u = tt}))

pub returns-clause-well_formed : goal.returns-clause-well_formed
returns-clause-well_formed c =
    let a = c.args in
    let ends = c.in_ok-ends.ends in
    let found = sym (c.in_ok-ends.ensures {u = tt}) in
    let may = sym (c.in_ok-copyable.ensures {u = tt}) in
    let object = c.copied-object.ensures ∙ c.object.ensures in
    let given = ap (λ (x : Option Object). minted x a.given c.masked.result) object in
    let masked = ap (minted (object_of a.state.now ends.held.object) a.given) c.masked.ensures in
    let new = sym (c.in_ok-detail.ensures {u = tt} ∙ given ∙ masked) in
    let formed = c.requires.well_formed in
    rw c.derive.ensures.copy
    (minted_formed a.state.now a.caller a.to a.from a.rights a.given ends c.in_ok-detail.detail formed found may new)
