-- A slot that the table fills is there and empty, its capability's object is there, and one more is filled.
use Rattle.{std.proofs.Common.{[], take}, kernel.proofs.BootLemmas.{boot-filled, boot-has_slot, boot-object_there, boot-vacant}}
use Rattle.kernel.proofs.boot_state.fill.Goals as goal

pub put_cap-requires-clause-there : goal.put_cap-requires-clause-there
put_cap-requires-clause-there c =
    let t = c.args.table.now in
    let caps = c.caps-caps.ensures in
    let i = c.loop-filled.filled-index in
    rw caps.caps
    (boot-has_slot (record t { caps = take i t.caps; pairs = [] }) c.loop-filled.state _ c.loop-filled.invariant
    (caps.lawful.draft.caps.each i _ (rw (← caps.caps) c.loop-filled-test.true)).place)

pub put_cap-requires-clause-vacant : goal.put_cap-requires-clause-vacant
put_cap-requires-clause-vacant c =
    let caps = c.caps-caps.ensures in
    rw caps.caps
    (boot-vacant c.args.table.now c.loop-filled.state c.loop-filled.filled-index _ caps.lawful.draft.caps.rise
    (rw (← caps.caps) c.loop-filled-test.true) c.loop-filled.invariant)

pub put_cap-requires-clause-object : goal.put_cap-requires-clause-object
put_cap-requires-clause-object c =
    let t = c.args.table.now in
    let caps = c.caps-caps.ensures in
    let i = c.loop-filled.filled-index in
    let named = caps.lawful.draft.caps.each i _ (rw (← caps.caps) c.loop-filled-test.true) in
    rw caps.caps
    (boot-object_there (record t { caps = take i t.caps; pairs = [] }) c.loop-filled.state _ named.target c.loop-filled.invariant
    named.aimed)

pub loop-filled-preserved : goal.loop-filled-preserved
loop-filled-preserved c =
    let caps = c.caps-caps.ensures in
    rw (c.put_cap.ensures, caps.caps)
    (boot-filled c.args.table.now c.loop-filled.state c.loop-filled.filled-index _ caps.lawful.draft.caps.rise
    (rw (← caps.caps) c.loop-filled-test.true) c.loop-filled.invariant)
