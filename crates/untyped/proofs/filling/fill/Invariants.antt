use Rattle.std.{specs.Prelude.None, proofs.Common.{ℕ, ◌+◌, ◌<◌, ◌≡◌, ◌≤◌, IsSome, IsTrue}}
use Rattle.machine.specs.{Machine.{cap_of, has_slot, object_of}, Step.Retype.window, Tree.IsAlone}
use Rattle.untyped.specs.{Batch.with_caps, Windows.slots_of}
use Rattle.untyped.proofs.filling.fill.Given as goal

-- those that are left are filled after these, and are still free, and their objects are there
abbrev pub invariant-loop-index : goal.invariant-loop-index
invariant-loop-index l =
    (l.number + l.fn.window.offset ≡ l.fn.first + l.index)
    × ((left : ℕ) → l.index + left ≡ l.fn.window.offset + l.fn.window.count
    → with_caps l.state l.number l.kind (window l.fn.window.node l.index left) l.parent
    ≡ with_caps l.fn.state l.fn.first l.kind (slots_of l.fn.window) l.parent)
    × ((index : ℕ) → l.index ≤ index → index < l.fn.window.offset + l.fn.window.count
    → IsTrue (has_slot l.state (record { holder = l.fn.window.node; index = index }))
    × (cap_of l.state (record { holder = l.fn.window.node; index = index }) ≡ None)
    × IsAlone l.state (record { holder = l.fn.window.node; index = index }))
    × IsSome (cap_of l.state l.parent)
    × ((number : ℕ) → l.number ≤ number → number < l.fn.first + l.fn.window.count
    → IsSome (object_of l.state (record { 0 = number })))
