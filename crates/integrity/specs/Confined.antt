-- Confined states: all authority that a machine holds lies within a policy ('seL4 Enforces Integrity', section 3, where the
-- policy has to allow all authority of a state).
use Rattle.std.specs.Prelude.{ℕ, ◌≡◌, true}
use Rattle.base.specs.declared.kind.Kind.{Kind}
use Rattle.{machine.specs.{Authority.HasAuthority, Layout.Layout, Machine.Machine}, policy.specs.Domain.EdgeTest}

-- each edge of authority is in the policy: of the capabilities, roots, tree pairs, bindings and replies, and of blocked threads
abbrev pub IsConfined : Layout → EdgeTest → Machine → Type 0
IsConfined t allowed m = (from : ℕ) (kind : Kind) (to : ℕ) → HasAuthority t m from kind to → allowed from kind to ≡ true
