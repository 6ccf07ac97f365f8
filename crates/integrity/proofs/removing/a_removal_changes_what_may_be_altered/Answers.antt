use Rattle.{std.proofs.Common.{inl, inr}, integrity.proofs.RemovalCuts.removed_alters}
use Rattle.integrity.proofs.removing.a_removal_changes_what_may_be_altered.Goals as goal

pub returns : goal.returns
returns c = λ t allowed a m chosen sound closed may awake id. elim (removed_alters t allowed a m chosen awake sound closed may id) [
  | inl same ↦ inl same
  | inr at ↦ elim at.2 [
    | inl way ↦ inr (at.0, at.1, inl (record { actor = awake.actor; way = way }))
    | inr way ↦ inr (at.0, at.1, inr (record { actor = awake.actor; way = way }))
  ]
]
