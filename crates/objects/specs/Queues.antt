-- Queues of threads as links: the ends of each queue, and the place of each thread; the queue as a list, and what is true of the links
-- (confine's own).
use Rattle.std.{specs.Prelude.{[], ℕ, ◌<◌, ◌∷◌, ◌≡◌, ◌≤◌, List, None, Option, Some}, proofs.Common.{suc, zero}}
use Rattle.{base.specs.declared.ids.ObjId.ObjId, objects.specs.declared.links.{Ends.Ends, Standing.Standing}}

-- the threads from this one on, at most this many
abbrev pub walk : (ObjId → Standing) → ℕ → Option ObjId → List ObjId
walk standing zero from = []
walk standing (suc most) None = []
walk standing (suc most) (Some thread) = thread ∷ walk standing most (standing thread).next

-- The ends and the links of the queues agree. A thread is behind another only if its rank is higher; the ranks are the numbers of
-- the objects in some order, so a queue has no more threads than there are numbers.
pub record AreQueues (ends : ObjId → Ends) (standing : ObjId → Standing) (numbers : ℕ) : Type 0 where
  pub rank : ObjId → ℕ
  pub one_each : (a b : ObjId) → rank a ≡ rank b → a ≡ b
  pub ranked : (a : ObjId) → a.0 < numbers → rank a < numbers
  pub unranked : (a : ObjId) → numbers ≤ a.0 → rank a ≡ a.0
  pub known : (a q : ObjId) → (standing a).at ≡ Some q → a.0 < numbers
  pub later : (a b : ObjId) → (standing a).next ≡ Some b → rank a < rank b
  pub beside : (a b : ObjId) → (standing a).next ≡ Some b → (standing b).at ≡ (standing a).at
  pub onward : (a b : ObjId) → (standing a).next ≡ Some b → (standing b).previous ≡ Some a
  pub back : (a b : ObjId) → (standing b).previous ≡ Some a → (standing a).next ≡ Some b
  pub first_is : (q a : ObjId) → (ends q).first ≡ Some a → ((standing a).at ≡ Some q) × ((standing a).previous ≡ None)
  pub is_first : (q a : ObjId) → (standing a).at ≡ Some q → (standing a).previous ≡ None → (ends q).first ≡ Some a
  pub last_is : (q a : ObjId) → (ends q).last ≡ Some a → ((standing a).at ≡ Some q) × ((standing a).next ≡ None)
  pub is_last : (q a : ObjId) → (standing a).at ≡ Some q → (standing a).next ≡ None → (ends q).last ≡ Some a
  pub no_first : (q : ObjId) → (ends q).first ≡ None → (ends q).last ≡ None
  pub no_last : (q : ObjId) → (ends q).last ≡ None → (ends q).first ≡ None
  pub nowhere : (a : ObjId) → (standing a).at ≡ None → ((standing a).previous ≡ None) × ((standing a).next ≡ None)
