-- The notifications for which threads of two labels may wait, found label by label.
use Rattle.std.proofs.{Common.{ℕ, ◌&&◌, ◌+◌, ◌<◌, ◌||◌, Bool, arith, inl, inr}, lemmas.Bool.{and_from, and_parts, cases_order}}
use Rattle.policy.{specs.{Change.ActorTest, Domain.EdgeTest}, proofs.{Gathering.Tells, Stepping.{IsBelow, more_below}}}
use Rattle.flows.specs.Seeing.{IsContested, MayWaitFor}

module _ (test : EdgeTest) (acts : ActorTest) (l : ℕ) where
  -- a label below a number waits
  abbrev pub IsOnce : ℕ → Type 0
  IsOnce n = IsBelow (MayWaitFor test acts l) n

  -- two labels below the number wait
  abbrev pub IsTwice : ℕ → Type 0
  IsTwice n = IsBelow (λ k. MayWaitFor test acts l k × IsOnce k) n

  module _ (n : ℕ) (once twice awaited : Bool) (waits : Tells awaited (MayWaitFor test acts l n)) (one : Tells once (IsOnce n)) where
    pub more_twice : Tells twice (IsTwice n) → Tells (twice || (awaited && once)) (IsTwice (n + 1))
    more_twice two = more_below n twice (awaited && once) two
        (λ is. let parts = and_parts awaited once is in (waits.0 parts.0, one.0 parts.1))
        (λ w. and_from awaited once (waits.1 w.0) (one.1 w.1))

    pub more_once : Tells (once || awaited) (IsOnce (n + 1))
    more_once = more_below n once awaited one waits.0 waits.1

  pub twice_contested : (n : ℕ) (b : Bool) → ((a : ℕ) → MayWaitFor test acts l a → a < n) → Tells b (IsTwice n) → Tells b (IsContested test acts l)
  twice_contested n b below tells = (λ is. forth (tells.0 is), λ contested. tells.1 (back contested)) where
    forth : IsTwice n → IsContested test acts l
    forth w = record {
      one = w.0;
      other = w.2.1.0;
      differ = λ same. omega (arith, same, w.2.1.1);
      waits = w.2.0;
      also = w.2.1.2;
    }

    back : IsContested test acts l → IsTwice n
    back c = elim (cases_order c.one c.other) [
      | inl same ↦ absurd (c.differ same)
      | inr (inl before) ↦ (c.other, below c.other c.also, (c.also, (c.one, before, c.waits)))
      | inr (inr after) ↦ (c.one, below c.one c.waits, (c.waits, (c.other, after, c.also)))
    ]
