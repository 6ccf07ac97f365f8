-- The policy with every edge between labels below a number is closed.
use Rattle.std.{specs.Prelude.nat_lt, proofs.{Common.{ℕ, ◌&&◌, ◌<◌, ◌≡◌, arith, inl, inr, true}, lemmas.Bool.Decides.nat_tests}}
use Rattle.base.specs.declared.kind.Kind.{Kind, TheVariants.{Derive, Holds}}
use Rattle.policy.specs.{Closed.{ComesToDerive, ComesToHold, IsClosed, caller, derived, granted, server}, Domain.{EdgeTest, IsInDomain}}

pub among : ℕ → EdgeTest
among n from kind to = nat_lt from n && nat_lt to n

both_below : (n from to : ℕ) → (nat_lt from n && nat_lt to n) ≡ true → (from < n) × (to < n)
both_below n from to e = (grind (arith, nat_tests, e), grind (arith, nat_tests, e))

below_both : (n from to : ℕ) → from < n → to < n → (nat_lt from n && nat_lt to n) ≡ true
below_both n from to a b = grind (arith, nat_tests)

one_below : (n from to other : ℕ) → from < n → to < n → (nat_lt from n && nat_lt other n) ≡ (nat_lt to n && nat_lt other n)
one_below n from to other a b = grind (arith, nat_tests)

module _ (n : ℕ) where
  pub joined : (from : ℕ) (kind : Kind) (to : ℕ) → among n from kind to ≡ true → (from < n) × (to < n)
  unfolding among
  joined from kind to e = both_below n from to e

  pub joins : (from : ℕ) (kind : Kind) (to : ℕ) → from < n → to < n → among n from kind to ≡ true
  unfolding among
  joins from kind to a b = below_both n from to a b

  in_domain : (a b : ℕ) → IsInDomain (among n) a b → (a < n) × (b < n)
  in_domain a b (inl e) = joined a _ b e
  in_domain a b (inr e) = joined a _ b e

  agree : (a b : ℕ) → IsInDomain (among n) a b → (kind : Kind) (to : ℕ) → among n a kind to ≡ among n b kind to
  unfolding among
  agree a b of kind to = one_below n a b to (in_domain a b of).0 (in_domain a b of).1

  derives : (x y : ℕ) → ComesToDerive (among n) x y → among n x Derive y ≡ true
  derives x y (granted a b may one two) = joins x _ y (in_domain a x one).1 (in_domain b y two).1
  derives x y (derived middle one two) = joins x _ y (joined x _ middle one).0 (joined middle _ y two).1

  holds : (reply thread : ℕ) → ComesToHold (among n) reply thread → among n reply Holds thread ≡ true
  holds reply thread (server e) = joins reply _ thread (joined thread _ reply e).1 (joined thread _ reply e).0
  holds reply thread (caller b endpoint e call receive) = joins reply _ thread (joined b _ reply e).1 (joined thread _ endpoint call).0

  pub all_closed : IsClosed (among n)
  all_closed =
      record {
        subjects_agree = λ a b kind share to. agree a b share.domain kind to;
        control_gives_all = λ a kind b h. joins a kind b (joined a _ b h.controls).0 (joined a _ b h.controls).1;
        grant_shares = λ a b kind to h.
            joins b kind to (joined b _ h.granted.endpoint h.granted.receives).0 (joined a kind to h.has).1;
        derive_in_domain = λ x y h.
            joins x _ y (in_domain h.subject x h.of_parent).1 (in_domain h.subject y h.of_child).1;
        derive_by_grant = derives;
        context_runs = λ a s e. joins a _ s (joined a _ s e).0 (joined a _ s e).1;
        reply_holds = holds;
        lent_runs = λ b s h. joins b _ s (joined b _ h.endpoint h.receives).0 (joined h.lender _ s h.runs).1;
      }
