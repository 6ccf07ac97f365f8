-- Sums over the values of a finite map: a new value adds its weight, and a removed one takes its weight away.
use Rattle.std.specs.{declared.cmp.Ordering.{Ordering, TheVariants.{Equal, Greater, Less}}, Cmp.IsTotalOrder}
use Rattle.std.specs.{FinMap.{Entries.{by_order, put}, FinMap, IsAntisymmetric, entries, find}, Ordering.{eq_by_cmp, is_eq}}
use Rattle.std.{specs.Prelude.{None, Option, Some, is_some, sum_by}, proofs.Common.{[], ℕ, ◌+◌, ◌-◌, ◌∙◌, ◌∷◌, ◌≡◌, Bool, List}}
use Rattle.std.proofs.{Common.{ap, arith, cond, false, length, refl, suc, sym, true, zero}, Math.Nat.{add_assoc, add_comm}}
use Rattle.{std.proofs.lemmas.List.{Sums.sum_by-cons, nil_from_length}, machine.proofs.FiniteLemmas.{by_key, cond_here}}
use Rattle.std.specs.FinMap as map

-- the sum of the weights of a map's values
abbrev pub sum_of : {K X : Type 0} {R : K → K → Ordering} → (X → ℕ) → FinMap R X → ℕ
sum_of weight m = sum_by (λ entry. weight entry.1) (entries m)

pub sum-empty : {K X : Type 0} (R : K → K → Ordering) (weight : X → ℕ) → sum_of {R = R} weight map.empty ≡ 0
sum-empty {X = X} R weight =
    let none : entries (map.empty {X = X} {R = R}) ≡ [] =
    nil_from_length _ (sym (map.len-entries _) ∙ map.len-empty R X) in
    rw none refl

shadowed : {A : Type 0} (b : Bool) (x y z : A) → cond b x z ≡ cond b x (cond b y z)
shadowed true x y z = refl
shadowed false x y z = refl

module _ {K X : Type 0} {R : K → K → Ordering} (total : IsTotalOrder R) (apart : IsAntisymmetric R) where
  -- to replace a value is to remove the old one and to insert the new one
  set_again : (m : FinMap R X) (key : K) (value : X) → map.insert m key value ≡ map.insert (map.remove m key) key value
  set_again m key value =
      map.same_map total apart _ _
      (λ q.
      map.get-insert total m key value q
      ∙ shadowed (eq_by_cmp R q key) (Some value) None (map.get m q)
      ∙ ap (cond (eq_by_cmp R q key) (Some value)) (sym (map.get-remove total m key q))
      ∙ sym (map.get-insert total (map.remove m key) key value q))

  as_it_was : (m : FinMap R X) (key : K) (old : X) → map.get m key ≡ Some old → m ≡ map.insert m key old
  as_it_was m key old is =
      map.same_map total apart _ _
      (λ q.
      by_key total apart q key _ _ _ (λ same. ap (map.get m) same ∙ is) (λ differs. refl)
      ∙ sym (map.get-insert total m key old q))

  module _ (weight : X → ℕ) where
    abbrev weigh : K × X → ℕ
    weigh entry = weight entry.1

    sum-put :
        (key : K) (value : X) (pairs : List (K × X)) → find R key pairs ≡ None
        → sum_by weigh (put R key value pairs) ≡ sum_by weigh pairs + weight value
    sum-put key value [] none = omega arith
    sum-put key value (pair ∷ pairs) none = by_place (R key pair.0) (sum-put key value pairs) none where
      by_place :
          (order : Ordering) → (find R key pairs ≡ None → sum_by weigh (put R key value pairs) ≡ sum_by weigh pairs + weight value)
          → cond (is_eq order) (Some pair.1) (find R key pairs) ≡ None
          → sum_by weigh (by_order order ((key, value) ∷ pair ∷ pairs) ((pair.0, value) ∷ pairs) (pair ∷ put R key value pairs))
          ≡ sum_by weigh (pair ∷ pairs) + weight value
      by_place Less rest none =
          sum_by-cons weigh (key, value) (pair ∷ pairs) ∙ add_comm (weight value) (sum_by weigh (pair ∷ pairs))
      by_place Equal rest none = cc
      by_place Greater rest none =
          sum_by-cons weigh pair (put R key value pairs)
          ∙ ap (λ n. weight pair.1 + n) (rest none) ∙ sym (add_assoc (weight pair.1) (sum_by weigh pairs) (weight value))
          ∙ ap (λ n. n + weight value) (sym (sum_by-cons weigh pair pairs))

    pub sum-insert :
        (m : FinMap R X) (key : K) (value : X) → map.get m key ≡ None
        → sum_of weight (map.insert m key value) ≡ sum_of weight m + weight value
    sum-insert m key value none =
        ap (sum_by weigh) (map.entries-insert total m key value)
        ∙ sum-put key value (entries m) (sym (map.get-entries m key) ∙ none)

    removed : (m : FinMap R X) (key : K) → map.get (map.remove m key) key ≡ None
    removed m key = map.get-remove total m key key ∙ cond_here total apart key _ _

    pub sum-remove :
        (m : FinMap R X) (key : K) (old : X) → map.get m key ≡ Some old
        → sum_of weight m ≡ sum_of weight (map.remove m key) + weight old
    sum-remove m key old is =
        ap (sum_of weight) (as_it_was m key old is ∙ set_again m key old)
        ∙ sum-insert (map.remove m key) key old (removed m key)

    -- a value is replaced by one of the same weight
    pub sum-set :
        (m : FinMap R X) (key : K) (old value : X) → map.get m key ≡ Some old → weight value ≡ weight old
        → sum_of weight (map.insert m key value) ≡ sum_of weight m
    sum-set m key old value is same =
        ap (sum_of weight) (set_again m key value) ∙ sum-insert (map.remove m key) key value (removed m key)
        ∙ ap (λ n. sum_of weight (map.remove m key) + n) same ∙ sym (sum-remove m key old is)

    got : (b : Bool) (o : Option X) (value : X) → cond b None o ≡ Some value → o ≡ Some value
    got true o value is = cc
    got false o value is = is

    abbrev IsWeightless : FinMap R X → Type 0
    IsWeightless m = (key : K) (value : X) → map.get m key ≡ Some value → weight value ≡ 0

    by_length : (n : ℕ) (m : FinMap R X) → map.len m ≡ n → IsWeightless m → sum_of weight m ≡ 0
    by_length zero m none weightless = ap (sum_of weight) (map.empty_of_len m none) ∙ sum-empty R weight
    by_length (suc n) m more weightless = by_entries (by_length n) (entries m) refl where
      by_entries :
          ((rest : FinMap R X) → map.len rest ≡ n → IsWeightless rest → sum_of weight rest ≡ 0) → (pairs : List (K × X))
          → entries m ≡ pairs → sum_of weight m ≡ 0
      by_entries shorter [] e =
          let none : map.len m ≡ 0 = map.len-entries m ∙ ap length e in
          absurd (omega (arith, none, more))
      by_entries shorter (pair ∷ pairs) e =
          let key : K = pair.0 in
          let here : map.get m key ≡ Some pair.1 =
          map.get-entries m key ∙ ap (find R key) e ∙ cond_here total apart key (Some pair.1) (find R key pairs) in
          let step : map.len (map.remove m key) ≡ map.len m - 1 =
          map.len-remove total m key ∙ ap (λ o. cond (is_some o) (map.len m - 1) (map.len m)) here in
          let fewer : map.len (map.remove m key) ≡ n = omega (arith, step, more) in
          let rest : sum_of weight (map.remove m key) ≡ 0 =
          shorter (map.remove m key) fewer
          (λ q value is. weightless q value (got (eq_by_cmp R q key) (map.get m q) value (sym (map.get-remove total m key q) ∙ is))) in
          let parts = sum-remove m key pair.1 here in
          let none = weightless key pair.1 here in
          omega (arith, parts, rest, none)

    pub sum-nothing : (m : FinMap R X) → IsWeightless m → sum_of weight m ≡ 0
    sum-nothing m weightless = by_length (map.len m) m refl weightless
