-- The smallest sets, looked for a size more at a time, while no set has fewer labels.
use Rattle.std.proofs.Common.{ℕ, ◌&&◌, ◌+◌, ◌<◌, ◌==◌, ◌||◌, ◌↔◌, ◌∙◌, ◌≡◌, ◌≢◌, ◌≤◌, ◌⊎◌, Bool, List, ap, arith, false, inl, inr, length}
use Rattle.std.proofs.{Common.{not, refl, sym, true}, lemmas.Bool.{and_from, and_parts, cases_order, eq-eqb, eqb-true, false≢true, or_left}}
use Rattle.{std.proofs.lemmas.Bool.or_right, base.specs.{declared.labels.Labels.Labels, Labels.is_in}, reach.specs.Extents.Limits}
use Rattle.flows.specs.{declared.{searching.Stage.Stage, smallest.Smallest.{Smallest, Smallest as smallest}}, Sets.{AreFirst, size_of}}
use Rattle.flows.specs.{Smallest.{HasSize, IsFilterSet, IsSmallest}, Stages.{Completes, IsStage}, Ways.{IsGraph, Separates}}
use Rattle.flows.proofs.{Arrows.{chain_of, way_of}, Counting.count_nothing}
use Rattle.base.specs.declared.label.TheConstants.Label as Label

-- two kinds that are one have the same first sets
pub first_alike : (Is Are : Labels → Type 0) → ((s : Labels) → Is s ↔ Are s) → (sets : List Labels) (all : Bool) → AreFirst Is sets all → AreFirst Are sets all
first_alike Is Are alike sets all first = record {
  each = λ k d below. (alike _).0 (first.each k d below);
  rise = first.rise;
  rest = λ set is. first.rest set ((alike set).1 is);
}

module _ (rows : List Labels) (from to : ℕ) (others : Labels) where
  module _ (none : Labels) (nothing : (l : ℕ) → is_in none l ≡ false) (size : ℕ) where
    abbrev pub begun : Stage
    begun = record { chosen = none; allowed = others; room = size }

    pub is_begun : from ≢ to → is_in others from ≡ false → is_in others to ≡ false → ((l : ℕ) → is_in others l ≡ true → l < Label.COUNT)
        → IsStage from to begun
    is_begun differ not_from not_to few = record {
      differ = differ;
      apart = λ l there. nothing l;
      chosen_from = nothing from;
      chosen_to = nothing to;
      allowed_from = not_from;
      allowed_to = not_to;
      chosen_few = λ l there. absurd (false≢true (sym (nothing l) ∙ there));
      allowed_few = few;
    }

    -- the sets of a size
    pub completes_all : (set : Labels) → Completes rows from to begun set ↔ HasSize (Separates rows from to others) size set
    completes_all set = (forth, back) where
      none_has : size_of none ≡ 0
      none_has = count_nothing (is_in none) nothing Label.COUNT

      forth : Completes rows from to begun set → HasSize (Separates rows from to others) size set
      forth completes = record {
        is = record {
          among = λ l has. elim (completes.within l has) [
            | inl chosen ↦ absurd (false≢true (sym (nothing l) ∙ chosen))
            | inr other ↦ other
          ];
          cuts = completes.cuts;
        };
        has = omega (arith, completes.size, none_has);
      }

      back : HasSize (Separates rows from to others) size set → Completes rows from to begun set
      back sized = record {
        has = λ l there. absurd (false≢true (sym (nothing l) ∙ there));
        within = λ l has. inr (sized.is.among l has);
        size = omega (arith, sized.has, none_has);
        cuts = sized.is.cuts;
      }

    -- sets have more labels if none of this size was found
    pub more : (sets : List Labels) (all : Bool) (most : ℕ) → 0 < most → length sets ≡ 0 → AreFirst (Completes rows from to begun) sets all
        → (all ≡ false → length sets ≡ most) → ((set : Labels) → Separates rows from to others set → size ≤ size_of set) → (set : Labels)
        → Separates rows from to others set → size + 1 ≤ size_of set
    more sets all most some empty first full least set separates = by (cases_order size (size_of set)) where
      never : HasSize (Separates rows from to others) size set → ⊥
      never sized = elim (first.rest set ((completes_all set).1 sized)) [
        | inl (k, one, below, there, same) ↦ absurd (omega (arith, below, empty))
        | inr (partly, after) ↦ absurd (omega (arith, some, full partly, empty))
      ]

      by : (size ≡ size_of set) ⊎ ((size < size_of set) ⊎ (size_of set < size)) → size + 1 ≤ size_of set
      by (inl same) = absurd (never (record { is = separates; has = sym same }))
      by (inr (inl less)) = omega (arith, less)
      by (inr (inr over)) = absurd (omega (arith, over, least set separates))

-- two kinds that are one have the same smallest sets
pub smallest_alike : (Is Are : Labels → Type 0) → ((s : Labels) → Is s ↔ Are s) → (most : ℕ) (answer : Smallest) → IsSmallest Is most answer
    → IsSmallest Are most answer
smallest_alike Is Are alike most smallest.Direct none = λ set are. none set ((alike set).1 are)
smallest_alike Is Are alike most smallest.Larger large = record {
  set = large.set;
  is = (alike large.set).0 large.is;
  more = λ other are. large.more other ((alike other).1 are);
}
smallest_alike Is Are alike most (smallest.Fewest sets) smallest = record {
  size = smallest.size;
  small = smallest.small;
  least = λ set are. smallest.least set ((alike set).1 are);
  first = first_alike (HasSize Is smallest.size) (HasSize Are smallest.size) sized sets.sets.items sets.all smallest.first;
  some = smallest.some;
  few = smallest.few;
  full = smallest.full;
} where
  sized : (s : Labels) → HasSize Is smallest.size s ↔ HasSize Are smallest.size s
  sized s = (λ one. record { is = (alike s).0 one.is; has = one.has }, λ one. record { is = (alike s).1 one.is; has = one.has })

-- sets of programs that separate two labels are those through which all flows go
module _ (limits : Limits) (rows : List Labels) (graph : IsGraph limits rows) (from to : ℕ) (others : Labels)
    (others_are : (l : ℕ) → is_in others l ≡ (limits.acts l && not ((l == from) || (l == to)))) where
  pub separates_flows : (set : Labels) → Separates rows from to others set ↔ IsFilterSet limits from to set
  separates_flows set = (forth, back) where
    end_out : (x : ℕ) → ((x == from) || (x == to)) ≡ true → ((l : ℕ) → is_in set l ≡ true → is_in others l ≡ true) → is_in set x ≡ false
    end_out x is_end among = by (is_in set x) refl where
      by : (b : Bool) → is_in set x ≡ b → is_in set x ≡ false
      by false lacks = lacks
      by true has =
          absurd (false≢true (sym (ap not is_end)
          ∙ (and_parts (limits.acts x) (not ((x == from) || (x == to))) (sym (others_are x) ∙ among x has)).1))

    forth : Separates rows from to others set → IsFilterSet limits from to set
    forth separates =
        let programs : (l : ℕ) → is_in set l ≡ true → limits.acts l ≡ true =
        λ l has. (and_parts (limits.acts l) (not ((l == from) || (l == to))) (sym (others_are l) ∙ separates.among l has)).0 in
        let not_from = end_out from (or_left (from == from) (from == to) (eq-eqb from from refl)) separates.among in
        let not_to = end_out to (or_right (to == from) (to == to) (eq-eqb to to refl)) separates.among in
        record {
          programs = programs;
          not_from = not_from;
          not_to = not_to;
          through = λ leads. separates.cuts (way_of limits rows graph (is_in set) programs from not_from leads not_to);
        }

    no_end : (l x : ℕ) → is_in set l ≡ true → is_in set x ≡ false → (l == x) ≡ false
    no_end l x has lacks = by (l == x) refl where
      by : (b : Bool) → (l == x) ≡ b → (l == x) ≡ false
      by false other = other
      by true same = absurd (false≢true (sym lacks ∙ ap (is_in set) (sym (eqb-true l x same)) ∙ has))

    neither : (b c : Bool) → b ≡ false → c ≡ false → not (b || c) ≡ true
    neither b c no_b no_c = ap (λ d. not (d || c)) no_b ∙ ap not no_c

    back : IsFilterSet limits from to set → Separates rows from to others set
    back filters = record {
      among = λ l has. others_are l
          ∙ and_from (limits.acts l) (not ((l == from) || (l == to))) (filters.programs l has)
          (neither (l == from) (l == to) (no_end l from has filters.not_from) (no_end l to has filters.not_to));
      cuts = λ way. filters.through (chain_of limits rows graph (is_in set) filters.programs from filters.not_from way filters.not_to);
    }
