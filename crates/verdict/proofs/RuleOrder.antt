-- That the rules of closed policies, and those of sharply closed ones, come before the rules of authority.
use Rattle.std.{specs.{declared.cmp.Ordering.TheVariants.{Greater, Less}, Ordering.ordering_reverse}, proofs.Common.{[], ℕ, ◌<◌, ◌∙◌, ◌∷◌}}
use Rattle.std.proofs.{Common.{◌≡◌, ◌≤◌, List, ap, arith, get_or, lit<, lit≤, refl, sym}, lemmas.Cmp.nat_list_cmp_total}
use Rattle.policy.specs.{declared.broken.Broken.{Broken, Broken as broken}, Broken.broken_place, Places.ComesBefore}
use Rattle.sharp.specs.{declared.broken.SharpBroken.{SharpBroken, SharpBroken as sharp}, Broken.sharp_place}
use Rattle.verdict.specs.Rules.{Excess, a1, binding, capability, excess_place, holding, pair, recorded, root}

-- a place of a smaller rule comes first
pub before_by_rule : (one other : List ℕ) → get_or one 0 0 < get_or other 0 0 → ComesBefore one other
before_by_rule [] [] below = absurd (omega (arith, below))
before_by_rule [] (y ∷ ys) below = refl
before_by_rule (x ∷ xs) [] below = absurd (omega (arith, below))
before_by_rule (x ∷ xs) (y ∷ ys) below = grind (arith, below)

pub never_both : (one other : List ℕ) → ComesBefore one other → ComesBefore other one → ⊥
never_both one other before after =
    let both : Less ≡ Greater = sym before ∙ nat_list_cmp_total.antisymm one other ∙ ap ordering_reverse after in cc

pub not_before_by_rule : (one other : List ℕ) → get_or one 0 0 < get_or other 0 0 → ComesBefore other one → ⊥
not_before_by_rule one other below = never_both one other (before_by_rule one other below)

pub first_rules : (b : Broken) → get_or (broken_place b) 0 0 < a1
first_rules (broken.SubjectsDisagree _ _ _ _) = lit< tt
first_rules (broken.ControlLacks _ _ _) = lit< tt
first_rules (broken.GrantLacks _ _ _ _) = lit< tt
first_rules (broken.DomainLacks _ _) = lit< tt
first_rules (broken.DeriveLacks _ _) = lit< tt
first_rules (broken.ContextLacks _ _) = lit< tt
first_rules (broken.ReplyLacks _ _) = lit< tt
first_rules (broken.LentLacks _ _) = lit< tt

pub first_sharp_rules : (b : SharpBroken) → get_or (sharp_place b) 0 0 < a1
first_sharp_rules (sharp.SubjectLacks _ _ _ _) = lit< tt
first_sharp_rules (sharp.ControlLacks _ _ _) = lit< tt
first_sharp_rules (sharp.GrantLacks _ _ _ _) = lit< tt
first_sharp_rules (sharp.DomainLacks _ _) = lit< tt
first_sharp_rules (sharp.DeriveLacks _ _) = lit< tt
first_sharp_rules (sharp.ContextLacks _ _) = lit< tt
first_sharp_rules (sharp.ReplyLacks _ _) = lit< tt
first_sharp_rules (sharp.LentLacks _ _) = lit< tt

pub last_rules : (place : Excess) → a1 ≤ get_or (excess_place place) 0 0
last_rules (capability _ _ _) = lit≤ tt
last_rules (root _ _) = lit≤ tt
last_rules (pair _ _) = lit≤ tt
last_rules (binding _ _) = lit≤ tt
last_rules (holding _ _) = lit≤ tt
last_rules (recorded _ _ _) = lit≤ tt

pub policy_first : (b : Broken) (place : Excess) → ComesBefore (broken_place b) (excess_place place)
policy_first b place = before_by_rule (broken_place b) (excess_place place) (let one = first_rules b in let other = last_rules place in omega (arith, one, other))
