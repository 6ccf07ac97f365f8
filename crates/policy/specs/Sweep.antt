-- Numbers of the places of each rule of closed policies, for the search (confine's own).
use Rattle.std.specs.Prelude.{[], ℕ, ◌%◌, ◌*◌, ◌/◌, ◌∷◌, List}
use Rattle.policy.specs.{declared.broken.Rule.{Rule, Rule as rule}, Broken.{p1, p2, p3, p4, p5, p6, p7, p8}}

abbrev pub rule_number : Rule → ℕ
rule_number rule.P1 = p1
rule_number rule.P2 = p2
rule_number rule.P3 = p3
rule_number rule.P4 = p4
rule_number rule.P5 = p5
rule_number rule.P6 = p6
rule_number rule.P7 = p7
rule_number rule.P8 = p8

-- the number of places of a rule between this many labels: P1 and P3 have one for each pair of labels, the others for each label
abbrev pub count_of : ℕ → Rule → ℕ
count_of labels rule.P1 = labels * labels
count_of labels rule.P3 = labels * labels
count_of labels _ = labels

-- the beginning of a place, after the rule's number
abbrev pub place_of : ℕ → Rule → ℕ → List ℕ
place_of labels rule.P1 number = number / labels ∷ number % labels ∷ []
place_of labels rule.P3 number = number / labels ∷ number % labels ∷ []
place_of _ _ number = number ∷ []
