-- The numbers by which the search takes the sharp rules in order (confine's own).
use Rattle.{std.specs.Prelude.ℕ, sharp.specs.{declared.broken.Rule.{Rule, Rule as rule}, Broken.{s1, s2, s3, s4, s5, s6, s7, s8}}}

abbrev pub rule_number : Rule → ℕ
rule_number rule.S1 = s1
rule_number rule.S2 = s2
rule_number rule.S3 = s3
rule_number rule.S4 = s4
rule_number rule.S5 = s5
rule_number rule.S6 = s6
rule_number rule.S7 = s7
rule_number rule.S8 = s8
