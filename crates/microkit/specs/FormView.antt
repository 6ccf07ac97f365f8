-- Rules as values, without where their names lie in memory (confine's own).
use Rattle.microkit.specs.{Forms.Rule}
use Rattle.microkit.specs.declared.rules.Rule as written

abbrev pub rule_of : written.Rule → Rule
rule_of rule = record { name = rule.0.now; form = rule.1; need = rule.2 }
