use Rattle.std.{specs.List.{fold, range_with_len}, proofs.Common.◌≡◌}
use Rattle.{serde_json.specs.{Data.no_members, View.members_view}, reptext.specs.{Relations.relation_of, Reports.with_related}}
use Rattle.reptext.proofs.relations.sets_value.Given as goal

abbrev pub invariant-loop-number : goal.invariant-loop-number
invariant-loop-number l =
    members_view l.members.entries ≡ fold (with_related l.table (relation_of l.sets)) no_members (range_with_len 0 l.number)
