use Rattle.std.{specs.List.filter, proofs.Common.{◌∙◌, ap, arith, map}}
use Rattle.{serde_json.{specs.{Data.put, View.{members_view, view}}, proofs.Views.members_view-insert_entry}, base.specs.Labels.is_in}
use Rattle.{captext.specs.PolicyText.label_name, reptext.{specs.Reports.{labels_of, names_data}, proofs.LabelLists.same_set}}
use Rattle.reptext.proofs.relations.put_label.Goals as goal

pub returns : goal.returns
returns c =
    let t = c.args.table.now in
    let old = c.args.members.now.entries in
    let set = same_set c.args.sets.now c.from.result c.args.label _ (omega arith) c.requires in
    let names = c.in_ok-names.ensures ∙ ap (λ set. names_data (map (label_name t) (filter (is_in set) (labels_of t)))) set in
    ap members_view c.in_ok-insert.ensures.entries ∙ members_view-insert_entry old c.in_ok-name.name c.in_ok-names.names
    ∙ ap (λ name. put name (view c.in_ok-names.names) (members_view old)) c.in_ok-name.ensures
    ∙ ap (λ names. put (label_name t c.args.label) names (members_view old)) names
