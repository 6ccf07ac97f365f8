-- Plans as values, without where they lie in memory (confine's own).
use Rattle.std.specs.{Global.Vec, Prelude.{List, map}}
use Rattle.{microkit.specs.{declared.description.Map.Map, LabelView.bytes_of, View.description_of}, importing.specs.Built.Plan}
use Rattle.importing.specs.declared.builder.Plan as declared_plan

abbrev pub maps_of : List (Vec Map) → List (List Map)
maps_of uses = map (λ (one : Vec Map). one.items) uses

abbrev pub plan_of : declared_plan.Plan → Plan
plan_of plan =
    record {
      description = description_of plan.description.now;
      subjects = plan.subjects.items;
      names = bytes_of plan.names.items;
      uses = maps_of plan.uses.items;
      places = plan.places.items;
      labelled = plan.labelled.items;
      grants = plan.grants.items;
    }
