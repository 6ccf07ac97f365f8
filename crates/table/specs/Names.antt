-- The labels of a table, and the numbers of labels and objects by name (confine's own; labels are those of 'seL4 Enforces Integrity',
-- section 3).
use Rattle.std.specs.{Prelude.{ℕ, ◌<◌, ◌↔◌, ◌≡◌, ◌≤◌, List, Option, length, option_map, position, true}, Str.bytes_eq}
use Rattle.{base.specs.{declared.{ids.ObjId.ObjId, labels.Labels.Labels}, Labels.is_in}, machine.specs.Layout.Layout}
use Rattle.base.specs.declared.label.TheConstants.Label as Label

-- the labels with their names, as the table has them
pub record AreLabelsOf (t : Layout) (labels : Labels) : Type 0 where
  pub few : length t.labels ≤ Label.COUNT
  pub are : (label : ℕ) → (is_in labels label ≡ true) ↔ (label < length t.labels)

unfoldable pub label_named : Layout → List ℕ → Option ℕ
label_named t name = position (λ other. bytes_eq name other) t.labels

unfoldable pub object_named : Layout → List ℕ → Option ObjId
object_named t name = option_map (λ number. record { 0 = number }) (position (λ other. bytes_eq name other) t.names)
