-- Regions that share a label, if a table would have more labels than it may (confine's own).
use Rattle.std.specs.{List.{filter_map, list_all, list_any, range_with_len}, Option.option_map_or, Prelude.{[], ℕ, ◌&&◌, ◌==◌, ◌||◌, Bool}}
use Rattle.std.specs.Prelude.{List, false, filter, if◌then◌else◌, length, map, nat_le, not, position, slice_get, unwrap_or}
use Rattle.base.specs.declared.label.TheConstants.Label as Label
use Rattle.microkit.specs.{declared.{description.Map.Map, labels.Subject.Subject}, Description.Description, Labels.{line_of, subjects_of}}
use Rattle.microkit.specs.declared.labels.Subject.TheVariants as subject
use Rattle.importing.specs.{Maps.is_user, Plan.same_subject}

-- the maps of a region
abbrev pub uses_of : List Map → ℕ → List Map
uses_of maps region = filter (λ (map : Map). map.region == region) maps

-- a user may do by the other map all that it may do by the one
abbrev pub is_met_by : Map → Map → Bool
is_met_by one other = is_user other.user one.user && (other.writable || not one.writable)

-- users may do by the other maps all that they may do by the one
abbrev pub are_met_by : List Map → List Map → Bool
are_met_by uses others = list_all (λ (one : Map). list_any (is_met_by one) others) uses

-- the same users have the same rights by some maps as by others
unfoldable pub are_alike : List Map → List Map → Bool
are_alike uses others = are_met_by uses others && are_met_by others uses

-- the maps of each region, if there would be more labels than a table may have; else none
unfoldable pub uses_in : Description → List (List Map)
uses_in d =
    if nat_le (length (subjects_of d)) Label.COUNT then [] else map (uses_of d.maps) (range_with_len 0 (length d.regions))

abbrev pub uses_at : List (List Map) → ℕ → List Map
uses_at uses region = unwrap_or (slice_get uses region) []

-- the first region that the same users map with the same rights; the region itself if no maps are given
abbrev pub first_alike : List (List Map) → ℕ → ℕ
first_alike uses region = unwrap_or (position (are_alike (uses_at uses region)) uses) region

-- the subject whose label a subject has: itself, or the first region like it
unfoldable pub leader_of : List (List Map) → Subject → Subject
leader_of uses (subject.Region region) = subject.Region (first_alike uses region)
leader_of uses one = one

-- the subject at a place has a label of its own
abbrev pub leads : List (List Map) → List Subject → ℕ → Bool
leads uses subjects place = option_map_or (λ one. same_subject (leader_of uses one) one) (slice_get subjects place) false

-- the places of the subjects with a label of their own, in the order of the labels
unfoldable pub places_of : List (List Map) → List Subject → List ℕ
places_of uses subjects = filter (leads uses subjects) (range_with_len 0 (length subjects))

abbrev pub leaders_at : List Subject → List ℕ → List Subject
leaders_at subjects places = filter_map (slice_get subjects) places

-- the subjects with a label of their own
unfoldable pub labelled_of : Description → List Subject
labelled_of d = leaders_at (subjects_of d) (places_of (uses_in d) (subjects_of d))

-- the name of the subject at a place
abbrev pub name_at : List (List ℕ) → ℕ → List ℕ
name_at names place = unwrap_or (slice_get names place) []

-- the names of the labels, by the names of all subjects
abbrev pub labels_at : List (List ℕ) → List ℕ → List (List ℕ)
labels_at names places = map (name_at names) places

-- the line of the subject at a place
abbrev pub line_at : List Subject → Description → ℕ → ℕ
line_at subjects d place = option_map_or (line_of d) (slice_get subjects place) 0
