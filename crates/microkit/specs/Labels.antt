-- Labels of the table that a description becomes, and their names (confine's own).
use Rattle.std.specs.{List.{list_any, range_with_len}, Option.option_map_or, Prelude.{[], ℕ, ◌&&◌, ◌++◌, ◌==◌, ◌||◌, ◌∷◌, Bool, Err, List}}
use Rattle.std.specs.Prelude.{None, Ok, Option, Result, Some, codes, filter, if◌then◌else◌, length, map, slice_get, take}
use Rattle.words.specs.{declared.faults.{Fault.Fault, Wrong.TheVariants.Limit}, Fault.fault_at, Reading.◌>>=◌}
use Rattle.microkit.specs.declared.{description.{Channel.Channel, Map.Map}, labels.Subject.Subject, names.TheConstants.MAX_TRIES}
use Rattle.microkit.specs.{Description.{Description, Domain, Machine, Region}, Names.{candidate, free_from, is_known, plain_name}}
use Rattle.microkit.specs.declared.labels.Subject.TheVariants as subject

-- whether a domain may call another
abbrev pub may_call : List Channel → ℕ → Bool
may_call channels domain =
    list_any
    (λ (channel : Channel).
    (channel.first.may_call && channel.first.id.domain == domain) || (channel.second.may_call && channel.second.id.domain == domain))
    channels

-- whether somebody maps a region
abbrev pub is_mapped : List Map → ℕ → Bool
is_mapped maps region = list_any (λ (map : Map). map.region == region) maps

-- the parts that have a label: each domain, each virtual machine, the time of each domain that may call another, each region somebody maps
unfoldable pub subjects_of : Description → List Subject
subjects_of d =
    map (λ n. subject.Domain n) (range_with_len 0 (length d.domains))
    ++ (map (λ n. subject.Machine n) (range_with_len 0 (length d.machines))
    ++ (map (λ n. subject.Time n) (filter (may_call d.channels) (range_with_len 0 (length d.domains)))
    ++ map (λ n. subject.Region n) (filter (is_mapped d.maps) (range_with_len 0 (length d.regions)))))

abbrev pub domain_name : Description → ℕ → List ℕ
domain_name d n = option_map_or (λ (domain : Domain). domain.name) (slice_get d.domains n) []

abbrev pub machine_name : Description → ℕ → List ℕ
machine_name d n = option_map_or (λ (machine : Machine). machine.name) (slice_get d.machines n) []

abbrev pub region_name : Description → ℕ → List ℕ
region_name d n = option_map_or (λ (region : Region). region.name) (slice_get d.regions n) []

-- the name of a subject in the description; a domain's time goes by the domain
unfoldable pub name_of : Description → Subject → List ℕ
name_of d (subject.Domain n) = domain_name d n
name_of d (subject.Machine n) = machine_name d n
name_of d (subject.Time n) = domain_name d n
name_of d (subject.Region n) = region_name d n

-- the end of a label's name: `_time` for a time, and `_mr` for a region with the name of a domain's label
unfoldable pub ending_of : List (List ℕ) → List ℕ → Subject → List ℕ
ending_of domains name (subject.Time n) = codes "_time"
ending_of domains name (subject.Region n) = if is_known domains (candidate name [] 1) then codes "_mr" else []
ending_of domains name _ = []

-- a name, or the fault of a limit
unfoldable pub or_limit : ℕ → Option (List ℕ) → Result (List ℕ) Fault
or_limit line (Some name) = Ok name
or_limit line None = Err (fault_at line Limit)

unfoldable pub line_of : Description → Subject → ℕ
line_of d (subject.Domain n) = option_map_or (λ (domain : Domain). domain.line) (slice_get d.domains n) 0
line_of d (subject.Machine n) = option_map_or (λ (machine : Machine). machine.line) (slice_get d.machines n) 0
line_of d (subject.Time n) = option_map_or (λ (domain : Domain). domain.line) (slice_get d.domains n) 0
line_of d (subject.Region n) = option_map_or (λ (region : Region). region.line) (slice_get d.regions n) 0

-- the name of the next label: the subject's name with its ending, in the first try that no label before has
unfoldable pub label_at : Description → List (List ℕ) → Subject → Result (List ℕ) Fault
label_at d names subject =
    let name = plain_name (name_of d subject) in
    or_limit (line_of d subject)
    (free_from names name (ending_of (take (length d.domains) names) name subject) 1 MAX_TRIES)

-- the names of the labels before, and of the next one
unfoldable pub named_at : Description → List (List ℕ) → Subject → Result (List (List ℕ)) Fault
named_at d names subject = do
  name ← label_at d names subject
  Ok (names ++ name ∷ [])

-- the names of labels, after those before
unfoldable pub names_from : Description → List (List ℕ) → List Subject → Result (List (List ℕ)) Fault
names_from d names [] = Ok names
names_from d names (subject ∷ subjects) = named_at d names subject >>= λ next. names_from d next subjects

-- the names of all labels, in their order
unfoldable pub names_of : Description → Result (List (List ℕ)) Fault
names_of d = names_from d [] (subjects_of d)
