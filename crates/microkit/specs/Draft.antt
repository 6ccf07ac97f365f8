-- Drafts: the part of a description that was read so far, and the place where an element stands (confine's own).
use Rattle.std.specs.{List.find, Option.option_map, Prelude.{[], ℕ, ◌&&◌, ◌++◌, ◌-◌, ◌==◌, ◌∷◌, Err, List, None, Ok, Option}}
use Rattle.{std.specs.Prelude.{Result, Some, length, slice_get, take, unwrap_or}, words.specs.Reading.◌>>=◌, xml.specs.Document.Node}
use Rattle.microkit.specs.declared.{description.Id.Id, draft.{Begun.Begun, Place.Place, Taken.Taken}, flaws.Flaw.Flaw, kinds.Kind.Kind}
use Rattle.microkit.specs.{Description.Description, Flaws.unless_found, Kinds.kind_within}
use Rattle.microkit.specs.declared.flaws.Flaw.TheVariants as flaw
use Rattle.microkit.specs.declared.kinds.Kind.TheVariants as kind

-- what was read so far: the description, the elements that the next one may stand in, outermost first, a channel that hasn't its two
-- ends yet, the ids of interrupts and channels, and those of children and virtual processors, each with the line that has it
pub record Draft : Type 0 where
  pub description : Description
  pub path : List Place
  pub begun : Option Begun
  pub ids : List Taken
  pub children : List Taken

unfoldable pub no_draft : Draft
no_draft =
    record {
      description = record {
        regions = [];
        domains = [];
        machines = [];
        processors = [];
        maps = [];
        interrupts = [];
        ports = [];
        variables = [];
        channels = [];
      };
      path = [];
      begun = None;
      ids = [];
      children = [];
    }

-- the place outside of the root
abbrev pub outermost : Place
outermost = record { kind = kind.Document; domain = 0; machine = 0 }

-- the elements in which an element of this level stands
abbrev pub outer_path : ℕ → Draft → List Place
outer_path level draft = take (level - 1) draft.path

-- the innermost element of a path
abbrev pub innermost : List Place → Place
innermost path = unwrap_or (slice_get path (length path - 1)) outermost

-- what stands within an element is in the domain, and in the virtual machine, that the element begins, if it begins one
unfoldable pub inside : Description → Place → Place
inside description place = by_kind place.kind
  where
    by_kind : Kind → Place
    by_kind kind.Domain = record place { domain = length description.domains }
    by_kind kind.Child = record place { domain = length description.domains }
    by_kind kind.Machine = record place { machine = length description.machines }
    by_kind _ = place

-- the kind of an element that may stand in one of this kind
unfoldable pub known_kind : Kind → Option Kind → Result Kind Flaw
known_kind outer (Some kind) = Ok kind
known_kind outer None = Err (flaw.Element outer)

-- an element of this place is entered
abbrev pub entered : ℕ → Place → Draft → Draft
entered level place draft = record draft { path = outer_path level draft ++ inside draft.description place ∷ [] }

-- the place of an element, and the draft with it on the path
unfoldable pub place_at : Node → Draft → Result (Place × Draft) Flaw
place_at node draft = do
  let outer : Place = innermost (outer_path node.level draft)
  kind ← known_kind outer.kind (kind_within outer.kind node.name)
  let place : Place = record outer { kind = kind }
  Ok (place, entered node.level place draft)

-- the number of what has this name, which must be known
abbrev pub known_number : Flaw → Option ℕ → Result ℕ Flaw
known_number flaw None = Err flaw
known_number flaw (Some number) = Ok number

-- the line that has an id
abbrev pub line_of_id : List Taken → Id → Option ℕ
line_of_id ids id =
    option_map (λ (one : Taken). one.line)
    (find (λ (one : Taken). one.id.domain == id.domain && one.id.number == id.number) ids)

-- an id must not be given twice
unfoldable pub free_at : List Taken → Id → Result (Unit {0}) Flaw
free_at ids id = unless_found flaw.Id (line_of_id ids id)
