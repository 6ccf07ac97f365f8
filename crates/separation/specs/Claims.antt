-- The claims that a description makes: a label with a thread leaves alone each label that it isn't joined to (confine's own).
use Rattle.std.specs.{List.{flat_map, range_with_len}, Option.option_map_or, Prelude.{[], ℕ, ◌&&◌, ◌++◌, ◌==◌, Bool, List}}
use Rattle.std.specs.Prelude.{None, Option, Some, codes, false, filter, length, map, not, option_and_then, slice_get, unwrap_or}
use Rattle.microkit.specs.{declared.{description.User.User, labels.Subject.Subject}, Description.Description}
use Rattle.{importing.specs.Groups.labelled_of, separation.specs.{declared.claims.Pair.Pair, Joined.is_joined, Lending.all_runners}}
use Rattle.microkit.specs.declared.description.User.TheVariants as user
use Rattle.microkit.specs.declared.labels.Subject.TheVariants as subject

-- the user behind a label, if it has threads
unfoldable pub user_of : Subject → Option User
user_of (subject.Domain n) = Some (user.Domain n)
user_of (subject.Machine n) = Some (user.Machine n)
user_of (subject.Time n) = None
user_of (subject.Region n) = None

-- a user is kept apart from the label of this number
unfoldable pub is_apart : Description → List (List ℕ) → List Subject → User → ℕ → Bool
is_apart d runners subjects one object =
    option_map_or (λ subject. not (is_joined d runners one subject)) (slice_get subjects object) false

abbrev pub pair_of : ℕ → ℕ → Pair
pair_of actor object = record { actor = actor; object = object }

-- the labels from which the label of a user is kept apart
abbrev pub pairs_with : Description → List (List ℕ) → List Subject → ℕ → User → List Pair
pairs_with d runners subjects actor one =
    map (pair_of actor)
    (filter (λ object. not (object == actor) && is_apart d runners subjects one object)
    (range_with_len 0 (length subjects)))

abbrev pub pairs_if : Description → List (List ℕ) → List Subject → ℕ → Option User → List Pair
pairs_if d runners subjects actor None = []
pairs_if d runners subjects actor (Some one) = pairs_with d runners subjects actor one

abbrev pub pairs_at : Description → List (List ℕ) → List Subject → ℕ → List Pair
pairs_at d runners subjects actor =
    pairs_if d runners subjects actor (option_and_then user_of (slice_get subjects actor))

-- all pairs of labels that are kept apart
abbrev pub pairs_of : Description → List (List ℕ) → List Subject → List Pair
pairs_of d runners subjects =
    flat_map (pairs_at d runners subjects) (range_with_len 0 (length subjects))

abbrev pub name_at : List (List ℕ) → ℕ → List ℕ
name_at names number = unwrap_or (slice_get names number) []

-- the line of a claim, with the names of the labels
abbrev pub claim_line : List (List ℕ) → Pair → List ℕ
claim_line names pair =
    codes "none " ++ (name_at names pair.actor ++ (codes " " ++ (name_at names pair.object ++ codes "\n")))

abbrev pub lines_of : List (List ℕ) → List Pair → List ℕ
lines_of names pairs = flat_map (claim_line names) pairs

-- the text of these claims
abbrev pub text_of : List (List ℕ) → List Pair → List ℕ
text_of names pairs = codes "confine-claims 2\n" ++ (lines_of names pairs ++ codes "end\n")

-- all pairs of labels that a description keeps apart
abbrev pub all_pairs : Description → List Pair
all_pairs d = pairs_of d (all_runners d) (labelled_of d)

-- the text of the claims of a description, with these names of labels
abbrev pub claims_text : List (List ℕ) → Description → List ℕ
claims_text names d = text_of names (all_pairs d)
