-- That the reports of broken claims, of what a label may do, and of summaries have no number with a fraction.
use Rattle.std.specs.{List.flat_map, Prelude.{codes, if◌then◌else◌}, Str.bytes_eq}
use Rattle.std.proofs.Common.{[], ℕ, ◌++◌, ◌==◌, ◌∷◌, ◌≡◌, Bool, List, None, Option, Some, false, map, refl, true}
use Rattle.{serde_json.specs.{Data.Data, View.items_of, Written.{has_float, items_have_float}}, base.specs.declared.edge.Edge.Edge}
use Rattle.{machine.specs.Layout.Layout, policy.specs.declared.why.Why.{Why, Why as why}, captext.specs.PolicyText.label_name}
use Rattle.summary.specs.{declared.rows.Row.Row, Labelled.{others_of, programs_of}, Marks.marks, Regions.{changers, readers, takers}}
use Rattle.claims.specs.declared.{claim.Claim.Claim, deciding.{Broken.Broken, Failure.{Failure, Failure as failure}}}
use Rattle.claims.specs.{declared.keeping.Kept.Kept, Lines.claim_at}
use Rattle.reptext.specs.{Breaches.{breaches_data, failure_data, names_both, told, told_of}, Reasons.{edge_data, why_data}}
use Rattle.reptext.specs.Summaries.{cell_data, cells_of, region_data, summary_data, told_cell}
use Rattle.reptext.proofs.Names.{names_have_no_float, neither}

one : (t : Layout) (claim : Claim) (line : ℕ) (why : Failure) → has_float (failure_data t claim line why) ≡ false
one t claim line (failure.Pair breach) = by (names_both claim) refl where
  by : (both : Bool) → names_both claim ≡ both → has_float (failure_data t claim line (failure.Pair breach)) ≡ false
  by true e = rw e refl
  by false e = rw e refl
one t claim line failure.Chain = refl
one t claim line (failure.Edge edge) = by (names_both claim) refl where
  by : (both : Bool) → names_both claim ≡ both → has_float (failure_data t claim line (failure.Edge edge)) ≡ false
  by true e = rw e refl
  by false e = rw e refl

after : (t : Layout) (broken : Broken) (claim : Option Claim) (rest : List Data) → items_have_float (items_of rest) ≡ false
    → items_have_float (items_of (told_of t broken claim ++ rest)) ≡ false
after t broken None rest h = h
after t broken (Some claim) rest h = rw (one t claim broken.line broken.failure) h

all : (t : Layout) (lines : List (Option Claim)) (broken : List Broken) → items_have_float (items_of (flat_map (told t lines) broken)) ≡ false
all t lines [] = refl
all t lines (first ∷ more) = after t first (claim_at lines first.line) (flat_map (told t lines) more) (all t lines more)

pub breaches_have_no_float : (t : Layout) (lines : List (Option Claim)) (broken : List Broken) (kept : Kept)
    → has_float (breaches_data t lines broken kept) ≡ false
breaches_have_no_float t lines broken kept = rw (all t lines broken) refl

-- the report of what a label may do

edges_have_no_float : (t : Layout) (edges : List Edge) → items_have_float (items_of (map (edge_data t) edges)) ≡ false
edges_have_no_float t [] = refl
edges_have_no_float t (edge ∷ edges) = edges_have_no_float t edges

pub why_has_no_float : (t : Layout) (a l : ℕ) (answer : Why) → has_float (why_data t a l answer) ≡ false
why_has_no_float t a l (why.Full edges) = rw (edges_have_no_float t edges.items) refl
why_has_no_float t a l (why.Take edges) = rw (edges_have_no_float t edges.items) refl
why_has_no_float t a l why.Nothing = refl

-- the report of a summary

both : (first second : List Data) → items_have_float (items_of first) ≡ false → items_have_float (items_of second) ≡ false
    → items_have_float (items_of (first ++ second)) ≡ false
both [] second p q = q
both (x ∷ first) second p q =
    let parts = neither (has_float x) (items_have_float (items_of first)) p in
    rw parts.0 (both first second parts.1 q)

each_of : {X : Type 0} (f : X → List Data) → ((x : X) → items_have_float (items_of (f x)) ≡ false) → (xs : List X)
    → items_have_float (items_of (flat_map f xs)) ≡ false
each_of f none [] = refl
each_of f none (x ∷ xs) = both (f x) (flat_map f xs) (none x) (each_of f none xs)

cell : (t : Layout) (row other : Row) → items_have_float (items_of (told_cell t row other)) ≡ false
cell t row other = by (row.label == other.label) (bytes_eq (marks row other.label) (codes ".")) where
  by : (same dot : Bool)
      → items_have_float (items_of (if same then [] else (if dot then [] else cell_data t row other ∷ []))) ≡ false
  by true dot = refl
  by false true = refl
  by false false = refl

cells : (t : Layout) (rows some : List Row) → items_have_float (items_of (flat_map (cells_of t rows) some)) ≡ false
cells t rows some = each_of (cells_of t rows) (λ row. each_of (told_cell t row) (cell t row) rows) some

regions : (t : Layout) (rows : List Row) (labels : List ℕ) → items_have_float (items_of (map (region_data t rows) labels)) ≡ false
regions t rows [] = refl
regions t rows (l ∷ labels) =
    rw (names_have_no_float (map (label_name t) (changers rows l)))
    (rw (names_have_no_float (map (label_name t) (readers rows l)))
    (rw (names_have_no_float (map (label_name t) (takers rows l))) (regions t rows labels)))

pub summary_has_no_float : (t : Layout) (rows : List Row) → has_float (summary_data t rows) ≡ false
summary_has_no_float t rows =
    rw (cells t rows rows) (rw (regions t rows (others_of t)) (rw (names_have_no_float (map (label_name t) (programs_of t))) refl))
