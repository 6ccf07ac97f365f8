-- That a table keeps the report of its acceptance and the names of places when it is turned into one of version 2.
use Rattle.std.{specs.Prelude.Option, proofs.Common.{ℕ, ◌↔◌, ◌≡◌, List, refl, subst, sym}}
use Rattle.base.specs.declared.{edge.Edge.Edge, ids.ObjId.ObjId}
use Rattle.machine.specs.{declared.object.ObjectKind.ObjectKind, Authority.{label_at, label_of}}
use Rattle.machine.specs.{Layout.{Layout, declared_label, initial_of, upgraded}, Machine.Machine}
use Rattle.{table.specs.Rules.kind_at, policy.specs.{declared.broken.Broken.Broken, Domain.EdgeTest, Places.IsLeast}}
use Rattle.sharp.specs.declared.broken.SharpBroken.{SharpBroken, SharpBroken as sharp}
use Rattle.verdict.specs.declared.denial.Denial.{Denial, Denial as denial}
use Rattle.verdict.specs.{Rules.{Exceeds, Excess, excess_place}, Sources.{Sources, of_machine}, Verdict.IsOutside}
use Rattle.reptext.specs.{Places.{broken_names, place_names, place_names_by, sharp_names}, Reports.IsCheckReport}
use Rattle.policy.specs.declared.broken.Broken.TheVariants as broken

pub reported : (t : Layout) (edges : List Edge) (text : List ℕ) → IsCheckReport (upgraded t) edges text → IsCheckReport t edges text
reported t edges text h = record { cut = h.cut; full = h.full; cuts = h.cuts; fulls = h.fulls; told = h.told }

pub reported_upgraded : (t : Layout) (edges : List Edge) (text : List ℕ) → IsCheckReport t edges text → IsCheckReport (upgraded t) edges text
reported_upgraded t edges text h = record { cut = h.cut; full = h.full; cuts = h.cuts; fulls = h.fulls; told = h.told }

same_broken : (t : Layout) (b : Broken) → broken_names (upgraded t) b ≡ broken_names t b
same_broken t (broken.SubjectsDisagree subject other kind target) = refl
same_broken t (broken.ControlLacks subject kind object) = refl
same_broken t (broken.GrantLacks giver taker kind target) = refl
same_broken t (broken.DomainLacks parent child) = refl
same_broken t (broken.DeriveLacks parent child) = refl
same_broken t (broken.ContextLacks subject context) = refl
same_broken t (broken.ReplyLacks reply thread) = refl
same_broken t (broken.LentLacks borrower context) = refl

same_sharp : (t : Layout) (b : SharpBroken) → sharp_names (upgraded t) b ≡ sharp_names t b
same_sharp t (sharp.SubjectLacks subject other kind target) = refl
same_sharp t (sharp.ControlLacks subject kind object) = refl
same_sharp t (sharp.GrantLacks giver taker kind target) = refl
same_sharp t (sharp.DomainLacks parent child) = refl
same_sharp t (sharp.DeriveLacks parent child) = refl
same_sharp t (sharp.ContextLacks subject context) = refl
same_sharp t (sharp.ReplyLacks reply thread) = refl
same_sharp t (sharp.LentLacks borrower context) = refl

-- the names don't depend on the version, for all kinds of the objects
pub same_names :
    (kinds : ObjId → Option ObjectKind) (t : Layout) (d : Denial) → place_names_by kinds (upgraded t) d ≡ place_names_by kinds t d
same_names kinds t (denial.Policy broken) = same_broken t broken
same_names kinds t (denial.Sharp broken) = same_sharp t broken
same_names kinds t (denial.Capability slot kind label) = refl
same_names kinds t (denial.Root slot label) = refl
same_names kinds t (denial.Pair child parent) = refl
same_names kinds t (denial.Binding thread context) = refl
same_names kinds t (denial.Holding reply thread) = refl
same_names kinds t (denial.Recorded thread kind label) = refl
same_names kinds t (denial.Certificate line) = refl

pub same_places : (t : Layout) (d : Denial) → place_names (upgraded t) d ≡ place_names t d
unfolding initial_of kind_at
same_places t d = same_names (kind_at t) t d

same_sources : (t : Layout) (m : Machine) → of_machine (upgraded t) m ≡ of_machine t m
unfolding label_of declared_label label_at initial_of
same_sources t m = refl

pub same_outside :
    (t : Layout) (allowed : EdgeTest) (m : Machine) (place : Excess) → IsOutside (upgraded t) allowed m place ↔ IsOutside t allowed m place
same_outside t allowed m place =
    let At : Sources → Type 0 = λ s. IsLeast excess_place (Exceeds s allowed) place in
    (subst At (same_sources t m), subst At (sym (same_sources t m)))
