-- That a marked draft is still a draft, and a lawful table if its tree has no fault.
use Rattle.std.proofs.Common.{◌∙◌, ◌≡◌, List, ap, map, subst, sym}
use Rattle.machine.specs.{declared.layout.{Filled.Filled, Pair.Pair}, Layout.{Layout, initial_cap, initial_parent}}
use Rattle.table.specs.{declared.draft.Draft.TheInside.Inside, Rules.{IsDraft, IsLawful}, Tree.{is_original, source_of, tree_fault}}
use Rattle.table.{specs.Tree.{tree_of, with_mark, with_originals}, proofs.TreeLemmas.{draft_remarked, lawful_marked}}
use Rattle.table.proofs.draft.Draft.mark_originals.Goals as goal

abbrev view : Inside → Layout
view inside = record {
  version = inside.version;
  labels = inside.labels;
  names = inside.objects.names;
  objects = inside.objects.objects;
  caps = inside.caps;
  pairs = inside.pairs.items;
  bindings = inside.bindings;
}

marked :
    (t : Layout) (caps : List Filled) (pairs : List Pair) → pairs ≡ t.pairs → caps ≡ map (with_mark (tree_of t.caps pairs)) t.caps
    → record t { caps = caps } ≡ with_originals t
unfolding is_original source_of initial_cap initial_parent
marked t caps pairs same is =
    λ i. record t { caps = (is ∙ ap (λ pairs. map (with_mark (tree_of t.caps pairs)) t.caps) same) i }

pub invariant_of-self : goal.invariant_of-self
invariant_of-self c =
    let t = view c.self.inside in
    let P : Layout → Type 0 = λ t. IsDraft t in
    subst P (sym (marked t _ _ c.as_slice.ensures.value c.mark_originals.ensures))
    (draft_remarked (λ filled. is_original t filled.slot filled.cap.detail) t c.self.invariant)

pub returns : goal.returns
returns c =
    let t = view c.self.inside in
    let is = marked t _ _ c.as_slice.ensures.value c.mark_originals.ensures in
    let P : Layout → Type 0 = λ t. IsLawful t in
    record {
      marked = is ∙ ap with_originals c.self.view_is;
      lawful = λ none. subst P (sym is) (lawful_marked t c.self.invariant (ap tree_fault (sym is) ∙ none));
    }
