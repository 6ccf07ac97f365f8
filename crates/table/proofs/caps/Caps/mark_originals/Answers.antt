use Rattle.std.proofs.{Common.{◌++◌, ◌∙◌, ◌≡◌, List, ap, arith, drop, length, map, subst, sym, take}, Math.Seq.take-append_seam}
use Rattle.machine.specs.declared.layout.Filled.{Filled}
use Rattle.table.{specs.{Aims.Marks, Tree.{is_original, tree_of, with_mark}}, proofs.TreeLemmas.marks_marked}
use Rattle.table.proofs.caps.Caps.mark_originals.Goals as goal

pub invariant_of-self : goal.invariant_of-self
invariant_of-self c =
    let caps = c.self.inside.items.items in
    let pairs = c.args.pairs.now in
    let size : length c.mark_originals.new.caps ≡ c.self.inside.items.len = omega arith in
    let marked : c.mark_originals.new.caps ≡ map (with_mark (tree_of caps pairs)) caps =
    c.mark_originals.ensures ∙ ap (λ caps. map (with_mark (tree_of caps pairs)) caps) c.deref_mut.ensures.value in
    let all : take c.self.inside.items.len (c.mark_originals.new.caps ++ drop (length c.mark_originals.new.caps) caps)
    ≡ map (with_mark (tree_of caps pairs)) caps =
    ap (λ n. take n (c.mark_originals.new.caps ++ drop (length c.mark_originals.new.caps) caps)) (sym size)
    ∙ take-append_seam c.mark_originals.new.caps _ ∙ marked in
    let Kept = λ (caps : List Filled). Marks caps c.self.inside.aimed.items in
    subst Kept (sym all)
    (marks_marked (λ filled. is_original (tree_of caps pairs) filled.slot filled.cap.detail) caps c.self.inside.aimed.items
    c.self.invariant)
