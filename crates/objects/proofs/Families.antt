-- The links of slots stay those of a forest as a slot comes under a parent, and as it leaves its own.
use Rattle.std.{specs.Prelude.{IsSome, None, Option, Some}, proofs.Common.{ℕ, ◌<◌, ◌∙◌, ◌≡◌, ◌≢◌, ap, arith, inl, inr, refl, subst, sym}}
use Rattle.{base.specs.declared.ids.{ObjId.ObjId, SlotRef.SlotRef}, machine.specs.declared.cap.Cap.Cap}
use Rattle.objects.specs.{declared.{entry.Entry.Entry, links.TreeLinks.TreeLinks}, Entries.{Entries, entry_of, slot_at}}
use Rattle.objects.specs.Family.{AreKin, attached, by_links, cap_in, head_of, leaving, links_at, with_links}
use Rattle.objects.{specs.Forest.{IsForest, Joins, Leaves}, proofs.{Detaching.left_forest, Forests.{empty_forest, first_of, joined_forest}}}
use Rattle.objects.proofs.SlotLemmas.{SetsLinks, SlotsAlone, alone_twice, cases_slot, link_kept, linked_there, sets_links}

-- unchanged links
pub same_kin : (old new : ObjId → Option Entry) → ((q : SlotRef) → links_at new q ≡ links_at old q) → AreKin old → AreKin new
same_kin old new linked = subst (λ l. IsForest (by_links l)) (λ i q. sym (linked q) i)

-- no slot with links
pub no_kin :
    (entry : ObjId → Option Entry)
    → ((q : SlotRef) → links_at entry q ≡ record { parent = None; first = None; next = None; previous = None }) → AreKin entry
no_kin entry none =
    empty_forest (by_links (links_at entry)) (λ q. ap (λ l. l.parent) (none q)) (λ q. ap (λ l. l.first) (none q))
    (λ q. ap (λ l. l.next) (none q)) (λ q. ap (λ l. l.previous) (none q))

-- pairs join slots that are there

pub child_there :
    (entry : ObjId → Option Entry) (c p : SlotRef) → (links_at entry c).parent ≡ Some p → IsSome (slot_at entry c)
child_there entry c p is = linked_there (slot_at entry c) (λ l. l.parent) p refl is

pub parent_there :
    (entry : ObjId → Option Entry) → AreKin entry → (c p : SlotRef) → (links_at entry c).parent ≡ Some p → IsSome (slot_at entry p)
parent_there entry kin c p is =
    let head = first_of (by_links (links_at entry)) kin c p is in linked_there (slot_at entry p) (λ l. l.first) head.0 refl head.1

module _ (entries : Entries) (kin : AreKin (entry_of entries)) where
  abbrev old : SlotRef → TreeLinks
  old = links_at (entry_of entries)

  abbrev held : SlotRef → Option Cap
  held q = cap_in (slot_at (entry_of entries) q)

  abbrev there : SlotRef → Type 0
  there q = IsSome (slot_at (entry_of entries) q)

  behind_differs : (a b : SlotRef) → (old b).previous ≡ Some a → a ≢ b
  behind_differs a b behind same =
      let less : kin.order a < kin.order b = kin.later a b behind in
      let equal : kin.order a ≡ kin.order b = ap kin.order same in omega arith

  -- a root comes under a parent

  module _ (slot parent : SlotRef) (below : there slot) (above : there parent)
      (root : (old slot).parent ≡ None) (differs : slot ≢ parent) where
    abbrev head : Option SlotRef
    head = (old parent).first

    abbrev set_leader : TreeLinks → TreeLinks
    set_leader l = record l { previous = Some slot }

    abbrev set_under : TreeLinks → TreeLinks
    set_under l = record l { parent = Some parent; next = head; previous = None }

    abbrev set_first : TreeLinks → TreeLinks
    set_first l = record l { first = Some slot }

    abbrev entries1 : Entries
    entries1 = with_links entries head set_leader

    abbrev entries2 : Entries
    entries2 = with_links entries1 (Some slot) set_under

    first_step : SetsLinks entries entries1 head set_leader
    first_step =
        sets_links entries head set_leader
        (λ q is. linked_there (slot_at (entry_of entries) q) (λ l. l.parent) parent refl (kin.headed parent q is).0)

    second_step : SetsLinks entries1 entries2 (Some slot) set_under
    second_step =
        sets_links entries1 (Some slot) set_under
        (λ q is.
        let one : slot ≡ q = cc in
        first_step.there q (subst there one below))

    third_step : SetsLinks entries2 (attached entries slot parent) (Some parent) set_first
    third_step =
        sets_links entries2 (Some parent) set_first
        (λ q is.
        let one : parent ≡ q = cc in
        second_step.there q
        (first_step.there q (subst there one above)))

    abbrev joined : SlotRef → TreeLinks
    joined = links_at (entry_of (attached entries slot parent))

    not_head : (q : SlotRef) → head ≡ Some q → q ≢ slot
    not_head q is same = let under = (kin.headed parent q is).0 in cc

    one_of : (a b : SlotRef) → a ≢ b → Some a ≢ Some b
    one_of a b apart same = apart cc

    first1 : (q : SlotRef) → (links_at (entry_of entries1) q).first ≡ (old q).first
    first1 = link_kept entries entries1 head set_leader first_step (λ l. l.first) (λ l. refl)

    parent1 : (q : SlotRef) → (links_at (entry_of entries1) q).parent ≡ (old q).parent
    parent1 = link_kept entries entries1 head set_leader first_step (λ l. l.parent) (λ l. refl)

    next1 : (q : SlotRef) → (links_at (entry_of entries1) q).next ≡ (old q).next
    next1 = link_kept entries entries1 head set_leader first_step (λ l. l.next) (λ l. refl)

    first2 : (q : SlotRef) → (links_at (entry_of entries2) q).first ≡ (links_at (entry_of entries1) q).first
    first2 = link_kept entries1 entries2 (Some slot) set_under second_step (λ l. l.first) (λ l. refl)

    kept3 : (link : TreeLinks → Option SlotRef) → ((l : TreeLinks) → link (set_first l) ≡ link l) → (q : SlotRef)
        → link (joined q) ≡ link (links_at (entry_of entries2) q)
    kept3 =
        link_kept entries2 (attached entries slot parent) (Some parent) set_first third_step

    pub joins : Joins (by_links old) (by_links joined) slot parent
    joins =
        record {
          parent_here = kept3 (λ l. l.parent) (λ l. refl) slot ∙ ap (λ l. l.parent) (second_step.here slot refl);
          parent_other =
              λ q apart.
              kept3 (λ l. l.parent) (λ l. refl) q ∙ ap (λ l. l.parent) (second_step.other q (one_of slot q (λ same. apart (sym same))))
              ∙ parent1 q;
          first_here = ap (λ l. l.first) (third_step.here parent refl);
          first_other =
              λ q apart.
              ap (λ l. l.first) (third_step.other q (one_of parent q (λ same. apart (sym same)))) ∙ first2 q ∙ first1 q;
          next_here = kept3 (λ l. l.next) (λ l. refl) slot ∙ ap (λ l. l.next) (second_step.here slot refl);
          next_other =
              λ q apart.
              kept3 (λ l. l.next) (λ l. refl) q ∙ ap (λ l. l.next) (second_step.other q (one_of slot q (λ same. apart (sym same))))
              ∙ next1 q;
          previous_here =
              λ q is.
              kept3 (λ l. l.previous) (λ l. refl) q
              ∙ ap (λ l. l.previous) (second_step.other q (one_of slot q (λ same. not_head q is (sym same))))
              ∙ ap (λ l. l.previous) (first_step.here q is);
          previous_other =
              λ q other. kept3 (λ l. l.previous) (λ l. refl) q ∙ (elim (cases_slot q slot) [
                | inl same ↦
                    subst (λ k. (links_at (entry_of entries2) k).previous ≡ (old k).previous) (sym same)
                    (ap (λ l. l.previous) (second_step.here slot refl) ∙ sym (kin.rooted slot root))
                | inr apart ↦
                    ap (λ l. l.previous) (second_step.other q (one_of slot q (λ same. apart (sym same))))
                    ∙ ap (λ l. l.previous) (first_step.other q other)
              ]);
        }

    pub attached_caps : (q : SlotRef) → cap_in (slot_at (entry_of (attached entries slot parent)) q) ≡ held q
    attached_caps q = third_step.caps q ∙ second_step.caps q ∙ first_step.caps q

    pub attached_alone : SlotsAlone entries (attached entries slot parent)
    attached_alone =
        alone_twice entries entries1 (attached entries slot parent) first_step.alone
        (alone_twice entries1 entries2 (attached entries slot parent) second_step.alone third_step.alone)

    pub attached_kin :
        (rank : SlotRef → ℕ) → ((c p : SlotRef) → (joined c).parent ≡ Some p → rank p < rank c)
        → AreKin (entry_of (attached entries slot parent))
    attached_kin rank ranked =
        joined_forest cases_slot (by_links old) (by_links joined) slot parent kin joins root rank ranked

  -- a slot leaves its parent

  module _ (slot parent : SlotRef) (under : (old slot).parent ≡ Some parent) where
    abbrev mine : TreeLinks
    mine = old slot

    abbrev headed : Option SlotRef
    headed = head_of mine mine.previous

    abbrev drop_first : TreeLinks → TreeLinks
    drop_first l = record l { first = mine.next }

    abbrev skip_next : TreeLinks → TreeLinks
    skip_next l = record l { next = mine.next }

    abbrev skip_previous : TreeLinks → TreeLinks
    skip_previous l = record l { previous = mine.previous }

    abbrev unlink : TreeLinks → TreeLinks
    unlink l = record l { parent = None; next = None; previous = None }

    abbrev rest1 : Entries
    rest1 = with_links entries headed drop_first

    abbrev rest2 : Entries
    rest2 = with_links rest1 mine.previous skip_next

    abbrev rest3 : Entries
    rest3 = with_links rest2 mine.next skip_previous

    abbrev left : Entries
    left = leaving entries slot mine

    headed_is : (q : SlotRef) (o : Option SlotRef) → head_of mine o ≡ Some q → q ≡ parent
    headed_is q None is = cc
    headed_is q (Some before) is = cc

    step1 : SetsLinks entries rest1 headed drop_first
    step1 =
        sets_links entries headed drop_first
        (λ q is.
        subst there (sym (headed_is q mine.previous is)) (parent_there (entry_of entries) kin slot parent under))

    step2 : SetsLinks rest1 rest2 mine.previous skip_next
    step2 =
        sets_links rest1 mine.previous skip_next
        (λ q is.
        step1.there q
        (linked_there (slot_at (entry_of entries) q) (λ l. l.next) slot refl (kin.back q slot is)))

    step3 : SetsLinks rest2 rest3 mine.next skip_previous
    step3 =
        sets_links rest2 mine.next skip_previous
        (λ q is.
        step2.there q
        (step1.there q
        (linked_there (slot_at (entry_of entries) q) (λ l. l.previous) slot refl (kin.onward slot q is))))

    step4 : SetsLinks rest3 left (Some slot) unlink
    step4 =
        sets_links rest3 (Some slot) unlink
        (λ q is.
        let one : slot ≡ q = cc in
        step3.there q
        (step2.there q
        (step1.there q (subst there one (child_there (entry_of entries) slot parent under)))))

    abbrev apart_links : SlotRef → TreeLinks
    apart_links = links_at (entry_of left)

    other4 : (q : SlotRef) → q ≢ slot → apart_links q ≡ links_at (entry_of rest3) q
    other4 q apart = step4.other q (λ same. apart cc)

    kept1 :
        (link : TreeLinks → Option SlotRef) → ((l : TreeLinks) → link (drop_first l) ≡ link l) → (q : SlotRef)
        → link (links_at (entry_of rest1) q) ≡ link (old q)
    kept1 = link_kept entries rest1 headed drop_first step1

    kept2 :
        (link : TreeLinks → Option SlotRef) → ((l : TreeLinks) → link (skip_next l) ≡ link l) → (q : SlotRef)
        → link (links_at (entry_of rest2) q) ≡ link (links_at (entry_of rest1) q)
    kept2 = link_kept rest1 rest2 mine.previous skip_next step2

    kept_both :
        (link : TreeLinks → Option SlotRef) → ((l : TreeLinks) → link (skip_previous l) ≡ link l) → (q : SlotRef)
        → link (links_at (entry_of rest3) q) ≡ link (links_at (entry_of rest2) q)
    kept_both = link_kept rest2 rest3 mine.next skip_previous step3

    kept4 :
        (link : TreeLinks → Option SlotRef) → ((l : TreeLinks) → link (unlink l) ≡ link l) → (q : SlotRef)
        → link (apart_links q) ≡ link (links_at (entry_of rest3) q)
    kept4 = link_kept rest3 left (Some slot) unlink step4

    previous_apart : (q : SlotRef) → mine.previous ≡ Some q → q ≢ slot
    previous_apart q is = behind_differs q slot is

    next_apart : (q : SlotRef) → mine.next ≡ Some q → q ≢ slot
    next_apart q is same = behind_differs slot q (kin.onward slot q is) (sym same)

    first3 : (q : SlotRef) → (apart_links q).first ≡ (links_at (entry_of rest1) q).first
    first3 q = kept4 (λ l. l.first) (λ l. refl) q ∙ kept_both (λ l. l.first) (λ l. refl) q ∙ kept2 (λ l. l.first) (λ l. refl) q

    pub leaves : Leaves (by_links old) (by_links apart_links) slot parent
    leaves =
        record {
          parent_here = ap (λ l. l.parent) (step4.here slot refl);
          parent_other =
              λ q apart.
              ap (λ l. l.parent) (other4 q apart) ∙ kept_both (λ l. l.parent) (λ l. refl) q ∙ kept2 (λ l. l.parent) (λ l. refl) q
              ∙ kept1 (λ l. l.parent) (λ l. refl) q;
          first_here =
              λ none. first3 parent ∙ ap (λ l. l.first) (step1.here parent (ap (head_of mine) none ∙ under));
          first_same = λ some. first3 parent ∙ ap (λ l. l.first) (step1.other parent (behind_another mine.previous refl some));
          first_other =
              λ q apart. first3 q ∙ ap (λ l. l.first) (step1.other q (λ is. apart (headed_is q mine.previous is)));
          next_here = ap (λ l. l.next) (step4.here slot refl);
          next_before =
              λ q is.
              ap (λ l. l.next) (other4 q (previous_apart q is)) ∙ kept_both (λ l. l.next) (λ l. refl) q
              ∙ ap (λ l. l.next) (step2.here q is);
          next_other =
              λ q apart other.
              ap (λ l. l.next) (other4 q apart) ∙ kept_both (λ l. l.next) (λ l. refl) q ∙ ap (λ l. l.next) (step2.other q other)
              ∙ kept1 (λ l. l.next) (λ l. refl) q;
          previous_here = ap (λ l. l.previous) (step4.here slot refl);
          previous_after =
              λ q is. ap (λ l. l.previous) (other4 q (next_apart q is)) ∙ ap (λ l. l.previous) (step3.here q is);
          previous_other =
              λ q apart other.
              ap (λ l. l.previous) (other4 q apart) ∙ ap (λ l. l.previous) (step3.other q other)
              ∙ kept2 (λ l. l.previous) (λ l. refl) q ∙ kept1 (λ l. l.previous) (λ l. refl) q;
        }
      where
        behind_another : (o : Option SlotRef) → mine.previous ≡ o → mine.previous ≢ None → headed ≢ Some parent
        behind_another None is some = absurd (some is)
        behind_another (Some before) is some = λ same. (let none : headed ≡ None = ap (head_of mine) is in cc)

    pub detached_caps : (q : SlotRef) → cap_in (slot_at (entry_of left) q) ≡ held q
    detached_caps q = step4.caps q ∙ step3.caps q ∙ step2.caps q ∙ step1.caps q

    pub detached_alone : SlotsAlone entries left
    detached_alone =
        alone_twice entries rest1 left step1.alone
        (alone_twice rest1 rest2 left step2.alone (alone_twice rest2 rest3 left step3.alone step4.alone))

    pub detached_kin : AreKin (entry_of left)
    detached_kin = left_forest cases_slot (by_links old) (by_links apart_links) slot parent kin leaves under
