-- Parts of lists, which are some of their members in order: how a search for one goes on, member by member.
use Rattle.std.proofs.Common.{[], ◌==◌, ◌↔◌, ◌∙◌, ◌∷◌, ◌≡◌, ◌≢◌, ◌⊎◌, Bool, IsTrue, List, ap, arith, inl, inr, length, refl, subst, sym}
use Rattle.{std.proofs.lemmas.Bool.eqb-true, base.specs.declared.ids.ObjId.ObjId, integrity.specs.Shrinks.IsPart}

pub nothing_is_part : (all : List ObjId) → IsPart [] all
nothing_is_part [] = IsPart.ended
nothing_is_part (x ∷ all) = IsPart.left (nothing_is_part all)

pub no_part_of_nothing : {part all : List ObjId} → IsPart part all → all ≡ [] → part ≡ []
no_part_of_nothing IsPart.ended e = e
no_part_of_nothing (IsPart.stayed {x = x} {part = part} {all = all} within) e = absurd (let no : x ∷ all ≡ [] = e in cc)
no_part_of_nothing (IsPart.left {x = x} {part = part} {all = all} within) e = absurd (let no : x ∷ all ≡ [] = e in cc)

inverted :
    {all_part all : List ObjId} → IsPart all_part all → (x : ObjId) (part : List ObjId) → all_part ≡ x ∷ part → (y : ObjId)
    (rest : List ObjId) → all ≡ y ∷ rest → ((x ≡ y) × IsPart part rest) ⊎ IsPart (x ∷ part) rest
inverted IsPart.ended x part e y rest f = absurd (let no : [] ≡ x ∷ part = e in cc)
inverted (IsPart.stayed {x = z} {part = p} {all = a} within) x part e y rest f =
    let one : z ≡ x = cc in
    let other : z ≡ y = cc in
    let parts : p ≡ part = cc in
    let rests : a ≡ rest = cc in
    inl (cc, subst (λ (q : List ObjId). IsPart q rest) parts (subst (λ (q : List ObjId). IsPart p q) rests within))
inverted (IsPart.left {x = z} {part = p} {all = a} within) x part e y rest f =
    let rests : a ≡ rest = cc in
    inr (subst (λ (q : List ObjId). IsPart q rest) e (subst (λ (q : List ObjId). IsPart p q) rests within))

without_first :
    {all_part all : List ObjId} → IsPart all_part all → (x : ObjId) (part : List ObjId) → all_part ≡ x ∷ part → IsPart part all
without_first IsPart.ended x part e = absurd (let no : [] ≡ x ∷ part = e in cc)
without_first (IsPart.stayed {x = z} {part = p} {all = a} within) x part e =
    let parts : p ≡ part = cc in
    IsPart.left (subst (λ (q : List ObjId). IsPart q a) parts within)
without_first (IsPart.left {x = z} {part = p} {all = a} within) x part e = IsPart.left (without_first within x part e)

-- the first member of both lists is the same: it stays
pub same_first : (x : ObjId) (part all : List ObjId) → IsPart (x ∷ part) (x ∷ all) → IsPart part all
same_first x part all within =
    elim (inverted within x part refl x all refl) [
      | inl both ↦ both.1
      | inr later ↦ without_first later x part refl
    ]

-- the first members differ: that of the whole isn't in the part
pub other_first : (x y : ObjId) (part all : List ObjId) → x ≢ y → IsPart (x ∷ part) (y ∷ all) → IsPart (x ∷ part) all
other_first x y part all apart within =
    elim (inverted within x part refl y all refl) [
      | inl both ↦ absurd (apart both.0)
      | inr later ↦ later
    ]

-- both lists go on without their common first member
pub kept_on : (x : ObjId) (part all : List ObjId) → IsPart (x ∷ part) (x ∷ all) ↔ IsPart part all
kept_on x part all = (same_first x part all, λ within. IsPart.stayed within)

pub passed_by : (x y : ObjId) (part all : List ObjId) → x ≢ y → IsPart (x ∷ part) (y ∷ all) ↔ IsPart (x ∷ part) all
passed_by x y part all apart = (other_first x y part all apart, λ within. IsPart.left within)

pub nothing_kept : (y : ObjId) (all : List ObjId) → IsPart [] (y ∷ all) ↔ IsPart [] all
nothing_kept y all = (λ _. nothing_is_part all, λ _. nothing_is_part (y ∷ all))

pub step_on :
    (whole now later : List ObjId) (all : List ObjId) (x : ObjId) (rest : List ObjId) (left : List ObjId) → left ≡ x ∷ rest
    → (IsPart whole all ↔ IsPart now left) → ((others : List ObjId) → IsPart now (x ∷ others) ↔ IsPart later others)
    → IsPart whole all ↔ IsPart later rest
step_on whole now later all x rest left is so on = (
  λ within. (on rest).0 (subst (λ (q : List ObjId). IsPart now q) is (so.0 within)),
  λ within. so.1 (subst (λ (q : List ObjId). IsPart now q) (sym is) ((on rest).1 within)),
)

-- the part is empty if the whole is
pub ended_by :
    (whole all rest left : List ObjId) (r : Bool) → r ≡ (length rest == 0) → left ≡ [] → (IsPart whole all ↔ IsPart rest left)
    → IsTrue r ↔ IsPart whole all
ended_by whole all [] left r e none so =
    (λ _. so.1 (nothing_is_part left), λ _. e)
ended_by whole all (x ∷ rest) left r e none so = (
  λ h. let zero : length (x ∷ rest) ≡ 0 = eqb-true (length (x ∷ rest)) 0 (sym e ∙ h) in absurd (omega arith),
  λ within. absurd (let no : x ∷ rest ≡ [] = no_part_of_nothing (so.0 within) none in cc),
)

-- this is the first member of the part
pub led_by :
    (part : List ObjId) (first : ObjId) (rest : List ObjId) (thread : ObjId) (all : List ObjId) → part ≡ first ∷ rest
    → first ≡ thread → IsPart part (thread ∷ all) ↔ IsPart rest all
led_by part first rest thread all is same = (
  λ within.
      (kept_on thread rest all).0
      (subst (λ (q : List ObjId). IsPart q (thread ∷ all)) (is ∙ ap (λ (x : ObjId). x ∷ rest) same) within),
  λ within.
      subst (λ (q : List ObjId). IsPart q (thread ∷ all)) (sym (is ∙ ap (λ (x : ObjId). x ∷ rest) same))
      ((kept_on thread rest all).1 within),
)

-- another is the first member of the part
pub not_led_by :
    (part : List ObjId) (first : ObjId) (rest : List ObjId) (thread : ObjId) (all : List ObjId) → part ≡ first ∷ rest
    → first ≢ thread → IsPart part (thread ∷ all) ↔ IsPart part all
not_led_by part first rest thread all is apart = (
  λ within.
      subst (λ (q : List ObjId). IsPart q all) (sym is)
      ((passed_by first thread rest all apart).0 (subst (λ (q : List ObjId). IsPart q (thread ∷ all)) is within)),
  λ within. IsPart.left within,
)

-- the part has no first member
pub led_by_none :
    (part : List ObjId) (thread : ObjId) (all : List ObjId) → length part ≡ 0 → IsPart part (thread ∷ all) ↔ IsPart part all
led_by_none [] thread all none = nothing_kept thread all
led_by_none (x ∷ part) thread all none = absurd (omega arith)
