-- The contexts that a thread runs on: the one that it is bound to, and the one that it lent.
use Rattle.std.proofs.{Common.{◌∙◌, ◌≡◌, ◌⊎◌, None, Option, Some, ap, inl, inr, true}, lemmas.Bool.{or_cases, or_left, or_right}}
use Rattle.base.specs.declared.{ids.ObjId.ObjId, kind.Kind.Kind as authority}
use Rattle.machine.specs.{declared.{object.Object.Object as o, thread.Tcb.Tcb}, Authority.{context_lent, links, names_object}}
use Rattle.machine.proofs.{Ids.itself, LookUps.one_id}

-- a link that names an object is there
pub named_so : (named : Option ObjId) (end : ObjId) → names_object named end ≡ true → named ≡ Some end
named_so None end e = cc
named_so (Some id) end e = ap Some (one_id id end e)

names_it : (named : Option ObjId) (end : ObjId) → named ≡ Some end → names_object named end ≡ true
names_it named end is = ap (λ link. names_object link end) is ∙ itself end

pub runs_by :
    (thread : Tcb) (end : ObjId) → links (o.Tcb thread) authority.Runs end ≡ true
    → (thread.context ≡ Some end) ⊎ (context_lent thread.state ≡ Some end)
runs_by thread end e =
    elim (or_cases (names_object thread.context end) (names_object (context_lent thread.state) end) e) [
      | inl bound ↦ inl (named_so thread.context end bound)
      | inr lent ↦ inr (named_so (context_lent thread.state) end lent)
    ]

pub runs_bound : (thread : Tcb) (end : ObjId) → thread.context ≡ Some end → links (o.Tcb thread) authority.Runs end ≡ true
runs_bound thread end is =
    or_left (names_object thread.context end) (names_object (context_lent thread.state) end) (names_it thread.context end is)

pub runs_lent :
    (thread : Tcb) (end : ObjId) → context_lent thread.state ≡ Some end → links (o.Tcb thread) authority.Runs end ≡ true
runs_lent thread end is =
    or_right (names_object thread.context end) (names_object (context_lent thread.state) end) (names_it (context_lent thread.state) end is)

-- a thread that is bound to no other context, and lent no other, runs on no other
pub runs_also :
    (thread other : Tcb) (end : ObjId) → (thread.context ≡ Some end → other.context ≡ Some end)
    → (context_lent thread.state ≡ Some end → context_lent other.state ≡ Some end) → links (o.Tcb thread) authority.Runs end ≡ true
    → links (o.Tcb other) authority.Runs end ≡ true
runs_also thread other end bound lent e =
    elim (runs_by thread end e) [
      | inl is ↦ runs_bound other end (bound is)
      | inr is ↦ runs_lent other end (lent is)
    ]
