-- Authority grows with rights and with capabilities.
use Rattle.std.proofs.Common.{ℕ, ◌&&◌, ◌||◌, ◌∙◌, ◌≡◌, Bool, ap, false, if◌then◌else◌, length, nat_lt, option_and_then, option_map, refl}
use Rattle.std.proofs.{Common.true, lemmas.Bool.{and_from, and_parts}}
use Rattle.base.specs.{declared.{ids.ObjId.ObjId, kind.Kind.{Kind, Kind as authority}, rights.Rights.Rights}, Kinds.is_structural}
use Rattle.machine.specs.{declared.{cap.{Badged.Badged, Detail.Detail, Guard.Guard}, object.Object.Object}, Authority.HasAuthority}
use Rattle.machine.specs.declared.cap.Detail.TheVariants as d
use Rattle.machine.specs.{Authority.{label_at, label_of, HasAuthority.{by_cap, by_link, by_pair, by_root}}, Capabilities.gives}
use Rattle.machine.specs.{Layout.{Layout, declared_label}, Machine.{Machine, object_of}, Narrower.{HasFewer, HasMoreCaps, IsNarrower}}
use Rattle.machine.specs.{Objects.{address_of, kind_of_object}, WellFormed.kind_of}

both : (a b c d : Bool) → (a ≡ true → c ≡ true) → (b ≡ true → d ≡ true) → (a && b) ≡ true → (c && d) ≡ true
both a b c d one two e = let parts = and_parts a b e in and_from c d (one parts.0) (two parts.1)

one_of : (a b c d : Bool) → (a ≡ true → c ≡ true) → (b ≡ true → d ≡ true) → (a || b) ≡ true → (c || d) ≡ true
one_of true b c d one two e = rw (one refl) refl
one_of false true c d one two e = by_first c where
  by_first : (x : Bool) → (x || d) ≡ true
  by_first true = refl
  by_first false = two refl
one_of false false c d one two e = cc

pub endpoint_fewer :
    (few many : Badged) → HasFewer few.rights many.rights → (k : Kind) → gives (d.Endpoint few) k ≡ true
    → gives (d.Endpoint many) k ≡ true
endpoint_fewer few many fewer authority.Reset e = refl
endpoint_fewer few many fewer authority.Send e = fewer.write e
endpoint_fewer few many fewer authority.Receive e = fewer.read e
endpoint_fewer few many fewer authority.Grant e = both _ _ _ _ fewer.write fewer.grant e
endpoint_fewer few many fewer authority.Call e = both _ _ _ _ fewer.write (one_of _ _ _ _ fewer.grant fewer.grant_reply) e
endpoint_fewer few many fewer _ e = cc

pub notification_fewer :
    (few many : Badged) → HasFewer few.rights many.rights → (k : Kind) → gives (d.Notification few) k ≡ true
    → gives (d.Notification many) k ≡ true
notification_fewer few many fewer authority.Reset e = refl
notification_fewer few many fewer authority.Notify e = fewer.write e
notification_fewer few many fewer authority.Await e = fewer.read e
notification_fewer few many fewer _ e = cc

pub frame_fewer :
    (few many : Rights) → HasFewer few many → (k : Kind) → gives (d.Frame few) k ≡ true → gives (d.Frame many) k ≡ true
frame_fewer few many fewer authority.Reset e = refl
frame_fewer few many fewer authority.Read e = fewer.read e
frame_fewer few many fewer authority.Write e = fewer.write e
frame_fewer few many fewer _ e = cc

pub cnode_alike : (one other : Guard) (k : Kind) → gives (d.CNode one) k ≡ gives (d.CNode other) k
cnode_alike one other authority.Control = refl
cnode_alike one other _ = refl

pub gives_fewer : (few many : Detail) (k : Kind) → IsNarrower few many → gives few k ≡ true → gives many k ≡ true
gives_fewer (d.Endpoint few) (d.Endpoint many) k narrow e = endpoint_fewer few many narrow k e
gives_fewer (d.Notification few) (d.Notification many) k narrow e = notification_fewer few many narrow k e
gives_fewer (d.Frame few) (d.Frame many) k narrow e = frame_fewer few many narrow k e
gives_fewer (d.CNode one) (d.CNode other) k narrow e = cnode_alike other one k ∙ e
gives_fewer d.Untyped d.Untyped k narrow e = e
gives_fewer d.Tcb d.Tcb k narrow e = e
gives_fewer d.Reply d.Reply k narrow e = e
gives_fewer d.Context d.Context k narrow e = e
gives_fewer d.Control d.Control k narrow e = e
gives_fewer _ _ k narrow e = absurd narrow

pub endpoint_badge :
    (end : Badged) (badge : ℕ) (k : Kind) → gives (d.Endpoint (record end { badge = badge })) k ≡ gives (d.Endpoint end) k
endpoint_badge end badge authority.Reset = refl
endpoint_badge end badge _ = refl

pub notification_badge :
    (end : Badged) (badge : ℕ) (k : Kind) → gives (d.Notification (record end { badge = badge })) k ≡ gives (d.Notification end) k
notification_badge end badge authority.Reset = refl
notification_badge end badge _ = refl

no_space : (detail : Detail) → gives detail authority.Space ≡ false
no_space d.Untyped = refl
no_space _ = refl

no_derive : (detail : Detail) → gives detail authority.Derive ≡ false
no_derive d.Untyped = refl
no_derive _ = refl

no_runs : (detail : Detail) → gives detail authority.Runs ≡ false
no_runs d.Untyped = refl
no_runs _ = refl

no_holds : (detail : Detail) → gives detail authority.Holds ≡ false
no_holds d.Untyped = refl
no_holds _ = refl

pub gives_no_structure : (detail : Detail) (k : Kind) → is_structural k ≡ true → gives detail k ≡ false
gives_no_structure detail authority.Space e = no_space detail
gives_no_structure detail authority.Derive e = no_derive detail
gives_no_structure detail authority.Runs e = no_runs detail
gives_no_structure detail authority.Holds e = no_holds detail
gives_no_structure detail _ e = cc

pub gives_some : (detail : Detail) → (k : Kind) × (is_structural k ≡ false) × (gives detail k ≡ true)
gives_some d.Untyped = (authority.Control, refl, refl)
gives_some (d.CNode _) = (authority.Control, refl, refl)
gives_some d.Tcb = (authority.Control, refl, refl)
gives_some (d.Endpoint _) = (authority.Reset, refl, refl)
gives_some (d.Notification _) = (authority.Reset, refl, refl)
gives_some d.Reply = (authority.Reply, refl, refl)
gives_some d.Context = (authority.Context, refl, refl)
gives_some (d.Frame _) = (authority.Reset, refl, refl)
gives_some d.Control = (authority.SchedControl, refl, refl)

same_kind :
    (m more : Machine) → ((id : ObjId) → object_of more id ≡ object_of m id) → (id : ObjId) → kind_of more id ≡ kind_of m id
same_kind m more objects id = ap (option_map kind_of_object) (objects id)

same_label :
    (t : Layout) (m more : Machine) → ((id : ObjId) → object_of more id ≡ object_of m id) → (id : ObjId)
    → label_of t more id ≡ label_of t m id
unfolding label_of
same_label t m more objects id =
    ap
    (option_and_then
    (λ (object : Object). if nat_lt id.0 (length t.objects) then declared_label t id else label_at t (address_of object)))
    (objects id)

pub authority_grows :
    (t : Layout) (m more : Machine) (from : ℕ) (k : Kind) (to : ℕ) → HasMoreCaps m more → HasAuthority t m from k to
    → HasAuthority t more from k to
authority_grows t m more from k to has (by_cap slot held filled node given source target) =
    by_cap slot held (has.caps slot held filled) (same_kind m more has.objects slot.holder ∙ node) given
    (same_label t m more has.objects slot.holder ∙ source) (same_label t m more has.objects held.object ∙ target)
authority_grows t m more from k to has (by_root slot held filled thread source target) =
    by_root slot held (has.caps slot held filled) (same_kind m more has.objects slot.holder ∙ thread)
    (same_label t m more has.objects slot.holder ∙ source) (same_label t m more has.objects held.object ∙ target)
authority_grows t m more from k to has (by_pair slot parent derived source target) =
    by_pair slot parent (has.parents slot ∙ derived) (same_label t m more has.objects parent.holder ∙ source)
    (same_label t m more has.objects slot.holder ∙ target)
authority_grows t m more from k to has (by_link id end object at linked source target) =
    by_link id end object (has.objects id ∙ at) linked (same_label t m more has.objects id ∙ source)
    (same_label t m more has.objects end ∙ target)
