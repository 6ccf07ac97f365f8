-- The object that a call found, by its kind.
use Rattle.std.{specs.Prelude.{Option, Some, option_map}, proofs.Common.{◌≡◌, refl}}
use Rattle.machine.specs.declared.object.{Context.Context, Endpoint.Endpoint, Notification.Notification, Object.{Object, Object as o}}
use Rattle.machine.specs.{declared.{object.Reply.Reply, thread.Tcb.Tcb}, Objects.kind_of_object}
use Rattle.machine.specs.declared.object.ObjectKind.TheVariants as kind

pub notification_of_kind :
    (object : Option Object) → option_map kind_of_object object ≡ Some kind.Notification → (notification : Notification) × (object ≡ Some (o.Notification notification))
notification_of_kind (Some (o.Notification notification)) e = (notification, refl)
notification_of_kind _ e = cc

pub endpoint_of_kind :
    (object : Option Object) → option_map kind_of_object object ≡ Some kind.Endpoint → (endpoint : Endpoint) × (object ≡ Some (o.Endpoint endpoint))
endpoint_of_kind (Some (o.Endpoint endpoint)) e = (endpoint, refl)
endpoint_of_kind _ e = cc

pub reply_of_kind :
    (object : Option Object) → option_map kind_of_object object ≡ Some kind.Reply → (holding : Reply) × (object ≡ Some (o.Reply holding))
reply_of_kind (Some (o.Reply holding)) e = (holding, refl)
reply_of_kind _ e = cc

pub tcb_of_kind :
    (object : Option Object) → option_map kind_of_object object ≡ Some kind.Tcb → (tcb : Tcb) × (object ≡ Some (o.Tcb tcb))
tcb_of_kind (Some (o.Tcb tcb)) e = (tcb, refl)
tcb_of_kind _ e = cc

pub context_of_kind :
    (object : Option Object) → option_map kind_of_object object ≡ Some kind.Context → (context : Context) × (object ≡ Some (o.Context context))
context_of_kind (Some (o.Context context)) e = (context, refl)
context_of_kind _ e = cc
