-- The indices that a draft keeps by object number: whether some capability is for the object, and which thread is bound to it (confine's
-- own).
use Rattle.std.specs.{List.{find, list_any}, Prelude.{◌≡◌, Bool, List, None, Option, false, option_map, slice_index_or}}
use Rattle.{base.specs.declared.ids.ObjId.ObjId, machine.specs.{declared.layout.{Binding.Binding, Filled.Filled}, Machine.same_id}}

-- the mark at each object's number says whether some capability is for the object
abbrev pub Marks : List Filled → List Bool → Type 0
Marks caps marks =
    (object : ObjId) → slice_index_or marks object.0 false ≡ list_any (λ filled. same_id filled.cap.object object) caps

abbrev pub thread_bound_to : List Binding → ObjId → Option ObjId
thread_bound_to bindings context =
    option_map (λ binding. binding.thread) (find (λ binding. same_id binding.context context) bindings)

-- at each context's number stands the thread that it is bound to, or nothing
abbrev pub IsOfThreads : List Binding → List (Option ObjId) → Type 0
IsOfThreads bindings threads = (context : ObjId) → slice_index_or threads context.0 None ≡ thread_bound_to bindings context
