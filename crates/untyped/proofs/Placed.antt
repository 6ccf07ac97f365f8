-- New objects that are written one after another.
use Rattle.std.{specs.Int.next_multiple_of, proofs.Common.{[], ℕ, ◌++◌, ◌+◌, ◌<◌, ◌∙◌, ◌∷◌, ◌≡◌, List, ap, length, set, suc, take}}
use Rattle.std.proofs.lemmas.List.{append_assoc, take_more_set}
use Rattle.machine.specs.{declared.object.{MemoryKind.MemoryKind, Object.Object, Untyped.Untyped}, Memory.{new_object, new_size}}
use Rattle.untyped.specs.Batch.{new_objects}

-- one object is written, and the others follow
pub one_placed :
    (kind : MemoryKind) (bits : ℕ) (memory : Untyped) (objects all : List Object) (index left mark : ℕ)
    → index < length objects
    → take index objects ++ new_objects (suc left) kind bits (record memory { watermark = mark }) ≡ all
    → take (index + 1) (set objects index (new_object kind bits (next_multiple_of mark (new_size kind bits))))
    ++ new_objects left kind bits (record memory { watermark = next_multiple_of mark (new_size kind bits) + new_size kind bits })
    ≡ all
one_placed kind bits memory objects all index left mark within is =
    ap (λ (done : List Object). done ++ rest) (take_more_set objects index new within)
    ∙ append_assoc (take index objects) (new ∷ []) rest
    ∙ is
  where
    new : Object
    new = new_object kind bits (next_multiple_of mark (new_size kind bits))

    rest : List Object
    rest = new_objects left kind bits
        (record memory { watermark = next_multiple_of mark (new_size kind bits) + new_size kind bits })
