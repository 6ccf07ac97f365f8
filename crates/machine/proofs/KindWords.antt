-- Kinds of objects and their words: each kind's word names that kind, and a word that names a kind is the kind's.
use Rattle.std.{specs.{Bool.Decides, List.{AllByRecursion, find}, Prelude.⊤, Str.bytes_eq}, proofs.Common.{[], ℕ, ◌∷◌, ◌≡◌, Bool, List}}
use Rattle.std.proofs.{Common.{None, Option, Some, cond, false, refl, subst, true}, lemmas.{Option.same_Some, Slice.Eq.bytes_eq-Decides}}
use Rattle.machine.specs.{declared.object.{MemoryKind.{MemoryKind, MemoryKind as memory}, ObjectKind.ObjectKind}, KindWords.kind_of_memory}
use Rattle.machine.specs.declared.object.ObjectKind.TheVariants as kind
use Rattle.machine.specs.KindWords.{memory_kind_in, memory_kind_of, memory_kind_word, object_kind_of, object_kind_word, object_kinds}

-- a word that was found among the words of values is the word of the one that was found
pub found_word : {X : Type 0} (spell : X → List ℕ) (P : X → Type 0) (word : List ℕ) (xs : List X) (x : X) → AllByRecursion P xs
    → find (λ y. bytes_eq word (spell y)) xs ≡ Some x → (word ≡ spell x) × P x
found_word spell P word [] x all h = cc
found_word spell P word (first ∷ xs) x all h =
    by (bytes_eq word (spell first)) (bytes_eq-Decides word (spell first)) (found_word spell P word xs x all.1) h
  where
    by : (same : Bool) → Decides same (word ≡ spell first)
        → (find (λ y. bytes_eq word (spell y)) xs ≡ Some x → (word ≡ spell x) × P x)
        → cond same (Some first) (find (λ y. bytes_eq word (spell y)) xs) ≡ Some x → (word ≡ spell x) × P x
    by true same later h = let is : first ≡ x = cc in subst (λ y. (word ≡ spell y) × P y) is (same.0 refl, all.0)
    by false same later h = later h

pub kind_takes : (word : List ℕ) (which : ObjectKind) → object_kind_of word ≡ Some which → word ≡ object_kind_word which
unfolding object_kind_of
kind_takes word which h =
    (found_word object_kind_word (λ (which : ObjectKind). ⊤) word object_kinds which
    (tt, (tt, (tt, (tt, (tt, (tt, (tt, (tt, (tt, tt))))))))) h).0

-- each kind that can be made has a word

is_word : (word : List ℕ) (this made : MemoryKind) → object_kind_of word ≡ Some (kind_of_memory this)
    → ◌≡◌ {A = Option MemoryKind} (Some this) (Some made) → word ≡ memory_kind_word made
is_word word this made is h =
    subst (λ k. word ≡ memory_kind_word k) (same_Some this made h) (kind_takes word (kind_of_memory this) is)

pub memory_takes : (word : List ℕ) (made : MemoryKind) → memory_kind_of word ≡ Some made → word ≡ memory_kind_word made
unfolding memory_kind_of
memory_takes word made h = by (object_kind_of word) refl h where
  by : (named : Option ObjectKind) → object_kind_of word ≡ named → memory_kind_in named ≡ Some made
      → word ≡ memory_kind_word made
  by None is h = absurd (cc h)
  by (Some kind.Untyped) is h = is_word word memory.Untyped made is h
  by (Some kind.CNode) is h = is_word word memory.CNode made is h
  by (Some kind.Tcb) is h = is_word word memory.Tcb made is h
  by (Some kind.Endpoint) is h = is_word word memory.Endpoint made is h
  by (Some kind.Notification) is h = is_word word memory.Notification made is h
  by (Some kind.Reply) is h = is_word word memory.Reply made is h
  by (Some kind.Context) is h = is_word word memory.Context made is h
  by (Some kind.Frame) is h = is_word word memory.Frame made is h
  by (Some kind.Control) is h = absurd (cc h)

pub memory_again : (made : MemoryKind) → memory_kind_of (memory_kind_word made) ≡ Some made
unfolding memory_kind_of object_kind_of
memory_again memory.Untyped = refl
memory_again memory.CNode = refl
memory_again memory.Tcb = refl
memory_again memory.Endpoint = refl
memory_again memory.Notification = refl
memory_again memory.Reply = refl
memory_again memory.Context = refl
memory_again memory.Frame = refl
