-- Sets that are added behind those that were there: none, or one.
use Rattle.std.proofs.Common.{[], ℕ, ◌++◌, ◌+◌, ◌<◌, ◌∷◌, ◌≡◌, ◌≤◌, Bool, List, ap, arith, false, inl, inr, length, refl, subst, sym, true}
use Rattle.std.proofs.lemmas.{Bool.false≢true, List.{Elements.{All-nil, All-push}, Quantifiers.Any-push, append-nil, length-append}}
use Rattle.{base.specs.declared.labels.Labels.Labels, flows.specs.{Sets.{HasSameLabels, Precedes}, Stages.{AreAdded, IsTried}}}

-- none is added if no set is of the kind
pub none_added : (Is : Labels → Type 0) → ((set : Labels) → ¬ Is set) → (old : List Labels) (most : ℕ) → length old ≤ most → AreAdded Is old old most true
none_added Is none old most few = record {
  more = [];
  is = sym (append-nil old);
  first = record {
    each = All-nil Is;
    rise = λ i j d less below. absurd (omega (arith, below));
    rest = λ set is. absurd (none set is);
  };
  few = few;
  full = λ some. absurd (false≢true (sym some));
}

-- some may be left if there is no room for one more
pub none_fit : (Is : Labels → Type 0) (old : List Labels) (most : ℕ) → length old ≡ most → AreAdded Is old old most false
none_fit Is old most full = record {
  more = [];
  is = sym (append-nil old);
  first = record {
    each = All-nil Is;
    rise = λ i j d less below. absurd (omega (arith, below));
    rest = λ set is. inr (refl, All-nil (λ one. Precedes one set));
  };
  few = omega (arith, full);
  full = λ some. full;
}

-- the one set of a kind is added
pub one_added : (Is : Labels → Type 0) (one : Labels) → Is one → ((set : Labels) → Is set → HasSameLabels one set) → (old new : List Labels) (most : ℕ)
    → new ≡ old ++ one ∷ [] → length old < most → AreAdded Is old new most true
one_added Is one is alone old new most grown room = record {
  more = one ∷ [];
  is = grown;
  first = record {
    each = All-push Is [] one (All-nil Is) is;
    rise = λ i j d less below. absurd (omega (arith, less, below));
    rest = λ set other. inl (Any-push (λ s. HasSameLabels s set) [] one (alone set other));
  };
  few = omega (arith, room, ap length grown, length-append old (one ∷ []));
  full = λ some. absurd (false≢true (sym some));
}

-- the first sets of a kind are added with its one set
pub one_tried : (Is : Labels → Type 0) (one : Labels) → Is one → ((set : Labels) → Is set → HasSameLabels one set) → (old new : List Labels) (most : ℕ)
    (added : Bool) → IsTried one old new most added → AreAdded Is old new most added
one_tried Is one is alone old new most true tried =
    one_added Is one is alone old new most (tried.grown refl).0 (tried.grown refl).1
one_tried Is one is alone old new most false tried =
    subst (λ n. AreAdded Is old n most false) (sym (tried.full refl).0) (none_fit Is old most (tried.full refl).1)
