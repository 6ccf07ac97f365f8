-- The place of a label without a thread in the drawing: inside the one program that uses it, or in the words of arrows (confine's own).
use Rattle.std.specs.{List.{filter, list_all}, Prelude.{ℕ, ◌&&◌, ◌==◌, ◌||◌, ◌≡◌, ◌≢◌, Bool, Contains, List, not, true}}
use Rattle.diagram.specs.{declared.verbs.Verb.{Verb, TheVariants.{Changes, Takes, Writes}}, Programs.Program}

-- whether a program may change objects of a label or make them smaller, or reads them
abbrev pub uses : Program → ℕ → Bool
uses p l = (p.changes l || p.shrinks l) || p.reads l

-- whether no other program uses a label
abbrev pub is_apart : List Program → ℕ → ℕ → Bool
is_apart programs a l = list_all (λ p. p.label == a || not (uses p l)) programs

-- whether a program uses a label, and no other does
abbrev pub is_inside : List Program → Program → ℕ → Bool
is_inside programs p l = uses p l && is_apart programs p.label l

-- the labels inside a program
abbrev pub inside : List Program → List ℕ → Program → List ℕ
inside programs others p = filter (is_inside programs p) others

-- whether a program does this to a label: it may change objects there and has an edge to write, or has none, or may make them smaller
abbrev pub does : Program → Verb → ℕ → Bool
does p Writes l = p.changes l && p.writes l
does p Changes l = p.changes l && not (p.writes l)
does p Takes l = p.shrinks l && not (p.changes l)

-- whether a program does this to a label that another program uses
abbrev pub is_between : Program → Program → Verb → ℕ → Bool
is_between p q verb l = does p verb l && uses q l

-- the labels to which one program does this and which the other uses
abbrev pub between : List ℕ → Program → Program → Verb → List ℕ
between others p q verb = filter (is_between p q verb) others

-- a label stands in the words of an arrow from a program to another
pub record StandsBetween (programs : List Program) (p : Program) (l : ℕ) : Type 0 where
  pub other : Program
  pub among : Contains programs other
  pub apart : other.label ≢ p.label
  pub verb : Verb
  pub told : is_between p other verb l ≡ true
