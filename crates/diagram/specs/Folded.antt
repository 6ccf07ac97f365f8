-- The folded drawing of who may change or take from whom, as Graphviz reads it: a box for each program, with the labels without a thread
-- that it alone uses, and an arrow from each to each other with what it may do there, and to which labels without a thread that the other
-- uses (compare the integrity of 'seL4 Enforces Integrity', section 4; the drawing is confine's own).
use Rattle.std.specs.{Fmt.decimal, List.flat_map, Prelude.{[], ℕ, ◌++◌, ◌==◌, ◌∷◌, ◌≡◌, Bool, List, codes, if◌then◌else◌, length, map, not}}
use Rattle.{machine.specs.Layout.Layout, policy.specs.Domain.EdgeTest, reach.specs.Extents.Limits, captext.specs.PolicyText.label_name}
use Rattle.summary.specs.{declared.rows.Row.Row, Labelled.others_of, Padding.given, Regions.names_text}
use Rattle.diagram.specs.declared.{drawing.TheConstants.HEAD, verbs.Verb.{TheVariants.{Changes, Takes, Writes}, Verb}}
use Rattle.diagram.specs.{Programs.{ArePrograms, Program, program_of}, Regions.{between, does, inside}}

-- the names of labels inside a box, beneath the program's
abbrev pub inside_text : Layout → List ℕ → List ℕ → List ℕ
inside_text t name [] = []
inside_text t name (first ∷ labels) = codes " [label=\"" ++ (name ++ (codes "\\nwith " ++ (names_text t (first ∷ labels) ++ codes "\"]")))

-- the line of a program
abbrev pub box_text : Layout → List Program → List ℕ → Program → List ℕ
box_text t programs others p =
    codes "  \"" ++ (label_name t p.label ++ (codes "\"" ++ (inside_text t (label_name t p.label) (inside programs others p) ++ codes "\n")))

-- the word for what is done to labels
abbrev pub verb_word : Verb → List ℕ
verb_word Writes = codes "writes "
verb_word Changes = codes "changes "
verb_word Takes = codes "takes from "

-- how many labels there are beside one that is named
abbrev pub more_text : ℕ → List ℕ
more_text count = given (not (count == 0)) (codes " and " ++ (decimal count ++ codes " more"))

-- what is done to labels: the first of them by its name, with the number of the others
abbrev pub phrase_text : Layout → List ℕ → List ℕ → List ℕ
phrase_text t word [] = []
phrase_text t word (first ∷ labels) = word ++ (label_name t first ++ (more_text (length labels) ++ codes "\\n"))

-- what a program does to labels without a thread that another uses
abbrev pub between_text : Layout → List ℕ → Program → Program → Verb → List ℕ
between_text t others p q verb = phrase_text t (verb_word verb) (between others p q verb)

-- by which kinds of reasons a program may change objects of a label, or that it may only make them smaller
abbrev pub reasons_text : Program → ℕ → List ℕ
reasons_text p l =
    given (p.calls l) (codes "calls\\n") ++ (given (p.answers l) (codes "answers\\n") ++ (given (p.signals l) (codes "signals\\n")
    ++ (given (p.does_else l) (codes "changes\\n") ++ given (does p Takes l) (codes "takes\\n"))))

-- the words of an arrow, each in a line of its own
abbrev pub words_text : Layout → List ℕ → Program → Program → List ℕ
words_text t others p q =
    reasons_text p q.label ++ (between_text t others p q Writes ++ (between_text t others p q Changes ++ between_text t others p q Takes))

-- an arrow is solid if objects may be changed, dashed if they may only shrink, and dotted if it is all about labels without a thread
abbrev pub style_text : Bool → Bool → List ℕ
style_text changes shrinks = if changes then [] else (if shrinks then codes "style=dashed, " else codes "style=dotted, ")

-- the line of an arrow from a program to a label, if it has words
abbrev pub worded_text : Layout → Program → ℕ → List ℕ → List ℕ
worded_text t p l [] = []
worded_text t p l (first ∷ words) =
    codes "  \"" ++ (label_name t p.label ++ (codes "\" -> \"" ++ (label_name t l ++ (codes "\" ["
    ++ (style_text (p.changes l) (p.shrinks l) ++ (codes "label=\"" ++ ((first ∷ words) ++ codes "\"]\n")))))))

-- the arrow from a program to another
abbrev pub arrow_text : Layout → List ℕ → Program → Program → List ℕ
arrow_text t others p q = given (not (p.label == q.label)) (worded_text t p q.label (words_text t others p q))

-- the arrows from a program
abbrev pub arrows_text : Layout → List Program → List ℕ → Program → List ℕ
arrows_text t programs others p = flat_map (arrow_text t others p) programs

-- what is drawn of programs and labels without a thread
abbrev pub folded_text : Layout → List Program → List ℕ → List ℕ
folded_text t programs others =
    HEAD.now ++ (flat_map (box_text t programs others) programs ++ (flat_map (arrows_text t programs others) programs ++ codes "}\n"))

-- what is drawn of rows of the summary and of labels without a thread
abbrev pub rows_text : Layout → EdgeTest → List Row → List ℕ → List ℕ
rows_text t test rows others =
    HEAD.now ++ (flat_map (λ row. box_text t (map (program_of test) rows) others (program_of test row)) rows
    ++ (flat_map (λ row. flat_map (λ other. arrow_text t others (program_of test row) (program_of test other)) rows) rows ++ codes "}\n"))

-- a text is the folded drawing of a table's programs with this reach
pub record IsFoldedDrawing (t : Layout) (limits : Limits) (text : List ℕ) : Type 0 where
  pub programs : List Program
  pub are : ArePrograms t limits programs
  pub is : text ≡ folded_text t programs (others_of t)
