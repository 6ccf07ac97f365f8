-- That plain lines have one text, and that no other plain lines have it.
use Rattle.std.{specs.List.AllByRecursion, proofs.Common.{[], ℕ, ◌++◌, ◌∙◌, ◌∷◌, ◌≡◌, List, Some, ap, map, refl, sym}}
use Rattle.std.proofs.lemmas.List.{append_cancel_right}
use Rattle.words.{specs.{Reading.{last_line, whole_lines}, Text.{IsPlainLine, lines_of, text_of}}, proofs.TextLaws.text_lines}

-- lists are equal if their images under a map are, and the map is injective on their elements
pub one_by_map : {X Y : Type 0} (P : X → Type 0) (f : X → Y) → ((x y : X) → P x → P y → f x ≡ f y → x ≡ y) → (xs ys : List X)
    → AllByRecursion P xs → AllByRecursion P ys → map f xs ≡ map f ys → xs ≡ ys
one_by_map P f one [] [] this that same = refl
one_by_map P f one [] (y ∷ ys) this that same = cc
one_by_map P f one (x ∷ xs) [] this that same = cc
one_by_map P f one (x ∷ xs) (y ∷ ys) this that same =
    let head : f x ≡ f y = cc in
    let tail : map f xs ≡ map f ys = cc in
    let first : x ≡ y = one x y this.0 that.0 head in
    let later : xs ≡ ys = one_by_map P f one xs ys this.1 that.1 tail in
    cc

-- lines with the same text are equal
pub one_text : (lines others : List (List (List ℕ))) → AllByRecursion IsPlainLine lines → AllByRecursion IsPlainLine others
    → text_of lines ≡ text_of others → lines ≡ others
one_text lines others this that same =
    one_by_map IsPlainLine (λ line. Some line) (λ x y p q e. cc) lines others this that
    (sym (text_lines lines this) ∙ ap lines_of same ∙ text_lines others that)

-- the bodies of whole texts with one header are equal if the texts are
pub one_body : (header : List (List ℕ)) (body other : List (List (List ℕ))) → AllByRecursion IsPlainLine (whole_lines header body)
    → AllByRecursion IsPlainLine (whole_lines header other)
    → text_of (whole_lines header body) ≡ text_of (whole_lines header other) → body ≡ other
one_body header body other this that same =
    let whole : whole_lines header body ≡ whole_lines header other =
    one_text (whole_lines header body) (whole_lines header other) this that same in
    let lines : body ++ last_line ∷ [] ≡ other ++ last_line ∷ [] = cc in
    append_cancel_right body other (last_line ∷ []) lines
