-- Texts that are lists, with a line for each value: the laws of whole texts follow from those of their lines.
use Rattle.std.{specs.List.AllByRecursion, proofs.Common.{[], ℕ, ◌++◌, ◌∙◌, ◌∷◌, ◌≡◌, Err, IfOk, List, Ok, Result, ap, append_assoc, codes}}
use Rattle.std.proofs.{Common.{map, refl, subst, sym}, lemmas.List.append-nil}
use Rattle.words.specs.{declared.faults.{Fault.Fault, Wrong.Wrong}, FirstFault.Line, Reading.{IsNotLast, Reads, bind, last_line}}
use Rattle.words.specs.{Reading.{list_format, list_text, read_format, steps, whole_lines}, Text.{IsPlainLine, lines_of, text_of}}
use Rattle.words.proofs.{OneText.{one_body, one_by_map}, TextLaws.both, TextReading.{whole_text_again, whole_text_takes}, WordLaws.bind_ok}
use Rattle.words.proofs.WordLaws.{plain_bytes, plain_lines}

-- a line is a step exactly if it is the line of a value that fits after those before it
pub record IsListFormat {X : Type 0} (line : X → Line) (step : List X → Line → Result (List X) Wrong) (Fits : List X → Type 0)
    : Type 0 where
  pub none : Fits []
  pub front : (values more : List X) → Fits (values ++ more) → Fits values
  pub takes : (values : List X) (words : Line) (next : List X) → Fits values → step values words ≡ Ok next
      → (value : X) × (words ≡ line value) × (values ++ value ∷ [] ≡ next) × Fits next
  pub again : (values : List X) (value : X) → Fits (values ++ value ∷ []) → step values (line value) ≡ Ok (values ++ value ∷ [])
  pub plain : (values : List X) (value : X) → Fits (values ++ value ∷ []) → IsPlainLine (line value) × IsNotLast (line value)

-- a property of all elements of a list holds of all in its front, and of its last element
pub all_front : {X : Type 0} (P : X → Type 0) (xs ys : List X) → AllByRecursion P (xs ++ ys) → AllByRecursion P xs
all_front P [] ys all = tt
all_front P (x ∷ xs) ys all = (all.0, all_front P xs ys all.1)

pub all_last : {X : Type 0} (P : X → Type 0) (xs : List X) (y : X) → AllByRecursion P (xs ++ y ∷ []) → P y
all_last P [] y all = all.0
all_last P (x ∷ xs) y all = all_last P xs y all.1

module _ {X : Type 0} {line : X → Line} {step : List X → Line → Result (List X) Wrong} {Fits : List X → Type 0}
    (format : IsListFormat line step Fits)
  where
    -- lines that were steps are those of the values read
    lines_take : (values : List X) (body : List Line) (all : List X) → Fits values → steps step values body ≡ Ok all
        → (more : List X) × (values ++ more ≡ all) × (body ≡ map line more) × Fits all
    unfolding steps
    lines_take values [] all fit h =
        let same : values ≡ all = cc in
        ([], append-nil values ∙ same, refl, subst Fits same fit)
    lines_take values (words ∷ body) all fit h =
        let stepped = bind_ok (step values words) (λ next. steps step next body) all h in
        let taken = format.takes values words stepped.0 fit stepped.1 in
        let later = lines_take stepped.0 body all taken.3 stepped.2 in (
          taken.0 ∷ later.0,
          sym (append_assoc values (taken.0 ∷ []) later.0) ∙ ap (λ vs. vs ++ later.0) taken.2 ∙ later.1,
          ap (λ l. l ∷ body) taken.1 ∙ ap (λ b. line taken.0 ∷ b) later.2,
          later.3,
        )

    -- the lines of values that fit are steps and plain, and none is the last line
    lines_again : (values more : List X) → Fits (values ++ more)
        → (steps step values (map line more) ≡ Ok (values ++ more))
        × AllByRecursion IsPlainLine (map line more) × AllByRecursion IsNotLast (map line more)
    unfolding steps bind
    lines_again values [] fit = (ap (λ vs. Ok vs) (sym (append-nil values)), tt, tt)
    lines_again values (value ∷ more) fit =
        let longer = append_assoc values (value ∷ []) more in
        let all = subst Fits (sym longer) fit in
        let first = format.front (values ++ value ∷ []) more all in
        let here = format.plain values value first in
        let later = lines_again (values ++ value ∷ []) more all in (
          ap (λ r. bind r (λ next. steps step next (map line more))) (format.again values value first)
              ∙ later.0
              ∙ ap (λ vs. Ok vs) longer,
          (here.0, later.1),
          (here.1, later.2),
        )

    -- the laws of whole texts

    pub list_takes : (header : Line) (bytes : List ℕ) (values : List X) → read_format (list_format header step) (lines_of bytes) ≡ Ok values
        → Fits values × (bytes ≡ list_text header line values)
    list_takes header bytes values h =
        let text = whole_text_takes (list_format header step) values bytes h in
        let came : text.1 ≡ values = cc (text.4) in
        let lines = lines_take [] text.0 values format.none (text.3 ∙ ap (λ vs. Ok vs) came) in
        (lines.3, text.2 ∙ ap (λ b. text_of (whole_lines header b)) (lines.2 ∙ ap (map line) lines.1))

    pub list_again : (header : Line) (bytes : List ℕ) (values : List X) → IsPlainLine header → Fits values
        → bytes ≡ list_text header line values → read_format (list_format header step) (lines_of bytes) ≡ Ok values
    list_again header bytes values plain fit text =
        let lines = lines_again [] values fit in
        let all = both IsPlainLine (map line values) (last_line ∷ []) lines.1 ((plain_bytes (codes "end") refl, tt), tt) in
        whole_text_again (list_format header step) values values (map line values) bytes (plain, all) lines.2 lines.0 refl text

    -- different lists have different texts
    pub list_once : (header : Line) (values other : List X) → IsPlainLine header → Fits values → Fits other
        → list_text header line values ≡ list_text header line other → values ≡ other
    list_once header values other plain fit fits same =
        let this = list_again header (list_text header line values) values plain fit refl in
        let that = list_again header (list_text header line values) other plain fits same in
        let both : ◌≡◌ {A = Result (List X) Fault} (Ok values) (Ok other) = sym this ∙ that in
        cc

    -- the results of reading agree with these laws

    pub found : {Y : Type 0} (view : Y → List X) (header : Line) (bytes : List ℕ) (result : Result Y Fault)
        → Reads view result (read_format (list_format header step) (lines_of bytes))
        → IfOk result (λ y. Fits (view y) × (bytes ≡ list_text header line (view y)))
    found view header bytes (Ok y) exact = list_takes header bytes (view y) exact
    found view header bytes (Err fault) exact = tt

    pub only : {Y : Type 0} (view : Y → List X) (header : Line) (bytes : List ℕ) (result : Result Y Fault) → IsPlainLine header
        → Reads view result (read_format (list_format header step) (lines_of bytes)) → (values : List X) → Fits values
        → bytes ≡ list_text header line values → Reads view result (Ok values)
    only view header bytes result plain exact values fit text =
        subst (λ r. Reads view result r) (list_again header bytes values plain fit text) exact

-- a text whose lines tell their values is the text of one list
pub one_list : {X : Type 0} (header : Line) (line : X → Line) (P : X → Type 0) → IsPlainLine header
    → ((x : X) → P x → IsPlainLine (line x)) → ((x y : X) → P x → P y → line x ≡ line y → x ≡ y)
    → (values other : List X) → AllByRecursion P values → AllByRecursion P other
    → list_text header line values ≡ list_text header line other → values ≡ other
one_list header line P plain each one values other this that same =
    one_by_map P line one values other this that
    (one_body header (map line values) (map line other)
    (plain, plain_lines P line each values this) (plain, plain_lines P line each other that) same)
