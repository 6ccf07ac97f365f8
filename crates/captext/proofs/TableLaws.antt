-- Tables and their texts: what a table that was read says of its text, and that the text of each table is read back.
use Rattle.std.{specs.{Bool.{Decides}, List.AllByRecursion, Str.bytes_eq}, proofs.Common.{[], ℕ, ◌++◌, ◌<◌, ◌↔◌, ◌∙◌, ◌∷◌, ◌≡◌, Bool}}
use Rattle.std.proofs.Common.{Err, IfOk, List, None, Ok, Option, Result, Some, ap, append_assoc, codes, cond, false, length, map, not, refl}
use Rattle.std.proofs.{Common.{subst, sym, true}, lemmas.{List.{append-nil, Quantifiers.position-Some}, Slice.Eq.bytes_eq-Decides}}
use Rattle.base.specs.declared.ids.SlotRef.{SlotRef}
use Rattle.machine.specs.{declared.{layout.{Filled.Filled, Version.Version}, object.ObjectKind.ObjectKind}, KindWords.object_kind_of}
use Rattle.machine.specs.declared.layout.Version.TheVariants as version
use Rattle.machine.specs.declared.object.ObjectKind.TheVariants as kind
use Rattle.machine.specs.{KindWords.object_kind_word, Layout.{Layout, empty_layout, initial_of}, Objects.kind_of_object}
use Rattle.machine.proofs.KindWords.{kind_takes}
use Rattle.words.specs.{declared.faults.{Fault.Fault, Wrong.Wrong}, Reading.{IsNotLast, Reads, bind, last_line, or_syntax, read_format}}
use Rattle.words.{specs.{Reading.{steps, whole_lines, word_at}, Text.{IsPlainLine, IsPlainWord, lines_of, text_of}}, proofs.TextLaws.both}
use Rattle.words.proofs.{TextLaws.text_lines, TextReading.{whole_text_again, whole_text_takes}, WordLaws.{bind_ok, plain_bytes, plain_name}}
use Rattle.words.proofs.WordLaws.{word_then}
use Rattle.table.specs.Items.{Admits, BindingItem, CapItem, ComesNow, IsBuiltUp, Item, LabelItem, ObjectItem, PairItem, more, none}
use Rattle.table.specs.{Items.with_item, Rules.{IsDraft, IsLawful, kind_at}, Tree.{is_kin, tree_fault, with_mark, with_originals}}
use Rattle.table.proofs.BuiltUp.{draft_from_built}
use Rattle.captext.specs.{PolicyText.label_name, TableText.{IsLineOf, binding_lines, cap_words, content_words, item_words, label_lines}}
use Rattle.captext.specs.{TableText.{object_lines, pair_lines, table_header, table_lines, table_text}, Tables.{declaration, format_of}}
use Rattle.captext.specs.Tables.{grown, grown_by, line_by, object_line, read_table_of, table_line, version_of}
use Rattle.captext.proofs.{BindLines.{bind_line_again, bind_line_takes, binding_plain}, CapLines.cap_line_takes, CapTexts.cap_line_again}
use Rattle.captext.proofs.{CapTexts.cap_plain, LineLaws.{TakesItem, spelled_then}, NameLaws.is_label_name, ObjectLines.label_line_again}
use Rattle.captext.proofs.{ObjectLines.{label_line_takes, object_line_again, object_line_takes}, ObjectParts.plain_content}
use Rattle.captext.proofs.{PairLines.{child_line_again, child_line_takes, pair_plain}, TableLines.item_more}

-- a line that is read is the line of an item

chosen : (t next : Layout) (keyword key : List ℕ) (words : List (List ℕ)) (here other : Result Layout Wrong)
    → cond (bytes_eq keyword key) here other ≡ Ok next
    → (here ≡ Ok next → TakesItem t (key ∷ words) next) → (other ≡ Ok next → TakesItem t (keyword ∷ words) next)
    → TakesItem t (keyword ∷ words) next
chosen t next keyword key words here other h this that = by (bytes_eq keyword key) (bytes_eq-Decides keyword key) h where
  by : (same : Bool) → Decides same (keyword ≡ key) → cond same here other ≡ Ok next → TakesItem t (keyword ∷ words) next
  by true same h = subst (λ k. TakesItem t (k ∷ words) next) (sym (same.0 refl)) (this h)
  by false same h = that h

line_by_takes : (t next : Layout) (keyword : List ℕ) (words : List (List ℕ)) → line_by keyword t words ≡ Ok next
    → TakesItem t (keyword ∷ words) next
unfolding line_by declaration
line_by_takes t next keyword words h =
    chosen t next keyword (codes "label") words _ _ h (label_line_takes t words next) (λ h.
    chosen t next keyword (codes "cap") words _ _ h (cap_line_takes t words next) (λ h.
    chosen t next keyword (codes "child") words _ _ h (child_line_takes t words next) (λ h.
    chosen t next keyword (codes "bind") words _ _ h (bind_line_takes t words next) (λ h.
    let kind = spelled_then (object_kind_of keyword) _ next h in
    subst (λ k. TakesItem t (k ∷ words) next) (sym (kind_takes keyword kind.0 kind.1))
    (object_line_takes kind.0 t words next kind.2)))))

line_takes : (t : Layout) (words : List (List ℕ)) (next : Layout) → table_line t words ≡ Ok next → TakesItem t words next
unfolding table_line
line_takes t words next h =
    let read = word_then _ words next h in
    subst (λ ws. TakesItem t ws next) (sym read.words_are) (line_by_takes t next read.word read.rest read.goes_on)

-- the line of an item is read

kind_again : (kind : ObjectKind) (t : Layout) (words : List (List ℕ))
    → line_by (object_kind_word kind) t words ≡ object_line kind t words
unfolding line_by declaration object_kind_of bind or_syntax
kind_again kind.Untyped t words = refl
kind_again _ t words = refl

line_again : (t : Layout) (item : Item) → IsDraft t → ComesNow t item → Admits t item
    → table_line t (item_words t item) ≡ Ok (with_item t item)
unfolding table_line line_by bind word_at
line_again t (LabelItem name) draft now admits = label_line_again t name now admits
line_again t (ObjectItem name initial) draft now admits =
    kind_again (kind_of_object initial.object) t _ ∙ object_line_again t name initial draft now admits
line_again t (CapItem filled) draft now admits = cap_line_again t filled draft now admits
line_again t (PairItem pair) draft now admits = child_line_again t pair draft now admits
line_again t (BindingItem binding) draft now admits = bind_line_again t binding draft admits

-- a line is read just where it is the line of an item that the table takes next

pub line_iff : (t : Layout) (words : List (List ℕ)) (next : Layout) → IsDraft t
    → (table_line t words ≡ Ok next) ↔ ((item : Item) × IsLineOf t words next item)
line_iff t words next draft = (line_takes t words next, again) where
  again : (item : Item) × IsLineOf t words next item → table_line t words ≡ Ok next
  again (item, is) =
      ap (table_line t) is.words_are ∙ line_again t item draft is.now is.admits ∙ ap (λ u. Ok u) is.grown

-- the words of an item's line are plain, and it is not the last line

plain_kind : (kind : ObjectKind) → IsPlainWord (object_kind_word kind)
plain_kind kind.Untyped = plain_bytes (codes "untyped") refl
plain_kind kind = plain_bytes (object_kind_word kind) refl

plain_item : (t : Layout) (item : Item) → IsDraft t → Admits t item → IsPlainLine (item_words t item)
plain_item t (LabelItem name) draft admits =
    (plain_bytes (codes "label") refl, (plain_name name admits.spelled, tt))
plain_item t (ObjectItem name initial) draft admits = (
  plain_kind (kind_of_object initial.object),
  (
    plain_name name admits.spelled,
    (
      plain_name (label_name t initial.label) (is_label_name t initial.label draft admits.label),
      plain_content initial.object admits.blank admits.end,
    ),
  ),
)
plain_item t (CapItem filled) draft admits = cap_plain t filled draft admits
plain_item t (PairItem pair) draft admits = pair_plain t pair draft admits
plain_item t (BindingItem binding) draft admits = binding_plain t binding draft admits

kind_not_last : (kind : ObjectKind) (words : List (List ℕ)) → IsNotLast (object_kind_word kind ∷ words)
kind_not_last kind.Untyped words = refl
kind_not_last _ words = refl

not_last : (t : Layout) (item : Item) → IsNotLast (item_words t item)
not_last t (LabelItem name) = refl
not_last t (ObjectItem name initial) =
    kind_not_last (kind_of_object initial.object) (name ∷ label_name t initial.label ∷ content_words initial.object)
not_last t (CapItem filled) = refl
not_last t (PairItem pair) = refl
not_last t (BindingItem binding) = refl

-- lines that were read build up a draft, and are its lines

record TakesLines (version : Version) (lines : List (List (List ℕ))) (all : Layout) : Type 0 where
  built : IsBuiltUp all
  version_is : all.version ≡ version
  lines_are : table_lines all ≡ lines

-- an item more leaves the version
same_version : (t : Layout) (item : Item) → (with_item t item).version ≡ t.version
same_version t (LabelItem name) = refl
same_version t (ObjectItem name initial) = refl
same_version t (CapItem filled) = refl
same_version t (PairItem pair) = refl
same_version t (BindingItem binding) = refl

lines_take : (version : Version) (t : Layout) (front body : List (List (List ℕ))) (all : Layout) → TakesLines version front t
    → steps table_line t body ≡ Ok all → TakesLines version (front ++ body) all
unfolding steps
lines_take version t front [] all so_far h =
    let same : t ≡ all = cc in
    subst (λ u. TakesLines version (front ++ []) u) same
    (record {
      built = so_far.built;
      version_is = so_far.version_is;
      lines_are = so_far.lines_are ∙ sym (append-nil front);
    })
lines_take version t front (line ∷ body) all so_far h =
    let stepped = bind_ok (table_line t line) (λ next. steps table_line next body) all h in
    let takes = line_takes t line stepped.0 stepped.1 in
    let draft = (draft_from_built so_far.built).0 in
    let lines : table_lines (with_item t takes.0) ≡ front ++ line ∷ [] =
    item_more t takes.0 draft.objects.named takes.1.now ∙ (λ i. so_far.lines_are i ++ sym takes.1.words_are i ∷ []) in
    let next : TakesLines version (front ++ line ∷ []) stepped.0 =
    subst (λ u. TakesLines version (front ++ line ∷ []) u) takes.1.grown
    (record {
      built = more takes.0 so_far.built takes.1.now takes.1.admits;
      version_is = same_version t takes.0 ∙ so_far.version_is;
      lines_are = lines;
    }) in
    subst (λ ls. TakesLines version ls all) (append_assoc front (line ∷ []) body)
    (lines_take version stepped.0 (front ++ line ∷ []) body all next stepped.2)

-- the lines of a draft are read

record ReadsLines (t : Layout) : Type 0 where
  stepped : steps table_line (empty_layout t.version) (table_lines t) ≡ Ok t
  plain : AllByRecursion IsPlainLine (table_lines t)
  none_last : AllByRecursion IsNotLast (table_lines t)

steps_push : (s t : Layout) (lines : List (List (List ℕ))) (line : List (List ℕ)) → steps table_line s lines ≡ Ok t
    → steps table_line s (lines ++ line ∷ []) ≡ table_line t line
unfolding steps bind
steps_push s t [] line h = let same : s ≡ t = cc in bind_itself (table_line s line) ∙ ap (λ u. table_line u line) same where
  bind_itself : (r : Result Layout Wrong) → bind r (λ next. Ok next) ≡ r
  bind_itself (Ok next) = refl
  bind_itself (Err wrong) = refl
steps_push s t (first ∷ lines) line h =
    let stepped = bind_ok (table_line s first) (λ next. steps table_line next lines) t h in
    ap (λ r. bind r (λ next. steps table_line next (lines ++ line ∷ []))) stepped.1 ∙ steps_push stepped.0 t lines line stepped.2

lines_again : {t : Layout} → IsBuiltUp t → ReadsLines t
unfolding steps
lines_again (none version) = record { stepped = refl; plain = tt; none_last = tt }
lines_again (more {t} item built now admits) =
    let draft = (draft_from_built built).0 in
    let reads = lines_again built in
    let lines = item_more t item draft.objects.named now in
    record {
      stepped = (λ i. steps table_line (empty_layout (same_version t item i)) (lines i))
          ∙ steps_push (empty_layout t.version) t (table_lines t) (item_words t item) reads.stepped
          ∙ line_again t item draft now admits;
      plain = subst (AllByRecursion IsPlainLine) (sym lines)
          (both IsPlainLine (table_lines t) (item_words t item ∷ []) reads.plain (plain_item t item draft admits, tt));
      none_last = subst (AllByRecursion IsNotLast) (sym lines)
          (both IsNotLast (table_lines t) (item_words t item ∷ []) reads.none_last (not_last t item, tt));
    }

-- a draft becomes a table; its marks aren't spelled

grown_takes : (draft t : Layout) → grown draft ≡ Ok t → (tree_fault (with_originals draft) ≡ None) × (t ≡ with_originals draft)
unfolding grown
grown_takes draft t h = by (tree_fault (with_originals draft)) refl h where
  by : (fault : Option ℕ) → tree_fault (with_originals draft) ≡ fault → grown_by draft fault ≡ Ok t
      → (tree_fault (with_originals draft) ≡ None) × (t ≡ with_originals draft)
  by None is h = let same : t ≡ with_originals draft = cc in (is, same)
  by (Some number) is h = cc

-- the pair that breaks a rule is one of the draft's
pub fault_within : (draft : Layout) (number : ℕ) → tree_fault (with_originals draft) ≡ Some number → number < length draft.pairs
unfolding tree_fault
fault_within draft number h =
    let slot : SlotRef = record { holder = record { 0 = 0 }; index = 0 } in
    (position-Some (λ pair. not (is_kin (with_originals draft) pair)) draft.pairs number
    (record { parent = slot; child = slot }) h).0

marked_lines : (t : Layout) → table_lines (with_originals t) ≡ table_lines t
unfolding kind_at initial_of
marked_lines t = ap (λ caps. label_lines t ++ (object_lines t ++ (caps ++ (pair_lines t ++ binding_lines t)))) (same t.caps) where
  same : (caps : List Filled) → map (cap_words t) (map (with_mark t) caps) ≡ map (cap_words t) caps
  same [] = refl
  same (filled ∷ caps) = ap (λ lines. cap_words t filled ∷ lines) (same caps)

-- a law of tables: those that keep the rules are the drafts that are built up item by item, marked, where the tree keeps its rules
abbrev pub BuildLaw : Type 0
BuildLaw =
    (t : Layout) → IsLawful t
    ↔ ((draft : Layout) × IsBuiltUp draft × (tree_fault (with_originals draft) ≡ None) × (t ≡ with_originals draft))

-- the two laws

pub read_is_table : BuildLaw → (bytes : List ℕ) (t : Layout) → read_table_of bytes ≡ Ok t → IsLawful t × (bytes ≡ table_text t)
unfolding read_table_of
read_is_table law bytes t h =
    let version = version_of (lines_of bytes) in
    let text = whole_text_takes (format_of version) t bytes h in
    let begins : TakesLines version [] (empty_layout version) =
    record { built = none version; version_is = refl; lines_are = refl } in
    let lines = lines_take version (empty_layout version) [] text.0 text.1 begins text.3 in
    let came = grown_takes text.1 t text.4 in
    let spelled : table_text t ≡ text_of (whole_lines (table_header version) text.0) =
    ap table_text came.1
    ∙ (λ i. text_of (whole_lines (table_header (lines.version_is i)) ((marked_lines text.1 ∙ lines.lines_are) i))) in
    ((law t).1 (text.1, lines.built, came.0, came.1), text.2 ∙ sym spelled)

-- the header of a version is plain, and tells the version

plain_header : (version : Version) → IsPlainLine (table_header version)
plain_header version.One = (plain_bytes (codes "confine-table") refl, (plain_bytes (codes "1") refl, tt))
plain_header version.Two = (plain_bytes (codes "confine-table") refl, (plain_bytes (codes "2") refl, tt))

told_version : (version : Version) (lines : List (Option (List (List ℕ)))) → version_of (Some (table_header version) ∷ lines) ≡ version
told_version version.One lines = refl
told_version version.Two lines = refl

pub table_is_read : BuildLaw → (bytes : List ℕ) (t : Layout) → IsLawful t → bytes ≡ table_text t → read_table_of bytes ≡ Ok t
unfolding read_table_of grown
table_is_read law bytes t lawful text =
    let built = (law t).0 lawful in
    let draft = built.0 in
    let version = draft.version in
    let body = whole_lines (table_header version) (table_lines draft) in
    let lines = lines_again built.1 in
    let last : AllByRecursion IsPlainLine (last_line ∷ []) = ((plain_bytes (codes "end") refl, tt), tt) in
    let plain : AllByRecursion IsPlainLine body =
    (plain_header version, both IsPlainLine (table_lines draft) (last_line ∷ []) lines.plain last) in
    let came : grown draft ≡ Ok t = ap (grown_by draft) built.2 ∙ ap (λ u. Ok u) (sym built.3) in
    let spelled : bytes ≡ text_of body =
    text ∙ ap table_text built.3 ∙ ap (λ lines. text_of (whole_lines (table_header version) lines)) (marked_lines draft) in
    let told : version_of (lines_of bytes) ≡ version =
    ap version_of (ap lines_of spelled ∙ text_lines body plain)
    ∙ told_version version (map (λ line. Some line) (table_lines draft ++ last_line ∷ [])) in
    ap (λ v. read_format (format_of v) (lines_of bytes)) told
    ∙ whole_text_again (format_of version) draft t (table_lines draft) bytes plain lines.none_last lines.stepped came spelled

pub table_iff : BuildLaw → (bytes : List ℕ) (t : Layout) → (read_table_of bytes ≡ Ok t) ↔ (IsLawful t × (bytes ≡ table_text t))
table_iff law bytes t = (read_is_table law bytes t, λ h. table_is_read law bytes t h.0 h.1)

-- different tables have different texts
pub table_once : BuildLaw → (one other : Layout) → IsLawful one → IsLawful other → table_text one ≡ table_text other → one ≡ other
table_once law one other is_one is_other same =
    let both : ◌≡◌ {A = Result Layout Fault} (Ok one) (Ok other) =
    sym (table_is_read law (table_text one) one is_one refl) ∙ table_is_read law (table_text one) other is_other same in
    cc

-- a text is read as a table just where it is the text of a lawful one

abbrev pub TextLaw : Type 0
TextLaw = (bytes : List ℕ) (t : Layout) → (read_table_of bytes ≡ Ok t) ↔ (IsLawful t × (bytes ≡ table_text t))

pub found : (result : Result Layout Fault) (bytes : List ℕ) → TextLaw → Reads (λ t. t) result (read_table_of bytes)
    → IfOk result (λ t. bytes ≡ table_text t)
found (Ok t) bytes law exact = ((law bytes t).0 exact).1
found (Err fault) bytes law exact = tt

pub only : (result : Result Layout Fault) (bytes : List ℕ) → TextLaw → Reads (λ t. t) result (read_table_of bytes)
    → (t : Layout) → IsLawful t → bytes ≡ table_text t → Reads (λ t. t) result (Ok t)
only result bytes law exact t lawful text =
    subst (λ read. Reads (λ t. t) result read) ((law bytes t).1 (lawful, text)) exact
