-- What the parts of a document are read from is spelled as they are.
use Rattle.std.{specs.{List.{count_by, list_all, list_any, prefix_len}, Str.bytes_eq}, proofs.Common.{[], ℕ, ◌&&◌, ◌++◌, ◌+◌, ◌<◌, ◌==◌}}
use Rattle.std.proofs.Common.{◌||◌, ◌∙◌, ◌∷◌, ◌≡◌, ◌≢◌, ◌≤◌, ◌⊎◌, Bool, Err, List, None, Ok, Option, Result, Some, ap, append_assoc}
use Rattle.std.proofs.Common.{arith, codes, cond, eqb-true, false, inl, inr, length, length-append, length-take, ltb-false, nat_lt}
use Rattle.std.proofs.{Common.{not, refl, subst, suc, sym, take, true, zero}, lemmas.List.{Sums.sum_by-append, take-append-drop}}
use Rattle.{std.proofs.lemmas.Slice.Eq.bytes_eq-Decides, words.{specs.{declared.faults.Fault.Fault, Reading.bind}, proofs.WordLaws.bind_ok}}
use Rattle.xml.specs.{declared.values.TheConstants.MAX_VALUE_LENGTH, Characters.{begins_with, comment_length, in_comment}}
use Rattle.xml.specs.Characters.{is_comment_byte, is_name_byte, is_name_start, is_space, is_value_byte, name_length}
use Rattle.xml.specs.{Document.{comment_at, declaration_at, declared_at, encoding_at, is_one_of}, Place.{Place, after, after_spaces}}
use Rattle.xml.specs.{Place.{expected_at, spaced_at}, Spelling.{AreAttributes, IsAttribute, IsEquals, IsName, IsQuoted, IsSpaces}}
use Rattle.xml.specs.Spelling.{IsValue, SpellsComment, SpellsDeclaration, SpellsDeclared, SpellsEnd, SpellsStart, Stands, encodings}
use Rattle.xml.specs.Tag.{Pair, admitted, attribute_at, attributes_at, ends_tag, is_given, name_at, tag_end_at}
use Rattle.xml.specs.Value.{equals_at, quote_at, quoted_at, text_of, value_at, value_of}

abbrev done : {X : Type 0} → X → Result X Fault
done x = Ok x

-- two readings of one value
pub ok_is : {X : Type 0} (x y : X) → done x ≡ done y → x ≡ y
ok_is x y e = cc

-- a choice of which one way is a fault
pub chosen : {X : Type 0} (b : Bool) (fault : Fault) (r : Result X Fault) (x : X) → cond b (Err fault) r ≡ Ok x
    → (b ≡ false) × (r ≡ Ok x)
chosen true fault r x e = absurd cc
chosen false fault r x e = (refl, e)

-- and the other way
pub chosen_else : {X : Type 0} (b : Bool) (fault : Fault) (r : Result X Fault) (x : X) → cond b r (Err fault) ≡ Ok x
    → (b ≡ true) × (r ≡ Ok x)
chosen_else true fault r x e = (refl, e)
chosen_else false fault r x e = absurd cc

pub neither : (a b : Bool) → (a || b) ≡ false → (a ≡ false) × (b ≡ false)
neither false b e = (refl, e)
neither true b e = absurd cc

count_more : (a b : List ℕ) → count_by (λ x. x == 10) (a ++ b) ≡ count_by (λ x. x == 10) a + count_by (λ x. x == 10) b
count_more a b = sum_by-append (λ x. cond (x == 10) 1 0) a b

-- one text behind another
pub stands_then : (a b : List ℕ) (place middle end : Place) → Stands a place middle → Stands b middle end → Stands (a ++ b) place end
stands_then a b place middle end s t =
    record {
      parts = s.parts ∙ ap (λ (rest : List ℕ). a ++ rest) t.parts ∙ sym (append_assoc a b end.rest);
      lines = omega (arith, s.lines, t.lines, count_more a b);
    }

-- the bytes of which a place is further
pub stands_after : (count : ℕ) (place : Place) → Stands (take count place.rest) place (after count place)
unfolding after
stands_after count place = record { parts = sym (take-append-drop count place.rest); lines = refl }

take_more : (count b : ℕ) (bs : List ℕ) → take (1 + count) (b ∷ bs) ≡ b ∷ take count bs
take_more count b bs = let one : 1 + count ≡ suc count = omega arith in rw one refl

pub prefix_passes : (p : ℕ → Bool) (bytes : List ℕ) → list_all p (take (prefix_len p bytes) bytes) ≡ true
prefix_passes p [] = refl
prefix_passes p (b ∷ bs) = by_test (p b) refl (prefix_passes p bs)
  where
    by_test : (t : Bool) → p b ≡ t → list_all p (take (prefix_len p bs) bs) ≡ true
        → list_all p (take (cond t (1 + prefix_len p bs) 0) (b ∷ bs)) ≡ true
    by_test true e others =
        ap (list_all p) (take_more (prefix_len p bs) b bs)
        ∙ ap (λ t. t && list_all p (take (prefix_len p bs) bs)) e ∙ others
    by_test false e others = refl

pub stands_spaces : (place : Place) → (text : List ℕ) × IsSpaces text × Stands text place (after_spaces place)
unfolding after_spaces
stands_spaces place =
    let count = prefix_len is_space place.rest in
    (take count place.rest, prefix_passes is_space place.rest, stands_after count place)

pub stands_expected : (text : List ℕ) (place end : Place) → expected_at text place ≡ Ok end → Stands text place end
unfolding expected_at
stands_expected text place end h =
    let c = chosen_else (begins_with place.rest text) _ _ end h in
    let same : take (length text) place.rest ≡ text = (bytes_eq-Decides (take (length text) place.rest) text).0 c.0 in
    subst (λ (at : Place). Stands text place at) (ok_is _ end c.1)
    (subst (λ (t : List ℕ). Stands t place (after (length text) place)) same (stands_after (length text) place))

-- what a name's length says
name_bytes : (bytes : List ℕ) → (name_length bytes == 0) ≡ false
    → (first : ℕ) × (others : List ℕ) × (take (name_length bytes) bytes ≡ first ∷ others) × (is_name_start first ≡ true)
    × (list_all is_name_byte (take (name_length bytes) bytes) ≡ true)
unfolding name_length
name_bytes [] h = absurd cc
name_bytes (b ∷ bs) h = by_start (is_name_start b) refl (is_name_byte b) refl h
  where
    by_start : (s : Bool) → is_name_start b ≡ s → (t : Bool) → is_name_byte b ≡ t
        → (cond s (cond t (1 + prefix_len is_name_byte bs) 0) 0 == 0) ≡ false
        → (first : ℕ) × (others : List ℕ) × (take (cond s (cond t (1 + prefix_len is_name_byte bs) 0) 0) (b ∷ bs) ≡ first ∷ others)
        × (is_name_start first ≡ true)
        × (list_all is_name_byte (take (cond s (cond t (1 + prefix_len is_name_byte bs) 0) 0) (b ∷ bs)) ≡ true)
    by_start false e t f h = absurd cc
    by_start true e false f h = absurd cc
    by_start true e true f h =
        let more = take_more (prefix_len is_name_byte bs) b bs in (
          b,
          take (prefix_len is_name_byte bs) bs,
          more,
          e,
          ap (list_all is_name_byte) more
              ∙ ap (λ t. t && list_all is_name_byte (take (prefix_len is_name_byte bs) bs)) f
              ∙ prefix_passes is_name_byte bs,
        )

pub stands_name : (place : Place) (y : List ℕ × Place) → name_at place ≡ Ok y → IsName y.0 × Stands y.0 place y.1
unfolding name_at
stands_name place y h =
    let count = name_length place.rest in
    let c = chosen (count == 0 || bytes_eq (take count place.rest) (codes "xmlns")) _ _ y h in
    let n = neither (count == 0) (bytes_eq (take count place.rest) (codes "xmlns")) c.0 in
    let b = name_bytes place.rest n.0 in
    let other : take count place.rest ≢ codes "xmlns" =
    λ e. let t = (bytes_eq-Decides (take count place.rest) (codes "xmlns")).1 e in absurd (clash _ t n.1) in
    subst (λ (z : List ℕ × Place). IsName z.0 × Stands z.0 place z.1) (ok_is _ y c.1) (
      record { first = b.0; others = b.1; whole = b.2; begins = b.3; bytes = b.4; no_namespace = other },
      stands_after count place,
    )
  where
    clash : (b : Bool) → b ≡ true → b ≡ false → ⊥
    clash true e f = let g : true ≡ false = f in absurd cc
    clash false e f = let g : false ≡ true = e in absurd cc

-- the quote that comes next
is_quote : (b : ℕ) → (b == 34 || b == 39) ≡ true → (b ≡ 34) ⊎ (b ≡ 39)
is_quote b e = by_test (b == 34) refl e
  where
    by_test : (t : Bool) → (b == 34) ≡ t → (t || b == 39) ≡ true → (b ≡ 34) ⊎ (b ≡ 39)
    by_test true p e = inl (eqb-true b 34 p)
    by_test false p e = inr (eqb-true b 39 e)

quote_in : (line : ℕ) (rest : List ℕ) (y : ℕ × Place) → quote_at (record { line = line; rest = rest }) ≡ Ok y
    → ((y.0 ≡ 34) ⊎ (y.0 ≡ 39)) × Stands (y.0 ∷ []) (record { line = line; rest = rest }) y.1
unfolding quote_at
quote_in line [] y h = absurd cc
quote_in line (b ∷ bs) y h =
    let place : Place = record { line = line; rest = b ∷ bs } in
    let c = chosen_else (b == 34 || b == 39) _ _ y h in
    subst (λ (z : ℕ × Place). ((z.0 ≡ 34) ⊎ (z.0 ≡ 39)) × Stands (z.0 ∷ []) place z.1) (ok_is _ y c.1)
    (is_quote b c.0, stands_after 1 place)

stands_quote : (place : Place) (y : ℕ × Place) → quote_at place ≡ Ok y
    → ((y.0 ≡ 34) ⊎ (y.0 ≡ 39)) × Stands (y.0 ∷ []) place y.1
stands_quote place y h = quote_in place.line place.rest y h

-- what stands between two quotes
stands_quoted : (place : Place) (y : List ℕ × Place) → quoted_at place ≡ Ok y
    → (text : List ℕ) × IsQuoted y.0 text × Stands text place y.1
unfolding quoted_at
stands_quoted place y h =
    let q = bind_ok (quote_at place) _ y h in
    let s = stands_quote place q.0 q.1 in
    let count = prefix_len (is_value_byte q.0.0) q.0.1.rest in
    let e = bind_ok (expected_at (q.0.0 ∷ []) (after count q.0.1)) _ y q.2 in
    let inner = take count q.0.1.rest in
    let closing = stands_expected (q.0.0 ∷ []) (after count q.0.1) e.0 e.1 in
    let all = stands_then (q.0.0 ∷ []) (inner ++ q.0.0 ∷ []) place q.0.1 e.0 s.1
    (stands_then inner (q.0.0 ∷ []) q.0.1 (after count q.0.1) e.0 (stands_after count q.0.1) closing) in
    subst (λ (z : List ℕ × Place). (text : List ℕ) × IsQuoted z.0 text × Stands text place z.1) (ok_is _ y e.2) (
      q.0.0 ∷ [] ++ (inner ++ q.0.0 ∷ []),
      record { quote = q.0.0; quote_is = s.0; bytes = prefix_passes (is_value_byte q.0.0) q.0.1.rest; whole = refl },
      all,
    )

-- the length of a value
value_fits : (line : ℕ) (read : Option (List ℕ)) (value : List ℕ) → value_of line read ≡ Ok value
    → (read ≡ Some value) × (length value ≤ MAX_VALUE_LENGTH)
unfolding value_of
value_fits line None value h = absurd cc
value_fits line (Some text) value h =
    let c = chosen (nat_lt MAX_VALUE_LENGTH (length text)) _ _ value h in
    let same = ok_is text value c.1 in
    (ap (λ (t : List ℕ). Some t) same, omega (arith, ltb-false _ _ c.0, ap length same))

pub stands_value : (place : Place) (y : List ℕ × Place) → value_at place ≡ Ok y
    → (text : List ℕ) × IsValue y.0 text × Stands text place y.1
unfolding value_at
stands_value place y h =
    let q = bind_ok (quoted_at place) _ y h in
    let s = stands_quoted place q.0 q.1 in
    let v = bind_ok (value_of q.0.1.line (text_of [] None q.0.0)) _ y q.2 in
    let f = value_fits q.0.1.line (text_of [] None q.0.0) v.0 v.1 in
    subst (λ (z : List ℕ × Place). (text : List ℕ) × IsValue z.0 text × Stands text place z.1) (ok_is _ y v.2)
    (s.0, record { inner = q.0.0; quoted = s.1; stands_for = f.0; short = f.1 }, s.2)

pub stands_equals : (place end : Place) → equals_at place ≡ Ok end → (text : List ℕ) × IsEquals text × Stands text place end
unfolding equals_at
stands_equals place end h =
    let b = stands_spaces place in
    let e = bind_ok (expected_at (codes "=") (after_spaces place)) _ end h in
    let a = stands_spaces e.0 in
    let all = stands_then b.0 (codes "=" ++ a.0) place (after_spaces place) (after_spaces e.0) b.2
    (stands_then (codes "=") a.0 (after_spaces place) e.0 (after_spaces e.0) (stands_expected (codes "=") (after_spaces place) e.0 e.1) a.2) in (
      b.0 ++ (codes "=" ++ a.0),
      record { before = b.0; behind = a.0; whole = refl; spaces = (b.1, a.1) },
      subst (λ (at : Place). Stands (b.0 ++ (codes "=" ++ a.0)) place at) (ok_is _ end e.2) all,
    )

stands_spaced : (place end : Place) → spaced_at place ≡ Ok end
    → (text : List ℕ) × IsSpaces text × (0 < length text) × Stands text place end
unfolding spaced_at
stands_spaced place end h =
    let c = chosen (length (after_spaces place).rest == length place.rest) _ _ end h in
    let s = stands_spaces place in
    let some : 0 < length s.0 = by_length s.0 (omega (arith, ap length s.2.parts, length-append s.0 (after_spaces place).rest)) c.0 in
    (s.0, s.1, some, subst (λ (at : Place). Stands s.0 place at) (ok_is _ end c.1) s.2)
  where
    by_length : (text : List ℕ) → length place.rest ≡ length text + length (after_spaces place).rest
        → (length (after_spaces place).rest == length place.rest) ≡ false → 0 < length text
    by_length text e differ = grind (arith, e, differ)

-- one attribute more may be of this name
admitted_takes : (found : List Pair) (name : List ℕ) (line : ℕ) (u : Unit {0}) → admitted found name line ≡ Ok u
    → list_any (λ (other : Pair). bytes_eq other.name name) found ≡ false
unfolding admitted is_given
admitted_takes found name line u h = let c = chosen (is_given found name) _ _ u h in c.0

stands_attribute : (found : List Pair) (place : Place) (y : Pair × Place) → attribute_at found place ≡ Ok y
    → (text : List ℕ) × IsAttribute y.0 text × (list_any (λ (other : Pair). bytes_eq other.name y.0.name) found ≡ false)
    × Stands text place y.1
unfolding attribute_at
stands_attribute found place y h =
    let a = bind_ok (spaced_at place) _ y h in
    let b = bind_ok (name_at a.0) _ y a.2 in
    let m = bind_ok (admitted found b.0.0 b.0.1.line) _ y b.2 in
    let e = bind_ok (equals_at b.0.1) _ y m.2 in
    let v = bind_ok (value_at e.0) _ y e.2 in
    let s = stands_spaced place a.0 a.1 in
    let n = stands_name a.0 b.0 b.1 in
    let q = stands_equals b.0.1 e.0 e.1 in
    let w = stands_value e.0 v.0 v.1 in
    let all = stands_then s.0 (b.0.0 ++ (q.0 ++ w.0)) place a.0 v.0.1 s.3
    (stands_then b.0.0 (q.0 ++ w.0) a.0 b.0.1 v.0.1 n.1 (stands_then q.0 w.0 b.0.1 e.0 v.0.1 q.2 w.2)) in
    subst
    (λ (z : Pair × Place). (text : List ℕ) × IsAttribute z.0 text
    × (list_any (λ (other : Pair). bytes_eq other.name z.0.name) found ≡ false) × Stands text place z.1)
    (ok_is _ y v.2) (
      s.0 ++ (b.0.0 ++ (q.0 ++ w.0)),
      record {
        spaces = s.0;
        equals = q.0;
        value = w.0;
        whole = refl;
        spaced = (s.1, s.2);
        name_is = n.0;
        equals_is = q.1;
        value_is = w.1;
      },
      admitted_takes found b.0.0 b.0.1.line m.0 m.1,
      all,
    )

append_none : (pairs : List Pair) → pairs ≡ pairs ++ []
append_none [] = refl
append_none (pair ∷ pairs) = ap (λ (ps : List Pair). pair ∷ ps) (append_none pairs)

-- what the attributes of a tag are read from
Lists : List Pair → Place → List Pair × Place → Type 0
Lists found place y =
    (pairs : List Pair) × (text : List ℕ) × AreAttributes found pairs text × (y.0 ≡ found ++ pairs) × Stands text place y.1

pub stands_attributes : (room : ℕ) (found : List Pair) (place : Place) (y : List Pair × Place)
    → attributes_at room found place ≡ Ok y
    → (pairs : List Pair) × (text : List ℕ) × AreAttributes found pairs text × (y.0 ≡ found ++ pairs) × Stands text place y.1
unfolding attributes_at Lists
stands_attributes zero found place y h = absurd cc
stands_attributes (suc room) found place y h =
    by_end (ends_tag (after_spaces place).rest) (λ f p z e. stands_attributes room f p z e) h
  where
    by_end : (b : Bool) → ((f : List Pair) (p : Place) (z : List Pair × Place) → attributes_at room f p ≡ Ok z → Lists f p z)
        → cond b (Ok (found, after_spaces place))
        (bind (attribute_at found place) (λ next. attributes_at room (found ++ next.0 ∷ []) next.1))
        ≡ Ok y
        → Lists found place y
    by_end true again h =
        let s = stands_spaces place in
        subst (λ (z : List Pair × Place). Lists found place z) (ok_is _ y h) ([], s.0, s.1, append_none found, s.2)
    by_end false again h =
        let a = bind_ok (attribute_at found place) _ y h in
        let s = stands_attribute found place a.0 a.1 in
        let r = again (found ++ a.0.0 ∷ []) a.0.1 y a.2 in (
          a.0.0 ∷ r.0,
          s.0 ++ r.1,
          (s.0, r.1, s.1, s.2, r.2, refl),
          r.3 ∙ append_assoc found (a.0.0 ∷ []) r.0,
          stands_then s.0 r.1 place a.0.1 y.1 s.3 r.4,
        )

pub stands_tag_end : (place : Place) (y : Bool × Place) → tag_end_at place ≡ Ok y
    → Stands (cond y.0 (codes "/>") (codes ">")) place y.1
unfolding tag_end_at
stands_tag_end place y h = by_test (begins_with place.rest (codes "/>")) refl h
  where
    by_test : (b : Bool) → begins_with place.rest (codes "/>") ≡ b
        → cond b (Ok (true, after 2 place)) (bind (expected_at (codes ">") place) (λ behind. Ok (false, behind))) ≡ Ok y
        → Stands (cond y.0 (codes "/>") (codes ">")) place y.1
    by_test true e h =
        let same : take 2 place.rest ≡ codes "/>" = (bytes_eq-Decides (take 2 place.rest) (codes "/>")).0 e in
        subst (λ (z : Bool × Place). Stands (cond z.0 (codes "/>") (codes ">")) place z.1) (ok_is _ y h)
        (subst (λ (t : List ℕ). Stands t place (after 2 place)) same (stands_after 2 place))
    by_test false e h =
        let b = bind_ok (expected_at (codes ">") place) _ y h in
        subst (λ (z : Bool × Place). Stands (cond z.0 (codes "/>") (codes ">")) place z.1) (ok_is _ y b.2)
        (stands_expected (codes ">") place b.0 b.1)

-- the bytes of a comment
comment_passes : (bytes : List ℕ) → list_all is_comment_byte (take (comment_length bytes) bytes) ≡ true
unfolding comment_length in_comment
comment_passes [] = refl
comment_passes (b ∷ bs) = by_test (is_comment_byte b) refl (not (begins_with (b ∷ bs) (codes "--"))) (comment_passes bs)
  where
    by_test : (s : Bool) → is_comment_byte b ≡ s → (t : Bool) → list_all is_comment_byte (take (comment_length bs) bs) ≡ true
        → list_all is_comment_byte (take (cond (s && t) (1 + comment_length bs) 0) (b ∷ bs)) ≡ true
    by_test true e true others =
        ap (list_all is_comment_byte) (take_more (comment_length bs) b bs)
        ∙ ap (λ t. t && list_all is_comment_byte (take (comment_length bs) bs)) e ∙ others
    by_test true e false others = refl
    by_test false e t others = refl

-- before the end of a comment, it goes on
goes_on : (front more : List ℕ) → length front < comment_length (front ++ more) → in_comment more ≡ true
unfolding comment_length
goes_on [] [] h = absurd (omega (arith, h))
goes_on [] (b ∷ bs) h = by_test (in_comment (b ∷ bs)) refl h
  where
    by_test : (t : Bool) → in_comment (b ∷ bs) ≡ t → 0 < cond t (1 + comment_length bs) 0 → in_comment (b ∷ bs) ≡ true
    by_test true e h = e
    by_test false e h = absurd (omega (arith, h))
goes_on (x ∷ front) more h = goes_on front more (by_test (in_comment (x ∷ (front ++ more))) h)
  where
    by_test : (t : Bool) → suc (length front) < cond t (1 + comment_length (front ++ more)) 0
        → length front < comment_length (front ++ more)
    by_test true h = omega (arith, h)
    by_test false h = absurd (omega (arith, h))

-- no `--` begins before the end of a comment
no_end_before : (front back : List ℕ) → length front < comment_length (front ++ (codes "--" ++ back)) → ⊥
unfolding in_comment
no_end_before front back h =
    let goes : (is_comment_byte 45 && not (begins_with (45 ∷ 45 ∷ back) (codes "--"))) ≡ true = goes_on front (codes "--" ++ back) h in
    cc_false goes
  where
    cc_false : (is_comment_byte 45 && not (begins_with (45 ∷ 45 ∷ back) (codes "--"))) ≡ true → ⊥
    cc_false e = let f : false ≡ true = e in absurd cc

two_more : (back : List ℕ) → 0 < length (codes "--" ++ back)
two_more back = omega arith

-- what stands before the end of a comment is shorter
below : (front more inner rest bytes : List ℕ) → length inner ≤ comment_length rest → inner ≡ front ++ more → 0 < length more
    → rest ≡ bytes → length front < comment_length bytes
below front more inner rest bytes short e some all =
    omega (arith, short, ap length e, length-append front more, some, ap comment_length all)

pub stands_comment : (place end : Place) → comment_at place ≡ Ok end → (text : List ℕ) × SpellsComment text × Stands text place end
unfolding comment_at
stands_comment place end h =
    let a = bind_ok (expected_at (codes "<!--") place) _ end h in
    let count = comment_length a.0.rest in
    let inner = take count a.0.rest in
    let behind = stands_then inner (codes "-->") a.0 (after count a.0) end (stands_after count a.0)
    (stands_expected (codes "-->") (after count a.0) end a.2) in
    let short : length inner ≤ count = omega (arith, length-take count a.0.rest) in
    let rest : a.0.rest ≡ inner ++ (codes "-->" ++ end.rest) = behind.parts ∙ append_assoc inner (codes "-->") end.rest in (
      codes "<!--" ++ (inner ++ codes "-->"),
      record {
        inner = inner;
        whole = refl;
        bytes = comment_passes a.0.rest;
        no_end = λ front back e.
            let all : a.0.rest ≡ front ++ (codes "--" ++ (back ++ (codes "-->" ++ end.rest))) =
            rest ∙ ap (λ (t : List ℕ). t ++ (codes "-->" ++ end.rest)) e
            ∙ append_assoc front (codes "--" ++ back) (codes "-->" ++ end.rest) in
            no_end_before front (back ++ (codes "-->" ++ end.rest))
            (below front (codes "--" ++ back) inner a.0.rest _ short e (two_more back) all);
        no_dash = λ front e.
            let all : a.0.rest ≡ front ++ (codes "--" ++ (codes "->" ++ end.rest)) =
            rest ∙ ap (λ (t : List ℕ). t ++ (codes "-->" ++ end.rest)) e
            ∙ append_assoc front (codes "-") (codes "-->" ++ end.rest) in
            no_end_before front (codes "->" ++ end.rest)
            (below front (codes "-") inner a.0.rest _ short e (omega arith) all);
      },
      stands_then (codes "<!--") (inner ++ codes "-->") place a.0 end (stands_expected (codes "<!--") place a.0 a.1) behind,
    )

-- the tag that begins an element
pub stands_start : (place inside named listed end : Place) (name : List ℕ) (pairs : List Pair) (is_empty : Bool)
    → expected_at (codes "<") place ≡ Ok inside → name_at inside ≡ Ok (name, named) → attributes_at 33 [] named ≡ Ok (pairs, listed)
    → tag_end_at listed ≡ Ok (is_empty, end) → (text : List ℕ) × SpellsStart name pairs is_empty text × Stands text place end
stands_start place inside named listed end name pairs is_empty opens is has closes =
    let n = stands_name inside (name, named) is in
    let l = stands_attributes 33 [] named (pairs, listed) has in
    let t = stands_tag_end listed (is_empty, end) closes in
    let close : List ℕ = cond is_empty (codes "/>") (codes ">") in
    let same : pairs ≡ l.0 = l.3 in (
      codes "<" ++ (name ++ (l.1 ++ close)),
      record {
        attributes = l.1;
        whole = refl;
        name_is = n.0;
        attributes_are = subst (λ (ps : List Pair). AreAttributes [] ps l.1) (sym same) l.2;
      },
      stands_then (codes "<") (name ++ (l.1 ++ close)) place inside end (stands_expected (codes "<") place inside opens)
          (stands_then name (l.1 ++ close) inside named end n.1 (stands_then l.1 close named listed end l.4 t)),
    )

-- the tag that ends one
pub stands_end : (place inside named end : Place) (name : List ℕ) → expected_at (codes "</") place ≡ Ok inside
    → name_at inside ≡ Ok (name, named) → expected_at (codes ">") (after_spaces named) ≡ Ok end
    → (text : List ℕ) × SpellsEnd name text × Stands text place end
stands_end place inside named end name opens is closes =
    let n = stands_name inside (name, named) is in
    let s = stands_spaces named in (
      codes "</" ++ (name ++ (s.0 ++ codes ">")),
      record { spaces = s.0; whole = refl; name_is = n.0; spaced = s.1 },
      stands_then (codes "</") (name ++ (s.0 ++ codes ">")) place inside end (stands_expected (codes "</") place inside opens)
          (stands_then name (s.0 ++ codes ">") inside named end n.1
          (stands_then s.0 (codes ">") named (after_spaces named) end s.2 (stands_expected (codes ">") (after_spaces named) end closes))),
    )

-- a part of the declaration
stands_declared : (word : List ℕ) (values : List (List ℕ)) (place end : Place) → declared_at word values place ≡ Ok end
    → (text : List ℕ) × SpellsDeclared word values text × Stands text place end
unfolding declared_at
stands_declared word values place end h =
    let a = bind_ok (spaced_at place) _ end h in
    let w = bind_ok (expected_at word a.0) _ end a.2 in
    let e = bind_ok (equals_at w.0) _ end w.2 in
    let q = bind_ok (quoted_at e.0) _ end e.2 in
    let c = chosen_else (is_one_of values q.0.0) _ _ end q.2 in
    let s = stands_spaced place a.0 a.1 in
    let l = stands_equals w.0 e.0 e.1 in
    let v = stands_quoted e.0 q.0 q.1 in
    let all = stands_then s.0 (word ++ (l.0 ++ v.0)) place a.0 q.0.1 s.3
    (stands_then word (l.0 ++ v.0) a.0 w.0 q.0.1 (stands_expected word a.0 w.0 w.1) (stands_then l.0 v.0 w.0 e.0 q.0.1 l.2 v.2)) in (
      s.0 ++ (word ++ (l.0 ++ v.0)),
      record {
        spaces = s.0;
        equals = l.0;
        value = v.0;
        inner = q.0.0;
        whole = refl;
        spaced = (s.1, s.2);
        equals_is = l.1;
        value_is = v.1;
        known = c.0;
      },
      subst (λ (at : Place). Stands (s.0 ++ (word ++ (l.0 ++ v.0))) place at) (ok_is _ end c.1) all,
    )

stands_none : (place : Place) → Stands [] place place
stands_none place = record { parts = refl; lines = omega arith }

-- the encoding
stands_encoding : (place end : Place) → encoding_at place ≡ Ok end
    → (text : List ℕ) × ((text ≡ []) ⊎ SpellsDeclared (codes "encoding") encodings text) × Stands text place end
unfolding encoding_at
stands_encoding place end h = by_test (begins_with (after_spaces place).rest (codes "encoding")) h
  where
    by_test : (b : Bool) → cond b (declared_at (codes "encoding") encodings place) (Ok place) ≡ Ok end
        → (text : List ℕ) × ((text ≡ []) ⊎ SpellsDeclared (codes "encoding") encodings text) × Stands text place end
    by_test true h = let d = stands_declared (codes "encoding") encodings place end h in (d.0, inr d.1, d.2)
    by_test false h = ([], inl refl, subst (λ (at : Place). Stands [] place at) (ok_is place end h) (stands_none place))

-- the declaration, if there is one
pub stands_declaration : (place end : Place) → declaration_at place ≡ Ok end
    → (text : List ℕ) × ((text ≡ []) ⊎ SpellsDeclaration text) × Stands text place end
unfolding declaration_at
stands_declaration place end h = by_test (begins_with place.rest (codes "<?xml")) refl h
  where
    by_test : (b : Bool) → begins_with place.rest (codes "<?xml") ≡ b
        → cond b
        (bind (declared_at (codes "version") (codes "1.0" ∷ []) (after 5 place))
        (λ version. bind (encoding_at version) (λ encoding. expected_at (codes "?>") (after_spaces encoding))))
        (Ok place)
        ≡ Ok end
        → (text : List ℕ) × ((text ≡ []) ⊎ SpellsDeclaration text) × Stands text place end
    by_test false e h = ([], inl refl, subst (λ (at : Place). Stands [] place at) (ok_is place end h) (stands_none place))
    by_test true e h =
        let v = bind_ok (declared_at (codes "version") (codes "1.0" ∷ []) (after 5 place)) _ end h in
        let n = bind_ok (encoding_at v.0) _ end v.2 in
        let word : take 5 place.rest ≡ codes "<?xml" = (bytes_eq-Decides (take 5 place.rest) (codes "<?xml")).0 e in
        let w : Stands (codes "<?xml") place (after 5 place) =
        subst (λ (t : List ℕ). Stands t place (after 5 place)) word (stands_after 5 place) in
        let d = stands_declared (codes "version") (codes "1.0" ∷ []) (after 5 place) v.0 v.1 in
        let c = stands_encoding v.0 n.0 n.1 in
        let s = stands_spaces n.0 in (
          codes "<?xml" ++ (d.0 ++ (c.0 ++ (s.0 ++ codes "?>"))),
          inr
              (record {
                version = d.0;
                encoding = c.0;
                spaces = s.0;
                whole = refl;
                version_is = d.1;
                encoding_is = c.1;
                spaced = s.1;
              }),
          stands_then (codes "<?xml") (d.0 ++ (c.0 ++ (s.0 ++ codes "?>"))) place (after 5 place) end w
              (stands_then d.0 (c.0 ++ (s.0 ++ codes "?>")) (after 5 place) v.0 end d.2
              (stands_then c.0 (s.0 ++ codes "?>") v.0 n.0 end c.2
              (stands_then s.0 (codes "?>") n.0 (after_spaces n.0) end s.2 (stands_expected (codes "?>") (after_spaces n.0) end n.2)))),
        )
