-- Lists of numbered values with names: how they grow by one, and end.
use Rattle.std.{specs.List.{enumerate_from, zip}, proofs.Common.{ℕ, ◌++◌, ◌+◌, ◌<◌, ◌∙◌, ◌≡◌, ◌≤◌, List, ap, arith, get_or, length}}
use Rattle.std.proofs.{Common.{map, sym, take}, lemmas.List.{FromFn.{get_or-enumerate_from, length-enumerate_from}, take_all}}
use Rattle.{std.proofs.lemmas.Slice.Zip.{get_or-zip, length-zip}, words.specs.Text.{line_text, text_of}, captext.proofs.Written.line_more}

module _ {X Y : Type 0} (f : ℕ × (X × Y) → List (List ℕ)) (xs : List X) (ys : List Y) (each : length xs ≡ length ys) where
  count : length (enumerate_from 0 (zip xs ys)) ≡ length ys
  count = length-enumerate_from 0 (zip xs ys) ∙ length-zip xs ys ∙ omega (arith, each)

  pub more : (i : ℕ) (x : X) (y : Y) (before text longer : List ℕ) → i < length ys → y ≡ get_or ys i y
      → text ≡ before ++ text_of (map f (take i (enumerate_from 0 (zip xs ys)))) → longer ≡ text ++ line_text (f (i, (get_or xs i x, y)))
      → longer ≡ before ++ text_of (map f (take (i + 1) (enumerate_from 0 (zip xs ys))))
  more i x y before text longer within is so_far grown =
      let first : i < length xs = omega (arith, each) in
      let both : i < length (zip xs ys) = omega (arith, length-zip xs ys, each) in
      let here : (0 + i, get_or (zip xs ys) i (x, y)) ≡ get_or (enumerate_from 0 (zip xs ys)) i (i, (x, y)) =
      sym (get_or-enumerate_from 0 (zip xs ys) i (i, (x, y)) both) in
      let number : i ≡ 0 + i = omega arith in
      let named : (get_or xs i x, y) ≡ get_or (zip xs ys) i (x, y) =
      ap (λ v. (get_or xs i x, v)) is ∙ sym (get_or-zip xs ys i (x, y) first within) in
      let entry : (i, (get_or xs i x, y)) ≡ get_or (enumerate_from 0 (zip xs ys)) i (i, (x, y)) =
      ap (λ v. (i, v)) named ∙ ap (λ n. (n, get_or (zip xs ys) i (x, y))) number ∙ here in
      line_more f (enumerate_from 0 (zip xs ys)) i (i, (x, y)) before text longer (omega (arith, count)) so_far
      (grown ∙ ap (λ e. text ++ line_text (f e)) entry)

  pub all : (i : ℕ) (before text : List ℕ) → length ys ≤ i
      → text ≡ before ++ text_of (map f (take i (enumerate_from 0 (zip xs ys)))) → text ≡ before ++ text_of (map f (enumerate_from 0 (zip xs ys)))
  all i before text past written =
      written ∙ ap (λ list. before ++ text_of (map f list)) (take_all i (enumerate_from 0 (zip xs ys)) (omega (arith, count)))
