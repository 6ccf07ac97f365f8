-- Stages of the search for sets: which labels can complete a set, and the sets with the first of them before those without it.
use Rattle.std.proofs.Common.{ℕ, ◌&&◌, ◌++◌, ◌+◌, ◌-◌, ◌<◌, ◌==◌, ◌||◌, ◌∙◌, ◌≡◌, ◌≢◌, ◌≤◌, ◌⊎◌}
use Rattle.std.proofs.Common.{Bool, List, ap, arith, false, inl, inr, not, refl, subst, sym, true}
use Rattle.std.proofs.lemmas.Bool.{and_from, and_parts, cases_lt, eq-eqb, eqb-true, false≢true, or_cases, or_left, or_right}
use Rattle.{std.proofs.lemmas.List.append_assoc, base.specs.{declared.labels.Labels.Labels, Labels.is_in}}
use Rattle.flows.specs.{declared.searching.Stage.Stage, Sets.{HasSameLabels, Precedes, count_below, size_of}, Stages.{AreAdded, AreBetween}}
use Rattle.flows.{specs.{Stages.{AreUseful, Completes, IsStage}, Ways.Way}, proofs.Counting.{count_none, count_only, count_or, count_part}}
use Rattle.flows.proofs.{Counting.count_whole, Ordering.{first_of_both, first_of_fore}}
use Rattle.base.specs.declared.label.TheConstants.Label as Label

module _ (rows : List Labels) (from to : ℕ) (stage : Stage) where
  -- of a set and the labels of ways: how many are in both
  abbrev shared : Labels → Labels → ℕ
  shared set packed = count_below (λ l. is_in set l && is_in packed l) Label.COUNT

  -- what is chosen, with the labels of so many ways that have none in common: a set that completes the stage has a label of each
  pub record ArePacked (packed : Labels) (count : ℕ) : Type 0 where
    pub has : (l : ℕ) → is_in stage.chosen l ≡ true → is_in packed l ≡ true
    pub not_from : is_in packed from ≡ false
    pub not_to : is_in packed to ≡ false
    pub hits : (set : Labels) → Completes rows from to stage set → size_of stage.chosen + count ≤ shared set packed
    pub first : count ≡ 0 → packed ≡ stage.chosen

module _ (rows : List Labels) (from to : ℕ) (stage : Stage) (is : IsStage from to stage) where
  few : (set : Labels) → Completes rows from to stage set → (l : ℕ) → is_in set l ≡ true → l < Label.COUNT
  few set completes l has = elim (completes.within l has) [
    | inl chosen ↦ is.chosen_few l chosen
    | inr allowed ↦ is.allowed_few l allowed
  ]

  module _ (packed : Labels) (count : ℕ) (are : ArePacked rows from to stage packed count) where
    -- a set that has no label of a way beside these leaves it
    hit : (between : Labels) → AreBetween rows (is_in packed) from to between → (set : Labels) → Completes rows from to stage set
        → 1 ≤ shared rows from to stage set between
    hit between way set completes = by (cases_lt (shared rows from to stage set between) 1) where
      apart : shared rows from to stage set between < 1 → (l : ℕ) → is_in between l ≡ true → (b : Bool) → is_in set l ≡ b → is_in set l ≡ false
      apart none l there false lacks = lacks
      apart none l there true has =
          absurd (false≢true (sym (count_none (λ k. is_in set k && is_in between k) Label.COUNT (omega (arith, none)) l (few set completes l has))
          ∙ and_from (is_in set l) (is_in between l) has there))

      by : (shared rows from to stage set between < 1) ⊎ (1 ≤ shared rows from to stage set between) → 1 ≤ shared rows from to stage set between
      by (inr some) = some
      by (inl none) = absurd (completes.cuts (way.leads (is_in set) (λ l there. apart none l there (is_in set l) refl)))

    pub more_packed : (between : Labels) → AreBetween rows (is_in packed) from to between → (grown : Labels)
        → ((l : ℕ) → is_in grown l ≡ (is_in packed l || is_in between l)) → ArePacked rows from to stage grown (count + 1)
    more_packed between way grown grown_is = record {
      has = λ l there. grown_is l ∙ or_left (is_in packed l) (is_in between l) (are.has l there);
      not_from = grown_is from ∙ ap (λ b. b || is_in between from) are.not_from ∙ way.not_from;
      not_to = grown_is to ∙ ap (λ b. b || is_in between to) are.not_to ∙ way.not_to;
      hits = λ set completes.
          let sum = count_or (λ l. is_in set l && is_in packed l) (λ l. is_in set l && is_in between l) (λ l. is_in set l && is_in grown l)
          (λ l. ap (λ b. is_in set l && b) (grown_is l) ∙ spread (is_in set l) (is_in packed l) (is_in between l))
          (λ l both. apart set l (and_parts (is_in set l) (is_in packed l) both).1) Label.COUNT in
          omega (arith, sum, are.hits set completes, hit between way set completes);
      first = λ none. absurd (omega (arith, none));
    } where
      spread : (b c d : Bool) → (b && (c || d)) ≡ ((b && c) || (b && d))
      spread true c d = refl
      spread false c d = refl

      never : (b : Bool) → (b && false) ≡ false
      never true = refl
      never false = refl

      apart : (set : Labels) (l : ℕ) → is_in packed l ≡ true → (is_in set l && is_in between l) ≡ false
      apart set l there = by (is_in between l) refl where
        by : (b : Bool) → is_in between l ≡ b → (is_in set l && is_in between l) ≡ false
        by true has = absurd (false≢true (sym (way.beside l has) ∙ there))
        by false lacks = ap (λ b. is_in set l && b) lacks ∙ never (is_in set l)

    -- no set completes the stage if a way has no label that may be chosen
    pub none_chosen : (between : Labels) → AreBetween rows (is_in packed) from to between
        → ((l : ℕ) → (is_in between l && is_in stage.allowed l) ≡ false) → (set : Labels) → ¬ Completes rows from to stage set
    none_chosen between way none set completes = completes.cuts (way.leads (is_in set) (λ l there. by l there (is_in set l) refl)) where
      by : (l : ℕ) → is_in between l ≡ true → (b : Bool) → is_in set l ≡ b → is_in set l ≡ false
      by l there false lacks = lacks
      by l there true has = elim (completes.within l has) [
        | inl chosen ↦ absurd (false≢true (sym (way.beside l there) ∙ are.has l chosen))
        | inr allowed ↦ absurd (false≢true (sym (none l) ∙ and_from (is_in between l) (is_in stage.allowed l) there allowed))
      ]

  -- as many ways as labels are still to be chosen, and one more: too many
  pub too_many : (packed : Labels) → ArePacked rows from to stage packed stage.room → (between : Labels) → AreBetween rows (is_in packed) from to between → (set : Labels)
      → ¬ Completes rows from to stage set
  too_many packed are between way set completes =
      let one = hit packed stage.room are between way set completes in
      let sum = count_or (λ l. is_in set l && is_in packed l) (λ l. is_in set l && is_in between l)
      (λ l. (is_in set l && is_in packed l) || (is_in set l && is_in between l)) (λ l. refl) (λ l both. apart l (and_parts (is_in set l) (is_in packed l) both).1)
      Label.COUNT in
      let most = count_part (λ l. (is_in set l && is_in packed l) || (is_in set l && is_in between l)) (is_in set) in_set Label.COUNT in
      absurd (omega (arith, one, sum, most, are.hits set completes, completes.size)) where
        in_set : (l : ℕ) → ((is_in set l && is_in packed l) || (is_in set l && is_in between l)) ≡ true → is_in set l ≡ true
        in_set l there = elim (or_cases (is_in set l && is_in packed l) (is_in set l && is_in between l) there) [
          | inl first ↦ (and_parts (is_in set l) (is_in packed l) first).0
          | inr second ↦ (and_parts (is_in set l) (is_in between l) second).0
        ]

        never : (b : Bool) → (b && false) ≡ false
        never true = refl
        never false = refl

        apart : (l : ℕ) → is_in packed l ≡ true → (is_in set l && is_in between l) ≡ false
        apart l there = by (is_in between l) refl where
          by : (b : Bool) → is_in between l ≡ b → (is_in set l && is_in between l) ≡ false
          by true has = absurd (false≢true (sym (way.beside l has) ∙ there))
          by false lacks = ap (λ b. is_in set l && b) lacks ∙ never (is_in set l)

  -- as many, and no further way: a set has its labels on these alone
  pub all_packed : (packed : Labels) → ArePacked rows from to stage packed stage.room → ¬ Way rows (is_in packed) from to → (useful : Labels)
      → ((l : ℕ) → is_in useful l ≡ (is_in stage.allowed l && is_in packed l)) → AreUseful rows from to stage useful
  all_packed packed are none useful useful_is = record {
    among = λ l there. (and_parts (is_in stage.allowed l) (is_in packed l) (sym (useful_is l) ∙ there)).0;
    enough = λ set completes l has. elim (completes.within l has) [
      | inl chosen ↦ inl chosen
      | inr allowed ↦
          inr (useful_is l
          ∙ and_from (is_in stage.allowed l) (is_in packed l) allowed
          (and_parts (is_in set l) (is_in packed l)
          (count_whole (λ k. is_in set k && is_in packed k) (is_in set) (λ k both. (and_parts (is_in set k) (is_in packed k) both).0) Label.COUNT
          (omega (arith, are.hits set completes, completes.size)) l (few set completes l has) has)).1)
    ];
    done = λ nothing way. none (subst (λ p. Way rows (is_in p) from to) (sym (are.first nothing)) way);
  }

-- whether two labels are one, as a fact
same_or_not : (l f : ℕ) → (l ≡ f) ⊎ (not (l == f) ≡ true)
same_or_not l f = by (l == f) refl where
  by : (b : Bool) → (l == f) ≡ b → (l ≡ f) ⊎ (not (l == f) ≡ true)
  by true is = inl (eqb-true l f is)
  by false is = inr (ap not is)

alike : (b c : Bool) → (b ≡ true → c ≡ true) → (c ≡ true → b ≡ true) → b ≡ c
alike true c to back = sym (to refl)
alike false true to back = absurd (false≢true (back refl))
alike false false to back = refl

module _ (rows : List Labels) (from to : ℕ) (stage : Stage) (is : IsStage from to stage) (useful : Labels)
    (are : AreUseful rows from to stage useful)
  where
    -- no label can complete a set, and some are still to be chosen
    pub none_useful : stage.room ≢ 0 → ((l : ℕ) → is_in useful l ≡ false) → (set : Labels) → ¬ Completes rows from to stage set
    none_useful some none set completes =
        some (omega (arith, count_part (is_in set) (is_in stage.chosen) chosen Label.COUNT, completes.size)) where
          chosen : (l : ℕ) → is_in set l ≡ true → is_in stage.chosen l ≡ true
          chosen l has = elim (are.enough set completes l has) [
            | inl there ↦ there
            | inr other ↦ absurd (false≢true (sym (none l) ∙ other))
          ]

    -- no more are to be chosen: what is chosen is the one set
    pub chosen_completes : stage.room ≡ 0 → Completes rows from to stage stage.chosen
    chosen_completes nothing = record {
      has = λ l there. there;
      within = λ l there. inl there;
      size = omega (arith, nothing);
      cuts = are.done nothing;
    }

    pub chosen_alone : stage.room ≡ 0 → (set : Labels) → Completes rows from to stage set → HasSameLabels stage.chosen set
    chosen_alone nothing set completes l = alike (is_in stage.chosen l) (is_in set l) (completes.has l)
        (λ has. count_whole (is_in stage.chosen) (is_in set) completes.has Label.COUNT (omega (arith, completes.size, nothing)) l (few rows from to stage is set completes l has) has)

    -- the first label that can complete one is chosen, or left out
    module _ (first : ℕ) (among : is_in useful first ≡ true) (least : (l : ℕ) → l < first → is_in useful l ≡ false) (rest : Labels)
        (rest_is : (l : ℕ) → is_in rest l ≡ (is_in useful l && not (l == first))) (taken : Labels)
        (taken_is : (l : ℕ) → is_in taken l ≡ (is_in stage.chosen l || (l == first))) (fewer : ℕ) (room_is : stage.room ≡ fewer + 1)
      where
        abbrev with_first : Stage
        with_first = record { chosen = taken; allowed = rest; room = fewer }

        abbrev without_first : Stage
        without_first = record { chosen = stage.chosen; allowed = rest; room = stage.room }

        in_rest : (l : ℕ) → is_in rest l ≡ true → (is_in useful l ≡ true) × (not (l == first) ≡ true)
        in_rest l there = and_parts (is_in useful l) (not (l == first)) (sym (rest_is l) ∙ there)

        to_rest : (l : ℕ) → is_in useful l ≡ true → not (l == first) ≡ true → is_in rest l ≡ true
        to_rest l there other = rest_is l ∙ and_from (is_in useful l) (not (l == first)) there other

        rest_allowed : (l : ℕ) → is_in rest l ≡ true → is_in stage.allowed l ≡ true
        rest_allowed l there = are.among l (in_rest l there).0

        not_in_rest : (l : ℕ) → is_in stage.allowed l ≡ false → is_in rest l ≡ false
        not_in_rest l lacks = by (is_in rest l) refl where
          by : (b : Bool) → is_in rest l ≡ b → is_in rest l ≡ false
          by true there = absurd (false≢true (sym lacks ∙ rest_allowed l there))
          by false out = out

        kept : (l : ℕ) → is_in stage.chosen l ≡ true → is_in taken l ≡ true
        kept l there = taken_is l ∙ or_left (is_in stage.chosen l) (l == first) there

        takes_first : is_in taken first ≡ true
        takes_first = taken_is first ∙ or_right (is_in stage.chosen first) (first == first) (eq-eqb first first refl)

        in_taken : (l : ℕ) → is_in taken l ≡ true → (is_in stage.chosen l ≡ true) ⊎ (l ≡ first)
        in_taken l there = elim (or_cases (is_in stage.chosen l) (l == first) (sym (taken_is l) ∙ there)) [
          | inl chosen ↦ inl chosen
          | inr same ↦ inr (eqb-true l first same)
        ]

        not_taken : (l : ℕ) → is_in stage.chosen l ≡ false → is_in stage.allowed l ≡ false → is_in taken l ≡ false
        not_taken l out lacks = by (is_in taken l) refl where
          by : (b : Bool) → is_in taken l ≡ b → is_in taken l ≡ false
          by false is = is
          by true there = elim (in_taken l there) [
            | inl chosen ↦ absurd (false≢true (sym out ∙ chosen))
            | inr same ↦ absurd (false≢true (sym lacks ∙ ap (is_in stage.allowed) same ∙ are.among first among))
          ]

        pub is_with : IsStage from to with_first
        is_with = record {
          differ = is.differ;
          apart = λ l there. taken_is l ∙ both (is.apart l (rest_allowed l there)) (unnot (l == first) (in_rest l there).1);
          chosen_from = not_taken from is.chosen_from is.allowed_from;
          chosen_to = not_taken to is.chosen_to is.allowed_to;
          allowed_from = not_in_rest from is.allowed_from;
          allowed_to = not_in_rest to is.allowed_to;
          chosen_few = λ l there. elim (in_taken l there) [
            | inl chosen ↦ is.chosen_few l chosen
            | inr same ↦ subst (λ n. n < Label.COUNT) (sym same) (is.allowed_few first (are.among first among))
          ];
          allowed_few = λ l there. is.allowed_few l (rest_allowed l there);
        } where
          both : {b c : Bool} → b ≡ false → c ≡ false → (b || c) ≡ false
          both {b} {c} out neither = ap (λ d. d || c) out ∙ neither

          unnot : (b : Bool) → not b ≡ true → b ≡ false
          unnot true is = sym is
          unnot false is = refl

        pub is_without : IsStage from to without_first
        is_without = record {
          differ = is.differ;
          apart = λ l there. is.apart l (rest_allowed l there);
          chosen_from = is.chosen_from;
          chosen_to = is.chosen_to;
          allowed_from = not_in_rest from is.allowed_from;
          allowed_to = not_in_rest to is.allowed_to;
          chosen_few = is.chosen_few;
          allowed_few = λ l there. is.allowed_few l (rest_allowed l there);
        }

        one_more : size_of taken ≡ size_of stage.chosen + 1
        one_more =
            let sum = count_or (is_in stage.chosen) (λ l. l == first) (is_in taken) taken_is differs Label.COUNT in
            let one = count_only (λ l. l == first) first (λ l. refl) Label.COUNT (is.allowed_few first (are.among first among)) in
            omega (arith, sum, one) where
              differs : (l : ℕ) → is_in stage.chosen l ≡ true → (l == first) ≡ false
              differs l chosen = by (l == first) refl where
                by : (b : Bool) → (l == first) ≡ b → (l == first) ≡ false
                by false other = other
                by true same =
                    absurd (false≢true (sym (is.apart first (are.among first among)) ∙ ap (is_in stage.chosen) (sym (eqb-true l first same)) ∙ chosen))

        rest_differs : (l : ℕ) → is_in rest l ≡ true → (l == first) ≡ false
        rest_differs l there = by (l == first) refl where
          by : (b : Bool) → (l == first) ≡ b → (l == first) ≡ false
          by false other = other
          by true same = absurd (false≢true (sym (ap not same) ∙ (in_rest l there).1))

        rest_or_first : (l : ℕ) → (is_in rest l || (l == first)) ≡ true → is_in stage.allowed l ≡ true
        rest_or_first l there = elim (or_cases (is_in rest l) (l == first) there) [
          | inl other ↦ rest_allowed l other
          | inr same ↦ ap (is_in stage.allowed) (eqb-true l first same) ∙ are.among first among
        ]

        -- the rest has fewer labels
        pub fewer_allowed : count_below (is_in rest) Label.COUNT < count_below (is_in stage.allowed) Label.COUNT
        fewer_allowed =
            let sum = count_or (is_in rest) (λ l. l == first) (λ l. is_in rest l || (l == first)) (λ l. refl) rest_differs Label.COUNT in
            let one = count_only (λ l. l == first) first (λ l. refl) Label.COUNT (is.allowed_few first (are.among first among)) in
            let most = count_part (λ l. is_in rest l || (l == first)) (is_in stage.allowed) rest_or_first Label.COUNT in
            omega (arith, sum, one, most)

        completes_with : (set : Labels) → Completes rows from to with_first set → Completes rows from to stage set
        completes_with set completes = record {
          has = λ l there. completes.has l (kept l there);
          within = λ l has. elim (completes.within l has) [
            | inr other ↦ inr (rest_allowed l other)
            | inl there ↦ elim (in_taken l there) [
              | inl chosen ↦ inl chosen
              | inr same ↦ inr (ap (is_in stage.allowed) same ∙ are.among first among)
            ]
          ];
          size = omega (arith, completes.size, one_more, room_is);
          cuts = completes.cuts;
        }

        completes_without : (set : Labels) → Completes rows from to without_first set → Completes rows from to stage set
        completes_without set completes = record {
          has = completes.has;
          within = λ l has. elim (completes.within l has) [
            | inr other ↦ inr (rest_allowed l other)
            | inl there ↦ inl there
          ];
          size = completes.size;
          cuts = completes.cuts;
        }

        either : (set : Labels) → Completes rows from to stage set → Completes rows from to with_first set ⊎ Completes rows from to without_first set
        either set completes = by (is_in set first) refl where
          by : (b : Bool) → is_in set first ≡ b → Completes rows from to with_first set ⊎ Completes rows from to without_first set
          by true has_first = inl (record {
            has = λ l there. elim (in_taken l there) [
              | inl chosen ↦ completes.has l chosen
              | inr same ↦ ap (is_in set) same ∙ has_first
            ];
            within = λ l has. elim (are.enough set completes l has) [
              | inl chosen ↦ inl (kept l chosen)
              | inr other ↦ elim (same_or_not l first) [
                | inl same ↦ inl (ap (is_in taken) same ∙ takes_first)
                | inr differs ↦ inr (to_rest l other differs)
              ]
            ];
            size = omega (arith, completes.size, one_more, room_is);
            cuts = completes.cuts;
          })
          by false lacks_first = inr (record {
            has = completes.has;
            within = λ l has. elim (are.enough set completes l has) [
              | inl chosen ↦ inl chosen
              | inr other ↦ elim (same_or_not l first) [
                | inl same ↦ absurd (false≢true (sym lacks_first ∙ ap (is_in set) (sym same) ∙ has))
                | inr differs ↦ inr (to_rest l other differs)
              ]
            ];
            size = completes.size;
            cuts = completes.cuts;
          })

        in_order : (s t : Labels) → Completes rows from to with_first s → Completes rows from to without_first t → Precedes s t
        in_order s t with_it without_it = record {
          at = first;
          has = with_it.has first takes_first;
          lacks = by (is_in t first) refl;
          before = λ l less. alike (is_in s l) (is_in t l) (λ has. without_it.has l (of_with l less (with_it.within l has)))
              (λ has. with_it.has l (kept l (of_without l less (without_it.within l has))));
        } where
          out_of_rest : {l : ℕ} → l < first → is_in rest l ≡ true → ⊥
          out_of_rest {l} less there = false≢true (sym (least l less) ∙ (in_rest l there).0)

          of_with : (l : ℕ) → l < first → (is_in taken l ≡ true) ⊎ (is_in rest l ≡ true) → is_in stage.chosen l ≡ true
          of_with l less (inr other) = absurd (out_of_rest less other)
          of_with l less (inl there) = elim (in_taken l there) [
            | inl chosen ↦ chosen
            | inr same ↦ absurd (omega (arith, less, same))
          ]

          of_without : (l : ℕ) → l < first → (is_in stage.chosen l ≡ true) ⊎ (is_in rest l ≡ true) → is_in stage.chosen l ≡ true
          of_without l less (inr other) = absurd (out_of_rest less other)
          of_without l less (inl there) = there

          never : (is_in stage.chosen first ≡ true) ⊎ (is_in rest first ≡ true) → ⊥
          never (inl chosen) = false≢true (sym (is.apart first (are.among first among)) ∙ chosen)
          never (inr other) = false≢true (sym (ap not (eq-eqb first first refl)) ∙ (in_rest first other).1)

          by : (b : Bool) → is_in t first ≡ b → is_in t first ≡ false
          by false lacks = lacks
          by true has = absurd (never (without_it.within first has))

        -- the sets with it are the first of all, or all of them are there and those without it come behind
        module _ (old mid : List Labels) (most : ℕ) where
          pub added_some : AreAdded (Completes rows from to with_first) old mid most false → AreAdded (Completes rows from to stage) old mid most false
          added_some added = record {
            more = added.more;
            is = added.is;
            first = first_of_fore (Completes rows from to stage) (Completes rows from to with_first) (Completes rows from to without_first)
                completes_with completes_without either in_order added.more added.first;
            few = added.few;
            full = added.full;
          }

          pub added_all : (new : List Labels) (all : Bool) → AreAdded (Completes rows from to with_first) old mid most true
              → AreAdded (Completes rows from to without_first) mid new most all → AreAdded (Completes rows from to stage) old new most all
          added_all new all fore hind = record {
            more = fore.more ++ hind.more;
            is = hind.is ∙ ap (λ m. m ++ hind.more) fore.is ∙ append_assoc old fore.more hind.more;
            first = first_of_both (Completes rows from to stage) (Completes rows from to with_first) (Completes rows from to without_first)
                completes_with completes_without either in_order fore.more hind.more fore.first hind.first;
            few = hind.few;
            full = hind.full;
          }
