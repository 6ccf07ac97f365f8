-- A set to which one kind was added: it has that kind, and of the others those that it had.
use Rattle.std.proofs.Common.{ℕ, ◌&&◌, ◌+◌, ◌<◌, ◌==◌, ◌∙◌, ◌≡◌, ◌≢◌, Bool, ap, arith, bit_or, false, get_or, inl, inr, nat_lt, refl}
use Rattle.std.proofs.{Common.{sym, true, zero-add}, lemmas.Bool.{eq-eqb, le-ltb, lt-ltb, Decides.{eqb_tells, nat_tests}}}
use Rattle.std.proofs.lemmas.{List.{get_or-map, FromFn.get_or-range_with_len}, Nat.{and_or_apart, and_or_self, or_lt, pow_apart, pow_below}}
use Rattle.base.specs.{declared.kind.{Kind.Kind, TheConstants.Kind.ALL}, Kinds.{is_among, kind_bit, kind_number}}
use Rattle.machine.{specs.Capabilities.gives, proofs.cap.Cap.kinds.Goals.{else-gives, then-gives}}
use Rattle.machine.proofs.cap.Cap.kinds.Goals as goal

number_at : (i : ℕ) (d : Kind) → i < 17 → kind_number (get_or ALL i d) ≡ i
number_at i d small = sym (get_or-map kind_number ALL i d 0 small) ∙ get_or-range_with_len 0 17 i 0 small ∙ zero-add i

alike : (a i : ℕ) → i ≢ a → nat_lt a (i + 1) ≡ nat_lt a i
alike a i apart = grind (arith, nat_tests)

-- the kinds below `i + 1` are kind `i` and those below it
one_more : (given : Kind → Bool) (i set new : ℕ) (x : Kind) → kind_number x ≡ i
    → ((one other : Kind) → kind_number one ≡ kind_number other → one ≡ other)
    → ((kind : Kind) → is_among set kind ≡ (nat_lt (kind_number kind) i && given kind))
    → is_among new x ≡ given x
    → ((kind : Kind) → kind_number x ≢ kind_number kind → is_among new kind ≡ is_among set kind)
    → (kind : Kind) → is_among new kind ≡ (nat_lt (kind_number kind) (i + 1) && given kind)
one_more given i set new x at once before here others kind =
    elim (eqb_tells (kind_number x) (kind_number kind)) [
      | inl same ↦
          let is : x ≡ kind = once x kind same.1 in
          let in_range : nat_lt (kind_number kind) (i + 1) ≡ true = lt-ltb (kind_number kind) (i + 1) (omega arith) in
          ap (λ (k : Kind). is_among new k) (sym is) ∙ here ∙ ap given is ∙ ap (λ (b : Bool). b && given kind) (sym in_range)
      | inr apart ↦
          others kind apart.1 ∙ before kind
          ∙ ap (λ (b : Bool). b && given kind) (sym (alike (kind_number kind) i (rw (← at) apart.1)))
    ]

taken : (given : Kind → Bool) (i set new : ℕ) (x : Kind) (is : Bool) → kind_number x ≡ i
    → ((one other : Kind) → kind_number one ≡ kind_number other → one ≡ other)
    → ((kind : Kind) → is_among set kind ≡ (nat_lt (kind_number kind) i && given kind))
    → is ≡ given x → is ≡ true → new ≡ bit_or set (kind_bit x)
    → (kind : Kind) → is_among new kind ≡ (nat_lt (kind_number kind) (i + 1) && given kind)
taken given i set new x is at once before tested holds grown =
    one_more given i set new x at once before
    (rw grown (eq-eqb _ _ (and_or_self (kind_bit x) set) ∙ sym holds ∙ tested))
    (λ kind apart. rw grown (ap (λ n. n == kind_bit kind) (and_or_apart (kind_bit kind) set (kind_bit x)
    (pow_apart (kind_number x) (kind_number kind) apart))))

left : (given : Kind → Bool) (i set : ℕ) (x : Kind) (is : Bool) → kind_number x ≡ i
    → ((one other : Kind) → kind_number one ≡ kind_number other → one ≡ other)
    → ((kind : Kind) → is_among set kind ≡ (nat_lt (kind_number kind) i && given kind))
    → is ≡ given x → is ≡ false
    → (kind : Kind) → is_among set kind ≡ (nat_lt (kind_number kind) (i + 1) && given kind)
left given i set x is at once before tested fails =
    one_more given i set set x at once before
    (before x ∙ ap (λ (b : Bool). b && given x) (le-ltb (kind_number x) i (omega arith)) ∙ sym fails ∙ tested)
    (λ kind apart. refl)

pub loop-kind-preserved : goal.loop-kind-preserved
loop-kind-preserved c =
    let names = c.kind_names_are_read_back.ensures in
    let i = c.loop-kind.kind-index in
    elim c.if-gives.branch [
      | then-gives w ↦ record {
        each = rw w.kinds-is (taken (gives c.args.self.now.detail) i c.loop-kind.kinds.0 w.insert.new.self.0 (get_or ALL i _) c.gives.result
            (number_at i _ c.loop-kind-test.true) names.number_once c.loop-kind.invariant.each c.gives.ensures w.if-gives.true (w.insert.ensures tt ∙ ap (λ n. bit_or c.loop-kind.kinds.0 n) w.from.ensures));
        alone = rw (w.kinds-is, w.insert.ensures tt) (or_lt 17 c.loop-kind.kinds.0 w.from.result.0 c.loop-kind.invariant.alone
            (rw w.from.ensures (pow_below _ 17 (names.number_below _))));
      }
      | else-gives w ↦ record {
        each = rw w.kinds-is (left (gives c.args.self.now.detail) i c.loop-kind.kinds.0 (get_or ALL i _) c.gives.result
            (number_at i _ c.loop-kind-test.true) names.number_once c.loop-kind.invariant.each c.gives.ensures w.if-gives.false);
        alone = rw w.kinds-is c.loop-kind.invariant.alone;
      }
    ]
