-- Each turn writes one name more, after a comma, but for the first.
use Rattle.std.proofs.Common.{[], ◌++◌, ◌+◌, ◌∙◌, ◌∷◌, ◌≡◌, Bool, ap, cond, false, filter, get_or, map, string_bytes, sym, take, true}
use Rattle.std.proofs.lemmas.List.{append-nil, map-append, Elements.filter_more}
use Rattle.base.specs.{declared.kind.{Kind.TheVariants.Control, TheConstants.Kind.ALL}, Kinds.{is_among, kind_name}}
use Rattle.certificate.proofs.{KindWords.{name_written, same_written, separator_is_text}, kinds.kinds_string.Goals.else-has}
use Rattle.certificate.proofs.kinds.kinds_string.Goals.{then-has+in_ok-write}
use Rattle.certificate.proofs.kinds.kinds_string.Goals as goal

pub fact_in-write : goal.fact_in-write
fact_in-write c = separator_is_text _ _ c.loop-kind.invariant.1

pub loop-kind-preserved : goal.loop-kind-preserved
loop-kind-preserved c =
    let set = c.args.kinds.0 in
    let i = c.loop-kind.kind-index in
    let more : (test : Bool) → is_among set (get_or ALL i Control) ≡ test
    → map kind_name (filter (is_among set) (take (i + 1) ALL))
    ≡ map kind_name (filter (is_among set) (take i ALL)) ++ map kind_name (cond test (get_or ALL i Control ∷ []) []) =
    λ test is.
    ap (map kind_name) (filter_more (is_among set) ALL i Control c.loop-kind-test.true
    ∙ ap (λ b. filter (is_among set) (take i ALL) ++ cond b (get_or ALL i Control ∷ []) []) is)
    ∙ map-append kind_name (filter (is_among set) (take i ALL)) (cond test (get_or ALL i Control ∷ []) []) in
    elim c.if-has.branch [
      | then-has+in_ok-write w ↦ name_written _ _ _ _ _ _ _
          (more true (sym c.has.ensures ∙ w.if-has.true)) c.loop-kind.invariant
          (ap string_bytes w.text-is ∙ w.in_ok-write.ensures.bytes) (λ j. (w.separator-is j).now)
      | else-has w ↦ same_written _ _ _ _ _ _
          (more false (sym c.has.ensures ∙ w.if-has.false) ∙ append-nil _) c.loop-kind.invariant
          (ap string_bytes w.text-is) (λ j. (w.separator-is j).now)
    ]
