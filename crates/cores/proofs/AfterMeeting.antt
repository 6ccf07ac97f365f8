-- Meetings of two seats: a call that one makes afterwards comes after all that the other had seen.
use Rattle.std.proofs.{Common.{[], ◌++◌, ◌+◌, ◌==◌, ◌∙◌, ◌∷◌, ◌≡◌, List, ap, arith, length, refl, subst, sym}, lemmas.List.{length-append, nil_from_length}}
use Rattle.std.proofs.lemmas.List.Elements.{filter-append}
use Rattle.machine.specs.declared.call.{Event.Event, Outcome.Outcome}
use Rattle.cores.specs.{declared.view.{About.About, Noted.Noted}, History.{IsLegal, own}, Seats.{Calls, ComesAfter, Known, Meet}}
use Rattle.cores.proofs.Lists.{own_grows}

pub after_both :
    (first second called : Known) (event : Event) (outcome : Outcome) → Meet first second → Calls second event outcome called
    → ComesAfter first second event outcome called
after_both first second called event outcome met calls =
    let n = second.number in
    let entry : Noted = record { seat = n; event = event; outcome = outcome } in
    let rest = calls.begins.0 in
    let whole : second.seen ++ rest ≡ calls.history = calls.begins.1 in
    let here : called.seen ≡ (first.seen ++ rest) ++ entry ∷ [] =
    calls.ends ∙ ap (λ (h : List Noted). h ++ entry ∷ []) (sym whole ∙ ap (λ (s : List Noted). s ++ rest) met.seen) in
    let made : own n called.seen ≡ second.mine ++ entry ∷ [] =
    ap (λ k. own k called.seen) (sym calls.same.number) ∙ (calls.exact ∙ calls.grew) in
    let parts : own n called.seen ≡ own n (first.seen ++ rest) ++ entry ∷ [] = ap (own n) here ∙ own_grows n (first.seen ++ rest) entry refl in
    let apart : own n (first.seen ++ rest) ≡ own n first.seen ++ own n rest = filter-append (λ (e : Noted). e.seat == n) first.seen rest in
    let known : own n first.seen ≡ second.mine = ap (own n) (sym met.seen) ∙ met.exact_second in
    let all : length (second.mine ++ entry ∷ []) ≡ length (own n (first.seen ++ rest) ++ entry ∷ []) = ap length (sym made ∙ parts) in
    let left = length-append second.mine (entry ∷ []) in
    let right = length-append (own n (first.seen ++ rest)) (entry ∷ []) in
    let inner : length (own n (first.seen ++ rest)) ≡ length (own n first.seen) + length (own n rest) =
    ap length apart ∙ length-append (own n first.seen) (own n rest) in
    let same : length (own n first.seen) ≡ length second.mine = ap length known in
    record {
      between = rest;
      seen = here;
      by_others = nil_from_length (own n rest) (omega (arith, all, left, right, inner, same));
      legal = calls.legal;
    }

pub met_both : (first second : Known) → Meet first second → Meet second first
met_both first second met = record {
  start = sym met.start;
  seen = sym met.seen;
  legal =
      subst (λ (a : About). IsLegal a.boot a.cores second.seen) (sym met.start)
      (subst (λ (s : List Noted). IsLegal first.start.boot first.start.cores s) (sym met.seen) met.legal);
  exact_first = met.exact_second;
  exact_second = met.exact_first;
}
