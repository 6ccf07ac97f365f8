-- Each turn writes one word more.
use Rattle.std.{specs.List.join_with_byte, proofs.Common.{◌++◌, ◌<◌, ◌∙◌, ◌∷◌, ◌≡◌, ap, append-nil, arith, get_or, length}}
use Rattle.{std.proofs.Common.{string_bytes, sym}, captext.specs.PolicyText.label_name, claims.proofs.Joined.joined_more}
use Rattle.claims.proofs.writing.push_names.Goals as goal

pub loop-label-init : goal.loop-label-init
loop-label-init c word words is = is ∙ ap (λ rest. join_with_byte 32 (word ∷ rest)) (sym (append-nil words))

pub loop-label-preserved : goal.loop-label-preserved
loop-label-preserved c word words is =
    let t = c.args.table.now in
    let labels = c.args.labels.now in
    let k = c.loop-label.label-index in
    let label = c.label-item.result in
    let same = c.as_slice-label-items.ensures in
    let within : k < length labels = omega (arith, ap length same) in
    let here : label ≡ get_or labels k label = c.label-item.is ∙ ap (λ xs. get_or xs k label) same in
    let name = c.label_name-name.ensures ∙ ap (label_name t) here in
    joined_more (label_name t) labels k label word words (string_bytes c.loop-label.text) (string_bytes c.write.new.self) within
    (c.loop-label.invariant word words is)
    (c.in_ok-write.ensures.bytes ∙ ap (λ word. string_bytes c.loop-label.text ++ (32 ∷ word)) name)
