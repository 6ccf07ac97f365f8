-- Each turn writes the next line.
use Rattle.std.proofs.{Common.{[], ◌++◌, ◌∙◌, ◌∷◌, ap, arith, codes, map, string_bytes, sym}, lemmas.{Grind.flat_map-append, List.take_all}}
use Rattle.{words.specs.{Reading.last_line, Text.{line_text, text_of}}, captext.proofs.Written.line_more}
use Rattle.certificate.specs.{Certificate.certificate_header, Line.line_words}
use Rattle.certificate.proofs.writing.certificate_string.Goals as goal

pub loop-line-init : goal.loop-line-init
loop-line-init c = c.in_ok-text.ensures.ok

pub loop-line-preserved : goal.loop-line-preserved
loop-line-preserved c =
    let words = line_words c.args.table.now in
    line_more words c.args.lines.now c.loop-line.line-index c.line-item.result (line_text certificate_header)
    (string_bytes c.loop-line.text) (string_bytes c.write_line.new.text) (omega arith) c.loop-line.invariant
    (c.in_ok-write_line.ensures ∙ ap (λ line. string_bytes c.loop-line.text ++ line_text (words line)) c.line-item.is)

pub returns : goal.returns
returns c =
    let words = line_words c.args.table.now in
    c.in_ok-push_str.ensures.bytes
    ∙ ap (λ bytes. bytes ++ codes "end\n")
    (c.loop-line.invariant ∙ ap (λ lines. text_of (certificate_header ∷ map words lines)) (take_all _ _ c.loop-line-test.false))
    ∙ sym (flat_map-append line_text (certificate_header ∷ map words c.args.lines.now) (last_line ∷ []))
