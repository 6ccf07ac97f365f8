-- The beginning and the ends of the reading of a table's text, each by its law.
use Rattle.std.proofs.{Common.{ℕ, ◌+◌, ◌∙◌, ◌≡◌, Err, List, Ok, Option, Result, ap, subst, sym}, lemmas.Result.err_from_is_err_and}
use Rattle.machine.specs.{declared.layout.Version.Version, Layout.{Layout, empty_layout}}
use Rattle.words.specs.{declared.faults.{Fault.Fault, Wrong.TheVariants.{Syntax, Tree}}, Fault.fault_at, Reading.{header_at, judged}}
use Rattle.words.{specs.{Reading.read_text, Text.{Progress, lines_of}}, proofs.ReadingLaws.{begins, ends_followed, ends_judged}}
use Rattle.words.proofs.ReadingLaws.{ends_misjudged, no_beginning, no_more, stops_by}
use Rattle.captext.specs.{TableText.table_header, Tables.{grown, read_table_of, table_line}}
use Rattle.captext.proofs.tables.table_of.Goals as goal

-- what a text of a version gives
abbrev read_by : List (Option (List (List ℕ))) → Version → Result Layout Fault
read_by lines version = read_text (table_header version) table_line (judged grown) (empty_layout version) lines

pub loop-words-init : goal.loop-words-init
unfolding read_table_of
loop-words-init c =
    let version = c.version_of-version.result in
    let lines = lines_of c.args.text.now in
    let read = subst (λ (at : Progress). header_at (table_header version) at ≡ Ok c.take_header.new.lines) c.new-lines.ensures.exact c.in_ok-take_header.ensures in
    rw c.new-draft.ensures
    (begins _ table_line (judged grown) (empty_layout version) _ _ read ∙ ap (read_by lines) c.version_of-version.ensures)

pub returns-in_err-take_header : goal.returns-in_err-take_header
unfolding read_table_of
returns-in_err-take_header c =
    let version = c.version_of-version.result in
    let lines = lines_of c.args.text.now in
    let starts = ap (λ (at : Progress). header_at (table_header version) at) c.new-lines.ensures.exact in
    let p = err_from_is_err_and c.from_residual.result c.from_residual.ensures.1 in
    rw (p.1, p.2)
    (λ _.
    sym (ap (read_by lines) c.version_of-version.ensures)
    ∙ no_beginning _ table_line (judged grown) (empty_layout version) _ _ (sym starts ∙ c.in_err-take_header.ensures))

pub returns-in-Ok-end : goal.returns-in-Ok-end
returns-in-Ok-end c =
    let taken = c.in-Some.ensures in
    ends_judged table_line grown c.loop-words.lines c.next_line.new.self c.loop-words.draft _ c.in-Some.words _
    c.loop-words.invariant taken.0 taken.1 (sym c.is.ensures ∙ c.if-is.true) c.in-Ok.ensures (sym c.in-Ok-end.ensures)

pub returns-in-Err-end : goal.returns-in-Err-end
returns-in-Err-end c _ =
    let taken = c.in-Some.ensures in
    ends_followed table_line grown c.loop-words.lines c.next_line.new.self c.loop-words.draft _ c.in-Some.words _ _
    c.loop-words.invariant taken.0 taken.1 (sym c.is.ensures ∙ c.if-is.true) c.in-Ok.ensures (sym c.in-Err-end.ensures)

pub returns-in-Err : goal.returns-in-Err
returns-in-Err c _ =
    let taken = c.in-Some.ensures in
    ends_misjudged table_line grown c.loop-words.lines c.next_line.new.self c.loop-words.draft c.in-Err.line Tree c.in-Some.words _ _
    c.loop-words.invariant taken.0 taken.1 (sym c.is.ensures ∙ c.if-is.true) c.in-Err.ensures c.at.ensures

pub returns-in-Err-table_line : goal.returns-in-Err-table_line
returns-in-Err-table_line c lacked =
    let taken = c.in-Some.ensures in
    stops_by table_line (judged grown) c.loop-words.lines c.next_line.new.self c.loop-words.draft c.in-Some.words _ _ _
    c.loop-words.invariant taken.0 taken.1 (sym c.is.ensures ∙ c.if-is.false) c.in-Err-table_line.ensures.exact c.stopped.ensures lacked

pub returns : goal.returns
returns c _ =
    let over = c.in_default.ensures in
    no_more table_line (judged grown) c.loop-words.lines c.loop-words.draft _ c.loop-words.invariant over.0
    ∙ ap (λ (fault : Fault). Err fault)
    (ap (λ (at : Progress). fault_at (at.taken + 1) Syntax) (sym over.1) ∙ sym c.after.ensures)
