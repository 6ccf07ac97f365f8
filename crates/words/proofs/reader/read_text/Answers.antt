-- The places where the loop over the lines goes on or ends, by their laws.
use Rattle.std.proofs.{Common.{◌+◌, ◌∙◌, Err, ap, subst, sym}, lemmas.Result.err_from_is_err_and}
use Rattle.words.specs.declared.faults.{Fault.Fault, Wrong.TheVariants.Syntax}
use Rattle.words.specs.{Fault.fault_at, Reading.{StopsBy, as_read, header_at, judged}, Text.{Progress, lines_of, words_of}}
use Rattle.words.proofs.ReadingLaws.{goes_on, no_beginning, no_more, stops_by}
use Rattle.words.proofs.reader.read_text.Goals as goal

pub loop-words-preserved : goal.loop-words-preserved
loop-words-preserved g c =
    let taken = c.in-Some.ensures in (
      c.in_default-take_line.ensures.same ∙ c.loop-words.invariant.0,
      goes_on (g.R.Reader.step c.args.reader.now) (judged as_read) c.loop-words.lines c.next_line.new.self
          (g.R.Reader.seen c.loop-words.reader) (g.R.Reader.seen c.take_line.new.self) c.in-Some.words _
          c.loop-words.invariant.1 taken.0 taken.1 (sym c.is.ensures ∙ c.if-is.false)
          (sym (ap (λ step. step (g.R.Reader.seen c.loop-words.reader) c.in-Some.words) c.loop-words.invariant.0)
          ∙ c.in_default-take_line.ensures.exact),
    )

pub returns-in-Err : goal.returns-in-Err
returns-in-Err g c lacked =
    let taken = c.in-Some.ensures in
    stops_by (g.R.Reader.step c.args.reader.now) (judged as_read) c.loop-words.lines c.next_line.new.self
    (g.R.Reader.seen c.loop-words.reader) c.in-Some.words _ _ _
    c.loop-words.invariant.1 taken.0 taken.1 (sym c.is.ensures ∙ c.if-is.false)
    (subst (StopsBy c.in-Err.error)
    (ap (λ step. step (g.R.Reader.seen c.loop-words.reader) c.in-Some.words) c.loop-words.invariant.0)
    c.in-Err.ensures.exact)
    c.stopped.ensures lacked

pub returns-in_err-header : goal.returns-in_err-header
returns-in_err-header g c =
    let header = words_of c.args.header.now in
    let starts = ap (λ (at : Progress). header_at header at) c.new-lines.ensures.exact in
    let p = err_from_is_err_and c.from_residual.result c.from_residual.ensures.1 in
    rw (p.1, p.2)
    (λ _. no_beginning header _ (judged as_read) _ (lines_of c.args.text.now) _ (sym starts ∙ c.in_err-header.ensures.exact))

pub returns : goal.returns
returns g c _ =
    let over = c.in_default.ensures in
    no_more (g.R.Reader.step c.args.reader.now) (judged as_read) c.loop-words.lines (g.R.Reader.seen c.loop-words.reader) _
    c.loop-words.invariant.1 over.0
    ∙ ap (λ (fault : Fault). Err fault)
    (ap (λ (at : Progress). fault_at (at.taken + 1) Syntax) (sym over.1) ∙ sym c.after.ensures)
