use Rattle.words.{specs.Text.lines_of, proofs.FirstFaults.{faults, refused_for}}
use Rattle.captext.{specs.Drafts.{draft_format, read_draft_of}, proofs.DraftLaws.draft_ok}
use Rattle.captext.proofs.drafts.read_draft.Goals as goal

pub returns : goal.returns
unfolding read_draft_of
returns c =
    let read = c.draft_of.ensures in
    record {
      exact = read;
      meaning = draft_ok c.args.table.now c.args.text.now c.draft_of.result read;
      faults = faults _ (draft_format c.args.table.now) (lines_of c.args.text.now) c.draft_of.result read;
      refused = refused_for _ (draft_format c.args.table.now) (lines_of c.args.text.now) c.draft_of.result read;
    }
