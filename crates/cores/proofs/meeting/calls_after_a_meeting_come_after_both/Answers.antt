use Rattle.cores.proofs.AfterMeeting.{after_both, met_both}
use Rattle.cores.proofs.meeting.calls_after_a_meeting_come_after_both.Goals as goal

pub returns : goal.returns
returns c = record { after = after_both; both = met_both }
