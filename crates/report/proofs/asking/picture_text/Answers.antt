use Rattle.report.proofs.asking.picture_text.Goals as goal

pub returns-in-Labels : goal.returns-in-Labels
returns-in-Labels c = rw c.in-Labels.is c.write_drawing.ensures

pub returns-in-Programs : goal.returns-in-Programs
returns-in-Programs c = rw c.in-Programs.is c.write_programs.ensures
