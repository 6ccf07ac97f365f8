use Rattle.cores.proofs.word.record.Given as goal

-- the entry that the step adds
abbrev pub ghosts-record_this : goal.ghosts-record_this
ghosts-record_this a = record { entry = a._noted.now }
