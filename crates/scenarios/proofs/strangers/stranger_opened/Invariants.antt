use Rattle.scenarios.proofs.strangers.stranger_opened.Given as goal

-- the kernel's type is named for the kernel that was opened
abbrev pub ghosts-stranger_named : goal.ghosts-stranger_named
ghosts-stranger_named g a = record { ticket = a.opened }
