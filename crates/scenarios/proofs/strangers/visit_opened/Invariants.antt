use Rattle.scenarios.proofs.strangers.visit_opened.Given as goal

-- the kernel's type is named for the kernel that was opened
abbrev pub ghosts-visit_named : goal.ghosts-visit_named
ghosts-visit_named g a = record { ticket = a.opened }
