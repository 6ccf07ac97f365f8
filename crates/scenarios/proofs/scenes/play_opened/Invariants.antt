use Rattle.scenarios.proofs.scenes.play_opened.Given as goal

-- the kernel's type is named for the kernel that was opened
abbrev pub ghosts-play_named : goal.ghosts-play_named
ghosts-play_named g a = record { ticket = a.opened }
