use Rattle.cores.proofs.splitting.split.Given as goal

-- the kernel's type is named for the kernel that was opened
abbrev pub ghosts-split_named : goal.ghosts-split_named
ghosts-split_named g a = record { ticket = a.opened }
