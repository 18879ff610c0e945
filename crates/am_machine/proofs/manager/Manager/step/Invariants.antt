use Rattle.am_machine.proofs.manager.Manager.step.Given as goal

-- the counter's ledger is that of the blank
abbrev pub ghosts-counted : goal.ghosts-counted
ghosts-counted g a = record { name = a.blank.name; parts = a.blank.parts }
