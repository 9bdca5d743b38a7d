use Rattle.vlt_externals.proofs.events.+tell_all.Given as goal

abbrev pub decreases-tell_all : goal.decreases-tell_all
decreases-tell_all l = l.count
