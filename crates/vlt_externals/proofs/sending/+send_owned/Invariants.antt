use Rattle.vlt_externals.proofs.sending.+send_owned.Given as goal

abbrev pub decreases-send_owned : goal.decreases-send_owned
decreases-send_owned l = l.count
