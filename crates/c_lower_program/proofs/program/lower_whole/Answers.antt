use Rattle.c_lower_program.proofs.program.lower_whole.Goals as goal

pub returns : goal.returns
returns c = λ i. record { glue = c.in_ok-glue.ensures i; fns = c.in_ok-fns.ensures i; main = c.number_of.ensures i }
