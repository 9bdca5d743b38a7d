use Rattle.c_match.proofs.lowering.lower.Goals as goal

pub returns : goal.returns
returns c = λ i. record { glue = c.in_ok-glue.ensures i; fns = c.in_ok-fns.ensures i; main = (c.name_of-main.ensures i).number }
