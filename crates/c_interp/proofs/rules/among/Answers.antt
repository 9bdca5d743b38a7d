use Rattle.std.proofs.Common.{refl}
use Rattle.c_interp.proofs.Positions.{found_at, found_none}
use Rattle.c_interp.proofs.rules.among.Goals as goal

pub returns-in-Some : goal.returns-in-Some
returns-in-Some c = λ n are. found_at n c.args.fns.now c.args.firsts.now c.args.number c.in-Some.i c.func_at.result.now (record { func = c.func_at.result; first = c.first_at.result }) are c.in-Some.ensures.is c.func_at.ensures c.first_at.ensures refl

pub returns-in-None : goal.returns-in-None
returns-in-None c = λ n are. found_none n c.args.fns.now c.args.number c.in-None.ensures.is
