use Rattle.std.proofs.Common.{refl, arith}
use Rattle.c_interp.proofs.Positions.{nth_at, nth_none}
use Rattle.c_interp.proofs.rules.nth.Goals as goal

pub returns-then-i-fns : goal.returns-then-i-fns
returns-then-i-fns c = λ n are. nth_at n c.args.fns.now c.args.firsts.now c.args.i c.func_at.result.now (record { func = c.func_at.result; first = c.first_at.result }) are c.func_at.ensures c.first_at.ensures refl

pub returns-else-i-fns : goal.returns-else-i-fns
returns-else-i-fns c = λ n are. nth_none n c.args.fns.now c.args.i (omega (arith, c.if-i-fns.false))
