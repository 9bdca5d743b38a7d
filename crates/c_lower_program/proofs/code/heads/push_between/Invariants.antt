use Rattle.std.proofs.Common.{◌≡◌, ◌++◌}
use Rattle.c_lower_program.specs.Code.Heads.{slots_between}
use Rattle.c_lower_program.proofs.code.heads.push_between.Given as goal

abbrev pub invariant-loop-number : goal.invariant-loop-number
invariant-loop-number l =
    l.vars ++ slots_between l.reference l.number l.end ≡ l.initial.vars ++ slots_between l.reference l.fn.first l.end
