use Rattle.std.proofs.Common.{sym, ◌∙◌}
use Rattle.vlt_core.specs.View as view
use Rattle.c_syntax.specs.View.{program_of}
use Rattle.c_lower.specs.Lowering.{lowered}
use Rattle.c_lower_program.proofs.Lengths.{is_over, is_within}
use Rattle.c_lower_program.proofs.program.lower.Goals as goal

pub returns-then-is_too_long : goal.returns-then-is_too_long
returns-then-is_too_long c =
    is_over (program_of c.in_ok-whole.whole) (lowered (view.program_of c.args.program.now)) c.in_ok-whole.ensures (sym c.is_too_long.ensures ∙ c.if-is_too_long.true)

pub returns : goal.returns
returns c = record {
  few = sym c.gives_many_cases.ensures ∙ c.if-gives_many_cases.false;
  program = c.in_ok-whole.ensures;
  within = is_within (program_of c.in_ok-whole.whole) (lowered (view.program_of c.args.program.now)) c.in_ok-whole.ensures (sym c.is_too_long.ensures ∙ c.if-is_too_long.false);
}
