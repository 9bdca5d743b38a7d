use Rattle.std.proofs.Common.{ap, ◌∙◌}
use Rattle.c_syntax.specs.View.{program_of}
use Rattle.c_printer.specs.Layout.{program_laid}
use Rattle.c_printer.proofs.Laid.{program_is}
use Rattle.c_printer.proofs.print_c.Goals as goal

pub returns : goal.returns
returns c =
    c.in_ok-write_program.ensures ∙ ap (program_laid (program_of c.args.program.now)) c.new-out.ensures.items ∙ program_is (program_of c.args.program.now)
