use Rattle.c_syntax.specs.Reading.{places_in}
use Rattle.c_syntax.specs.View.{program_of}
use Rattle.c_interp.proofs.runs.crun.Goals as goal

pub run_file-requires-clause-runnable : goal.run_file-requires-clause-runnable
run_file-requires-clause-runnable g c =
    let is = c.in-Ok.ensures in
    c.unrefused_programs_can_run.ensures (places_in is.lexemes) is.unit (program_of c.in-Ok.file.program) is.kinds is.program
