use Rattle.std.proofs.Common.{ap}
use Rattle.vlt_core.specs.View.{program_of, func_of, entry_of, mode_of}
use Rattle.vlt_core.proofs.Entries.{bound_below}
use Rattle.vlt_core.proofs.program.Program.entry_in.Goals as goal

pub kept_in-requires : goal.kept_in-requires
kept_in-requires c = bound_below (program_of c.args.self.now) (func_of c.args.f.now) c.args.origin (entry_of c.args.e) c.in-Some-Bound.o _ c.in-Some-Bound.is-0 (ap mode_of c.in-Some-Bound.is-1) c.requires
