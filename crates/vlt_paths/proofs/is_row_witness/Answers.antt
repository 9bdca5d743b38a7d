use Rattle.std.proofs.Common.{sym, None}
use Rattle.vlt_core.specs.FaultView.{choices_of}
use Rattle.vlt_core.specs.View.{program_of, func_of}
use Rattle.vlt_paths.specs.Shown.{fault_view}
use Rattle.vlt_paths.proofs.Beginning.{judged, judged_none}
use Rattle.vlt_paths.proofs.is_row_witness.Goals as goal

pub returns-in-None : goal.returns-in-None
returns-in-None c = judged_none (program_of c.args.p.now) (fault_view c.args.fault.now) (choices_of c.args.path.now) None (rw c.in-None.is at c.func_at.ensures)

pub returns-in-Some : goal.returns-in-Some
returns-in-Some c =
    judged (program_of c.args.p.now) (func_of c.in-Some.f.now) (fault_view c.args.fault.now) (choices_of c.args.path.now) None c.is_shown_in.result (sym (rw c.in-Some.is at c.func_at.ensures)) c.is_shown_in.ensures
