use Rattle.std.proofs.Common.{Some}
use Rattle.vlt_core.specs.FaultView.{choices_of}
use Rattle.vlt_core.specs.Maps.{absent}
use Rattle.vlt_core.specs.View.{program_of, func_of}
use Rattle.vlt_paths.specs.Shown.{fault_view}
use Rattle.vlt_paths.proofs.Beginning.{join_shown, not_shown, no_instance, is_so, is_not}
use Rattle.vlt_paths.proofs.judge.are_shown_in.Goals as goal

pub returns-then-not-has_instance : goal.returns-then-not-has_instance
returns-then-not-has_instance c = no_instance (program_of c.args.p.now) (func_of c.args.f.now) (fault_view c.args.fault.now) (choices_of c.args.first.now) (Some (choices_of c.args.second.now)) (is_not _ _ c.has_instance.ensures c.if-not-has_instance.true)

pub returns-in-Row : goal.returns-in-Row
returns-in-Row c = not_shown (program_of c.args.p.now) (func_of c.args.f.now) (fault_view c.args.fault.now) (choices_of c.args.first.now) (Some (choices_of c.args.second.now)) (rw c.in-Row.is (λ h. h))

pub returns-in-Join : goal.returns-in-Join
returns-in-Join c = rw c.in-Join.is (join_shown (program_of c.args.p.now) (func_of c.args.f.now) c.args.fault.now.fn_id.0 c.args.fault.now.origin _ _ absent (choices_of c.args.first.now) (choices_of c.args.second.now) c.shows_join.result (is_so _ _ c.has_instance.ensures c.if-not-has_instance.false) c.shows_join.ensures)
