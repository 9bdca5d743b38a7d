use Rattle.std.proofs.Common.{sym}
use Rattle.vlt_core.specs.View.{program_of, func_of, entry_of}
use Rattle.vlt_host_meaning.specs.Permitted.{permitted_states}
use Rattle.vlt_host_acts.proofs.OfPermits.Seen.{state_seen}
use Rattle.vlt_host_acts.proofs.permits.hosted.Hosted.is_in.Goals as goal

pub returns-in-Some : goal.returns-in-Some
returns-in-Some c = λ objects s.
    state_seen c.args.self.now objects s c.in-Some.o c.args.number c.state.result
    (permitted_states (program_of c.args.self.now.program.now) (func_of c.args.f.now) (entry_of c.args.e) (entry_of c.args.e).mode) c.permits.result
    c.in-Some.ensures.live c.in-Some.ensures.number c.state.ensures (sym (c.in-Some.ensures.held objects s)) c.permits.ensures
