use Rattle.std.proofs.Common.{sym}
use Rattle.vlt_host_acts.proofs.OfPermits.Seen.{type_seen}
use Rattle.vlt_host_acts.proofs.permits.hosted.Hosted.is_of_type.Goals as goal

pub returns-in-Some : goal.returns-in-Some
returns-in-Some c = λ objects s.
    type_seen c.args.self.now objects s c.in-Some.o c.args.number c.type_of.result.0 c.args.t.0 c.in-Some.ensures.live c.in-Some.ensures.number
    c.type_of.ensures (sym (c.in-Some.ensures.held objects s))
