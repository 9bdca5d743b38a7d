use Rattle.std.proofs.Common.{inl}
use Rattle.vlt_flow_maps.proofs.Starting.{absent_kind}
use Rattle.vlt_flow_maps.proofs.start.give.Goals as goal

pub returns-in-Ok-clause-given : goal.returns-in-Ok-clause-given
returns-in-Ok-clause-given c = inl (record { absent = absent_kind _ c.in-Ok.ensures.wanted; passed = c.in-Ok.ensures.passed })
