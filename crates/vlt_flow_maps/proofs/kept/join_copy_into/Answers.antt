use Rattle.vlt_flow_maps.proofs.Joining.{into_join}
use Rattle.vlt_flow_maps.proofs.kept.join_copy_into.Goals as goal

pub returns-in_ok-_grew-in-Some-clause-ok : goal.returns-in_ok-_grew-in-Some-clause-ok
returns-in_ok-_grew-in-Some-clause-ok c =
    into_join _ _ _ _ _ c.in-Some.is c.in_ok-_grew-in-Some.ensures.joined c.in_ok-_grew-in-Some.ensures.grew
