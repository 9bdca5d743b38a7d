use Rattle.vlt_points.proofs.Keeps.{row_joined}
use Rattle.vlt_points.proofs.kept.join_row.Goals as goal

pub returns : goal.returns
returns c = row_joined c.args.n c.args.m.now c.args.rows.now.items c.in_ok-grew.grew _ c.join.new.self c.requires c.index_mut.ensures.value c.in_ok-grew.ensures.join c.in_ok-grew.ensures.closer
