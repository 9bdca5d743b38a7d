use Rattle.vlt_core.specs.Bodies.{body_flow}
use Rattle.vlt_core.specs.Derives.{start_map}
use Rattle.vlt_core.specs.Found.{Has}
use Rattle.vlt_points_laws.proofs.One.{one_block, long_block}
use Rattle.vlt_points_laws.proofs.a_token_has_one_list.Goals as goal

pub returns-clause-one : goal.returns-clause-one
returns-clause-one c = λ p f t ms ns. one_block t (body_flow p f) (Has (start_map p f t)) ms ns

pub returns-clause-long : goal.returns-clause-long
returns-clause-long c = λ p f t ms. long_block t (body_flow p f) (Has (start_map p f t)) ms
