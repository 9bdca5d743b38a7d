use Rattle.std.proofs.Common.{◌∙◌}
use Rattle.cert_check.proofs.Instances.{out_of_memory}
use Rattle.cert_check.proofs.whole.test_func.Goals as goal

pub returns-in_err-origins : goal.returns-in_err-origins
returns-in_err-origins c = out_of_memory _ _ _ c.from_residual.ensures.1

pub test_instances-requires : goal.test_instances-requires
test_instances-requires c = c.as_slice.ensures ∙ c.in_ok-origins.ensures

pub returns : goal.returns
returns c = c.test_instances.ensures
