use Rattle.std.proofs.Common.{◌∙◌}
use Rattle.vlt_base.specs.States.{is_bit, has_state}
use Rattle.vlt_paths.proofs.Sets.{each_same, nothing_low}
use Rattle.vlt_paths.proofs.numbers.Numbers.of.Goals as goal

pub returns-in-Set : goal.returns-in-Set
returns-in-Set c = rw c.in-Set.is (c.low.ensures ∙ each_same (is_bit c.mask.result) (has_state c.in-Set.set) c.mask.ensures.states)

pub returns-in-Below : goal.returns-in-Below
returns-in-Below c = rw c.in-Below.is c.below.ensures

pub returns-in-Only : goal.returns-in-Only
returns-in-Only c = rw c.in-Only.is c.only.ensures

pub returns-in-Nothing : goal.returns-in-Nothing
returns-in-Nothing c = rw c.in-Nothing.is (c.low-in-Nothing.ensures ∙ nothing_low)
