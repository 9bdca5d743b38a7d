use Rattle.std.proofs.Common.{◌≡◌, map, filter, Some}
use Rattle.std.specs.List.{range_with_len}
use Rattle.vlt_base.specs.States.{has_state}
use Rattle.vlt_rows.proofs.instances.each_of.Given as goal

abbrev pub invariant-loop-s : goal.invariant-loop-s
invariant-loop-s l = l.list ≡ map Some (filter (has_state l.states) (range_with_len 0 l.s))
