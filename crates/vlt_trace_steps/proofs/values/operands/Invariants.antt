use Rattle.std.proofs.Common.{◌≡◌, map, drop}
use Rattle.vlt_core.specs.View.{operand_of}
use Rattle.vlt_meaning_laws.specs.Machine.Got.{then_got, operands_got}
use Rattle.vlt_trace_worlds.specs.View.{value_view, frame_view, world_view}
use Rattle.vlt_trace_worlds.specs.Running.{program_in, func_in}
use Rattle.vlt_trace_steps.proofs.Taking.{after}
use Rattle.vlt_trace_steps.proofs.values.operands.Given as goal

abbrev pub invariant-loop-o : goal.invariant-loop-o
invariant-loop-o l =
    then_got (operands_got (program_in l.at) (func_in l.at) (map operand_of (drop l.o-index l.os)) (frame_view l.frame) (world_view l.world)) (after (map value_view l.values))
    ≡ operands_got (program_in l.at) (func_in l.at) (map operand_of l.os) (frame_view l.fn.frame) (world_view l.fn.world)
