use Rattle.std.proofs.Common.{◌≤◌, drop, map}
use Rattle.std.specs.Vec.{vec_capacity}
use Rattle.c_syntax.specs.View.{arg_of}
use Rattle.c_interp.proofs.Pushing.{Pushing}
use Rattle.c_interp.proofs.calls.push_args.Given as goal

abbrev pub invariant-loop-x : goal.invariant-loop-x
invariant-loop-x l = record {
  pushing : Pushing (map arg_of l.args) (map arg_of (drop l.x-index l.args)) l.x-index l.fn.frames l.frames;
  room : vec_capacity l.fn.frames.values ≤ vec_capacity l.frames.values;
}
