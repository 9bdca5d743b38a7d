use Rattle.std.proofs.Common.{map}
use Rattle.vlt_core.specs.View.{func_of, tok_of}
use Rattle.cert_kinds_blocks.proofs.Made.{pushed, vars_next}
use Rattle.cert_kinds_blocks.proofs.tokens.push_vars.Goals as goal

pub loop-v-preserved : goal.loop-v-preserved
loop-v-preserved c =
    pushed _ _ _ _ _ _ c.in_ok-push_var.ensures (vars_next (func_of c.args.f.now) (map tok_of c.args.made.now) c.loop-v.v c.args.count (search)) c.loop-v.invariant
