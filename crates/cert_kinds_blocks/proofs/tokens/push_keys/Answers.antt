use Rattle.std.proofs.Common.{map}
use Rattle.vlt_core.specs.View.{tok_of}
use Rattle.cert_kinds_blocks.proofs.Made.{pushed, keys_next}
use Rattle.cert_kinds_blocks.proofs.tokens.push_keys.Goals as goal

pub loop-k-preserved : goal.loop-k-preserved
loop-k-preserved c =
    pushed _ _ _ _ _ _ c.in_ok-push_key.ensures (keys_next (map tok_of c.args.made.now) c.loop-k.k c.args.count (search)) c.loop-k.invariant
