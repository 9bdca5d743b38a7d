use Rattle.std.proofs.Common.{◌≡◌, ◌++◌, map, drop}
use Rattle.vlt_core.specs.View.{tok_of}
use Rattle.cert_kinds_blocks.proofs.tokens.push_all.Given as goal

abbrev pub invariant-loop-tok : goal.invariant-loop-tok
invariant-loop-tok l = map tok_of l.toks ++ map tok_of (drop l.tok-index l.more) ≡ map tok_of l.initial.toks ++ map tok_of l.more
