use Rattle.std.proofs.Common.{◌≡◌, ◌++◌, ◌-◌, map}
use Rattle.std.specs.List.{range_with_len}
use Rattle.vlt_core.specs.Core.{a_key}
use Rattle.vlt_core.specs.View.{tok_of}
use Rattle.cert_kinds_blocks.specs.Tokens.{kept}
use Rattle.cert_kinds_blocks.proofs.tokens.push_keys.Given as goal

abbrev pub invariant-loop-k : goal.invariant-loop-k
invariant-loop-k l =
    map tok_of l.toks ++ kept (map tok_of l.made) (map a_key (range_with_len l.k (l.count - l.k)))
    ≡ map tok_of l.initial.toks ++ kept (map tok_of l.made) (map a_key (range_with_len 0 l.count))
