use Rattle.std.proofs.Common.{◌≡◌, ◌++◌, ◌-◌, map, filter}
use Rattle.std.specs.List.{range_with_len}
use Rattle.vlt_core.specs.Core.{a_var}
use Rattle.vlt_core.specs.Lookups.{is_owning_var}
use Rattle.vlt_core.specs.View.{func_of, tok_of}
use Rattle.cert_kinds_blocks.specs.Tokens.{kept}
use Rattle.cert_kinds_blocks.proofs.tokens.push_vars.Given as goal

abbrev pub invariant-loop-v : goal.invariant-loop-v
invariant-loop-v l =
    map tok_of l.toks ++ kept (map tok_of l.made) (map a_var (filter (is_owning_var (func_of l.f)) (range_with_len l.v (l.count - l.v))))
    ≡ map tok_of l.initial.toks ++ kept (map tok_of l.made) (map a_var (filter (is_owning_var (func_of l.f)) (range_with_len 0 l.count)))
