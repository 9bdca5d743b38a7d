use Rattle.std.proofs.Common.{◌≡◌, ◌++◌, map, take}
use Rattle.vlt_core.specs.Core.{a_key, a_var}
use Rattle.vlt_core.specs.View.{tok_of}
use Rattle.vlt_resolve_exprs.proofs.scope.Scope.bound.Given as goal

abbrev pub invariant-loop-key : goal.invariant-loop-key
invariant-loop-key l = map tok_of l.toks ≡ map a_key (map (λ k. k.0) (take l.key-index l.key-items))

abbrev pub invariant-loop-var : goal.invariant-loop-var
invariant-loop-var l =
    map tok_of l.toks ≡ map a_key (map (λ k. k.0) l.self.block_keys) ++ map a_var (map (λ v. v.0) (take l.var-index l.var-items))
