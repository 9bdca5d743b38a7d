use Rattle.std.proofs.Common.{◌∙◌}
use Rattle.vlt_core.specs.View.{func_of}
use Rattle.cert_kinds_exprs.specs.Scopes.{ids_of}
use Rattle.cert_kinds_calls.proofs.Keys.{callers_next}
use Rattle.cert_kinds_calls.proofs.clauses.caller_keys_broken.Goals as goal

pub loop-i-preserved : goal.loop-i-preserved
loop-i-preserved c =
    rw (c.lesser-found.ensures, c.caller_key_broken.ensures)
    (c.loop-i.invariant ∙ callers_next (func_of c.args.f.now) (ids_of c.args.ids.now) (func_of c.args.g.now) c.loop-i.found c.args.keys.now c.loop-i.i (record { 0 = 0 }) (search))
