use Rattle.std.proofs.Common.{◌≡◌, sym, subst}
use Rattle.vlt_core.specs.View.{program_of, func_of, entry_of, mode_of}
use Rattle.vlt_core.specs.Lookups.{key_states_up_to}
use Rattle.vlt_host_meaning.specs.Permitted.{permitted_states}
use Rattle.vlt_host_acts.proofs.permits.permitted.permits.Goals as goal

pub returns-in-Bound : goal.returns-in-Bound
returns-in-Bound c =
    let p = program_of c.args.p.now in
    let f = func_of c.args.f.now in
    subst (λ m. c.is_in_set.result ≡ permitted_states p f (entry_of c.args.e) (mode_of m) c.args.state) (sym c.in-Bound.is)
    (c.is_in_set.ensures (key_states_up_to p f c.args.e.key.0 c.in-Bound.bound) c.key_states_up_to.ensures)
