use Rattle.std.proofs.Common.{◌∙◌}
use Rattle.vlt_core.specs.View.{program_of, func_of}
use Rattle.vlt_rows.proofs.Named.{none_named}
use Rattle.vlt_rows.proofs.states.side_states.Goals as goal

pub returns-in-None : goal.returns-in-None
returns-in-None c =
    c.states_of_key.ensures ∙ none_named (program_of c.args.p.now) (func_of c.args.f.now) c.args.k.0 c.args.named (rw c.in-None.is at c.states_or_all.ensures)
