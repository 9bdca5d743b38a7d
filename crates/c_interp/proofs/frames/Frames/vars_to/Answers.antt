use Rattle.std.proofs.Common.{◌-◌, take, drop, ap, ◌∙◌}
use Rattle.c_interp.proofs.Setting.{cut_same}
use Rattle.c_interp.proofs.frames.Frames.vars_to.Goals as goal

pub returns-clause-values : goal.returns-clause-values
returns-clause-values c = ap (λ l. take (c.args.end - c.args.self.now.base) (drop c.args.self.now.base l)) c.deref.ensures.value ∙ cut_same c.args.self.now.values.items c.args.self.now.base c.args.end
