use Rattle.std.proofs.Common.{sym, subst}
use Rattle.vlt_points.specs.Writing.{IsEndAdded}
use Rattle.vlt_points.proofs.Parts.{written_point}
use Rattle.vlt_points.proofs.points.add_end.Goals as goal

pub returns-in_ok-add-clause-end : goal.returns-in_ok-add-clause-end
returns-in_ok-add-clause-end c =
    subst (λ b. IsEndAdded c.args.source.now c.args.at b c.args.m.now c.args.page.now c.add.new.self) (sym c.if-passes.true)
    (written_point c.args.source.now c.args.at c.args.m.now c.args.page.now.lines.items c.add.new.self.lines.items c.in_ok-add.ensures.line)
