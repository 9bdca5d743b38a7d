use Rattle.std.proofs.Common.{refl}
use Rattle.vlt_points.proofs.Parts.{written_point, last_added}
use Rattle.vlt_points.proofs.points.add_last.Goals as goal

pub returns-clause-added : goal.returns-clause-added
returns-clause-added c =
    last_added c.args.source.now c.args.at c.args.n c.args.m.now c.args.page.now c.add.new.self
    (written_point c.args.source.now c.args.at c.args.m.now c.args.page.now.lines.items c.add.new.self.lines.items c.in_ok-add.ensures.line) _ c.in_ok-add.ensures.page refl refl
