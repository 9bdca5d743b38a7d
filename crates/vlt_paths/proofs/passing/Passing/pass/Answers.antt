use Rattle.std.proofs.Common.{◌∙◌, refl, sym}
use Rattle.vlt_core.specs.Rows.{row}
use Rattle.vlt_core.specs.View.{tok_of}
use Rattle.vlt_paths.specs.Comes.{wants_of, leaves_of}
use Rattle.vlt_paths.proofs.Taking.{either_is, own_past, other_past, row_brings}
use Rattle.vlt_paths.proofs.passing.Passing.pass.Goals as goal

pub returns-then-not-is_same : goal.returns-then-not-is_same
returns-then-not-is_same c = record {
  hunt = refl;
  at = refl;
  past = other_past c.args.self.now.hunt c.args.self.now.at (row (tok_of c.args.tok) (wants_of c.args.wants) (leaves_of c.args.leaves)) c.args.self.now.point (sym c.is_same.ensures ∙ c.if-not-is_same.true);
}

pub returns : goal.returns
returns c = record {
  hunt = refl;
  at = refl;
  past =
      own_past c.args.self.now.hunt c.args.self.now.at (row (tok_of c.args.tok) (wants_of c.args.wants) (leaves_of c.args.leaves)) c.args.self.now.point c.left_as.result c.either.result c.is_met.result
      (sym c.is_same.ensures ∙ c.if-not-is_same.false)
      (row_brings c.args.self.now.point.comes c.wanted_by.result c.left_as.result (wants_of c.args.wants) (leaves_of c.args.leaves) c.wanted_by.ensures c.left_as.ensures)
      (either_is c.either.result _ _ c.either.ensures)
      (c.is_met.ensures (leaves_of c.args.leaves));
}
