use Rattle.std.proofs.Common.{◌∙◌, sym}
use Rattle.vlt_core.specs.View.{func_of}
use Rattle.vlt_core.specs.Rows.{tokens_of}
use Rattle.vlt_paths.proofs.Taking.{gone_past, none_past}
use Rattle.vlt_paths.proofs.passing.past_own.Goals as goal

pub returns-then-is_of : goal.returns-then-is_of
returns-then-is_of c = gone_past c.args.hunt c.args.at (tokens_of (func_of c.args.f.now)) c.args.point c.past_one.result (sym c.is_of.ensures ∙ c.if-is_of.true) c.past_one.ensures

pub returns-else-is_of : goal.returns-else-is_of
returns-else-is_of c = none_past c.args.hunt c.args.at (tokens_of (func_of c.args.f.now)) c.args.point (sym c.is_of.ensures ∙ c.if-is_of.false)
