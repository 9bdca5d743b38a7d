use Rattle.std.proofs.Common.{◌∙◌, sym, subst, if◌then◌else◌}
use Rattle.vlt_core.specs.Maps.{full, absent}
use Rattle.vlt_paths.specs.declared.comes.Comes.TheVariants.{Full, Absent}
use Rattle.vlt_paths.proofs.Beginning.{Starts, starts_full, starts_absent}
use Rattle.vlt_paths.proofs.judge.start.Goals as goal

pub returns-in-Key : goal.returns-in-Key
returns-in-Key c = rw c.in-Key.is c.key_start.ensures

pub returns-then-is_full : goal.returns-then-is_full
returns-then-is_full c = rw c.in-Var.is (subst (λ b. Starts Full (if b then full else absent)) (sym c.if-is_full.true ∙ c.is_full.ensures) starts_full)

pub returns-else-is_full : goal.returns-else-is_full
returns-else-is_full c = rw c.in-Var.is (subst (λ b. Starts Absent (if b then full else absent)) (sym c.if-is_full.false ∙ c.is_full.ensures) starts_absent)
