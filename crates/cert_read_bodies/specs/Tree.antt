-- The drafts that those of the code stand for.
use Rattle.std.specs.Prelude.{ℕ, List, [], ◌∷◌, map, option_map}
use Rattle.vlt_core.specs.View.{expr_of, vars_of}
use Rattle.vlt_core.specs.HeldView.{toks_of}
use Rattle.cert_format.specs.Drafts as s
use Rattle.cert_read_parts.specs.Maps.{maps_of}
use Rattle.cert_read_rows.specs.Statements.{plain_of}
use Rattle.cert_read_bodies.specs.declared.tree.Draft.{Draft}
use Rattle.cert_read_bodies.specs.declared.tree.Draft.TheOpen.{Draft-F, Arm-F, Block-F}
use Rattle.cert_read_bodies.specs.declared.tree.Draft.TheFolds.{fold-Draft, fold-Arm, fold-Block}
use Rattle.cert_read_bodies.specs.declared.tree.Arm.{Arm}
use Rattle.cert_read_bodies.specs.declared.tree.Block.{Block}

abbrev pub ArmView : Type 0
ArmView = ℕ × List ℕ × s.Block

abbrev pub drafts_made : List s.Draft → s.Drafts
drafts_made [] = s.done
drafts_made (x ∷ xs) = s.next x (drafts_made xs)

abbrev pub arms_made : List ArmView → s.Arms
arms_made [] = s.no_arms
arms_made (x ∷ xs) = s.arm x.0 x.1 x.2 (arms_made xs)

abbrev pub draft_step : Draft-F s.Draft ArmView s.Block → s.Draft
draft_step (Draft-F.Plain r) = s.plain (plain_of r)
draft_step (Draft-F.If e a b m) = s.choose (expr_of e) a b (option_map maps_of m)
draft_step (Draft-F.While e a m k) = s.loop (expr_of e) a (maps_of m) (maps_of k)
draft_step (Draft-F.Switch v arms m) = s.switch v.0 (arms_made arms) (option_map maps_of m)
draft_step (Draft-F.Focus y z a) = s.focus y.0 z.0 a
draft_step (Draft-F.Scope a) = s.scope a

abbrev pub arm_step : Arm-F s.Draft ArmView s.Block → ArmView
arm_step x = (x.case, vars_of x.vars, x.body)

abbrev pub block_step : Block-F s.Draft ArmView s.Block → s.Block
block_step x = s.block x.count (toks_of x.bound) (drafts_made x.stmts)

abbrev pub draft_of : Draft → s.Draft
draft_of = fold-Draft s.Draft ArmView s.Block draft_step arm_step block_step

abbrev pub arm_of : Arm → ArmView
arm_of = fold-Arm s.Draft ArmView s.Block draft_step arm_step block_step

abbrev pub block_of : Block → s.Block
block_of = fold-Block s.Draft ArmView s.Block draft_step arm_step block_step

abbrev pub drafts_of : List Draft → s.Drafts
drafts_of xs = drafts_made (map draft_of xs)

abbrev pub arms_of : List Arm → s.Arms
arms_of xs = arms_made (map arm_of xs)
