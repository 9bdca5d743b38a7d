-- Jumps stand in loops.
use Rattle.std.proofs.Common.{◌≡◌, ℕ, Bool, true, false, not, List, [], ◌++◌}
use Rattle.vlt_core.specs.Core as core
use Rattle.vlt_core.specs.Core.{Tok, Func, Program}
use Rattle.vlt_core.specs.KindedHeads.{unless}
use Rattle.vlt_core.specs.KindedScopes.{Ids, Around, at_block_start, left_behind}
use Rattle.vlt_core.specs.KindedBodies.{in_loop, in_focus, with_focus, with_vars, ends, ids_following, ids_following_block, row_broken, form_rows, block_rows, stmts_rows, arms_rows}
use Rattle.vlt_core.specs.Flow as flow
use Rattle.vlt_core.specs.Bodies.{flow_of, flow_of_block, flow_of_stmts, flow_of_arms}
use Rattle.vlt_core_laws.specs.Scoped.{IsJumping, IsJumpingBlock, IsJumpingStmts, IsJumpingArms}
use Rattle.vlt_core_laws.proofs.Unbroken.{right_empty, unless_holds, each_left, each_right}
use Rattle.vlt_core_laws.specs.Unbroken.{EachEmpty}
use Rattle.vlt_core.specs.declared.rules.TheConstants as rule

-- jumps that stand in loops of the part stand in loops of more
mutual
  more_form : (b : Bool) (s : flow.Flow) → IsJumping false s → IsJumping b s
  more_form b (flow.step rs) j = tt
  more_form b (flow.choose rs s t) j = (more_block b s j.0, more_block b t j.1)
  more_form b (flow.loop rs s) j = j
  more_form b (flow.switch rs arms end) j = more_arms b arms j
  more_form b (flow.scope s) j = more_block b s j
  more_form b (flow.focus rs s es) j = more_block b s j
  more_form b (flow.return rs) j = tt
  more_form b (flow.jump c left) j = absurd (never j)
    where
      never : false ≡ true → ⊥
      never j = cc

  pub more_block : (b : Bool) (s : flow.Block) → IsJumpingBlock false s → IsJumpingBlock b s
  more_block b (flow.block ss bound end) j = more_stmts b ss j

  more_stmts : (b : Bool) (ss : flow.Stmts) → IsJumpingStmts false ss → IsJumpingStmts b ss
  more_stmts b flow.done j = tt
  more_stmts b (flow.next at s rest) j = (more_form b s j.0, more_stmts b rest j.1)

  more_arms : (b : Bool) (arms : flow.Arms) → IsJumpingArms false arms → IsJumpingArms b arms
  more_arms b flow.no_arms j = tt
  more_arms b (flow.arm rs s rest) j = (more_block b s j.0, more_arms b rest j.1)

module _ (p : Program) (f : Func) where
  mutual
    jumping_form : (s : core.Form) (left : List Tok) (around : Around) (ids : Ids) → row_broken p f around ids s ≡ [] → EachEmpty (form_rows p f around ids s) →
        IsJumping around.jumps (flow_of p f left s)
    jumping_form (core.simple s) left around ids e rows = tt
    jumping_form (core.call g target keys args) left around ids e rows = tt
    jumping_form (core.choose x a b) left around ids e rows = (
      jumping_block a left around ids (each_left (block_rows p f around ids a) (block_rows p f around (ids_following_block p f a ids) b) rows),
      jumping_block b left around (ids_following_block p f a ids) (each_right (block_rows p f around ids a) (block_rows p f around (ids_following_block p f a ids) b) rows),
    )
    jumping_form (core.loop x b) left around ids e rows = jumping_block b [] (in_loop around) ids rows
    jumping_form (core.switch v arms end) left around ids e rows = jumping_arms arms left v around ids rows
    jumping_form (core.focus y z b) left around ids e rows =
        more_block around.jumps (flow_of_block p f left b) (jumping_block b left in_focus (with_focus f z ids) rows)
    jumping_form (core.scope b) left around ids e rows = jumping_block b left around ids rows
    jumping_form (core.return value) left around ids e rows = tt
    jumping_form (core.jump continues) left around ids e rows = unless_holds around.jumps rule.WRONG_JUMP e

    pub jumping_block : (b : core.Block) (left : List Tok) (around : Around) (ids : Ids) → EachEmpty (block_rows p f around ids b) →
        IsJumpingBlock around.jumps (flow_of_block p f left b)
    jumping_block (core.block ss bound end) left around ids rows = jumping_stmts ss (left ++ bound) around (at_block_start ids) false rows

    pub jumping_stmts : (ss : core.Stmts) (left : List Tok) (around : Around) (ids : Ids) (ended : Bool) → EachEmpty (stmts_rows p f around ids ended ss) →
        IsJumpingStmts around.jumps (flow_of_stmts p f left ss)
    jumping_stmts core.done left around ids ended rows = tt
    jumping_stmts (core.next at s rest) left around ids ended rows = (
      jumping_form s left around ids (right_empty (unless (not ended) rule.AFTER_END) (row_broken p f around ids s) rows.0)
          (each_left (form_rows p f around ids s) (stmts_rows p f around (ids_following p f s ids) (ends s) rest) rows.1),
      jumping_stmts rest left around (ids_following p f s ids) (ends s) (each_right (form_rows p f around ids s) (stmts_rows p f around (ids_following p f s ids) (ends s) rest) rows.1),
    )

    jumping_arms : (arms : core.Arms) (left : List Tok) (v : ℕ) (around : Around) (ids : Ids) → EachEmpty (arms_rows p f around ids arms) →
        IsJumpingArms around.jumps (flow_of_arms p f left v arms)
    jumping_arms core.no_arms left v around ids rows = tt
    jumping_arms (core.arm c vs b rest) left v around ids rows =
        let ids2 = left_behind ids (ids_following_block p f b (with_vars f vs ids)) in (
          jumping_block b left around (with_vars f vs ids) (each_left (block_rows p f around (with_vars f vs ids) b) (arms_rows p f around ids2 rest) rows),
          jumping_arms rest left v around ids2 (each_right (block_rows p f around (with_vars f vs ids) b) (arms_rows p f around ids2 rest) rows),
        )
