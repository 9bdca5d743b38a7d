-- Nothing comes out by a jump of a block whose jumps stand in its own loops.
use Rattle.std.proofs.Common.{false, IsTrue, rules, ⊎_elim}
use Rattle.vlt_core.specs.Core.{Tok}
use Rattle.vlt_core.specs.Flow.{Flow, step, choose, loop, switch, scope, focus, return, jump, Block, block, Stmts, done, next, Arms, no_arms, arm}
use Rattle.vlt_core.specs.Found.{One, Ones, images, to_next, to_break, to_continue, out, out_block, out_stmts, out_arms}
use Rattle.vlt_core_laws.specs.Scoped.{IsJumping, IsJumpingBlock, IsJumpingStmts, IsJumpingArms}

mutual
  no_jump : (s : Flow) (t : Tok) (S : Ones) (o : One) → IsJumping false s → (out t s S to_break o → ⊥) × (out t s S to_continue o → ⊥)
  no_jump (step rs) t S o j = (λ x. x, λ x. x)
  no_jump (choose rs u v) t S o j =
      let f = no_jump_block u t (images t rs S) o j.0 in
      let e = no_jump_block v t (images t rs S) o j.1 in
      (⊎_elim f.0 e.0, ⊎_elim f.1 e.1)
  no_jump (loop rs s) t S o j = (λ x. x, λ x. x)
  no_jump (switch rs arms end) t S o j = no_jump_arms arms t (images t rs S) o j
  no_jump (scope s) t S o j = no_jump_block s t S o j
  no_jump (focus rs s es) t S o j = no_jump_block s t (images t rs S) o j
  no_jump (return rs) t S o j = (λ x. x, λ x. x)
  no_jump (jump c left) t S o j = (λ x. never j, λ x. never j)
    where
      never : IsTrue false → ⊥
      never x = search rules

  pub no_jump_block : (s : Block) (t : Tok) (S : Ones) (o : One) → IsJumpingBlock false s →
      (out_block t s S to_break o → ⊥) × (out_block t s S to_continue o → ⊥)
  no_jump_block (block ss bound end) t S o j = no_jump_stmts ss t S o j

  no_jump_stmts : (ss : Stmts) (t : Tok) (S : Ones) (o : One) → IsJumpingStmts false ss →
      (out_stmts t ss S to_break o → ⊥) × (out_stmts t ss S to_continue o → ⊥)
  no_jump_stmts done t S o j = (λ x. x, λ x. x)
  no_jump_stmts (next at s rest) t S o j =
      let f = no_jump s t S o j.0 in
      let e = no_jump_stmts rest t (out t s S to_next) o j.1 in
      (⊎_elim f.0 e.0, ⊎_elim f.1 e.1)

  no_jump_arms : (arms : Arms) (t : Tok) (S : Ones) (o : One) → IsJumpingArms false arms →
      (out_arms t arms S to_break o → ⊥) × (out_arms t arms S to_continue o → ⊥)
  no_jump_arms no_arms t S o j = (λ x. x, λ x. x)
  no_jump_arms (arm rs s rest) t S o j =
      let f = no_jump_block s t (images t rs S) o j.0 in
      let e = no_jump_arms rest t S o j.1 in
      (⊎_elim f.0 e.0, ⊎_elim f.1 e.1)
