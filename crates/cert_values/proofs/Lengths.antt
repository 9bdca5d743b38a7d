-- Heads of blocks and of arms.
use Rattle.std.proofs.Common.{◌≡◌, suc, refl, ap, ◌∙◌, List, [], ◌∷◌, map, length}
use Rattle.vlt_core.specs.View.{tok_of, vars_of, stmts_made, stmt_of, block_of, arms_of}
use Rattle.vlt_core.specs.declared.program.Stmt.{Stmt}
use Rattle.vlt_core.specs.declared.program.Block.{Block, out-Block}
use Rattle.vlt_core.specs.declared.program.Arm.{Arm, out-Arm}
use Rattle.vlt_core.proofs.Views.{block_parts, arm_parts as core_arm_parts}
use Rattle.cert_format.specs.Bodies.{length_of}
use Rattle.cert_values.specs.Heads.{head_of, heads_of, arm_head}

pub length_made : (ss : List Stmt) → length_of (stmts_made (map stmt_of ss)) ≡ length ss
length_made [] = refl
length_made (s ∷ ss) = ap suc (length_made ss)

pub head_parts : (b : Block) → head_of (block_of b) ≡ (length (out-Block b).stmts, map tok_of (out-Block b).bound)
head_parts b = ap head_of (block_parts b) ∙ ap (λ n. (n, map tok_of (out-Block b).bound)) (length_made (out-Block b).stmts)

pub arm_head_parts : (a : Arm) → arm_head a ≡ ((out-Arm a).case, vars_of (out-Arm a).vars, length (out-Block (out-Arm a).body).stmts, map tok_of (out-Block (out-Arm a).body).bound)
arm_head_parts a =
    ap (λ x. (x.0, x.1, (head_of x.2).0, (head_of x.2).1)) (core_arm_parts a) ∙
    ap (λ h. ((out-Arm a).case, vars_of (out-Arm a).vars, h.0, h.1)) (head_parts (out-Arm a).body)

pub heads_map : (xs : List Arm) → heads_of (arms_of xs) ≡ map arm_head xs
heads_map [] = refl
heads_map (x ∷ xs) = ap (λ r. arm_head x ∷ r) (heads_map xs)
