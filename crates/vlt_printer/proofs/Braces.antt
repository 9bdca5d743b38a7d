-- What is between braces, or between two layouts, that are not an empty pair.
use Rattle.std.proofs.Common.{◌≡◌, ℕ, List, [], ◌∷◌, ◌++◌, map, length, refl, ap, ◌∙◌, rules}
use Rattle.std.specs.Prelude.{codes}
use Rattle.vlt_base.specs.declared.places.Span.{Span}
use Rattle.vlt_syntax.specs.Tree as s
use Rattle.vlt_syntax.specs.Tree.{Name, Case}
use Rattle.vlt_syntax.specs.declared.tree.Name.{Name as CodeName}
use Rattle.vlt_syntax.specs.declared.tree.Stmt.{Stmt, Switch, the_lemmas}
use Rattle.vlt_syntax.specs.declared.tree.Arm.{Arm}
use Rattle.vlt_syntax.specs.declared.tree.Block.{Block, out-Block}
use Rattle.vlt_syntax.specs.declared.tree.Else.TheFolds.{fold_out-Block}
use Rattle.vlt_syntax.specs.View.{ArmView, else_step, stmt_step, arm_step, block_step, if_step, name_of, stmt_of, stmts_of, arms_of, block_of}
use Rattle.vlt_base.specs.Layout.{Layout, text}
use Rattle.vlt_printer.specs.Lists.{separated_after, listed_after, enclosed_after, braced_after}
use Rattle.vlt_printer.specs.Layout.{deeper, name_after, case_after, cases_after, stmt_after, stmts_after, block_after, arms_after}

some_stmts : (indent before : List ℕ) (stmts : List Stmt) (at : Span) → (length stmts ≡ 0 → ⊥)
    → block_after indent (s.braced (stmts_of stmts) at) before ≡ stmts_after (deeper indent) (stmts_of stmts) (before ++ codes "{\n") ++ indent ++ codes "}"
some_stmts indent before [] at some = absurd (some refl)
some_stmts indent before (x ∷ xs) at some = refl

-- a block with statements
pub some_block : (indent before : List ℕ) (b : Block) → (length (out-Block b).stmts ≡ 0 → ⊥)
    → block_after indent (block_of b) before ≡ stmts_after (deeper indent) (stmts_of (out-Block b).stmts) (before ++ codes "{\n") ++ indent ++ codes "}"
some_block indent before b some =
    ap (λ b. block_after indent b before) (fold_out-Block s.Else s.Stmt ArmView s.Block s.If else_step stmt_step arm_step block_step if_step b)
    ∙ some_stmts indent before (out-Block b).stmts (out-Block b).at some

-- a switch with arms
pub some_arms : (indent before : List ℕ) (x : Name) (arms : List Arm) (at : Span) → (length arms ≡ 0 → ⊥)
    → stmt_after indent (s.switch x (arms_of arms) at) before ≡ arms_after (deeper indent) (arms_of arms) (name_after x (before ++ codes "switch (") ++ codes ") {\n") ++ indent ++ codes "}"
some_arms indent before x [] at some = absurd (some refl)
some_arms indent before x (a ∷ arms) at some = refl

pub switch_seen : (x : CodeName) (arms : List Arm) (at : Span) → stmt_of (Switch x arms at) ≡ s.switch (name_of x) (arms_of arms) at
switch_seen x arms at = search (rules, the_lemmas)

-- a list of some things, between two layouts
pub some_enclosed : {X Y : Type 0} (opening closing : Layout) (after : Y → Layout) (view : X → Y) (xs : List X) (before : List ℕ) → (length xs ≡ 0 → ⊥)
    → enclosed_after opening closing after (map view xs) before ≡ closing (listed_after after (map view xs) (opening before))
some_enclosed opening closing after view [] before some = absurd (some refl)
some_enclosed opening closing after view (x ∷ xs) before some = refl

-- a list of some things, between braces
pub some_braced : {X Y : Type 0} (after : Y → Layout) (view : X → Y) (xs : List X) (before : List ℕ) → (length xs ≡ 0 → ⊥)
    → braced_after after (map view xs) before ≡ listed_after after (map view xs) (before ++ codes "{ ") ++ codes " }"
some_braced after view [] before some = absurd (some refl)
some_braced after view (x ∷ xs) before some = refl

-- the body of a variant with cases
pub some_cases : {X : Type 0} (view : X → Case) (xs : List X) (before : List ℕ) → (length xs ≡ 0 → ⊥)
    → cases_after (map view xs) before ≡ separated_after (text ",\n    ") case_after (map view xs) (before ++ codes "{\n    ") ++ codes "\n}"
some_cases view [] before some = absurd (some refl)
some_cases view (x ∷ xs) before some = refl
