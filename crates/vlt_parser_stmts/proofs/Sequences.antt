-- Statements and arms, which end where a brace comes.
use Rattle.std.proofs.Common.{◌≡◌, ℕ, List, [], ◌∷◌, ◌++◌, refl, ap}
use Rattle.vlt_syntax.specs.Tokens.{Token}
use Rattle.vlt_syntax.specs.Tree as s
use Rattle.vlt_syntax.specs.Spelling.{stmt_then, stmts_then, arms_then}
use Rattle.vlt_syntax.specs.Grammar.{IsStmt, AreStmts, AreArms, IsSomeArm, language}
use Rattle.vlt_syntax.specs.View.{ArmView, stmts_made, arms_made}

pub stmts_then-append : (xs : List s.Stmt) (x : s.Stmt) (rest : List Token)
    → stmts_then (stmts_made (xs ++ x ∷ [])) rest ≡ stmts_then (stmts_made xs) (stmt_then x rest)
stmts_then-append [] x rest = refl
stmts_then-append (y ∷ ys) x rest = ap (stmt_then y) (stmts_then-append ys x rest)

pub are_stmts-append : (room : ℕ) (xs : List s.Stmt) (x : s.Stmt) → AreStmts language room (stmts_made xs) → IsStmt language room x → AreStmts language room (stmts_made (xs ++ x ∷ []))
are_stmts-append room [] x are is = (is, tt)
are_stmts-append room (y ∷ ys) x are is = (are.0, are_stmts-append room ys x are.1 is)

pub arms_then-append : (before : List ArmView) (a : ArmView) (rest : List Token)
    → arms_then (arms_made (before ++ a ∷ [])) rest ≡ arms_then (arms_made before) (arms_then (arms_made (a ∷ [])) rest)
arms_then-append [] a rest = refl
arms_then-append (b ∷ bs) a rest = ap (λ ts. arms_then (arms_made (b ∷ [])) ts) (arms_then-append bs a rest)

pub are_arms-append : (room : ℕ) (before : List ArmView) (a : ArmView) → AreArms language room (arms_made before) → AreArms language room (arms_made (a ∷ [])) → AreArms language room (arms_made (before ++ a ∷ []))
are_arms-append room [] a are is = is
are_arms-append room (b ∷ bs) a are is = (are.0, are_arms-append room bs a are.1 is)

pub some_arm-append : (before : List ArmView) (a : ArmView) → IsSomeArm (arms_made (before ++ a ∷ []))
some_arm-append [] a = tt
some_arm-append (b ∷ bs) a = tt
