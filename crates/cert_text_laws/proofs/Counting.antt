-- Lists of statements are no longer than the tokens that spell them, and no function has more than two statements for each.
use Rattle.std.proofs.Common.{◌≤◌, ◌+◌, ℕ, suc, List, [], ◌∷◌, length, arith}
use Rattle.vlt_base.specs.Limits.{limit_of}
use Rattle.vlt_tokens.specs.declared.token.Mark.TheVariants as mark
use Rattle.vlt_syntax.specs.Tokens.{Token, sign}
use Rattle.vlt_syntax.specs.Tree as s
use Rattle.vlt_syntax.specs.Tree.{Stmts, Decl}
use Rattle.vlt_syntax.specs.Lists.{Each}
use Rattle.vlt_syntax.specs.Spelling.{name_then, stmt_then, block_then, if_then, else_then, stmts_then, arms_then, decl_then}
use Rattle.cert_text_laws.specs.Texts.{IsShort}
use Rattle.cert_text_laws.proofs.Few.{count_of, StmtIsFew, BlockIsFew, IfIsFew, ElseIsFew, StmtsAreFew, ArmsAreFew, DeclIsFew}
use Rattle.cert_text_laws.proofs.Shorter.{over, one, after_enclosed, after_name, after_condition, past_stmt, past_block, after_head}
use Rattle.cert_text_laws.proofs.Totals.{few_in_all}

counted : (ss : Stmts) (rest : List Token) → count_of ss + length rest ≤ length (stmts_then ss rest)
counted s.done rest = none (length rest)
  where
    none : (n : ℕ) → 0 + n ≤ n
    none n = omega arith
counted (s.next x xs) rest = next (count_of xs) (length rest) (length (stmts_then xs rest)) (length (stmts_then (s.next x xs) rest)) (counted xs rest) (past_stmt x _)
  where
    next : (a b c d : ℕ) → a + b ≤ c → suc c ≤ d → suc a + b ≤ d
    next a b c d x y = omega (arith, x, y)

module _ (most : ℕ) where
  abbrev Gives : {X : Type 0} → (X → List Token → List Token) → (X → Type 0) → Type 0
  Gives {X} spell P = (x : X) (rest : List Token) → length (spell x rest) ≤ most → P x

  -- what comes after some tokens is shorter
  less : {a b : ℕ} → a ≤ b → b ≤ most → a ≤ most
  less x y = over x y

  mutual
    in_stmt : Gives stmt_then (StmtIsFew most)
    in_stmt (s.block b) rest h = in_block b rest h
    in_stmt (s.choose i) rest h = in_if i rest h
    in_stmt (s.loop e b at) rest h = in_block b rest (less (after_condition e _) (one h))
    in_stmt (s.switch x arms at) rest h = in_arms arms _ (one (one (one (one (one h)))))
    in_stmt (s.focus x k z b at) rest h = in_block b rest (one (one (one (one (one (one (one (one h))))))))
    in_stmt (s.declare t x v at) rest h = tt
    in_stmt (s.assign x v at) rest h = tt
    in_stmt (s.put x f e at) rest h = tt
    in_stmt (s.call c at) rest h = tt
    in_stmt (s.print e at) rest h = tt
    in_stmt (s.break at) rest h = tt
    in_stmt (s.continue at) rest h = tt
    in_stmt (s.return v at) rest h = tt
    in_stmt (s.release x at) rest h = tt
    in_stmt (s.become x t at) rest h = tt
    in_stmt (s.swap x f v at) rest h = tt
    in_stmt (s.open_into x vs at) rest h = tt

    in_block : Gives block_then (BlockIsFew most)
    in_block (s.braced ss at) rest h = (front (count_of ss) (suc (length rest)) (length (stmts_then ss (sign mark.CloseBrace ∷ rest))) (counted ss _) (one h), in_stmts ss _ (one h))
      where
        front : (a b c : ℕ) → a + b ≤ c → c ≤ most → a ≤ most
        front a b c x y = omega (arith, x, y)

    in_if : Gives if_then (IfIsFew most)
    in_if (s.choice e b other at) rest h =
        let body = less (after_condition e _) (one h) in
        (in_block b _ body, in_else other rest (less (one (past_block b _)) body))

    in_else : Gives else_then (ElseIsFew most)
    in_else s.nothing rest h = tt
    in_else (s.last b) rest h = in_block b rest (one h)
    in_else (s.chained i) rest h = in_if i rest (one h)

    in_stmts : Gives stmts_then (StmtsAreFew most)
    in_stmts s.done rest h = tt
    in_stmts (s.next x xs) rest h = (in_stmt x _ h, in_stmts xs rest (less (one (past_stmt x _)) h))

    in_arms : Gives arms_then (ArmsAreFew most)
    in_arms s.no_arms rest h = tt
    in_arms (s.arm c vs b at others) rest h =
        let body = one (less (after_enclosed name_then after_name _ _ vs _) (one (one h))) in
        (in_block b _ body, in_arms others rest (less (one (past_block b _)) body))

  in_decl : Gives decl_then (DeclIsFew most)
  in_decl (s.stateset n ss at) rest h = tt
  in_decl (s.abstract n ss at) rest h = tt
  in_decl (s.struct n ps ss fs r at) rest h = tt
  in_decl (s.variant n ps cs at) rest h = tt
  in_decl (s.extern x at) rest h = tt
  in_decl (s.function x b at) rest h =
      let body = less (after_head x _) h in
      (in_block b rest body, few_in_all b rest most body, (rest, body))

pub few_statements : (ds : List Decl) → Each IsShort ds → Each (DeclIsFew (limit_of 3)) ds
few_statements [] h = tt
few_statements (d ∷ ds) h = (in_decl (limit_of 3) d h.0.0 h.0.1, few_statements ds h.1)
