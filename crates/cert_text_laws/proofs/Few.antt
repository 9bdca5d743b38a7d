-- A tool of the proof: trees in which each list of statements is no longer than a number, and no function has more than twice as
-- many in all.
use Rattle.std.specs.Prelude.{◌≤◌, ◌*◌, ℕ, suc, List, length}
use Rattle.vlt_syntax.specs.Tokens.{Token}
use Rattle.vlt_syntax.specs.Tree as s
use Rattle.vlt_syntax.specs.Tree.{Stmt, Block, If, Else, Stmts, Arms, Decl}
use Rattle.vlt_syntax.specs.Spelling.{block_then}
use Rattle.cert_text_laws.proofs.Totals.{total_block}

-- how many statements a list has itself
abbrev pub count_of : Stmts → ℕ
count_of s.done = 0
count_of (s.next x xs) = suc (count_of xs)

module _ (most : ℕ) where
  abbrev mutual
    pub StmtIsFew : Stmt → Type 0
    StmtIsFew (s.block body) = BlockIsFew body
    StmtIsFew (s.choose i) = IfIsFew i
    StmtIsFew (s.loop e body at) = BlockIsFew body
    StmtIsFew (s.switch x arms at) = ArmsAreFew arms
    StmtIsFew (s.focus x k z body at) = BlockIsFew body
    StmtIsFew x = Unit {0}

    pub BlockIsFew : Block → Type 0
    BlockIsFew (s.braced ss at) = (count_of ss ≤ most) × StmtsAreFew ss

    pub IfIsFew : If → Type 0
    IfIsFew (s.choice e body other at) = BlockIsFew body × ElseIsFew other

    pub ElseIsFew : Else → Type 0
    ElseIsFew s.nothing = Unit {0}
    ElseIsFew (s.last body) = BlockIsFew body
    ElseIsFew (s.chained i) = IfIsFew i

    pub StmtsAreFew : Stmts → Type 0
    StmtsAreFew s.done = Unit {0}
    StmtsAreFew (s.next x xs) = StmtIsFew x × StmtsAreFew xs

    pub ArmsAreFew : Arms → Type 0
    ArmsAreFew s.no_arms = Unit {0}
    ArmsAreFew (s.arm c vs body at more) = BlockIsFew body × ArmsAreFew more

  -- with some tokens after it the block has no more
  abbrev pub IsShortBlock : Block → Type 0
  IsShortBlock b = (rest : List Token) × (length (block_then b rest) ≤ most)

  abbrev pub DeclIsFew : Decl → Type 0
  DeclIsFew (s.function h body at) = BlockIsFew body × (total_block body ≤ 2 * most) × IsShortBlock body
  DeclIsFew d = Unit {0}
