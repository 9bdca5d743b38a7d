-- Two modules are together a program of texts.
use Rattle.std.specs.Prelude.{◌≡◌, ◌≤◌, ℕ, List, length, Ok}
use Rattle.vlt_base.specs.Limits.{limit_of}
use Rattle.vlt_base.specs.declared.limits.TheConstants.{TOKENS}
use Rattle.vlt_tokens.specs.Lexemes.{Lexeme}
use Rattle.vlt_lexer.specs.Text.{IsTokensOf}
use Rattle.vlt_syntax.specs.Tokens.{tokens_in}
use Rattle.vlt_syntax.specs.Tree.{Tree}
use Rattle.vlt_syntax.specs.Grammar.{IsTreeOf}
use Rattle.vlt_core.specs.Core.{Program}
use Rattle.vlt_elaboration.specs.Programs.{program_told}
use Rattle.vlt_iface.specs.Told.{joined_told}
use Rattle.cert_text_laws.specs.Texts.{IsProgramOfTexts}

-- Some bytes are a text of the tree, of no more tokens than a text may have.
pub record IsTreeOfText (t : Tree) : Type 0 where
  pub bytes : List ℕ
  pub lexemes : List Lexeme
  pub tokens : IsTokensOf bytes lexemes
  pub few : length lexemes ≤ limit_of TOKENS
  pub tree : IsTreeOf (tokens_in lexemes) t

-- The program of the joined tree that is told of three such trees is one of texts.
abbrev pub JoinedProgramsAreOfTexts : Type 0
JoinedProgramsAreOfTexts =
    (i f g t : Tree) (p : Program) → IsTreeOfText i → IsTreeOfText f → IsTreeOfText g →
    joined_told i f g ≡ Ok t → program_told t ≡ Ok p → IsProgramOfTexts p
