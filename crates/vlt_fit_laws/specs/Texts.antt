-- The tree of a text is one as texts have them.
use Rattle.std.specs.Prelude.{ℕ, List}
use Rattle.vlt_tokens.specs.Lexemes.{Lexeme}
use Rattle.vlt_lexer.specs.Text.{IsTokensOf}
use Rattle.vlt_syntax.specs.Tokens.{tokens_in}
use Rattle.vlt_syntax.specs.Tree.{Tree}
use Rattle.vlt_syntax.specs.Grammar.{IsTreeOf}
use Rattle.vlt_fit_laws.specs.Fit.{IsTextTree}

abbrev pub TextsHaveTextTrees : Type 0
TextsHaveTextTrees = (bytes : List ℕ) (ls : List Lexeme) (t : Tree) →
    IsTokensOf bytes ls → IsTreeOf (tokens_in ls) t → IsTextTree t
