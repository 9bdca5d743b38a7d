-- What is promised of the layout of a tree.
use Rattle.std.specs.Prelude.{◌≡◌, ℕ, List}
use Rattle.vlt_tokens.specs.Lexemes.{Lexeme}
use Rattle.vlt_lexer.specs.Text.{IsTokensOf}
use Rattle.vlt_syntax.specs.Tokens.{tokens_in}
use Rattle.vlt_syntax.specs.Tree.{Tree}
use Rattle.vlt_syntax.specs.Grammar.{IsTreeOf, IsPlacedTreeOf}
use Rattle.vlt_syntax.specs.Places.{Spans, tree_at}
use Rattle.vlt_printer.specs.Layout.{layout}

-- The trees are one but for their places: put into any text, they are the same tree.
abbrev pub AreAlike : Tree → Tree → Type 0
AreAlike t u = (spans : Spans) → (tree_at t spans 0).0 ≡ (tree_at u spans 0).0

-- The layout is a text of these tokens, and its tree is this one but for the places, so it is laid out just so. A number is its
-- value, so that leading zeros go.
pub record ReadsAs (t : Tree) (ls : List Lexeme) : Type 0 where
  pub lexemes : List Lexeme
  pub reads : IsTokensOf (layout t) lexemes
  pub tokens : tokens_in lexemes ≡ tokens_in ls
  pub tree : Tree
  pub placed : IsPlacedTreeOf lexemes tree
  pub same : AreAlike tree t
  pub again : layout tree ≡ layout t

-- The layout of a tree that some text reads is a text of the same tokens, and of the same tree.
abbrev pub IsReadAgain : Type 0
IsReadAgain = (text : List ℕ) (ls : List Lexeme) (t : Tree) → IsTokensOf text ls → IsTreeOf (tokens_in ls) t → ReadsAs t ls
