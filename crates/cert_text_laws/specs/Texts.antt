-- Programs of texts keep the limits of certificates, and their functions have few statements.
use Rattle.std.specs.Prelude.{◌≡◌, ◌≤◌, ◌⊎◌, ℕ, List, [], ◌∷◌, length, Some, slice_get}
use Rattle.vlt_base.specs.Limits.{limit_of}
use Rattle.vlt_base.specs.declared.limits.TheConstants.{TOKENS}
use Rattle.vlt_tokens.specs.Lexemes.{Lexeme}
use Rattle.vlt_lexer.specs.Text.{IsTokensOf}
use Rattle.vlt_syntax.specs.Tokens.{Token, tokens_in}
use Rattle.vlt_syntax.specs.Tree.{Decl, Tree}
use Rattle.vlt_syntax.specs.Lists.{Each}
use Rattle.vlt_syntax.specs.Spelling.{decl_then, spelling}
use Rattle.vlt_syntax_laws.specs.Numbers.{HasNumbers}
use Rattle.vlt_core.specs.Core.{Func, Program}
use Rattle.vlt_kinds_types.specs.Kinds.{Kinds}
use Rattle.vlt_resolve_laws.specs.Elaborated.{IsElaborated}
use Rattle.cert_format.specs.Bodies.{count_list}
use Rattle.cert_fit_laws.specs.Limits.{IsLimitedProgram}
use Rattle.cert_text_laws.specs.Weights.{weight_list}

-- one of these tokens
abbrev pub IsAmong : Token → List Token → Type 0
IsAmong x [] = ⊥
IsAmong x (y ∷ ys) = (x ≡ y) ⊎ IsAmong x ys

-- a token of some text
pub record IsInText (x : Token) : Type 0 where
  pub bytes : List ℕ
  pub lexemes : List Lexeme
  pub read : IsTokensOf bytes lexemes
  pub one : IsAmong x (tokens_in lexemes)

-- with some tokens after it the declaration has no more than a text may have
abbrev pub IsShort : Decl → Type 0
IsShort d = (rest : List Token) × (length (decl_then d rest) ≤ limit_of TOKENS)

-- The program is what elaboration gives of a tree, which one text spells or several: each token of
-- the tree is one of a text, and no declaration has more of them than a text may have.
pub record IsProgramOfTexts (p : Program) : Type 0 where
  pub tree : Tree
  pub kinds : Kinds
  pub spelled : Each IsInText (spelling tree)
  pub short : Each IsShort tree.decls
  pub numbers : HasNumbers tree
  pub elaborated : IsElaborated tree kinds p

-- the program of texts keeps the limits of certificates
abbrev pub TextsAreLimited : Type 0
TextsAreLimited = (p : Program) → IsProgramOfTexts p → IsLimitedProgram p

-- so many statements a function of texts has at most, with those inside others: two for each token
-- of the longest text, and one at its end
abbrev pub most_of_function : ℕ
most_of_function = 524289

abbrev pub TextsHaveFewStatements : Type 0
TextsHaveFewStatements =
    (p : Program) → IsProgramOfTexts p → (g : ℕ) (f : Func) →
    slice_get p.fns g ≡ Some f → count_list f.body ≤ most_of_function

-- so much a body of texts weighs at most: three for each token of the longest text, and one at its end
abbrev pub most_weight : ℕ
most_weight = 786433

abbrev pub TextsAreLight : Type 0
TextsAreLight =
    (p : Program) → IsProgramOfTexts p → (g : ℕ) (f : Func) →
    slice_get p.fns g ≡ Some f → weight_list f.body ≤ most_weight
