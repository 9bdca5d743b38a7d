-- What one step of reading finds. Only private contracts cite this.
use Rattle.std.specs.Prelude.{◌≡◌, ℕ, ◌==◌, Bool, true, List, [], ◌∷◌, ◌++◌}
use Rattle.c_syntax.specs.Tokens as t
use Rattle.c_syntax.specs.Text.{Lexeme, AreTokensOf, fixed_piece, is_blank, is_run_byte, piece, Piece}
use Rattle.c_lexer.specs.declared.scan.Class.{Class}
use Rattle.c_lexer.specs.declared.scan.Class.TheVariants as class
use Rattle.c_lexer.specs.declared.scan.Mark.{Mark}
use Rattle.c_lexer.specs.declared.scan.Mark.TheVariants as mark
use Rattle.c_lexer.specs.declared.scan.First.{First}
use Rattle.c_lexer.specs.declared.scan.First.TheVariants as first

abbrev pub is_in : Class → ℕ → Bool
is_in class.Blank b = is_blank b
is_in class.Run b = is_run_byte b

abbrev pub mark_token : Mark → t.Token
mark_token (mark.Sign x) = t.sign x
mark_token (mark.Operator o) = t.operator o

-- a text may begin with this byte
abbrev pub may_begin : ℕ → List ℕ → Bool
may_begin b [] = true
may_begin b (c ∷ cs) = c == b

-- the text begins with this token, and after it that text stands, as those pieces say
pub record IsFirst (pieces : ℕ → List ℕ → Piece) (bytes : List ℕ) (token : t.Token) (after : List ℕ) : Type 0 where
  pub byte : ℕ
  pub rest : List ℕ
  pub begins : bytes ≡ byte ∷ rest
  pub is : token ≡ (pieces byte rest).0
  pub following : after ≡ (pieces byte rest).1

abbrev pub IsPiece : List ℕ → t.Token → List ℕ → Type 0
IsPiece bytes token after = IsFirst piece bytes token after

abbrev pub first_piece : First → ℕ → List ℕ → Piece
first_piece first.Include = fixed_piece t.include
first_piece first.LineEnd = fixed_piece t.line_end
first_piece first.Define = fixed_piece t.define
first_piece first.Number = piece

-- after these tokens those of the rest of a text of so many bytes are added
pub record AreOthers (total : ℕ) (bytes : List ℕ) (before all : List Lexeme) : Type 0 where
  pub more : List Lexeme
  pub are : AreTokensOf total bytes more
  pub following : all ≡ before ++ more
