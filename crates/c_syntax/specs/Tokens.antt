-- The tokens of a C text, and how each is spelled.
use Rattle.std.specs.Prelude.{ℕ, ℤ, Bool, true, false, List, [], ◌∷◌, ◌++◌, codes}
use Rattle.std.specs.Fmt.{decimal, signed_decimal}
use Rattle.vlt_ops.specs.declared.Op.{Op}
use Rattle.vlt_ops.specs.Operator.{row_of}
use Rattle.c_syntax.specs.declared.program.CVar.{CVar}
use Rattle.c_syntax.specs.declared.program.CName.{CName}
use Rattle.c_syntax.specs.declared.program.CPrim.{CPrim}
use Rattle.c_syntax.specs.declared.program.CPrim.TheVariants as prim
use Rattle.c_syntax.specs.declared.token.CWord.{CWord}
use Rattle.c_syntax.specs.declared.token.CWord.TheVariants as w
use Rattle.c_syntax.specs.declared.token.CSign.{CSign}
use Rattle.c_syntax.specs.declared.token.CSign.TheVariants as s

pub data Token : Type 0 where
  -- the text of the first line, its end, and what stands before the number in the second line
  include : Token
  line_end : Token
  define : Token
  word : CWord → Token
  sign : CSign → Token
  -- `-` is the operator between two operands, also where it stands before one
  operator : Op → Token
  primitive : CPrim → Token
  variable : CVar → Token
  name : CName → Token
  number : ℤ → Token
  text : List ℕ → Token
  -- a byte or a run of bytes that is no token of the grammar
  stray : Token

abbrev pub word_text : CWord → List ℕ
word_text w.Void = codes "void"
word_text w.Long = codes "long"
word_text w.Ref = codes "vr_ref"
word_text w.If = codes "if"
word_text w.Else = codes "else"
word_text w.While = codes "while"
word_text w.Break = codes "break"
word_text w.Continue = codes "continue"
word_text w.Return = codes "return"
word_text w.Null = codes "vr_null"
word_text w.Numbers = codes "n"
word_text w.References = codes "r"

abbrev pub sign_text : CSign → List ℕ
sign_text s.Arrow = codes "->"
sign_text s.OpenBrace = codes "{"
sign_text s.CloseBrace = codes "}"
sign_text s.OpenParen = codes "("
sign_text s.CloseParen = codes ")"
sign_text s.OpenBracket = codes "["
sign_text s.CloseBracket = codes "]"
sign_text s.Semicolon = codes ";"
sign_text s.Comma = codes ","
sign_text s.Assign = codes "="

abbrev pub prim_text : CPrim → List ℕ
prim_text prim.New = codes "vr_new"
prim_text prim.Own = codes "vr_own"
prim_text prim.Disown = codes "vr_disown"
prim_text prim.Parent = codes "vr_parent"
prim_text prim.Release = codes "vr_release"
prim_text prim.Trap = codes "vr_trap"
prim_text prim.Print = codes "vr_print"
prim_text prim.Read = codes "vr_read"
prim_text prim.More = codes "vr_more"
prim_text prim.PutN = codes "vr_put_n"
prim_text prim.GetN = codes "vr_get_n"
prim_text prim.PutP = codes "vr_put_p"
prim_text prim.GetP = codes "vr_get_p"
prim_text prim.Call = codes "vr_call"
prim_text prim.ArgN = codes "vr_arg_n"
prim_text prim.ArgP = codes "vr_arg_p"
prim_text prim.Ask = codes "vr_ask"
prim_text prim.Int = codes "vr_int"
prim_text prim.Pick = codes "vr_pick"
prim_text prim.Out = codes "vr_out"
prim_text prim.Back = codes "vr_back"
prim_text prim.End = codes "vr_end"

abbrev pub include_text : List ℕ
include_text = codes "#include \"vault_rt.h\""

abbrev pub define_text : List ℕ
define_text = codes "#define VR_MAIN f"

-- the letter of a variable's and of a function's name
abbrev pub variable_letter : CVar → ℕ
variable_letter v = letter v.reference
  where
    letter : Bool → ℕ
    letter true = 112
    letter false = 110

abbrev pub name_letter : CName → ℕ
name_letter f = letter f.glue
  where
    letter : Bool → ℕ
    letter true = 101
    letter false = 102

abbrev pub token_text : Token → List ℕ
token_text include = include_text
token_text line_end = 10 ∷ []
token_text define = define_text
token_text (word x) = word_text x
token_text (sign x) = sign_text x
token_text (operator o) = (row_of o).sign
token_text (primitive p) = prim_text p
token_text (variable v) = variable_letter v ∷ decimal v.number
token_text (name f) = name_letter f ∷ decimal f.number
token_text (number z) = signed_decimal z
token_text (text cs) = 34 ∷ cs ++ 34 ∷ []
token_text stray = []
