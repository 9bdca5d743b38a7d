-- The canonical text of a program.
use Rattle.std.specs.Prelude.{◌≡◌, ◌≤◌, ℕ, pos, Bool, true, false, if◌then◌else◌, List, [], ◌∷◌, ◌++◌, map, Option, Some, None, slice_get}
use Rattle.std.specs.Fmt.{decimal}
use Rattle.std.specs.List.Sorted.{IsSorted}
use Rattle.c_syntax.specs.declared.program.CVar.{CVar}
use Rattle.c_syntax.specs.declared.token.CSign.TheVariants as s
use Rattle.c_syntax.specs.declared.token.CWord.TheVariants as w
use Rattle.c_syntax.specs.C.{Func, Program}
use Rattle.c_syntax.specs.Unit.{Declaration, Head, Body, TranslationUnit}
use Rattle.c_syntax.specs.Tokens as t
use Rattle.c_syntax.specs.Tokens.{Token, token_text, include_text, define_text}
use Rattle.c_syntax.specs.Spelling.{spelling, functions_then}
use Rattle.c_syntax.specs.Grammar.{language, IsUnit}
use Rattle.c_syntax.specs.Kinds.{unit_refusal}
use Rattle.c_syntax.specs.Text.{max_number, is_run_byte, is_text_name}
use Rattle.c_syntax.specs.Programs.{variable_order}

-- ---- a program as it is written

-- each name with the type of its letter
abbrev pub declaration_of : CVar → Declaration
declaration_of v = record { reference = v.reference; variable = v }

abbrev pub head_of : Bool → Func → Head
head_of glue f = record { result = f.result; name = record { glue = glue; number = f.number }; params = map declaration_of f.params }

abbrev pub body_of : Bool → Func → Body
body_of glue f = record { head = head_of glue f; vars = map declaration_of f.vars; stmts = f.body }

abbrev pub main_number : Option Func → ℕ
main_number None = 0
main_number (Some f) = f.number

-- glue first, heads and bodies in the same order
abbrev pub unit_of : Program → TranslationUnit
unit_of p = record {
  main = main_number (slice_get p.fns p.main);
  heads = map (head_of true) p.glue ++ map (head_of false) p.fns;
  bodies = map (body_of true) p.glue ++ map (body_of false) p.fns;
}

-- ---- lines

abbrev pub begins_else : List Token → Bool
begins_else (t.word w.Else ∷ rest) = true
begins_else _ = false

abbrev pub line_feed : List ℕ
line_feed = 10 ∷ []

abbrev pub space : List ℕ
space = 32 ∷ []

-- what stands after a token: a line ends with `;`, `{` and `}`, but `} else {` is one line
abbrev pub gap : Token → List Token → List ℕ
gap (t.sign s.Semicolon) rest = line_feed
gap (t.sign s.OpenBrace) rest = line_feed
gap (t.sign s.CloseBrace) rest = if begins_else rest then space else line_feed
gap _ rest = space

abbrev pub text_of_tokens : List Token → List ℕ
text_of_tokens [] = []
text_of_tokens (x ∷ xs) = token_text x ++ gap x xs ++ text_of_tokens xs

abbrev pub canonical_text : Program → List ℕ
canonical_text p = include_text ++ line_feed ++ define_text ++ decimal (unit_of p).main ++ line_feed ++ text_of_tokens (functions_then (unit_of p) [])

-- ---- which programs have one that reads as the program

-- the token can be read from its text
abbrev pub EachIs : (ℕ → Bool) → List ℕ → Type 0
EachIs is [] = Unit {0}
EachIs is (b ∷ bs) = (is b ≡ true) × EachIs is bs

abbrev pub IsReadable : Token → Type 0
IsReadable (t.variable v) = v.number ≤ max_number
IsReadable (t.name f) = f.number ≤ max_number
IsReadable (t.number z) = (n : ℕ) × (z ≡ pos n) × (n ≤ max_number)
IsReadable (t.text cs) = (is_text_name cs ≡ true) × EachIs is_run_byte cs
IsReadable _ = Unit {0}

abbrev pub AreReadable : List Token → Type 0
AreReadable [] = Unit {0}
AreReadable (x ∷ xs) = IsReadable x × AreReadable xs

abbrev pub AreSorted : List Func → Type 0
AreSorted [] = Unit {0}
AreSorted (f ∷ fs) = IsSorted variable_order f.vars × AreSorted fs

-- it keeps the kinds and the limits, its numbers and strings are of the grammar, and its variables stand in order
pub record IsProgram (p : Program) : Type 0 where
  pub main : (f : Func) × (slice_get p.fns p.main ≡ Some f)
  pub within : IsUnit language (unit_of p)
  pub kinds : (places : List ℕ) → unit_refusal places (unit_of p) ≡ None
  pub readable : AreReadable (spelling (unit_of p))
  pub glue_sorted : AreSorted p.glue
  pub fns_sorted : AreSorted p.fns
