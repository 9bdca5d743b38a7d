-- Which keyword and which sign a token is, as numbers that can be compared.
use Rattle.std.specs.Prelude.{ℕ, Bool, ◌==◌}
use Rattle.vlt_tokens.specs.declared.token.Word.{Word}
use Rattle.vlt_tokens.specs.declared.token.Word.TheVariants as word
use Rattle.vlt_tokens.specs.declared.token.Mark.{Mark}
use Rattle.vlt_tokens.specs.declared.token.Mark.TheVariants as mark

abbrev pub word_number : Word → ℕ
word_number word.Abstract = 0
word_number word.Adopt = 1
word_number word.As = 2
word_number word.Become = 3
word_number word.Bool = 4
word_number word.Break = 5
word_number word.Case = 6
word_number word.Continue = 7
word_number word.Else = 8
word_number word.Extern = 9
word_number word.False = 10
word_number word.Focus = 11
word_number word.If = 12
word_number word.Input = 13
word_number word.Int = 14
word_number word.Into = 15
word_number word.More = 16
word_number word.New = 17
word_number word.Open = 18
word_number word.Print = 19
word_number word.Release = 20
word_number word.Return = 21
word_number word.Stateset = 22
word_number word.Struct = 23
word_number word.Swap = 24
word_number word.Switch = 25
word_number word.Tracked = 26
word_number word.True = 27
word_number word.Variant = 28
word_number word.Void = 29
word_number word.While = 30

abbrev pub mark_number : Mark → ℕ
mark_number mark.OpenBrace = 0
mark_number mark.CloseBrace = 1
mark_number mark.OpenParen = 2
mark_number mark.CloseParen = 3
mark_number mark.OpenBracket = 4
mark_number mark.CloseBracket = 5
mark_number mark.Less = 6
mark_number mark.Greater = 7
mark_number mark.Comma = 8
mark_number mark.Semicolon = 9
mark_number mark.Colon = 10
mark_number mark.Dot = 11
mark_number mark.At = 12
mark_number mark.Arrow = 13
mark_number mark.Assign = 14
mark_number mark.Plus = 15
mark_number mark.Minus = 16
mark_number mark.Star = 17
mark_number mark.Slash = 18
mark_number mark.Percent = 19
mark_number mark.Not = 20
mark_number mark.And = 21
mark_number mark.Or = 22
mark_number mark.Xor = 23
mark_number mark.AndAnd = 24
mark_number mark.OrOr = 25
mark_number mark.Equal = 26
mark_number mark.NotEqual = 27
mark_number mark.LessEqual = 28
mark_number mark.GreaterEqual = 29

abbrev pub same_word : Word → Word → Bool
same_word v w = word_number v == word_number w

abbrev pub same_mark : Mark → Mark → Bool
same_mark m n = mark_number m == mark_number n
