-- Words of the same number are the same, and so are signs.
use Rattle.std.proofs.Common.{◌≡◌, List, [], ◌∷◌, slice_get, true, Some, refl, sym, ap, ◌∙◌}
use Rattle.std.proofs.lemmas.Bool.{eqb-true, eq-eqb}
use Rattle.vlt_tokens.specs.declared.token.Word.{Word}
use Rattle.vlt_tokens.specs.declared.token.Word.TheVariants as word
use Rattle.vlt_tokens.specs.declared.token.Mark.{Mark}
use Rattle.vlt_tokens.specs.declared.token.Mark.TheVariants as mark
use Rattle.vlt_automaton.specs.Words.{word_number, mark_number, same_word, same_mark}

-- in the order of their numbers
abbrev words : List Word
words =
    word.Abstract ∷ word.Adopt ∷ word.As ∷ word.Become ∷ word.Bool ∷ word.Break ∷ word.Case ∷ word.Continue ∷
    word.Else ∷ word.Extern ∷ word.False ∷ word.Focus ∷ word.If ∷ word.Input ∷ word.Int ∷ word.Into ∷ word.More ∷
    word.New ∷ word.Open ∷ word.Print ∷ word.Release ∷ word.Return ∷ word.Stateset ∷ word.Struct ∷ word.Swap ∷
    word.Switch ∷ word.Tracked ∷ word.True ∷ word.Variant ∷ word.Void ∷ word.While ∷ []

word_back : (x : Word) → slice_get words (word_number x) ≡ Some x
word_back word.Abstract = refl
word_back word.Adopt = refl
word_back word.As = refl
word_back word.Become = refl
word_back word.Bool = refl
word_back word.Break = refl
word_back word.Case = refl
word_back word.Continue = refl
word_back word.Else = refl
word_back word.Extern = refl
word_back word.False = refl
word_back word.Focus = refl
word_back word.If = refl
word_back word.Input = refl
word_back word.Int = refl
word_back word.Into = refl
word_back word.More = refl
word_back word.New = refl
word_back word.Open = refl
word_back word.Print = refl
word_back word.Release = refl
word_back word.Return = refl
word_back word.Stateset = refl
word_back word.Struct = refl
word_back word.Swap = refl
word_back word.Switch = refl
word_back word.Tracked = refl
word_back word.True = refl
word_back word.Variant = refl
word_back word.Void = refl
word_back word.While = refl

some_word : (x y : Word) → Some x ≡ Some y → x ≡ y
some_word x y e = cc

pub same_word-true : (x y : Word) → same_word x y ≡ true → x ≡ y
same_word-true x y same = some_word x y (sym (word_back x) ∙ ap (slice_get words) (eqb-true (word_number x) (word_number y) same) ∙ word_back y)

pub same_word-refl : (x : Word) → same_word x x ≡ true
same_word-refl x = eq-eqb (word_number x) (word_number x) refl

-- in the order of their numbers
abbrev marks : List Mark
marks =
    mark.OpenBrace ∷ mark.CloseBrace ∷ mark.OpenParen ∷ mark.CloseParen ∷ mark.OpenBracket ∷ mark.CloseBracket ∷
    mark.Less ∷ mark.Greater ∷ mark.Comma ∷ mark.Semicolon ∷ mark.Colon ∷ mark.Dot ∷ mark.At ∷ mark.Arrow ∷
    mark.Assign ∷ mark.Plus ∷ mark.Minus ∷ mark.Star ∷ mark.Slash ∷ mark.Percent ∷ mark.Not ∷ mark.And ∷ mark.Or ∷
    mark.Xor ∷ mark.AndAnd ∷ mark.OrOr ∷ mark.Equal ∷ mark.NotEqual ∷ mark.LessEqual ∷ mark.GreaterEqual ∷ []

mark_back : (x : Mark) → slice_get marks (mark_number x) ≡ Some x
mark_back mark.OpenBrace = refl
mark_back mark.CloseBrace = refl
mark_back mark.OpenParen = refl
mark_back mark.CloseParen = refl
mark_back mark.OpenBracket = refl
mark_back mark.CloseBracket = refl
mark_back mark.Less = refl
mark_back mark.Greater = refl
mark_back mark.Comma = refl
mark_back mark.Semicolon = refl
mark_back mark.Colon = refl
mark_back mark.Dot = refl
mark_back mark.At = refl
mark_back mark.Arrow = refl
mark_back mark.Assign = refl
mark_back mark.Plus = refl
mark_back mark.Minus = refl
mark_back mark.Star = refl
mark_back mark.Slash = refl
mark_back mark.Percent = refl
mark_back mark.Not = refl
mark_back mark.And = refl
mark_back mark.Or = refl
mark_back mark.Xor = refl
mark_back mark.AndAnd = refl
mark_back mark.OrOr = refl
mark_back mark.Equal = refl
mark_back mark.NotEqual = refl
mark_back mark.LessEqual = refl
mark_back mark.GreaterEqual = refl

some_mark : (x y : Mark) → Some x ≡ Some y → x ≡ y
some_mark x y e = cc

pub same_mark-true : (x y : Mark) → same_mark x y ≡ true → x ≡ y
same_mark-true x y same = some_mark x y (sym (mark_back x) ∙ ap (slice_get marks) (eqb-true (mark_number x) (mark_number y) same) ∙ mark_back y)

pub same_mark-refl : (x : Mark) → same_mark x x ≡ true
same_mark-refl x = eq-eqb (mark_number x) (mark_number x) refl
