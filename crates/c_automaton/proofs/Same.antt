-- Words and signs of one number are one.
use Rattle.std.proofs.Common.{◌≡◌, ◌==◌, true, List, [], ◌∷◌, Some, refl, sym, ap, ◌∙◌}
use Rattle.std.specs.Prelude.{slice_get}
use Rattle.std.proofs.lemmas.Bool.{eqb-true, eq-eqb}
use Rattle.c_syntax.specs.declared.token.CWord.{CWord}
use Rattle.c_syntax.specs.declared.token.CWord.TheVariants as w
use Rattle.c_syntax.specs.declared.token.CSign.{CSign}
use Rattle.c_syntax.specs.declared.token.CSign.TheVariants as s
use Rattle.c_automaton.specs.Automaton.{word_number, sign_number}

-- in the order of their numbers
abbrev words : List CWord
words = w.Void ∷ w.Long ∷ w.Ref ∷ w.If ∷ w.Else ∷ w.While ∷ w.Break ∷ w.Continue ∷ w.Return ∷ w.Null ∷ w.Numbers ∷ w.References ∷ []

abbrev signs : List CSign
signs = s.Arrow ∷ s.OpenBrace ∷ s.CloseBrace ∷ s.OpenParen ∷ s.CloseParen ∷ s.OpenBracket ∷ s.CloseBracket ∷ s.Semicolon ∷ s.Comma ∷ s.Assign ∷ []

word_back : (x : CWord) → slice_get words (word_number x) ≡ Some x
word_back w.Void = refl
word_back w.Long = refl
word_back w.Ref = refl
word_back w.If = refl
word_back w.Else = refl
word_back w.While = refl
word_back w.Break = refl
word_back w.Continue = refl
word_back w.Return = refl
word_back w.Null = refl
word_back w.Numbers = refl
word_back w.References = refl

sign_back : (x : CSign) → slice_get signs (sign_number x) ≡ Some x
sign_back s.Arrow = refl
sign_back s.OpenBrace = refl
sign_back s.CloseBrace = refl
sign_back s.OpenParen = refl
sign_back s.CloseParen = refl
sign_back s.OpenBracket = refl
sign_back s.CloseBracket = refl
sign_back s.Semicolon = refl
sign_back s.Comma = refl
sign_back s.Assign = refl

some_word : (x y : CWord) → Some x ≡ Some y → x ≡ y
some_word x y e = cc

some_sign : (x y : CSign) → Some x ≡ Some y → x ≡ y
some_sign x y e = cc

pub same_word : (x y : CWord) → (word_number x == word_number y) ≡ true → x ≡ y
same_word x y same = some_word x y (sym (word_back x) ∙ ap (slice_get words) (eqb-true (word_number x) (word_number y) same) ∙ word_back y)

pub same_sign : (x y : CSign) → (sign_number x == sign_number y) ≡ true → x ≡ y
same_sign x y same = some_sign x y (sym (sign_back x) ∙ ap (slice_get signs) (eqb-true (sign_number x) (sign_number y) same) ∙ sign_back y)

pub word_itself : (x : CWord) → (word_number x == word_number x) ≡ true
word_itself x = eq-eqb (word_number x) (word_number x) refl

pub sign_itself : (x : CSign) → (sign_number x == sign_number x) ≡ true
sign_itself x = eq-eqb (sign_number x) (sign_number x) refl
