-- How lists of things are spelled. A thing's spelling is given as the tokens of it, and then others.
use Rattle.std.specs.Prelude.{List, [], ◌∷◌}
use Rattle.vlt_tokens.specs.declared.token.Mark.{Mark}
use Rattle.vlt_tokens.specs.declared.token.Mark.TheVariants.{Comma}
use Rattle.vlt_syntax.specs.Tokens.{Token, sign}

-- one thing after another
abbrev pub each_then : {X : Type 0} → (X → List Token → List Token) → List X → List Token → List Token
each_then spell [] rest = rest
each_then spell (x ∷ xs) rest = spell x (each_then spell xs rest)

-- further things, a comma before each, and the closing sign
abbrev pub further_then : {X : Type 0} → (X → List Token → List Token) → Mark → List X → List Token → List Token
further_then spell closing [] rest = sign closing ∷ rest
further_then spell closing (x ∷ xs) rest = sign Comma ∷ spell x (further_then spell closing xs rest)

-- things with commas between them, and the closing sign
abbrev pub listed_then : {X : Type 0} → (X → List Token → List Token) → Mark → List X → List Token → List Token
listed_then spell closing [] rest = sign closing ∷ rest
listed_then spell closing (x ∷ xs) rest = spell x (further_then spell closing xs rest)

-- such a list after its opening sign, or nothing where there is no thing
abbrev pub enclosed_then : {X : Type 0} → (X → List Token → List Token) → Mark → Mark → List X → List Token → List Token
enclosed_then spell opening closing [] rest = rest
enclosed_then spell opening closing (x ∷ xs) rest = sign opening ∷ listed_then spell closing (x ∷ xs) rest

-- the fact holds for each thing
abbrev pub Each : {X : Type 0} → (X → Type 0) → List X → Type 0
Each P [] = Unit {0}
Each P (x ∷ xs) = P x × Each P xs

-- there is one thing or more
abbrev pub IsFilled : {X : Type 0} → List X → Type 0
IsFilled [] = ⊥
IsFilled (x ∷ xs) = Unit {0}
