-- The text of a certificate as it is written.
use Rattle.std.specs.Prelude.{◌≡◌, List, [], ◌∷◌, ⊤}
use Rattle.std.specs.Str.{IsUtf8}
use Rattle.json.specs.Token.{Token, begin_object, end_object, begin_array, end_array, key, string, number, boolean, null, bad}
use Rattle.cert_format.specs.Text.{opening}
use Rattle.cert_values.specs.declared.text.CertText.TheInside.{Inside}

-- a token that a certificate may have
abbrev pub IsFine : Token → Type 0
IsFine begin_object = ⊥
IsFine end_object = ⊥
IsFine begin_array = ⊤
IsFine end_array = ⊤
IsFine (key s) = ⊥
IsFine (string s) = IsUtf8 s
IsFine (number s) = ⊤
IsFine (boolean b) = ⊥
IsFine null = ⊥
IsFine bad = ⊥

abbrev pub AreFine : List Token → Type 0
AreFine [] = ⊤
AreFine (t ∷ ts) = IsFine t × AreFine ts

-- the mark, and tokens that a certificate may have
pub record IsText (t : Inside) : Type 0 where
  pub before : t.out.before ≡ opening
  pub fine : AreFine t.out.tokens
