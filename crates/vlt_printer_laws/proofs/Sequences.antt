-- Lists in a layout, over any kind of thing.
use Rattle.std.proofs.Common.{◌≡◌, ℕ, true, List, [], ◌∷◌, ◌++◌, refl}
use Rattle.std.specs.Prelude.{codes}
use Rattle.vlt_tokens.specs.declared.token.Mark.{Mark}
use Rattle.vlt_tokens.specs.declared.token.Mark.TheVariants.{Comma, OpenBrace, CloseBrace}
use Rattle.vlt_tokens.specs.Spelling.{sign_text}
use Rattle.vlt_syntax.specs.Lists.{each_then, further_then, listed_then, enclosed_then, Each}
use Rattle.vlt_syntax.specs.Tokens.{Token, sign}
use Rattle.vlt_base.specs.Layout.{Layout, written, text}
use Rattle.vlt_printer.specs.Lists.{each_after, further_after, separated_after, enclosed_after, braced_after}
use Rattle.vlt_printer_laws.proofs.Following.{Last, clear, signed, either, within, sign_may, comma_may}
use Rattle.vlt_printer_laws.proofs.Steps.{Begins, weaker, sign_begins, text_begins, space, mark}

-- where the sign is still to come, it can be written here as this text
abbrev pub Stands : List Token → Last → Mark → List ℕ → Type 0
Stands all last m text = (before : List ℕ) (rest : List Token) → Begins all before (sign m ∷ rest) last → Begins all (before ++ text) rest signed

-- after what ends so, each thing can be laid out, and ends so
abbrev pub IsPrinted : {X : Type 0} → List Token → (X → List Token → List Token) → (X → Layout) → (X → Type 0) → Last → Last → Type 0
IsPrinted {X} all spell lay P last next = (x : X) (before : List ℕ) (rest : List Token) → P x → Begins all before (spell x rest) last → Begins all (lay x before) rest next

-- where no fact is needed
pub each_holds : {X : Type 0} (xs : List X) → Each (λ x. Unit {0}) xs
each_holds [] = tt
each_holds (x ∷ xs) = (tt, each_holds xs)

pub sign_stands : {all : List Token} (last : Last) (m : Mark) → sign_may last m ≡ true → Stands all last m (sign_text m)
sign_stands last m may before rest b = sign_begins m last may b

comma_stands : {all : List Token} (last : Last) → Stands all last Comma (codes ", ")
comma_stands last before rest b = text_begins (mark Comma ∷ space ∷ []) (rw (comma_may last) refl) b

module _ {X : Type 0} {all : List Token} (spell : X → List Token → List Token) (lay : X → Layout) (P : X → Type 0) where
  -- each thing in turn, on lines of their own
  pub each_printed : IsPrinted all spell lay P clear clear → (xs : List X) (before : List ℕ) (rest : List Token) → Each P xs → Begins all before (each_then spell xs rest) clear → Begins all (each_after lay xs before) rest clear
  each_printed item [] before rest each b = b
  each_printed item (x ∷ xs) before rest each b = each_printed item xs (lay x before) rest each.1 (item x before (each_then spell xs rest) each.0 b)

  module _ (last : Last) (item : IsPrinted all spell lay P signed last) where
    module _ (separator : List ℕ) (comma : Stands all last Comma separator) where
      further_printed : (closing : Mark) (xs : List X) (before : List ℕ) (rest : List Token) → Each P xs → Begins all before (further_then spell closing xs rest) last
          → Begins all (further_after (written separator) lay xs before) (sign closing ∷ rest) last
      further_printed closing [] before rest each b = b
      further_printed closing (x ∷ xs) before rest each b =
          let tail = further_then spell closing xs rest in
          further_printed closing xs (lay x (before ++ separator)) rest each.1 (item x (before ++ separator) tail each.0 (comma before (spell x tail) b))

      -- one thing or more
      pub some_printed : (closing : Mark) (x : X) (xs : List X) (before : List ℕ) (rest : List Token) → Each P (x ∷ xs) → Begins all before (listed_then spell closing (x ∷ xs) rest) signed
          → Begins all (separated_after (written separator) lay (x ∷ xs) before) (sign closing ∷ rest) last
      some_printed closing x xs before rest each b = further_printed closing xs (lay x before) rest each.1 (item x before (further_then spell closing xs rest) each.0 b)

    pub listed_printed : within last either ≡ true → (closing : Mark) (xs : List X) (before : List ℕ) (rest : List Token) → Each P xs → Begins all before (listed_then spell closing xs rest) signed
        → Begins all (separated_after (text ", ") lay xs before) (sign closing ∷ rest) either
    listed_printed is closing [] before rest each b = weaker signed either refl b
    listed_printed is closing (x ∷ xs) before rest each b = weaker last either is (some_printed (codes ", ") (comma_stands last) closing x xs before rest each b)

    -- in its two signs, or nothing where there is no thing
    pub enclosed_printed : (opening closing : Mark) (opens closes : List ℕ) (prior : Last) → within prior either ≡ true → Stands all prior opening opens → Stands all last closing closes
        → (xs : List X) (before : List ℕ) (rest : List Token) → Each P xs → Begins all before (enclosed_then spell opening closing xs rest) prior → Begins all (enclosed_after (written opens) (written closes) lay xs before) rest either
    enclosed_printed opening closing opens closes prior is at_start at_end [] before rest each b = weaker prior either is b
    enclosed_printed opening closing opens closes prior is at_start at_end (x ∷ xs) before rest each b =
        let started = at_start before (listed_then spell closing (x ∷ xs) rest) b in
        weaker signed either refl (at_end _ rest (some_printed (codes ", ") (comma_stands last) closing x xs (before ++ opens) rest each started))

    -- between braces
    pub braced_printed : (xs : List X) (before : List ℕ) (rest : List Token) → Each P xs → Begins all before (sign OpenBrace ∷ listed_then spell CloseBrace xs rest) signed
        → Begins all (braced_after lay xs before) rest signed
    braced_printed [] before rest each b = text_begins (mark OpenBrace ∷ mark CloseBrace ∷ []) refl b
    braced_printed (x ∷ xs) before rest each b =
        text_begins (space ∷ mark CloseBrace ∷ []) refl
        (some_printed (codes ", ") (comma_stands last) CloseBrace x xs (before ++ codes "{ ") rest each (text_begins (mark OpenBrace ∷ space ∷ []) refl b))
