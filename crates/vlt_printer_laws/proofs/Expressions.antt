-- Expressions and right sides.
use Rattle.std.proofs.Common.{◌≡◌, ℕ, suc, true, List, [], ◌∷◌, ◌++◌, Option, Some, None, refl, subst, arith}
use Rattle.std.specs.Prelude.{codes}
use Rattle.vlt_ops.specs.declared.Op.{Op}
use Rattle.vlt_ops.specs.declared.Op.TheVariants as op
use Rattle.vlt_ops.specs.Operator.{row_of}
use Rattle.vlt_tokens.specs.declared.token.Word.TheVariants as words
use Rattle.vlt_tokens.specs.declared.token.Mark.TheVariants as marks
use Rattle.vlt_tokens.specs.Spelling.{sign_text}
use Rattle.vlt_syntax.specs.Grammar.{Bounds, BindsFrom, level, IsExpr, IsBuild, IsCall, IsInit, IsRight, IsReturned}
use Rattle.vlt_syntax.specs.Tokens.{Token, sign}
use Rattle.vlt_syntax.specs.Tree as s
use Rattle.vlt_syntax.specs.Tree.{Name, Expr, Build, Call, Right, Returned}
use Rattle.vlt_syntax.specs.Spelling.{sign_of, expr_then, build_then, call_then, init_then, owner_then, right_then, returned_then}
use Rattle.vlt_printer.specs.Layout.{name_after, expr_after, build_after, call_after, init_after, owner_after, right_after, returned_after}
use Rattle.vlt_printer_laws.proofs.Following.{Last, clear, wordy, signed, either, sign_may}
use Rattle.vlt_printer_laws.proofs.Steps.{Begins, weaker, sign_begins, number_begins, text_begins, space, word, mark}
use Rattle.vlt_printer_laws.proofs.Sequences.{IsPrinted, sign_stands, enclosed_printed, listed_printed, braced_printed}
use Rattle.vlt_printer_laws.proofs.Types.{name_printed, case_name_printed, named_printed}

-- an operator's sign is the text of its token
row_sign : (o : Op) → sign_text (sign_of o) ≡ (row_of o).sign
row_sign op.Negate = refl
row_sign _ = refl

-- the sign before one operand is no second character of a sign
prefix_may : (o : Op) → (row_of o).arity ≡ 1 → sign_may signed (sign_of o) ≡ true
prefix_may op.Negate one = refl
prefix_may op.Not one = refl
prefix_may _ two = absurd (omega (arith, two))

module _ {all : List Token} {before : List ℕ} {rest : List Token} (o : Op) where
  operator_printed : (last : Last) → sign_may last (sign_of o) ≡ true → Begins all before (sign (sign_of o) ∷ rest) last → Begins all (before ++ (row_of o).sign) rest signed
  operator_printed last may b = subst (λ x. Begins all (before ++ x) rest signed) (row_sign o) (sign_begins (sign_of o) last may b)

pub expr_printed : {all : List Token} (least : ℕ) (e : Expr) {before : List ℕ} {rest : List Token} → BindsFrom least e → Begins all before (expr_then e rest) signed → Begins all (expr_after e before) rest either
expr_printed least (s.number z at) is b = weaker wordy either refl (number_begins z b)
expr_printed least (s.true at) is b = text_begins (word words.True ∷ []) refl b
expr_printed least (s.false at) is b = text_begins (word words.False ∷ []) refl b
expr_printed least (s.variable x) is b = weaker wordy either refl (name_printed x b)
expr_printed least (s.field x f) is b = weaker wordy either refl (name_printed f (text_begins (mark marks.Dot ∷ []) refl (name_printed x b)))
expr_printed least (s.group e at) is b = text_begins (mark marks.CloseParen ∷ []) refl (expr_printed 0 e is (text_begins (mark marks.OpenParen ∷ []) refl b))
expr_printed least (s.unary o e at) is b = expr_printed (level o) e is.2 (operator_printed o signed (prefix_may o is.0) b)
expr_printed least (s.binary o l r at) is b =
    let left = text_begins (space ∷ []) refl (expr_printed (level o) l is.2 b) in
    expr_printed (suc (level o)) r is.3 (text_begins (space ∷ []) refl (operator_printed o clear refl left))

module _ {all : List Token} (b : Bounds) where
  each_expr : IsPrinted all expr_then expr_after (IsExpr b) signed either
  each_expr e before rest is h = expr_printed 0 e is.0 h

  each_init : IsPrinted all init_then init_after (IsInit b) signed either
  each_init i before rest is h = expr_printed 0 i.value is.0 (text_begins (mark marks.Colon ∷ space ∷ []) refl (name_printed i.field h))

module _ {all : List Token} {before : List ℕ} {rest : List Token} (b : Bounds) where
  pub build_printed : (c : Build) → IsBuild b c → Begins all before (build_then c rest) signed → Begins all (build_after c before) rest either
  build_printed c is h =
      enclosed_printed expr_then expr_after (IsExpr b) either (each_expr b)
      marks.OpenParen marks.CloseParen (codes "(") (codes ")") wordy refl (sign_stands wordy marks.OpenParen refl) (sign_stands either marks.CloseParen refl)
      c.payload (name_after c.case before) rest is (case_name_printed c.case h)

  pub call_printed : (c : Call) → IsCall b c → Begins all before (call_then c rest) signed → Begins all (call_after c before) rest signed
  call_printed c is h =
      let opened = text_begins (mark marks.OpenParen ∷ []) refl (name_printed c.function h) in
      text_begins (mark marks.CloseParen ∷ []) refl
      (listed_printed expr_then expr_after (IsExpr b) either (each_expr b) refl marks.CloseParen c.arguments (name_after c.function before ++ codes "(") rest is opened)

  -- after the word `new`
  owner_printed : (r : Option Name) → Begins all before (owner_then r rest) wordy → Begins all (owner_after r before) rest either
  owner_printed None h = weaker wordy either refl h
  owner_printed (Some r) h = text_begins (mark marks.CloseParen ∷ []) refl (name_printed r (text_begins (mark marks.OpenParen ∷ []) refl h))

module _ {all : List Token} {before : List ℕ} {rest : List Token} (b : Bounds) where
  pub right_printed : (v : Right) → IsRight b v → Begins all before (right_then v rest) signed → Begins all (right_after v before) rest either
  right_printed (s.value e) is h = expr_printed 0 e is.0 h
  right_printed (s.build c) is h = build_printed b c is h
  right_printed (s.call c) is h = weaker signed either refl (call_printed b c is h)
  right_printed (s.input at) is h = text_begins (word words.Input ∷ mark marks.OpenParen ∷ mark marks.CloseParen ∷ []) refl h
  right_printed (s.more at) is h = text_begins (word words.More ∷ mark marks.OpenParen ∷ mark marks.CloseParen ∷ []) refl h
  right_printed (s.make r n fs at) is h =
      let type = named_printed n (text_begins (space ∷ []) refl (owner_printed b r (text_begins (word words.New ∷ []) refl h))) in
      weaker signed either refl (braced_printed init_then init_after (IsInit b) either (each_init b) fs _ rest is (text_begins (space ∷ []) refl type))
  right_printed (s.adopt x r at) is h =
      weaker wordy either refl (name_printed r (text_begins (space ∷ word words.Into ∷ space ∷ []) refl (name_printed x (text_begins (word words.Adopt ∷ space ∷ []) refl h))))

  -- after the word `return`
  pub returned_printed : (v : Returned) → IsReturned b v → Begins all before (returned_then v rest) wordy → Begins all (returned_after v before) rest either
  returned_printed s.nothing is h = weaker wordy either refl h
  returned_printed (s.value e) is h = expr_printed 0 e is.0 (text_begins (space ∷ []) refl h)
  returned_printed (s.build c) is h = build_printed b c is (text_begins (space ∷ []) refl h)
