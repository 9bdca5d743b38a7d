-- Tokens are the spelling of at most one right side, or of what a `return` gives.
use Rattle.std.proofs.Common.{◌≡◌, ℕ, true, List, [], ◌∷◌, Option, Some, None, refl, sym, ap, subst, ◌∙◌}
use Rattle.vlt_tokens.specs.declared.token.Word.TheVariants as word
use Rattle.vlt_tokens.specs.declared.token.Mark.TheVariants as mark
use Rattle.vlt_syntax.specs.Tokens as t
use Rattle.vlt_syntax.specs.Tokens.{Token}
use Rattle.vlt_syntax.specs.Tree as s
use Rattle.vlt_syntax.specs.Tree.{Name, Expr, Build, Call, Init, Right, Returned}
use Rattle.vlt_syntax.specs.Lists.{listed_then, Each}
use Rattle.vlt_syntax.specs.Spelling.{name_then, named_then, expr_then, build_then, call_then, init_then, owner_then, right_then, returned_then}
use Rattle.vlt_syntax.specs.Grammar.{BindsFrom}
use Rattle.vlt_syntax.specs.Places.{without_tokens, ◌◂◌, ◌⊛◌, with_span, expr_at, build_at, call_at, init_at, owner_at, right_at, returned_at}
use Rattle.vlt_syntax_laws.proofs.Exprs.{ends, begins, IsStart}
use Rattle.vlt_syntax_laws.proofs.Stmts.{IsTailed, tailed}
use Rattle.vlt_syntax_laws.proofs.OneExpr.{one_expr}
use Rattle.vlt_syntax_laws.proofs.OneType.{two, three, Same, One, NoSign, one_listed, one_enclosed, one_name, one_case_name, one_named}

-- an expression whose operators group right
abbrev pub Groups : Expr → Type 0
Groups e = BindsFrom 0 e

abbrev pub EndsExpr : List Token → Type 0
EndsExpr r = ends 0 r ≡ true

pub one_value : One expr_at expr_then Groups EndsExpr
one_value e f r q p o h i same = one_expr e f r q p o h i same

-- no expression begins with a closing sign
starts_no_paren : (x : Token) (c : List Token) → IsStart x → x ≡ t.sign mark.CloseParen → ⊥
starts_no_paren x c h e = let w : IsStart (t.sign mark.CloseParen) = subst IsStart e h in w

pub no_paren_first : (e : Expr) (r : List Token) → Groups e → NoSign mark.CloseParen (expr_then e r)
no_paren_first e r h c same =
    let b = begins e r in
    let first : b.0 ∷ b.1 ≡ t.sign mark.CloseParen ∷ c = sym b.2 ∙ same in
    starts_no_paren b.0 c (b.3 0 h) cc

abbrev pub GroupInside : Init → Type 0
GroupInside i = Groups i.value

one_init : One init_at init_then GroupInside EndsExpr
one_init x y r q p o h i e =
    let a = one_name x.field y.field (t.sign mark.Colon ∷ expr_then x.value r) (t.sign mark.Colon ∷ expr_then y.value q) tt tt tt tt e in
    let b = one_value x.value y.value r q p o h i cc in
    (two (λ f g. without_tokens (λ field value. let z : Init = record { field = field; value = value } in z) ⊛ f ◂ 1 ⊛ g) a.0 b.0, b.1)

abbrev pub AreGrouped : List Expr → Type 0
AreGrouped = Each Groups

pub one_build : (x y : Build) (r q : List Token) → AreGrouped x.payload → AreGrouped y.payload → NoSign mark.OpenParen r → NoSign mark.OpenParen q → build_then x r ≡ build_then y q → Same build_at x y r q
one_build x y r q p o h i e =
    let a = one_case_name x.case y.case _ _ tt tt tt tt e in
    let b = one_enclosed expr_at expr_then Groups EndsExpr mark.OpenParen mark.CloseParen one_value (λ c. refl) (λ c. refl) (λ c. cc) x.payload y.payload r q p o h i a.1 in
    (two (λ f g. with_span (without_tokens (λ case payload at. let z : Build = record { case = case; payload = payload; at = at } in z) ⊛ f ⊛ g)) a.0 b.0, b.1)

pub one_call : (x y : Call) (r q : List Token) → AreGrouped x.arguments → AreGrouped y.arguments → call_then x r ≡ call_then y q → Same call_at x y r q
one_call x y r q p o e =
    let a = one_name x.function y.function (t.sign mark.OpenParen ∷ listed_then expr_then mark.CloseParen x.arguments r) (t.sign mark.OpenParen ∷ listed_then expr_then mark.CloseParen y.arguments q) tt tt tt tt e in
    let b = one_listed expr_at expr_then Groups EndsExpr mark.CloseParen one_value (λ c. refl) (λ c. refl) (λ c. cc) no_paren_first x.arguments y.arguments r q p o cc in
    (two (λ f g. with_span (without_tokens (λ function arguments at. let z : Call = record { function = function; arguments = arguments; at = at } in z) ⊛ f ◂ 1 ⊛ g)) a.0 b.0, b.1)

one_owner : (x y : Option Name) (r q : List Token) → NoSign mark.OpenParen r → NoSign mark.OpenParen q → owner_then x r ≡ owner_then y q → Same owner_at x y r q
one_owner None None r q h i e = (refl, e)
one_owner None (Some y) r q h i e = absurd (h _ e)
one_owner (Some x) None r q h i e = absurd (i _ (sym e))
one_owner (Some x) (Some y) r q h i e =
    let a = one_name x y (t.sign mark.CloseParen ∷ r) (t.sign mark.CloseParen ∷ q) tt tt tt tt cc in
    (ap (λ f. without_tokens (λ z. Some z) ◂ 1 ⊛ f ◂ 1) a.0, cc)

-- ---- which kind of right side the tokens begin

abbrev class_right : List Token → ℕ
class_right (t.keyword word.Input ∷ ts) = 3
class_right (t.keyword word.More ∷ ts) = 4
class_right (t.keyword word.New ∷ ts) = 5
class_right (t.keyword word.Adopt ∷ ts) = 6
class_right (t.tick n ∷ ts) = 1
class_right (t.name n ∷ t.sign mark.OpenParen ∷ ts) = 2
class_right _ = 0

abbrev index_right : Right → ℕ
index_right (s.value e) = 0
index_right (s.build b) = 1
index_right (s.call c) = 2
index_right (s.input at) = 3
index_right (s.more at) = 4
index_right (s.make r n fs at) = 5
index_right (s.adopt x r at) = 6

-- the expressions of a right side group as they must
abbrev pub IsGrouped : Right → Type 0
IsGrouped (s.value e) = Groups e
IsGrouped (s.build b) = AreGrouped b.payload
IsGrouped (s.call c) = AreGrouped c.arguments
IsGrouped (s.input at) = Unit {0}
IsGrouped (s.more at) = Unit {0}
IsGrouped (s.make r n fs at) = Each GroupInside fs
IsGrouped (s.adopt x r at) = Unit {0}

value_class : (x : Token) (ts : List Token) → IsStart x → IsTailed x ts → class_right (x ∷ ts) ≡ 0
value_class (t.sign m) ts h i = refl
value_class (t.keyword word.True) ts h i = refl
value_class (t.keyword word.False) ts h i = refl
value_class (t.keyword w) ts h i = absurd h
value_class (t.number n) ts h i = refl
value_class (t.tick n) ts h i = absurd h
value_class (t.name n) [] h i = refl
value_class (t.name n) (t.sign mark.OpenParen ∷ ts) h i = absurd cc
value_class (t.name n) (x ∷ ts) h i = refl

right_class : (v : Right) (r : List Token) → IsGrouped v → class_right (right_then v (t.sign mark.Semicolon ∷ r)) ≡ index_right v
right_class (s.value e) r h =
    let b = begins e (t.sign mark.Semicolon ∷ r) in
    ap class_right b.2 ∙ value_class b.0 b.1 (b.3 0 h) (tailed e (t.sign mark.Semicolon ∷ r) refl)
right_class (s.build b) r h = refl
right_class (s.call c) r h = refl
right_class (s.input at) r h = refl
right_class (s.more at) r h = refl
right_class (s.make o n fs at) r h = refl
right_class (s.adopt x o at) r h = refl

pub one_right : (x y : Right) (r q : List Token) → IsGrouped x → IsGrouped y → right_then x (t.sign mark.Semicolon ∷ r) ≡ right_then y (t.sign mark.Semicolon ∷ q) → Same right_at x y r q
one_right (s.value a) (s.value b) r q p o e = let v = one_value a b (t.sign mark.Semicolon ∷ r) (t.sign mark.Semicolon ∷ q) p o refl refl e in (ap (λ f. without_tokens s.value ⊛ f) v.0, cc)
one_right (s.build a) (s.build b) r q p o e = let v = one_build a b (t.sign mark.Semicolon ∷ r) (t.sign mark.Semicolon ∷ q) p o (λ c i. cc) (λ c i. cc) e in (ap (λ f. without_tokens s.build ⊛ f) v.0, cc)
one_right (s.call a) (s.call b) r q p o e = let v = one_call a b (t.sign mark.Semicolon ∷ r) (t.sign mark.Semicolon ∷ q) p o e in (ap (λ f. without_tokens s.call ⊛ f) v.0, cc)
one_right (s.input at) (s.input bt) r q p o e = (refl, cc)
one_right (s.more at) (s.more bt) r q p o e = (refl, cc)
one_right (s.make a n fs at) (s.make b m gs bt) r q p o e =
    let w = one_owner a b (named_then n (t.sign mark.OpenBrace ∷ listed_then init_then mark.CloseBrace fs (t.sign mark.Semicolon ∷ r))) (named_then m (t.sign mark.OpenBrace ∷ listed_then init_then mark.CloseBrace gs (t.sign mark.Semicolon ∷ q))) (λ c i. cc) (λ c i. cc) cc in
    let k = one_named n m (t.sign mark.OpenBrace ∷ listed_then init_then mark.CloseBrace fs (t.sign mark.Semicolon ∷ r)) (t.sign mark.OpenBrace ∷ listed_then init_then mark.CloseBrace gs (t.sign mark.Semicolon ∷ q)) tt tt (λ c i. cc) (λ c i. cc) w.1 in
    let l = one_listed init_at init_then GroupInside EndsExpr mark.CloseBrace one_init (λ c. refl) (λ c. refl) (λ c. cc) (λ z u g c i. cc) fs gs (t.sign mark.Semicolon ∷ r) (t.sign mark.Semicolon ∷ q) p o cc in
    (three (λ f g h. with_span (without_tokens s.make ◂ 1 ⊛ f ⊛ g ◂ 1 ⊛ h)) w.0 k.0 l.0, cc)
one_right (s.adopt a u at) (s.adopt b v bt) r q p o e =
    let w = one_name a b (t.keyword word.Into ∷ name_then u (t.sign mark.Semicolon ∷ r)) (t.keyword word.Into ∷ name_then v (t.sign mark.Semicolon ∷ q)) tt tt tt tt cc in
    let k = one_name u v (t.sign mark.Semicolon ∷ r) (t.sign mark.Semicolon ∷ q) tt tt tt tt cc in
    (two (λ f g. with_span (without_tokens s.adopt ◂ 1 ⊛ f ◂ 1 ⊛ g)) w.0 k.0, cc)
one_right x y r q p o e = let same : index_right x ≡ index_right y = sym (right_class x r p) ∙ ap class_right e ∙ right_class y q o in absurd cc

-- ---- what a `return` gives

abbrev class_returned : List Token → ℕ
class_returned (t.sign mark.Semicolon ∷ ts) = 0
class_returned (t.tick n ∷ ts) = 2
class_returned _ = 1

abbrev index_returned : Returned → ℕ
index_returned s.nothing = 0
index_returned (s.value e) = 1
index_returned (s.build b) = 2

abbrev pub ReturnsGrouped : Returned → Type 0
ReturnsGrouped s.nothing = Unit {0}
ReturnsGrouped (s.value e) = Groups e
ReturnsGrouped (s.build b) = AreGrouped b.payload

returned_value : (x : Token) (ts : List Token) → IsStart x → class_returned (x ∷ ts) ≡ 1
returned_value (t.sign mark.Semicolon) ts h = absurd h
returned_value (t.sign m) ts h = refl
returned_value (t.keyword w) ts h = refl
returned_value (t.number n) ts h = refl
returned_value (t.tick n) ts h = absurd h
returned_value (t.name n) ts h = refl

returned_class : (v : Returned) (r : List Token) → ReturnsGrouped v → class_returned (returned_then v (t.sign mark.Semicolon ∷ r)) ≡ index_returned v
returned_class s.nothing r h = refl
returned_class (s.value e) r h = let b = begins e (t.sign mark.Semicolon ∷ r) in ap class_returned b.2 ∙ returned_value b.0 b.1 (b.3 0 h)
returned_class (s.build b) r h = refl

pub one_returned : (x y : Returned) (r q : List Token) → ReturnsGrouped x → ReturnsGrouped y → returned_then x (t.sign mark.Semicolon ∷ r) ≡ returned_then y (t.sign mark.Semicolon ∷ q) → Same returned_at x y r q
one_returned s.nothing s.nothing r q p o e = (refl, cc)
one_returned (s.value a) (s.value b) r q p o e = let v = one_value a b (t.sign mark.Semicolon ∷ r) (t.sign mark.Semicolon ∷ q) p o refl refl e in (ap (λ f. without_tokens s.value ⊛ f) v.0, cc)
one_returned (s.build a) (s.build b) r q p o e = let v = one_build a b (t.sign mark.Semicolon ∷ r) (t.sign mark.Semicolon ∷ q) p o (λ c i. cc) (λ c i. cc) e in (ap (λ f. without_tokens s.build ⊛ f) v.0, cc)
one_returned x y r q p o e = let same : index_returned x ≡ index_returned y = sym (returned_class x r p) ∙ ap class_returned e ∙ returned_class y q o in absurd cc
