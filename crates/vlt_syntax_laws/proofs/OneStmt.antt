-- Tokens are the spelling of at most one statement.
use Rattle.std.proofs.Common.{◌≡◌, ℕ, ◌-◌, true, false, List, [], ◌∷◌, refl, sym, ap, subst, ◌∙◌}
use Rattle.std.proofs.Math.Dec.{eqb}
use Rattle.std.proofs.lemmas.Bool.{eq-eqb}
use Rattle.vlt_tokens.specs.declared.token.Word.TheVariants as word
use Rattle.vlt_tokens.specs.declared.token.Mark.TheVariants as mark
use Rattle.vlt_syntax.specs.Tokens as t
use Rattle.vlt_syntax.specs.Tokens.{Token}
use Rattle.vlt_syntax.specs.Tree as s
use Rattle.vlt_syntax.specs.Tree.{Name, Ty, Expr, Init, Right, Returned, Stmt, Block, If, Else, Stmts, Arms}
use Rattle.vlt_syntax.specs.Lists.{enclosed_then, listed_then, Each}
use Rattle.vlt_syntax.specs.Spelling.{name_then, ty_then, expr_then, right_then, stmt_then, block_then, if_then, else_then, stmts_then, arms_then}
use Rattle.vlt_syntax.specs.Grammar.{Bounds, IsExpr, IsInit, IsRight, IsReturned, IsStmt, IsBlock, IsIf, IsElse, AreStmts, AreArms}
use Rattle.vlt_syntax.specs.Places.{without_tokens, ◌◂◌, ◌⊛◌, with_span, enclosed_at, name_at, stmt_at, block_at, if_at, else_at, stmts_at, arms_at}
use Rattle.vlt_syntax_laws.proofs.Stmts.{no_else, no_else_stmts}
use Rattle.vlt_syntax_laws.proofs.OneType.{two, three, Same, NoSign, one_name, one_case_name, one_names, one_enclosed_names, one_ty}
use Rattle.vlt_syntax_laws.proofs.OneSide.{AreGrouped, GroupInside, IsGrouped, ReturnsGrouped, one_value, one_call, one_right, one_returned}

-- ---- expressions of the language group right

grouped : (b : Bounds) (es : List Expr) → Each (IsExpr b) es → AreGrouped es
grouped b [] h = tt
grouped b (e ∷ es) h = (h.0.0, grouped b es h.1)

inits_grouped : (b : Bounds) (is : List Init) → Each (IsInit b) is → Each GroupInside is
inits_grouped b [] h = tt
inits_grouped b (i ∷ is) h = (h.0.0, inits_grouped b is h.1)

right_grouped : (b : Bounds) (v : Right) → IsRight b v → IsGrouped v
right_grouped b (s.value e) h = h.0
right_grouped b (s.build v) h = grouped b v.payload h
right_grouped b (s.call v) h = grouped b v.arguments h
right_grouped b (s.input at) h = tt
right_grouped b (s.more at) h = tt
right_grouped b (s.make r n fs at) h = inits_grouped b fs h
right_grouped b (s.adopt x r at) h = tt

returned_grouped : (b : Bounds) (v : Returned) → IsReturned b v → ReturnsGrouped v
returned_grouped b s.nothing h = tt
returned_grouped b (s.value e) h = h.0
returned_grouped b (s.build v) h = grouped b v.payload h

-- ---- which form of statement the tokens begin

abbrev class_stmt : List Token → ℕ
class_stmt (t.name n ∷ t.sign mark.Assign ∷ ts) = 1
class_stmt (t.name n ∷ t.sign mark.Dot ∷ ts) = 2
class_stmt (t.name n ∷ t.sign mark.OpenParen ∷ ts) = 3
class_stmt (t.keyword word.Print ∷ ts) = 4
class_stmt (t.sign mark.OpenBrace ∷ ts) = 5
class_stmt (t.keyword word.If ∷ ts) = 6
class_stmt (t.keyword word.While ∷ ts) = 7
class_stmt (t.keyword word.Break ∷ ts) = 8
class_stmt (t.keyword word.Continue ∷ ts) = 9
class_stmt (t.keyword word.Return ∷ ts) = 10
class_stmt (t.keyword word.Switch ∷ ts) = 11
class_stmt (t.keyword word.Release ∷ ts) = 12
class_stmt (t.keyword word.Become ∷ ts) = 13
class_stmt (t.keyword word.Swap ∷ ts) = 14
class_stmt (t.keyword word.Open ∷ ts) = 15
class_stmt (t.keyword word.Focus ∷ ts) = 16
class_stmt _ = 0

abbrev index_stmt : Stmt → ℕ
index_stmt (s.declare y x v at) = 0
index_stmt (s.assign x v at) = 1
index_stmt (s.put x f e at) = 2
index_stmt (s.call c at) = 3
index_stmt (s.print e at) = 4
index_stmt (s.block b) = 5
index_stmt (s.choose i) = 6
index_stmt (s.loop e b at) = 7
index_stmt (s.break at) = 8
index_stmt (s.continue at) = 9
index_stmt (s.return v at) = 10
index_stmt (s.switch x arms at) = 11
index_stmt (s.release x at) = 12
index_stmt (s.become x y at) = 13
index_stmt (s.swap x f v at) = 14
index_stmt (s.open_into x vs at) = 15
index_stmt (s.focus x k z b at) = 16

ty_class : (y : Ty) (n : List ℕ) (r : List Token) → class_stmt (ty_then y (t.name n ∷ r)) ≡ 0
ty_class (s.int at) n r = refl
ty_class (s.bool at) n r = refl
ty_class (s.tracked k m at) n r = refl
ty_class (s.owning ss m at) n r = refl
ty_class (s.guarded k m) n r = refl
ty_class (s.plain m) n r = on m.keys where
  on : (ks : List Name) → class_stmt (t.name m.name.text ∷ enclosed_then name_then mark.Less mark.Greater ks (t.name n ∷ r)) ≡ 0
  on [] = refl
  on (k ∷ ks) = refl

stmt_class : (x : Stmt) (r : List Token) → class_stmt (stmt_then x r) ≡ index_stmt x
stmt_class (s.declare y x v at) r = ty_class y x.text _
stmt_class (s.assign x v at) r = refl
stmt_class (s.put x f e at) r = refl
stmt_class (s.call c at) r = refl
stmt_class (s.print e at) r = refl
stmt_class (s.block (s.braced ss at)) r = refl
stmt_class (s.choose (s.choice e b other at)) r = refl
stmt_class (s.loop e b at) r = refl
stmt_class (s.break at) r = refl
stmt_class (s.continue at) r = refl
stmt_class (s.return v at) r = refl
stmt_class (s.switch x arms at) r = refl
stmt_class (s.release x at) r = refl
stmt_class (s.become x y at) r = refl
stmt_class (s.swap x f v at) r = refl
stmt_class (s.open_into x vs at) r = refl
stmt_class (s.focus x k z b at) r = refl

-- the same tokens begin one form
same_form : (x y : Stmt) (r q : List Token) → stmt_then x r ≡ stmt_then y q → eqb (index_stmt x) (index_stmt y) ≡ true
same_form x y r q e = eq-eqb (index_stmt x) (index_stmt y) (sym (stmt_class x r) ∙ ap class_stmt e ∙ stmt_class y q)

never : false ≡ true → ⊥
never e = cc

-- a statement doesn't begin with a closing brace
closed_class : (x : Stmt) (r c : List Token) → stmt_then x r ≡ t.sign mark.CloseBrace ∷ c → index_stmt x ≡ 0
closed_class x r c e = sym (stmt_class x r) ∙ ap class_stmt e

no_brace : (x : Stmt) (r : List Token) → NoSign mark.CloseBrace (stmt_then x r)
no_brace (s.declare y x v at) r c e = no_ty y e where
  no_ty : (y : Ty) → ty_then y (name_then x (t.sign mark.Assign ∷ right_then v (t.sign mark.Semicolon ∷ r))) ≡ t.sign mark.CloseBrace ∷ c → ⊥
  no_ty (s.int bt) e = cc
  no_ty (s.bool bt) e = cc
  no_ty (s.tracked k m bt) e = cc
  no_ty (s.owning ss m bt) e = cc
  no_ty (s.guarded k m) e = cc
  no_ty (s.plain m) e = cc
no_brace x r c e = let i = closed_class x r c e in absurd cc

else_clash : (r c : List Token) → no_else r ≡ true → r ≡ t.keyword word.Else ∷ c → ⊥
else_clash r c h e = let w : no_else (t.keyword word.Else ∷ c) ≡ true = subst (λ z. no_else z ≡ true) e h in cc

abbrev paren : List Token → List Token
paren r = t.sign mark.CloseParen ∷ r

mutual
  one_stmt : (b : Bounds) (room : ℕ) (x y : Stmt) (r q : List Token) → IsStmt b room x → IsStmt b room y → no_else r ≡ true → no_else q ≡ true → stmt_then x r ≡ stmt_then y q → Same stmt_at x y r q
  one_stmt b room (s.declare y x v at) (s.declare z w u bt) r q p o h i e =
      let a = one_ty y z (name_then x (t.sign mark.Assign ∷ right_then v (t.sign mark.Semicolon ∷ r))) (name_then w (t.sign mark.Assign ∷ right_then u (t.sign mark.Semicolon ∷ q))) p.0 o.0 ((λ c f. cc), (λ c f. cc)) ((λ c f. cc), (λ c f. cc)) e in
      let n = one_name x w _ _ tt tt tt tt a.1 in
      let k = one_right v u r q (right_grouped b v p.1) (right_grouped b u o.1) cc in
      (three (λ f g h. with_span (without_tokens s.declare ⊛ f ⊛ g ◂ 1 ⊛ h ◂ 1)) a.0 n.0 k.0, k.1)
  one_stmt b room (s.assign x v at) (s.assign w u bt) r q p o h i e =
      let n = one_name x w (t.sign mark.Assign ∷ right_then v (t.sign mark.Semicolon ∷ r)) (t.sign mark.Assign ∷ right_then u (t.sign mark.Semicolon ∷ q)) tt tt tt tt e in
      let k = one_right v u r q (right_grouped b v p) (right_grouped b u o) cc in
      (two (λ g h. with_span (without_tokens s.assign ⊛ g ◂ 1 ⊛ h ◂ 1)) n.0 k.0, k.1)
  one_stmt b room (s.put x f v at) (s.put w g u bt) r q p o h i e =
      let n = one_name x w (t.sign mark.Dot ∷ name_then f (t.sign mark.Assign ∷ expr_then v (t.sign mark.Semicolon ∷ r))) (t.sign mark.Dot ∷ name_then g (t.sign mark.Assign ∷ expr_then u (t.sign mark.Semicolon ∷ q))) tt tt tt tt e in
      let m = one_name f g (t.sign mark.Assign ∷ expr_then v (t.sign mark.Semicolon ∷ r)) (t.sign mark.Assign ∷ expr_then u (t.sign mark.Semicolon ∷ q)) tt tt tt tt cc in
      let k = one_value v u (t.sign mark.Semicolon ∷ r) (t.sign mark.Semicolon ∷ q) p.0 o.0 refl refl cc in
      (three (λ g h k. with_span (without_tokens s.put ⊛ g ◂ 1 ⊛ h ◂ 1 ⊛ k ◂ 1)) n.0 m.0 k.0, cc)
  one_stmt b room (s.call v at) (s.call u bt) r q p o h i e =
      let k = one_call v u (t.sign mark.Semicolon ∷ r) (t.sign mark.Semicolon ∷ q) (grouped b v.arguments p) (grouped b u.arguments o) e in
      (ap (λ h. with_span (without_tokens s.call ⊛ h ◂ 1)) k.0, cc)
  one_stmt b room (s.print v at) (s.print u bt) r q p o h i e =
      let k = one_value v u (t.sign mark.CloseParen ∷ t.sign mark.Semicolon ∷ r) (t.sign mark.CloseParen ∷ t.sign mark.Semicolon ∷ q) p.0 o.0 refl refl cc in
      (ap (λ h. with_span (without_tokens s.print ◂ 2 ⊛ h ◂ 2)) k.0, cc)
  one_stmt b room (s.block v) (s.block u) r q p o h i e = let k = one_block b room v u r q p o e in (ap (λ h. without_tokens s.block ⊛ h) k.0, k.1)
  one_stmt b room (s.choose v) (s.choose u) r q p o h i e = let k = one_if b room v u r q p o h i e in (ap (λ h. without_tokens s.choose ⊛ h) k.0, k.1)
  one_stmt b room (s.loop v c at) (s.loop u d bt) r q p o h i e =
      let k = one_value v u (t.sign mark.CloseParen ∷ block_then c r) (t.sign mark.CloseParen ∷ block_then d q) p.0.0 o.0.0 refl refl cc in
      let l = one_block b room c d r q p.1 o.1 cc in
      (two (λ g h. with_span (without_tokens s.loop ◂ 2 ⊛ g ◂ 1 ⊛ h)) k.0 l.0, l.1)
  one_stmt b room (s.break at) (s.break bt) r q p o h i e = (refl, cc)
  one_stmt b room (s.continue at) (s.continue bt) r q p o h i e = (refl, cc)
  one_stmt b room (s.return v at) (s.return u bt) r q p o h i e =
      let k = one_returned v u r q (returned_grouped b v p) (returned_grouped b u o) cc in
      (ap (λ h. with_span (without_tokens s.return ◂ 1 ⊛ h ◂ 1)) k.0, k.1)
  one_stmt b room (s.switch x v at) (s.switch w u bt) r q p o h i e =
      let n = one_name x w (t.sign mark.CloseParen ∷ t.sign mark.OpenBrace ∷ arms_then v (t.sign mark.CloseBrace ∷ r)) (t.sign mark.CloseParen ∷ t.sign mark.OpenBrace ∷ arms_then u (t.sign mark.CloseBrace ∷ q)) tt tt tt tt cc in
      let k = one_arms b room v u r q p.1 o.1 cc in
      (two (λ g h. with_span (without_tokens s.switch ◂ 2 ⊛ g ◂ 2 ⊛ h ◂ 1)) n.0 k.0, k.1)
  one_stmt b room (s.release x at) (s.release w bt) r q p o h i e =
      let n = one_name x w (t.sign mark.Semicolon ∷ r) (t.sign mark.Semicolon ∷ q) tt tt tt tt cc in
      (ap (λ h. with_span (without_tokens s.release ◂ 1 ⊛ h ◂ 1)) n.0, cc)
  one_stmt b room (s.become x y at) (s.become w z bt) r q p o h i e =
      let n = one_name x w (t.sign mark.At ∷ name_then y (t.sign mark.Semicolon ∷ r)) (t.sign mark.At ∷ name_then z (t.sign mark.Semicolon ∷ q)) tt tt tt tt cc in
      let k = one_name y z (t.sign mark.Semicolon ∷ r) (t.sign mark.Semicolon ∷ q) tt tt tt tt cc in
      (two (λ g h. with_span (without_tokens s.become ◂ 1 ⊛ g ◂ 1 ⊛ h ◂ 1)) n.0 k.0, cc)
  one_stmt b room (s.swap x f v at) (s.swap w g u bt) r q p o h i e =
      let n = one_name x w (t.sign mark.Dot ∷ name_then f (t.sign mark.Comma ∷ name_then v (t.sign mark.Semicolon ∷ r))) (t.sign mark.Dot ∷ name_then g (t.sign mark.Comma ∷ name_then u (t.sign mark.Semicolon ∷ q))) tt tt tt tt cc in
      let m = one_name f g (t.sign mark.Comma ∷ name_then v (t.sign mark.Semicolon ∷ r)) (t.sign mark.Comma ∷ name_then u (t.sign mark.Semicolon ∷ q)) tt tt tt tt cc in
      let k = one_name v u (t.sign mark.Semicolon ∷ r) (t.sign mark.Semicolon ∷ q) tt tt tt tt cc in
      (three (λ g h k. with_span (without_tokens s.swap ◂ 1 ⊛ g ◂ 1 ⊛ h ◂ 1 ⊛ k ◂ 1)) n.0 m.0 k.0, cc)
  one_stmt b room (s.open_into x vs at) (s.open_into w us bt) r q p o h i e =
      let n = one_name x w (t.keyword word.Into ∷ t.sign mark.OpenParen ∷ listed_then name_then mark.CloseParen vs (t.sign mark.Semicolon ∷ r)) (t.keyword word.Into ∷ t.sign mark.OpenParen ∷ listed_then name_then mark.CloseParen us (t.sign mark.Semicolon ∷ q)) tt tt tt tt cc in
      let k = one_names mark.CloseParen (λ c. cc) vs us (t.sign mark.Semicolon ∷ r) (t.sign mark.Semicolon ∷ q) p o cc in
      (two (λ g h. with_span (without_tokens s.open_into ◂ 1 ⊛ g ◂ 2 ⊛ h ◂ 1)) n.0 k.0, cc)
  one_stmt b room (s.focus x k z v at) (s.focus w l y u bt) r q p o h i e =
      let n = one_name x w (t.keyword word.As ∷ t.keyword word.Tracked ∷ t.sign mark.OpenParen ∷ name_then k (t.sign mark.CloseParen ∷ name_then z (block_then v r))) (t.keyword word.As ∷ t.keyword word.Tracked ∷ t.sign mark.OpenParen ∷ name_then l (t.sign mark.CloseParen ∷ name_then y (block_then u q))) tt tt tt tt cc in
      let m = one_name k l (t.sign mark.CloseParen ∷ name_then z (block_then v r)) (t.sign mark.CloseParen ∷ name_then y (block_then u q)) tt tt tt tt cc in
      let d = one_name z y (block_then v r) (block_then u q) tt tt tt tt cc in
      let c = one_block b room v u r q p o d.1 in
      (three (λ g h k. with_span (without_tokens s.focus ◂ 1 ⊛ g ◂ 3 ⊛ h ◂ 1 ⊛ k ⊛ block_at v)) n.0 m.0 d.0 ∙ ap (λ k. with_span (without_tokens s.focus ◂ 1 ⊛ name_at w ◂ 3 ⊛ name_at l ◂ 1 ⊛ name_at y ⊛ k)) c.0, c.1)
  one_stmt b room x y r q p o h i e = absurd (never (same_form x y r q e))

  pub one_block : (b : Bounds) (room : ℕ) (x y : Block) (r q : List Token) → IsBlock b room x → IsBlock b room y → block_then x r ≡ block_then y q → Same block_at x y r q
  one_block b room (s.braced v at) (s.braced u bt) r q p o e =
      let k = one_stmts b (room - 1) v u r q p.1 o.1 cc in
      (ap (λ h. with_span (without_tokens s.braced ◂ 1 ⊛ h ◂ 1)) k.0, k.1)

  one_if : (b : Bounds) (room : ℕ) (x y : If) (r q : List Token) → IsIf b room x → IsIf b room y → no_else r ≡ true → no_else q ≡ true → if_then x r ≡ if_then y q → Same if_at x y r q
  one_if b room (s.choice v c x at) (s.choice u d y bt) r q p o h i e =
      let k = one_value v u (t.sign mark.CloseParen ∷ block_then c (else_then x r)) (t.sign mark.CloseParen ∷ block_then d (else_then y q)) p.0.0 o.0.0 refl refl cc in
      let l = one_block b room c d (else_then x r) (else_then y q) p.1 o.1 cc in
      let m = one_else b room x y r q p.2 o.2 h i l.1 in
      (three (λ f g h. with_span (without_tokens s.choice ◂ 2 ⊛ f ◂ 1 ⊛ g ⊛ h)) k.0 l.0 m.0, m.1)

  one_else : (b : Bounds) (room : ℕ) (x y : Else) (r q : List Token) → IsElse b room x → IsElse b room y → no_else r ≡ true → no_else q ≡ true → else_then x r ≡ else_then y q → Same else_at x y r q
  one_else b room s.nothing s.nothing r q p o h i e = (refl, e)
  one_else b room s.nothing (s.last u) r q p o h i e = absurd (else_clash r _ h e)
  one_else b room s.nothing (s.chained u) r q p o h i e = absurd (else_clash r _ h e)
  one_else b room (s.last v) s.nothing r q p o h i e = absurd (else_clash q _ i (sym e))
  one_else b room (s.chained v) s.nothing r q p o h i e = absurd (else_clash q _ i (sym e))
  one_else b room (s.last v) (s.last u) r q p o h i e = let k = one_block b room v u r q p o cc in (ap (λ h. without_tokens s.last ◂ 1 ⊛ h) k.0, k.1)
  one_else b room (s.chained v) (s.chained u) r q p o h i e = let k = one_if b (room - 1) v u r q p.1 o.1 h i cc in (ap (λ h. without_tokens s.chained ◂ 1 ⊛ h) k.0, k.1)
  one_else b room (s.last (s.braced v at)) (s.chained (s.choice u c d bt)) r q p o h i e = absurd cc
  one_else b room (s.chained (s.choice u c d bt)) (s.last (s.braced v at)) r q p o h i e = absurd cc

  one_stmts : (b : Bounds) (room : ℕ) (x y : Stmts) (r q : List Token) → AreStmts b room x → AreStmts b room y → stmts_then x (t.sign mark.CloseBrace ∷ r) ≡ stmts_then y (t.sign mark.CloseBrace ∷ q) → Same stmts_at x y r q
  one_stmts b room s.done s.done r q p o e = (refl, cc)
  one_stmts b room s.done (s.next y ys) r q p o e = absurd (no_brace y _ r (sym e))
  one_stmts b room (s.next x xs) s.done r q p o e = absurd (no_brace x _ q e)
  one_stmts b room (s.next x xs) (s.next y ys) r q p o e =
      let k = one_stmt b room x y _ _ p.0 o.0 (no_else_stmts xs r) (no_else_stmts ys q) e in
      let l = one_stmts b room xs ys r q p.1 o.1 k.1 in
      (two (λ g h. without_tokens s.next ⊛ g ⊛ h) k.0 l.0, l.1)

  one_arms : (b : Bounds) (room : ℕ) (x y : Arms) (r q : List Token) → AreArms b room x → AreArms b room y → arms_then x (t.sign mark.CloseBrace ∷ r) ≡ arms_then y (t.sign mark.CloseBrace ∷ q) → Same arms_at x y r q
  one_arms b room s.no_arms s.no_arms r q p o e = (refl, cc)
  one_arms b room s.no_arms (s.arm c vs body at more) r q p o e = absurd cc
  one_arms b room (s.arm c vs body at more) s.no_arms r q p o e = absurd cc
  one_arms b room (s.arm c vs v at xs) (s.arm d us u bt ys) r q p o e =
      let n = one_case_name c d (enclosed_then name_then mark.OpenParen mark.CloseParen vs (t.sign mark.Colon ∷ block_then v (arms_then xs (t.sign mark.CloseBrace ∷ r)))) (enclosed_then name_then mark.OpenParen mark.CloseParen us (t.sign mark.Colon ∷ block_then u (arms_then ys (t.sign mark.CloseBrace ∷ q)))) tt tt tt tt cc in
      let m = one_enclosed_names mark.OpenParen mark.CloseParen (λ c. cc) vs us (t.sign mark.Colon ∷ block_then v (arms_then xs (t.sign mark.CloseBrace ∷ r))) (t.sign mark.Colon ∷ block_then u (arms_then ys (t.sign mark.CloseBrace ∷ q))) (λ c f. cc) (λ c f. cc) n.1 in
      let k = one_block b room v u (arms_then xs (t.sign mark.CloseBrace ∷ r)) (arms_then ys (t.sign mark.CloseBrace ∷ q)) p.0 o.0 cc in
      let l = one_arms b room xs ys r q p.1 o.1 k.1 in
      (three (λ f g h. with_span (without_tokens s.arm ◂ 1 ⊛ f ⊛ g ◂ 1 ⊛ h) ⊛ arms_at xs) n.0 m.0 k.0 ∙ ap (λ h. with_span (without_tokens s.arm ◂ 1 ⊛ name_at d ⊛ enclosed_at name_at us ◂ 1 ⊛ block_at u) ⊛ h) l.0, l.1)
