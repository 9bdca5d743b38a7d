-- A fact of each token that a declaration is spelled with, whatever tokens come after it.
use Rattle.std.proofs.Common.{List, [], ◌∷◌, Option, Some, None}
use Rattle.vlt_tokens.specs.declared.token.Mark.{Mark}
use Rattle.vlt_tokens.specs.declared.token.Mark.TheVariants as mark
use Rattle.vlt_syntax.specs.Tokens.{Token, sign}
use Rattle.vlt_syntax.specs.Tree as s
use Rattle.vlt_syntax.specs.Tree.{Name, States, KeyStates, Named, Ty, Expr, Build, Call, Init, Right, Returned, Stmt, Block, If, Else, Stmts, Arms, SetState, HeaderKey, Field, Case, Entry, ResultType, Parameter, Head, Decl}
use Rattle.vlt_syntax.specs.Lists.{Each, each_then, further_then, listed_then, enclosed_then}
use Rattle.vlt_syntax.specs.Spelling as p

module _ (P : Token → Type 0) where
  -- other tokens may come after it, and those that came after have the fact
  abbrev pub Parts : {X : Type 0} → (X → List Token → List Token) → X → Type 0
  Parts spell x = (rest more : List Token) → Each P (spell x rest) → Each P more → Each P (spell x more) × Each P rest

  -- ---- lists

  module _ {X : Type 0} (spell : X → List Token → List Token) (go : (x : X) → Parts spell x) where
    each_parts : (xs : List X) → Parts (each_then spell) xs
    each_parts [] rest more h m = (m, h)
    each_parts (x ∷ xs) rest more h m =
        let tail = each_parts xs rest more (go x (each_then spell xs rest) more h m).1 m in
        ((go x (each_then spell xs rest) (each_then spell xs more) h tail.0).0, tail.1)

    further_parts : (k : Mark) (xs : List X) → Parts (further_then spell k) xs
    further_parts k [] rest more h m = ((h.0, m), h.1)
    further_parts k (x ∷ xs) rest more h m =
        let tail = further_parts k xs rest more (go x (further_then spell k xs rest) more h.1 m).1 m in
        ((h.0, (go x (further_then spell k xs rest) (further_then spell k xs more) h.1 tail.0).0), tail.1)

    listed_parts : (k : Mark) (xs : List X) → Parts (listed_then spell k) xs
    listed_parts k [] rest more h m = ((h.0, m), h.1)
    listed_parts k (x ∷ xs) rest more h m =
        let tail = further_parts k xs rest more (go x (further_then spell k xs rest) more h m).1 m in
        ((go x (further_then spell k xs rest) (further_then spell k xs more) h tail.0).0, tail.1)

    enclosed_parts : (j k : Mark) (xs : List X) → Parts (enclosed_then spell j k) xs
    enclosed_parts j k [] rest more h m = (m, h)
    enclosed_parts j k (x ∷ xs) rest more h m = let tail = listed_parts k (x ∷ xs) rest more h.1 m in ((h.0, tail.0), tail.1)

  -- two things, one after another
  two : {X Y : Type 0} (one : X → List Token → List Token) (other : Y → List Token → List Token) (x : X) (y : Y) → Parts one x → Parts other y → Parts (λ q ts. one x (other q ts)) y
  two one other x y go on rest more h m =
      let tail = on rest more (go (other y rest) more h m).1 m in
      ((go (other y rest) (other y more) h tail.0).0, tail.1)

  name_parts : (n : Name) → Parts p.name_then n
  name_parts n rest more h m = ((h.0, m), h.1)

  marked_parts : (k : Mark) (o : Option Name) → Parts (p.marked_name_then k) o
  marked_parts k None rest more h m = (m, h)
  marked_parts k (Some n) rest more h m = ((h.0, (h.1.0, m)), h.1.1)

  states_parts : (ss : States) → Parts p.states_then ss
  states_parts (s.one n) rest more h m = ((h.0, m), h.1)
  states_parts (s.several ns at) rest more h m = let tail = listed_parts p.name_then name_parts mark.CloseBrace ns rest more h.1 m in ((h.0, tail.0), tail.1)

  at_states_parts : (o : Option States) → Parts p.at_states_then o
  at_states_parts None rest more h m = (m, h)
  at_states_parts (Some ss) rest more h m = let tail = states_parts ss rest more h.1 m in ((h.0, tail.0), tail.1)

  key_states_parts : (k : KeyStates) → Parts p.key_states_then k
  key_states_parts k rest more h m = let tail = at_states_parts k.states rest more h.1 m in ((h.0, tail.0), tail.1)

  -- ---- types

  named_parts : (n : Named) → Parts p.named_then n
  named_parts n rest more h m =
      let tail = enclosed_parts p.name_then name_parts mark.Less mark.Greater n.keys rest more h.1 m in ((h.0, tail.0), tail.1)

  ty_parts : (t : Ty) → Parts p.ty_then t
  ty_parts (s.int at) rest more h m = ((h.0, m), h.1)
  ty_parts (s.bool at) rest more h m = ((h.0, m), h.1)
  ty_parts (s.tracked k n at) rest more h m =
      let tail = named_parts n rest more h.1.1.1.1 m in ((h.0, (h.1.0, (h.1.1.0, (h.1.1.1.0, tail.0)))), tail.1)
  ty_parts (s.owning ss n at) rest more h m =
      let tail = two p.at_states_then p.named_then ss n (at_states_parts ss) (named_parts n) rest more h.1 m in ((h.0, tail.0), tail.1)
  ty_parts (s.guarded k n) rest more h m = let tail = named_parts n rest more h.1.1 m in ((h.0, (h.1.0, tail.0)), tail.1)
  ty_parts (s.plain n) rest more h m = named_parts n rest more h m

  -- ---- expressions and right sides

  expr_parts : (e : Expr) → Parts p.expr_then e
  expr_parts (s.number z at) rest more h m = ((h.0, m), h.1)
  expr_parts (s.true at) rest more h m = ((h.0, m), h.1)
  expr_parts (s.false at) rest more h m = ((h.0, m), h.1)
  expr_parts (s.variable x) rest more h m = ((h.0, m), h.1)
  expr_parts (s.field x f) rest more h m = ((h.0, (h.1.0, (h.1.1.0, m))), h.1.1.1)
  expr_parts (s.group e at) rest more h m =
      let one = (expr_parts e (sign mark.CloseParen ∷ rest) more h.1 m).1 in
      ((h.0, (expr_parts e (sign mark.CloseParen ∷ rest) (sign mark.CloseParen ∷ more) h.1 (one.0, m)).0), one.1)
  expr_parts (s.unary o e at) rest more h m = let tail = expr_parts e rest more h.1 m in ((h.0, tail.0), tail.1)
  expr_parts (s.binary o l k at) rest more h m =
      let one = (expr_parts l (sign (p.sign_of o) ∷ p.expr_then k rest) more h m).1 in
      let tail = expr_parts k rest more one.1 m in
      ((expr_parts l (sign (p.sign_of o) ∷ p.expr_then k rest) (sign (p.sign_of o) ∷ p.expr_then k more) h (one.0, tail.0)).0, tail.1)

  -- one token before a thing
  led : {X : Type 0} (t : Token) (spell : X → List Token → List Token) (x : X) → Parts spell x → Parts (λ y ts. t ∷ spell y ts) x
  led t spell x go rest more h m = let tail = go rest more h.1 m in ((h.0, tail.0), tail.1)

  -- and one after it
  ended : {X : Type 0} (t : Token) (spell : X → List Token → List Token) (x : X) → Parts spell x → Parts (λ y ts. spell y (t ∷ ts)) x
  ended t spell x go rest more h m =
      let one = (go (t ∷ rest) more h m).1 in
      ((go (t ∷ rest) (t ∷ more) h (one.0, m)).0, one.1)

  build_parts : (b : Build) → Parts p.build_then b
  build_parts b rest more h m =
      let tail = enclosed_parts p.expr_then expr_parts mark.OpenParen mark.CloseParen b.payload rest more h.1 m in ((h.0, tail.0), tail.1)

  call_parts : (c : Call) → Parts p.call_then c
  call_parts c rest more h m =
      let tail = listed_parts p.expr_then expr_parts mark.CloseParen c.arguments rest more h.1.1 m in ((h.0, (h.1.0, tail.0)), tail.1)

  init_parts : (i : Init) → Parts p.init_then i
  init_parts i rest more h m = let tail = expr_parts i.value rest more h.1.1 m in ((h.0, (h.1.0, tail.0)), tail.1)

  owner_parts : (o : Option Name) → Parts p.owner_then o
  owner_parts None rest more h m = (m, h)
  owner_parts (Some n) rest more h m = ((h.0, (h.1.0, (h.1.1.0, m))), h.1.1.1)

  right_parts : (v : Right) → Parts p.right_then v
  right_parts (s.value e) rest more h m = expr_parts e rest more h m
  right_parts (s.build b) rest more h m = build_parts b rest more h m
  right_parts (s.call c) rest more h m = call_parts c rest more h m
  right_parts (s.input at) rest more h m = ((h.0, (h.1.0, (h.1.1.0, m))), h.1.1.1)
  right_parts (s.more at) rest more h m = ((h.0, (h.1.0, (h.1.1.0, m))), h.1.1.1)
  right_parts (s.make o n fs at) rest more h m =
      let fields = led (sign mark.OpenBrace) (listed_then p.init_then mark.CloseBrace) fs (listed_parts p.init_then init_parts mark.CloseBrace fs) in
      let named = two p.named_then (λ xs ts. sign mark.OpenBrace ∷ listed_then p.init_then mark.CloseBrace xs ts) n fs (named_parts n) fields in
      let tail = two p.owner_then (λ xs ts. p.named_then n (sign mark.OpenBrace ∷ listed_then p.init_then mark.CloseBrace xs ts)) o fs (owner_parts o) named rest more h.1 m in
      ((h.0, tail.0), tail.1)
  right_parts (s.adopt x o at) rest more h m = ((h.0, (h.1.0, (h.1.1.0, (h.1.1.1.0, m)))), h.1.1.1.1)

  returned_parts : (v : Returned) → Parts p.returned_then v
  returned_parts s.nothing rest more h m = (m, h)
  returned_parts (s.value e) rest more h m = expr_parts e rest more h m
  returned_parts (s.build b) rest more h m = build_parts b rest more h m

  condition_parts : (e : Expr) → Parts p.condition_then e
  condition_parts e = led (sign mark.OpenParen) (λ x ts. p.expr_then x (sign mark.CloseParen ∷ ts)) e (ended (sign mark.CloseParen) p.expr_then e (expr_parts e))

  -- ---- statements

  mutual
    stmt_parts : (x : Stmt) → Parts p.stmt_then x
    stmt_parts (s.declare t x v at) rest more h m =
        let one = (ty_parts t _ more h m).1 in
        let tail = right_parts v (p.semicolon_then rest) (p.semicolon_then more) one.1.1 ((right_parts v (p.semicolon_then rest) more one.1.1 m).1.0, m) in
        ((ty_parts t _ _ h (one.0, (one.1.0, tail.0))).0, tail.1.1)
    stmt_parts (s.assign x v at) rest more h m =
        let tail = ended (sign mark.Semicolon) p.right_then v (right_parts v) rest more h.1.1 m in ((h.0, (h.1.0, tail.0)), tail.1)
    stmt_parts (s.put x f e at) rest more h m =
        let tail = ended (sign mark.Semicolon) p.expr_then e (expr_parts e) rest more h.1.1.1.1 m in ((h.0, (h.1.0, (h.1.1.0, (h.1.1.1.0, tail.0)))), tail.1)
    stmt_parts (s.call c at) rest more h m = ended (sign mark.Semicolon) p.call_then c (call_parts c) rest more h m
    stmt_parts (s.print e at) rest more h m =
        let tail = ended (sign mark.Semicolon) p.condition_then e (condition_parts e) rest more h.1 m in ((h.0, tail.0), tail.1)
    stmt_parts (s.block b) rest more h m = block_parts b rest more h m
    stmt_parts (s.choose i) rest more h m = if_parts i rest more h m
    stmt_parts (s.loop e b at) rest more h m =
        let tail = two p.condition_then p.block_then e b (condition_parts e) (block_parts b) rest more h.1 m in ((h.0, tail.0), tail.1)
    stmt_parts (s.break at) rest more h m = ((h.0, (h.1.0, m)), h.1.1)
    stmt_parts (s.continue at) rest more h m = ((h.0, (h.1.0, m)), h.1.1)
    stmt_parts (s.return v at) rest more h m =
        let tail = ended (sign mark.Semicolon) p.returned_then v (returned_parts v) rest more h.1 m in ((h.0, tail.0), tail.1)
    stmt_parts (s.switch x arms at) rest more h m =
        let tail = ended (sign mark.CloseBrace) p.arms_then arms (arms_parts arms) rest more h.1.1.1.1.1 m in
        ((h.0, (h.1.0, (h.1.1.0, (h.1.1.1.0, (h.1.1.1.1.0, tail.0))))), tail.1)
    stmt_parts (s.release x at) rest more h m = ((h.0, (h.1.0, (h.1.1.0, m))), h.1.1.1)
    stmt_parts (s.become x t at) rest more h m = ((h.0, (h.1.0, (h.1.1.0, (h.1.1.1.0, (h.1.1.1.1.0, m))))), h.1.1.1.1.1)
    stmt_parts (s.swap x f v at) rest more h m =
        ((h.0, (h.1.0, (h.1.1.0, (h.1.1.1.0, (h.1.1.1.1.0, (h.1.1.1.1.1.0, (h.1.1.1.1.1.1.0, m))))))), h.1.1.1.1.1.1.1)
    stmt_parts (s.open_into x vs at) rest more h m =
        let tail = ended (sign mark.Semicolon) (listed_then p.name_then mark.CloseParen) vs (listed_parts p.name_then name_parts mark.CloseParen vs) rest more h.1.1.1.1 m in
        ((h.0, (h.1.0, (h.1.1.0, (h.1.1.1.0, tail.0)))), tail.1)
    stmt_parts (s.focus x k z b at) rest more h m =
        let tail = block_parts b rest more h.1.1.1.1.1.1.1.1 m in
        ((h.0, (h.1.0, (h.1.1.0, (h.1.1.1.0, (h.1.1.1.1.0, (h.1.1.1.1.1.0, (h.1.1.1.1.1.1.0, (h.1.1.1.1.1.1.1.0, tail.0)))))))), tail.1)

    block_parts : (b : Block) → Parts p.block_then b
    block_parts (s.braced ss at) rest more h m =
        let tail = ended (sign mark.CloseBrace) p.stmts_then ss (stmts_parts ss) rest more h.1 m in ((h.0, tail.0), tail.1)

    if_parts : (i : If) → Parts p.if_then i
    if_parts (s.choice e b other at) rest more h m =
        let inner = two p.block_then p.else_then b other (block_parts b) (else_parts other) in
        let tail = two p.condition_then (λ o ts. p.block_then b (p.else_then o ts)) e other (condition_parts e) inner rest more h.1 m in
        ((h.0, tail.0), tail.1)

    else_parts : (other : Else) → Parts p.else_then other
    else_parts s.nothing rest more h m = (m, h)
    else_parts (s.last b) rest more h m = let tail = block_parts b rest more h.1 m in ((h.0, tail.0), tail.1)
    else_parts (s.chained i) rest more h m = let tail = if_parts i rest more h.1 m in ((h.0, tail.0), tail.1)

    stmts_parts : (ss : Stmts) → Parts p.stmts_then ss
    stmts_parts s.done rest more h m = (m, h)
    stmts_parts (s.next x xs) rest more h m = two p.stmt_then p.stmts_then x xs (stmt_parts x) (stmts_parts xs) rest more h m

    arms_parts : (arms : Arms) → Parts p.arms_then arms
    arms_parts s.no_arms rest more h m = (m, h)
    arms_parts (s.arm c vs b at others) rest more h m =
        let inner = two p.block_then p.arms_then b others (block_parts b) (arms_parts others) in
        let colon = led (sign mark.Colon) (λ o ts. p.block_then b (p.arms_then o ts)) others inner in
        let names = two (enclosed_then p.name_then mark.OpenParen mark.CloseParen) (λ o ts. sign mark.Colon ∷ p.block_then b (p.arms_then o ts)) vs others (enclosed_parts p.name_then name_parts mark.OpenParen mark.CloseParen vs) colon in
        let tail = names rest more h.1.1 m in
        ((h.0, (h.1.0, tail.0)), tail.1)

  -- ---- declarations

  further_states_parts : (xs : List SetState) → Parts p.further_states_then xs
  further_states_parts [] rest more h m = ((h.0, m), h.1)
  further_states_parts (x ∷ xs) rest more h m = let tail = further_states_parts xs rest more h.1.1 m in ((h.0, (h.1.0, tail.0)), tail.1)

  set_states_parts : (xs : List SetState) → Parts p.set_states_then xs
  set_states_parts [] rest more h m = ((h.0, m), h.1)
  set_states_parts (x ∷ xs) rest more h m = let tail = further_states_parts xs rest more h.1 m in ((h.0, tail.0), tail.1)

  header_key_parts : (k : HeaderKey) → Parts p.header_key_then k
  header_key_parts k rest more h m = let tail = marked_parts mark.Colon k.key_type rest more h.1 m in ((h.0, tail.0), tail.1)

  field_parts : (f : Field) → Parts p.field_then f
  field_parts f =
      two p.ty_then (λ o ts. p.name_then f.name (p.at_states_then o (p.semicolon_then ts))) f.ty f.states (ty_parts f.ty)
      (led _ (λ o ts. p.at_states_then o (p.semicolon_then ts)) f.states (ended (sign mark.Semicolon) p.at_states_then f.states (at_states_parts f.states)))

  release_parts : (o : Option States) → Parts p.release_then o
  release_parts None rest more h m = (m, h)
  release_parts (Some ss) rest more h m =
      let tail = ended (sign mark.Semicolon) p.states_then ss (states_parts ss) rest more h.1 m in ((h.0, tail.0), tail.1)

  case_parts : (c : Case) → Parts p.case_then c
  case_parts c rest more h m =
      let tail = two (enclosed_then p.ty_then mark.OpenParen mark.CloseParen) (enclosed_then p.key_states_then mark.OpenBrace mark.CloseBrace) c.payload c.keys
      (enclosed_parts p.ty_then ty_parts mark.OpenParen mark.CloseParen c.payload) (enclosed_parts p.key_states_then key_states_parts mark.OpenBrace mark.CloseBrace c.keys) rest more h.1 m in
      ((h.0, tail.0), tail.1)

  entry_parts : (e : Entry) → Parts p.entry_then e
  entry_parts (s.held k) rest more h m = key_states_parts k rest more h m
  entry_parts (s.changed k a b) rest more h m =
      let tail = two p.states_then (λ y ts. sign mark.Arrow ∷ p.states_then y ts) a b (states_parts a) (led (sign mark.Arrow) p.states_then b (states_parts b)) rest more h.1.1 m in
      ((h.0, (h.1.0, tail.0)), tail.1)
  entry_parts (s.bound k v b) rest more h m =
      ((h.0, (h.1.0, (h.1.1.0, (h.1.1.1.0, (h.1.1.1.1.0, (h.1.1.1.1.1.0, (h.1.1.1.1.1.1.0, m))))))), h.1.1.1.1.1.1.1)
  entry_parts (s.taken k at) rest more h m = led (sign mark.Minus) p.key_states_then k (key_states_parts k) rest more h m
  entry_parts (s.given k at) rest more h m = led (sign mark.Plus) p.key_states_then k (key_states_parts k) rest more h m
  entry_parts (s.fresh k at) rest more h m = let tail = key_states_parts k rest more h.1 m in ((h.0, tail.0), tail.1)

  result_parts : (t : ResultType) → Parts p.result_type_then t
  result_parts (s.void at) rest more h m = ((h.0, m), h.1)
  result_parts (s.value t) rest more h m = ty_parts t rest more h m

  parameter_parts : (q : Parameter) → Parts p.parameter_then q
  parameter_parts q rest more h m =
      let one = (ty_parts q.ty (p.name_then q.name rest) more h m).1 in
      ((ty_parts q.ty (p.name_then q.name rest) (p.name_then q.name more) h (one.0, m)).0, one.1)

  clause_parts : (o : Option (List Entry)) → Parts p.clause_then o
  clause_parts None rest more h m = (m, h)
  clause_parts (Some es) rest more h m = led (sign mark.OpenBracket) (listed_then p.entry_then mark.CloseBracket) es (listed_parts p.entry_then entry_parts mark.CloseBracket es) rest more h m

  head_parts : (h : Head) → Parts p.head_then h
  head_parts x =
      two p.result_type_then (λ o ts. p.name_then x.name (sign mark.OpenParen ∷ listed_then p.parameter_then mark.CloseParen x.parameters (p.clause_then o ts))) x.result_type x.clause
      (result_parts x.result_type)
      (λ rest more h m.
      let tail = two (listed_then p.parameter_then mark.CloseParen) p.clause_then x.parameters x.clause (listed_parts p.parameter_then parameter_parts mark.CloseParen x.parameters) (clause_parts x.clause) rest more h.1.1 m in
      ((h.0, (h.1.0, tail.0)), tail.1))

  pub decl_parts : (d : Decl) → Parts p.decl_then d
  decl_parts (s.stateset n ss at) rest more h m =
      let tail = set_states_parts ss rest more h.1.1.1 m in ((h.0, (h.1.0, (h.1.1.0, tail.0))), tail.1)
  decl_parts (s.abstract n ss at) rest more h m =
      let tail = ended (sign mark.Semicolon) (p.marked_name_then mark.At) ss (marked_parts mark.At ss) rest more h.1.1 m in ((h.0, (h.1.0, tail.0)), tail.1)
  decl_parts (s.struct n ps ss fs o at) rest more h m =
      let last = two (each_then p.field_then) (λ x ts. p.release_then x (sign mark.CloseBrace ∷ ts)) fs o (each_parts p.field_then field_parts fs) (ended (sign mark.CloseBrace) p.release_then o (release_parts o)) in
      let body = led (sign mark.OpenBrace) (λ x ts. each_then p.field_then fs (p.release_then x (sign mark.CloseBrace ∷ ts))) o last in
      let set = two (p.marked_name_then mark.At) (λ x ts. sign mark.OpenBrace ∷ each_then p.field_then fs (p.release_then x (sign mark.CloseBrace ∷ ts))) ss o (marked_parts mark.At ss) body in
      let tail = two p.header_then (λ x ts. p.marked_name_then mark.At ss (sign mark.OpenBrace ∷ each_then p.field_then fs (p.release_then x (sign mark.CloseBrace ∷ ts)))) ps o
      (enclosed_parts p.header_key_then header_key_parts mark.Less mark.Greater ps) set rest more h.1.1 m in
      ((h.0, (h.1.0, tail.0)), tail.1)
  decl_parts (s.variant n ps cs at) rest more h m =
      let cases = led (sign mark.OpenBrace) (listed_then p.case_then mark.CloseBrace) cs (listed_parts p.case_then case_parts mark.CloseBrace cs) in
      let tail = two p.header_then (λ x ts. sign mark.OpenBrace ∷ listed_then p.case_then mark.CloseBrace x ts) ps cs (enclosed_parts p.header_key_then header_key_parts mark.Less mark.Greater ps) cases rest more h.1.1 m in
      ((h.0, (h.1.0, tail.0)), tail.1)
  decl_parts (s.extern h at) rest more x m =
      let tail = ended (sign mark.Semicolon) p.head_then h (head_parts h) rest more x.1 m in ((x.0, tail.0), tail.1)
  decl_parts (s.function h b at) rest more x m = two p.head_then p.block_then h b (head_parts h) (block_parts b) rest more x m

  -- the fact of each token that a file is spelled with is one of each declaration
  pub each_decl : (ds : List Decl) → Each P (each_then p.decl_then ds []) → Each (λ d. Each P (p.decl_then d [])) ds
  each_decl [] h = tt
  each_decl (d ∷ ds) h =
      let one = decl_parts d (each_then p.decl_then ds []) [] h tt in (one.0, each_decl ds one.1)

  pub all_decls : (ds : List Decl) → Each (λ d. Each P (p.decl_then d [])) ds → Each P (each_then p.decl_then ds [])
  all_decls [] h = tt
  all_decls (d ∷ ds) h = (decl_parts d [] (each_then p.decl_then ds []) h.0 (all_decls ds h.1)).0
