-- A raised declaration is spelled as the declaration is.
use Rattle.std.proofs.Common.{◌≡◌, ℕ, List, [], ◌∷◌, map, Option, Some, None, option_map, refl, ap, ◌∙◌}
use Rattle.vlt_tokens.specs.declared.token.Word.TheVariants as word
use Rattle.vlt_tokens.specs.declared.token.Mark.{Mark}
use Rattle.vlt_tokens.specs.declared.token.Mark.TheVariants as mark
use Rattle.vlt_syntax.specs.Tokens.{Token, name, tick, keyword, sign}
use Rattle.vlt_syntax.specs.Tree as s
use Rattle.vlt_syntax.specs.Tree.{Name, States, KeyStates, Named, Ty, Expr, Build, Call, Init, Right, Returned, Stmt, Block, If, Else, Stmts, Arms, SetState, HeaderKey, Field, Case, Entry, ResultType, Parameter, Head, Decl}
use Rattle.vlt_syntax.specs.Lists.{each_then, further_then, listed_then, enclosed_then}
use Rattle.vlt_syntax.specs.Spelling as p
use Rattle.vlt_syntax_copies.specs.Raised as r

-- ---- lists

module _ {X : Type 0} (spell : X → List Token → List Token) (f : X → X) (same : (x : X) (rest : List Token) → spell (f x) rest ≡ spell x rest) where
  each_same : (xs : List X) (rest : List Token) → each_then spell (map f xs) rest ≡ each_then spell xs rest
  each_same [] rest = refl
  each_same (x ∷ xs) rest = same x (each_then spell (map f xs) rest) ∙ ap (spell x) (each_same xs rest)

  further_same : (m : Mark) (xs : List X) (rest : List Token) → further_then spell m (map f xs) rest ≡ further_then spell m xs rest
  further_same m [] rest = refl
  further_same m (x ∷ xs) rest =
      ap (λ ts. sign mark.Comma ∷ ts) (same x (further_then spell m (map f xs) rest) ∙ ap (spell x) (further_same m xs rest))

  listed_same : (m : Mark) (xs : List X) (rest : List Token) → listed_then spell m (map f xs) rest ≡ listed_then spell m xs rest
  listed_same m [] rest = refl
  listed_same m (x ∷ xs) rest = same x (further_then spell m (map f xs) rest) ∙ ap (spell x) (further_same m xs rest)

  enclosed_same : (k m : Mark) (xs : List X) (rest : List Token) → enclosed_then spell k m (map f xs) rest ≡ enclosed_then spell k m xs rest
  enclosed_same k m [] rest = refl
  enclosed_same k m (x ∷ xs) rest = ap (λ ts. sign k ∷ ts) (listed_same m (x ∷ xs) rest)

-- a token before
after : (t : Token) {xs ys : List Token} → xs ≡ ys → t ∷ xs ≡ t ∷ ys
after t e = ap (λ ts. t ∷ ts) e

module _ (by : ℕ) where
  name_same : (n : Name) (rest : List Token) → p.name_then (r.raised_name by n) rest ≡ p.name_then n rest
  name_same n rest = refl

  marked_same : (m : Mark) (o : Option Name) (rest : List Token) → p.marked_name_then m (option_map (r.raised_name by) o) rest ≡ p.marked_name_then m o rest
  marked_same m None rest = refl
  marked_same m (Some n) rest = refl

  states_same : (ss : States) (rest : List Token) → p.states_then (r.raised_states by ss) rest ≡ p.states_then ss rest
  states_same (s.one n) rest = refl
  states_same (s.several ns at) rest = after (sign mark.OpenBrace) (listed_same p.name_then (r.raised_name by) name_same mark.CloseBrace ns rest)

  at_states_same : (o : Option States) (rest : List Token) → p.at_states_then (option_map (r.raised_states by) o) rest ≡ p.at_states_then o rest
  at_states_same None rest = refl
  at_states_same (Some ss) rest = after (sign mark.At) (states_same ss rest)

  key_states_same : (k : KeyStates) (rest : List Token) → p.key_states_then (r.raised_key_states by k) rest ≡ p.key_states_then k rest
  key_states_same k rest = after (name k.key.text) (at_states_same k.states rest)

  -- ---- types

  named_same : (n : Named) (rest : List Token) → p.named_then (r.raised_named by n) rest ≡ p.named_then n rest
  named_same n rest = after (name n.name.text) (enclosed_same p.name_then (r.raised_name by) name_same mark.Less mark.Greater n.keys rest)

  ty_same : (t : Ty) (rest : List Token) → p.ty_then (r.raised_ty by t) rest ≡ p.ty_then t rest
  ty_same (s.int at) rest = refl
  ty_same (s.bool at) rest = refl
  ty_same (s.tracked k n at) rest =
      ap (λ ts. keyword word.Tracked ∷ (sign mark.OpenParen ∷ (name k.text ∷ (sign mark.CloseParen ∷ ts)))) (named_same n rest)
  ty_same (s.owning ss n at) rest =
      after (keyword word.Tracked) (at_states_same ss (p.named_then (r.raised_named by n) rest) ∙ ap (p.at_states_then ss) (named_same n rest))
  ty_same (s.guarded k n) rest = ap (λ ts. name k.text ∷ (sign mark.Colon ∷ ts)) (named_same n rest)
  ty_same (s.plain n) rest = named_same n rest

  -- ---- expressions and right sides

  expr_same : (e : Expr) (rest : List Token) → p.expr_then (r.raised_expr by e) rest ≡ p.expr_then e rest
  expr_same (s.number z at) rest = refl
  expr_same (s.true at) rest = refl
  expr_same (s.false at) rest = refl
  expr_same (s.variable x) rest = refl
  expr_same (s.field x f) rest = refl
  expr_same (s.group e at) rest = after (sign mark.OpenParen) (expr_same e (sign mark.CloseParen ∷ rest))
  expr_same (s.unary o e at) rest = after (sign (p.sign_of o)) (expr_same e rest)
  expr_same (s.binary o l k at) rest =
      expr_same l (sign (p.sign_of o) ∷ p.expr_then (r.raised_expr by k) rest) ∙
      ap (λ ts. p.expr_then l (sign (p.sign_of o) ∷ ts)) (expr_same k rest)

  build_same : (b : Build) (rest : List Token) → p.build_then (r.raised_build by b) rest ≡ p.build_then b rest
  build_same b rest = after (tick b.case.text) (enclosed_same p.expr_then (r.raised_expr by) expr_same mark.OpenParen mark.CloseParen b.payload rest)

  call_same : (c : Call) (rest : List Token) → p.call_then (r.raised_call by c) rest ≡ p.call_then c rest
  call_same c rest =
      ap (λ ts. name c.function.text ∷ (sign mark.OpenParen ∷ ts)) (listed_same p.expr_then (r.raised_expr by) expr_same mark.CloseParen c.arguments rest)

  init_same : (i : Init) (rest : List Token) → p.init_then (r.raised_init by i) rest ≡ p.init_then i rest
  init_same i rest = ap (λ ts. name i.field.text ∷ (sign mark.Colon ∷ ts)) (expr_same i.value rest)

  owner_same : (o : Option Name) (rest : List Token) → p.owner_then (option_map (r.raised_name by) o) rest ≡ p.owner_then o rest
  owner_same None rest = refl
  owner_same (Some n) rest = refl

  right_same : (v : Right) (rest : List Token) → p.right_then (r.raised_right by v) rest ≡ p.right_then v rest
  right_same (s.value e) rest = expr_same e rest
  right_same (s.build b) rest = build_same b rest
  right_same (s.call c) rest = call_same c rest
  right_same (s.input at) rest = refl
  right_same (s.more at) rest = refl
  right_same (s.make o n fs at) rest =
      let fields = listed_same p.init_then (r.raised_init by) init_same mark.CloseBrace fs rest in
      let named = named_same n (sign mark.OpenBrace ∷ listed_then p.init_then mark.CloseBrace (map (r.raised_init by) fs) rest) in
      after (keyword word.New) (owner_same o _ ∙ ap (p.owner_then o) (named ∙ ap (λ ts. p.named_then n (sign mark.OpenBrace ∷ ts)) fields))
  right_same (s.adopt x o at) rest = refl

  returned_same : (v : Returned) (rest : List Token) → p.returned_then (r.raised_returned by v) rest ≡ p.returned_then v rest
  returned_same s.nothing rest = refl
  returned_same (s.value e) rest = expr_same e rest
  returned_same (s.build b) rest = build_same b rest

  condition_same : (e : Expr) (rest : List Token) → p.condition_then (r.raised_expr by e) rest ≡ p.condition_then e rest
  condition_same e rest = after (sign mark.OpenParen) (expr_same e (sign mark.CloseParen ∷ rest))

  -- ---- statements

  mutual
    stmt_same : (x : Stmt) (rest : List Token) → p.stmt_then (r.raised_stmt by x) rest ≡ p.stmt_then x rest
    stmt_same (s.declare t x v at) rest =
        ty_same t (name x.text ∷ (sign mark.Assign ∷ p.right_then (r.raised_right by v) (p.semicolon_then rest))) ∙
        ap (λ ts. p.ty_then t (name x.text ∷ (sign mark.Assign ∷ ts))) (right_same v (p.semicolon_then rest))
    stmt_same (s.assign x v at) rest = ap (λ ts. name x.text ∷ (sign mark.Assign ∷ ts)) (right_same v (p.semicolon_then rest))
    stmt_same (s.put x f e at) rest =
        ap (λ ts. name x.text ∷ (sign mark.Dot ∷ (name f.text ∷ (sign mark.Assign ∷ ts)))) (expr_same e (p.semicolon_then rest))
    stmt_same (s.call c at) rest = call_same c (p.semicolon_then rest)
    stmt_same (s.print e at) rest = after (keyword word.Print) (condition_same e (p.semicolon_then rest))
    stmt_same (s.block b) rest = block_same b rest
    stmt_same (s.choose i) rest = if_same i rest
    stmt_same (s.loop e b at) rest =
        after (keyword word.While) (condition_same e (p.block_then (r.raised_block by b) rest) ∙ ap (p.condition_then e) (block_same b rest))
    stmt_same (s.break at) rest = refl
    stmt_same (s.continue at) rest = refl
    stmt_same (s.return v at) rest = after (keyword word.Return) (returned_same v (p.semicolon_then rest))
    stmt_same (s.switch x arms at) rest =
        ap (λ ts. keyword word.Switch ∷ (sign mark.OpenParen ∷ (name x.text ∷ (sign mark.CloseParen ∷ (sign mark.OpenBrace ∷ ts))))) (arms_same arms (sign mark.CloseBrace ∷ rest))
    stmt_same (s.release x at) rest = refl
    stmt_same (s.become x t at) rest = refl
    stmt_same (s.swap x f v at) rest = refl
    stmt_same (s.open_into x vs at) rest =
        ap (λ ts. keyword word.Open ∷ (name x.text ∷ (keyword word.Into ∷ (sign mark.OpenParen ∷ ts))))
        (listed_same p.name_then (r.raised_name by) name_same mark.CloseParen vs (p.semicolon_then rest))
    stmt_same (s.focus x k z b at) rest =
        ap (λ ts. keyword word.Focus ∷ (name x.text ∷ (keyword word.As ∷ (keyword word.Tracked ∷ (sign mark.OpenParen ∷ (name k.text ∷ (sign mark.CloseParen ∷ (name z.text ∷ ts)))))))) (block_same b rest)

    block_same : (b : Block) (rest : List Token) → p.block_then (r.raised_block by b) rest ≡ p.block_then b rest
    block_same (s.braced ss at) rest = after (sign mark.OpenBrace) (stmts_same ss (sign mark.CloseBrace ∷ rest))

    if_same : (i : If) (rest : List Token) → p.if_then (r.raised_if by i) rest ≡ p.if_then i rest
    if_same (s.choice e b other at) rest =
        after (keyword word.If)
        (condition_same e (p.block_then (r.raised_block by b) (p.else_then (r.raised_else by other) rest)) ∙
        ap (p.condition_then e)
        (block_same b (p.else_then (r.raised_else by other) rest) ∙ ap (p.block_then b) (else_same other rest)))

    else_same : (other : Else) (rest : List Token) → p.else_then (r.raised_else by other) rest ≡ p.else_then other rest
    else_same s.nothing rest = refl
    else_same (s.last b) rest = after (keyword word.Else) (block_same b rest)
    else_same (s.chained i) rest = after (keyword word.Else) (if_same i rest)

    stmts_same : (ss : Stmts) (rest : List Token) → p.stmts_then (r.raised_stmts by ss) rest ≡ p.stmts_then ss rest
    stmts_same s.done rest = refl
    stmts_same (s.next x xs) rest = stmt_same x (p.stmts_then (r.raised_stmts by xs) rest) ∙ ap (p.stmt_then x) (stmts_same xs rest)

    arms_same : (arms : Arms) (rest : List Token) → p.arms_then (r.raised_arms by arms) rest ≡ p.arms_then arms rest
    arms_same s.no_arms rest = refl
    arms_same (s.arm c vs b at more) rest =
        ap (λ ts. keyword word.Case ∷ (tick c.text ∷ ts))
        (enclosed_same p.name_then (r.raised_name by) name_same mark.OpenParen mark.CloseParen vs (sign mark.Colon ∷ p.block_then (r.raised_block by b) (p.arms_then (r.raised_arms by more) rest)) ∙
        ap (λ ts. enclosed_then p.name_then mark.OpenParen mark.CloseParen vs (sign mark.Colon ∷ ts))
        (block_same b (p.arms_then (r.raised_arms by more) rest) ∙ ap (p.block_then b) (arms_same more rest)))

  -- ---- declarations

  further_states_same : (xs : List SetState) (rest : List Token) → p.further_states_then (map (r.raised_set_state by) xs) rest ≡ p.further_states_then xs rest
  further_states_same [] rest = refl
  further_states_same (x ∷ xs) rest = ap (λ ts. sign (p.state_sign x.above) ∷ (name x.name.text ∷ ts)) (further_states_same xs rest)

  set_states_same : (xs : List SetState) (rest : List Token) → p.set_states_then (map (r.raised_set_state by) xs) rest ≡ p.set_states_then xs rest
  set_states_same [] rest = refl
  set_states_same (x ∷ xs) rest = after (name x.name.text) (further_states_same xs rest)

  header_key_same : (k : HeaderKey) (rest : List Token) → p.header_key_then (r.raised_header_key by k) rest ≡ p.header_key_then k rest
  header_key_same k rest = after (name k.key.text) (marked_same mark.Colon k.key_type rest)

  field_same : (f : Field) (rest : List Token) → p.field_then (r.raised_field by f) rest ≡ p.field_then f rest
  field_same f rest =
      ty_same f.ty (name f.name.text ∷ p.at_states_then (option_map (r.raised_states by) f.states) (p.semicolon_then rest)) ∙
      ap (λ ts. p.ty_then f.ty (name f.name.text ∷ ts)) (at_states_same f.states (p.semicolon_then rest))

  release_same : (o : Option States) (rest : List Token) → p.release_then (option_map (r.raised_states by) o) rest ≡ p.release_then o rest
  release_same None rest = refl
  release_same (Some ss) rest = after (keyword word.Release) (states_same ss (p.semicolon_then rest))

  case_same : (c : Case) (rest : List Token) → p.case_then (r.raised_case by c) rest ≡ p.case_then c rest
  case_same c rest =
      after (tick c.name.text)
      (enclosed_same p.ty_then (r.raised_ty by) ty_same mark.OpenParen mark.CloseParen c.payload _ ∙
      ap (enclosed_then p.ty_then mark.OpenParen mark.CloseParen c.payload)
      (enclosed_same p.key_states_then (r.raised_key_states by) key_states_same mark.OpenBrace mark.CloseBrace c.keys rest))

  entry_same : (e : Entry) (rest : List Token) → p.entry_then (r.raised_entry by e) rest ≡ p.entry_then e rest
  entry_same (s.held k) rest = key_states_same k rest
  entry_same (s.changed k a b) rest =
      ap (λ ts. name k.text ∷ (sign mark.At ∷ ts))
      (states_same a (sign mark.Arrow ∷ p.states_then (r.raised_states by b) rest) ∙ ap (λ ts. p.states_then a (sign mark.Arrow ∷ ts)) (states_same b rest))
  entry_same (s.bound k v b) rest = refl
  entry_same (s.taken k at) rest = after (sign mark.Minus) (key_states_same k rest)
  entry_same (s.given k at) rest = after (sign mark.Plus) (key_states_same k rest)
  entry_same (s.fresh k at) rest = after (keyword word.New) (key_states_same k rest)

  result_same : (t : ResultType) (rest : List Token) → p.result_type_then (r.raised_result by t) rest ≡ p.result_type_then t rest
  result_same (s.void at) rest = refl
  result_same (s.value t) rest = ty_same t rest

  parameter_same : (q : Parameter) (rest : List Token) → p.parameter_then (r.raised_parameter by q) rest ≡ p.parameter_then q rest
  parameter_same q rest = ty_same q.ty (name q.name.text ∷ rest)

  clause_same : (o : Option (List Entry)) (rest : List Token) → p.clause_then (option_map (map (r.raised_entry by)) o) rest ≡ p.clause_then o rest
  clause_same None rest = refl
  clause_same (Some es) rest = after (sign mark.OpenBracket) (listed_same p.entry_then (r.raised_entry by) entry_same mark.CloseBracket es rest)

  head_same : (h : Head) (rest : List Token) → p.head_then (r.raised_head by h) rest ≡ p.head_then h rest
  head_same h rest =
      result_same h.result_type _ ∙
      ap (λ ts. p.result_type_then h.result_type (name h.name.text ∷ (sign mark.OpenParen ∷ ts)))
      (listed_same p.parameter_then (r.raised_parameter by) parameter_same mark.CloseParen h.parameters _ ∙
      ap (listed_then p.parameter_then mark.CloseParen h.parameters) (clause_same h.clause rest))

  pub decl_same : (d : Decl) (rest : List Token) → p.decl_then (r.raised by d) rest ≡ p.decl_then d rest
  decl_same (s.stateset n ss at) rest =
      ap (λ ts. keyword word.Stateset ∷ (name n.text ∷ (sign mark.OpenBrace ∷ ts))) (set_states_same ss rest)
  decl_same (s.abstract n ss at) rest = ap (λ ts. keyword word.Abstract ∷ (name n.text ∷ ts)) (marked_same mark.At ss (p.semicolon_then rest))
  decl_same (s.struct n ps ss fs o at) rest =
      ap (λ ts. keyword word.Struct ∷ (name n.text ∷ ts))
      (enclosed_same p.header_key_then (r.raised_header_key by) header_key_same mark.Less mark.Greater ps _ ∙
      ap (p.header_then ps)
      (marked_same mark.At ss _ ∙
      ap (λ ts. p.marked_name_then mark.At ss (sign mark.OpenBrace ∷ ts))
      (each_same p.field_then (r.raised_field by) field_same fs _ ∙
      ap (each_then p.field_then fs) (release_same o (sign mark.CloseBrace ∷ rest)))))
  decl_same (s.variant n ps cs at) rest =
      ap (λ ts. keyword word.Variant ∷ (name n.text ∷ ts))
      (enclosed_same p.header_key_then (r.raised_header_key by) header_key_same mark.Less mark.Greater ps _ ∙
      ap (λ ts. p.header_then ps (sign mark.OpenBrace ∷ ts)) (listed_same p.case_then (r.raised_case by) case_same mark.CloseBrace cs rest))
  decl_same (s.extern h at) rest = after (keyword word.Extern) (head_same h (p.semicolon_then rest))
  decl_same (s.function h b at) rest = head_same h (p.block_then (r.raised_block by b) rest) ∙ ap (p.head_then h) (block_same b rest)
