-- A part of a tree stays as it is where each of its spans does.
use Rattle.std.proofs.Common.{◌≡◌, List, [], ◌∷◌, map, Option, Some, None, option_map, refl, ap, ap₂}
use Rattle.vlt_base.specs.declared.places.Span.{Span}
use Rattle.vlt_syntax.specs.Tree as s
use Rattle.vlt_syntax.specs.Tree.{Name, States, KeyStates, Named, Ty, Expr, Build, Call, Init, Right, Returned, Stmt, Block, If, Else, Stmts, Arms, SetState, HeaderKey, Field, Case, Entry, ResultType, Parameter, Head, Decl}
use Rattle.vlt_syntax_copies.specs.Mapped as m
use Rattle.vlt_syntax_copies.proofs.Along.{ap₃, ap₄, ap₅, ap₆}

each_same : {X : Type 0} (f : X → X) → ((x : X) → f x ≡ x) → (xs : List X) → map f xs ≡ xs
each_same f go [] = refl
each_same f go (x ∷ xs) = ap₂ (λ y ys. y ∷ ys) (go x) (each_same f go xs)

if_same : {X : Type 0} (f : X → X) → ((x : X) → f x ≡ x) → (o : Option X) → option_map f o ≡ o
if_same f go None = refl
if_same f go (Some x) = ap Some (go x)

module _ (go : Span → Span) (span : (at : Span) → go at ≡ at) where
  name : (n : Name) → m.mapped_name go n ≡ n
  name n = ap (λ at. let made : Name = record { text = n.text; at = at } in made) (span n.at)

  names : (ns : List Name) → m.mapped_names go ns ≡ ns
  names ns = each_same (m.mapped_name go) name ns

  states : (ss : States) → m.mapped_states go ss ≡ ss
  states (s.one n) = ap s.one (name n)
  states (s.several ns at) = ap₂ s.several (names ns) (span at)

  key_states : (k : KeyStates) → m.mapped_key_states go k ≡ k
  key_states k = ap₂ (λ x y. let made : KeyStates = record { key = x; states = y } in made) (name k.key) (if_same (m.mapped_states go) states k.states)

  named : (n : Named) → m.mapped_named go n ≡ n
  named n = ap₂ (λ x y. let made : Named = record { name = x; keys = y } in made) (name n.name) (names n.keys)

  ty : (t : Ty) → m.mapped_ty go t ≡ t
  ty (s.int at) = ap s.int (span at)
  ty (s.bool at) = ap s.bool (span at)
  ty (s.tracked k n at) = ap₃ s.tracked (name k) (named n) (span at)
  ty (s.owning ss n at) = ap₃ s.owning (if_same (m.mapped_states go) states ss) (named n) (span at)
  ty (s.guarded k n) = ap₂ s.guarded (name k) (named n)
  ty (s.plain n) = ap s.plain (named n)

  expr : (e : Expr) → m.mapped_expr go e ≡ e
  expr (s.number z at) = ap (s.number z) (span at)
  expr (s.true at) = ap s.true (span at)
  expr (s.false at) = ap s.false (span at)
  expr (s.variable x) = ap s.variable (name x)
  expr (s.field x f) = ap₂ s.field (name x) (name f)
  expr (s.group e at) = ap₂ s.group (expr e) (span at)
  expr (s.unary o e at) = ap₂ (s.unary o) (expr e) (span at)
  expr (s.binary o a b at) = ap₃ (s.binary o) (expr a) (expr b) (span at)

  build : (b : Build) → m.mapped_build go b ≡ b
  build b = ap₃ (λ x y z. let made : Build = record { case = x; payload = y; at = z } in made) (name b.case) (each_same (m.mapped_expr go) expr b.payload) (span b.at)

  call : (c : Call) → m.mapped_call go c ≡ c
  call c = ap₃ (λ x y z. let made : Call = record { function = x; arguments = y; at = z } in made) (name c.function) (each_same (m.mapped_expr go) expr c.arguments) (span c.at)

  init : (i : Init) → m.mapped_init go i ≡ i
  init i = ap₂ (λ x y. let made : Init = record { field = x; value = y } in made) (name i.field) (expr i.value)

  right : (v : Right) → m.mapped_right go v ≡ v
  right (s.value e) = ap s.value (expr e)
  right (s.build b) = ap s.build (build b)
  right (s.call c) = ap s.call (call c)
  right (s.input at) = ap s.input (span at)
  right (s.more at) = ap s.more (span at)
  right (s.make o n is at) = ap₄ s.make (if_same (m.mapped_name go) name o) (named n) (each_same (m.mapped_init go) init is) (span at)
  right (s.adopt x o at) = ap₃ s.adopt (name x) (name o) (span at)

  returned : (v : Returned) → m.mapped_returned go v ≡ v
  returned s.nothing = refl
  returned (s.value e) = ap s.value (expr e)
  returned (s.build b) = ap s.build (build b)

  mutual
    stmt : (x : Stmt) → m.mapped_stmt go x ≡ x
    stmt (s.declare t x v at) = ap₄ s.declare (ty t) (name x) (right v) (span at)
    stmt (s.assign x v at) = ap₃ s.assign (name x) (right v) (span at)
    stmt (s.put x f e at) = ap₄ s.put (name x) (name f) (expr e) (span at)
    stmt (s.call c at) = ap₂ s.call (call c) (span at)
    stmt (s.print e at) = ap₂ s.print (expr e) (span at)
    stmt (s.block b) = ap s.block (block b)
    stmt (s.choose i) = ap s.choose (choice i)
    stmt (s.loop e b at) = ap₃ s.loop (expr e) (block b) (span at)
    stmt (s.break at) = ap s.break (span at)
    stmt (s.continue at) = ap s.continue (span at)
    stmt (s.return v at) = ap₂ s.return (returned v) (span at)
    stmt (s.switch x xs at) = ap₃ s.switch (name x) (arms xs) (span at)
    stmt (s.release x at) = ap₂ s.release (name x) (span at)
    stmt (s.become x n at) = ap₃ s.become (name x) (name n) (span at)
    stmt (s.swap x f v at) = ap₄ s.swap (name x) (name f) (name v) (span at)
    stmt (s.open_into x vs at) = ap₃ s.open_into (name x) (names vs) (span at)
    stmt (s.focus y k z b at) = ap₅ s.focus (name y) (name k) (name z) (block b) (span at)

    block : (b : Block) → m.mapped_block go b ≡ b
    block (s.braced ss at) = ap₂ s.braced (stmts ss) (span at)

    choice : (i : If) → m.mapped_if go i ≡ i
    choice (s.choice e b o at) = ap₄ s.choice (expr e) (block b) (other o) (span at)

    other : (o : Else) → m.mapped_else go o ≡ o
    other s.nothing = refl
    other (s.last b) = ap s.last (block b)
    other (s.chained i) = ap s.chained (choice i)

    stmts : (ss : Stmts) → m.mapped_stmts go ss ≡ ss
    stmts s.done = refl
    stmts (s.next x xs) = ap₂ s.next (stmt x) (stmts xs)

    arms : (xs : Arms) → m.mapped_arms go xs ≡ xs
    arms s.no_arms = refl
    arms (s.arm tick vs b at rest) = ap₅ s.arm (name tick) (names vs) (block b) (span at) (arms rest)

  set_state : (x : SetState) → m.mapped_set_state go x ≡ x
  set_state x = ap (λ n. let made : SetState = record { name = n; above = x.above } in made) (name x.name)

  header_key : (p : HeaderKey) → m.mapped_header_key go p ≡ p
  header_key p = ap₂ (λ x y. let made : HeaderKey = record { key = x; key_type = y } in made) (name p.key) (if_same (m.mapped_name go) name p.key_type)

  field : (f : Field) → m.mapped_field go f ≡ f
  field f = ap₄ (λ x y z u. let made : Field = record { ty = x; name = y; states = z; at = u } in made) (ty f.ty) (name f.name) (if_same (m.mapped_states go) states f.states) (span f.at)

  case : (c : Case) → m.mapped_case go c ≡ c
  case c = ap₄ (λ x y z u. let made : Case = record { name = x; payload = y; keys = z; at = u } in made) (name c.name) (each_same (m.mapped_ty go) ty c.payload) (each_same (m.mapped_key_states go) key_states c.keys) (span c.at)

  entry : (e : Entry) → m.mapped_entry go e ≡ e
  entry (s.held k) = ap s.held (key_states k)
  entry (s.changed k a b) = ap₃ s.changed (name k) (states a) (states b)
  entry (s.bound k v b) = ap₃ s.bound (name k) (name v) (name b)
  entry (s.taken k at) = ap₂ s.taken (key_states k) (span at)
  entry (s.given k at) = ap₂ s.given (key_states k) (span at)
  entry (s.fresh k at) = ap₂ s.fresh (key_states k) (span at)

  result : (t : ResultType) → m.mapped_result go t ≡ t
  result (s.void at) = ap s.void (span at)
  result (s.value t) = ap s.value (ty t)

  parameter : (p : Parameter) → m.mapped_parameter go p ≡ p
  parameter p = ap₂ (λ x y. let made : Parameter = record { ty = x; name = y } in made) (ty p.ty) (name p.name)

  head : (h : Head) → m.mapped_head go h ≡ h
  head h = ap₅ (λ x y z u w. let made : Head = record { result_type = x; name = y; parameters = z; clause = u; at = w } in made) (result h.result_type) (name h.name) (each_same (m.mapped_parameter go) parameter h.parameters) (if_same (map (m.mapped_entry go)) (each_same (m.mapped_entry go) entry) h.clause) (span h.at)

  pub decl : (d : Decl) → m.mapped_decl go d ≡ d
  decl (s.stateset n ss at) = ap₃ s.stateset (name n) (each_same (m.mapped_set_state go) set_state ss) (span at)
  decl (s.abstract n ss at) = ap₃ s.abstract (name n) (if_same (m.mapped_name go) name ss) (span at)
  decl (s.struct n ps ss fs rs at) = ap₆ s.struct (name n) (each_same (m.mapped_header_key go) header_key ps) (if_same (m.mapped_name go) name ss) (each_same (m.mapped_field go) field fs) (if_same (m.mapped_states go) states rs) (span at)
  decl (s.variant n ps cs at) = ap₄ s.variant (name n) (each_same (m.mapped_header_key go) header_key ps) (each_same (m.mapped_case go) case cs) (span at)
  decl (s.extern h at) = ap₂ s.extern (head h) (span at)
  decl (s.function h b at) = ap₃ s.function (head h) (block b) (span at)
