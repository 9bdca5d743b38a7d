-- Two functions that are applied to each span, one after the other, are one.
use Rattle.std.proofs.Common.{◌≡◌, List, [], ◌∷◌, map, Option, Some, None, option_map, refl, ap, ap₂}
use Rattle.vlt_base.specs.declared.places.Span.{Span}
use Rattle.vlt_syntax.specs.Tree as s
use Rattle.vlt_syntax.specs.Tree.{Name, States, KeyStates, Named, Ty, Expr, Build, Call, Init, Right, Returned, Stmt, Block, If, Else, Stmts, Arms, SetState, HeaderKey, Field, Case, Entry, ResultType, Parameter, Head, Decl}
use Rattle.vlt_syntax_copies.specs.Mapped as m
use Rattle.vlt_syntax_copies.proofs.Along.{ap₃, ap₄, ap₅, ap₆}

pub each_twice : {X : Type 0} (f g h : X → X) → ((x : X) → f (g x) ≡ h x) → (xs : List X) → map f (map g xs) ≡ map h xs
each_twice f g h go [] = refl
each_twice f g h go (x ∷ xs) = ap₂ (λ y ys. y ∷ ys) (go x) (each_twice f g h go xs)

if_twice : {X : Type 0} (f g h : X → X) → ((x : X) → f (g x) ≡ h x) → (o : Option X) → option_map f (option_map g o) ≡ option_map h o
if_twice f g h go None = refl
if_twice f g h go (Some x) = ap Some (go x)

module _ (after before both : Span → Span) (span : (at : Span) → after (before at) ≡ both at) where
  name : (n : Name) → m.mapped_name after (m.mapped_name before n) ≡ m.mapped_name both n
  name n = ap (λ at. let made : Name = record { text = n.text; at = at } in made) (span n.at)

  names : (ns : List Name) → m.mapped_names after (m.mapped_names before ns) ≡ m.mapped_names both ns
  names ns = each_twice (m.mapped_name after) (m.mapped_name before) (m.mapped_name both) name ns

  states : (ss : States) → m.mapped_states after (m.mapped_states before ss) ≡ m.mapped_states both ss
  states (s.one n) = ap s.one (name n)
  states (s.several ns at) = ap₂ s.several (names ns) (span at)

  key_states : (k : KeyStates) → m.mapped_key_states after (m.mapped_key_states before k) ≡ m.mapped_key_states both k
  key_states k = ap₂ (λ x y. let made : KeyStates = record { key = x; states = y } in made) (name k.key) (if_twice (m.mapped_states after) (m.mapped_states before) (m.mapped_states both) states k.states)

  named : (n : Named) → m.mapped_named after (m.mapped_named before n) ≡ m.mapped_named both n
  named n = ap₂ (λ x y. let made : Named = record { name = x; keys = y } in made) (name n.name) (names n.keys)

  ty : (t : Ty) → m.mapped_ty after (m.mapped_ty before t) ≡ m.mapped_ty both t
  ty (s.int at) = ap s.int (span at)
  ty (s.bool at) = ap s.bool (span at)
  ty (s.tracked k n at) = ap₃ s.tracked (name k) (named n) (span at)
  ty (s.owning ss n at) = ap₃ s.owning (if_twice (m.mapped_states after) (m.mapped_states before) (m.mapped_states both) states ss) (named n) (span at)
  ty (s.guarded k n) = ap₂ s.guarded (name k) (named n)
  ty (s.plain n) = ap s.plain (named n)

  expr : (e : Expr) → m.mapped_expr after (m.mapped_expr before e) ≡ m.mapped_expr both e
  expr (s.number z at) = ap (s.number z) (span at)
  expr (s.true at) = ap s.true (span at)
  expr (s.false at) = ap s.false (span at)
  expr (s.variable x) = ap s.variable (name x)
  expr (s.field x f) = ap₂ s.field (name x) (name f)
  expr (s.group e at) = ap₂ s.group (expr e) (span at)
  expr (s.unary o e at) = ap₂ (s.unary o) (expr e) (span at)
  expr (s.binary o a b at) = ap₃ (s.binary o) (expr a) (expr b) (span at)

  build : (b : Build) → m.mapped_build after (m.mapped_build before b) ≡ m.mapped_build both b
  build b = ap₃ (λ x y z. let made : Build = record { case = x; payload = y; at = z } in made) (name b.case) (each_twice (m.mapped_expr after) (m.mapped_expr before) (m.mapped_expr both) expr b.payload) (span b.at)

  call : (c : Call) → m.mapped_call after (m.mapped_call before c) ≡ m.mapped_call both c
  call c = ap₃ (λ x y z. let made : Call = record { function = x; arguments = y; at = z } in made) (name c.function) (each_twice (m.mapped_expr after) (m.mapped_expr before) (m.mapped_expr both) expr c.arguments) (span c.at)

  init : (i : Init) → m.mapped_init after (m.mapped_init before i) ≡ m.mapped_init both i
  init i = ap₂ (λ x y. let made : Init = record { field = x; value = y } in made) (name i.field) (expr i.value)

  right : (v : Right) → m.mapped_right after (m.mapped_right before v) ≡ m.mapped_right both v
  right (s.value e) = ap s.value (expr e)
  right (s.build b) = ap s.build (build b)
  right (s.call c) = ap s.call (call c)
  right (s.input at) = ap s.input (span at)
  right (s.more at) = ap s.more (span at)
  right (s.make o n is at) = ap₄ s.make (if_twice (m.mapped_name after) (m.mapped_name before) (m.mapped_name both) name o) (named n) (each_twice (m.mapped_init after) (m.mapped_init before) (m.mapped_init both) init is) (span at)
  right (s.adopt x o at) = ap₃ s.adopt (name x) (name o) (span at)

  returned : (v : Returned) → m.mapped_returned after (m.mapped_returned before v) ≡ m.mapped_returned both v
  returned s.nothing = refl
  returned (s.value e) = ap s.value (expr e)
  returned (s.build b) = ap s.build (build b)

  mutual
    stmt : (x : Stmt) → m.mapped_stmt after (m.mapped_stmt before x) ≡ m.mapped_stmt both x
    stmt (s.declare t x v at) = ap₄ s.declare (ty t) (name x) (right v) (span at)
    stmt (s.assign x v at) = ap₃ s.assign (name x) (right v) (span at)
    stmt (s.put x f e at) = ap₄ s.put (name x) (name f) (expr e) (span at)
    stmt (s.call c at) = ap₂ s.call (call c) (span at)
    stmt (s.print e at) = ap₂ s.print (expr e) (span at)
    stmt (s.block b) = ap s.block (block b)
    stmt (s.choose i) = ap s.choose (choice i)
    stmt (s.loop e b at) = ap₃ s.loop (expr e) (block b) (span at)
    stmt (s.break at) = ap s.break (span at)
    stmt (s.continue at) = ap s.continue (span at)
    stmt (s.return v at) = ap₂ s.return (returned v) (span at)
    stmt (s.switch x xs at) = ap₃ s.switch (name x) (arms xs) (span at)
    stmt (s.release x at) = ap₂ s.release (name x) (span at)
    stmt (s.become x n at) = ap₃ s.become (name x) (name n) (span at)
    stmt (s.swap x f v at) = ap₄ s.swap (name x) (name f) (name v) (span at)
    stmt (s.open_into x vs at) = ap₃ s.open_into (name x) (names vs) (span at)
    stmt (s.focus y k z b at) = ap₅ s.focus (name y) (name k) (name z) (block b) (span at)

    block : (b : Block) → m.mapped_block after (m.mapped_block before b) ≡ m.mapped_block both b
    block (s.braced ss at) = ap₂ s.braced (stmts ss) (span at)

    choice : (i : If) → m.mapped_if after (m.mapped_if before i) ≡ m.mapped_if both i
    choice (s.choice e b o at) = ap₄ s.choice (expr e) (block b) (other o) (span at)

    other : (o : Else) → m.mapped_else after (m.mapped_else before o) ≡ m.mapped_else both o
    other s.nothing = refl
    other (s.last b) = ap s.last (block b)
    other (s.chained i) = ap s.chained (choice i)

    stmts : (ss : Stmts) → m.mapped_stmts after (m.mapped_stmts before ss) ≡ m.mapped_stmts both ss
    stmts s.done = refl
    stmts (s.next x xs) = ap₂ s.next (stmt x) (stmts xs)

    arms : (xs : Arms) → m.mapped_arms after (m.mapped_arms before xs) ≡ m.mapped_arms both xs
    arms s.no_arms = refl
    arms (s.arm tick vs b at rest) = ap₅ s.arm (name tick) (names vs) (block b) (span at) (arms rest)

  set_state : (x : SetState) → m.mapped_set_state after (m.mapped_set_state before x) ≡ m.mapped_set_state both x
  set_state x = ap (λ n. let made : SetState = record { name = n; above = x.above } in made) (name x.name)

  header_key : (p : HeaderKey) → m.mapped_header_key after (m.mapped_header_key before p) ≡ m.mapped_header_key both p
  header_key p = ap₂ (λ x y. let made : HeaderKey = record { key = x; key_type = y } in made) (name p.key) (if_twice (m.mapped_name after) (m.mapped_name before) (m.mapped_name both) name p.key_type)

  field : (f : Field) → m.mapped_field after (m.mapped_field before f) ≡ m.mapped_field both f
  field f = ap₄ (λ x y z u. let made : Field = record { ty = x; name = y; states = z; at = u } in made) (ty f.ty) (name f.name) (if_twice (m.mapped_states after) (m.mapped_states before) (m.mapped_states both) states f.states) (span f.at)

  case : (c : Case) → m.mapped_case after (m.mapped_case before c) ≡ m.mapped_case both c
  case c = ap₄ (λ x y z u. let made : Case = record { name = x; payload = y; keys = z; at = u } in made) (name c.name) (each_twice (m.mapped_ty after) (m.mapped_ty before) (m.mapped_ty both) ty c.payload) (each_twice (m.mapped_key_states after) (m.mapped_key_states before) (m.mapped_key_states both) key_states c.keys) (span c.at)

  entry : (e : Entry) → m.mapped_entry after (m.mapped_entry before e) ≡ m.mapped_entry both e
  entry (s.held k) = ap s.held (key_states k)
  entry (s.changed k a b) = ap₃ s.changed (name k) (states a) (states b)
  entry (s.bound k v b) = ap₃ s.bound (name k) (name v) (name b)
  entry (s.taken k at) = ap₂ s.taken (key_states k) (span at)
  entry (s.given k at) = ap₂ s.given (key_states k) (span at)
  entry (s.fresh k at) = ap₂ s.fresh (key_states k) (span at)

  result : (t : ResultType) → m.mapped_result after (m.mapped_result before t) ≡ m.mapped_result both t
  result (s.void at) = ap s.void (span at)
  result (s.value t) = ap s.value (ty t)

  parameter : (p : Parameter) → m.mapped_parameter after (m.mapped_parameter before p) ≡ m.mapped_parameter both p
  parameter p = ap₂ (λ x y. let made : Parameter = record { ty = x; name = y } in made) (ty p.ty) (name p.name)

  head : (h : Head) → m.mapped_head after (m.mapped_head before h) ≡ m.mapped_head both h
  head h = ap₅ (λ x y z u w. let made : Head = record { result_type = x; name = y; parameters = z; clause = u; at = w } in made) (result h.result_type) (name h.name) (each_twice (m.mapped_parameter after) (m.mapped_parameter before) (m.mapped_parameter both) parameter h.parameters) (if_twice (map (m.mapped_entry after)) (map (m.mapped_entry before)) (map (m.mapped_entry both)) (each_twice (m.mapped_entry after) (m.mapped_entry before) (m.mapped_entry both) entry) h.clause) (span h.at)

  pub decl : (d : Decl) → m.mapped_decl after (m.mapped_decl before d) ≡ m.mapped_decl both d
  decl (s.stateset n ss at) = ap₃ s.stateset (name n) (each_twice (m.mapped_set_state after) (m.mapped_set_state before) (m.mapped_set_state both) set_state ss) (span at)
  decl (s.abstract n ss at) = ap₃ s.abstract (name n) (if_twice (m.mapped_name after) (m.mapped_name before) (m.mapped_name both) name ss) (span at)
  decl (s.struct n ps ss fs rs at) = ap₆ s.struct (name n) (each_twice (m.mapped_header_key after) (m.mapped_header_key before) (m.mapped_header_key both) header_key ps) (if_twice (m.mapped_name after) (m.mapped_name before) (m.mapped_name both) name ss) (each_twice (m.mapped_field after) (m.mapped_field before) (m.mapped_field both) field fs) (if_twice (m.mapped_states after) (m.mapped_states before) (m.mapped_states both) states rs) (span at)
  decl (s.variant n ps cs at) = ap₄ s.variant (name n) (each_twice (m.mapped_header_key after) (m.mapped_header_key before) (m.mapped_header_key both) header_key ps) (each_twice (m.mapped_case after) (m.mapped_case before) (m.mapped_case both) case cs) (span at)
  decl (s.extern h at) = ap₂ s.extern (head h) (span at)
  decl (s.function h b at) = ap₃ s.function (head h) (block b) (span at)
