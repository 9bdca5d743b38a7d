-- The spans that a tree's parts get stay as they are where those of the text do.
use Rattle.std.proofs.Common.{◌≡◌, ℕ, List, [], ◌∷◌, map, Option, Some, None, option_map, refl, ap, ap₂}
use Rattle.vlt_base.specs.declared.places.Span.{Span}
use Rattle.vlt_syntax.specs.Tree as s
use Rattle.vlt_syntax.specs.Tree.{Name, States, KeyStates, Named, Ty, Expr, Build, Call, Init, Right, Returned, Stmt, Block, If, Else, Stmts, Arms, SetState, HeaderKey, Field, Case, Entry, ResultType, Parameter, Head, Decl}
use Rattle.vlt_syntax_copies.specs.Mapped as m
use Rattle.vlt_syntax.specs.Places.{Spans, Placing, each_at, further_at, listed_at, enclosed_at, marked_at, name_at, states_at, key_states_at, named_at, ty_at, expr_at, build_at, call_at, init_at, owner_at, right_at, returned_at, stmt_at, block_at, if_at, else_at, stmts_at, arms_at, set_state_at, header_key_at, field_at, release_at, case_at, entry_at, result_type_at, parameter_at, clause_at, head_at, decl_at}
use Rattle.vlt_syntax_copies.proofs.Along.{ap₃, ap₄, ap₅, ap₆}

module _ (spans : Spans) (go : Span → Span) (kept : (i j : ℕ) → go (spans i j) ≡ spans i j) where
  abbrev Stays : {X : Type 0} → (X → X) → (X → Placing X) → Type 0
  Stays {X} f place = (x : X) (i : ℕ) → f (place x spans i).0 ≡ (place x spans i).0

  pub each_kept : {X : Type 0} (f : X → X) (place : X → Placing X) → Stays f place → (xs : List X) (i : ℕ) → map f (each_at place xs spans i).0 ≡ (each_at place xs spans i).0
  each_kept f place stays [] i = refl
  each_kept f place stays (x ∷ xs) i = ap₂ (λ y ys. y ∷ ys) (stays x _) (each_kept f place stays xs _)

  further_kept : {X : Type 0} (f : X → X) (place : X → Placing X) → Stays f place → (xs : List X) (i : ℕ) → map f (further_at place xs spans i).0 ≡ (further_at place xs spans i).0
  further_kept f place stays [] i = refl
  further_kept f place stays (x ∷ xs) i = ap₂ (λ y ys. y ∷ ys) (stays x _) (further_kept f place stays xs _)

  listed_kept : {X : Type 0} (f : X → X) (place : X → Placing X) → Stays f place → (xs : List X) (i : ℕ) → map f (listed_at place xs spans i).0 ≡ (listed_at place xs spans i).0
  listed_kept f place stays [] i = refl
  listed_kept f place stays (x ∷ xs) i = ap₂ (λ y ys. y ∷ ys) (stays x _) (further_kept f place stays xs _)

  enclosed_kept : {X : Type 0} (f : X → X) (place : X → Placing X) → Stays f place → (xs : List X) (i : ℕ) → map f (enclosed_at place xs spans i).0 ≡ (enclosed_at place xs spans i).0
  enclosed_kept f place stays [] i = refl
  enclosed_kept f place stays (x ∷ xs) i = ap₂ (λ y ys. y ∷ ys) (stays x _) (further_kept f place stays xs _)

  marked_kept : {X : Type 0} (f : X → X) (place : X → Placing X) → Stays f place → (o : Option X) (i : ℕ) → option_map f (marked_at place o spans i).0 ≡ (marked_at place o spans i).0
  marked_kept f place stays None i = refl
  marked_kept f place stays (Some x) i = ap Some (stays x _)

  name : (n : Name) (i : ℕ) → m.mapped_name go (name_at n spans i).0 ≡ (name_at n spans i).0
  name n i = ap (λ at. let made : Name = record { text = n.text; at = at } in made) (kept _ _)

  states : (ss : States) (i : ℕ) → m.mapped_states go (states_at ss spans i).0 ≡ (states_at ss spans i).0
  states (s.one n) i = ap s.one (name n _)
  states (s.several ns at) i = ap₂ s.several (listed_kept (m.mapped_name go) name_at name ns _) (kept _ _)

  key_states : (k : KeyStates) (i : ℕ) → m.mapped_key_states go (key_states_at k spans i).0 ≡ (key_states_at k spans i).0
  key_states k i = ap₂ (λ x y. let made : KeyStates = record { key = x; states = y } in made) (name k.key _) (marked_kept (m.mapped_states go) states_at states k.states _)

  named : (n : Named) (i : ℕ) → m.mapped_named go (named_at n spans i).0 ≡ (named_at n spans i).0
  named n i = ap₂ (λ x y. let made : Named = record { name = x; keys = y } in made) (name n.name _) (enclosed_kept (m.mapped_name go) name_at name n.keys _)

  ty : (t : Ty) (i : ℕ) → m.mapped_ty go (ty_at t spans i).0 ≡ (ty_at t spans i).0
  ty (s.int at) i = ap s.int (kept _ _)
  ty (s.bool at) i = ap s.bool (kept _ _)
  ty (s.tracked k n at) i = ap₃ s.tracked (name k _) (named n _) (kept _ _)
  ty (s.owning ss n at) i = ap₃ s.owning (marked_kept (m.mapped_states go) states_at states ss _) (named n _) (kept _ _)
  ty (s.guarded k n) i = ap₂ s.guarded (name k _) (named n _)
  ty (s.plain n) i = ap s.plain (named n _)

  expr : (e : Expr) (i : ℕ) → m.mapped_expr go (expr_at e spans i).0 ≡ (expr_at e spans i).0
  expr (s.number z at) i = ap (s.number z) (kept _ _)
  expr (s.true at) i = ap s.true (kept _ _)
  expr (s.false at) i = ap s.false (kept _ _)
  expr (s.variable x) i = ap s.variable (name x _)
  expr (s.field x f) i = ap₂ s.field (name x _) (name f _)
  expr (s.group e at) i = ap₂ s.group (expr e _) (kept _ _)
  expr (s.unary o e at) i = ap₂ (s.unary o) (expr e _) (kept _ _)
  expr (s.binary o a b at) i = ap₃ (s.binary o) (expr a _) (expr b _) (kept _ _)

  build : (b : Build) (i : ℕ) → m.mapped_build go (build_at b spans i).0 ≡ (build_at b spans i).0
  build b i = ap₃ (λ x y z. let made : Build = record { case = x; payload = y; at = z } in made) (name b.case _) (enclosed_kept (m.mapped_expr go) expr_at expr b.payload _) (kept _ _)

  call : (c : Call) (i : ℕ) → m.mapped_call go (call_at c spans i).0 ≡ (call_at c spans i).0
  call c i = ap₃ (λ x y z. let made : Call = record { function = x; arguments = y; at = z } in made) (name c.function _) (listed_kept (m.mapped_expr go) expr_at expr c.arguments _) (kept _ _)

  init : (c : Init) (i : ℕ) → m.mapped_init go (init_at c spans i).0 ≡ (init_at c spans i).0
  init c i = ap₂ (λ x y. let made : Init = record { field = x; value = y } in made) (name c.field _) (expr c.value _)

  owner : (o : Option Name) (i : ℕ) → option_map (m.mapped_name go) (owner_at o spans i).0 ≡ (owner_at o spans i).0
  owner None i = refl
  owner (Some r) i = ap Some (name r _)

  right : (v : Right) (i : ℕ) → m.mapped_right go (right_at v spans i).0 ≡ (right_at v spans i).0
  right (s.value e) i = ap s.value (expr e _)
  right (s.build b) i = ap s.build (build b _)
  right (s.call c) i = ap s.call (call c _)
  right (s.input at) i = ap s.input (kept _ _)
  right (s.more at) i = ap s.more (kept _ _)
  right (s.make o n is at) i = ap₄ s.make (owner o _) (named n _) (listed_kept (m.mapped_init go) init_at init is _) (kept _ _)
  right (s.adopt x o at) i = ap₃ s.adopt (name x _) (name o _) (kept _ _)

  returned : (v : Returned) (i : ℕ) → m.mapped_returned go (returned_at v spans i).0 ≡ (returned_at v spans i).0
  returned s.nothing i = refl
  returned (s.value e) i = ap s.value (expr e _)
  returned (s.build b) i = ap s.build (build b _)

  mutual
    stmt : (x : Stmt) (i : ℕ) → m.mapped_stmt go (stmt_at x spans i).0 ≡ (stmt_at x spans i).0
    stmt (s.declare t x v at) i = ap₄ s.declare (ty t _) (name x _) (right v _) (kept _ _)
    stmt (s.assign x v at) i = ap₃ s.assign (name x _) (right v _) (kept _ _)
    stmt (s.put x f e at) i = ap₄ s.put (name x _) (name f _) (expr e _) (kept _ _)
    stmt (s.call c at) i = ap₂ s.call (call c _) (kept _ _)
    stmt (s.print e at) i = ap₂ s.print (expr e _) (kept _ _)
    stmt (s.block b) i = ap s.block (block b _)
    stmt (s.choose c) i = ap s.choose (choice c _)
    stmt (s.loop e b at) i = ap₃ s.loop (expr e _) (block b _) (kept _ _)
    stmt (s.break at) i = ap s.break (kept _ _)
    stmt (s.continue at) i = ap s.continue (kept _ _)
    stmt (s.return v at) i = ap₂ s.return (returned v _) (kept _ _)
    stmt (s.switch x xs at) i = ap₃ s.switch (name x _) (arms xs _) (kept _ _)
    stmt (s.release x at) i = ap₂ s.release (name x _) (kept _ _)
    stmt (s.become x n at) i = ap₃ s.become (name x _) (name n _) (kept _ _)
    stmt (s.swap x f v at) i = ap₄ s.swap (name x _) (name f _) (name v _) (kept _ _)
    stmt (s.open_into x vs at) i = ap₃ s.open_into (name x _) (listed_kept (m.mapped_name go) name_at name vs _) (kept _ _)
    stmt (s.focus y k z b at) i = ap₅ s.focus (name y _) (name k _) (name z _) (block b _) (kept _ _)

    block : (b : Block) (i : ℕ) → m.mapped_block go (block_at b spans i).0 ≡ (block_at b spans i).0
    block (s.braced ss at) i = ap₂ s.braced (stmts ss _) (kept _ _)

    choice : (c : If) (i : ℕ) → m.mapped_if go (if_at c spans i).0 ≡ (if_at c spans i).0
    choice (s.choice e b o at) i = ap₄ s.choice (expr e _) (block b _) (other o _) (kept _ _)

    other : (o : Else) (i : ℕ) → m.mapped_else go (else_at o spans i).0 ≡ (else_at o spans i).0
    other s.nothing i = refl
    other (s.last b) i = ap s.last (block b _)
    other (s.chained c) i = ap s.chained (choice c _)

    stmts : (ss : Stmts) (i : ℕ) → m.mapped_stmts go (stmts_at ss spans i).0 ≡ (stmts_at ss spans i).0
    stmts s.done i = refl
    stmts (s.next x xs) i = ap₂ s.next (stmt x _) (stmts xs _)

    arms : (xs : Arms) (i : ℕ) → m.mapped_arms go (arms_at xs spans i).0 ≡ (arms_at xs spans i).0
    arms s.no_arms i = refl
    arms (s.arm tick vs b at rest) i = ap₅ s.arm (name tick _) (enclosed_kept (m.mapped_name go) name_at name vs _) (block b _) (kept _ _) (arms rest _)

  set_state : (x : SetState) (i : ℕ) → m.mapped_set_state go (set_state_at x spans i).0 ≡ (set_state_at x spans i).0
  set_state x i = ap (λ n. let made : SetState = record { name = n; above = x.above } in made) (name x.name _)

  header_key : (p : HeaderKey) (i : ℕ) → m.mapped_header_key go (header_key_at p spans i).0 ≡ (header_key_at p spans i).0
  header_key p i = ap₂ (λ x y. let made : HeaderKey = record { key = x; key_type = y } in made) (name p.key _) (marked_kept (m.mapped_name go) name_at name p.key_type _)

  field : (f : Field) (i : ℕ) → m.mapped_field go (field_at f spans i).0 ≡ (field_at f spans i).0
  field f i = ap₄ (λ x y z u. let made : Field = record { ty = x; name = y; states = z; at = u } in made) (ty f.ty _) (name f.name _) (marked_kept (m.mapped_states go) states_at states f.states _) (kept _ _)

  case : (c : Case) (i : ℕ) → m.mapped_case go (case_at c spans i).0 ≡ (case_at c spans i).0
  case c i = ap₄ (λ x y z u. let made : Case = record { name = x; payload = y; keys = z; at = u } in made) (name c.name _) (enclosed_kept (m.mapped_ty go) ty_at ty c.payload _) (enclosed_kept (m.mapped_key_states go) key_states_at key_states c.keys _) (kept _ _)

  entry : (e : Entry) (i : ℕ) → m.mapped_entry go (entry_at e spans i).0 ≡ (entry_at e spans i).0
  entry (s.held k) i = ap s.held (key_states k _)
  entry (s.changed k a b) i = ap₃ s.changed (name k _) (states a _) (states b _)
  entry (s.bound k v b) i = ap₃ s.bound (name k _) (name v _) (name b _)
  entry (s.taken k at) i = ap₂ s.taken (key_states k _) (kept _ _)
  entry (s.given k at) i = ap₂ s.given (key_states k _) (kept _ _)
  entry (s.fresh k at) i = ap₂ s.fresh (key_states k _) (kept _ _)

  result : (t : ResultType) (i : ℕ) → m.mapped_result go (result_type_at t spans i).0 ≡ (result_type_at t spans i).0
  result (s.void at) i = ap s.void (kept _ _)
  result (s.value t) i = ap s.value (ty t _)

  parameter : (p : Parameter) (i : ℕ) → m.mapped_parameter go (parameter_at p spans i).0 ≡ (parameter_at p spans i).0
  parameter p i = ap₂ (λ x y. let made : Parameter = record { ty = x; name = y } in made) (ty p.ty _) (name p.name _)

  clause : (o : Option (List Entry)) (i : ℕ) → option_map (map (m.mapped_entry go)) (clause_at o spans i).0 ≡ (clause_at o spans i).0
  clause None i = refl
  clause (Some es) i = ap Some (listed_kept (m.mapped_entry go) entry_at entry es _)

  head : (h : Head) (i : ℕ) → m.mapped_head go (head_at h spans i).0 ≡ (head_at h spans i).0
  head h i = ap₅ (λ x y z u w. let made : Head = record { result_type = x; name = y; parameters = z; clause = u; at = w } in made) (result h.result_type _) (name h.name _) (listed_kept (m.mapped_parameter go) parameter_at parameter h.parameters _) (clause h.clause _) (kept _ _)

  release : (o : Option States) (i : ℕ) → option_map (m.mapped_states go) (release_at o spans i).0 ≡ (release_at o spans i).0
  release None i = refl
  release (Some ss) i = ap Some (states ss _)

  pub decl : (d : Decl) (i : ℕ) → m.mapped_decl go (decl_at d spans i).0 ≡ (decl_at d spans i).0
  decl (s.stateset n ss at) i = ap₃ s.stateset (name n _) (listed_kept (m.mapped_set_state go) set_state_at set_state ss _) (kept _ _)
  decl (s.abstract n ss at) i = ap₃ s.abstract (name n _) (marked_kept (m.mapped_name go) name_at name ss _) (kept _ _)
  decl (s.struct n ps ss fs rs at) i = ap₆ s.struct (name n _) (enclosed_kept (m.mapped_header_key go) header_key_at header_key ps _) (marked_kept (m.mapped_name go) name_at name ss _) (each_kept (m.mapped_field go) field_at field fs _) (release rs _) (kept _ _)
  decl (s.variant n ps cs at) i = ap₄ s.variant (name n _) (enclosed_kept (m.mapped_header_key go) header_key_at header_key ps _) (listed_kept (m.mapped_case go) case_at case cs _) (kept _ _)
  decl (s.extern h at) i = ap₂ s.extern (head h _) (kept _ _)
  decl (s.function h b at) i = ap₃ s.function (head h _) (block b _) (kept _ _)
