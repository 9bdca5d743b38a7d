-- Bodies are judged alike in scopes that declare the same, wherever their tokens begin.
use Rattle.std.proofs.Common.{◌≡◌, ℕ, ◌&&◌, IsTrue, Bool, true, false, not, if◌then◌else◌, List, [], ◌∷◌, map, Option, Some, None, refl, ap, ap₂, ◌∙◌, subst}
use Rattle.std.proofs.lemmas.Bool.{false≢true}
use Rattle.c_syntax.specs.declared.program.CResult.TheVariants as result
use Rattle.c_syntax.specs.declared.program.CVar.{CVar}
use Rattle.c_syntax.specs.declared.program.CName.{CName}
use Rattle.c_syntax.specs.C as c
use Rattle.c_syntax.specs.C.{Expr, Arg, Call, Stmt, Stmts}
use Rattle.c_syntax.specs.Unit.{Head}
use Rattle.c_syntax.specs.Kinds as k
use Rattle.c_syntax.specs.Kinds.{Walk, Scope, Wanted, is_one_of, head_of}
use Rattle.c_kinds.proofs.Declared.{quiet, kept}

-- two scopes that declare the same
pub record Alike (s t : Scope) : Type 0 where
  pub variables : (v : CVar) → is_one_of v s.declared ≡ is_one_of v t.declared
  pub heads : (f : CName) → head_of f s.heads ≡ head_of f t.heads
  pub name : s.name ≡ t.name
  pub result : s.result ≡ t.result

-- nothing is refused so far
abbrev pub Calm : Walk → Type 0
Calm w = w.least ≡ None

pub passes : (b : Bool) (at rule : ℕ) (x : Walk) → IsTrue b → Calm x → Calm (k.unless b at rule x)
passes true at rule x is calm = calm
passes false at rule x is calm = absurd (false≢true is)

-- what one walk tells is told by no other
again : (a b : Bool) (at there rule : ℕ) (w x : Walk) → a ≡ b → Calm (k.unless a at rule w) → Calm x → Calm (k.unless b there rule x)
again a b at there rule w x same h calm = passes b there rule x (subst IsTrue same (kept a at rule w h)) calm

-- a part that nothing is refused of in the one scope has nothing refused of it in the other
record Goes (w : Walk) (other : ℕ → Walk → Walk) : Type 0 where
  before : Calm w
  goes : (own : ℕ) (x : Walk) → Calm x → Calm (other own x)

module _ {s t : Scope} (alike : Alike s t) where
  -- ---- types

  variable_type_alike : (v : CVar) → k.variable_type s v ≡ k.variable_type t v
  variable_type_alike v = ap (λ b. if b then Some (k.type_of v) else None) (alike.variables v)

  type_alike : (e : Expr) → k.expr_type s e ≡ k.expr_type t e
  type_alike (c.number z) = refl
  type_alike (c.variable v) = variable_type_alike v
  type_alike (c.cell x) = refl
  type_alike c.null = refl
  type_alike (c.unary o e) = refl
  type_alike (c.binary o a b) = refl

  call_type_alike : (f : Call) → k.call_type s f ≡ k.call_type t f
  call_type_alike (c.function f xs) = ap k.result_of (alike.heads f)
  call_type_alike (c.primitive p xs) = refl

  fits_alike : (want : Wanted) (x : Arg) → k.fits s want x ≡ k.fits t want x
  fits_alike (k.value r) (c.variable v) = ap (k.may_be r) (variable_type_alike v)
  fits_alike (k.value r) (c.number z) = refl
  fits_alike (k.value r) c.null = refl
  fits_alike (k.value r) (c.text cs) = refl
  fits_alike k.numeral (c.variable v) = ap not (alike.variables v)
  fits_alike k.numeral (c.number z) = refl
  fits_alike k.numeral c.null = refl
  fits_alike k.numeral (c.text cs) = refl
  fits_alike k.trap_number (c.variable v) = ap not (alike.variables v)
  fits_alike k.trap_number (c.number z) = refl
  fits_alike k.trap_number c.null = refl
  fits_alike k.trap_number (c.text cs) = refl
  fits_alike k.name_text (c.variable v) = ap not (alike.variables v)
  fits_alike k.name_text (c.number z) = refl
  fits_alike k.name_text c.null = refl
  fits_alike k.name_text (c.text cs) = refl

  all_fit_alike : (ws : List Wanted) (xs : List Arg) → k.all_fit s ws xs ≡ k.all_fit t ws xs
  all_fit_alike [] [] = refl
  all_fit_alike [] (x ∷ xs) = refl
  all_fit_alike (w ∷ ws) [] = refl
  all_fit_alike (w ∷ ws) (x ∷ xs) = ap₂ (λ a b. a && b) (fits_alike w x) (all_fit_alike ws xs)

  known_fits_alike : (f : CName) (xs : List Arg) → k.known_fits s f xs (head_of f s.heads) ≡ k.known_fits t f xs (head_of f t.heads)
  known_fits_alike f xs = by (head_of f s.heads) ∙ ap (k.known_fits t f xs) (alike.heads f)
    where
      by : (o : Option Head) → k.known_fits s f xs o ≡ k.known_fits t f xs o
      by None = refl
      by (Some h) = ap₂ (λ n b. not (f.glue && n.glue) && b) alike.name (all_fit_alike (map k.param_wanted h.params) xs)

  -- ---- expressions and calls

  variable_again : (v : CVar) (w : Walk) → Calm (k.variable_judged s v w) → Goes w (λ own. k.variable_judged t v)
  variable_again v w h = record {
    before = quiet (is_one_of v s.declared) (k.place w) 1 w h;
    goes = λ own x calm. again (is_one_of v s.declared) (is_one_of v t.declared) (k.place w) (k.place x) 1 w x (alike.variables v) h calm;
  }

  expr_again : (own : ℕ) (e : Expr) (w : Walk) → Calm (k.expr_judged s own e w) → Goes w (λ other. k.expr_judged t other e)
  expr_again own (c.number z) w h = record { before = h; goes = λ other x calm. calm }
  expr_again own (c.variable v) w h = variable_again v w h
  expr_again own (c.cell y) w h = let part = variable_again (k.base_of y) w h in record { before = part.before; goes = λ other x calm. part.goes other x calm }
  expr_again own c.null w h = record { before = h; goes = λ other x calm. calm }
  expr_again own (c.unary o e) w h =
      let inner : Walk = k.expr_judged s own e (k.skip 2 w) in
      let a : Bool = k.may_be result.Number (k.expr_type s e) in
      let b : Bool = k.may_be result.Number (k.expr_type t e) in
      let part = expr_again own e (k.skip 2 w) (quiet a own 2 inner h) in
      record {
        before = part.before;
        goes = λ other x calm. again a b own other 2 inner (k.expr_judged t other e (k.skip 2 x)) (ap (k.may_be result.Number) (type_alike e)) h (part.goes other (k.skip 2 x) calm);
      }
  expr_again own (c.binary o d e) w h =
      let first : Walk = k.expr_judged s own d (k.skip 1 w) in
      let a : Bool = k.may_be result.Number (k.expr_type s d) in
      let mid : Walk = k.skip 1 (k.unless a own 2 first) in
      let second : Walk = k.expr_judged s own e mid in
      let b : Bool = k.may_be result.Number (k.expr_type s e) in
      let right = expr_again own e mid (quiet b own 2 second h) in
      let left = expr_again own d (k.skip 1 w) (quiet a own 2 first right.before) in
      record {
        before = left.before;
        goes = λ other x calm.
            let there : Walk = k.expr_judged t other d (k.skip 1 x) in
            let over : Walk = k.skip 1 (k.unless (k.may_be result.Number (k.expr_type t d)) other 2 there) in
            again b (k.may_be result.Number (k.expr_type t e)) own other 2 second (k.expr_judged t other e over) (ap (k.may_be result.Number) (type_alike e)) h
            (right.goes other over (again a (k.may_be result.Number (k.expr_type t d)) own other 2 first there (ap (k.may_be result.Number) (type_alike d)) right.before (left.goes other (k.skip 1 x) calm)));
      }

  arg_again : (y : Arg) (w : Walk) → Calm (k.arg_judged s y w) → Goes w (λ own. k.arg_judged t y)
  arg_again (c.number z) w h = record { before = h; goes = λ other x calm. calm }
  arg_again (c.variable v) w h = variable_again v w h
  arg_again c.null w h = record { before = h; goes = λ other x calm. calm }
  arg_again (c.text cs) w h = record { before = h; goes = λ other x calm. calm }

  each_again : (ys : List Arg) (w : Walk) → Calm (k.each_arg_judged s ys w) → Goes w (λ own. k.each_arg_judged t ys)
  each_again [] w h = record { before = h; goes = λ other x calm. calm }
  each_again (y ∷ ys) w h =
      let rest = each_again ys (k.skip 1 (k.arg_judged s y w)) h in
      let first = arg_again y w rest.before in
      record { before = first.before; goes = λ other x calm. rest.goes other (k.skip 1 (k.arg_judged t y x)) (first.goes other x calm) }

  args_again : (ys : List Arg) (w : Walk) → Calm (k.args_judged s ys w) → Goes w (λ own. k.args_judged t ys)
  args_again [] w h = record { before = h; goes = λ other x calm. calm }
  args_again (y ∷ ys) w h = each_again (y ∷ ys) w h

  call_again : (own : ℕ) (f : Call) (w : Walk) → Calm (k.call_judged s own f w) → Goes w (λ other. k.call_judged t other f)
  call_again own (c.function f xs) w h =
      let known : Bool = k.is_known (head_of f s.heads) in
      let mid : Walk = k.skip 2 (k.unless known (k.place w) 1 w) in
      let inner : Walk = k.args_judged s xs mid in
      let fit : Bool = k.known_fits s f xs (head_of f s.heads) in
      let part = args_again xs mid (quiet fit own 3 inner h) in
      record {
        before = quiet known (k.place w) 1 w part.before;
        goes = λ other x calm.
            let there : Bool = k.is_known (head_of f t.heads) in
            let over : Walk = k.skip 2 (k.unless there (k.place x) 1 x) in
            again fit (k.known_fits t f xs (head_of f t.heads)) own other 3 inner (k.args_judged t xs over) (known_fits_alike f xs) h
            (part.goes other over (again known there (k.place w) (k.place x) 1 w x (ap k.is_known (alike.heads f)) part.before calm));
      }
  call_again own (c.primitive p xs) w h =
      let inner : Walk = k.args_judged s xs (k.skip 2 w) in
      let fit : Bool = k.all_fit s (k.prim_wants p) xs in
      let part = args_again xs (k.skip 2 w) (quiet fit own 3 inner h) in
      record {
        before = part.before;
        goes = λ other x calm. again fit (k.all_fit t (k.prim_wants p) xs) own other 3 inner (k.args_judged t xs (k.skip 2 x)) (all_fit_alike (k.prim_wants p) xs) h (part.goes other (k.skip 2 x) calm);
      }

  -- ---- statements

  condition_again : (own : ℕ) (e : Expr) (w : Walk) → Calm (k.condition_judged s own e w) → Goes w (λ other. k.condition_judged t other e)
  condition_again own e w h =
      let inner : Walk = k.expr_judged s own e (k.skip 2 w) in
      let a : Bool = k.may_be result.Number (k.expr_type s e) in
      let part = expr_again own e (k.skip 2 w) (quiet a own 2 inner h) in
      record {
        before = part.before;
        goes = λ other x calm.
            again a (k.may_be result.Number (k.expr_type t e)) own other 2 inner (k.expr_judged t other e (k.skip 2 x)) (ap (k.may_be result.Number) (type_alike e)) h (part.goes other (k.skip 2 x) calm);
      }

  mutual
    stmt_again : (in_loop : Bool) (own : ℕ) (y : Stmt) (w : Walk) → Calm (k.stmt_judged s in_loop own y w) → Goes w (λ other. k.stmt_judged t in_loop other y)
    stmt_again in_loop own (c.set v e) w h =
        let mid : Walk = k.skip 1 (k.variable_judged s v w) in
        let inner : Walk = k.expr_judged s own e mid in
        let a : Bool = k.can_set (k.variable_type s v) (k.expr_type s e) in
        let b : Bool = k.can_set (k.variable_type t v) (k.expr_type t e) in
        let value = expr_again own e mid (quiet a own 2 inner h) in
        let first = variable_again v w value.before in
        record {
          before = first.before;
          goes = λ other x calm.
              let over : Walk = k.skip 1 (k.variable_judged t v x) in
              again a b own other 2 inner (k.expr_judged t other e over) (ap₂ k.can_set (variable_type_alike v) (type_alike e)) h (value.goes other over (first.goes other x calm));
        }
    stmt_again in_loop own (c.set_call v f) w h =
        let mid : Walk = k.skip 1 (k.variable_judged s v w) in
        let inner : Walk = k.call_judged s own f mid in
        let a : Bool = k.can_set (k.variable_type s v) (k.call_type s f) in
        let b : Bool = k.can_set (k.variable_type t v) (k.call_type t f) in
        let value = call_again own f mid (quiet a own 2 inner h) in
        let first = variable_again v w value.before in
        record {
          before = first.before;
          goes = λ other x calm.
              let over : Walk = k.skip 1 (k.variable_judged t v x) in
              again a b own other 2 inner (k.call_judged t other f over) (ap₂ k.can_set (variable_type_alike v) (call_type_alike f)) h (value.goes other over (first.goes other x calm));
        }
    stmt_again in_loop own (c.call f) w h = let part = call_again own f w h in record { before = part.before; goes = λ other x calm. part.goes other x calm }
    stmt_again in_loop own (c.put y e) w h =
        let mid : Walk = k.skip 1 (k.cell_judged s y w) in
        let inner : Walk = k.expr_judged s own e mid in
        let a : Bool = k.may_be (k.cell_type y) (k.expr_type s e) in
        let b : Bool = k.may_be (k.cell_type y) (k.expr_type t e) in
        let value = expr_again own e mid (quiet a own 2 inner h) in
        let first = variable_again (k.base_of y) w value.before in
        record {
          before = first.before;
          goes = λ other x calm.
              let over : Walk = k.skip 1 (k.cell_judged t y x) in
              again a b own other 2 inner (k.expr_judged t other e over) (ap (k.may_be (k.cell_type y)) (type_alike e)) h (value.goes other over (first.goes other x calm));
        }
    stmt_again in_loop own (c.when e ys) w h =
        let inside = stmts_again in_loop ys (k.condition_judged s own e w) h in
        let test = condition_again own e w inside.before in
        record { before = test.before; goes = λ other x calm. inside.goes other (k.condition_judged t other e x) (test.goes other x calm) }
    stmt_again in_loop own (c.choose e ys zs) w h =
        let first : Walk = k.condition_judged s own e w in
        let others = stmts_again in_loop zs (k.skip 3 (k.stmts_judged s in_loop ys first)) h in
        let inside = stmts_again in_loop ys first others.before in
        let test = condition_again own e w inside.before in
        record {
          before = test.before;
          goes = λ other x calm.
              let there : Walk = k.condition_judged t other e x in
              others.goes other (k.skip 3 (k.stmts_judged t in_loop ys there)) (inside.goes other there (test.goes other x calm));
        }
    stmt_again in_loop own (c.loop ys) w h =
        let inside = stmts_again true ys (k.skip 5 w) h in
        record { before = inside.before; goes = λ other x calm. inside.goes other (k.skip 5 x) calm }
    stmt_again in_loop own c.break w h = record { before = quiet in_loop own 4 w h; goes = λ other x calm. again in_loop in_loop own other 4 w x refl h calm }
    stmt_again in_loop own c.continue w h = record { before = quiet in_loop own 4 w h; goes = λ other x calm. again in_loop in_loop own other 4 w x refl h calm }
    stmt_again in_loop own (c.return None) w h =
        let a : Bool = k.same_type s.result result.Nothing in
        record { before = quiet a own 5 w h; goes = λ other x calm. again a (k.same_type t.result result.Nothing) own other 5 w x (ap (λ r. k.same_type r result.Nothing) alike.result) h calm }
    stmt_again in_loop own (c.return (Some e)) w h =
        let inner : Walk = k.expr_judged s own e (k.skip 1 w) in
        let a : Bool = k.can_return s.result (k.expr_type s e) in
        let b : Bool = k.can_return t.result (k.expr_type t e) in
        let value = expr_again own e (k.skip 1 w) (quiet a own 5 inner h) in
        record {
          before = value.before;
          goes = λ other x calm. again a b own other 5 inner (k.expr_judged t other e (k.skip 1 x)) (ap₂ k.can_return alike.result (type_alike e)) h (value.goes other (k.skip 1 x) calm);
        }

    stmts_again : (in_loop : Bool) (ys : Stmts) (w : Walk) → Calm (k.stmts_judged s in_loop ys w) → Goes w (λ other. k.stmts_judged t in_loop ys)
    stmts_again in_loop c.done w h = record { before = h; goes = λ other x calm. calm }
    stmts_again in_loop (c.next y ys) w h =
        let rest = stmts_again in_loop ys (k.stmt_judged s in_loop (k.place w) y w) h in
        let first = stmt_again in_loop (k.place w) y w rest.before in
        record { before = first.before; goes = λ other x calm. rest.goes other (k.stmt_judged t in_loop (k.place x) y x) (first.goes (k.place x) x calm) }

  -- statements of which nothing is refused in the one scope have nothing refused in the other
  pub stmts_alike : (in_loop : Bool) (ys : Stmts) (w x : Walk) → Calm (k.stmts_judged s in_loop ys w) → Calm x → Calm (k.stmts_judged t in_loop ys x)
  stmts_alike in_loop ys w x h calm = (stmts_again in_loop ys w h).goes 0 x calm
