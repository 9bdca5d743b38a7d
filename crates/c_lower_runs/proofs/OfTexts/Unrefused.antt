-- Code that breaks no rule of C isn't refused: the walk that judges it keeps that nothing is refused so far.
use Rattle.std.proofs.Common.{◌≡◌, ℕ, Bool, true, false, inl, inr, if◌then◌else◌, List, [], ◌∷◌, map, Option, Some, None, refl, sym, ap, subst}
use Rattle.c_syntax.specs.declared.program.CResult.{CResult}
use Rattle.c_syntax.specs.declared.program.CResult.TheVariants as result
use Rattle.c_syntax.specs.declared.program.CVar.{CVar}
use Rattle.c_syntax.specs.declared.program.CCell.{CCell}
use Rattle.c_syntax.specs.C as c
use Rattle.c_syntax.specs.C.{Expr, Arg, Call, Stmt, Stmts}
use Rattle.c_syntax.specs.Kinds.{Walk, Wanted, value, numeral, trap_number, name_text, skip, place, unless, same_type, is_one_of, type_of, may_be, head_of, base_of, cell_type, expr_type, variable_type, variable_judged, cell_judged, expr_judged, fits, all_fit, prim_wants, param_wanted, arg_judged, each_arg_judged, args_judged, is_known, known_fits, call_judged, call_type, can_set, can_return, condition_judged, stmt_judged, stmts_judged}
use Rattle.c_lower_runs.proofs.OfTexts.Ruled.{Place, IsKnown, IsVar, IsTyped, Suits, AllSuit, IsCall, GivesType, IsRuled, AreRuled}

-- nothing is refused so far
abbrev pub IsFree : Walk → Type 0
IsFree w = w.least ≡ None

pub unless_free : (b : Bool) (at rule : ℕ) (w : Walk) → b ≡ true → IsFree w → IsFree (unless b at rule w)
unless_free b at rule w e h = rw e h

pub same_types : (t : CResult) → same_type t t ≡ true
same_types result.Nothing = refl
same_types result.Number = refl
same_types result.Reference = refl

is_same : (t u : CResult) → t ≡ u → same_type u t ≡ true
is_same t u e = subst (λ u. same_type u t ≡ true) e (same_types t)

-- ---- expressions

module _ (a : Place) where
  variable_free : (v : CVar) (w : Walk) → IsKnown a v → IsFree w → IsFree (variable_judged a.scope v w)
  variable_free v w k h = unless_free (is_one_of v a.scope.declared) (place w) 1 w (a.declared v k) h

  cell_free : (x : CCell) (w : Walk) → IsKnown a (base_of x) → IsFree w → IsFree (cell_judged a.scope x w)
  cell_free x w k h = variable_free (base_of x) w k h

  variable_is : (t : CResult) (v : CVar) → IsVar a t v → variable_type a.scope v ≡ Some t
  variable_is t v h = rw (a.declared v h.known) (ap (λ t. Some t) h.type)

  type_is : (t : CResult) (e : Expr) → IsTyped a t e → expr_type a.scope e ≡ Some t
  type_is t (c.number z) h = ap (λ t. Some t) (sym h.0)
  type_is t (c.variable v) h = variable_is t v h
  type_is t (c.cell x) h = ap (λ t. Some t) h.type
  type_is t c.null h = ap (λ t. Some t) (sym h)
  type_is t (c.unary o e) h = ap (λ t. Some t) (sym h.0)
  type_is t (c.binary o x y) h = ap (λ t. Some t) (sym h.0)

  is_number : (e : Expr) → IsTyped a result.Number e → may_be result.Number (expr_type a.scope e) ≡ true
  is_number e h = rw (type_is result.Number e h) refl

  expr_free : (own : ℕ) (t : CResult) (e : Expr) (w : Walk) → IsTyped a t e → IsFree w → IsFree (expr_judged a.scope own e w)
  expr_free own t (c.number z) w h f = f
  expr_free own t (c.variable v) w h f = variable_free v w h.known f
  expr_free own t (c.cell x) w h f = cell_free x w h.base f
  expr_free own t c.null w h f = f
  expr_free own t (c.unary o e) w h f =
      unless_free (may_be result.Number (expr_type a.scope e)) own 2 (expr_judged a.scope own e (skip 2 w)) (is_number e h.1) (expr_free own result.Number e (skip 2 w) h.1 f)
  expr_free own t (c.binary o x y) w h f =
      let first = expr_judged a.scope own x (skip 1 w) in
      let middle = unless (may_be result.Number (expr_type a.scope x)) own 2 first in
      unless_free (may_be result.Number (expr_type a.scope y)) own 2 (expr_judged a.scope own y (skip 1 middle)) (is_number y h.2)
      (expr_free own result.Number y (skip 1 middle) h.2
      (unless_free (may_be result.Number (expr_type a.scope x)) own 2 first (is_number x h.1) (expr_free own result.Number x (skip 1 w) h.1 f)))

  -- ---- calls

  arg_free : (t : Wanted) (x : Arg) (w : Walk) → Suits a t x → IsFree w → IsFree (arg_judged a.scope x w)
  arg_free t (c.number z) w h f = f
  arg_free (value t) (c.variable v) w h f = variable_free v w h.known f
  arg_free numeral (c.variable v) w h f = absurd h
  arg_free trap_number (c.variable v) w h f = absurd h
  arg_free name_text (c.variable v) w h f = absurd h
  arg_free t c.null w h f = f
  arg_free t (c.text cs) w h f = f

  each_free : (ts : List Wanted) (xs : List Arg) (w : Walk) → AllSuit a ts xs → IsFree w → IsFree (each_arg_judged a.scope xs w)
  each_free [] [] w h f = f
  each_free [] (x ∷ xs) w h f = absurd h
  each_free (t ∷ ts) [] w h f = absurd h
  each_free (t ∷ ts) (x ∷ xs) w h f = each_free ts xs (skip 1 (arg_judged a.scope x w)) h.1 (arg_free t x w h.0 f)

  args_free : (ts : List Wanted) (xs : List Arg) (w : Walk) → AllSuit a ts xs → IsFree w → IsFree (args_judged a.scope xs w)
  args_free ts [] w h f = f
  args_free ts (x ∷ xs) w h f = each_free ts (x ∷ xs) w h f

  suits_fits : (t : Wanted) (x : Arg) → Suits a t x → fits a.scope t x ≡ true
  suits_fits (value t) (c.number z) h = rw h.0 refl
  suits_fits (value t) (c.variable v) h = rw (variable_is t v h) (same_types t)
  suits_fits (value t) c.null h = rw h refl
  suits_fits (value t) (c.text cs) h = absurd h
  suits_fits numeral (c.number z) h = refl
  suits_fits numeral (c.variable v) h = absurd h
  suits_fits numeral c.null h = absurd h
  suits_fits numeral (c.text cs) h = absurd h
  suits_fits trap_number (c.number z) (inl e) = rw e refl
  suits_fits trap_number (c.number z) (inr e) = rw e refl
  suits_fits trap_number (c.variable v) h = absurd h
  suits_fits trap_number c.null h = absurd h
  suits_fits trap_number (c.text cs) h = absurd h
  suits_fits name_text (c.number z) h = absurd h
  suits_fits name_text (c.variable v) h = absurd h
  suits_fits name_text c.null h = absurd h
  suits_fits name_text (c.text cs) h = refl

  all_suit_fit : (ts : List Wanted) (xs : List Arg) → AllSuit a ts xs → all_fit a.scope ts xs ≡ true
  all_suit_fit [] [] h = refl
  all_suit_fit [] (x ∷ xs) h = absurd h
  all_suit_fit (t ∷ ts) [] h = absurd h
  all_suit_fit (t ∷ ts) (x ∷ xs) h = rw (suits_fits t x h.0, all_suit_fit ts xs h.1) refl

  call_free : (own : ℕ) (f : Call) (w : Walk) → IsCall a f → IsFree w → IsFree (call_judged a.scope own f w)
  call_free own (c.function f xs) w h k =
      let first = skip 2 (unless (is_known (head_of f a.scope.heads)) (place w) 1 w) in
      unless_free (known_fits a.scope f xs (head_of f a.scope.heads)) own 3 (args_judged a.scope xs first)
      (rw (h.found, h.apart, all_suit_fit (map param_wanted h.head.params) xs h.suit) refl)
      (args_free (map param_wanted h.head.params) xs first h.suit
      (unless_free (is_known (head_of f a.scope.heads)) (place w) 1 w (rw h.found refl) k))
  call_free own (c.primitive p xs) w h k =
      unless_free (all_fit a.scope (prim_wants p) xs) own 3 (args_judged a.scope xs (skip 2 w)) (all_suit_fit (prim_wants p) xs h) (args_free (prim_wants p) xs (skip 2 w) h k)

  gives_is : (t : CResult) (f : Call) → GivesType a t f → call_type a.scope f ≡ Some t
  gives_is t (c.function f xs) h = rw h.1 (ap (λ t. Some t) h.2)
  gives_is t (c.primitive p xs) h = ap (λ t. Some t) h

  -- ---- statements

  -- a variable takes a value of its type
  takes : (v : CVar) (o : Option CResult) → IsKnown a v → o ≡ Some (type_of v) → can_set (variable_type a.scope v) o ≡ true
  takes v o k e = rw (e, a.declared v k) (by v.reference)
    where
      by : (r : Bool) → can_set (Some (if r then result.Reference else result.Number)) (Some (if r then result.Reference else result.Number)) ≡ true
      by true = refl
      by false = refl

  condition_free : (own : ℕ) (e : Expr) (w : Walk) → IsTyped a result.Number e → IsFree w → IsFree (condition_judged a.scope own e w)
  condition_free own e w h f =
      unless_free (may_be result.Number (expr_type a.scope e)) own 2 (expr_judged a.scope own e (skip 2 w)) (is_number e h) (expr_free own result.Number e (skip 2 w) h f)

  mutual
    pub stmt_free : (l : Bool) (own : ℕ) (x : Stmt) (w : Walk) → IsRuled a l x → IsFree w → IsFree (stmt_judged a.scope l own x w)
    stmt_free l own (c.set v e) w h f =
        let first = skip 1 (variable_judged a.scope v w) in
        unless_free (can_set (variable_type a.scope v) (expr_type a.scope e)) own 2 (expr_judged a.scope own e first) (takes v (expr_type a.scope e) h.0 (type_is (type_of v) e h.1))
        (expr_free own (type_of v) e first h.1 (variable_free v w h.0 f))
    stmt_free l own (c.set_call v g) w h f =
        let first = skip 1 (variable_judged a.scope v w) in
        unless_free (can_set (variable_type a.scope v) (call_type a.scope g)) own 2 (call_judged a.scope own g first) (takes v (call_type a.scope g) h.0 (gives_is (type_of v) g h.2))
        (call_free own g first h.1 (variable_free v w h.0 f))
    stmt_free l own (c.call g) w h f = call_free own g w h f
    stmt_free l own (c.put x e) w h f =
        let first = skip 1 (cell_judged a.scope x w) in
        unless_free (may_be (cell_type x) (expr_type a.scope e)) own 2 (expr_judged a.scope own e first) (rw (type_is (cell_type x) e h.1) (same_types (cell_type x)))
        (expr_free own (cell_type x) e first h.1 (cell_free x w h.0.base f))
    stmt_free l own (c.when e xs) w h f = stmts_free l xs (condition_judged a.scope own e w) h.1 (condition_free own e w h.0 f)
    stmt_free l own (c.choose e xs ys) w h f =
        let yes = stmts_judged a.scope l xs (condition_judged a.scope own e w) in
        stmts_free l ys (skip 3 yes) h.2 (stmts_free l xs (condition_judged a.scope own e w) h.1 (condition_free own e w h.0 f))
    stmt_free l own (c.loop xs) w h f = stmts_free true xs (skip 5 w) h f
    stmt_free l own c.break w h f = unless_free l own 4 w h f
    stmt_free l own c.continue w h f = unless_free l own 4 w h f
    stmt_free l own (c.return None) w h f = unless_free (same_type a.scope.result result.Nothing) own 5 w (rw h refl) f
    stmt_free l own (c.return (Some e)) w h f =
        unless_free (can_return a.scope.result (expr_type a.scope e)) own 5 (expr_judged a.scope own e (skip 1 w)) (rw (type_is a.scope.result e h) (same_types a.scope.result))
        (expr_free own a.scope.result e (skip 1 w) h f)

    pub stmts_free : (l : Bool) (xs : Stmts) (w : Walk) → AreRuled a l xs → IsFree w → IsFree (stmts_judged a.scope l xs w)
    stmts_free l c.done w h f = f
    stmts_free l (c.next x xs) w h f = stmts_free l xs (stmt_judged a.scope l (place w) x w) h.1 (stmt_free l (place w) x w h.0 f)
