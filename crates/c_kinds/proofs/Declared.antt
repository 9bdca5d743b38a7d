-- A text of which the kinds refuse nothing stands for a program that assigns declared variables alone.
use Rattle.std.proofs.Common.{◌≡◌, ℕ, ◌+◌, ◌≤◌, IsTrue, Bool, true, false, cond, not, ◌||◌, if◌then◌else◌, List, [], ◌∷◌, ◌++◌, Option, Some, None, refl, sym, subst, arith}
use Rattle.std.specs.List.{sum_by}
use Rattle.std.specs.List.Sorted.{IsPermutation}
use Rattle.std.proofs.lemmas.Bool.{false≢true}
use Rattle.std.proofs.lemmas.Option.{none-some}
use Rattle.std.proofs.lemmas.List.Sums.{sum_by-cons}
use Rattle.std.proofs.lemmas.List.Sorted.{sum_by-IsPermutation, IsPermutation-append_right}
use Rattle.c_syntax.specs.declared.program.CVar.{CVar}
use Rattle.c_syntax.specs.declared.program.CResult.TheVariants as result
use Rattle.c_syntax.specs.C as c
use Rattle.c_syntax.specs.C.{Expr, Arg, Call, Stmt, Stmts, Func, Program}
use Rattle.c_syntax.specs.Unit.{Declaration, Head, Body, TranslationUnit}
use Rattle.c_syntax.specs.Kinds as k
use Rattle.c_syntax.specs.Kinds.{Refusal, Scope, Walk, same_bool, same_variable, is_one_of, scope_of}
use Rattle.c_syntax.specs.Programs.{IsFuncOf, AreFuncsOf, bodies_of, IsProgramOf}
use Rattle.c_machine.specs.Machine.{DeclaresStmt, Declares, AllDeclare, IsDeclared}
use Rattle.c_meaning.specs.Widths.{names_of}

-- ---- a walk that ends without a refusal had none before

lesser_some : (x : Option Refusal) (r : Refusal) → k.lesser x r ≡ None → ⊥
lesser_some None r e = none-some r (sym e)
lesser_some (Some f) r e = by (k.is_less r f) e
  where
    by : (t : Bool) → (if t then Some r else Some f) ≡ None → ⊥
    by true e = none-some r (sym e)
    by false e = none-some f (sym e)

pub quiet : (t : Bool) (at rule : ℕ) (w : Walk) → (k.unless t at rule w).least ≡ None → w.least ≡ None
quiet true at rule w h = h
quiet false at rule w h = absurd (lesser_some w.least (record { at = at; rule = rule }) h)

pub kept : (t : Bool) (at rule : ℕ) (w : Walk) → (k.unless t at rule w).least ≡ None → IsTrue t
kept true at rule w h = refl
kept false at rule w h = absurd (lesser_some w.least (record { at = at; rule = rule }) h)

variable_quiet : (scope : Scope) (v : CVar) (w : Walk) → (k.variable_judged scope v w).least ≡ None → w.least ≡ None
variable_quiet scope v w h = quiet (is_one_of v scope.declared) (k.place w) 1 w h

expr_quiet : (scope : Scope) (own : ℕ) (e : Expr) (w : Walk) → (k.expr_judged scope own e w).least ≡ None → w.least ≡ None
expr_quiet scope own (c.number z) w h = h
expr_quiet scope own (c.variable v) w h = variable_quiet scope v w h
expr_quiet scope own (c.cell x) w h = variable_quiet scope (k.base_of x) w h
expr_quiet scope own c.null w h = h
expr_quiet scope own (c.unary o e) w h =
    expr_quiet scope own e (k.skip 2 w) (quiet (k.may_be result.Number (k.expr_type scope e)) own 2 (k.expr_judged scope own e (k.skip 2 w)) h)
expr_quiet scope own (c.binary o a b) w h =
    let first : Walk = k.expr_judged scope own a (k.skip 1 w) in
    let mid : Walk = k.skip 1 (k.unless (k.may_be result.Number (k.expr_type scope a)) own 2 first) in
    expr_quiet scope own a (k.skip 1 w) (quiet (k.may_be result.Number (k.expr_type scope a)) own 2 first
    (expr_quiet scope own b mid (quiet (k.may_be result.Number (k.expr_type scope b)) own 2 (k.expr_judged scope own b mid) h)))

arg_quiet : (scope : Scope) (x : Arg) (w : Walk) → (k.arg_judged scope x w).least ≡ None → w.least ≡ None
arg_quiet scope (c.number z) w h = h
arg_quiet scope (c.variable v) w h = variable_quiet scope v w h
arg_quiet scope c.null w h = h
arg_quiet scope (c.text s) w h = h

each_quiet : (scope : Scope) (xs : List Arg) (w : Walk) → (k.each_arg_judged scope xs w).least ≡ None → w.least ≡ None
each_quiet scope [] w h = h
each_quiet scope (x ∷ xs) w h = arg_quiet scope x w (each_quiet scope xs (k.skip 1 (k.arg_judged scope x w)) h)

args_quiet : (scope : Scope) (xs : List Arg) (w : Walk) → (k.args_judged scope xs w).least ≡ None → w.least ≡ None
args_quiet scope [] w h = h
args_quiet scope (x ∷ xs) w h = each_quiet scope (x ∷ xs) w h

call_quiet : (scope : Scope) (own : ℕ) (f : Call) (w : Walk) → (k.call_judged scope own f w).least ≡ None → w.least ≡ None
call_quiet scope own (c.function f xs) w h =
    let known : Bool = k.is_known (k.head_of f scope.heads) in
    let mid : Walk = k.skip 2 (k.unless known (k.place w) 1 w) in
    quiet known (k.place w) 1 w (args_quiet scope xs mid (quiet (k.known_fits scope f xs (k.head_of f scope.heads)) own 3 (k.args_judged scope xs mid) h))
call_quiet scope own (c.primitive p xs) w h =
    args_quiet scope xs (k.skip 2 w) (quiet (k.all_fit scope (k.prim_wants p) xs) own 3 (k.args_judged scope xs (k.skip 2 w)) h)

condition_quiet : (scope : Scope) (own : ℕ) (e : Expr) (w : Walk) → (k.condition_judged scope own e w).least ≡ None → w.least ≡ None
condition_quiet scope own e w h = expr_quiet scope own e (k.skip 2 w) (quiet (k.may_be result.Number (k.expr_type scope e)) own 2 (k.expr_judged scope own e (k.skip 2 w)) h)

-- ---- statements

pub record Good (A : Type 0) (w : Walk) : Type 0 where
  pub declares : A
  pub before : w.least ≡ None

mutual
  stmt_good : (scope : Scope) (in_loop : Bool) (own : ℕ) (x : Stmt) (w : Walk) → (k.stmt_judged scope in_loop own x w).least ≡ None → Good (DeclaresStmt scope.declared x) w
  stmt_good scope in_loop own (c.set v e) w h =
      let mid : Walk = k.skip 1 (k.variable_judged scope v w) in
      let none : mid.least ≡ None = expr_quiet scope own e mid (quiet (k.can_set (k.variable_type scope v) (k.expr_type scope e)) own 2 (k.expr_judged scope own e mid) h) in
      record { declares = kept (is_one_of v scope.declared) (k.place w) 1 w none; before = variable_quiet scope v w none }
  stmt_good scope in_loop own (c.set_call v f) w h =
      let mid : Walk = k.skip 1 (k.variable_judged scope v w) in
      let none : mid.least ≡ None = call_quiet scope own f mid (quiet (k.can_set (k.variable_type scope v) (k.call_type scope f)) own 2 (k.call_judged scope own f mid) h) in
      record { declares = kept (is_one_of v scope.declared) (k.place w) 1 w none; before = variable_quiet scope v w none }
  stmt_good scope in_loop own (c.call f) w h = record { declares = tt; before = call_quiet scope own f w h }
  stmt_good scope in_loop own (c.put x e) w h =
      let mid : Walk = k.skip 1 (k.cell_judged scope x w) in
      record { declares = tt; before = variable_quiet scope (k.base_of x) w (expr_quiet scope own e mid (quiet (k.may_be (k.cell_type x) (k.expr_type scope e)) own 2 (k.expr_judged scope own e mid) h)) }
  stmt_good scope in_loop own (c.when e xs) w h =
      let inside = stmts_good scope in_loop xs (k.condition_judged scope own e w) h in
      record { declares = inside.declares; before = condition_quiet scope own e w inside.before }
  stmt_good scope in_loop own (c.choose e xs ys) w h =
      let first : Walk = k.condition_judged scope own e w in
      let other = stmts_good scope in_loop ys (k.skip 3 (k.stmts_judged scope in_loop xs first)) h in
      let inside = stmts_good scope in_loop xs first other.before in
      record { declares = (inside.declares, other.declares); before = condition_quiet scope own e w inside.before }
  stmt_good scope in_loop own (c.loop xs) w h =
      let inside = stmts_good scope true xs (k.skip 5 w) h in
      record { declares = inside.declares; before = inside.before }
  stmt_good scope in_loop own c.break w h = record { declares = tt; before = quiet in_loop own 4 w h }
  stmt_good scope in_loop own c.continue w h = record { declares = tt; before = quiet in_loop own 4 w h }
  stmt_good scope in_loop own (c.return None) w h = record { declares = tt; before = quiet (k.same_type scope.result result.Nothing) own 5 w h }
  stmt_good scope in_loop own (c.return (Some e)) w h =
      record { declares = tt; before = expr_quiet scope own e (k.skip 1 w) (quiet (k.can_return scope.result (k.expr_type scope e)) own 5 (k.expr_judged scope own e (k.skip 1 w)) h) }

  pub stmts_good : (scope : Scope) (in_loop : Bool) (xs : Stmts) (w : Walk) → (k.stmts_judged scope in_loop xs w).least ≡ None → Good (Declares scope.declared xs) w
  stmts_good scope in_loop c.done w h = record { declares = tt; before = h }
  stmts_good scope in_loop (c.next x xs) w h =
      let rest = stmts_good scope in_loop xs (k.stmt_judged scope in_loop (k.place w) x w) h in
      let first = stmt_good scope in_loop (k.place w) x w rest.before in
      record { declares = (first.declares, rest.declares); before = first.before }

-- ---- names in another order

count : CVar → CVar → ℕ
count v w = cond (same_variable v w) 1 0

counted : (v : CVar) (ws : List CVar) → IsTrue (is_one_of v ws) → 1 ≤ sum_by (count v) ws
unfolding count
counted v [] one = absurd (false≢true one)
counted v (w ∷ ws) one = let s = sum_by-cons (count v) w ws in by (same_variable v w) one (λ o. counted v ws o) s
  where
    by : (t : Bool) → IsTrue (t || is_one_of v ws) → (IsTrue (is_one_of v ws) → 1 ≤ sum_by (count v) ws) → sum_by (count v) (w ∷ ws) ≡ cond t 1 0 + sum_by (count v) ws → 1 ≤ sum_by (count v) (w ∷ ws)
    by true o again s = omega (arith, s)
    by false o again s = let k = again o in omega (arith, s, k)

found : (v : CVar) (ws : List CVar) → 1 ≤ sum_by (count v) ws → IsTrue (is_one_of v ws)
unfolding count
found v [] some = absurd (omega (arith, some))
found v (w ∷ ws) some = let s = sum_by-cons (count v) w ws in by (same_variable v w) (λ o. found v ws o) s
  where
    by : (t : Bool) → (1 ≤ sum_by (count v) ws → IsTrue (is_one_of v ws)) → sum_by (count v) (w ∷ ws) ≡ cond t 1 0 + sum_by (count v) ws → IsTrue (t || is_one_of v ws)
    by true again s = refl
    by false again s = again (omega (arith, s, some))

pub same_names : (v : CVar) (xs ys : List CVar) → IsPermutation xs ys → IsTrue (is_one_of v xs) → IsTrue (is_one_of v ys)
same_names v xs ys order one = found v ys (let k = counted v xs one in let e = sum_by-IsPermutation (count v) xs ys order in omega (arith, k, e))

mutual
  stmt_more : (xs ys : List CVar) (x : Stmt) → ((v : CVar) → IsTrue (is_one_of v xs) → IsTrue (is_one_of v ys)) → DeclaresStmt xs x → DeclaresStmt ys x
  stmt_more xs ys (c.set v e) h d = h v d
  stmt_more xs ys (c.set_call v f) h d = h v d
  stmt_more xs ys (c.call f) h d = tt
  stmt_more xs ys (c.put x e) h d = tt
  stmt_more xs ys (c.when e ss) h d = more xs ys ss h d
  stmt_more xs ys (c.choose e ss us) h d = (more xs ys ss h d.0, more xs ys us h d.1)
  stmt_more xs ys (c.loop ss) h d = more xs ys ss h d
  stmt_more xs ys c.break h d = tt
  stmt_more xs ys c.continue h d = tt
  stmt_more xs ys (c.return e) h d = tt

  more : (xs ys : List CVar) (ss : Stmts) → ((v : CVar) → IsTrue (is_one_of v xs) → IsTrue (is_one_of v ys)) → Declares xs ss → Declares ys ss
  more xs ys c.done h d = tt
  more xs ys (c.next x ss) h d = (stmt_more xs ys x h d.0, more xs ys ss h d.1)

-- ---- functions

func_declares : (heads : List Head) (b : Body) (f : Func) → Declares (scope_of heads b).declared b.stmts → IsFuncOf b f → Declares (names_of f) f.body
func_declares heads b f inside is =
    let order : IsPermutation (f.params ++ k.names_of b.vars) (f.params ++ f.vars) = IsPermutation-append_right f.params (k.names_of b.vars) f.vars is.declares in
    let moved = more (k.names_of b.head.params ++ k.names_of b.vars) (names_of f) b.stmts
    (λ v one. same_names v (f.params ++ k.names_of b.vars) (names_of f) order (subst (λ ps. IsTrue (is_one_of v (ps ++ k.names_of b.vars))) (sym is.params) one)) inside in
    subst (Declares (names_of f)) (sym is.body) moved

pub declarations_quiet : (before : List CVar) (ds : List Declaration) (w : Walk) → (k.declarations_judged before ds w).least ≡ None → w.least ≡ None
declarations_quiet before [] w h = h
declarations_quiet before (d ∷ ds) w h =
    let first : Walk = k.skip (k.type_width d.reference) w in
    let second : Walk = k.unless (not (is_one_of d.variable before)) (k.place first) 1 first in
    let third : Walk = k.unless (same_bool d.reference d.variable.reference) (k.place second) 2 second in
    quiet (not (is_one_of d.variable before)) (k.place first) 1 first (quiet (same_bool d.reference d.variable.reference) (k.place second) 2 second (declarations_quiet (d.variable ∷ before) ds (k.skip 2 third) h))

pub params_quiet : (ds : List Declaration) (w : Walk) → (k.params_judged ds w).least ≡ None → w.least ≡ None
params_quiet [] w h = h
params_quiet (d ∷ ds) w h = declarations_quiet [] (d ∷ ds) w h

-- each body declares what it assigns
abbrev AllGood : List Head → List Body → Type 0
AllGood heads [] = Unit {0}
AllGood heads (b ∷ bs) = Declares (scope_of heads b).declared b.stmts × AllGood heads bs

pub body_good : (heads before : List Head) (b : Body) (w : Walk) → (k.body_judged heads before b w).least ≡ None → Good (Declares (scope_of heads b).declared b.stmts) w
body_good heads before b w h =
    let first : Walk = k.skip (k.result_width b.head.result) w in
    let second : Walk = k.unless (not (k.has_name b.head.name before)) (k.place first) 6 first in
    let third : Walk = k.unless (k.has_head b.head heads) (k.place second) 6 second in
    let fourth : Walk = k.params_judged b.head.params (k.skip 2 third) in
    let start : Walk = k.declarations_judged (k.names_of b.head.params) b.vars (k.skip 1 fourth) in
    let inside = stmts_good (scope_of heads b) false b.stmts start h in
    let quiet_third : third.least ≡ None = params_quiet b.head.params (k.skip 2 third) (declarations_quiet (k.names_of b.head.params) b.vars (k.skip 1 fourth) inside.before) in
    record {
      declares = inside.declares;
      before = quiet (not (k.has_name b.head.name before)) (k.place first) 6 first (quiet (k.has_head b.head heads) (k.place second) 6 second quiet_third);
    }

pub bodies_good : (heads before : List Head) (bs : List Body) (w : Walk) → (k.bodies_judged heads before bs w).least ≡ None → Good (AllGood heads bs) w
bodies_good heads before [] w h = record { declares = tt; before = h }
bodies_good heads before (b ∷ bs) w h =
    let rest = bodies_good heads (b.head ∷ before) bs (k.body_judged heads before b w) h in
    let first = body_good heads before b w rest.before in
    record { declares = (first.declares, rest.declares); before = first.before }

chosen_good : (heads : List Head) (glue : Bool) (bs : List Body) → AllGood heads bs → AllGood heads (bodies_of glue bs)
chosen_good heads glue [] h = tt
chosen_good heads glue (b ∷ bs) h = by (same_bool glue b.head.name.glue) (chosen_good heads glue bs h.1)
  where
    by : (t : Bool) → AllGood heads (bodies_of glue bs) → AllGood heads (if t then b ∷ bodies_of glue bs else bodies_of glue bs)
    by true rest = (h.0, rest)
    by false rest = rest

all_declare : (heads : List Head) (bs : List Body) (fs : List Func) → AllGood heads bs → AreFuncsOf bs fs → AllDeclare fs
all_declare heads [] [] h are = tt
all_declare heads [] (f ∷ fs) h are = absurd are
all_declare heads (b ∷ bs) [] h are = absurd are
all_declare heads (b ∷ bs) (f ∷ fs) h are = (func_declares heads b f h.0 are.0, all_declare heads bs fs h.1 are.1)

-- so it is for a program that a text is read as
pub kinds_declare : (places : List ℕ) (u : TranslationUnit) (p : Program) → IsProgramOf u p → k.unit_refusal places u ≡ None → IsDeclared p
kinds_declare places u p is none =
    let start : Walk = k.skip 2 (k.main_judged u (k.skip 3 (record { places = places; least = None }))) in
    let good = (bodies_good u.heads [] u.bodies (k.heads_judged (k.heads_of u.bodies) [] u.heads start) none).declares in
    record {
      glue = all_declare u.heads (bodies_of true u.bodies) p.glue (chosen_good u.heads true u.bodies good) is.glue;
      fns = all_declare u.heads (bodies_of false u.bodies) p.fns (chosen_good u.heads false u.bodies good) is.fns;
    }
