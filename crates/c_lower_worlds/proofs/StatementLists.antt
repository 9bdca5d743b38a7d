-- What statements do, one list of them after another.
use Rattle.std.proofs.Common.{◌≡◌, ℕ, ◌+◌, List, [], ◌∷◌, ◌++◌, Some, Ok, refl, sym, ap, ◌∙◌, arith, Option}
use Rattle.c_syntax.specs.declared.program.CVar.{CVar}
use Rattle.c_syntax.specs.declared.program.CCell.{CCell}
use Rattle.c_syntax.specs.declared.program.CPrim.{CPrim}
use Rattle.c_syntax.specs.View.{stmts_made}
use Rattle.c_syntax.specs.C as c
use Rattle.c_syntax.specs.C.{Stmt, Expr, Arg}
use Rattle.c_meaning.specs.World.{Value, World, Outcome}
use Rattle.c_meaning.specs.Values.{value_of}
use Rattle.c_meaning.specs.Primitives.{or_broken, primitive_does, put_does}
use Rattle.c_meaning.specs.Primitives as effect
use Rattle.c_meaning.specs.Run.{Setup, Meaning, Frame, Step, goes, breaks, continues, leaves, stops, with_var, does_stmts, then_do, after, count_in, count_in_stmt}
use Rattle.c_lower.specs.Statements.{runtime_call, runtime_value}

pub then_then : (s : Step) (go on : Frame → World → Step) → then_do (then_do s go) on ≡ then_do s (λ frame w. then_do (go frame w) on)
unfolding then_do
then_then (goes frame w) go on = refl
then_then (breaks frame w) go on = refl
then_then (continues frame w) go on = refl
then_then (leaves a w) go on = refl
then_then (stops o w) go on = refl

pub then_goes : (frame : Frame) (w : World) (go : Frame → World → Step) → then_do (goes frame w) go ≡ go frame w
unfolding then_do
then_goes frame w go = refl

pub then_stops : (o : Outcome) (w : World) (go : Frame → World → Step) → then_do (stops o w) go ≡ stops o w
unfolding then_do
then_stops o w go = refl

pub then_ends : (s : Step) → then_do s goes ≡ s
unfolding then_do
then_ends (goes frame w) = refl
then_ends (breaks frame w) = refl
then_ends (continues frame w) = refl
then_ends (leaves a w) = refl
then_ends (stops o w) = refl

module _ (R : Setup) (rest_of : Meaning) where
  -- what the statements do, whatever number the first one has
  abbrev pub Runs : List Stmt → Frame → World → Step → Type 0
  Runs xs frame w s = (n : ℕ) → does_stmts R rest_of n (stmts_made xs) frame w ≡ s

  -- one list after another
  pub both_run : (xs ys : List Stmt) (n : ℕ) (frame : Frame) (w : World) →
      does_stmts R rest_of n (stmts_made (xs ++ ys)) frame w ≡
      then_do (does_stmts R rest_of n (stmts_made xs) frame w) (does_stmts R rest_of (n + count_in (stmts_made xs)) (stmts_made ys))
  both_run [] ys n frame w = rw (no_more n) (sym (then_goes frame w (does_stmts R rest_of n (stmts_made ys))))
    where
      no_more : (n : ℕ) → n + 0 ≡ n
      no_more n = omega arith
  both_run (x ∷ xs) ys n frame w =
      ap (then_do (Rattle.c_meaning.specs.Run.does_stmt R rest_of n x frame w)) (funext2 (λ g v.
      both_run xs ys (n + count_in_stmt x) g v
      ∙ ap (λ k. then_do (does_stmts R rest_of (n + count_in_stmt x) (stmts_made xs) g v) (does_stmts R rest_of k (stmts_made ys)))
      (more n (count_in_stmt x) (count_in (stmts_made xs)))))
      ∙ sym (then_then (Rattle.c_meaning.specs.Run.does_stmt R rest_of n x frame w) _ _)
    where
      more : (n a b : ℕ) → n + a + b ≡ n + (a + b)
      more n a b = omega arith

      funext2 : {go on : Frame → World → Step} → ((g : Frame) (v : World) → go g v ≡ on g v) → go ≡ on
      funext2 e = λ i g v. e g v i

  -- after a list that goes on, the statements that follow
  pub goes_on : (xs ys : List Stmt) (f g : Frame) (w v : World) → Runs xs f w (goes g v) → (n : ℕ) →
      does_stmts R rest_of n (stmts_made (xs ++ ys)) f w ≡ does_stmts R rest_of (n + count_in (stmts_made xs)) (stmts_made ys) g v
  goes_on xs ys f g w v h n =
      both_run xs ys n f w ∙ ap (λ a. then_do a (does_stmts R rest_of (n + count_in (stmts_made xs)) (stmts_made ys))) (h n)
      ∙ then_goes g v (does_stmts R rest_of (n + count_in (stmts_made xs)) (stmts_made ys))

  pub runs_then : (xs ys : List Stmt) (f g : Frame) (w v : World) (s : Step) → Runs xs f w (goes g v) → Runs ys g v s → Runs (xs ++ ys) f w s
  runs_then xs ys f g w v s first second n = goes_on xs ys f g w v first n ∙ second _

  pub stops_there : (xs ys : List Stmt) (f : Frame) (w v : World) (o : Outcome) → Runs xs f w (stops o v) → Runs (xs ++ ys) f w (stops o v)
  unfolding then_do
  stops_there xs ys f w v o first n =
      both_run xs ys n f w ∙ ap (λ a. then_do a (does_stmts R rest_of (n + count_in (stmts_made xs)) (stmts_made ys))) (first n)

  -- ---- single statements

  pub set_runs : (v : CVar) (e : Expr) (a : Value) (f : Frame) (w : World) → value_of e f.vars w.blocks ≡ Ok a →
      Runs (c.set v e ∷ []) f w (goes (with_var v a f) w)
  unfolding or_broken after then_do
  set_runs v e a f w is n = rw is refl

  pub put_runs : (x : CCell) (e : Expr) (f : Frame) (w v : World) → put_does x e f.vars w ≡ effect.nothing v →
      Runs (c.put x e ∷ []) f w (goes f v)
  unfolding after then_do
  put_runs x e f w v is n = rw is refl

  pub call_runs : (prim : CPrim) (xs : List Arg) (f : Frame) (w v : World) → primitive_does R.heap prim xs f.vars w ≡ effect.nothing v →
      Runs (runtime_call prim xs ∷ []) f w (goes f v)
  unfolding after then_do
  call_runs prim xs f w v is n = rw is refl

  pub value_runs : (t : CVar) (prim : CPrim) (xs : List Arg) (a : Value) (f : Frame) (w v : World) →
      primitive_does R.heap prim xs f.vars w ≡ effect.gives (Some a) v →
      Runs (runtime_value t prim xs ∷ []) f w (goes (with_var t a f) v)
  unfolding after then_do
  value_runs t prim xs a f w v is n = rw is refl

  pub call_stops : (prim : CPrim) (xs : List Arg) (f : Frame) (w v : World) (o : Outcome) → primitive_does R.heap prim xs f.vars w ≡ effect.ends o v →
      Runs (runtime_call prim xs ∷ []) f w (stops o v)
  unfolding after then_do
  call_stops prim xs f w v o is n = rw is refl

  pub value_stops : (t : CVar) (prim : CPrim) (xs : List Arg) (f : Frame) (w v : World) (o : Outcome) →
      primitive_does R.heap prim xs f.vars w ≡ effect.ends o v →
      Runs (runtime_value t prim xs ∷ []) f w (stops o v)
  unfolding after then_do
  value_stops t prim xs f w v o is n = rw is refl

  -- a value that nobody takes
  pub call_gives : (prim : CPrim) (xs : List Arg) (a : Option Value) (f : Frame) (w v : World) → primitive_does R.heap prim xs f.vars w ≡ effect.gives a v →
      Runs (runtime_call prim xs ∷ []) f w (goes f v)
  unfolding after then_do
  call_gives prim xs a f w v is n = rw is refl
