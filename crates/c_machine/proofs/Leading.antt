-- The machine comes where the run comes.
use Rattle.std.proofs.Common.{◌≡◌, ℕ, zero, suc, ◌+◌, ◌-◌, ◌<◌, ◌≤◌, ◌==◌, ◌&&◌, Bool, true, false, if◌then◌else◌, List, [], ◌∷◌, ◌++◌, length, drop, Option, Some, None, Result, Ok, Err, refl, sym, ap, ◌∙◌, subst, arith}
use Rattle.std.proofs.lemmas.Bool.{false≢true}
use Rattle.std.proofs.lemmas.Bool.Decides.{nat_tests}
use Rattle.std.proofs.lemmas.Option.{none-some, same_Some}
use Rattle.vlt_ops.specs.Operator.{is_true}
use Rattle.c_syntax.specs.declared.program.CResult.{CResult}
use Rattle.c_syntax.specs.declared.program.CResult.TheVariants as result
use Rattle.c_syntax.specs.declared.program.CVar.{CVar}
use Rattle.c_syntax.specs.declared.program.CName.{CName}
use Rattle.c_syntax.specs.C as c
use Rattle.c_syntax.specs.C.{Expr, Arg, Call, Stmt, Stmts, Func}
use Rattle.c_meaning.specs.World.{Value, World, Vars, Outcome, done, fuel_end, depth_end, undefined, Ran}
use Rattle.c_meaning.specs.Values.{◌>>=◌, value_of, arg_value, arg_values}
use Rattle.c_meaning.specs.Primitives.{Effect, gives, breaks_rule, ends, set_does, put_does, primitive_does}
use Rattle.c_meaning.specs.Run as run
use Rattle.c_meaning.specs.Run.{Step, Frame, Setup, Meaning, Numbered, count_in_stmt, count_in, count_of, function_of, find_in, bound, depth_in, has_room, can_call, condition, less, does_stmt, does_stmts, ran_of, first_frame, count_in_all}
use Rattle.c_machine.specs.Machine.{value_under, with_value_under, first_values, Task, list, again, back, bottom, State, Next, goes, stops, on, vars_in, frame_in, after_receiving, after, with_found, depth_out, caller_state, leave, break_to, continue_to, body_end, spend, callee_state, caller_of, enter, call_found, does_call, returns, act, move_of, moves, first_conf, DeclaresTarget, DeclaresStmt, Declares, AllDeclare, IsDeclared}
use Rattle.c_meaning.specs.Widths.{names_of}
use Rattle.c_machine.proofs.Names.{looked_filed, filed_long, first_looked, first_long, drop_top, take_top}
use Rattle.c_machine.proofs.Keeping.{KeepsEffect, primitive_keeps, set_keeps, put_keeps}

-- what is fixed of the running frame: its names, whether it is glue, and its depth
pub record Fixed : Type 0 where
  pub names : List CVar
  pub is_glue : Bool
  pub depth : ℕ

-- the machine of a frame with these values, above those of its callers
abbrev pub state_of : Fixed → (below top : List (Option Value)) → World → State
state_of x below top w = record { slots = below ++ top; base = length below; names = x.names; is_glue = x.is_glue; depth = x.depth; world = w }

abbrev pub frame_of : Fixed → List (Option Value) → Frame
frame_of x top = record { depth = x.depth; is_glue = x.is_glue; vars = value_under x.names top }

vars_here : (x : Fixed) (below top : List (Option Value)) (w : World) → vars_in (state_of x below top w) ≡ value_under x.names top
vars_here x below top w = ap (value_under x.names) (drop_top below top)

frame_here : (x : Fixed) (below top : List (Option Value)) (w : World) → frame_in (state_of x below top w) ≡ frame_of x top
frame_here x below top w = ap (λ v. record { depth = x.depth; is_glue = x.is_glue; vars = v }) (vars_here x below top w)

is_ok : {A : Type 0} → Result A ℕ → Bool
is_ok (Ok a) = true
is_ok (Err b) = false

not_ok : {A : Type 0} {b : ℕ} {a : A} → Err b ≡ Ok a → ⊥
unfolding is_ok
not_ok e = false≢true (ap is_ok e)

front_long : (e : Result Value ℕ) (rest : Result (List Value) ℕ) (values : List Value) (n : ℕ) → ((vs : List Value) → rest ≡ Ok vs → n ≡ length vs) → (e >>= (λ a. rest >>= (λ vs. Ok (a ∷ vs)))) ≡ Ok values → suc n ≡ length values
front_long (Err b) rest values n h is = absurd (not_ok is)
front_long (Ok a) (Err b) values n h is = absurd (not_ok is)
front_long (Ok a) (Ok vs) values n h is = ap suc (h vs refl) ∙ ap in_ok is
  where
    in_ok : Result (List Value) ℕ → ℕ
    in_ok (Ok ys) = length ys
    in_ok (Err b) = 0

pub args_long : (xs : List Arg) (vars : Vars) (values : List Value) → arg_values xs vars ≡ Ok values → length xs ≡ length values
args_long [] vars values is = ap in_ok is
  where
    in_ok : Result (List Value) ℕ → ℕ
    in_ok (Ok ys) = length ys
    in_ok (Err b) = 0
args_long (x ∷ xs) vars values is = front_long (arg_value x vars) (arg_values xs vars) values (length xs) (λ vs e. args_long xs vars vs e) is

module _ (r : Setup) where
  pub record Ends (x : Next) (o : Outcome) (w : World) : Type 0 where
    pub count : ℕ
    pub is : moves r count x ≡ stops o w

  pub record Leads (x y : Next) : Type 0 where
    pub on : (o : Outcome) (w : World) → Ends y o w → Ends x o w

  pub here : (x : Next) → Leads x x
  here x = record { on = λ o w e. e }

  pub at_once : (x y : Next) → x ≡ y → Leads x y
  at_once x y e = subst (Leads x) e (here x)

  pub first_move : (ts : List Task) (s : State) (y : Next) → Leads (move_of r ts s) y → Leads (on ts s) y
  first_move ts s y l = record { on = λ o w e. let k = l.on o w e in record { count = suc k.count; is = k.is } }

  pub along : (x y z : Next) → Leads x y → Leads y z → Leads x z
  along x y z a b = record { on = λ o w e. a.on o w (b.on o w e) }

  -- the frame is still there, and the machine goes on from it
  pub record Went (f : Frame) (w : World) (x : Next) (go : State → Next) (q : Fixed) (below : List (Option Value)) (n : ℕ) : Type 0 where
    pub top : List (Option Value)
    pub is : f ≡ frame_of q top
    pub long : length top ≡ length q.names
    pub fuel : w.fuel ≤ n
    pub leads : Leads x (go (state_of q below top w))

  pub record Left (a : Option Value) (w : World) (x : Next) (ts : List Task) (q : Fixed) (below : List (Option Value)) (n : ℕ) : Type 0 where
    pub fuel : w.fuel ≤ n
    pub leads : Leads x (leave a ts (state_of q below [] w))

  -- where the machine comes to when a part of the run came to its end; the fuel is n at most
  abbrev pub Led : Step → Next → List Task → Fixed → List (Option Value) → ℕ → Type 0
  Led (run.goes f w) x ts q below n = Went f w x (on ts) q below n
  Led (run.breaks f w) x ts q below n = Went f w x (break_to (count_of r.program) ts) q below n
  Led (run.continues f w) x ts q below n = Went f w x (continue_to (count_of r.program) ts) q below n
  Led (run.leaves a w) x ts q below n = Left a w x ts q below n
  Led (run.stops o w) x ts q below n = Leads x (stops o w)

  went_less : (f : Frame) (w : World) (x : Next) (go : State → Next) (q : Fixed) (below : List (Option Value)) (n k : ℕ) → n ≤ k → Went f w x go q below n → Went f w x go q below k
  went_less f w x go q below n k l h = record { top = h.top; is = h.is; long = h.long; fuel = omega (arith, l, h.fuel); leads = h.leads }

  less_led : (a : Step) (x : Next) (ts : List Task) (q : Fixed) (below : List (Option Value)) (n k : ℕ) → n ≤ k → Led a x ts q below n → Led a x ts q below k
  less_led (run.goes f w) x ts q below n k l h = went_less f w x _ q below n k l h
  less_led (run.breaks f w) x ts q below n k l h = went_less f w x _ q below n k l h
  less_led (run.continues f w) x ts q below n k l h = went_less f w x _ q below n k l h
  less_led (run.leaves a w) x ts q below n k l h = record { fuel = omega (arith, l, h.fuel); leads = h.leads }
  less_led (run.stops o w) x ts q below n k l h = h

  went_from : (f : Frame) (w : World) (x y : Next) (go : State → Next) (q : Fixed) (below : List (Option Value)) (n : ℕ) → Leads x y → Went f w y go q below n → Went f w x go q below n
  went_from f w x y go q below n l h = record { top = h.top; is = h.is; long = h.long; fuel = h.fuel; leads = along x y _ l h.leads }

  -- what leads to the start leads on
  led_from : (a : Step) (x y : Next) (ts : List Task) (q : Fixed) (below : List (Option Value)) (n : ℕ) → Leads x y → Led a y ts q below n → Led a x ts q below n
  led_from (run.goes f w) x y ts q below n l h = went_from f w x y _ q below n l h
  led_from (run.breaks f w) x y ts q below n l h = went_from f w x y _ q below n l h
  led_from (run.continues f w) x y ts q below n l h = went_from f w x y _ q below n l h
  led_from (run.leaves a w) x y ts q below n l h = record { fuel = h.fuel; leads = along x y _ l h.leads }
  led_from (run.stops o w) x y ts q below n l h = along x y _ l h

  moved_led : (a : Step) (us : List Task) (s : State) (ts : List Task) (q : Fixed) (below : List (Option Value)) (n : ℕ) → Led a (move_of r us s) ts q below n → Led a (on us s) ts q below n
  moved_led a us s ts q below n h = led_from a (on us s) (move_of r us s) ts q below n (first_move us s _ (here _)) h

  -- what comes later
  pub record Sim (k : ℕ) (m : Meaning) : Type 0 where
    pub lists : (n : ℕ) (ss : Stmts) (w : World) (ts : List Task) (q : Fixed) (below top : List (Option Value)) → w.fuel < k → length top ≡ length q.names → Declares q.names ss
        → Led (m n ss (frame_of q top) w) (on (list n ss ∷ ts) (state_of q below top w)) ts q below w.fuel
    pub loops : (n : ℕ) (b : Stmts) (w : World) (ts : List Task) (q : Fixed) (below top : List (Option Value)) → w.fuel < k → length top ≡ length q.names → Declares q.names b
        → Led (m n (c.next (c.loop b) c.done) (frame_of q top) w) (on (again n b ∷ ts) (state_of q below top w)) ts q below w.fuel

  -- a statement, and then the rest of its list
  then_led : (a : Step) (m : ℕ) (rest : Stmts) (go : Frame → World → Step) (x : Next) (ts : List Task) (q : Fixed) (below : List (Option Value)) (n : ℕ) → Led a x (list m rest ∷ ts) q below n
      → ((top : List (Option Value)) (v : World) → length top ≡ length q.names → v.fuel ≤ n → Led (go (frame_of q top) v) (on (list m rest ∷ ts) (state_of q below top v)) ts q below v.fuel)
      → Led (run.then_do a go) x ts q below n
  unfolding run.then_do
  then_led (run.goes f w) m rest go x ts q below n h k =
      let i = k h.top w h.long h.fuel in
      let j = less_led (go (frame_of q h.top) w) _ ts q below w.fuel n h.fuel i in
      subst (λ g. Led (go g w) x ts q below n) (sym h.is) (led_from (go (frame_of q h.top) w) x _ ts q below n h.leads j)
  then_led (run.breaks f w) m rest go x ts q below n h k = record { top = h.top; is = h.is; long = h.long; fuel = h.fuel; leads = h.leads }
  then_led (run.continues f w) m rest go x ts q below n h k = record { top = h.top; is = h.is; long = h.long; fuel = h.fuel; leads = h.leads }
  then_led (run.leaves a w) m rest go x ts q below n h k = record { fuel = h.fuel; leads = h.leads }
  then_led (run.stops o w) m rest go x ts q below n h k = h

  -- a turn's body, and then the loop
  turned_led : (a : Step) (m : ℕ) (b : Stmts) (go : Frame → World → Step) (x : Next) (ts : List Task) (q : Fixed) (below : List (Option Value)) (n : ℕ) → Led a x (again m b ∷ ts) q below n
      → ((top : List (Option Value)) (v : World) → length top ≡ length q.names → v.fuel ≤ n → Led (go (frame_of q top) v) (on (again m b ∷ ts) (state_of q below top v)) ts q below v.fuel)
      → Led (run.then_turn a go) x ts q below n
  unfolding run.then_turn
  turned_led (run.goes f w) m b go x ts q below n h k =
      let i = k h.top w h.long h.fuel in
      let j = less_led (go (frame_of q h.top) w) _ ts q below w.fuel n h.fuel i in
      subst (λ g. Led (go g w) x ts q below n) (sym h.is) (led_from (go (frame_of q h.top) w) x _ ts q below n h.leads j)
  turned_led (run.continues f w) m b go x ts q below n h k =
      let i = k h.top w h.long h.fuel in
      let j = less_led (go (frame_of q h.top) w) _ ts q below w.fuel n h.fuel i in
      subst (λ g. Led (go g w) x ts q below n) (sym h.is) (led_from (go (frame_of q h.top) w) x _ ts q below n h.leads j)
  turned_led (run.breaks f w) m b go x ts q below n h k = record { top = h.top; is = h.is; long = h.long; fuel = h.fuel; leads = h.leads }
  turned_led (run.leaves a w) m b go x ts q below n h k = record { fuel = h.fuel; leads = h.leads }
  turned_led (run.stops o w) m b go x ts q below n h k = h

  -- a frame that goes on as it is
  stays : (x : Next) (w : World) (ts : List Task) (q : Fixed) (below top : List (Option Value)) (n : ℕ) → length top ≡ length q.names → w.fuel ≤ n → Leads x (on ts (state_of q below top w)) → Went (frame_of q top) w x (on ts) q below n
  stays x w ts q below top n long fuel l = record { top = top; is = refl; long = long; fuel = fuel; leads = l }

  -- a value comes to its target
  received_led : (n : ℕ) (target : Option CVar) (a : Option Value) (ts : List Task) (w : World) (q : Fixed) (below top : List (Option Value)) (k : ℕ) → DeclaresTarget q.names target → length top ≡ length q.names → w.fuel ≤ k
      → Led (run.after_receiving n target a (frame_of q top) w) (after_receiving n target a ts (state_of q below top w)) ts q below k
  received_led n None a ts w q below top k declared long fuel = stays _ w ts q below top k long fuel (here _)
  received_led n (Some v) None ts w q below top k declared long fuel = here _
  received_led n (Some v) (Some a) ts w q below top k declared long fuel = record {
    top = with_value_under q.names top v a;
    is = ap (λ vars. record { depth = q.depth; is_glue = q.is_glue; vars = vars }) (sym (looked_filed q.names top v a declared long));
    long = filed_long q.names top v a long;
    fuel = fuel;
    leads = at_once _ _ (ap (λ l. on ts (record (state_of q below top w) { slots = l })) (ap (λ l. l ++ with_value_under q.names (drop (length below) (below ++ top)) v a) (take_top below top) ∙ ap (λ l. below ++ with_value_under q.names l v a) (drop_top below top)));
  }

  after_led : (n : ℕ) (target : Option CVar) (e : Effect) (ts : List Task) (w : World) (q : Fixed) (below top : List (Option Value)) → DeclaresTarget q.names target → length top ≡ length q.names → KeepsEffect w e
      → Led (run.after n target e (frame_of q top) w) (after n target e ts (state_of q below top w)) ts q below w.fuel
  unfolding run.after after
  after_led n target (gives a v) ts w q below top declared long keeps = received_led n target a ts v q below top w.fuel declared long (let k = keeps.fuel in omega (arith, k))
  after_led n target (breaks_rule b) ts w q below top declared long keeps = here _
  after_led n target (ends o v) ts w q below top declared long keeps = here _

  found_led : {A : Type 0} (n : ℕ) (e : Result A ℕ) (w : World) (s : State) (go : A → Step) (go2 : A → Next) (ts : List Task) (q : Fixed) (below : List (Option Value)) (k : ℕ) → s.world ≡ w
      → ((a : A) → Led (go a) (go2 a) ts q below k) → Led (run.with_found n e w go) (with_found n e s go2) ts q below k
  unfolding run.with_found with_found
  found_led n (Err b) w s go go2 ts q below k same h = at_once _ _ (ap (stops (undefined b n)) same)
  found_led n (Ok a) w s go go2 ts q below k same h = h a

  -- a return cuts the frame off, whatever its values are
  leave_same : (a : Option Value) (ts : List Task) (q : Fixed) (below top : List (Option Value)) (w : World) → leave a ts (state_of q below top w) ≡ leave a ts (state_of q below [] w)
  leave_same a [] q below top w = refl
  leave_same a (list n ss ∷ ts) q below top w = leave_same a ts q below top w
  leave_same a (again n b ∷ ts) q below top w = leave_same a ts q below top w
  leave_same a (bottom g ∷ ts) q below top w = refl
  leave_same a (back k ∷ ts) q below top w =
      ap (λ l. after_receiving k.n k.target a ts (record { slots = l; base = k.base; names = k.names; is_glue = k.is_glue; depth = depth_out q.is_glue q.depth; world = w })) (take_top below top ∙ sym (take_top below []))

  -- the caller's state is there again
  caller_back : (n : ℕ) (target : Option CVar) (g : Func) (glue : Bool) (q : Fixed) (below top : List (Option Value)) (w v : World) (values : List (Option Value))
      → caller_state (caller_of n target g (state_of q below top w)) (state_of (record { names = names_of g; is_glue = glue; depth = depth_in glue q.depth }) (below ++ top) values v) ≡ state_of q below top v
  caller_back n target g glue q below top w v values =
      ap (λ l. record { slots = l; base = length below; names = q.names; is_glue = q.is_glue; depth = depth_out glue (depth_in glue q.depth); world = v }) (take_top (below ++ top) values)
      ∙ ap (λ d. record { slots = below ++ top; base = length below; names = q.names; is_glue = q.is_glue; depth = d; world = v }) (by glue)
    where
      by : (t : Bool) → depth_out t (depth_in t q.depth) ≡ q.depth
      by true = refl
      by false = omega arith

  -- a callee comes to its end
  back_led : (a : Step) (x : Next) (n : ℕ) (target : Option CVar) (g : Func) (glue : Bool) (ts : List Task) (q : Fixed) (below top : List (Option Value)) (w : World) (k : ℕ) → DeclaresTarget q.names target → length top ≡ length q.names
      → Led a x (back (caller_of n target g (state_of q below top w)) ∷ ts) (record { names = names_of g; is_glue = glue; depth = depth_in glue q.depth }) (below ++ top) k
      → Led (run.back_in (count_of r.program) n g.result target (frame_of q top) a) x ts q below k
  unfolding run.back_in
  back_led (run.goes f v) x n target g glue ts q below top w k declared long h = by g.result refl
    where
      callee : State
      callee = state_of (record { names = names_of g; is_glue = glue; depth = depth_in glue q.depth }) (below ++ top) h.top v

      next : (d : CResult) → g.result ≡ d → Leads x (body_end (count_of r.program) d None (back (caller_of n target g (state_of q below top w)) ∷ ts) callee)
      next d e = along x _ _ h.leads (first_move (back (caller_of n target g (state_of q below top w)) ∷ ts) callee _ (at_once _ _ (ap (λ y. body_end (count_of r.program) y None (back (caller_of n target g (state_of q below top w)) ∷ ts) callee) e)))

      by : (d : CResult) → g.result ≡ d → Led (run.at_end (count_of r.program) n d target (frame_of q top) v) x ts q below k
      by result.Nothing e = led_from (run.after_receiving n target None (frame_of q top) v) x _ ts q below k
          (along x _ _ (next result.Nothing e) (at_once _ _ (ap (after_receiving n target None ts) (caller_back n target g glue q below top w v h.top)))) (received_led n target None ts v q below top k declared long h.fuel)
      by result.Number e = next result.Number e
      by result.Reference e = next result.Reference e
  back_led (run.breaks f v) x n target g glue ts q below top w k declared long h = h.leads
  back_led (run.continues f v) x n target g glue ts q below top w k declared long h = h.leads
  back_led (run.stops o v) x n target g glue ts q below top w k declared long h = h
  back_led (run.leaves a v) x n target g glue ts q below top w k declared long h =
      led_from (run.after_receiving n target a (frame_of q top) v) x _ ts q below k
      (along x _ _ h.leads (at_once _ _ (ap (after_receiving n target a ts) (caller_back n target g glue q below top w v [])))) (received_led n target a ts v q below top k declared long h.fuel)

  then_done : (a : Step) → run.then_do a (λ f w. run.goes f w) ≡ a
  unfolding run.then_do
  then_done (run.goes f w) = refl
  then_done (run.breaks f w) = refl
  then_done (run.continues f w) = refl
  then_done (run.leaves a w) = refl
  then_done (run.stops o w) = refl

  -- ---- functions of the program

  find_declared : (n : ℕ) (fs : List Func) (name : ℕ) (g : Numbered) → AllDeclare fs → find_in n fs name ≡ Some g → Declares (names_of g.func) g.func.body
  find_declared n [] name g all is = absurd (none-some g is)
  find_declared n (f ∷ fs) name g all is = by (f.number == name) (λ e. find_declared (n + count_in f.body) fs name g all.1 e) is
    where
      by : (t : Bool) → (find_in (n + count_in f.body) fs name ≡ Some g → Declares (names_of g.func) g.func.body) → (if t then Some (record { func = f; first = n }) else find_in (n + count_in f.body) fs name) ≡ Some g → Declares (names_of g.func) g.func.body
      by true later e = subst (λ x. Declares (names_of x.func) x.func.body) (same_Some (record { func = f; first = n }) g e) all.0
      by false later e = later e

  function_declared : IsDeclared r.program → (f : CName) (g : Numbered) → function_of r.program f ≡ Some g → Declares (names_of g.func) g.func.body
  function_declared declared f g is = by f.glue is
    where
      by : (t : Bool) → (if t then find_in 0 r.program.glue f.number else find_in (count_in_all r.program.glue) r.program.fns f.number) ≡ Some g → Declares (names_of g.func) g.func.body
      by true e = find_declared 0 r.program.glue f.number g declared.glue e
      by false e = find_declared (count_in_all r.program.glue) r.program.fns f.number g declared.fns e

  module _ (declared_program : IsDeclared r.program) (k : ℕ) (m : Meaning) (sim : Sim k m) where
    enter_led : (n : ℕ) (target : Option CVar) (glue : Bool) (g : Numbered) (values : List Value) (w : World) (ts : List Task) (q : Fixed) (below top : List (Option Value)) → w.fuel ≤ k → length top ≡ length q.names → DeclaresTarget q.names target
        → Declares (names_of g.func) g.func.body → length g.func.params ≡ length values
        → Led (run.enter r m n target glue g values (frame_of q top) w) (enter r n target glue g values ts (state_of q below top w)) ts q below w.fuel
    unfolding run.enter run.spend enter spend
    enter_led n target glue g values w ts q below top l long declared body params = by (w.fuel == 0) refl
      where
        inner : Fixed
        inner = record { names = names_of g.func; is_glue = glue; depth = depth_in glue q.depth }

        room : (v : World) → v.fuel < k → (t : Bool)
            → Led (if t then run.back_in (count_of r.program) n g.func.result target (frame_of q top) (m g.first g.func.body (run.callee_frame glue g.func values (frame_of q top)) v) else run.stops depth_end v)
            (if t then on (list g.first g.func.body ∷ back (caller_of n target g.func (state_of q below top v)) ∷ ts) (callee_state glue g.func values (state_of q below top v)) else stops depth_end v) ts q below v.fuel
        room v under true =
            back_led (m g.first g.func.body (run.callee_frame glue g.func values (frame_of q top)) v) _ n target g.func glue ts q below top v v.fuel declared long
            (subst (λ vars. Led (m g.first g.func.body (record { depth = depth_in glue q.depth; is_glue = glue; vars = vars }) v) (on (list g.first g.func.body ∷ back (caller_of n target g.func (state_of q below top v)) ∷ ts) (callee_state glue g.func values (state_of q below top v))) (back (caller_of n target g.func (state_of q below top v)) ∷ ts) inner (below ++ top) v.fuel)
            (sym (first_looked g.func values params))
            (sim.lists g.first g.func.body v (back (caller_of n target g.func (state_of q below top v)) ∷ ts) inner (below ++ top) (first_values g.func values) under (first_long g.func values params) body))
        room v under false = here _

        by : (t : Bool) → (w.fuel == 0) ≡ t
            → Led (if t then run.stops fuel_end w else (if has_room r glue q.depth then run.back_in (count_of r.program) n g.func.result target (frame_of q top) (m g.first g.func.body (run.callee_frame glue g.func values (frame_of q top)) (record w { fuel = w.fuel - 1 })) else run.stops depth_end (record w { fuel = w.fuel - 1 })))
            (if t then stops fuel_end w else (if has_room r glue q.depth then on (list g.first g.func.body ∷ back (caller_of n target g.func (state_of q below top (record w { fuel = w.fuel - 1 }))) ∷ ts) (callee_state glue g.func values (state_of q below top (record w { fuel = w.fuel - 1 }))) else stops depth_end (record w { fuel = w.fuel - 1 }))) ts q below w.fuel
        by true e = here _
        by false e =
            let under : w.fuel - 1 < k = grind (arith, nat_tests) in
            less_led _ _ ts q below (w.fuel - 1) w.fuel (omega arith) (room (record w { fuel = w.fuel - 1 }) under (has_room r glue q.depth))

    values_long : (xs : List Arg) (vars : Vars) (values : List Value) → arg_values xs vars ≡ Ok values → length xs ≡ length values
    values_long xs vars values e = args_long xs vars values e

    call_led : (n : ℕ) (target : Option CVar) (glue : Bool) (xs : List Arg) (found : Option Numbered) (w : World) (ts : List Task) (q : Fixed) (below top : List (Option Value)) → w.fuel ≤ k → length top ≡ length q.names → DeclaresTarget q.names target
        → ((g : Numbered) → found ≡ Some g → Declares (names_of g.func) g.func.body)
        → Led (run.call_found r m n target glue xs found (frame_of q top) w) (call_found r n target glue xs found ts (state_of q below top w)) ts q below w.fuel
    unfolding run.call_found call_found run.with_found with_found
    call_led n target glue xs None w ts q below top l long declared bodies = here _
    call_led n target glue xs (Some g) w ts q below top l long declared bodies =
        subst (λ f. Led (run.call_found r m n target glue xs (Some g) (frame_of q top) w) (if can_call glue g.func xs f then with_found n (arg_values xs f.vars) (state_of q below top w) (λ values. enter r n target glue g values ts (state_of q below top w)) else stops (undefined 6 n) w) ts q below w.fuel)
        (sym (frame_here q below top w)) (by (can_call glue g.func xs (frame_of q top)) refl)
      where
        params : (length g.func.params == length xs) ≡ true → (values : List Value) → arg_values xs (value_under q.names top) ≡ Ok values → length g.func.params ≡ length values
        params e values is = let k = values_long xs _ values is in let j : length g.func.params ≡ length xs = grind (arith, nat_tests) in j ∙ k

        left_of : (a b : Bool) → (a && b) ≡ true → a ≡ true
        left_of true b e = refl
        left_of false b e = absurd (false≢true e)

        by : (t : Bool) → can_call glue g.func xs (frame_of q top) ≡ t
            → Led (if t then run.with_found n (arg_values xs (value_under q.names top)) w (λ values. run.enter r m n target glue g values (frame_of q top) w) else run.stops (undefined 6 n) w)
            (if t then with_found n (arg_values xs (value_under q.names top)) (state_of q below top w) (λ values. enter r n target glue g values ts (state_of q below top w)) else stops (undefined 6 n) w) ts q below w.fuel
        by false e = here _
        by true e = found (arg_values xs (value_under q.names top)) refl
          where
            found : (v : Result (List Value) ℕ) → arg_values xs (value_under q.names top) ≡ v
                → Led (run.with_found n v w (λ values. run.enter r m n target glue g values (frame_of q top) w)) (with_found n v (state_of q below top w) (λ values. enter r n target glue g values ts (state_of q below top w))) ts q below w.fuel
            found (Err b) is = here _
            found (Ok values) is = enter_led n target glue g values w ts q below top l long declared (bodies g refl) (params (left_of _ _ e) values is)

    does_call_led : (n : ℕ) (target : Option CVar) (f : Call) (w : World) (ts : List Task) (q : Fixed) (below top : List (Option Value)) → w.fuel ≤ k → length top ≡ length q.names → DeclaresTarget q.names target
        → Led (run.does_call r m n target f (frame_of q top) w) (does_call r n target f ts (state_of q below top w)) ts q below w.fuel
    does_call_led n target (c.primitive p xs) w ts q below top l long declared =
        subst (λ v. Led (run.does_call r m n target (c.primitive p xs) (frame_of q top) w) (after n target (primitive_does r.heap p xs v w) ts (state_of q below top w)) ts q below w.fuel) (sym (vars_here q below top w))
        (after_led n target (primitive_does r.heap p xs (value_under q.names top) w) ts w q below top declared long (primitive_keeps r.heap p xs (value_under q.names top) w))
    does_call_led n target (c.function f xs) w ts q below top l long declared =
        call_led n target f.glue xs (function_of r.program f) w ts q below top l long declared (λ g is. function_declared declared_program f g is)

    returns_led : (n : ℕ) (e : Option Expr) (w : World) (ts : List Task) (q : Fixed) (below top : List (Option Value)) → Led (run.returns n e (frame_of q top) w) (returns n e ts (state_of q below top w)) ts q below w.fuel
    returns_led n None w ts q below top = record { fuel = omega arith; leads = at_once _ _ (leave_same None ts q below top w) }
    returns_led n (Some e) w ts q below top =
        subst (λ v. Led (run.returns n (Some e) (frame_of q top) w) (with_found n (value_of e v w.blocks) (state_of q below top w) (λ a. leave (Some a) ts (state_of q below top w))) ts q below w.fuel) (sym (vars_here q below top w))
        (found_led n (value_of e (value_under q.names top) w.blocks) w (state_of q below top w) _ _ ts q below w.fuel refl (λ a. record { fuel = omega arith; leads = at_once _ _ (leave_same (Some a) ts q below top w) }))

    -- a turn of a loop
    loop_led : (n : ℕ) (b : Stmts) (w : World) (ts : List Task) (q : Fixed) (below top : List (Option Value)) → w.fuel ≤ k → length top ≡ length q.names → Declares q.names b
        → ((v : World) → v.fuel ≤ k → Led (does_stmts r m (suc n) b (frame_of q top) v) (on (list (suc n) b ∷ again n b ∷ ts) (state_of q below top v)) (again n b ∷ ts) q below v.fuel)
        → Led (does_stmt r m n (c.loop b) (frame_of q top) w) (move_of r (again n b ∷ ts) (state_of q below top w)) ts q below w.fuel
    unfolding run.spend spend
    loop_led n b w ts q below top l long declared body = by (w.fuel == 0) refl
      where
        by : (t : Bool) → (w.fuel == 0) ≡ t
            → Led (if t then run.stops fuel_end w else run.then_turn (does_stmts r m (suc n) b (frame_of q top) (record w { fuel = w.fuel - 1 })) (m n (c.next (c.loop b) c.done)))
            (if t then stops fuel_end w else on (list (suc n) b ∷ again n b ∷ ts) (state_of q below top (record w { fuel = w.fuel - 1 }))) ts q below w.fuel
        by true e = here _
        by false e =
            let under : w.fuel - 1 < k = grind (arith, nat_tests) in
            less_led _ _ ts q below (w.fuel - 1) w.fuel (omega arith)
            (turned_led (does_stmts r m (suc n) b (frame_of q top) (record w { fuel = w.fuel - 1 })) n b (m n (c.next (c.loop b) c.done)) _ ts q below (w.fuel - 1) (body (record w { fuel = w.fuel - 1 }) (omega (arith, l)))
            (λ top2 v long2 f. sim.loops n b v ts q below top2 (omega (arith, f, under)) long2 declared))

    mutual
      stmt_led : (n : ℕ) (x : Stmt) (w : World) (ts : List Task) (q : Fixed) (below top : List (Option Value)) → w.fuel ≤ k → length top ≡ length q.names → DeclaresStmt q.names x
          → Led (does_stmt r m n x (frame_of q top) w) (act r n x ts (state_of q below top w)) ts q below w.fuel
      stmt_led n (c.set v e) w ts q below top l long declared =
          subst (λ vars. Led (does_stmt r m n (c.set v e) (frame_of q top) w) (after n (Some v) (set_does e vars w) ts (state_of q below top w)) ts q below w.fuel) (sym (vars_here q below top w))
          (after_led n (Some v) (set_does e (value_under q.names top) w) ts w q below top declared long (set_keeps e (value_under q.names top) w))
      stmt_led n (c.set_call v f) w ts q below top l long declared = does_call_led n (Some v) f w ts q below top l long declared
      stmt_led n (c.call f) w ts q below top l long declared = does_call_led n None f w ts q below top l long tt
      stmt_led n (c.put x e) w ts q below top l long declared =
          subst (λ vars. Led (does_stmt r m n (c.put x e) (frame_of q top) w) (after n None (put_does x e vars w) ts (state_of q below top w)) ts q below w.fuel) (sym (vars_here q below top w))
          (after_led n None (put_does x e (value_under q.names top) w) ts w q below top tt long (put_keeps x e (value_under q.names top) w))
      stmt_led n (c.when e xs) w ts q below top l long declared =
          subst (λ f. Led (does_stmt r m n (c.when e xs) (frame_of q top) w) (with_found n (condition e f w) (state_of q below top w) (λ z. if is_true z then on (list (suc n) xs ∷ ts) (state_of q below top w) else on ts (state_of q below top w))) ts q below w.fuel) (sym (frame_here q below top w))
          (found_led n (condition e (frame_of q top) w) w (state_of q below top w) _ _ ts q below w.fuel refl (λ z. arm (is_true z) (list_led (suc n) xs w ts q below top l long declared)))
        where
          arm : (t : Bool) → Led (does_stmts r m (suc n) xs (frame_of q top) w) (on (list (suc n) xs ∷ ts) (state_of q below top w)) ts q below w.fuel
              → Led (if t then does_stmts r m (suc n) xs (frame_of q top) w else run.goes (frame_of q top) w) (if t then on (list (suc n) xs ∷ ts) (state_of q below top w) else on ts (state_of q below top w)) ts q below w.fuel
          arm true inside = inside
          arm false inside = stays _ w ts q below top w.fuel long (omega arith) (here _)
      stmt_led n (c.choose e xs ys) w ts q below top l long declared =
          subst (λ f. Led (does_stmt r m n (c.choose e xs ys) (frame_of q top) w) (with_found n (condition e f w) (state_of q below top w) (λ z. if is_true z then on (list (suc n) xs ∷ ts) (state_of q below top w) else on (list (suc n + count_in xs) ys ∷ ts) (state_of q below top w))) ts q below w.fuel) (sym (frame_here q below top w))
          (found_led n (condition e (frame_of q top) w) w (state_of q below top w) _ _ ts q below w.fuel refl (λ z. arm (is_true z) (list_led (suc n) xs w ts q below top l long declared.0) (list_led (suc n + count_in xs) ys w ts q below top l long declared.1)))
        where
          arm : (t : Bool) → Led (does_stmts r m (suc n) xs (frame_of q top) w) (on (list (suc n) xs ∷ ts) (state_of q below top w)) ts q below w.fuel
              → Led (does_stmts r m (suc n + count_in xs) ys (frame_of q top) w) (on (list (suc n + count_in xs) ys ∷ ts) (state_of q below top w)) ts q below w.fuel
              → Led (if t then does_stmts r m (suc n) xs (frame_of q top) w else does_stmts r m (suc n + count_in xs) ys (frame_of q top) w)
              (if t then on (list (suc n) xs ∷ ts) (state_of q below top w) else on (list (suc n + count_in xs) ys ∷ ts) (state_of q below top w)) ts q below w.fuel
          arm true left right = left
          arm false left right = right
      stmt_led n (c.loop b) w ts q below top l long declared =
          moved_led _ (again n b ∷ ts) (state_of q below top w) ts q below w.fuel (loop_led n b w ts q below top l long declared (λ v under. list_led (suc n) b v (again n b ∷ ts) q below top under long declared))
      stmt_led n c.break w ts q below top l long declared = record { top = top; is = refl; long = long; fuel = omega arith; leads = here _ }
      stmt_led n c.continue w ts q below top l long declared = record { top = top; is = refl; long = long; fuel = omega arith; leads = here _ }
      stmt_led n (c.return e) w ts q below top l long declared = returns_led n e w ts q below top

      list_led : (n : ℕ) (ss : Stmts) (w : World) (ts : List Task) (q : Fixed) (below top : List (Option Value)) → w.fuel ≤ k → length top ≡ length q.names → Declares q.names ss
          → Led (does_stmts r m n ss (frame_of q top) w) (on (list n ss ∷ ts) (state_of q below top w)) ts q below w.fuel
      list_led n c.done w ts q below top l long declared = stays _ w ts q below top w.fuel long (omega arith) (first_move (list n c.done ∷ ts) (state_of q below top w) _ (here _))
      list_led n (c.next x xs) w ts q below top l long declared =
          moved_led _ (list n (c.next x xs) ∷ ts) (state_of q below top w) ts q below w.fuel
          (then_led (does_stmt r m n x (frame_of q top) w) (n + count_in_stmt x) xs (does_stmts r m (n + count_in_stmt x) xs) _ ts q below w.fuel (stmt_led n x w (list (n + count_in_stmt x) xs ∷ ts) q below top l long declared.0)
          (λ top2 v long2 f. list_led (n + count_in_stmt x) xs v ts q below top2 (omega (arith, l, f)) long2 declared.1))

  -- a meaning one level up
  sim_up : IsDeclared r.program → (k : ℕ) (m : Meaning) → Sim k m → Sim (suc k) (does_stmts r m)
  sim_up declared_program k m sim = record {
    lists = λ n ss w ts q below top l long declared. list_led declared_program k m sim n ss w ts q below top (omega (arith, l)) long declared;
    loops = λ n b w ts q below top l long declared.
        subst (λ a. Led a (on (again n b ∷ ts) (state_of q below top w)) ts q below w.fuel) (sym (then_done (does_stmt r m n (c.loop b) (frame_of q top) w)))
        (moved_led _ (again n b ∷ ts) (state_of q below top w) ts q below w.fuel (loop_led declared_program k m sim n b w ts q below top (omega (arith, l)) long declared (λ v under. list_led declared_program k m sim (suc n) b v (again n b ∷ ts) q below top under long declared)));
  }

  less_sim : IsDeclared r.program → (k : ℕ) → Sim k (less r k)
  less_sim declared_program zero = record { lists = λ n ss w ts q below top l long declared. absurd (omega (arith, l)); loops = λ n b w ts q below top l long declared. absurd (omega (arith, l)) }
  less_sim declared_program (suc k) = sim_up declared_program k (less r k) (less_sim declared_program k)

  -- the end of the run
  end_is : (a : Step) (g : CResult) (x : Next) (q : Fixed) (k : ℕ) → Led a x (bottom g ∷ []) q [] k → Ends x (ran_of (count_of r.program) g a).outcome (ran_of (count_of r.program) g a).world
  end_is (run.goes f w) result.Nothing x q k h = h.leads.on done w (record { count = 1; is = refl })
  end_is (run.goes f w) result.Number x q k h = h.leads.on (undefined 6 (count_of r.program)) w (record { count = 1; is = refl })
  end_is (run.goes f w) result.Reference x q k h = h.leads.on (undefined 6 (count_of r.program)) w (record { count = 1; is = refl })
  end_is (run.breaks f w) result.Nothing x q k h = h.leads.on _ w (record { count = 0; is = refl })
  end_is (run.breaks f w) result.Number x q k h = h.leads.on _ w (record { count = 0; is = refl })
  end_is (run.breaks f w) result.Reference x q k h = h.leads.on _ w (record { count = 0; is = refl })
  end_is (run.continues f w) result.Nothing x q k h = h.leads.on _ w (record { count = 0; is = refl })
  end_is (run.continues f w) result.Number x q k h = h.leads.on _ w (record { count = 0; is = refl })
  end_is (run.continues f w) result.Reference x q k h = h.leads.on _ w (record { count = 0; is = refl })
  end_is (run.leaves a w) result.Nothing x q k h = h.leads.on done w (record { count = 0; is = refl })
  end_is (run.leaves a w) result.Number x q k h = h.leads.on done w (record { count = 0; is = refl })
  end_is (run.leaves a w) result.Reference x q k h = h.leads.on done w (record { count = 0; is = refl })
  end_is (run.stops o w) result.Nothing x q k h = h.on o w (record { count = 0; is = refl })
  end_is (run.stops o w) result.Number x q k h = h.on o w (record { count = 0; is = refl })
  end_is (run.stops o w) result.Reference x q k h = h.on o w (record { count = 0; is = refl })

  abbrev pub main_run : Numbered → World → Ran
  main_run g w = ran_of (count_of r.program) g.func.result (does_stmts r (less r w.fuel) g.first g.func.body first_frame w)

  -- the machine comes to the run's end
  pub machine_runs : IsDeclared r.program → (g : Numbered) (w : World) → Declares (names_of g.func) g.func.body → length g.func.params ≡ 0 → Ends (goes (first_conf g w)) (main_run g w).outcome (main_run g w).world
  machine_runs declared_program g w declared none =
      let q : Fixed = record { names = names_of g.func; is_glue = false; depth = 1 } in
      let led = list_led declared_program w.fuel (less r w.fuel) (less_sim declared_program w.fuel) g.first g.func.body w (bottom g.func.result ∷ []) q [] (first_values g.func []) (omega arith) (first_long g.func [] none) declared in
      let first : frame_of q (first_values g.func []) ≡ first_frame = ap (λ v. record { depth = 1; is_glue = false; vars = v }) (sym (first_looked g.func [] none) ∙ unbound g.func.params none) in
      end_is (does_stmts r (less r w.fuel) g.first g.func.body first_frame w) g.func.result (goes (first_conf g w)) q w.fuel
      (subst (λ f. Led (does_stmts r (less r w.fuel) g.first g.func.body f w) (goes (first_conf g w)) (bottom g.func.result ∷ []) q [] w.fuel) first led)
    where
      unbound : (ps : List CVar) → length ps ≡ 0 → bound ps [] ≡ run.no_vars
      unbound [] e = refl
      unbound (p ∷ ps) e = refl
