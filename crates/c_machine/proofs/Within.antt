-- Each move leads to tasks within, and the measure falls.
use Rattle.std.proofs.Common.{◌≡◌, ℕ, zero, suc, ◌+◌, ◌-◌, ◌*◌, ◌<◌, ◌≤◌, ◌==◌, max, Bool, true, false, if◌then◌else◌, List, [], ◌∷◌, Option, Some, None, Result, Ok, Err, refl, sym, ap, ◌∙◌, subst, arith}
use Rattle.std.proofs.lemmas.Bool.Decides.{nat_tests}
use Rattle.std.proofs.lemmas.Option.{none-some, same_Some}
use Rattle.vlt_ops.specs.Operator.{is_true}
use Rattle.c_syntax.specs.declared.program.CResult.{CResult}
use Rattle.c_syntax.specs.declared.program.CResult.TheVariants as result
use Rattle.c_syntax.specs.declared.program.CVar.{CVar}
use Rattle.c_syntax.specs.declared.program.CName.{CName}
use Rattle.c_syntax.specs.C as c
use Rattle.c_syntax.specs.C.{Arg, Call, Stmt, Stmts, Func, Program}
use Rattle.c_meaning.specs.World.{Value}
use Rattle.c_meaning.specs.Primitives.{Effect, gives, breaks_rule, ends}
use Rattle.c_meaning.specs.Run.{Setup, Numbered, count_in_stmt, count_in, count_in_all, count_of, find_in, function_of, main_of, number_at, has_room, can_call}
use Rattle.c_machine.specs.Machine.{Task, list, again, back, bottom, State, Next, goes, stops, vars_in, frame_in, with_world, after_receiving, after, with_found, caller_state, leave, break_to, continue_to, body_end, spend, enter, call_found, does_call, act, move_of}
use Rattle.c_meaning.specs.Widths.{most}
use Rattle.c_machine.specs.Within.{name_in_stmt, name_of, longest_name, AreWithin, weight, measure, FallsTo}
use Rattle.c_machine.proofs.Keeping.{KeepsEffect, primitive_keeps, set_keeps, put_keeps}

-- ---- functions are within

pub record IsWithin (count name : ℕ) (g : Numbered) : Type 0 where
  pub numbers : g.first + count_in g.func.body ≤ count
  pub names : name_of g.func ≤ name

find_within : (n : ℕ) (fs : List Func) (f : ℕ) (g : Numbered) → find_in n fs f ≡ Some g → IsWithin (n + count_in_all fs) (most name_of fs) g
find_within n [] f g is = absurd (none-some g is)
find_within n (x ∷ fs) f g is = by (x.number == f) (λ e. find_within (n + count_in x.body) fs f g e) is
  where
    by : (t : Bool) → (find_in (n + count_in x.body) fs f ≡ Some g → IsWithin ((n + count_in x.body) + count_in_all fs) (most name_of fs) g)
        → (if t then Some (record { func = x; first = n }) else find_in (n + count_in x.body) fs f) ≡ Some g → IsWithin (n + (count_in x.body + count_in_all fs)) (max (name_of x) (most name_of fs)) g
    by true later e = subst (λ y. IsWithin (n + (count_in x.body + count_in_all fs)) (max (name_of x) (most name_of fs)) y) (same_Some (record { func = x; first = n }) g e) (record { numbers = omega arith; names = omega arith })
    by false later e = let k = later e in record { numbers = omega (arith, k.numbers); names = omega (arith, k.names) }

at_within : (n : ℕ) (fs : List Func) (i : ℕ) (g : Numbered) → number_at n fs i ≡ Some g → IsWithin (n + count_in_all fs) (most name_of fs) g
at_within n [] i g is = absurd (none-some g is)
at_within n (x ∷ fs) zero g is = subst (λ y. IsWithin (n + (count_in x.body + count_in_all fs)) (max (name_of x) (most name_of fs)) y) (same_Some (record { func = x; first = n }) g is) (record { numbers = omega arith; names = omega arith })
at_within n (x ∷ fs) (suc i) g is = let k = at_within (n + count_in x.body) fs i g is in record { numbers = omega (arith, k.numbers); names = omega (arith, k.names) }

pub function_within : (p : Program) (f : CName) (g : Numbered) → function_of p f ≡ Some g → IsWithin (count_of p) (longest_name p) g
function_within p f g is = by f.glue is
  where
    by : (t : Bool) → (if t then find_in 0 p.glue f.number else find_in (count_in_all p.glue) p.fns f.number) ≡ Some g → IsWithin (count_of p) (longest_name p) g
    by true e = let k = find_within 0 p.glue f.number g e in record { numbers = omega (arith, k.numbers); names = omega (arith, k.names) }
    by false e = let k = find_within (count_in_all p.glue) p.fns f.number g e in record { numbers = omega (arith, k.numbers); names = omega (arith, k.names) }

pub main_within : (p : Program) (g : Numbered) → main_of p ≡ Some g → IsWithin (count_of p) (longest_name p) g
main_within p g is = let k = at_within (count_in_all p.glue) p.fns p.main g is in record { numbers = omega (arith, k.numbers); names = omega (arith, k.names) }

-- ---- moves

module _ (count name : ℕ) where
  less_above : (a b : ℕ) (x : Next) → a ≤ b → FallsTo count name a x → FallsTo count name b x
  less_above a b (goes m) l h = (h.0, (let k = h.1 in omega (arith, l, k)))
  less_above a b (stops o w) l h = tt

  received_falls : (n : ℕ) (target : Option CVar) (a : Option Value) (ts : List Task) (s : State) (above : ℕ) → AreWithin count name ts → measure count s.world.fuel ts < above → FallsTo count name above (after_receiving n target a ts s)
  received_falls n None a ts s above h l = (h, l)
  received_falls n (Some v) None ts s above h l = tt
  received_falls n (Some v) (Some a) ts s above h l = (h, l)

  after_falls : (n : ℕ) (target : Option CVar) (e : Effect) (ts : List Task) (s : State) (above : ℕ) → KeepsEffect s.world e → AreWithin count name ts → measure count s.world.fuel ts < above → FallsTo count name above (after n target e ts s)
  unfolding after
  after_falls n target (gives a w) ts s above k h l = received_falls n target a ts (with_world w s) above h (subst (λ f. measure count f ts < above) (sym k.fuel) l)
  after_falls n target (breaks_rule b) ts s above k h l = tt
  after_falls n target (ends o w) ts s above k h l = tt

  found_falls : {A : Type 0} (n : ℕ) (e : Result A ℕ) (s : State) (go : A → Next) (above : ℕ) → ((a : A) → FallsTo count name above (go a)) → FallsTo count name above (with_found n e s go)
  unfolding with_found
  found_falls n (Err b) s go above h = tt
  found_falls n (Ok a) s go above h = h a

  leave_falls : (a : Option Value) (ts : List Task) (s : State) (above : ℕ) → AreWithin count name ts → measure count s.world.fuel ts ≤ above → FallsTo count name above (leave a ts s)
  leave_falls a [] s above h l = tt
  leave_falls a (list n ss ∷ ts) s above h l = leave_falls a ts s above h.2 (omega (arith, l))
  leave_falls a (again n b ∷ ts) s above h l = leave_falls a ts s above h.2 (omega (arith, l))
  leave_falls a (bottom g ∷ ts) s above h l = tt
  leave_falls a (back k ∷ ts) s above h l = received_falls k.n k.target a ts (caller_state k s) above h.1 (omega (arith, l))

  break_falls : (m : ℕ) (ts : List Task) (s : State) (above : ℕ) → AreWithin count name ts → measure count s.world.fuel ts ≤ above → FallsTo count name above (break_to m ts s)
  break_falls m [] s above h l = tt
  break_falls m (list n ss ∷ ts) s above h l = break_falls m ts s above h.2 (omega (arith, l))
  break_falls m (again n b ∷ ts) s above h l = (h.2, omega (arith, l))
  break_falls m (bottom g ∷ ts) s above h l = tt
  break_falls m (back k ∷ ts) s above h l = tt

  continue_falls : (m : ℕ) (ts : List Task) (s : State) (above : ℕ) → AreWithin count name ts → measure count s.world.fuel ts < above → FallsTo count name above (continue_to m ts s)
  continue_falls m [] s above h l = tt
  continue_falls m (list n ss ∷ ts) s above h l = continue_falls m ts s above h.2 (omega (arith, l))
  continue_falls m (again n b ∷ ts) s above h l = (h, l)
  continue_falls m (bottom g ∷ ts) s above h l = tt
  continue_falls m (back k ∷ ts) s above h l = tt

  end_falls : (m : ℕ) (g : CResult) (ts : List Task) (s : State) (above : ℕ) → AreWithin count name ts → measure count s.world.fuel ts ≤ above → FallsTo count name above (body_end m g None ts s)
  end_falls m result.Nothing ts s above h l = leave_falls None ts s above h l
  end_falls m result.Number ts s above h l = tt
  end_falls m result.Reference ts s above h l = tt

  falls_if : (above : ℕ) (t : Bool) (x y : Next) → FallsTo count name above x → FallsTo count name above y → FallsTo count name above (if t then x else y)
  falls_if above true x y a b = a
  falls_if above false x y a b = b

  falls_where : (above : ℕ) (t : Bool) (x y : Next) → (t ≡ true → FallsTo count name above x) → (t ≡ false → FallsTo count name above y) → FallsTo count name above (if t then x else y)
  falls_where above true x y a b = a refl
  falls_where above false x y a b = b refl

  -- a unit of fuel pays for a body
  fuel_falls : (fuel more w above : ℕ) → (fuel == 0) ≡ false → more ≤ 2 * count + 2 → fuel * (2 * count + 3) + w ≤ above → (fuel - 1) * (2 * count + 3) + (more + w) < above
  fuel_falls zero more w above some l fit = absurd (grind (arith, nat_tests))
  fuel_falls (suc fuel) more w above some l fit =
      let e : suc fuel ≡ fuel + 1 = omega arith in
      let k : suc fuel * (2 * count + 3) ≡ fuel * (2 * count + 3) + (2 * count + 3) = ap (λ n. n * (2 * count + 3)) e ∙ omega arith in
      let d : suc fuel - 1 ≡ fuel = omega arith in
      let j : (suc fuel - 1) * (2 * count + 3) ≡ fuel * (2 * count + 3) = ap (λ n. n * (2 * count + 3)) d in
      omega (arith, k, j, l, fit)

  module _ (r : Setup) (small : (f : CName) (g : Numbered) → function_of r.program f ≡ Some g → IsWithin count name g) where
    enter_falls : (n : ℕ) (target : Option CVar) (f : CName) (g : Numbered) (values : List Value) (ts : List Task) (s : State) (above : ℕ) → n ≤ count → function_of r.program f ≡ Some g → AreWithin count name ts → measure count s.world.fuel ts ≤ above
        → FallsTo count name above (enter r n target f.glue g values ts s)
    unfolding enter spend
    enter_falls n target f g values ts s above some is h l =
        let fits = small f g is in
        falls_where above (s.world.fuel == 0) _ _ (λ e. tt) (λ e. falls_if above (has_room r f.glue s.depth) _ _
        ((fits.numbers, fits.names, (some, h)), (let k = fuel_falls s.world.fuel (2 * count_in g.func.body + 2) (weight ts) above e (omega (arith, fits.numbers)) l in omega (arith, k)))
        tt)

    call_falls : (n : ℕ) (target : Option CVar) (f : CName) (xs : List Arg) (found : Option Numbered) (ts : List Task) (s : State) (above : ℕ) → n ≤ count → function_of r.program f ≡ found → AreWithin count name ts → measure count s.world.fuel ts ≤ above
        → FallsTo count name above (call_found r n target f.glue xs found ts s)
    unfolding call_found
    call_falls n target f xs None ts s above some is h l = tt
    call_falls n target f xs (Some g) ts s above some is h l =
        falls_if above (can_call f.glue g.func xs (frame_in s)) _ _ (found_falls n _ s _ above (λ values. enter_falls n target f g values ts s above some is h l)) tt

    does_call_falls : (n : ℕ) (target : Option CVar) (f : Call) (ts : List Task) (s : State) (above : ℕ) → n ≤ count → AreWithin count name ts → measure count s.world.fuel ts < above → FallsTo count name above (does_call r n target f ts s)
    does_call_falls n target (c.primitive p xs) ts s above some h l = after_falls n target _ ts s above (primitive_keeps r.heap p xs (vars_in s) s.world) h l
    does_call_falls n target (c.function f xs) ts s above some h l = call_falls n target f xs (function_of r.program f) ts s above some refl h (omega (arith, l))

    act_falls : (n m : ℕ) (x : Stmt) (ts : List Task) (s : State) (above : ℕ) → n + count_in_stmt x ≤ count → name_in_stmt x ≤ name → AreWithin count name ts → measure count s.world.fuel ts + 2 * count_in_stmt x ≤ above → FallsTo count name above (act r n x ts s)
    act_falls n m (c.set v e) ts s above some short h l = after_falls n (Some v) _ ts s above (set_keeps e (vars_in s) s.world) h (omega (arith, l))
    act_falls n m (c.set_call v f) ts s above some short h l = does_call_falls n (Some v) f ts s above (omega (arith, some)) h (omega (arith, l))
    act_falls n m (c.call f) ts s above some short h l = does_call_falls n None f ts s above (omega (arith, some)) h (omega (arith, l))
    act_falls n m (c.put x e) ts s above some short h l = after_falls n None _ ts s above (put_keeps x e (vars_in s) s.world) h (omega (arith, l))
    act_falls n m (c.when e xs) ts s above some short h l =
        found_falls n _ s _ above (λ z. falls_if above (is_true z) _ _ ((omega (arith, some), short, h), omega (arith, l)) (h, omega (arith, l)))
    act_falls n m (c.choose e xs ys) ts s above some short h l =
        found_falls n _ s _ above (λ z. falls_if above (is_true z) _ _ ((omega (arith, some), omega (arith, short), h), omega (arith, l)) ((omega (arith, some), omega (arith, short), h), omega (arith, l)))
    act_falls n m (c.loop b) ts s above some short h l = ((omega (arith, some), short, h), omega (arith, l))
    act_falls n m c.break ts s above some short h l = break_falls _ ts s above h (omega (arith, l))
    act_falls n m c.continue ts s above some short h l = continue_falls _ ts s above h (omega (arith, l))
    act_falls n m (c.return None) ts s above some short h l = leave_falls None ts s above h (omega (arith, l))
    act_falls n m (c.return (Some e)) ts s above some short h l = found_falls n _ s _ above (λ a. leave_falls (Some a) ts s above h (omega (arith, l)))

    count_some : (x : Stmt) → 1 ≤ count_in_stmt x
    count_some (c.set v e) = omega arith
    count_some (c.set_call v f) = omega arith
    count_some (c.call f) = omega arith
    count_some (c.put x e) = omega arith
    count_some (c.when e xs) = omega arith
    count_some (c.choose e xs ys) = omega arith
    count_some (c.loop b) = omega arith
    count_some c.break = omega arith
    count_some c.continue = omega arith
    count_some (c.return e) = omega arith

    -- the rest of a list, its first statement being taken
    pub rest_within : (n : ℕ) (x : Stmt) (rest : Stmts) (ts : List Task) → AreWithin count name (list n (c.next x rest) ∷ ts) → AreWithin count name (list (n + count_in_stmt x) rest ∷ ts)
    rest_within n x rest ts h = ((let k = h.0 in omega (arith, k)), (let k = h.1 in omega (arith, k)), h.2)

    pub moved_falls : (ts : List Task) (s : State) → AreWithin count name ts → FallsTo count name (measure count s.world.fuel ts) (move_of r ts s)
    unfolding spend
    moved_falls [] s h = tt
    moved_falls (list n c.done ∷ ts) s h = (h.2, omega arith)
    moved_falls (list n (c.next x rest) ∷ ts) s h =
        let some = count_some x in
        let a = h.0 in
        let b = h.1 in
        act_falls n n x _ s _ (omega (arith, a)) (omega (arith, b)) (rest_within n x rest ts h) (omega arith)
    moved_falls (again n b ∷ ts) s h = falls_where (measure count s.world.fuel (again n b ∷ ts)) (s.world.fuel == 0) _ _ (λ e. tt) (λ e.
        ((h.0, h.1, h), (let a = h.0 in let k = fuel_falls s.world.fuel (2 * count_in b + 1) (weight (again n b ∷ ts)) (measure count s.world.fuel (again n b ∷ ts)) e (omega (arith, a)) (omega arith) in omega (arith, k))))
    moved_falls (back k ∷ ts) s h = end_falls _ k.given (back k ∷ ts) s _ h (omega arith)
    moved_falls (bottom g ∷ ts) s h = end_falls _ g (bottom g ∷ ts) s _ h (omega arith)
