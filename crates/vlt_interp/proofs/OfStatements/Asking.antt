-- What the tables ask of a statement, from what the statement asks.
use Rattle.std.proofs.Common.{◌≡◌, ◌<◌, ◌≤◌, ◌+◌, ◌*◌, ◌^◌, ◌==◌, ℕ, zero, suc, max, true, List, [], ◌∷◌, length, Option, Some, None, refl, sym, ap, ◌∙◌, subst, arith, slice_get, option_map}
use Rattle.std.specs.List.{All}
use Rattle.std.specs.Prelude.{IfSome}
use Rattle.std.specs.Vec.{vec_capacity}
use Rattle.std.proofs.lemmas.Bool.Decides.{nat_tests}
use Rattle.std.proofs.Math.Nat.{le-mul_of_pos_right}
use Rattle.std.proofs.lemmas.Option.{none-some, same_Some}
use Rattle.vlt_base.specs.declared.ids.VarId.{VarId}
use Rattle.vlt_core.specs.Core.{Ty, int, bool, tracked, owning, guarded, VarDecl, CaseDecl, Operand, Simple, make, build, Form, simple, Func, Program, variant, owning_variant}
use Rattle.vlt_core.specs.Lookups.{Reference, reference_of, VariantOf, variant_of, variant_in, fields_of, case_at, cases_of}
use Rattle.vlt_core.specs.Widths.{greatest}
use Rattle.vlt_core.specs.View.{func_of, program_of, vars_of}
use Rattle.vlt_heap.specs.Shown.{heap_of, slots_of}
use Rattle.vlt_meaning.specs.World.{World, Frame, missing}
use Rattle.vlt_meaning.specs.Found.{or_fault}
use Rattle.vlt_meaning.specs.Externals.{payload_in}
use Rattle.vlt_meaning.specs.Run.{does_simple}
use Rattle.vlt_acts.specs.Values.Shown.{IsTable, Seen, key_at}
use Rattle.vlt_acts.proofs.OfValues.Touching.{some_fault, some_is}
use Rattle.vlt_acts.specs.Acts.Acts.{setup, HasKeySlot, IsRight}
use Rattle.vlt_acts.specs.Objects.Cases.{keys_listed, FitsCase}
use Rattle.vlt_acts.specs.Objects.Made.{IsRightHere}
use Rattle.vlt_acts.proofs.OfObjects.Going.{IsSafe, found_safe, so_safe}
use Rattle.vlt_acts.specs.Objects.Taken.{IsRightIn}
use Rattle.vlt_acts.specs.Frames.Frames.{IsRunning}
use Rattle.vlt_interp.specs.declared.tasks.task.Rules.{Rules}
use Rattle.vlt_interp.specs.declared.tasks.task.Run.{Run}
use Rattle.vlt_interp.specs.Tasks.Sizes.{case_parts, cases_in_ty, parts_of, IsWide}
use Rattle.vlt_interp.specs.Tasks.Own.{IsVar, AreVars, IsOwnFunc, IsOf}
use Rattle.vlt_interp.specs.Tasks.Shown.{tasks_left, Runs}
use Rattle.vlt_interp.specs.Tasks.Moves.{CanDo}
use Rattle.vlt_interp.proofs.OfTasks.Sizes.{greatest_at}
use Rattle.vlt_acts.proofs.OfFrames.Like.{like_back, moved, running_like}
use Rattle.vlt_interp.proofs.Likeness.{of_all, own_func, like_simple}
use Rattle.vlt_interp.proofs.OfTasks.Staying.{going, seen_in, seen_as, running_table}

-- ---- the statement

pub can_at : (x y : Form) (rules : Rules) (r : Run) → x ≡ y → CanDo x rules r → CanDo y rules r
can_at x y rules r e c = subst (λ k. CanDo k rules r) e c

-- ---- the running frame

module _ (form : Form) (rules : Rules) (r : Run) (can : CanDo form rules r) where
  abbrev pub can_seen : Seen r.heap r.values
  can_seen = seen_in (program_of rules.program.now) r (tasks_left r) can.right.func can.right.tasks can.right.frame can.right.world can.right.shown

  can_runs : Runs can.right.shown.items r can.right.func can.right.frame can.right.world
  can_runs = (going can.right.shown.items r can.right.func r.at can.right.frame can.right.world can.right.shown.step).runs

  pub can_running : IsRunning r.values (func_of r.func.now) 0
  can_running = running_like r.values can.right.func (func_of r.func.now) 0 (like_back (func_of r.func.now) can.right.func can.right.shown.func) can_runs.running

  pub can_table : IsTable r.values
  can_table = running_table r (func_of r.func.now) can_running

  pub can_var : (v : ℕ) → IsVar (func_of r.func.now) v → v < r.values.vars
  can_var v l = let e = can_running.vars in omega (arith, l, e)

  can_own : IsOwnFunc (program_of rules.program.now) (func_of r.func.now)
  can_own = own_func (program_of rules.program.now) can.ready.own (func_of r.func.now) can.ready.func

  pub can_key : (x : ℕ) → HasKeySlot (func_of r.func.now) x r.values
  can_key x = by (reference_of (func_of r.func.now) x) refl
    where
      by : (q : Option Reference) → reference_of (func_of r.func.now) x ≡ q → IfSome q (λ q. key_at r.values q.key < length r.values.slots.items)
      by None e = tt
      by (Some q) e =
          let k = can_own.keys x q e in
          let m : r.values.vars * r.values.width ≡ length (func_of r.func.now).vars * r.values.width = ap (λ n. n * r.values.width) can_running.vars in
          let l = can_running.long in
          omega (arith, k, m, l)

vars_all : (f : Func) (n : ℕ) (vs : List VarId) → ((v : ℕ) → IsVar f v → v < n) → AreVars f (vars_of vs) → All (λ v. v.0 < n) vs
vars_all f n [] h own k d l = absurd (omega (arith, l))
vars_all f n (v ∷ vs) h own zero d l = h v.0 own.0
vars_all f n (v ∷ vs) h own (suc k) d l = vars_all f n vs h own.1 k d (omega (arith, l))

pub can_vars : (form : Form) (rules : Rules) (r : Run) → CanDo form rules r → (vs : List VarId) → AreVars (func_of r.func.now) (vars_of vs) → All (λ v. v.0 < r.values.vars) vs
can_vars form rules r can vs own = vars_all (func_of r.func.now) r.values.vars vs (can_var form rules r can) own

-- ---- statements that don't go wrong

module _ (s : Simple) (rules : Rules) (r : Run) (can : CanDo (simple s) rules r) where
  abbrev pub right_act : IsRight r.heap r.values s
  right_act = record {
    seen = seen_as (program_of rules.program.now) r (tasks_left r) can.right.func can.right.tasks can.right.frame can.right.world can.right.shown (func_of r.func.now);
    world = can.right.world;
    objects = refl;
    heap_budget = heap_of r.heap;
    depth = rules.depth;
    right = subst IsSafe (sym (like_simple (setup (program_of rules.program.now) (heap_of r.heap) rules.depth) (func_of r.func.now) can.right.func s can.right.frame can.right.world can.right.shown.func)) can.right.right;
  }

  pub right_here : IsRightHere (func_of r.func.now) r.heap r.values s
  right_here = record { right = right_act; budget = refl; func = refl }

  pub right_in : IsRightIn (program_of rules.program.now) (func_of r.func.now) r.heap r.values s
  right_in = record { right = right_act; program = refl; func = refl }

-- ---- rooms

module _ (form : Form) (rules : Rules) (r : Run) (can : CanDo form rules r) where
  abbrev p : Program
  p = program_of rules.program.now

  pub room_one : length r.values.slots.items + r.values.width ≤ vec_capacity r.values.slots
  room_one =
      let a = can.ready.values in
      let b = can.ready.room.values in
      let q = le-mul_of_pos_right {m = r.values.width} r.values.width (omega (arith, can.ready.room.wide.some)) in
      omega (arith, a, b, q)

  pub room_tasks : length r.tasks.items + 3 ≤ vec_capacity r.tasks
  room_tasks = let a = can.ready.tasks in let b = can.ready.room.tasks in omega (arith, a, b)

  pub room_fields : (t n : ℕ) → n ≡ length (fields_of p t) → length r.values.slots.items + n * r.values.width ≤ vec_capacity r.values.slots
  room_fields t n e =
      let a = can.ready.values in
      let b = can.ready.room.operands t in
      let m : n * r.values.width ≡ length (fields_of p t) * r.values.width = ap (λ k. k * r.values.width) e in
      omega (arith, a, b, m)

  pub cells_fit : (t n : ℕ) → n ≡ length (fields_of p t) → n * r.values.width ≤ slots_of r.heap
  cells_fit t n e = let b = can.ready.room.cells t in let m : n * r.values.width ≡ length (fields_of p t) * r.values.width = ap (λ k. k * r.values.width) e in omega (arith, b, m)

-- ---- operands as many as are wanted

-- a new object has as many values as fields
pub record HasFields (p : Program) (f : Func) (x n : ℕ) : Type 0 where
  pub reference : Reference
  pub is : reference_of f x ≡ Some reference
  pub count : n ≡ length (fields_of p reference.type)

same_number : (n m : ℕ) → (n == m) ≡ true → n ≡ m
same_number n m e = grind (arith, nat_tests)

make_fields : (p : Program) (n d : ℕ) (f : Func) (x : ℕ) (args : List Operand) (frame : Frame) (w : World) → IsSafe (does_simple (setup p n d) f (make x args) frame w) → HasFields p f x (length args)
make_fields p n d f x args frame w safe =
    let a = found_safe (or_fault missing (reference_of f x)) w _ (some_fault missing (reference_of f x)) safe in
    let b = so_safe (length args == length (fields_of p a.value.type)) missing None w _ a.safe in
    record { reference = a.value; is = some_is missing (reference_of f x) a.value a.is; count = same_number _ _ b.0 }

-- a value of a variant has as many payloads as its case
pub record HasPayload (p : Program) (f : Func) (v c n : ℕ) : Type 0 where
  pub kind : VariantOf
  pub is : variant_of f v ≡ Some kind
  pub count : n ≡ length (payload_in (case_at p kind.type c))

build_payload : (p : Program) (n d : ℕ) (f : Func) (x c : ℕ) (args : List Operand) (frame : Frame) (w : World) → IsSafe (does_simple (setup p n d) f (build x c args) frame w) → HasPayload p f x c (length args)
build_payload p n d f x c args frame w safe =
    let a = found_safe (or_fault missing (variant_of f x)) w _ (some_fault missing (variant_of f x)) safe in
    let b = so_safe (length args == length (payload_in (case_at p a.value.type c))) missing None w _ a.safe in
    record { kind = a.value; is = some_is missing (variant_of f x) a.value a.is; count = same_number _ _ b.0 }

-- a case's parts fit the width where those of a variable do
case_fits : (p : Program) (t : Ty) (q : VariantOf) (c n width : ℕ) → variant_in (Some t) ≡ Some q → parts_of p t ≤ width → n ≡ length (payload_in (case_at p q.type c)) → 1 + n + length (keys_listed (case_at p q.type c)) ≤ width
case_fits p t q c n width is l e = by (case_at p q.type c) refl e
  where
    cases : (t : Ty) → variant_in (Some t) ≡ Some q → cases_in_ty p t ≡ cases_of p q.type
    cases (variant u args) e = ap (λ k. cases_of p k.type) (same_Some _ q e)
    cases (owning_variant u args) e = ap (λ k. cases_of p k.type) (same_Some _ q e)
    cases int e = absurd (none-some q e)
    cases bool e = absurd (none-some q e)
    cases (tracked k u args) e = absurd (none-some q e)
    cases (owning s u args) e = absurd (none-some q e)
    cases (guarded k u args) e = absurd (none-some q e)

    most_parts : max 1 (greatest case_parts (cases_of p q.type)) ≤ width
    most_parts = subst (λ cs. max 1 (greatest case_parts cs) ≤ width) (cases t is) l

    by : (d : Option CaseDecl) → case_at p q.type c ≡ d → n ≡ length (payload_in d) → 1 + n + length (keys_listed d) ≤ width
    by None e m = omega (arith, most_parts, m)
    by (Some d) e m = let g = greatest_at case_parts (cases_of p q.type) c d e in omega (arith, most_parts, g, m)

pub build_fits : (p : Program) (f : Func) (v c n width : ℕ) → IsOf p f → IsWide p width → HasPayload p f v c n → FitsCase p f v c n width
build_fits p f v c n width own wide h = rw h.is (by (slice_get f.vars v) refl h.is)
  where
    by : (x : Option VarDecl) → slice_get f.vars v ≡ x → variant_in (option_map (λ d. d.ty) x) ≡ Some h.kind → 1 + n + length (keys_listed (case_at p h.kind.type c)) ≤ width
    by None e is = absurd (none-some h.kind is)
    by (Some d) e is =
        let a = greatest_at (λ d. parts_of p d.ty) f.vars v d e in
        let most = λ (g : Func). greatest (λ d. parts_of p d.ty) g.vars in
        let b : most f ≤ greatest most p.fns = of_all p (λ g. most g ≤ greatest most p.fns) (λ i g at. greatest_at most p.fns i g at) f own (λ h. h) in
        let m = wide.vars in
        case_fits p d.ty h.kind c n width is (omega (arith, a, b, m)) h.count

payload_narrow : (p : Program) (f : Func) (v c n width : ℕ) → FitsCase p f v c n width → HasPayload p f v c n → n ≤ width
payload_narrow p f v c n width fits h =
    let l : 1 + n + length (keys_listed (case_at p h.kind.type c)) ≤ width = subst (λ x. IfSome x (λ t. 1 + n + length (keys_listed (case_at p t.type c)) ≤ width)) h.is fits in
    omega (arith, l)

wide_times : (n m w : ℕ) → n ≤ m → n * w ≤ m * w
wide_times zero m w l = omega arith
wide_times (suc n) zero w l = absurd (omega (arith, l))
wide_times (suc n) (suc m) w l = let q = wide_times n m w (omega (arith, l)) in omega (arith, q)

module _ (x : ℕ) (args : List Operand) (rules : Rules) (r : Run) (can : CanDo (simple (make x args)) rules r) where
  make_has : HasFields (program_of rules.program.now) can.right.func x (length args)
  make_has = make_fields (program_of rules.program.now) (heap_of r.heap) rules.depth can.right.func x args can.right.frame can.right.world can.right.right

  pub make_room : (n : ℕ) → length args ≡ n → length r.values.slots.items + n * r.values.width ≤ vec_capacity r.values.slots
  make_room n e = room_fields (simple (make x args)) rules r can make_has.reference.type n (sym e ∙ make_has.count)

  pub make_cells : (n : ℕ) → length args ≡ n → n * r.values.width ≤ slots_of r.heap
  make_cells n e = cells_fit (simple (make x args)) rules r can make_has.reference.type n (sym e ∙ make_has.count)

module _ (v c : ℕ) (args : List Operand) (rules : Rules) (r : Run) (can : CanDo (simple (build v c args)) rules r) where
  build_has : HasPayload (program_of rules.program.now) (func_of r.func.now) v c (length args)
  build_has =
      let h = build_payload (program_of rules.program.now) (heap_of r.heap) rules.depth can.right.func v c args can.right.frame can.right.world can.right.right in
      moved (λ f. HasPayload (program_of rules.program.now) f v c (length args)) can.right.func (func_of r.func.now) (like_back (func_of r.func.now) can.right.func can.right.shown.func)
      (record { kind = h.kind; is = h.is; count = h.count })

  pub build_narrow : (n : ℕ) → length args ≡ n → FitsCase (program_of rules.program.now) (func_of r.func.now) v c n r.values.width
  build_narrow n e = subst (λ k. FitsCase (program_of rules.program.now) (func_of r.func.now) v c k r.values.width) e
      (build_fits (program_of rules.program.now) (func_of r.func.now) v c (length args) r.values.width can.ready.func can.ready.room.wide build_has)

  pub build_room : (n : ℕ) → length args ≡ n → length r.values.slots.items + n * r.values.width ≤ vec_capacity r.values.slots
  build_room n e =
      let l = payload_narrow (program_of rules.program.now) (func_of r.func.now) v c (length args) r.values.width (build_narrow (length args) refl) build_has in
      let k = wide_times n r.values.width r.values.width (omega (arith, l, e)) in
      let a = can.ready.values in
      let b = can.ready.room.values in
      omega (arith, a, b, k)

pub few_fields : (form : Form) (rules : Rules) (r : Run) → CanDo form rules r → (x : ℕ) → IfSome (reference_of (func_of r.func.now) x) (λ q. length (fields_of (program_of rules.program.now) q.type) < 2 ^ 32)
few_fields form rules r can x = by (reference_of (func_of r.func.now) x)
  where
    by : (y : Option Reference) → IfSome y (λ q. length (fields_of (program_of rules.program.now) q.type) < 2 ^ 32)
    by None = tt
    by (Some q) = can.ready.room.fields q.type
