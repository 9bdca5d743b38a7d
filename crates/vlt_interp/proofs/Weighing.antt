-- The moves of a run come to an end: each spends fuel, or leaves less to do; and never more is left than so much.
use Rattle.std.proofs.Common.{◌≡◌, ◌⊎◌, ⊎_elim, ◌<◌, ◌≤◌, ◌+◌, ◌*◌, ◌-◌, ℕ, suc, max, List, [], ◌∷◌, length, refl, sym, ap, subst, arith}
use Rattle.std.proofs.Math.Nat.{mul-le-mul_right}
use Rattle.vlt_core.specs.View.{stmts_of}
use Rattle.vlt_core.specs.Core.{Form, choose, loop, switch, focus, scope, simple, call, return, jump, Block, block, Stmts, done, next, Arms, no_arms, arm, Func, Program}
use Rattle.vlt_core.specs.Widths.{greatest}
use Rattle.vlt_heap.specs.Items.{Items}
use Rattle.vlt_meaning.specs.Run.{Setup}
use Rattle.vlt_meaning_laws.specs.Machine.Machine as m
use Rattle.vlt_meaning_laws.specs.Machine.Machine.{Conf, after_move}
use Rattle.vlt_meaning_laws.specs.Machine.Bounds.{tall_of}
use Rattle.vlt_meaning_laws.proofs.OfMachine.Halting.{fuel_in, form_weight, block_weight, list_weight, arms_weight, weight, move_shrinks}
use Rattle.vlt_acts.specs.declared.values.values.Values.{Values}
use Rattle.vlt_interp.specs.declared.tasks.task.Task.{Task}
use Rattle.vlt_interp.specs.declared.tasks.task.Task.TheVariants.{List as Listed, Closing, Turn, Unfocus, Back}
use Rattle.vlt_interp.specs.Tasks.Shown.{ShowsTasks}
use Rattle.vlt_interp.specs.Owned.{HoldOf, HoldsIn}
use Rattle.vlt_interp.proofs.OfTasks.Sizes.{greatest_at}
use Rattle.vlt_interp.proofs.Likeness.{of_all}
use Rattle.vlt_interp.proofs.Keeping.{IsClosed}

-- ---- how large statements are, bodies of loops included

abbrev mutual
  pub form_size : Form → ℕ
  form_size (choose e a b) = 1 + (block_size a + block_size b)
  form_size (loop e b) = 1 + block_size b
  form_size (switch v arms end) = 1 + arms_size arms
  form_size (focus y z b) = 2 + block_size b
  form_size (scope b) = 1 + block_size b
  form_size _ = 1

  pub block_size : Block → ℕ
  block_size (block ss bound end) = list_size ss + 1

  pub list_size : Stmts → ℕ
  list_size done = 1
  list_size (next p s rest) = form_size s + list_size rest

  pub arms_size : Arms → ℕ
  arms_size no_arms = 0
  arms_size (arm n vs b rest) = block_size b + arms_size rest

abbrev pub size_of : Program → ℕ
size_of p = max 1 (greatest (λ f. list_size f.body) p.fns)

mutual
  form_light : (s : Form) → form_weight s ≤ form_size s
  form_light (choose e a b) = let x = block_light a in let y = block_light b in omega (arith, x, y)
  form_light (loop e b) = omega arith
  form_light (switch v arms end) = let x = arms_light arms in omega (arith, x)
  form_light (focus y z b) = let x = block_light b in omega (arith, x)
  form_light (scope b) = let x = block_light b in omega (arith, x)
  form_light (simple s) = omega arith
  form_light (call g target keys args) = omega arith
  form_light (return value) = omega arith
  form_light (jump c) = omega arith

  block_light : (b : Block) → block_weight b ≤ block_size b
  block_light (block ss bound end) = let x = list_light ss in omega (arith, x)

  list_light : (ss : Stmts) → list_weight ss ≤ list_size ss
  list_light done = omega arith
  list_light (next p s rest) = let x = form_light s in let y = list_light rest in omega (arith, x, y)

  arms_light : (arms : Arms) → arms_weight arms ≤ arms_size arms
  arms_light no_arms = omega arith
  arms_light (arm n vs b rest) = let x = block_light b in let y = arms_light rest in omega (arith, x, y)

-- ---- statements that are no larger than the largest body

module _ (n : ℕ) where
  abbrev pub IsSmallList : Func → Stmts → Type 0
  IsSmallList f ss = list_size ss ≤ n

  abbrev pub IsSmall : Func → Form → Type 0
  IsSmall f s = form_size s ≤ n

  abbrev pub IsSmallBlock : Func → Block → Type 0
  IsSmallBlock f b = block_size b ≤ n

  abbrev pub AreSmallArms : Func → Arms → Type 0
  AreSmallArms f arms = arms_size arms ≤ n

pub small_closed : (p : Program) → IsClosed p (IsSmallList (size_of p)) (IsSmall (size_of p)) (IsSmallBlock (size_of p)) (AreSmallArms (size_of p))
small_closed p = record {
  first_of = λ f place form rest h. omega (arith, h);
  rest_of = λ f place form rest h. omega (arith, h);
  list_in = λ f ss bound end h. omega (arith, h);
  yes_in = λ f e a b h. omega (arith, h);
  no_in = λ f e a b h. omega (arith, h);
  loop_in = λ f e b h. omega (arith, h);
  switch_in = λ f v arms end h. omega (arith, h);
  arm_in = λ f c vs b rest h. omega (arith, h);
  arms_in = λ f c vs b rest h. omega (arith, h);
  focus_in = λ f y z b h. omega (arith, h);
  scope_in = λ f b h. omega (arith, h);
  body_of = λ f of. of_all p (λ f. list_size f.body ≤ size_of p) (λ i f at. let k = greatest_at (λ (f : Func). list_size f.body) p.fns i f at in omega (arith, k)) f of (λ h. h);
}

more_by : (a b n : ℕ) → (suc a) * n ≡ n + a * n
more_by a b n = omega arith

-- so much is left at most
light : (p : Program) (f : Func) (ts : List m.Task) → HoldOf (IsSmallList (size_of p)) (IsSmall (size_of p)) p f ts → weight ts ≤ length ts * size_of p
light p f [] h = omega arith
light p f (m.list ss ∷ ts) h = let x = light p f ts h.1 in let y = list_light ss in let l = h.0 in let e = more_by (length ts) 0 (size_of p) in omega (arith, x, y, l, e)
light p f (m.closing bound ∷ ts) h = let x = light p f ts h in let e = more_by (length ts) 0 (size_of p) in omega (arith, x, e)
light p f (m.turn d b ∷ ts) h = let x = light p f ts h.1 in let e = more_by (length ts) 0 (size_of p) in omega (arith, x, e)
light p f (m.unfocus g q a n ∷ ts) h = let x = light p f ts h in let e = more_by (length ts) 0 (size_of p) in omega (arith, x, e)
light p f (m.back k ∷ ts) h = let x = light p k.func ts h.1 in let e = more_by (length ts) 0 (size_of p) in omega (arith, x, e)

-- ---- a measure

abbrev pub task_weight : Task → ℕ
task_weight (Listed ss) = list_weight (stmts_of ss.now)
task_weight t = 1

abbrev pub tasks_weight : List Task → ℕ
tasks_weight [] = 0
tasks_weight (t ∷ ts) = task_weight t + tasks_weight ts

-- what is left is never more than that
abbrev pub most_left : Program → (depth : ℕ) → ℕ
most_left p depth = depth * (tall_of p + 1) * size_of p

abbrev pub measure : Program → (depth fuel : ℕ) → List Task → ℕ
measure p depth fuel ts = fuel * (most_left p depth + 1) + tasks_weight ts

pub weighs : (items : Items) (values : Values) (base depth : ℕ) (ts : List Task) (us : List m.Task) → ShowsTasks items values base depth ts us → tasks_weight ts ≡ weight us
weighs items values base depth [] [] h = refl
weighs items values base depth [] (u ∷ us) h = absurd h
weighs items values base depth (t ∷ ts) [] h = absurd h
weighs items values base depth (Listed ss ∷ ts) (m.list xs ∷ us) h = let k = weighs items values base depth ts us h.1 in let l : list_weight (stmts_of ss.now) ≡ list_weight xs = ap list_weight h.0 in omega (arith, k, l)
weighs items values base depth (Listed ss ∷ ts) (m.closing bound ∷ us) h = absurd h.0
weighs items values base depth (Listed ss ∷ ts) (m.turn d c ∷ us) h = absurd h.0
weighs items values base depth (Listed ss ∷ ts) (m.unfocus g q a n ∷ us) h = absurd h.0
weighs items values base depth (Listed ss ∷ ts) (m.back k ∷ us) h = absurd h.0
weighs items values base depth (Closing ∷ ts) (m.list xs ∷ us) h = absurd h.0
weighs items values base depth (Closing ∷ ts) (m.closing bound ∷ us) h = let k = weighs items values base depth ts us h.1 in omega (arith, k)
weighs items values base depth (Closing ∷ ts) (m.turn d c ∷ us) h = absurd h.0
weighs items values base depth (Closing ∷ ts) (m.unfocus g q a n ∷ us) h = absurd h.0
weighs items values base depth (Closing ∷ ts) (m.back k ∷ us) h = absurd h.0
weighs items values base depth (Turn e b ∷ ts) (m.list xs ∷ us) h = absurd h.0
weighs items values base depth (Turn e b ∷ ts) (m.closing bound ∷ us) h = absurd h.0
weighs items values base depth (Turn e b ∷ ts) (m.turn d c ∷ us) h = let k = weighs items values base depth ts us h.1 in omega (arith, k)
weighs items values base depth (Turn e b ∷ ts) (m.unfocus g q a n ∷ us) h = absurd h.0
weighs items values base depth (Turn e b ∷ ts) (m.back k ∷ us) h = absurd h.0
weighs items values base depth (Unfocus x ∷ ts) (m.list xs ∷ us) h = absurd h.0
weighs items values base depth (Unfocus x ∷ ts) (m.closing bound ∷ us) h = absurd h.0
weighs items values base depth (Unfocus x ∷ ts) (m.turn d c ∷ us) h = absurd h.0
weighs items values base depth (Unfocus x ∷ ts) (m.unfocus g q a n ∷ us) h = let k = weighs items values base depth ts us h.1 in omega (arith, k)
weighs items values base depth (Unfocus x ∷ ts) (m.back k ∷ us) h = absurd h.0
weighs items values base depth (Back w ∷ ts) (m.list xs ∷ us) h = absurd h.0
weighs items values base depth (Back w ∷ ts) (m.closing bound ∷ us) h = absurd h.0
weighs items values base depth (Back w ∷ ts) (m.turn d c ∷ us) h = absurd h.0
weighs items values base depth (Back w ∷ ts) (m.unfocus g q a n ∷ us) h = absurd h.0
weighs items values base depth (Back w ∷ ts) (m.back k ∷ us) h = let k = weighs items values w.base (depth - 1) ts us h.1 in omega (arith, k)

falls_by : (k n n' m m' : ℕ) → m' ≤ k → (n' < n) ⊎ ((n' ≤ n) × (m' < m)) → n' * (k + 1) + m' < n * (k + 1) + m
falls_by k n n' m m' few s =
    ⊎_elim
    (λ (x : n' < n).
    let a : (n' + 1) * (k + 1) ≤ n * (k + 1) = mul-le-mul_right (k + 1) (let y : n' + 1 ≤ n = omega (arith, x) in y) in
    let b : (n' + 1) * (k + 1) ≡ n' * (k + 1) + (k + 1) = omega arith in
    omega (arith, a, b, few))
    (λ (x : (n' ≤ n) × (m' < m)).
    let a : n' * (k + 1) ≤ n * (k + 1) = mul-le-mul_right (k + 1) x.0 in
    let b = x.1 in
    omega (arith, a, b))
    s

-- each move falls
pub moved_falls : (r : Setup) (c : Conf) (t : m.Task) (ts : List m.Task) → c.tasks ≡ t ∷ ts → length (after_move r c).tasks ≤ r.depth * (tall_of r.program + 1) → HoldsIn (IsSmallList (size_of r.program)) (IsSmall (size_of r.program)) r.program (after_move r c).func (after_move r c).tasks
    → fuel_in (after_move r c) * (most_left r.program r.depth + 1) + weight (after_move r c).tasks < fuel_in c * (most_left r.program r.depth + 1) + weight c.tasks
moved_falls r c t ts is few small =
    let a = light r.program (after_move r c).func (after_move r c).tasks small.tasks in
    let b : length (after_move r c).tasks * size_of r.program ≤ most_left r.program r.depth = mul-le-mul_right (size_of r.program) few in
    falls_by (most_left r.program r.depth) (fuel_in c) (fuel_in (after_move r c)) (weight c.tasks) (weight (after_move r c).tasks) (omega (arith, a, b)) (shrinks r c t ts is)
  where
    shrinks : (r : Setup) (c : Conf) (t : m.Task) (ts : List m.Task) → c.tasks ≡ t ∷ ts → (fuel_in (after_move r c) < fuel_in c) ⊎ ((fuel_in (after_move r c) ≤ fuel_in c) × (weight (after_move r c).tasks < weight c.tasks))
    shrinks r c t ts is = subst (λ us. (fuel_in (m.moved_in r c.func us c.step) < fuel_in c) ⊎ ((fuel_in (m.moved_in r c.func us c.step) ≤ fuel_in c) × (weight (m.moved_in r c.func us c.step).tasks < weight us))) (sym is) (move_shrinks r c.func t ts c.step)
