-- The stack of the code.
use Rattle.std.proofs.Common.{◌≡◌, ◌+◌, ◌<◌, List, [], ◌∷◌, ◌++◌, length, refl, ap, ◌∙◌, arith}
use Rattle.std.proofs.lemmas.List.{length-append}
use Rattle.c_machine.specs.Machine as m
use Rattle.c_interp.specs.declared.task.Task.{Task}
use Rattle.c_interp.specs.Shown.{task_of, tasks_onto, tasks_of}

pub tasks_push : (ts : List Task) (t : Task) → tasks_of (ts ++ t ∷ []) ≡ task_of t ∷ tasks_of ts
tasks_push ts t = by ts []
  where
    by : (ts : List Task) (us : List m.Task) → tasks_onto (ts ++ t ∷ []) us ≡ task_of t ∷ tasks_onto ts us
    by [] us = refl
    by (u ∷ ts) us = by ts (task_of u ∷ us)

-- the next task was taken
pub popped : (ts us : List Task) (t u : Task) → ts ≡ us ++ t ∷ [] → t ≡ u → tasks_of ts ≡ task_of u ∷ tasks_of us
popped ts us t u e is = ap tasks_of e ∙ tasks_push us t ∙ ap (λ x. task_of x ∷ tasks_of us) is

pub shorter : (ts us : List Task) (t : Task) → ts ≡ us ++ t ∷ [] → length us < length ts
shorter ts us t e = let l = length-append us (t ∷ []) in let k = ap length e in omega (arith, l, k)

pub pushed_one : (ts us : List Task) (t : Task) → us ≡ ts ++ t ∷ [] → tasks_of us ≡ task_of t ∷ tasks_of ts
pushed_one ts us t e = ap tasks_of e ∙ tasks_push ts t

-- two tasks more
pub pushed_two : (ts us vs : List Task) (t u : Task) → us ≡ ts ++ t ∷ [] → vs ≡ us ++ u ∷ [] → tasks_of vs ≡ task_of u ∷ task_of t ∷ tasks_of ts
pushed_two ts us vs t u e g = ap tasks_of g ∙ tasks_push us u ∙ ap (λ x. task_of u ∷ x) (ap tasks_of e ∙ tasks_push ts t)

length_onto : (ts : List Task) (us : List m.Task) → length (tasks_onto ts us) ≡ length ts + length us
length_onto [] us = omega arith
length_onto (t ∷ ts) us = let k = length_onto ts (task_of t ∷ us) in omega (arith, k)

pub length_of : (ts : List Task) → length (tasks_of ts) ≡ length ts
length_of ts = let k = length_onto ts [] in omega (arith, k)
