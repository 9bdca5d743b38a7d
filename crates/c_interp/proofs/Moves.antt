-- The next task.
use Rattle.std.proofs.Common.{◌≡◌, ℕ, ◌+◌, ◌<◌, ◌≤◌, min, List, [], ◌∷◌, ◌++◌, length, ap, ◌∙◌, subst, arith}
use Rattle.std.proofs.lemmas.List.{length-append}
use Rattle.c_syntax.specs.declared.program.CStmt.{CStmt}
use Rattle.c_syntax.specs.View.{stmt_of, stmts_of, program_of}
use Rattle.c_syntax.specs.C.{Stmts}
use Rattle.c_meaning.specs.Run.{count_in_stmt, count_in}
use Rattle.c_machine.specs.Machine as m
use Rattle.c_machine.specs.Within.{longest_name, AreWithin}
use Rattle.c_primitives.specs.declared.world.World.{World}
use Rattle.c_interp.specs.declared.rules.Rules.{Rules}
use Rattle.c_interp.specs.declared.frames.Frames.{Frames}
use Rattle.c_interp.specs.declared.task.Task.{Task}
use Rattle.c_interp.specs.declared.task.Task.TheVariants.{List as Listed}
use Rattle.c_interp.specs.Shown.{tasks_of, HasRoom}
use Rattle.c_interp.proofs.Tasks.{pushed_one}
use Rattle.std.specs.Borrow.{Bor}

module _ (r : Rules) (items : List Task) (size : ℕ) (f : Frames) (s : World) (room : HasRoom r items size f s) where
  -- the numbers of a list are below the count of all statements
  pub list_number : (n : ℕ) (ss : Stmts) (ts : List m.Task) → tasks_of items ≡ m.list n ss ∷ ts → n + count_in ss < 4294967295
  list_number n ss ts is = let k = (subst (AreWithin r.count (longest_name (program_of r.program.now))) is room.within).0 in omega (arith, k, room.rules.count, room.rules.few)

  pub again_number : (n : ℕ) (ss : Stmts) (ts : List m.Task) → tasks_of items ≡ m.again n ss ∷ ts → n < 4294967295
  again_number n ss ts is = let k = (subst (AreWithin r.count (longest_name (program_of r.program.now))) is room.within).0 in omega (arith, k, room.rules.count, room.rules.few)

-- the next list without its first statement
pub rest_pushed : (ts us : List Task) (n k : ℕ) (x : CStmt) (rest : Bor (List CStmt)) → n + count_in_stmt (stmt_of x) < 4294967295 → k ≡ min (count_in_stmt (stmt_of x)) 4294967295 → us ≡ ts ++ Listed (n + k) rest ∷ [] → tasks_of us ≡ m.list (n + count_in_stmt (stmt_of x)) (stmts_of rest.now) ∷ tasks_of ts
rest_pushed ts us n k x rest few is e =
    let same : n + k ≡ n + count_in_stmt (stmt_of x) = omega (arith, few, is) in
    pushed_one ts us (Listed (n + k) rest) e ∙ ap (λ j. m.list j (stmts_of rest.now) ∷ tasks_of ts) same

pub as_long : (ts us vs : List Task) (t u : Task) → ts ≡ us ++ t ∷ [] → vs ≡ us ++ u ∷ [] → length vs ≤ length ts
as_long ts us vs t u e g =
    let a = length-append us (t ∷ []) in
    let b = length-append us (u ∷ []) in
    let d = ap length e in
    let h = ap length g in
    omega (arith, a, b, d, h)
