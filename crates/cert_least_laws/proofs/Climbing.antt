-- The numbers of the statements of a flow that have a note ascend.
use Rattle.std.proofs.Common.{◌≡◌, ◌+◌, ◌||◌, ℕ, suc, Bool, true, false, if◌then◌else◌, List, [], ◌∷◌, ◌++◌, subst, arith}
use Rattle.vlt_core.specs.Flow.{Flow, step, choose, loop, switch, scope, focus, return, jump, Block, block, Stmts, done, next, Arms, no_arms, arm, size, size_block, size_stmts, size_arms, passes_block, passes_arms}
use Rattle.vlt_core.specs.Least.{Noted, a_join, noted, noted_block, noted_stmts, noted_arms}
use Rattle.cert_fit_laws.proofs.Named.{number_of, Climbs, lower}

joined : (m n k : ℕ) (xs ys : List Noted) → Climbs m n xs → Climbs n k ys → Climbs m k (xs ++ ys)
joined m n k [] ys c d = lower m n k ys c d
joined m n k (x ∷ xs) ys c d = (c.0, joined (suc (number_of x)) n k xs ys c.1 d)

to : (m k l : ℕ) (xs : List Noted) → k ≡ l → Climbs m k xs → Climbs m l xs
to m k l xs e c = subst (λ z. Climbs m z xs) e c

own : (n : ℕ) (b : Bool) → Climbs n (n + 1) (if b then a_join n ∷ [] else [])
own n true = (omega arith, omega arith)
own n false = omega arith

up : (n k : ℕ) (xs : List Noted) → Climbs (n + 1) k xs → Climbs n k xs
up n k xs c = lower n (n + 1) k xs (omega arith) c

whole : (n a : ℕ) → n + 1 + a ≡ n + (1 + a)
whole n a = omega arith

both : (n a b : ℕ) → n + 1 + a + b ≡ n + (1 + (a + b))
both n a b = omega arith

rest_of : (n a b : ℕ) → n + a + b ≡ n + (a + b)
rest_of n a b = omega arith

mutual
  climb : (n : ℕ) (s : Flow) → Climbs n (n + size s) (noted n s)
  climb n (step rs) = omega arith
  climb n (choose rs s t) =
      let a = if passes_block s || passes_block t then a_join n ∷ [] else [] in
      let m = n + 1 + size_block s in
      to n (m + size_block t) (n + (1 + (size_block s + size_block t))) ((a ++ noted_block (n + 1) s) ++ noted_block m t) (both n (size_block s) (size_block t))
      (joined n m (m + size_block t) (a ++ noted_block (n + 1) s) (noted_block m t) (joined n (n + 1) m a (noted_block (n + 1) s) (own n (passes_block s || passes_block t)) (climb_block (n + 1) s)) (climb_block m t))
  climb n (loop rs s) = (omega arith, lower (suc n) (n + 1) (n + (1 + size_block s)) (noted_block (n + 1) s) (omega arith) (to (n + 1) (n + 1 + size_block s) (n + (1 + size_block s)) (noted_block (n + 1) s) (whole n (size_block s)) (climb_block (n + 1) s)))
  climb n (switch rs arms end) =
      let a = if passes_arms arms then a_join n ∷ [] else [] in
      to n (n + 1 + size_arms arms) (n + (1 + size_arms arms)) (a ++ noted_arms (n + 1) arms) (whole n (size_arms arms))
      (joined n (n + 1) (n + 1 + size_arms arms) a (noted_arms (n + 1) arms) (own n (passes_arms arms)) (climb_arms (n + 1) arms))
  climb n (scope s) = up n (n + (1 + size_block s)) (noted_block (n + 1) s) (to (n + 1) (n + 1 + size_block s) (n + (1 + size_block s)) (noted_block (n + 1) s) (whole n (size_block s)) (climb_block (n + 1) s))
  climb n (focus rs s es) = up n (n + (1 + size_block s)) (noted_block (n + 1) s) (to (n + 1) (n + 1 + size_block s) (n + (1 + size_block s)) (noted_block (n + 1) s) (whole n (size_block s)) (climb_block (n + 1) s))
  climb n (return rs) = omega arith
  climb n (jump c left) = omega arith

  pub climb_block : (n : ℕ) (s : Block) → Climbs n (n + size_block s) (noted_block n s)
  climb_block n (block ss bound end) = climb_stmts n ss

  climb_stmts : (n : ℕ) (ss : Stmts) → Climbs n (n + size_stmts ss) (noted_stmts n ss)
  climb_stmts n done = omega arith
  climb_stmts n (next at s rest) =
      to n (n + size s + size_stmts rest) (n + (size s + size_stmts rest)) (noted n s ++ noted_stmts (n + size s) rest) (rest_of n (size s) (size_stmts rest))
      (joined n (n + size s) (n + size s + size_stmts rest) (noted n s) (noted_stmts (n + size s) rest) (climb n s) (climb_stmts (n + size s) rest))

  climb_arms : (n : ℕ) (arms : Arms) → Climbs n (n + size_arms arms) (noted_arms n arms)
  climb_arms n no_arms = omega arith
  climb_arms n (arm rs s rest) =
      to n (n + size_block s + size_arms rest) (n + (size_block s + size_arms rest)) (noted_block n s ++ noted_arms (n + size_block s) rest) (rest_of n (size_block s) (size_arms rest))
      (joined n (n + size_block s) (n + size_block s + size_arms rest) (noted_block n s) (noted_arms (n + size_block s) rest) (climb_block n s) (climb_arms (n + size_block s) rest))
