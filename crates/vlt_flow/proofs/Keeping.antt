-- Maps that are kept stay kept.
use Rattle.std.proofs.Common.{◌≡◌, ◌<◌, ◌≤◌, ◌+◌, ℕ, Bool, true, false, MatchBool, Option, Some, None, true≢false, sym, subst, arith, rules}
use Rattle.std.specs.Prelude.{IsSome}
use Rattle.vlt_core.specs.Maps.{HeldMap}
use Rattle.vlt_core.specs.Flow.{Flow, step, choose, loop, switch, scope, focus, return, jump, Block, block, Stmts, done, next, Arms, no_arms, arm, size, size_block, size_stmts, size_arms}
use Rattle.vlt_core.specs.Local.{When}
use Rattle.vlt_flow.specs.Walks.{Keeps, KeepsBlock, KeepsStmts, KeepsArms, IsOther, IsFrame}
use Rattle.vlt_flow_maps.specs.Kept.{Marks, slot}

-- the maps kept of the statements from n up to m are still kept
pub record StayIn (x y : Marks) (n m : ℕ) : Type 0 where
  pub around : (i : ℕ) → n ≤ i → i < m → IsSome (slot x.around i) → IsSome (slot y.around i)
  pub following : (i : ℕ) → n ≤ i → i < m → IsSome (slot x.following i) → IsSome (slot y.following i)

pub stay_self : (x : Marks) (n m : ℕ) → StayIn x x n m
stay_self x n m = record { around = λ i u v s. s; following = λ i u v s. s }

pub stay_part : (x y : Marks) (n m n' m' : ℕ) → StayIn x y n m → n ≤ n' → m' ≤ m → StayIn x y n' m'
stay_part x y n m n' m' p a b = record {
  around = λ i u v s. p.around i (omega arith) (omega arith) s;
  following = λ i u v s. p.following i (omega arith) (omega arith) s;
}

pub stay_chain : (x y z : Marks) (n m : ℕ) → StayIn x y n m → StayIn y z n m → StayIn x z n m
stay_chain x y z n m p q = record {
  around = λ i u v s. q.around i u v (p.around i u v s);
  following = λ i u v s. q.following i u v (p.following i u v s);
}

-- those before or after the statements that were walked
pub frame_stays : (l k : Option ℕ) (n m a b : ℕ) (x y : Marks) → IsFrame l k n m x y → b ≤ n → ((i : ℕ) → a ≤ i → i < b → IsOther i l) → ((i : ℕ) → a ≤ i → i < b → IsOther i k) → StayIn x y a b
frame_stays l k n m a b x y f le p q = record {
  around = λ i u v s. subst IsSome (sym (f.before i (omega arith) (p i u v) (q i u v)).around) s;
  following = λ i u v s. subst IsSome (sym (f.before i (omega arith) (p i u v) (q i u v)).following) s;
}

mutual
  pub keeps_on : (s : Flow) (x y : Marks) (n : ℕ) → StayIn x y n (n + size s) → Keeps x n s → Keeps y n s
  keeps_on (step rs) x y n p k = tt
  keeps_on (choose rs s t) x y n p k = (
    λ e. p.following n (omega arith) (omega arith) (k.0 e),
    keeps_block_on s x y (n + 1) (stay_part x y _ _ _ _ p (omega arith) (omega arith)) k.1,
    keeps_block_on t x y (n + 1 + size_block s) (stay_part x y _ _ _ _ p (omega arith) (omega arith)) k.2,
  )
  keeps_on (loop rs s) x y n p k = (
    p.around n (omega arith) (omega arith) k.0,
    p.following n (omega arith) (omega arith) k.1,
    keeps_block_on s x y (n + 1) (stay_part x y _ _ _ _ p (omega arith) (omega arith)) k.2,
  )
  keeps_on (switch rs arms end) x y n p k = (
    λ e. p.following n (omega arith) (omega arith) (k.0 e),
    keeps_arms_on arms x y (n + 1) (stay_part x y _ _ _ _ p (omega arith) (omega arith)) k.1,
  )
  keeps_on (scope s) x y n p k = keeps_block_on s x y (n + 1) (stay_part x y _ _ _ _ p (omega arith) (omega arith)) k
  keeps_on (focus rs s es) x y n p k = keeps_block_on s x y (n + 1) (stay_part x y _ _ _ _ p (omega arith) (omega arith)) k
  keeps_on (return rs) x y n p k = tt
  keeps_on (jump continues left) x y n p k = tt

  pub keeps_block_on : (s : Block) (x y : Marks) (n : ℕ) → StayIn x y n (n + size_block s) → KeepsBlock x n s → KeepsBlock y n s
  keeps_block_on (block ss bound end) x y n p k = keeps_stmts_on ss x y n p k

  pub keeps_stmts_on : (ss : Stmts) (x y : Marks) (n : ℕ) → StayIn x y n (n + size_stmts ss) → KeepsStmts x n ss → KeepsStmts y n ss
  keeps_stmts_on done x y n p k = tt
  keeps_stmts_on (next at s rest) x y n p k = (
    keeps_on s x y n (stay_part x y _ _ _ _ p (omega arith) (omega arith)) k.0,
    λ e. keeps_stmts_on rest x y (n + size s) (stay_part x y _ _ _ _ p (omega arith) (omega arith)) (k.1 e),
  )

  pub keeps_arms_on : (arms : Arms) (x y : Marks) (n : ℕ) → StayIn x y n (n + size_arms arms) → KeepsArms x n arms → KeepsArms y n arms
  keeps_arms_on no_arms x y n p k = tt
  keeps_arms_on (arm rs s rest) x y n p k = (
    keeps_block_on s x y n (stay_part x y _ _ _ _ p (omega arith) (omega arith)) k.0,
    keeps_arms_on rest x y (n + size_block s) (stay_part x y _ _ _ _ p (omega arith) (omega arith)) k.1,
  )

-- something comes after a part that can be passed
pub come_to : (b : Bool) (o : Option HeldMap) (P : Type 0) → MatchBool b (IsSome o) (o ≡ None) → When o (λ m. P) → b ≡ true → P
come_to true None P s w e = absurd (no_some s)
  where
    no_some : IsSome {T = HeldMap} None → ⊥
    no_some s = search rules
come_to true (Some m) P s w e = w
come_to false o P s w e = absurd (true≢false (sym e))
