-- A sweep over a body for one token: what comes to each join is united with what is kept there.
use Rattle.std.specs.Prelude.{◌≡◌, ◌↔◌, ℕ, ◌+◌, Bool, true, false, IsTrue, List, map, Option, Some, None, ◌⊎◌}
use Rattle.vlt_core.specs.Core.{Tok}
use Rattle.vlt_core.specs.Maps.{Row, away_row}
use Rattle.vlt_core.specs.Flow.{Flow, step, choose, loop, switch, scope, focus, return, jump, Block, block, Stmts, done, next, Arms, no_arms, arm, size, size_block}
use Rattle.vlt_core.specs.Found.{One, Ones, images, out, to_next, head_of}

-- a table of single statuses
abbrev pub Many : Type 0
Many = One → Bool

abbrev pub In : Many → Ones
In m o = IsTrue (m o)

-- the tables kept: at the heads of loops, and after loops and choices, by statement
pub record Stock : Type 0 where
  pub around : ℕ → Many
  pub following : ℕ → Many

pub record IsMore (k k' : Stock) : Type 0 where
  pub around : (i : ℕ) (o : One) → In (k.around i) o → In (k'.around i) o
  pub following : (i : ℕ) (o : One) → In (k.following i) o → In (k'.following i) o

-- what the rows leave
pub record IsImage (t : Tok) (rs : List Row) (m m' : Many) : Type 0 where
  pub each : (o : One) → In m' o ↔ images t rs (In m) o

pub record IsNothing (m : Many) : Type 0 where
  pub none : (o : One) → In m o → ⊥

-- united with the table at the head of loop n
pub record IntoHead (n : ℕ) (m : Many) (k k' : Stock) : Type 0 where
  pub more : IsMore k k'
  pub has : (o : One) → In m o → In (k'.around n) o
  pub comes : (i : ℕ) (o : One) → In (k'.around i) o → In (k.around i) o ⊎ ((i ≡ n) × In m o)
  pub others : (i : ℕ) (o : One) → In (k'.following i) o → In (k.following i) o

-- united with the table after statement n
pub record IntoExit (n : ℕ) (m : Many) (k k' : Stock) : Type 0 where
  pub more : IsMore k k'
  pub has : (o : One) → In m o → In (k'.following n) o
  pub comes : (i : ℕ) (o : One) → In (k'.following i) o → In (k.following i) o ⊎ ((i ≡ n) × In m o)
  pub others : (i : ℕ) (o : One) → In (k'.around i) o → In (k.around i) o

abbrev pub Lands : Option ℕ → Bool → Many → Stock → Stock → Type 0
Lands None continues m k k' = k' ≡ k
Lands (Some l) true m k k' = IntoHead l m k k'
Lands (Some l) false m k k' = IntoExit l m k k'

-- how a block is swept
abbrev pub Sweep : Type 1
Sweep = Stock → Many → Stock → Many → Type 0

-- a way of choice c
abbrev pub WayBy : Sweep → (c : ℕ) → Stock → Many → Stock → Type 0
WayBy sweep c k m k' = (k1 : Stock) × (e : Many) × sweep k m k1 e × IntoExit c e k1 k'

-- a turn of loop n from its head
abbrev pub TurnBy : Sweep → Tok → List Row → ℕ → Stock → Stock → Type 0
TurnBy sweep t rs n k k' =
    (p : Many) × IsImage t rs (k.around n) p × (k1 : Stock) × IntoExit n p k k1 ×
    (k2 : Stock) × (e : Many) × sweep k1 p k2 e × IntoHead n e k2 k'

-- from m, with the tables k kept, a sweep keeps k' and comes out with r
abbrev mutual
  pub Swept : Tok → Flow → Option ℕ → ℕ → Stock → Many → Stock → Many → Type 0
  Swept t (step rs) l n k m k' r = (k' ≡ k) × IsImage t rs m r
  Swept t (choose rs a b) l n k m k' r =
      (p : Many) × IsImage t rs m p × (k1 : Stock) × WayBy (SweptBlock t a l (n + 1)) n k p k1 × WayBy (SweptBlock t b l (n + 1 + size_block a)) n k1 p k' × (r ≡ k'.following n)
  Swept t (loop rs s) l n k m k' r = (k1 : Stock) × IntoHead n m k k1 × TurnBy (SweptBlock t s (Some n) (n + 1)) t rs n k1 k' × (r ≡ k'.following n)
  Swept t (switch rs arms end) l n k m k' r = (p : Many) × IsImage t rs m p × SweptArms t arms l n (n + 1) k p k' × (r ≡ k'.following n)
  Swept t (scope s) l n k m k' r = SweptBlock t s l (n + 1) k m k' r
  Swept t (focus rs s es) l n k m k' r = (p : Many) × IsImage t rs m p × (e : Many) × SweptBlock t s l (n + 1) k p k' e × IsImage t es e r
  Swept t (return rs) l n k m k' r = (k' ≡ k) × IsNothing r
  Swept t (jump continues left) l n k m k' r = (p : Many) × IsImage t (map away_row left) m p × Lands l continues p k k' × IsNothing r

  pub SweptBlock : Tok → Block → Option ℕ → ℕ → Stock → Many → Stock → Many → Type 0
  SweptBlock t (block ss bound end) l n k m k' r = (e : Many) × SweptStmts t ss l n k m k' e × IsImage t (map away_row bound) e r

  pub SweptStmts : Tok → Stmts → Option ℕ → ℕ → Stock → Many → Stock → Many → Type 0
  SweptStmts t done l n k m k' r = (k' ≡ k) × (r ≡ m)
  SweptStmts t (next at s rest) l n k m k' r = (k1 : Stock) × (e : Many) × Swept t s l n k m k1 e × SweptStmts t rest l (n + size s) k1 e k' r

  pub SweptArms : Tok → Arms → Option ℕ → (c n : ℕ) → Stock → Many → Stock → Type 0
  SweptArms t no_arms l c n k m k' = k' ≡ k
  SweptArms t (arm rs s rest) l c n k m k' =
      (p : Many) × IsImage t rs m p × (k1 : Stock) × WayBy (SweptBlock t s l n) c k p k1 × SweptArms t rest l c (n + size_block s) k1 m k'

-- ---- what is found at the head of a loop and after a loop or a choice, by statement

abbrev mutual
  pub found_head : Tok → Flow → ℕ → Ones → ℕ → Ones
  found_head t (choose rs a b) n S i o =
      found_head_block t a (n + 1) (images t rs S) i o ⊎ found_head_block t b (n + 1 + size_block a) (images t rs S) i o
  found_head t (loop rs s) n S i o = ((i ≡ n) × head_of t rs s S o) ⊎ found_head_block t s (n + 1) (images t rs (head_of t rs s S)) i o
  found_head t (switch rs arms end) n S i o = found_head_arms t arms (n + 1) (images t rs S) i o
  found_head t (scope s) n S i o = found_head_block t s (n + 1) S i o
  found_head t (focus rs s es) n S i o = found_head_block t s (n + 1) (images t rs S) i o
  found_head t _ n S i o = ⊥

  pub found_head_block : Tok → Block → ℕ → Ones → ℕ → Ones
  found_head_block t (block ss bound end) n S i o = found_head_stmts t ss n S i o

  pub found_head_stmts : Tok → Stmts → ℕ → Ones → ℕ → Ones
  found_head_stmts t done n S i o = ⊥
  found_head_stmts t (next at s rest) n S i o = found_head t s n S i o ⊎ found_head_stmts t rest (n + size s) (out t s S to_next) i o

  pub found_head_arms : Tok → Arms → ℕ → Ones → ℕ → Ones
  found_head_arms t no_arms n S i o = ⊥
  found_head_arms t (arm rs s rest) n S i o = found_head_block t s n (images t rs S) i o ⊎ found_head_arms t rest (n + size_block s) S i o

abbrev mutual
  pub found_exit : Tok → Flow → ℕ → Ones → ℕ → Ones
  found_exit t (choose rs a b) n S i o =
      ((i ≡ n) × out t (choose rs a b) S to_next o) ⊎ (found_exit_block t a (n + 1) (images t rs S) i o ⊎ found_exit_block t b (n + 1 + size_block a) (images t rs S) i o)
  found_exit t (loop rs s) n S i o =
      ((i ≡ n) × out t (loop rs s) S to_next o) ⊎ found_exit_block t s (n + 1) (images t rs (head_of t rs s S)) i o
  found_exit t (switch rs arms end) n S i o =
      ((i ≡ n) × out t (switch rs arms end) S to_next o) ⊎ found_exit_arms t arms (n + 1) (images t rs S) i o
  found_exit t (scope s) n S i o = found_exit_block t s (n + 1) S i o
  found_exit t (focus rs s es) n S i o = found_exit_block t s (n + 1) (images t rs S) i o
  found_exit t _ n S i o = ⊥

  pub found_exit_block : Tok → Block → ℕ → Ones → ℕ → Ones
  found_exit_block t (block ss bound end) n S i o = found_exit_stmts t ss n S i o

  pub found_exit_stmts : Tok → Stmts → ℕ → Ones → ℕ → Ones
  found_exit_stmts t done n S i o = ⊥
  found_exit_stmts t (next at s rest) n S i o = found_exit t s n S i o ⊎ found_exit_stmts t rest (n + size s) (out t s S to_next) i o

  pub found_exit_arms : Tok → Arms → ℕ → Ones → ℕ → Ones
  found_exit_arms t no_arms n S i o = ⊥
  found_exit_arms t (arm rs s rest) n S i o = found_exit_block t s n (images t rs S) i o ⊎ found_exit_arms t rest (n + size_block s) S i o

-- each table holds just what is found there
pub record IsFoundIn (t : Tok) (s : Block) (S : Ones) (k : Stock) : Type 0 where
  pub around : (i : ℕ) (o : One) → In (k.around i) o ↔ found_head_block t s 0 S i o
  pub following : (i : ℕ) (o : One) → In (k.following i) o ↔ found_exit_block t s 0 S i o

-- no table holds more than what is found
pub record IsReached (t : Tok) (s : Block) (S : Ones) (k : Stock) : Type 0 where
  pub around : (i : ℕ) (o : One) → In (k.around i) o → found_head_block t s 0 S i o
  pub following : (i : ℕ) (o : One) → In (k.following i) o → found_exit_block t s 0 S i o

-- ---- what may be kept

pub record IsSameOnes (S T : Ones) : Type 0 where
  pub there : (o : One) → S o → T o
  pub back : (o : One) → T o → S o

-- what may be kept at the heads and after, by statement, is just what the part finds when P comes in
abbrev mutual
  pub Fits : (ℕ → Ones) → (ℕ → Ones) → Tok → Flow → ℕ → Ones → Type 0
  Fits A B t (step rs) n P = Unit {0}
  Fits A B t (choose rs a b) n P =
      IsSameOnes (B n) (out t (choose rs a b) P to_next) × FitsBlock A B t a (n + 1) (images t rs P) × FitsBlock A B t b (n + 1 + size_block a) (images t rs P)
  Fits A B t (loop rs s) n P =
      IsSameOnes (A n) (head_of t rs s P) × IsSameOnes (B n) (out t (loop rs s) P to_next) × FitsBlock A B t s (n + 1) (images t rs (head_of t rs s P))
  Fits A B t (switch rs arms end) n P = IsSameOnes (B n) (out t (switch rs arms end) P to_next) × FitsArms A B t arms (n + 1) (images t rs P)
  Fits A B t (scope s) n P = FitsBlock A B t s (n + 1) P
  Fits A B t (focus rs s es) n P = FitsBlock A B t s (n + 1) (images t rs P)
  Fits A B t (return rs) n P = Unit {0}
  Fits A B t (jump c left) n P = Unit {0}

  pub FitsBlock : (ℕ → Ones) → (ℕ → Ones) → Tok → Block → ℕ → Ones → Type 0
  FitsBlock A B t (block ss bound end) n P = FitsStmts A B t ss n P

  pub FitsStmts : (ℕ → Ones) → (ℕ → Ones) → Tok → Stmts → ℕ → Ones → Type 0
  FitsStmts A B t done n P = Unit {0}
  FitsStmts A B t (next at s rest) n P = Fits A B t s n P × FitsStmts A B t rest (n + size s) (out t s P to_next)

  pub FitsArms : (ℕ → Ones) → (ℕ → Ones) → Tok → Arms → ℕ → Ones → Type 0
  FitsArms A B t no_arms n P = Unit {0}
  FitsArms A B t (arm rs s rest) n P = FitsBlock A B t s n (images t rs P) × FitsArms A B t rest (n + size_block s) P
