-- Statements that fill and name variables and keys of their own function alone, as those of programs that break no rule on names
-- and types do.
use Rattle.std.specs.Prelude.{◌≡◌, ◌<◌, ◌≤◌, ◌^◌, ℕ, List, [], ◌∷◌, length, Option, Some, slice_get, IfSome}
use Rattle.vlt_core.specs.Core.{Simple, set, input, make, drop, own, unpack, build, swap, open_into, adopt, Form, simple, call, choose, loop, switch, focus, scope, return, jump, Func, Block, block, Stmts, done, next, Arms, no_arms, arm, Program}
use Rattle.vlt_core.specs.Lookups.{Reference, reference_of}
use Rattle.vlt_acts.specs.Frames.Frames.{IsLike}

abbrev pub IsVar : Func → (v : ℕ) → Type 0
IsVar f v = v < length f.vars

abbrev pub AreVars : Func → List ℕ → Type 0
AreVars f [] = Unit {0}
AreVars f (v ∷ vs) = IsVar f v × AreVars f vs

abbrev pub IsKey : Func → (k : ℕ) → Type 0
IsKey f k = k < length f.keys

-- the variables that it fills or empties
abbrev pub IsOwnSimple : Func → Simple → Type 0
IsOwnSimple f (set v e) = IsVar f v
IsOwnSimple f (input v more) = IsVar f v
IsOwnSimple f (make x args) = IsVar f x
IsOwnSimple f (drop v) = IsVar f v
IsOwnSimple f (own v o) = IsVar f v
IsOwnSimple f (unpack x v) = IsVar f x
IsOwnSimple f (build v c args) = IsVar f v
IsOwnSimple f (swap x i v) = IsVar f v
IsOwnSimple f (open_into x vs) = AreVars f vs
IsOwnSimple f (adopt y x r) = IsVar f y
IsOwnSimple f s = Unit {0}

-- a call of the function g for the target v, with keys for those of g's head, where there are so many variables and keys
pub record NamesWithin (p : Program) (vars own_keys : ℕ) (g : ℕ) (v : Option ℕ) (ks : List ℕ) : Type 0 where
  pub target : IfSome v (λ v. v < vars)
  pub keys : (i k : ℕ) → slice_get ks i ≡ Some k → k < own_keys
  pub head : IfSome (slice_get p.fns g) (λ callee. length ks ≤ length callee.keys)

abbrev pub IsOwnCall : (p : Program) (f : Func) (g : ℕ) (v : Option ℕ) (ks : List ℕ) → Type 0
IsOwnCall p f g v ks = NamesWithin p (length f.vars) (length f.keys) g v ks

module _ (p : Program) (f : Func) where
  abbrev mutual
    pub IsOwn : Form → Type 0
    IsOwn (simple s) = IsOwnSimple f s
    IsOwn (call g target keys args) = IsOwnCall p f g target keys
    IsOwn (choose e a b) = IsOwnBlock a × IsOwnBlock b
    IsOwn (loop e b) = IsOwnBlock b
    IsOwn (switch v arms end) = IsVar f v × AreOwnArms arms
    IsOwn (focus y z b) = IsVar f z × IsOwnBlock b
    IsOwn (scope b) = IsOwnBlock b
    IsOwn (return value) = Unit {0}
    IsOwn (jump continues) = Unit {0}

    pub IsOwnBlock : Block → Type 0
    IsOwnBlock (block ss bound end) = AreOwn ss

    pub AreOwn : Stmts → Type 0
    AreOwn done = Unit {0}
    AreOwn (next place form rest) = IsOwn form × AreOwn rest

    pub AreOwnArms : Arms → Type 0
    AreOwnArms no_arms = Unit {0}
    AreOwnArms (arm c vs b rest) = AreVars f vs × IsOwnBlock b × AreOwnArms rest

pub record IsOwnFunc (p : Program) (f : Func) : Type 0 where
  pub keys : (x : ℕ) (q : Reference) → reference_of f x ≡ Some q → IsKey f q.key
  pub params : f.params ≤ length f.vars
  pub few : length f.vars < 2 ^ 32
  pub body : AreOwn p f f.body

-- each function's statements name its own variables and keys
pub record HasOwn (p : Program) : Type 0 where
  pub all : (i : ℕ) (f : Func) → slice_get p.fns i ≡ Some f → IsOwnFunc p f

-- it is one of the program's functions, or one that is like it, as its instances are
pub record IsOf (p : Program) (f : Func) : Type 0 where
  pub position : ℕ
  pub declared : Func
  pub at : slice_get p.fns position ≡ Some declared
  pub like : IsLike declared f
