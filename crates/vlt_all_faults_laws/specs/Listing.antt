-- Lists of faults that grow by a token at a time; private contracts alone cite this.
use Rattle.std.specs.Prelude.{◌≡◌, ℕ, zero, suc, List, [], ◌∷◌, Option}
use Rattle.vlt_core.specs.Core.{Tok, Func, Program}
use Rattle.vlt_core.specs.Instances.{instance, IsOrigin}
use Rattle.vlt_core.specs.Faults.{Spot, IsNoLater, IsFaultIn}
use Rattle.vlt_all_faults_laws.specs.Each.{Finding, AreEach, AreInOrder, Names}

-- the fault's place in a list: those before it come no later, and it comes no later than the one there
abbrev pub IsPlace : Finding → List Finding → ℕ → Type 0
IsPlace x [] n = n ≡ 0
IsPlace x (y ∷ ys) zero = IsNoLater x.spot x.tok y.spot y.tok
IsPlace x (y ∷ ys) (suc n) = IsNoLater y.spot y.tok x.spot x.tok × IsPlace x ys n

abbrev pub AreOf : (Tok → Type 0) → List Finding → Type 0
AreOf A [] = Unit {0}
AreOf A (x ∷ xs) = A x.tok × AreOf A xs

-- the token has no fault in any instance
abbrev pub HasNone : Program → Func → Tok → Type 0
HasNone p f t = (o : Option ℕ) (q : Spot) → IsOrigin p f o → IsFaultIn p (instance p f o) q t → ⊥

-- the first faults of those tokens of A that have one, in order
pub record IsListing (A : Tok → Type 0) (p : Program) (f : Func) (xs : List Finding) : Type 0 where
  pub each : AreEach p f xs
  pub own : AreOf A xs
  pub all : (t : Tok) (o : Option ℕ) (q : Spot) → A t → IsOrigin p f o → IsFaultIn p (instance p f o) q t → Names t xs
  pub order : AreInOrder xs
