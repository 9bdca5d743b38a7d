-- The first fault of a function's body over its instances; private contracts alone cite this.
use Rattle.std.specs.Prelude.{◌≡◌, ◌⊎◌, ℕ, ◌<◌, Option, Some, None, slice_get, length, IfSome}
use Rattle.vlt_core.specs.Core.{Tok, Func, Program}
use Rattle.vlt_core.specs.Instances.{instance, origins}
use Rattle.vlt_core.specs.Bodies.{body_flow}
use Rattle.vlt_core.specs.Derives.{start_map}
use Rattle.vlt_core.specs.Faults.{Spot, IsNoLater, IsFaultIn}
use Rattle.vlt_core.specs.View.{tok_of}
use Rattle.vlt_faults.specs.declared.judge.blame.Blame.{Blame}
use Rattle.vlt_faults.specs.declared.judge.InstanceBlame.{InstanceBlame}
use Rattle.vlt_faults.specs.Judge.Blames.{spot_of}
use Rattle.vlt_faults.specs.Judge.Overs.{IsFirstOver}

abbrev pub All : Tok → Type 0
All t = Unit {0}

-- the blame is the first one of the instance, or it has no fault
abbrev pub IsFirstBlame : Program → Func → Option ℕ → Option Blame → Type 0
IsFirstBlame p f o x = IsFirstOver All (body_flow p (instance p f o)) (start_map p (instance p f o)) x

abbrev pub IsBefore : Blame → Blame → Type 0
IsBefore a b = IsNoLater (spot_of a) (tok_of a.tok) (spot_of b) (tok_of b.tok)

-- the first of two, and of two at one spot the one before
abbrev pub IsSooner : (y z r : InstanceBlame) → Type 0
IsSooner y z r =
    ((r ≡ y) × IsBefore y.blame z.blame) ⊎
    ((r ≡ z) × (IsBefore z.blame y.blame × (IsBefore y.blame z.blame → ⊥)))

-- the first one so far, or the next instance's
abbrev pub IsNext : Option InstanceBlame → Option ℕ → Option Blame → Option InstanceBlame → Type 0
IsNext x o None r = r ≡ x
IsNext None o (Some b) r = r ≡ Some (record { origin = o; blame = b })
IsNext (Some y) o (Some b) r = (z : InstanceBlame) × (r ≡ Some z) × IsSooner y (record { origin = o; blame = b }) z

-- This is told of one of the first n instances, and none before that one is faulty at its spot.
pub record IsToldAt (p : Program) (f : Func) (n : ℕ) (y : InstanceBlame) : Type 0 where
  pub position : ℕ
  pub among : position < n
  pub at : slice_get (origins p f) position ≡ Some y.origin
  pub first : IsFirstBlame p f y.origin (Some y.blame)
  pub alone : (j : ℕ) (o : Option ℕ) → j < position → slice_get (origins p f) j ≡ Some o →
      IsFaultIn p (instance p f o) (spot_of y.blame) (tok_of y.blame.tok) → ⊥

-- no later than the spot for the token
abbrev pub ToldBefore : Option InstanceBlame → Spot → Tok → Type 0
ToldBefore None q u = ⊥
ToldBefore (Some y) q u = IsNoLater (spot_of y.blame) (tok_of y.blame.tok) q u

-- This is the first of the faults of the first n instances; without one each of them has none.
pub record AreJudgedTo (p : Program) (f : Func) (n : ℕ) (x : Option InstanceBlame) : Type 0 where
  pub there : IfSome x (IsToldAt p f n)
  pub first : (i : ℕ) (o : Option ℕ) → i < n → slice_get (origins p f) i ≡ Some o → (q : Spot) (u : Tok) →
      IsFaultIn p (instance p f o) q u → ToldBefore x q u
  pub none : x ≡ None → (i : ℕ) (o : Option ℕ) → i < n → slice_get (origins p f) i ≡ Some o → IsFirstBlame p f o None

-- the same of all instances
abbrev pub AreJudged : Program → Func → Option InstanceBlame → Type 0
AreJudged p f x = AreJudgedTo p f (length (origins p f)) x
