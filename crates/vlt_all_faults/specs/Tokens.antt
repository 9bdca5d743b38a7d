-- The first fault of one token over the instances of a function, and lists of such; private contracts alone cite this.
use Rattle.std.specs.Prelude.{◌≡◌, ℕ, ◌<◌, List, map, length, Option, Some, None, IfSome, slice_get}
use Rattle.std.specs.List.{insert}
use Rattle.vlt_core.specs.Core.{Tok, a_key, a_var, Func, Program}
use Rattle.vlt_core.specs.Instances.{instance, IsOrigin, origins}
use Rattle.vlt_core.specs.Bodies.{body_flow}
use Rattle.vlt_core.specs.Derives.{start_map}
use Rattle.vlt_core.specs.Faults.{Spot, IsFaultIn}
use Rattle.vlt_core.specs.View.{tok_of}
use Rattle.vlt_core.specs.FaultView.{kind_of}
use Rattle.vlt_faults.specs.declared.judge.blame.Blame.{Blame}
use Rattle.vlt_faults.specs.declared.judge.InstanceBlame.{InstanceBlame}
use Rattle.vlt_faults.specs.Judge.Blames.{spot_of}
use Rattle.vlt_faults.specs.Judge.Overs.{IsFirstOver, AreBounds}
use Rattle.vlt_faults.specs.Judge.Instances.{ToldBefore}
use Rattle.vlt_faults.specs.Judge.Faulty.{AreFitIn}
use Rattle.vlt_all_faults_laws.specs.Each.{Finding}
use Rattle.vlt_all_faults_laws.specs.Listing.{IsPlace, IsListing}

-- the code's fault as a plain one
abbrev pub finding_of : InstanceBlame → Finding
finding_of y = record { origin = y.origin; spot = spot_of y.blame; tok = tok_of y.blame.tok; kind = kind_of y.blame.kind }

abbrev pub findings_of : List InstanceBlame → List Finding
findings_of = map finding_of

-- the blame is the first one of the token in the instance, or the token has no fault there
abbrev pub IsFirstBlameOf : Program → Func → Tok → Option ℕ → Option Blame → Type 0
IsFirstBlameOf p f t o x = IsFirstOver (λ u. u ≡ t) (body_flow p (instance p f o)) (start_map p (instance p f o)) x

-- This is told of the token in one of the first n instances, and none before that one is faulty at its spot.
pub record IsToldOfAt (p : Program) (f : Func) (t : Tok) (n : ℕ) (y : InstanceBlame) : Type 0 where
  pub position : ℕ
  pub among : position < n
  pub at : slice_get (origins p f) position ≡ Some y.origin
  pub own : tok_of y.blame.tok ≡ t
  pub first : IsFirstBlameOf p f t y.origin (Some y.blame)
  pub alone : (j : ℕ) (o : Option ℕ) → j < position → slice_get (origins p f) j ≡ Some o →
      IsFaultIn p (instance p f o) (spot_of y.blame) t → ⊥

-- This is the first of the token's faults in the first n instances; without one it has none in them.
pub record IsJudgedTo (p : Program) (f : Func) (t : Tok) (n : ℕ) (x : Option InstanceBlame) : Type 0 where
  pub there : IfSome x (IsToldOfAt p f t n)
  pub first : (i : ℕ) (o : Option ℕ) → i < n → slice_get (origins p f) i ≡ Some o → (q : Spot) →
      IsFaultIn p (instance p f o) q t → ToldBefore x q t

-- the same of all instances
abbrev pub IsJudgedOf : Program → Func → Tok → Option InstanceBlame → Type 0
IsJudgedOf p f t x = IsJudgedTo p f t (length (origins p f)) x

-- of each instance no row names a token beyond the numbers
abbrev pub AreBoundsOf : Program → Func → (keys vars : ℕ) → Type 0
AreBoundsOf p f keys vars = (o : Option ℕ) → IsOrigin p f o → AreBounds (body_flow p (instance p f o)) (start_map p (instance p f o)) keys vars

-- the list has one more, if there is one, at its place
abbrev pub IsEntered : Option InstanceBlame → (old new : List InstanceBlame) → Type 0
IsEntered None old new = new ≡ old
IsEntered (Some y) old new = (n : ℕ) × IsPlace (finding_of y) (findings_of old) n × (new ≡ insert old n y)

-- of a fit function, the first faults of those tokens of A that have one
abbrev pub IsListed : (A : Tok → Type 0) → Program → Func → List InstanceBlame → Type 0
IsListed A p f ys = AreFitIn p f → IsListing A p f (findings_of ys)

-- the token's number is below these
abbrev pub IsBelow : (keys vars : ℕ) → Tok → Type 0
IsBelow keys vars (a_key k) = k < keys
IsBelow keys vars (a_var v) = v < vars
