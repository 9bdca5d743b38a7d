-- Where a path comes from one point of a body to another.
use Rattle.std.specs.Prelude.{◌≡◌, ◌↔◌, ℕ, List, ◌∷◌}
use Rattle.vlt_core.specs.Core.{Tok}
use Rattle.vlt_core.specs.Maps.{Row}
use Rattle.vlt_core.specs.Flow.{Flow, Block}
use Rattle.vlt_core.specs.Found.{One, to_next, to_continue}
use Rattle.vlt_core.specs.Witness.{Choice, LeadsOn, Through}
use Rattle.vlt_paths.specs.Along.{State, TurnWay}
use Rattle.vlt_paths.specs.Comes.{Brings}
use Rattle.vlt_paths.specs.declared.along.Out.TheVariants as out
use Rattle.vlt_paths.specs.declared.along.Went.{Went}
use Rattle.vlt_paths.specs.declared.point.Point.{Point}

-- with a status and choices that are still to be made, to others
abbrev pub Leg : Type 1
Leg = One → List Choice → One → List Choice → Type 0

-- the second is where the leg leads the first, and comes with nothing if it leads nowhere
pub record Led (leg : Leg) (v u : State) : Type 0 where
  pub there : (q : One) (ds : List Choice) → ((o : One) × v.brings o × leg o v.left q ds) ↔ (u.brings q × (ds ≡ u.left))

-- through rows
abbrev pub Past : Tok → List Row → Leg
Past t rs o cs q ds = LeadsOn t rs o q × (ds ≡ cs)

-- by a choice
abbrev pub Takes : Choice → Leg
Takes c o cs q ds = (q ≡ o) × (cs ≡ c ∷ ds)

-- through a statement, to the next one
abbrev pub Onward : Tok → (at : ℕ) → Flow → Leg
Onward t at s o cs q ds = Through t at s o cs to_next q ds

-- by a turn of a loop, to its head again
abbrev pub Around : Tok → List Row → Block → (at : ℕ) → Leg
Around t rs s at o cs q ds = TurnWay t rs s at o cs to_continue q ds

-- ---- of the code

-- where a path is that came out of a part to the next one; it comes with nothing if it didn't
pub record IsNext (w : Went) (v : Point) : Type 0 where
  pub next : w.out ≡ out.Next → v ≡ w.point
  pub nowhere : (w.out ≡ out.Next → ⊥) → (o : One) → Brings v.comes o → ⊥
