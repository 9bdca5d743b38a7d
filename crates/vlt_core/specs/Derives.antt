-- Which programs follow the rules on keys: between the statements of each body some maps exist.
use Rattle.std.specs.Prelude.{◌≡◌, ℕ, ◌==◌, nat_lt, Bool, true, false, ◌&&◌, if◌then◌else◌, List, [], ◌∷◌, map, Option, Some, slice_get}
use Rattle.vlt_core.specs.Core.{a_key, a_var, Entry, Func, Program}
use Rattle.vlt_core.specs.Lookups.{is_owning_var, is_held_before, before_set}
use Rattle.vlt_core.specs.Instances.{instance, IsOrigin}
use Rattle.vlt_core.specs.Maps.{Status, absent, held, full, HeldMap, CanPass, map_after, IsBelow, away_row}
use Rattle.vlt_core.specs.Flow.{Flow, step, choose, loop, switch, scope, focus, return, jump, Block, block, Stmts, done, next, Arms, no_arms, arm}
use Rattle.vlt_core.specs.Bodies.{body_flow}

abbrev pub toward : (continues : Bool) → (breaks turns : HeldMap) → HeldMap
toward true b c = c
toward false b c = b

-- Where a `break` leads to the map b and a `continue` to the map c, a statement leads from the map h to the map k.
abbrev mutual
  pub Derives : (b c h : HeldMap) → Flow → HeldMap → Type 0
  Derives b c h (step rs) k = CanPass rs h × IsBelow (map_after rs h) k
  Derives b c h (choose rs s t) k =
      CanPass rs h × DerivesBlock b c (map_after rs h) s k × DerivesBlock b c (map_after rs h) t k
  Derives b c h (loop rs s) k =
      (i : HeldMap) × IsBelow h i × CanPass rs i × IsBelow (map_after rs i) k × DerivesBlock k i (map_after rs i) s i
  Derives b c h (switch rs arms end) k = CanPass rs h × DerivesArms b c (map_after rs h) arms k
  Derives b c h (scope s) k = DerivesBlock b c h s k
  Derives b c h (focus rs s es) k =
      CanPass rs h × ((m : HeldMap) × DerivesBlock b c (map_after rs h) s m × CanPass es m × IsBelow (map_after es m) k)
  Derives b c h (return rs) k = CanPass rs h
  Derives b c h (jump continues left) k =
      CanPass (map away_row left) h × IsBelow (map_after (map away_row left) h) (toward continues b c)

  pub DerivesBlock : (b c h : HeldMap) → Block → HeldMap → Type 0
  DerivesBlock b c h (block ss bound end) k =
      (m : HeldMap) × DerivesStmts b c h ss m × CanPass (map away_row bound) m × IsBelow (map_after (map away_row bound) m) k

  pub DerivesStmts : (b c h : HeldMap) → Stmts → HeldMap → Type 0
  DerivesStmts b c h done k = IsBelow h k
  DerivesStmts b c h (next at s rest) k = (m : HeldMap) × Derives b c h s m × DerivesStmts b c m rest k

  pub DerivesArms : (b c h : HeldMap) → Arms → HeldMap → Type 0
  DerivesArms b c h no_arms k = Unit {0}
  DerivesArms b c h (arm rs s rest) k =
      CanPass rs h × DerivesBlock b c (map_after rs h) s k × DerivesArms b c h rest k

-- a body leads from the map h to some map; outside loops there is no jump, so the maps around don't matter
abbrev pub IsDerived : Block → HeldMap → Type 0
IsDerived s h = (b : HeldMap) × (c : HeldMap) × ((k : HeldMap) × DerivesBlock b c h s k)

-- ---- functions and programs

-- the status of a key where the body begins: held in the states of its entry
abbrev pub status_at_start : Program → Func → List Entry → (k : ℕ) → Status
status_at_start p f [] k = absent
status_at_start p f (e ∷ es) k =
    if is_held_before e && k == e.key then held (before_set p f e) else status_at_start p f es k

-- The map that a body begins with: the keys that its clause has before, its owning parameters full, all else absent.
abbrev pub start_map : Program → Func → HeldMap
start_map p f (a_key k) = status_at_start p f f.clause k
start_map p f (a_var v) = if nat_lt v f.params && is_owning_var f v then full else absent

abbrev pub IsAcceptedFunc : Program → Func → Type 0
IsAcceptedFunc p f = IsDerived (body_flow p f) (start_map p f)

-- each instance of each function with a body is accepted
abbrev pub IsAccepted : Program → Type 0
IsAccepted p = (g : ℕ) (f : Func) (o : Option ℕ) → slice_get p.fns g ≡ Some f → f.external ≡ false → IsOrigin p f o →
    IsAcceptedFunc p (instance p f o)
