-- The places of owned objects in a run: variables, what is just handed over, variables of waiting functions, and cells.
use Rattle.std.specs.Prelude.{ℕ, List, [], Option, None, Some, slice_get}
use Rattle.vlt_meaning.specs.World.{Value, objects_in, Owner, loose, inside, gone, Object}

pub data Root : Type 0 where
  in_var : (v : ℕ) → Root
  in_hand : Root
  in_wait : (depth v : ℕ) → Root
  in_cell : (n position : ℕ) → Root

-- what places are in; of what is just handed over the objects alone, in order
pub record Stock : Type 0 where
  pub vars : ℕ → Option Value
  pub hand : List ℕ
  pub waits : (depth v : ℕ) → Option Value
  pub objects : ℕ → Object

abbrev pub owned_by : Option Value → List ℕ
owned_by None = []
owned_by (Some a) = objects_in a

-- a released object has nothing
abbrev pub unless_gone : Owner → List ℕ → List ℕ
unless_gone gone ns = []
unless_gone _ ns = ns

abbrev pub cell_of : Object → (position : ℕ) → List ℕ
cell_of o i = unless_gone o.owner (owned_by (slice_get o.cells i))

abbrev pub content : Stock → Root → List ℕ
content s (in_var v) = owned_by (s.vars v)
content s in_hand = s.hand
content s (in_wait d v) = owned_by (s.waits d v)
content s (in_cell n i) = cell_of (s.objects n) i

abbrev pub home : Root → Owner
home (in_var v) = loose
home in_hand = loose
home (in_wait d v) = loose
home (in_cell n i) = inside n

abbrev pub owner_of : (ℕ → Object) → ℕ → Owner
owner_of os n = (os n).owner
