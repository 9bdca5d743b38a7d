-- The blocks that a table of cells shows.
use Rattle.std.specs.Prelude.{◌≡◌, ◌≤◌, ℕ, zero, suc, ◌+◌, ◌*◌, ℤ, Bool, true, false, not, List, [], ◌∷◌, ◌++◌, map, length, Option, Some, None, Result, Ok, Err, option_map, slice_get, slice_set, vec_capacity}
use Rattle.vlt_base.specs.declared.HeapEnd.{HeapEnd}
use Rattle.vlt_rings.specs.Things as rings
use Rattle.vlt_rings.specs.Things.{Thing, Things, IsMadeAt, KeepMade, budget_of, places_in}
use Rattle.vlt_rings.specs.Places.{IsSettled}
use Rattle.c_meaning.specs.Blocks.{Block, new_block, is_full}
use Rattle.c_meaning.specs.Blocks as model
use Rattle.c_memory.specs.declared.cells.Ref.{Ref}
use Rattle.c_memory.specs.declared.cells.Cell.{Cell}
use Rattle.c_memory.specs.declared.cells.Cell.TheVariants.{Number, Reference}
use Rattle.c_memory.specs.declared.cells.Shape.{Shape}
use Rattle.c_memory.specs.declared.blocks.Blocks.{Blocks}

-- the number of the block that a reference goes to
abbrev pub number_of : Option Ref → Option ℕ
number_of = option_map (λ r. r.number)

-- how many blocks can be live at a time, and how many cells each can have
abbrev pub heap_of : Blocks → ℕ
heap_of b = budget_of b.places

abbrev pub cells_of : Blocks → ℕ
cells_of b = b.width

-- ---- what is in a place

abbrev pub table : {A : Type 0} → ℕ → (ℕ → A) → List A
table zero f = []
table (suc n) f = f 0 ∷ table n (λ i. f (suc i))

abbrev pub shape_or : Option Shape → Shape
shape_or None = record { numbers = 0; references = 0; is_out = false }
shape_or (Some s) = s

abbrev pub shape_at : List Shape → ℕ → Shape
shape_at shapes c = shape_or (slice_get shapes c)

abbrev pub number_in : Option Cell → Option ℤ
number_in (Some (Number z)) = Some z
number_in _ = None

abbrev pub reference_in : Option Cell → Option (Option ℕ)
reference_in (Some (Reference r)) = Some (number_of r)
reference_in _ = None

-- the cells of a place begin at `from`, those of numbers first
abbrev pub numbers_at : List Cell → (from : ℕ) → Shape → List (Option ℤ)
numbers_at cells from s = table s.numbers (λ i. number_in (slice_get cells (from + i)))

abbrev pub references_at : List Cell → (from : ℕ) → Shape → List (Option (Option ℕ))
references_at cells from s = table s.references (λ i. reference_in (slice_get cells (from + s.numbers + i)))

abbrev pub block_by : List Cell → (from : ℕ) → Shape → (parent : Option ℕ) → Block
block_by cells from s parent =
    record { parent = parent; is_out = s.is_out; numbers = numbers_at cells from s; references = references_at cells from s }

abbrev pub block_in : Blocks → Thing → Block
block_in b t = block_by b.cells.items (t.place * b.width) (shape_at b.shapes.items t.place) t.parent

-- the blocks, of which these things are the places
abbrev pub blocks_of : Blocks → Things → model.Blocks
blocks_of b = map (option_map (block_in b))

-- ---- what was made

-- a reference is null, or it goes to a block that was made, which may be dead
abbrev pub IsMade : Things → Option Ref → Type 0
IsMade ts None = Unit {0}
IsMade ts (Some r) = IsMadeAt ts r.place r.number

abbrev pub AreMade : Things → List Cell → Type 0
AreMade ts cells = (k : ℕ) (r : Option Ref) → slice_get cells k ≡ Some (Reference r) → IsMade ts r

-- these are the places of all blocks that were made
pub record Holds (b : Blocks) (ts : Things) : Type 0 where
  pub holds : rings.Holds b.places ts
  pub made : AreMade ts b.cells.items

-- the tables have room for all places
pub record IsSound (b : Blocks) : Type 0 where
  pub settled : IsSettled b.places
  pub shapes : length b.shapes.items ≡ places_in b.places
  pub cells : length b.cells.items ≡ places_in b.places * b.width
  pub shapes_room : budget_of b.places ≤ vec_capacity b.shapes
  pub cells_room : budget_of b.places * b.width ≤ vec_capacity b.cells
  pub fit : (c : ℕ) (s : Shape) → slice_get b.shapes.items c ≡ Some s → s.numbers + s.references ≤ b.width

-- no block was made yet, and there is room for all
pub record IsFresh (b : Blocks) : Type 0 where
  pub places : rings.IsFresh b.places
  pub shapes : length b.shapes.items ≡ 0
  pub cells : length b.cells.items ≡ 0
  pub shapes_room : budget_of b.places ≤ vec_capacity b.shapes
  pub cells_room : budget_of b.places * b.width ≤ vec_capacity b.cells

-- ---- what calls come to

-- these blocks are shown now, and references that were made stay so
pub record Come (ts : Things) (new : Blocks) (bs : model.Blocks) : Type 0 where
  pub things : Things
  pub holds : Holds new things
  pub blocks : blocks_of new things ≡ bs
  pub kept : KeepMade ts things

-- the new blocks, or the rule that is broken
abbrev pub Did : Things → Result (Unit {0}) ℕ → Result model.Blocks ℕ → Blocks → Type 0
Did ts (Ok u) (Ok bs) new = Come ts new bs
Did ts (Err r) (Err rule) new = r ≡ rule
Did ts (Ok u) (Err rule) new = ⊥
Did ts (Err r) (Ok bs) new = ⊥

-- a reference to the new block
pub record IsNew (ts : Things) (r : Ref) (a b : ℕ) (old new : Blocks) : Type 0 where
  pub room : is_full (heap_of old) (blocks_of old ts) ≡ false
  pub number : r.number ≡ length ts
  pub come : Come ts new (blocks_of old ts ++ Some (new_block a b) ∷ [])
  pub made : IsMadeAt come.things r.place r.number

abbrev pub IsNewOrFull : Things → Result Ref HeapEnd → (a b : ℕ) → (old new : Blocks) → Type 0
IsNewOrFull ts (Ok r) a b old new = IsNew ts r a b old new
IsNewOrFull ts (Err e) a b old new = is_full (heap_of old) (blocks_of old ts) ≡ true

-- a reference that was read
abbrev pub IsRead : Things → Result (Option Ref) ℕ → Result (Option ℕ) ℕ → Type 0
IsRead ts (Ok r) (Ok n) = (number_of r ≡ n) × IsMade ts r
IsRead ts (Err r) (Err rule) = r ≡ rule
IsRead ts (Ok r) (Err rule) = ⊥
IsRead ts (Err r) (Ok n) = ⊥

abbrev pub IsParent : Things → Result Ref ℕ → Result ℕ ℕ → Type 0
IsParent ts (Ok r) (Ok n) = (r.number ≡ n) × IsMadeAt ts r.place r.number
IsParent ts (Err r) (Err rule) = r ≡ rule
IsParent ts (Ok r) (Err rule) = ⊥
IsParent ts (Err r) (Ok n) = ⊥

-- whether it was out, and came back
abbrev pub DidBack : Things → Result Bool ℕ → Result (Option model.Blocks) ℕ → (old new : Blocks) → Type 0
DidBack ts (Ok true) (Ok (Some bs)) old new = Come ts new bs
DidBack ts (Ok false) (Ok None) old new = new ≡ old
DidBack ts (Err r) (Err rule) old new = r ≡ rule
DidBack _ _ _ _ _ = ⊥

-- ---- how a block is found

-- the place of a live block
pub record IsFoundAt (b : Blocks) (ts : Things) (p : Option Ref) (c : ℕ) : Type 0 where
  pub number : ℕ
  pub thing : Thing
  pub is : number_of p ≡ Some number
  pub at : rings.IsAt ts number thing
  pub place : thing.place ≡ c

abbrev pub IsFound : Blocks → Things → Option Ref → Option ℕ → Type 0
IsFound b ts p None = model.block_at (blocks_of b ts) (number_of p) ≡ None
IsFound b ts p (Some c) = IsFoundAt b ts p c

-- a live block that passes a test, or no such block
abbrev pub IsFoundIf : (Block → Bool) → Blocks → Things → Option Ref → Option ℕ → Type 0
IsFoundIf test b ts p None = model.passes test (model.block_at (blocks_of b ts) (number_of p)) ≡ false
IsFoundIf test b ts p (Some c) = IsFoundAt b ts p c × (model.passes test (model.block_at (blocks_of b ts) (number_of p)) ≡ true)

abbrev pub is_root : Block → Bool
is_root b = not (model.is_child b)

abbrev pub is_out : Block → Bool
is_out b = b.is_out

abbrev pub is_here : Block → Bool
is_here b = not b.is_out

-- the mark of a place is set, and nothing else
pub record IsOutSet (c : ℕ) (mark : Bool) (old new : Blocks) : Type 0 where
  pub shapes : new.shapes.items ≡ slice_set old.shapes.items c (record (shape_at old.shapes.items c) { is_out = mark })
  pub others : (new.places ≡ old.places) × (new.cells ≡ old.cells) × (new.width ≡ old.width)
  pub room : vec_capacity new.shapes ≡ vec_capacity old.shapes
