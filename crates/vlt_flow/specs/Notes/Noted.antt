-- What notes read of the maps that a walk keeps.
use Rattle.std.specs.Prelude.{◌≡◌, ◌<◌, ◌≤◌, ◌^◌, ℕ, List, [], ◌∷◌, ◌++◌, map, length, Option, Some, None, ◌⊎◌, Result, Err}
use Rattle.vlt_core.specs.Maps.{HeldMap}
use Rattle.vlt_core.specs.Least.{Note, at_loop, at_join, Noted, a_loop, a_join, noted_by, noted_block}
use Rattle.vlt_core.specs.Flow.{Block, size_block}
use Rattle.vlt_core.specs.declared.notes.Note as DN
use Rattle.vlt_keyset.specs.Held.{Statuses, map_of}
use Rattle.vlt_keyset.specs.Pairs.{HasOnly}
use Rattle.vlt_flow.specs.Walks.{KeepsBlock, IsLeastLocal}
use Rattle.vlt_flow_maps.specs.Kept.{Marks, slot}
use Rattle.vlt_flow.specs.Notes.Listed.{note_of}
use Rattle.vlt_flow.specs.declared.errors.NoteError.{NoteError}
use Rattle.vlt_flow.specs.declared.errors.NoteError.TheVariants.{Unfit}

-- there is a map, and it is this one
abbrev pub IsHeld : Option Statuses → HeldMap → Type 0
IsHeld None m = ⊥
IsHeld (Some h) m = m ≡ map_of h

-- the note has the maps that are kept
abbrev pub IsRead : Marks → Note → Type 0
IsRead k (at_loop n around exit) = IsHeld (slot k.around n) around × IsHeld (slot k.following n) exit
IsRead k (at_join n m) = IsHeld (slot k.following n) m

abbrev pub AreRead : Marks → List Note → Type 0
AreRead k [] = Unit {0}
AreRead k (x ∷ xs) = IsRead k x × AreRead k xs

-- a fact for the one error of notes that says so
pub record IfUnlisted {A : Type 0} (r : Result A NoteError) (p : Type 0) : Type 0 where
  pub holds : r ≡ Err Unfit → p

-- the notes of a body have the least maps that are kept
pub record AreNotes (s : Block) (h : HeldMap) (notes : List Note) : Type 0 where
  pub kept : Marks
  pub least : IsLeastLocal s h kept
  pub names : map noted_by notes ≡ noted_block 0 s
  pub reads : AreRead kept notes

-- ---- why there are no notes

-- no map is kept there; or it has a token that isn't among so many keys and variables
abbrev pub HasNoList : (keys vars : ℕ) → Option Statuses → Type 0
HasNoList keys vars None = Unit {0}
HasNoList keys vars (Some h) = HasOnly keys vars (map_of h) → ⊥

-- the statement has no number of 32 bits, or a map of it has no list
abbrev pub HasNoNote : (keys vars : ℕ) → Marks → Noted → Type 0
HasNoNote keys vars k (a_loop n) = (2 ^ 32 ≤ n) ⊎ (HasNoList keys vars (slot k.around n) ⊎ HasNoList keys vars (slot k.following n))
HasNoNote keys vars k (a_join n) = (2 ^ 32 ≤ n) ⊎ HasNoList keys vars (slot k.following n)

-- some of these statements has no note
abbrev pub LacksNote : (keys vars : ℕ) → Marks → List Noted → Type 0
LacksNote keys vars k [] = ⊥
LacksNote keys vars k (x ∷ xs) = HasNoNote keys vars k x ⊎ LacksNote keys vars k xs

-- Why a body that begins with the map has no notes for so many keys and variables: it has so many
-- statements; or the least maps that are kept have no note of some loop or choice. Wherever something
-- comes a map is kept, so a map is missing only of a statement that nothing comes to.
pub data IsUnnoted (keys vars : ℕ) (s : Block) (h : HeldMap) : Type 0 where
  many_statements : 2 ^ 62 ≤ size_block s → IsUnnoted keys vars s h
  no_note : (k : Marks) → IsLeastLocal s h k → KeepsBlock k 0 s →
      LacksNote keys vars k (noted_block 0 s) → IsUnnoted keys vars s h

-- ---- private contracts alone cite these

-- notes of these statements were added after the others
pub record IsNoted (k : Marks) (xs : List Noted) (old new : List DN.Note) : Type 0 where
  pub added : List DN.Note
  pub is : new ≡ old ++ added
  pub names : map noted_by (map note_of added) ≡ xs
  pub reads : AreRead k (map note_of added)

-- the tables have so many slots at least
pub record IsLong (k : Marks) (n : ℕ) : Type 0 where
  pub around : n ≤ length k.around
  pub following : n ≤ length k.following
  pub few : n < 2 ^ 63
