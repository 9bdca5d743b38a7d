-- What is read of an answer, as the definition of answers has it.
use Rattle.std.specs.Prelude.{◌≡◌, ℕ, ℤ, pos, negsuc, Bool, true, if◌then◌else◌, List, [], ◌∷◌, filter, map, Option, None, Some, ◌+◌}
use Rattle.std.specs.List.{range_with_len}
use Rattle.std.specs.Borrow.{Bor}
use Rattle.vlt_base.specs.declared.states.StateSet.{StateSet}
use Rattle.vlt_base.specs.States.{has_state}
use Rattle.vlt_core.specs.Core.{States, Entry, Func, Program}
use Rattle.vlt_core.specs.Lookups.{is_held_after, after_set}
use Rattle.vlt_core.specs.Instances.{entry_in, IsWithinBound}
use Rattle.vlt_meaning.specs.HostAnswers.{Piece, plain, new_in}
use Rattle.vlt_externals.specs.declared.host_answers.pieces.Piece.{Piece as CodePiece}
use Rattle.vlt_externals.specs.declared.host_answers.pieces.Piece.TheVariants.{Plain, New}

-- ---- numbers

abbrev pub natural_in : ℤ → Option ℕ
natural_in (pos n) = Some n
natural_in (negsuc n) = None

-- a number from 0 that passes a test
abbrev pub passing : (ℕ → Bool) → ℤ → Option ℕ
passing test (pos n) = if test n then Some n else None
passing test (negsuc n) = None

-- what is read, and the numbers that are left
abbrev pub as_read : {A B : Type 0} → (A → B) → Option (A × Bor (List ℤ)) → Option (B × List ℤ)
as_read view None = None
as_read view (Some q) = Some (view q.0, q.1.now)

abbrev pub same : {A : Type 0} → A → A
same a = a

-- only the numbers that are left
abbrev pub rest_of : {B : Type 0} → Option (B × List ℤ) → Option (List ℤ)
rest_of None = None
rest_of (Some q) = Some q.1

abbrev pub left_in : Option (Bor (List ℤ)) → Option (List ℤ)
left_in None = None
left_in (Some s) = Some s.now

-- ---- states

-- the first state of a set from one on, below 32
abbrev pub IsFirst : States → (from : ℕ) → (count : ℕ) → Option ℕ → Type 0
IsFirst s k n None = filter s (range_with_len k n) ≡ []
IsFirst s k n (Some a) =
    (m : ℕ) × (a + 1 + m ≡ k + n) × (filter s (range_with_len k n) ≡ a ∷ filter s (range_with_len (a + 1) m))

-- the only state of a set, where it has just one
abbrev pub only_in : List ℕ → Option ℕ
only_in (s ∷ []) = Some s
only_in _ = None

-- the states that each entry has after the call are those of a set
abbrev pub AreSets : Program → Func → List Entry → Type 0
AreSets p g [] = Unit {0}
AreSets p g (e ∷ es) =
    (is_held_after e ≡ true → (s : StateSet) × (has_state s ≡ after_set p g e)) × AreSets p g es

-- ---- instances

-- the entries as they stand in the instance of this origin
abbrev pub entries_in : Program → Func → (origin : Option ℕ) → List Entry → List Entry
entries_in p g o es = map (entry_in p g o) es

-- the origin is a state up to the bound of each entry that is bound
abbrev pub AreWithin : Program → Func → (origin : Option ℕ) → List Entry → Type 0
AreWithin p g o [] = Unit {0}
AreWithin p g o (e ∷ es) = IsWithinBound p g o e × AreWithin p g o es

-- ---- pieces

abbrev pub piece_view : CodePiece → Piece
piece_view (Plain z) = plain z
piece_view (New s) = new_in s
