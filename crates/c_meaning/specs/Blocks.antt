-- Blocks of cells, and what primitives do to them. A block goes by its position in the list of all that were made.
use Rattle.std.specs.Prelude.{ℕ, suc, ◌==◌, nat_lt, nat_le, ℤ, Bool, true, false, not, ◌&&◌, ◌||◌, if◌then◌else◌, List, [], ◌∷◌, map, length, replicate, Option, Some, None, Result, Ok, Err, slice_get, slice_set, option_map}
use Rattle.std.specs.List.{count_by}
use Rattle.vlt_base.specs.Parents.{Parents, is_at_or_below}
use Rattle.c_syntax.specs.declared.rules.TheConstants as rule

-- A cell that has nothing yet is unset. A reference is null, or it goes to a block.
pub record Block : Type 0 where
  pub parent : Option ℕ
  pub is_out : Bool
  pub numbers : List (Option ℤ)
  pub references : List (Option (Option ℕ))

-- in order of creation; a dead block isn't there any more
abbrev pub Blocks : Type 0
Blocks = List (Option Block)

-- ---- what is there

abbrev pub option_join : {A : Type 0} → Option (Option A) → Option A
option_join None = None
option_join (Some x) = x

abbrev pub live_block : Blocks → ℕ → Option Block
live_block bs n = option_join (slice_get bs n)

-- the live block that a reference goes to
abbrev pub block_at : Blocks → Option ℕ → Option Block
block_at bs None = None
block_at bs (Some n) = live_block bs n

abbrev pub is_there : {A : Type 0} → Option A → Bool
is_there None = false
is_there (Some x) = true

abbrev pub passes : {A : Type 0} → (A → Bool) → Option A → Bool
passes test None = false
passes test (Some x) = test x

abbrev pub is_child : Block → Bool
is_child b = is_there b.parent

abbrev pub live_count : Blocks → ℕ
live_count = count_by is_there

-- how many blocks a run makes at most, so that the numbers of all of them, from 1, are of 64-bit range
abbrev pub max_made : ℕ
max_made = 9223372036854775807

-- no block can be made
abbrev pub is_full : (heap : ℕ) → Blocks → Bool
is_full heap bs = nat_le heap (live_count bs) || nat_le max_made (length bs)

-- ---- changes

abbrev pub with_changed_block : ℕ → (Block → Block) → Blocks → Blocks
with_changed_block n change bs = slice_set bs n (option_map change (live_block bs n))

abbrev pub with_parent : Option ℕ → Block → Block
with_parent parent b = record b { parent = parent }

abbrev pub with_out : Bool → Block → Block
with_out out b = record b { is_out = out }

abbrev pub with_number : ℕ → ℤ → Block → Block
with_number i z b = record b { numbers = slice_set b.numbers i (Some z) }

abbrev pub with_reference : ℕ → Option ℕ → Block → Block
with_reference i p b = record b { references = slice_set b.references i (Some p) }

-- so many number cells and reference cells, unset
abbrev pub new_block : (numbers references : ℕ) → Block
new_block a b = record { parent = None; is_out = false; numbers = replicate a None; references = replicate b None }

abbrev pub parent_in : Option Block → Option ℕ
parent_in None = None
parent_in (Some b) = b.parent

abbrev pub parents_of : Blocks → Parents
parents_of = map parent_in

abbrev pub without_from : (ℕ → Bool) → ℕ → Blocks → Blocks
without_from gone n [] = []
without_from gone n (b ∷ bs) = (if gone n then None else b) ∷ without_from gone (suc n) bs

-- the block and all below it are dead
abbrev pub without : ℕ → Blocks → Blocks
without n bs = without_from (is_at_or_below (parents_of bs) (n ∷ [])) 0 bs

-- ---- cells: their value, or the rule that is broken

abbrev pub or_no_cell : {A : Type 0} → Option (Option A) → Result A ℕ
or_no_cell (Some (Some x)) = Ok x
or_no_cell _ = Err rule.NO_CELL

abbrev pub number_in : Option Block → ℕ → Result ℤ ℕ
number_in None i = Err rule.DEAD_BLOCK
number_in (Some b) i = or_no_cell (slice_get b.numbers i)

abbrev pub reference_in : Option Block → ℕ → Result (Option ℕ) ℕ
reference_in None i = Err rule.DEAD_BLOCK
reference_in (Some b) i = or_no_cell (slice_get b.references i)

abbrev pub read_number : Blocks → Option ℕ → ℕ → Result ℤ ℕ
read_number bs p i = number_in (block_at bs p) i

abbrev pub read_reference : Blocks → Option ℕ → ℕ → Result (Option ℕ) ℕ
read_reference bs p i = reference_in (block_at bs p) i

abbrev pub if_within : Bool → Blocks → Result Blocks ℕ
if_within true bs = Ok bs
if_within false bs = Err rule.NO_CELL

abbrev pub if_there : Option Block → (Block → Result Blocks ℕ) → Result Blocks ℕ
if_there None go = Err rule.DEAD_BLOCK
if_there (Some b) go = go b

abbrev pub write_number : Blocks → Option ℕ → ℕ → ℤ → Result Blocks ℕ
write_number bs None i z = Err rule.DEAD_BLOCK
write_number bs (Some n) i z =
    if_there (live_block bs n) (λ b. if_within (nat_lt i (length b.numbers)) (with_changed_block n (with_number i z) bs))

abbrev pub write_reference : Blocks → Option ℕ → ℕ → Option ℕ → Result Blocks ℕ
write_reference bs None i p = Err rule.DEAD_BLOCK
write_reference bs (Some n) i p =
    if_there (live_block bs n) (λ b. if_within (nat_lt i (length b.references)) (with_changed_block n (with_reference i p) bs))

-- ---- primitives: the blocks after them, or misuse

abbrev pub or_misused : {A : Type 0} → Bool → A → Result A ℕ
or_misused true x = Ok x
or_misused false x = Err rule.MISUSED

-- live, not out, and no child
abbrev pub is_free : Block → Bool
is_free b = not b.is_out && not (is_child b)

-- a null child is nothing to own
abbrev pub blocks_after_own : Blocks → (child parent : Option ℕ) → Result Blocks ℕ
blocks_after_own bs None parent = Ok bs
blocks_after_own bs (Some c) None = Err rule.MISUSED
blocks_after_own bs (Some c) (Some q) =
    or_misused (passes is_free (live_block bs c) && (not (c == q) && passes (λ b. not (is_child b)) (live_block bs q)))
    (with_changed_block c (with_parent (Some q)) bs)

abbrev pub blocks_after_disown : Blocks → (child : Option ℕ) → Result Blocks ℕ
blocks_after_disown bs None = Ok bs
blocks_after_disown bs (Some c) = or_misused (is_there (live_block bs c)) (with_changed_block c (with_parent None) bs)

abbrev pub some_or_misused : {A : Type 0} → Option A → Result A ℕ
some_or_misused None = Err rule.MISUSED
some_or_misused (Some x) = Ok x

abbrev pub parent_of : Blocks → (child : Option ℕ) → Result ℕ ℕ
parent_of bs child = some_or_misused (parent_in (block_at bs child))

abbrev pub blocks_after_release : Blocks → Option ℕ → Result Blocks ℕ
blocks_after_release bs None = Ok bs
blocks_after_release bs (Some n) = or_misused (passes (λ b. not b.is_out) (live_block bs n)) (without n bs)

abbrev pub gone_out : Blocks → Option ℕ → Result Blocks ℕ
gone_out bs None = Err rule.MISUSED
gone_out bs (Some n) = or_misused (passes is_free (live_block bs n)) (with_changed_block n (with_out true) bs)

-- the blocks after the return of one that is out; none where it isn't
abbrev pub come_back : Blocks → Option ℕ → Result (Option Blocks) ℕ
come_back bs None = Err rule.MISUSED
come_back bs (Some n) =
    Ok (if passes (λ b. b.is_out) (live_block bs n) then Some (with_changed_block n (with_out false) bs) else None)
