-- What the numbers of an answer say.
use Rattle.std.specs.Prelude.{ℕ, ℤ, pos, Bool, if◌then◌else◌, List, [], ◌∷◌, length, filter, Option, Some, None, nat_lt, slice_get}
use Rattle.std.specs.List.{range_with_len}
use Rattle.vlt_core.specs.Core.{States, Ty, bool, tracked, owning, variant, owning_variant, CaseKey, CaseDecl, Func, Program}
use Rattle.vlt_core.specs.Lookups.{cases_of, after_set}
use Rattle.vlt_meaning.specs.Calls.{entries_after}

-- a reading from the front: what is read, and the numbers that are left
abbrev pub Reading : Type 0 → Type 0
Reading A = List ℤ → Option (A × List ℤ)

abbrev pub reads : {A : Type 0} → A → Reading A
reads a zs = Some (a, zs)

abbrev pub then_reads : {A B : Type 0} → (A → Reading B) → Option (A × List ℤ) → Option (B × List ℤ)
then_reads go None = None
then_reads go (Some q) = go q.0 q.1

infixl 10 ◌>>=◌
abbrev pub ◌>>=◌ : {A B : Type 0} → Reading A → (A → Reading B) → Reading B
◌>>=◌ read go zs = then_reads go (read zs)

abbrev pub any_number : Reading ℤ
any_number [] = None
any_number (z ∷ zs) = Some (z, zs)

-- a number from 0 that passes a test
abbrev pub natural : (ℕ → Bool) → Reading ℕ
natural test (pos n ∷ zs) = if test n then Some (n, zs) else None
natural test _ = None

abbrev pub each : {A B : Type 0} → (A → Reading B) → List A → Reading (List B)
each read [] = reads []
each read (a ∷ rest) = do
  b ← read a
  bs ← each read rest
  reads (b ∷ bs)

-- the states of a set, of which there are at most 32
abbrev pub members : States → List ℕ
members s = filter s (range_with_len 0 32)

abbrev pub one_of : List ℕ → States → Reading ℕ
one_of (z ∷ []) s = reads z
one_of _ s = natural s

-- a state of the set; where it has just one, nothing is read
abbrev pub state_in : States → Reading ℕ
state_in s = one_of (members s) s

-- a number or a bool, or the state of a new object
pub data Piece : Type 0 where
  plain : ℤ → Piece
  new_in : (state : ℕ) → Piece

pub data Result : Type 0 where
  nothing : Result
  piece : Piece → Result
  case_with : (case : ℕ) → (states : List ℕ) → List Piece → Result

-- a state for each entry held after, and the result
pub record Answer : Type 0 where
  pub states : List ℕ
  pub result : Result

abbrev pub piece_of : Ty → Reading Piece
piece_of bool = do
  n ← natural (λ n. nat_lt n 2)
  reads (plain (pos n))
piece_of (owning states t args) = do
  n ← state_in states
  reads (new_in n)
piece_of _ = do
  z ← any_number
  reads (plain z)

abbrev pub key_state : CaseKey → Reading ℕ
key_state k = state_in k.states

abbrev pub case_read : (case : ℕ) → Option CaseDecl → Reading Result
case_read c None zs = None
case_read c (Some d) zs = (do
  states ← each key_state d.keys
  pieces ← each piece_of d.payload
  reads (case_with c states pieces)) zs

abbrev pub variant_read : Program → (type : ℕ) → Reading Result
variant_read p t = do
  c ← natural (λ c. nat_lt c (length (cases_of p t)))
  case_read c (slice_get (cases_of p t) c)

abbrev pub piece_read : Ty → Reading Result
piece_read t = do
  a ← piece_of t
  reads (piece a)

abbrev pub result_read : Program → Option Ty → Reading Result
result_read p None = reads nothing
result_read p (Some (tracked k t args)) = reads nothing
result_read p (Some (variant t args)) = variant_read p t
result_read p (Some (owning_variant t args)) = variant_read p t
result_read p (Some t) = piece_read t

abbrev pub answer_read : Program → Func → Reading Answer
answer_read p g = do
  states ← each (λ e. state_in (after_set p g e)) (entries_after g)
  r ← result_read p g.result
  reads (record { states = states; result = r })

abbrev pub if_last : {A : Type 0} → Option (A × List ℤ) → Option A
if_last (Some (a, [])) = Some a
if_last _ = None

-- what an answer to a call of an external says; none where its numbers don't fit, or one is left over
abbrev pub answer_of : Program → Func → List ℤ → Option Answer
answer_of p g zs = if_last (answer_read p g zs)
