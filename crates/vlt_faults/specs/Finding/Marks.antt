-- The tables kept.
use Rattle.std.specs.Prelude.{◌≡◌, ◌<◌, ◌≤◌, ◌+◌, ◌^◌, ℕ, Bool, true, false, IsTrue, List, Option, Some, None, ◌⊎◌, length, slice_index_or, slice_set, sum_by}
use Rattle.std.proofs.Common.{arith}
use Rattle.vlt_core.specs.Found.{One}
use Rattle.vlt_core_laws.specs.Sweep.{Many, In, Stock}
use Rattle.vlt_faults.specs.declared.finding.ones.Ones.{Ones}
use Rattle.vlt_faults.specs.Finding.Ones.{many_of, gap_of}

pub record Marks : Type 0 where
  pub around : List Ones
  pub following : List Ones
  pub grew : Bool

abbrev pub no_ones : Ones
no_ones = record { absent = false; full = false; held = 0; lent = 0; few_held = omega arith; few_lent = omega arith }

abbrev pub slot : List Ones → ℕ → Ones
slot xs i = slice_index_or xs i no_ones

abbrev pub at : List Ones → ℕ → Many
at xs i = many_of (slot xs i)

abbrev pub stock_of : Marks → Stock
stock_of k = record { around = at k.around; following = at k.following }

abbrev pub gap : Marks → ℕ
gap k = sum_by gap_of k.around + sum_by gap_of k.following

-- nothing was changed, or something grew
abbrev pub IsGrown : Marks → Marks → Type 0
IsGrown old new = (new ≡ old) ⊎ (IsTrue new.grew × (gap new < gap old))

pub record Went (old new : Marks) : Type 0 where
  pub around : length new.around ≡ length old.around
  pub following : length new.following ≡ length old.following
  pub grown : IsGrown old new

-- the table in a slot took these in
pub record IsInto (m old new : Ones) : Type 0 where
  pub more : (o : One) → In (many_of old) o → In (many_of new) o
  pub has : (o : One) → In (many_of m) o → In (many_of new) o
  pub comes : (o : One) → In (many_of new) o → In (many_of old) o ⊎ In (many_of m) o

abbrev pub IsNearer : Bool → Ones → Ones → Type 0
IsNearer true old new = gap_of new < gap_of old
IsNearer false old new = new ≡ old

abbrev pub ForLoop : Option ℕ → ℕ → Type 0
ForLoop None n = Unit {0}
ForLoop (Some l) n = l < n

pub record HasRoom (k : Marks) (l : Option ℕ) (m : ℕ) : Type 0 where
  pub fits : m ≤ length k.around
  pub long : length k.following ≡ length k.around
  pub few : length k.around < 2 ^ 63
  pub loop : ForLoop l (length k.around)

abbrev pub IsSameParts : Ones → Ones → Type 0
IsSameParts a b = (a.absent ≡ b.absent) × (a.full ≡ b.full) × (a.held ≡ b.held) × (a.lent ≡ b.lent)

-- a slot took m in; the flag is set if it grew
pub record IsPut (n : ℕ) (m : Ones) (xs ys : List Ones) (g g' : Bool) : Type 0 where
  pub value : Ones
  pub is : ys ≡ slice_set xs n value
  pub into : IsInto m (slot xs n) value
  pub near : ((ys ≡ xs) × (g' ≡ g)) ⊎ (IsTrue g' × (gap_of value < gap_of (slot xs n)))
