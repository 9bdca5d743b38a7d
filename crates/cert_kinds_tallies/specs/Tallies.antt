-- Rows, one after another, and the first that is broken.
use Rattle.std.specs.Prelude.{◌≡◌, ℕ, suc, nat_lt, if◌then◌else◌, List, [], ◌∷◌, Option, Some, None}
use Rattle.std.specs.Option.{option_map}
use Rattle.vlt_core.specs.KindedHeads.{Rules}
use Rattle.cert_kinds_types.specs.Least.{least}
use Rattle.cert_kinds_tallies.specs.declared.tallies.Broken.{Broken}
use Rattle.cert_kinds_tallies.specs.declared.tallies.Tally.{Tally as CodeTally}
use Rattle.cert_kinds_tallies.specs.declared.tallies.Walked.{Walked}

-- The greatest number of a row that is counted. A program with more rows than that fits no machine.
abbrev pub last_row : ℕ
last_row = 18446744073709551615

-- the number of the row after this one, as far as rows are counted
unfoldable pub row_after : ℕ → ℕ
row_after n = if nat_lt n last_row then suc n else n

-- a row with a rule that it breaks
abbrev pub Place : Type 0
Place = ℕ × ℕ

-- The number of the next row, and the first row that is broken so far.
pub record Tally : Type 0 where
  pub next : ℕ
  pub found : Option Place

abbrev pub first_of : (a b : Option Place) → Option Place
first_of None b = b
first_of (Some x) b = Some x

abbrev pub broken_at : (row : ℕ) → (rule : Option ℕ) → Option Place
broken_at n None = None
broken_at n (Some r) = Some (n, r)

-- nothing is broken before this row
abbrev pub clean : (row : ℕ) → Tally
clean n = record { next = n; found = None }

-- one more row, which breaks this rule, or none
abbrev pub with_row : Tally → (rule : Option ℕ) → Tally
with_row t rule = record { next = row_after t.next; found = first_of t.found (broken_at t.next rule) }

-- one tally, and then that of the rows after it by themselves
abbrev pub with_rest : Tally → Tally → Tally
with_rest t rest = record { next = rest.next; found = first_of t.found rest.found }

abbrev pub tallied : Tally → List Rules → Tally
tallied t [] = t
tallied t (r ∷ rows) = tallied (with_row t (least r)) rows

-- ---- what the code's tallies say

abbrev pub place_of : Broken → Place
place_of x = (x.row, x.rule)

abbrev pub tally_of : CodeTally → Tally
tally_of x = record { next = x.next; found = option_map place_of x.found }

-- the least rule of a statement's own row, and the tally of the rows inside it
pub record IsWalked (x : Walked) (own : Rules) (inside : Tally) : Type 0 where
  pub rule : x.rule ≡ least own
  pub tally : tally_of x.tally ≡ inside
