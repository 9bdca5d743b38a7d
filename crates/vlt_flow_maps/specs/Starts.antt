-- The map that a body begins with: its places, which a public clause cites; and entry by entry, for private contracts alone.
use Rattle.std.specs.Prelude.{◌≡◌, ◌<◌, ◌^◌, ◌⊎◌, ℕ, Bool, true, false, ◌&&◌, nat_lt, length, if◌then◌else◌}
use Rattle.vlt_core.specs.Core.{Entry, Func, Program, Tok, a_key, a_var}
use Rattle.vlt_core.specs.Lookups.{is_held_before, before_set, is_owning_var}
use Rattle.vlt_core.specs.Maps as maps
use Rattle.vlt_core.specs.Maps.{HeldMap, Status, After, absent, full, becomes_held, wants_absent, row_passed}
use Rattle.vlt_core.specs.Rows.{row}
use Rattle.vlt_core.specs.Derives.{status_at_start}
use Rattle.vlt_keyset.specs.Held.{Statuses}

-- an absent token becomes what a row leaves
pub record IsGiven (t : Tok) (a : After) (h k : HeldMap) : Type 0 where
  pub absent : h t ≡ maps.absent
  pub passed : k ≡ row_passed (row t wants_absent a) h

-- a token that is there already stays as it is
pub record IsThere (t : Tok) (h k : HeldMap) : Type 0 where
  pub present : h t ≡ absent → ⊥
  pub same : k ≡ h

-- an entry makes its key held, if it is so before the call and no entry before did
abbrev pub Started : Bool → Program → Func → Entry → HeldMap → HeldMap → Type 0
Started true p f e h k = IsGiven (a_key e.key) (becomes_held (before_set p f e)) h k ⊎ IsThere (a_key e.key) h k
Started false p f e h k = k ≡ h

abbrev pub IsStarted : Program → Func → Entry → HeldMap → HeldMap → Type 0
IsStarted p f e h k = Started (is_held_before e) p f e h k

-- the first of two statuses that isn't absent
abbrev pub or_else : Status → Status → Status
or_else absent s = s
or_else u s = u

-- there is a place for each key and variable of the function, and each has a number of 32 bits
pub record HasRange (f : Func) (h : Statuses) : Type 0 where
  pub keys : length h.keys ≡ length f.keys
  pub vars : length h.vars ≡ length f.vars
  pub few_keys : length f.keys < 2 ^ 32
  pub few_vars : length f.vars < 2 ^ 32

-- the keys of the clause are held, no variable has a value
pub record HasKeys (p : Program) (f : Func) (h : HeldMap) : Type 0 where
  pub keys : (k : ℕ) → h (a_key k) ≡ status_at_start p f f.clause k
  pub vars : (v : ℕ) → h (a_var v) ≡ absent

-- the owning ones of the first i variables have a value
pub record HasVars (p : Program) (f : Func) (i : ℕ) (h : HeldMap) : Type 0 where
  pub keys : (k : ℕ) → h (a_key k) ≡ status_at_start p f f.clause k
  pub vars : (v : ℕ) → h (a_var v) ≡ (if nat_lt v i && is_owning_var f v then full else absent)
