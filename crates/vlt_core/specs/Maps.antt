-- Held maps: the status of each token at a point, what a row wants of it, and what it leaves.
use Rattle.std.specs.Prelude.{◌≡◌, ℕ, ◌==◌, Bool, false, if◌then◌else◌, IsTrue, List, [], ◌∷◌}
use Rattle.vlt_core.specs.Core.{States, Tok, a_key, a_var}
use Rattle.vlt_core.specs.Lookups.{no_states}

-- The status of a token: a key's object is in one of the states.
pub data Status : Type 0 where
  absent : Status
  held : States → Status
  -- the key is with an open focus
  lent : States → Status
  -- an owning variable has a value
  full : Status

pub data Kind : Type 0 where
  is_absent : Kind
  is_held : Kind
  is_lent : Kind
  is_full : Kind

abbrev pub kind_of : Status → Kind
kind_of absent = is_absent
kind_of (held states) = is_held
kind_of (lent states) = is_lent
kind_of full = is_full

-- the states in which the token's object may be
abbrev pub states_of : Status → States
states_of absent = no_states
states_of (held states) = states
states_of (lent states) = states
states_of full = no_states

-- a held map: the status of each token
abbrev pub HeldMap : Type 0
HeldMap = Tok → Status

-- each state of the first set is in the second
pub record IsWithin (a b : States) : Type 0 where
  pub each : (s : ℕ) → IsTrue (a s) → IsTrue (b s)

-- the same kind of status, and each state of the first is one of the second
pub record IsStatusBelow (a b : Status) : Type 0 where
  pub kind : kind_of a ≡ kind_of b
  pub within : IsWithin (states_of a) (states_of b)

-- each token has the same kind of status in both, and each set lies within the other's
pub record IsBelow (h k : HeldMap) : Type 0 where
  pub each : (t : Tok) → IsStatusBelow (h t) (k t)

-- ---- rows

pub data Wanted : Type 0 where
  wants_absent : Wanted
  -- held, in any state
  wants_held : Wanted
  wants_in : States → Wanted
  wants_lent : Wanted
  wants_full : Wanted

pub data After : Type 0 where
  becomes_absent : After
  becomes_held : States → After
  stays : After
  becomes_full : After
  -- a held key becomes lent, and a lent one held again
  becomes_lent : After
  comes_back : After

-- what a step wants of one token, and what the token's status is after it
pub record Row : Type 0 where
  pub tok : Tok
  pub wanted : Wanted
  pub after : After

abbrev pub IsWanted : Wanted → Status → Type 0
IsWanted wants_absent s = kind_of s ≡ is_absent
IsWanted wants_held s = kind_of s ≡ is_held
IsWanted (wants_in states) s = (kind_of s ≡ is_held) × IsWithin (states_of s) states
IsWanted wants_lent s = kind_of s ≡ is_lent
IsWanted wants_full s = kind_of s ≡ is_full

abbrev pub status_after : After → Status → Status
status_after becomes_absent s = absent
status_after (becomes_held states) s = held states
status_after stays s = s
status_after becomes_full s = full
status_after becomes_lent (held states) = lent states
status_after becomes_lent s = s
status_after comes_back (lent states) = held states
status_after comes_back s = s

abbrev pub is_tok : Tok → Tok → Bool
is_tok (a_key k) (a_key j) = k == j
is_tok (a_var v) (a_var w) = v == w
is_tok _ _ = false

-- the map after a row, which changes its token alone
abbrev pub row_passed : Row → HeldMap → HeldMap
row_passed r h t = if is_tok t r.tok then status_after r.after (h r.tok) else h t

-- the map passes the rows, one after another
abbrev pub CanPass : List Row → HeldMap → Type 0
CanPass [] h = Unit {0}
CanPass (r ∷ rs) h = IsWanted r.wanted (h r.tok) × CanPass rs (row_passed r h)

-- the map after the rows
abbrev pub map_after : List Row → HeldMap → HeldMap
map_after [] h = h
map_after (r ∷ rs) h = map_after rs (row_passed r h)

-- the row that wants a token away
abbrev pub away_row : Tok → Row
away_row t = record { tok = t; wanted = wants_absent; after = becomes_absent }
