-- What a path's token comes with, and the points of a path, as plain data.
use Rattle.std.specs.Prelude.{◌≡◌, ℕ, Bool, true, false, IsTrue, Option, Some, None}
use Rattle.vlt_core.specs.Core.{Tok}
use Rattle.vlt_core.specs.Maps as maps
use Rattle.vlt_core.specs.Maps.{Row, is_tok}
use Rattle.vlt_core.specs.Found.{One, one_absent, one_held, one_lent, one_full}
use Rattle.vlt_core.specs.Witness as w
use Rattle.vlt_paths.specs.Numbers.{holds}
use Rattle.vlt_paths.specs.declared.comes.Comes.{Comes}
use Rattle.vlt_paths.specs.declared.comes.Comes.TheVariants as comes
use Rattle.vlt_paths.specs.declared.comes.Wants.{Wants}
use Rattle.vlt_paths.specs.declared.comes.Wants.TheVariants as wants
use Rattle.vlt_paths.specs.declared.comes.Leaves.{Leaves}
use Rattle.vlt_paths.specs.declared.comes.Leaves.TheVariants as leaves
use Rattle.vlt_paths.specs.declared.point.Sought.{Sought}

-- whether the single status is among what comes
abbrev pub comes_with : Comes → One → Bool
comes_with comes.Absent one_absent = true
comes_with comes.Full one_full = true
comes_with (comes.Held n) (one_held s) = holds n s
comes_with (comes.Lent n) (one_lent s) = holds n s
comes_with _ _ = false

abbrev pub Brings : Comes → One → Type 0
Brings c o = IsTrue (comes_with c o)

abbrev pub wants_of : Wants → maps.Wanted
wants_of wants.Absent = maps.wants_absent
wants_of wants.Any = maps.wants_held
wants_of (wants.In n) = maps.wants_in (holds n)
wants_of wants.Lent = maps.wants_lent
wants_of wants.Full = maps.wants_full

abbrev pub leaves_of : Leaves → maps.After
leaves_of leaves.Absent = maps.becomes_absent
leaves_of (leaves.Set n) = maps.becomes_held (holds n)
leaves_of leaves.Same = maps.stays
leaves_of leaves.Full = maps.becomes_full
leaves_of leaves.Lend = maps.becomes_lent
leaves_of leaves.Unlend = maps.comes_back

-- a row of this token at the place, which wants this, is the one that is sought
abbrev pub SoughtBy : Tok → Option Sought → (place : ℕ) → Tok → maps.Wanted → Type 0
SoughtBy t None place u w = ⊥
SoughtBy t (Some s) place u w = (place ≡ s.at) × (is_tok t u ≡ true) × (w ≡ wants_of s.wants)

-- the row that is sought: none, or one of the token at this place, which wants this and refuses what comes
abbrev pub SoughtRow : Tok → Option Sought → (place : ℕ) → Row → One → Type 0
SoughtRow t None place r o = ⊥
SoughtRow t (Some s) place r o = w.Refuses t s.at (wants_of s.wants) place r o
