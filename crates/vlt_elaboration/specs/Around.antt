-- What a statement stands in.
use Rattle.std.specs.Prelude.{Bool, true, false, List, Option}
use Rattle.vlt_core.specs.Core.{Ty, Entry}

-- what the function gives, its clause, and whether a loop is there to leave and a focus to stay in
pub record Around : Type 0 where
  pub result : Option Ty
  pub clause : List Entry
  pub in_loop : Bool
  pub in_focus : Bool

abbrev pub inside_loop : Around → Around
inside_loop around = record around { in_loop = true }

-- no jump leaves a focus
abbrev pub inside_focus : Around → Around
inside_focus around = record around { in_loop = false; in_focus = true }
