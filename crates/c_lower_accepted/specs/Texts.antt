-- The C programs of accepted trees, which one text spells or several.
use Rattle.std.specs.Prelude.{◌≡◌, Ok}
use Rattle.vlt_syntax.specs.Tree.{Tree}
use Rattle.vlt_core.specs.Core.{Program}
use Rattle.vlt_core.specs.Derives.{IsAccepted}
use Rattle.vlt_elaboration.specs.Programs.{program_told}
use Rattle.vlt_fit_laws.specs.Fit.{IsTextTree}
use Rattle.c_lower_accepted.specs.Promise.{RunsAlike, IsDefined}

-- The program is that of a tree as texts have them, and is accepted.
pub record IsAcceptedTree (t : Tree) (p : Program) : Type 0 where
  pub text : IsTextTree t
  pub elaborates : program_told t ≡ Ok p
  pub accepted : IsAccepted p

-- a run of it and that of its C program are the same
abbrev pub TreesRunAlike : Type 0
TreesRunAlike = (t : Tree) (p : Program) → IsAcceptedTree t p → RunsAlike p

-- and the second breaks no rule of C
abbrev pub TreesAreDefined : Type 0
TreesAreDefined = (t : Tree) (p : Program) → IsAcceptedTree t p → IsDefined p
