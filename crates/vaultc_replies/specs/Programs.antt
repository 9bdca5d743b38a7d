-- Which bytes are the text of a program.
use Rattle.std.specs.Prelude.{◌≡◌, ℕ, List, Ok}
use Rattle.vlt_syntax.specs.Tree.{Tree}
use Rattle.vlt_core.specs.Core.{Program}
use Rattle.vlt_elaboration.specs.Programs.{program_told}
use Rattle.vaultc_runs.specs.Texts.{IsTooLong, IsTextOf}

-- the bytes are the text of a tree, whose core program this is
pub record IsProgramOf (bytes : List ℕ) (p : Program) : Type 0 where
  pub short : IsTooLong bytes → ⊥
  pub tree : Tree
  pub reads : IsTextOf tree bytes
  pub elaborates : program_told tree ≡ Ok p
