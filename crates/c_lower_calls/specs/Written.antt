-- What is promised of the statements that are added to others.
use Rattle.std.specs.Prelude.{◌≡◌, List, [], ◌∷◌, ◌++◌, map}
use Rattle.c_syntax.specs.declared.program.CVar.{CVar}
use Rattle.c_syntax.specs.declared.program.CPrim.TheVariants as prim
use Rattle.c_syntax.specs.C as c
use Rattle.c_syntax.specs.C.{Stmt}
use Rattle.c_lower.specs.Slots.{Numbers}
use Rattle.c_lower.specs.Expressions.{Atom, atom_arg}
use Rattle.c_lower.specs.Statements.{StmtCode, runtime_call}

-- The code is added, and these numbers are after its temps.
pub record Writes (code : StmtCode) (old new : List Stmt) (t : Numbers) : Type 0 where
  pub stmts : new ≡ old ++ code.stmts
  pub most : t ≡ code.most

-- a block becomes the owner of what the atoms refer to
abbrev pub owned_by : CVar → List Atom → List Stmt
owned_by block atoms = map (λ a. runtime_call prim.Own (atom_arg a ∷ c.variable block ∷ [])) atoms

abbrev pub released : List CVar → List Stmt
released vs = map (λ v. runtime_call prim.Release (c.variable v ∷ [])) vs
