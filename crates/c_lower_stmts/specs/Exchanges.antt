-- Objects whose fields are exchanged or taken out.
use Rattle.std.specs.Prelude.{ℕ, if◌then◌else◌, List, [], ◌∷◌, map, filter}
use Rattle.std.specs.List.{enumerate_from}
use Rattle.vlt_core.specs.Core.{FieldDecl}
use Rattle.vlt_core.specs.Lookups.{is_owning}
use Rattle.c_syntax.specs.declared.program.CCell.{CCell}
use Rattle.c_syntax.specs.declared.program.CVar.{CVar}
use Rattle.c_syntax.specs.declared.program.CPrim.TheVariants as prim
use Rattle.c_syntax.specs.C as c
use Rattle.c_syntax.specs.C.{Stmt}
use Rattle.c_lower.specs.Slots.{Slot, is_owner_sort}
use Rattle.c_lower.specs.Statements.{runtime_call}

-- what an owner goes out of its block for, and what goes in
abbrev pub exchanged : (block temp : CVar) → Slot → List Stmt
exchanged block temp s =
    if is_owner_sort s.sort then
    runtime_call prim.Disown (c.variable temp ∷ []) ∷ runtime_call prim.Own (c.variable s.var ∷ c.variable block ∷ []) ∷ []
    else []

-- a cell's value in a slot, and out of the block
abbrev pub opened : CCell → Slot → List Stmt
opened cell s =
    c.set s.var (c.cell cell) ∷ (if is_owner_sort s.sort then runtime_call prim.Disown (c.variable s.var ∷ []) ∷ [] else [])

-- the positions of the owning fields, of which the first stands at this one
abbrev pub owning_from : ℕ → List FieldDecl → List ℕ
owning_from i ds = map (λ q. q.0) (filter (λ q. is_owning q.1.ty) (enumerate_from i ds))
