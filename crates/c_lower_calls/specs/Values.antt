-- Values that the runtime hands over.
use Rattle.std.specs.Prelude.{ℕ, Bool, true, false, if◌then◌else◌, List, [], ◌∷◌, map, filter}
use Rattle.std.specs.List.{enumerate_from}
use Rattle.c_syntax.specs.declared.program.CVar.{CVar}
use Rattle.c_syntax.specs.declared.program.CPrim.TheVariants as prim
use Rattle.c_syntax.specs.C.{Stmt}
use Rattle.c_lower.specs.Expressions.{Atom, atom_arg}
use Rattle.c_lower.specs.Statements.{runtime_call, runtime_value, count_arg, is_alike, is_reference_atom}

abbrev pub is_of_kind : (references : Bool) → Atom → Bool
is_of_kind true a = is_reference_atom a
is_of_kind false a = is_alike (is_reference_atom a) false

-- atoms of one kind are handed over, the first with this number
abbrev pub kind_puts : (references : Bool) → (number : ℕ) → List Atom → List Stmt
kind_puts r i atoms =
    map (λ q. runtime_call (if r then prim.PutP else prim.PutN) (count_arg q.0 ∷ atom_arg q.1 ∷ [])) (enumerate_from i (filter (is_of_kind r) atoms))

abbrev pub is_var_of_kind : (references : Bool) → CVar → Bool
is_var_of_kind true v = v.reference
is_var_of_kind false v = is_alike v.reference false

-- variables of one kind get what was handed over
abbrev pub kind_gets : (references : Bool) → (number : ℕ) → List CVar → List Stmt
kind_gets r i vs =
    map (λ q. runtime_value q.1 (if r then prim.GetP else prim.GetN) (count_arg q.0 ∷ [])) (enumerate_from i (filter (is_var_of_kind r) vs))
