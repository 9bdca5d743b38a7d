-- An inner tool: how marks are found, in rounds.
use Rattle.std.specs.Prelude.{ℕ, zero, suc, Bool, false, ◌||◌, if◌then◌else◌, [], map}
use Rattle.std.specs.List.{list_any}
use Rattle.vlt_core.specs.Core.{Ty, TypeDecl, an_abstract, a_struct, a_variant, Program}
use Rattle.vlt_core.specs.Lookups.{is_owning}
use Rattle.vlt_core.specs.Types.{is_undroppable_part, part_type}
use Rattle.vlt_kinds_queries.specs.Marks.{Marks, is_marked}

-- the part is one that no release may reach, or its type is marked
abbrev pub part_marked : Program → Marks → Ty → Bool
part_marked p marks ty = if is_owning ty then is_undroppable_part p ty || is_marked marks (part_type ty) else false

abbrev pub decl_marked : Program → Marks → TypeDecl → Bool
decl_marked p marks (an_abstract name set) = false
decl_marked p marks (a_struct d) = list_any (λ f. part_marked p marks f.ty) d.fields
decl_marked p marks (a_variant d) = list_any (λ c. list_any (part_marked p marks) c.payload) d.cases

-- one more round
abbrev pub marked_more : Program → Marks → Marks
marked_more p marks = map (decl_marked p marks) p.types

abbrev pub marks_after : Program → (rounds : ℕ) → Marks
marks_after p zero = []
marks_after p (suc k) = marked_more p (marks_after p k)
