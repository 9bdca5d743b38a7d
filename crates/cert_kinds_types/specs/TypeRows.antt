-- A declared type's own row, and the rows of its cases after it.
use Rattle.std.specs.Prelude.{ℕ, not, List, [], ◌∷◌, ◌++◌, map, Option, None}
use Rattle.std.specs.List.{flat_map}
use Rattle.vlt_core.specs.Core.{States, Ty, FieldDecl, TypeDecl, an_abstract, a_struct, a_variant, Header, Program}
use Rattle.vlt_core.specs.Types.{decl_of, is_variant}
use Rattle.vlt_core.specs.KindedHeads.{Rules, unless, when_some, has_set, states_broken, header_broken, field_broken, part_broken, is_payload_type, case_broken}
use Rattle.vlt_core.specs.declared.rules.TheConstants as rule

-- states of a type's objects, where the type is declared
abbrev pub declared_states_broken : Program → (type : ℕ) → States → Rules
declared_states_broken p t states = when_some (decl_of p t) (λ d. states_broken p t states)

-- a declared type that one of a header's keys has
abbrev pub decl_broken : Option TypeDecl → Rules
decl_broken None = rule.NOT_A_TYPE ∷ []
decl_broken d = unless (not (is_variant d)) rule.HEADER_TYPE

-- the type of one of a header's keys
abbrev pub header_type_broken : Program → Option ℕ → Rules
header_type_broken p h = when_some h (λ t. decl_broken (decl_of p t))

-- the type of a payload
abbrev pub payload_broken : Program → Header → Ty → Rules
payload_broken p header ty = part_broken p header ty ++ unless (is_payload_type ty) rule.PAYLOAD_TYPE

-- a struct's row
abbrev pub struct_broken : Program → (type : ℕ) → Header → (release : States) → List FieldDecl → Rules
struct_broken p t header release fields =
    unless (has_set p (decl_of p t)) rule.UNKNOWN_NAME ++
    header_broken p header ++
    states_broken p t release ++
    flat_map (field_broken p t header) fields

-- the own row of a declared type
abbrev pub own_row : Program → (type : ℕ) → TypeDecl → Rules
own_row p t (an_abstract name set) = unless (has_set p (decl_of p t)) rule.UNKNOWN_NAME
own_row p t (a_struct d) = struct_broken p t d.header d.release d.fields
own_row p t (a_variant d) = header_broken p d.header

-- the rows of its cases
abbrev pub case_rows : Program → TypeDecl → List Rules
case_rows p (a_variant d) = map (case_broken p d.header) d.cases
case_rows p d = []
