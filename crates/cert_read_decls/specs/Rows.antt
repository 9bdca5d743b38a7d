-- Rows of declarations: what a value is read as, and the rows of the code.
use Rattle.std.specs.Prelude.{◌≡◌, ℕ, ◌==◌, nat_lt, ◌&&◌, not, Bool, true, false, if◌then◌else◌, List, map, codes, Option, Some, None, option_map, option_and_then}
use Rattle.std.specs.List.{list_all}
use Rattle.std.specs.Str.{bytes_eq}
use Rattle.serde_json.specs.Data.{Data}
use Rattle.vlt_base.specs.States.{has_state}
use Rattle.vlt_core.specs.Core as core
use Rattle.vlt_core.specs.Core.{Name, States, Ty, FieldDecl, CaseKey, Entry, KeyDecl, VarDecl}
use Rattle.vlt_core.specs.View.{ty_of, link_of, set_of, field_of, case_of, case_key_of, entry_of, key_of, var_of, header_of}
use Rattle.vlt_core.specs.declared.program.CaseDecl.{CaseDecl}
use Rattle.vlt_core.specs.declared.program.Link.{Link}
use Rattle.cert_rows.specs.Parts.{Part, Fields, array_in, number_to, text, with_test, triple, fields_for, several, few, three_of, seven_in}
use Rattle.cert_rows.specs.Values.{Shape, id, key_fields, var_fields, by_tag, entry, key_decl, var_decl}
use Rattle.cert_rows.specs.Rows as r
use Rattle.cert_rows.specs.Rows.{Row, FnRow, c_name, names, link, set_fields, version_fields, abstract_fields, struct_fields, variant_fields, case_fields, fn_fields, extern_fields, row_part}
use Rattle.cert_read_decls.specs.declared.type_rows.AbstractRow.{AbstractRow}
use Rattle.cert_read_decls.specs.declared.type_rows.StructRow.{StructRow}
use Rattle.cert_read_decls.specs.declared.type_rows.VariantRow.{VariantRow}
use Rattle.cert_read_decls.specs.declared.fn_rows.FnRow.{FnRow as FnCode}
use Rattle.cert_read_decls.specs.declared.fn_rows.FnLists.{FnLists}
use Rattle.cert_read_decls.specs.declared.rows.DeclRow.{DeclRow}
use Rattle.cert_read_decls.specs.declared.rows.DeclRow.TheVariants as decl

-- the types that come last in the order of their tags
abbrev pub last_ty_of_tag : List ℕ → List Data → Option Ty
last_ty_of_tag t ds =
    if bytes_eq t (codes "guard") then
    option_map (λ x. core.guarded x.0 x.1 x.2) (key_fields.of_items ds)
    else if bytes_eq t (codes "var") then
    option_map (λ x. core.variant x.0 x.1) (var_fields.of_items ds)
    else if bytes_eq t (codes "ownvar") then
    option_map (λ x. core.owning_variant x.0 x.1) (var_fields.of_items ds)
    else None

-- names of the code are the plain ones
abbrev pub names_of : List Name → List Name
names_of = map (λ n. n)

-- links are of states below this number
abbrev pub are_own : (count : ℕ) → List Link → Bool
are_own count ls = list_all (λ l. nat_lt l.lower count && nat_lt l.upper count) (map link_of ls)

-- a variant has a case
abbrev pub count_of_cases : Part ℕ
count_of_cases = with_test (λ n. not (n == 0)) (number_to 32)

-- a set with its links, whatever states those are of
abbrev pub set_parts : Fields core.SetDecl
set_parts = fields_for
    (λ x. record { name = x.0; states = x.1; links = x.2 })
    (λ d. (d.name, d.states, d.links))
    (triple text names (few 31 link))

-- ---- the fields of rows of the code

abbrev pub abstract_fields_of : AbstractRow → Name × Option ℕ
abstract_fields_of x = (x.name, option_map (λ i. i.0) x.set)

abbrev pub struct_fields_of :
    StructRow → Name × List (Option ℕ) × Option ℕ × States × List FieldDecl
struct_fields_of x = (
  x.name,
  header_of x.header,
  option_map (λ i. i.0) x.set,
  has_state x.release,
  map field_of x.fields,
)

abbrev pub variant_fields_of : VariantRow → Name × List (Option ℕ) × ℕ
variant_fields_of x = (x.name, header_of x.header, x.cases)

abbrev pub case_fields_of : CaseDecl → Name × List Ty × List CaseKey
case_fields_of x = (x.name, map ty_of x.payload, map case_key_of x.keys)

abbrev pub lists_of : FnLists → List Entry × List KeyDecl × List VarDecl
lists_of x = (map entry_of x.clause, map key_of x.keys, map var_of x.vars)

abbrev pub fn_of : FnCode → FnRow
fn_of x = (
  x.name,
  option_map ty_of x.result,
  x.params,
  map entry_of x.lists.clause,
  map key_of x.lists.keys,
  map var_of x.lists.vars,
  x.count,
)

abbrev pub struct_of : StructRow → core.StructDecl
struct_of x = record {
  name = x.name;
  header = header_of x.header;
  set = option_map (λ i. i.0) x.set;
  release = has_state x.release;
  fields = map field_of x.fields;
}

-- a function has any name and any number of statements; an external has a name of C, and none
abbrev pub name_part : (external : Bool) → Part Name
name_part false = text
name_part true = c_name

abbrev pub count_part : (external : Bool) → Part ℕ
count_part false = id
count_part true = number_to 0

-- A function's row in the order in which it is read: what holds nothing first, and the result last.
module _ (ordered external : Bool) where
  abbrev pub fn_parts_in :
      Option (Data × Data × Data × Data × Data × Data × Data) → Option FnRow
  fn_parts_in None = None
  fn_parts_in (Some q) =
      option_and_then (λ z. option_and_then (λ n. option_and_then (λ x. option_and_then
      (λ t. option_map (λ y. (x, y, z, t.0, t.1, t.2, n)) (r.result.of_data q.1))
      (three_of (several (entry ordered)) (few 256 key_decl) (few 256 var_decl)
      (Some (q.3, q.4, q.5)))) ((name_part external).of_data q.0))
      ((count_part external).of_data q.6)) ((number_to 16).of_data q.2)

  abbrev pub fn_in : List Data → Option FnRow
  fn_in ds = fn_parts_in (seven_in ds)

abbrev pub row_of : DeclRow → Row
row_of (decl.Version o) = r.version o
row_of (decl.States d) = r.states (set_of d)
row_of (decl.Abstract x) = r.abstract_type x.name (option_map (λ i. i.0) x.set)
row_of (decl.Struct x) = r.struct_type (struct_of x)
row_of (decl.Variant x) = r.variant_type x.name (header_of x.header) x.cases
row_of (decl.Case c) = r.case_of (case_of c)
row_of (decl.Fn f) = r.function (fn_of f)
row_of (decl.Extern f) = r.external (fn_of f)

-- ---- what is read of a row, by its tag

abbrev pub type_row_of_tag : List ℕ → List Data → Option Row
type_row_of_tag t ds =
    if bytes_eq t (codes "abstract") then
    option_map (λ x. r.abstract_type x.0 x.1) (abstract_fields.of_items ds)
    else if bytes_eq t (codes "struct") then
    option_map (λ x. r.struct_type (record {
      name = x.0;
      header = x.1;
      set = x.2;
      release = x.3;
      fields = x.4;
    })) (struct_fields.of_items ds)
    else if bytes_eq t (codes "variant") then
    option_map (λ x. r.variant_type x.0 x.1 x.2) (variant_fields.of_items ds)
    else if bytes_eq t (codes "case") then
    option_map (λ x. r.case_of (record { name = x.0; payload = x.1; keys = x.2 }))
    (case_fields.of_items ds)
    else None

abbrev pub decl_of_tag : (ordered : Bool) → List ℕ → List Data → Option Row
decl_of_tag ordered t ds =
    if bytes_eq t (codes "vault") then option_map r.version (version_fields.of_items ds)
    else if bytes_eq t (codes "states") then
    option_map r.states ((set_fields ordered).of_items ds)
    else if bytes_eq t (codes "fn") then option_map r.function ((fn_fields ordered).of_items ds)
    else if bytes_eq t (codes "extern") then
    option_map r.external ((extern_fields ordered).of_items ds)
    else type_row_of_tag t ds

-- the row of a declaration, or of the version, that a value is read as
abbrev pub decl_of_data : (ordered : Bool) → Data → Option Row
decl_of_data ordered d = option_and_then (by_tag (decl_of_tag ordered)) (array_in d)

abbrev pub is_decl : Row → Bool
is_decl (r.version o) = true
is_decl (r.states d) = true
is_decl (r.abstract_type name set) = true
is_decl (r.struct_type d) = true
is_decl (r.variant_type name h cases) = true
is_decl (r.case_of c) = true
is_decl (r.function f) = true
is_decl (r.external f) = true
is_decl _ = false

-- a row of a declaration or of the version, and nothing in place of another row
abbrev pub decl_in : Option Row → Option Row
decl_in None = None
decl_in (Some x) = if is_decl x then Some x else None

-- A value is read as a declaration's row where it is read as a row and that is a declaration's.
abbrev pub DeclarationsAreRows : Type 0
DeclarationsAreRows =
    (w : Shape) (d : Data) → decl_of_data w.ordered d ≡ decl_in ((row_part w).of_data d)
