-- What is written for a row that fits and whose names are UTF-8 is readable.
use Rattle.std.proofs.Common.{Bool, true, false, IsUtf8, refl}
use Rattle.std.specs.Prelude.{⊤, codes}
use Rattle.vlt_core.specs.Core as core
use Rattle.vlt_core.specs.Core.{SetDecl}
use Rattle.cert_rows.specs.Parts.{text, All}
use Rattle.cert_rows.specs.Values.{Shape, maps_part, id, tagged_list, ty, field, case_key, key_decl, var_decl, entry}
use Rattle.cert_rows.specs.Expressions.{operand}
use Rattle.cert_rows.specs.Rows.{arm, FnRow, Row, version, states, abstract_type, struct_type, variant_type, case_of, function, external, simple, call, choose, loop, switch, focus, scope, return, jump, link, plain_set_fields, linked_set_fields, set_fields, version_fields, abstract_fields, struct_fields, variant_fields, case_fields, fn_fields, extern_fields, set_stmt, input_stmt, print_stmt, put_stmt, new_stmt, become_stmt, release_stmt, drop_stmt, own_stmt, unpack_stmt, build_stmt, call_stmt, swap_stmt, open_stmt, adopt_stmt, if_stmt, while_stmt, switch_stmt, focus_stmt, scope_stmt, return_stmt, jump_stmt, row_data, FitsRow}
use Rattle.cert_values.specs.Declarations.Names.{HasTextSet}
use Rattle.cert_write.proofs.OfJsonLaws.Readable.{IsReadable}
use Rattle.cert_write.proofs.OfJsonLaws.Parts.{row_readable, each_named, several_readable, minus_readable, zero_readable, id_readable, byte_readable, flag_readable, mask_readable, ids_readable, maps_readable, ty_readable, result_readable, HasTextField, HasTextKey, HasTextVar, field_readable, key_readable, var_readable, case_key_readable, header_readable, entry_readable, link_readable, version_readable, params_readable, cases_readable, no_statements_readable, expr_readable, operand_readable, operands_readable, head_readable, arm_readable}

-- the names of a row are UTF-8
abbrev pub HasTextHead : FnRow → Type 0
HasTextHead f = IsUtf8 f.0 × All HasTextKey f.4 × All HasTextVar f.5

abbrev pub HasTextRow : Row → Type 0
HasTextRow (states d) = HasTextSet d
HasTextRow (abstract_type name set) = IsUtf8 name
HasTextRow (struct_type d) = IsUtf8 d.name × All HasTextField d.fields
HasTextRow (variant_type name hs cases) = IsUtf8 name
HasTextRow (case_of c) = IsUtf8 c.name
HasTextRow (function f) = HasTextHead f
HasTextRow (external f) = HasTextHead f
HasTextRow _ = ⊤

set_readable : (ordered : Bool) (d : SetDecl) → (set_fields ordered).Fits d → HasTextSet d →
    IsReadable (tagged_list (codes "states") ((set_fields ordered).items d))
set_readable false d h names =
    row_readable (codes "states") (plain_set_fields.items d) refl
    (names.0, (each_named text IsUtf8 (λ s x name. name) d.states h.0.1.0.0 names.1, tt))
set_readable true d h names =
    row_readable (codes "states") (linked_set_fields.items d) refl
    (names.0, (each_named text IsUtf8 (λ s x name. name) d.states h.0.0.1.0.0 names.1, (several_readable link link_readable d.links h.0.0.2.0, tt)))

pub row_is_readable : (w : Shape) (r : Row) → FitsRow w r → HasTextRow r → IsReadable (row_data w r)
row_is_readable w (version o) h names = row_readable (codes "vault") (version_fields.items o) refl (version_readable o h, tt)
row_is_readable w (states d) h names = set_readable w.ordered d h names
row_is_readable w (abstract_type name set) h names =
    row_readable (codes "abstract") (abstract_fields.items (name, set)) refl (names, (minus_readable id id_readable set h.1, tt))
row_is_readable w (struct_type d) h names =
    row_readable (codes "struct") (struct_fields.items (d.name, d.header, d.set, d.release, d.fields)) refl (
      names.0,
      (
        header_readable d.header h.1,
        (
          minus_readable id id_readable d.set h.2,
          (mask_readable d.release h.3, (each_named field HasTextField field_readable d.fields h.4.0 names.1, tt)),
        ),
      ),
    )
row_is_readable w (variant_type name hs cases) h names =
    row_readable (codes "variant") (variant_fields.items (name, hs, cases)) refl
    (names, (header_readable hs h.1, (cases_readable cases h.2.0, tt)))
row_is_readable w (case_of c) h names =
    row_readable (codes "case") (case_fields.items (c.name, c.payload, c.keys)) refl
    (names, (several_readable ty ty_readable c.payload h.1.0, (several_readable case_key case_key_readable c.keys h.2, tt)))
row_is_readable w (function f) h names = row_readable (codes "fn") ((fn_fields w.ordered).items f) refl (
  names.0,
  (
    result_readable f.1 h.1,
    (
      params_readable f.2 h.2,
      (
        several_readable (entry w.ordered) (entry_readable w.ordered) f.3 h.3,
        (
          each_named key_decl HasTextKey key_readable f.4 h.4.0 names.1,
          (each_named var_decl HasTextVar var_readable f.5 h.5.0 names.2, (id_readable f.6 h.6, tt)),
        ),
      ),
    ),
  ),
)
row_is_readable w (external f) h names = row_readable (codes "extern") ((extern_fields w.ordered).items f) refl (
  names.0,
  (
    result_readable f.1 h.1,
    (
      params_readable f.2 h.2,
      (
        several_readable (entry w.ordered) (entry_readable w.ordered) f.3 h.3,
        (
          each_named key_decl HasTextKey key_readable f.4 h.4.0 names.1,
          (each_named var_decl HasTextVar var_readable f.5 h.5.0 names.2, (no_statements_readable f.6 h.6, tt)),
        ),
      ),
    ),
  ),
)
row_is_readable w (simple (core.set v e)) h names =
    row_readable (codes "set") (set_stmt.items (v, e)) refl (id_readable v h.0, (expr_readable e h.1, tt))
row_is_readable w (simple (core.input v more)) h names =
    row_readable (codes "input") (input_stmt.items (v, more)) refl (id_readable v h.0, (flag_readable more h.1, tt))
row_is_readable w (simple (core.print e)) h names = row_readable (codes "print") (print_stmt.items e) refl (expr_readable e h, tt)
row_is_readable w (simple (core.put x i e)) h names =
    row_readable (codes "put") (put_stmt.items (x, i, e)) refl (id_readable x h.0, (id_readable i h.1, (expr_readable e h.2, tt)))
row_is_readable w (simple (core.make x os)) h names =
    row_readable (codes "new") (new_stmt.items (x, os)) refl (id_readable x h.0, (operands_readable os h.1, tt))
row_is_readable w (simple (core.become x s)) h names =
    row_readable (codes "become") (become_stmt.items (x, s)) refl (id_readable x h.0, (byte_readable s h.1, tt))
row_is_readable w (simple (core.release x)) h names = row_readable (codes "release") (release_stmt.items x) refl (id_readable x h, tt)
row_is_readable w (simple (core.drop v)) h names = row_readable (codes "drop") (drop_stmt.items v) refl (id_readable v h, tt)
row_is_readable w (simple (core.own v o)) h names =
    row_readable (codes "own") (own_stmt.items (v, o)) refl (id_readable v h.0, (operand_readable o h.1, tt))
row_is_readable w (simple (core.unpack x v)) h names =
    row_readable (codes "unpack") (unpack_stmt.items (x, v)) refl (id_readable x h.0, (id_readable v h.1, tt))
row_is_readable w (simple (core.build v c os)) h names =
    row_readable (codes "build") (build_stmt.items (v, c, os)) refl (id_readable v h.0, (byte_readable c h.1, (operands_readable os h.2, tt)))
row_is_readable w (call g target keys os) h names =
    row_readable (codes "call") (call_stmt.items (g, target, keys, os)) refl
    (id_readable g h.0, (minus_readable id id_readable target h.1, (ids_readable keys h.2, (operands_readable os h.3, tt))))
row_is_readable w (simple (core.swap x i v)) h names =
    row_readable (codes "swap") (swap_stmt.items (x, i, v)) refl (id_readable x h.0, (id_readable i h.1, (id_readable v h.2, tt)))
row_is_readable w (simple (core.open_into x vs)) h names =
    row_readable (codes "open") (open_stmt.items (x, vs)) refl (id_readable x h.0, (ids_readable vs h.1, tt))
row_is_readable w (simple (core.adopt y x r)) h names =
    row_readable (codes "adopt") (adopt_stmt.items (y, x, r)) refl (id_readable y h.0, (id_readable x h.1, (id_readable r h.2, tt)))
row_is_readable w (choose e a b m) h names =
    row_readable (codes "if") ((if_stmt w.instances).items (e, a, b, m)) refl
    (expr_readable e h.0, (head_readable a h.1, (head_readable b h.2, (zero_readable (maps_part w.instances) (maps_readable w.instances) m h.3, tt))))
row_is_readable w (loop e a m k) h names =
    row_readable (codes "while") ((while_stmt w.instances).items (e, a, m, k)) refl
    (expr_readable e h.0, (head_readable a h.1, (maps_readable w.instances m h.2, (maps_readable w.instances k h.3, tt))))
row_is_readable w (switch v arms m) h names =
    row_readable (codes "switch") ((switch_stmt w.instances).items (v, arms, m)) refl
    (id_readable v h.0, (several_readable arm arm_readable arms h.1, (zero_readable (maps_part w.instances) (maps_readable w.instances) m h.2, tt)))
row_is_readable w (focus y z a) h names =
    row_readable (codes "focus") (focus_stmt.items (y, z, a)) refl (id_readable y h.0, (id_readable z h.1, (head_readable a h.2, tt)))
row_is_readable w (scope a) h names = row_readable (codes "scope") (scope_stmt.items a) refl (head_readable a h, tt)
row_is_readable w (return o) h names = row_readable (codes "return") (return_stmt.items o) refl (zero_readable operand operand_readable o h, tt)
row_is_readable w (jump c) h names = row_readable (codes "jump") (jump_stmt.items c) refl (flag_readable c h, tt)
