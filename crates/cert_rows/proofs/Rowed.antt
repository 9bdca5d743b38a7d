-- Rows: what is written is read, and what is read was written so.
use Rattle.std.proofs.Common.{◌≡◌, ◌≤◌, refl, sym, ap, ◌∙◌, ℕ, zero, suc, ◌==◌, not, Bool, true, false, true≢false, if◌then◌else◌, List, Option, Some, None, option_map, IfSome, arith}
use Rattle.std.specs.Prelude.{codes}
use Rattle.serde_json.specs.Data.{Data}
use Rattle.vlt_core.specs.Core as core
use Rattle.vlt_core.specs.Core.{Name, Ty}
use Rattle.cert_rows.specs.Parts.{Part, number_to, text, several, few, minus_or, zero_or}
use Rattle.cert_rows.specs.Values.{Shape, id, byte, flag, mask, token, maps_part, ids, tagged_list, ty_data, ty_of_tag, FitsTy, ty, field, case_key, key_decl, var_decl, header, entry}
use Rattle.cert_rows.specs.Expressions.{expr, operand}
use Rattle.cert_rows.specs.Rows.{head, arm, Row, version, states, abstract_type, struct_type, variant_type, case_of, function, external, simple, call, choose, loop, switch, focus, scope, return, jump, is_c_name, c_name, is_filled, result_data, result_of_tag, FitsResult, result, function_fields, version_part, link, names, has_own_links, version_fields, set_fields, abstract_fields, struct_fields, variant_fields, case_fields, fn_fields, extern_fields, set_stmt, input_stmt, print_stmt, put_stmt, new_stmt, become_stmt, release_stmt, drop_stmt, own_stmt, unpack_stmt, build_stmt, call_stmt, swap_stmt, open_stmt, adopt_stmt, if_stmt, while_stmt, switch_stmt, focus_stmt, scope_stmt, return_stmt, jump_stmt, row_data, row_of_tag, FitsRow, row_part}
use Rattle.cert_rows.specs.Laws.{IsPart, AreFields}
use Rattle.cert_rows.proofs.Codec.{map_on, list_in_back, number_to_part, text_part, several_part, with_test_part, standing_part, fields_for_law, fields_with_test_law, single_fields, pair_fields, triple_fields, quadruple_fields, quintuple_fields, septuple_fields, tuple_part, minus_part, zero_part}
use Rattle.cert_rows.proofs.Valued.{id_part, mask_part, token_part, maps_law, ids_part, tag_step, after_tag, tagged_array, no_more, ty_read, ty_part, field_part, case_key_part, key_decl_part, var_decl_part, few_part, header_part, flag_part, entry_part}
use Rattle.cert_rows.proofs.Expressed.{expr_part, operand_part}

byte_part : IsPart byte
byte_part = number_to_part 255

operands_part : IsPart (several operand)
operands_part = several_part operand operand_part

head_part : IsPart head
head_part = tuple_part _ (pair_fields id (several token) id_part (several_part token token_part))

arm_part : IsPart arm
arm_part = tuple_part _ (quadruple_fields byte ids id (several token) byte_part ids_part id_part (several_part token token_part))

-- ---- results

abbrev IsResult : Data → Option Ty → Type 0
IsResult d t = (d ≡ result_data t) × FitsResult t

result_back : (t : Option Ty) → FitsResult t → result.of_data (result_data t) ≡ Some t
result_back None h = refl
result_back (Some core.int) h = refl
result_back (Some core.bool) h = refl
result_back (Some (core.tracked k t args)) h = ap (option_map Some) (ty_part.back (core.tracked k t args) h)
result_back (Some (core.owning s t args)) h = ap (option_map Some) (ty_part.back (core.owning s t args) h)
result_back (Some (core.guarded k t args)) h = ap (option_map Some) (ty_part.back (core.guarded k t args) h)
result_back (Some (core.variant t args)) h = ap (option_map Some) (ty_part.back (core.variant t args) h)
result_back (Some (core.owning_variant t args)) h = ap (option_map Some) (ty_part.back (core.owning_variant t args) h)

result_read : (d : Data) (t : List ℕ) (ds : List Data) → d ≡ tagged_list t ds → IfSome (result_of_tag t ds) (IsResult d)
result_read d t ds is =
    tag_step (IsResult d) t (codes "void") _ _ (λ e. no_more (IsResult d) None ds (λ k. (is ∙ rw (e, k) refl, tt)))
    (map_on (λ x. (d ≡ ty_data x) × FitsTy x) (IsResult d) Some (ty_of_tag t ds) (ty_read d t ds is) (λ x h. h))

result_part : IsPart result
result_part = record { back = result_back; reads = λ d. tagged_array (IsResult d) result_of_tag d (result_read d) }

function_law : (ordered : Bool) (name : Part Name) (count : Part ℕ) → IsPart name → IsPart count → AreFields (function_fields ordered name count)
function_law ordered name count ln lc =
    septuple_fields name result (number_to 16) (several (entry ordered)) (few 256 key_decl) (few 256 var_decl) count
    ln result_part (number_to_part 16) (several_part (entry ordered) (entry_part ordered)) (few_part 256 key_decl key_decl_part)
    (few_part 256 var_decl var_decl_part) lc

version_back : (n : ℕ) → n ≤ 2 → not (n == 0) ≡ true → (if n == 2 then 2 else 1) ≡ n
version_back zero h is = absurd (true≢false (sym is))
version_back (suc zero) h is = refl
version_back (suc (suc zero)) h is = refl
version_back (suc (suc (suc n))) h is = absurd (omega (arith, h))

version_law : IsPart version_part
version_law = standing_part _ _ _ (with_test_part _ (number_to_part 2) (λ n. not (n == 0))) (λ n h. version_back n h.0 h.1)

link_part : IsPart link
link_part = standing_part _ _ _ (tuple_part _ (pair_fields byte byte byte_part byte_part)) (λ x h. refl)

names_part : IsPart names
names_part = with_test_part _ (few_part 32 text text_part) is_filled

set_fields_law : (ordered : Bool) → AreFields (set_fields ordered)
set_fields_law false = fields_for_law _ _ _ (pair_fields text names text_part names_part) (λ x h. refl)
set_fields_law true =
    fields_with_test_law has_own_links _ (fields_for_law _ _ _
    (triple_fields text names (few 31 link) text_part names_part (few_part 31 link link_part)) (λ x h. refl))

version_fields_law : AreFields version_fields
version_fields_law = single_fields version_part version_law

abstract_fields_law : AreFields abstract_fields
abstract_fields_law = pair_fields text (minus_or id) text_part (minus_part id id_part)

struct_fields_law : AreFields struct_fields
struct_fields_law = quintuple_fields text header (minus_or id) mask (few 32 field) text_part header_part
    (minus_part id id_part) mask_part (few_part 32 field field_part)

variant_fields_law : AreFields variant_fields
variant_fields_law = triple_fields text header _ text_part header_part (with_test_part _ (number_to_part 32) (λ n. not (n == 0)))

case_fields_law : AreFields case_fields
case_fields_law = triple_fields text (few 8 ty) (several case_key) text_part (few_part 8 ty ty_part) (several_part case_key case_key_part)

fn_fields_law : (ordered : Bool) → AreFields (fn_fields ordered)
fn_fields_law ordered = function_law ordered text id text_part id_part

extern_fields_law : (ordered : Bool) → AreFields (extern_fields ordered)
extern_fields_law ordered = function_law ordered c_name (number_to 0) (with_test_part text text_part is_c_name) (number_to_part 0)

set_stmt_law : AreFields set_stmt
set_stmt_law = pair_fields id expr id_part expr_part

input_stmt_law : AreFields input_stmt
input_stmt_law = pair_fields id flag id_part flag_part

print_stmt_law : AreFields print_stmt
print_stmt_law = single_fields expr expr_part

put_stmt_law : AreFields put_stmt
put_stmt_law = triple_fields id id expr id_part id_part expr_part

new_stmt_law : AreFields new_stmt
new_stmt_law = pair_fields id (several operand) id_part operands_part

become_stmt_law : AreFields become_stmt
become_stmt_law = pair_fields id byte id_part byte_part

release_stmt_law : AreFields release_stmt
release_stmt_law = single_fields id id_part

drop_stmt_law : AreFields drop_stmt
drop_stmt_law = single_fields id id_part

own_stmt_law : AreFields own_stmt
own_stmt_law = pair_fields id operand id_part operand_part

unpack_stmt_law : AreFields unpack_stmt
unpack_stmt_law = pair_fields id id id_part id_part

build_stmt_law : AreFields build_stmt
build_stmt_law = triple_fields id byte (several operand) id_part byte_part operands_part

call_stmt_law : AreFields call_stmt
call_stmt_law = quadruple_fields id (minus_or id) ids (several operand) id_part (minus_part id id_part) ids_part operands_part

swap_stmt_law : AreFields swap_stmt
swap_stmt_law = triple_fields id id id id_part id_part id_part

open_stmt_law : AreFields open_stmt
open_stmt_law = pair_fields id ids id_part ids_part

adopt_stmt_law : AreFields adopt_stmt
adopt_stmt_law = triple_fields id id id id_part id_part id_part

if_stmt_law : (n : Option ℕ) → AreFields (if_stmt n)
if_stmt_law n = quadruple_fields expr head head (zero_or (maps_part n)) expr_part head_part head_part (zero_part (maps_part n) (maps_law n))

while_stmt_law : (n : Option ℕ) → AreFields (while_stmt n)
while_stmt_law n = quadruple_fields expr head (maps_part n) (maps_part n) expr_part head_part (maps_law n) (maps_law n)

switch_stmt_law : (n : Option ℕ) → AreFields (switch_stmt n)
switch_stmt_law n = triple_fields id (several arm) (zero_or (maps_part n)) id_part (several_part arm arm_part) (zero_part (maps_part n) (maps_law n))

focus_stmt_law : AreFields focus_stmt
focus_stmt_law = triple_fields id id head id_part id_part head_part

scope_stmt_law : AreFields scope_stmt
scope_stmt_law = single_fields head head_part

return_stmt_law : AreFields return_stmt
return_stmt_law = single_fields (zero_or operand) (zero_part operand operand_part)

jump_stmt_law : AreFields jump_stmt
jump_stmt_law = single_fields flag flag_part

-- ---- rows

row_back : (w : Shape) (r : Row) → FitsRow w r → (row_part w).of_data (row_data w r) ≡ Some r
row_back w (version o) h = ap (option_map version) (version_fields_law.back o h)
row_back w (states d) h = ap (λ ds. option_map states ((set_fields w.ordered).of_items ds))
    (list_in_back ((set_fields w.ordered).items d)) ∙ ap (option_map states) ((set_fields_law w.ordered).back d h)
row_back w (abstract_type name set) h = ap (option_map (λ x. abstract_type x.0 x.1)) (abstract_fields_law.back (name, set) h)
row_back w (struct_type d) h = ap (option_map (λ x. struct_type
    (record { name = x.0; header = x.1; set = x.2; release = x.3; fields = x.4 })))
    (struct_fields_law.back (d.name, d.header, d.set, d.release, d.fields) h)
row_back w (variant_type name hs cases) h = ap (option_map (λ x. variant_type x.0 x.1 x.2)) (variant_fields_law.back (name, hs, cases) h)
row_back w (case_of c) h = ap (option_map (λ x. case_of (record { name = x.0; payload = x.1; keys = x.2 })))
    (case_fields_law.back (c.name, c.payload, c.keys) h)
row_back w (function f) h = ap (option_map function) ((fn_fields_law w.ordered).back f h)
row_back w (external f) h = ap (option_map external) ((extern_fields_law w.ordered).back f h)
row_back w (simple (core.set v e)) h = ap (option_map (λ x. simple (core.set x.0 x.1))) (set_stmt_law.back (v, e) h)
row_back w (simple (core.input v more)) h = ap (option_map (λ x. simple (core.input x.0 x.1))) (input_stmt_law.back (v, more) h)
row_back w (simple (core.print e)) h = ap (option_map (λ e. simple (core.print e))) (print_stmt_law.back e h)
row_back w (simple (core.put x i e)) h = ap (option_map (λ x. simple (core.put x.0 x.1 x.2))) (put_stmt_law.back (x, i, e) h)
row_back w (simple (core.make x os)) h = ap (option_map (λ x. simple (core.make x.0 x.1))) (new_stmt_law.back (x, os) h)
row_back w (simple (core.become x s)) h = ap (option_map (λ x. simple (core.become x.0 x.1))) (become_stmt_law.back (x, s) h)
row_back w (simple (core.release x)) h = ap (option_map (λ x. simple (core.release x))) (release_stmt_law.back x h)
row_back w (simple (core.drop v)) h = ap (option_map (λ v. simple (core.drop v))) (drop_stmt_law.back v h)
row_back w (simple (core.own v o)) h = ap (option_map (λ x. simple (core.own x.0 x.1))) (own_stmt_law.back (v, o) h)
row_back w (simple (core.unpack x v)) h = ap (option_map (λ x. simple (core.unpack x.0 x.1))) (unpack_stmt_law.back (x, v) h)
row_back w (simple (core.build v c os)) h = ap (option_map (λ x. simple (core.build x.0 x.1 x.2))) (build_stmt_law.back (v, c, os) h)
row_back w (call g target keys os) h = ap (option_map (λ x. call x.0 x.1 x.2 x.3)) (call_stmt_law.back (g, target, keys, os) h)
row_back w (simple (core.swap x i v)) h = ap (option_map (λ x. simple (core.swap x.0 x.1 x.2))) (swap_stmt_law.back (x, i, v) h)
row_back w (simple (core.open_into x vs)) h = ap (option_map (λ x. simple (core.open_into x.0 x.1))) (open_stmt_law.back (x, vs) h)
row_back w (simple (core.adopt y x r)) h = ap (option_map (λ x. simple (core.adopt x.0 x.1 x.2))) (adopt_stmt_law.back (y, x, r) h)
row_back w (choose e a b m) h = ap (option_map (λ x. choose x.0 x.1 x.2 x.3)) ((if_stmt_law w.instances).back (e, a, b, m) h)
row_back w (loop e a m k) h = ap (option_map (λ x. loop x.0 x.1 x.2 x.3)) ((while_stmt_law w.instances).back (e, a, m, k) h)
row_back w (switch v arms m) h = ap (option_map (λ x. switch x.0 x.1 x.2)) ((switch_stmt_law w.instances).back (v, arms, m) h)
row_back w (focus y z a) h = ap (option_map (λ x. focus x.0 x.1 x.2)) (focus_stmt_law.back (y, z, a) h)
row_back w (scope a) h = ap (option_map scope) (scope_stmt_law.back a h)
row_back w (return o) h = ap (option_map return) (return_stmt_law.back o h)
row_back w (jump c) h = ap (option_map jump) (jump_stmt_law.back c h)

abbrev IsRow : Shape → Data → Row → Type 0
IsRow w d r = (d ≡ row_data w r) × FitsRow w r

row_read : (w : Shape) (d : Data) (t : List ℕ) (ds : List Data) → d ≡ tagged_list t ds → IfSome (row_of_tag w t ds) (IsRow w d)
row_read w d t ds is =
    tag_step (IsRow w d) t (codes "vault") _ _ (λ e. after_tag (IsRow w d) version_fields version_fields_law version ds
    (λ x k h. (is ∙ rw (e, k) refl, h)))
    (tag_step (IsRow w d) t (codes "states") _ _ (λ e. after_tag (IsRow w d) (set_fields w.ordered)
    (set_fields_law w.ordered) states ds (λ x k h. (is ∙ rw (e, k) refl, h)))
    (tag_step (IsRow w d) t (codes "abstract") _ _ (λ e. after_tag (IsRow w d) abstract_fields abstract_fields_law
    (λ x. abstract_type x.0 x.1) ds (λ x k h. (is ∙ rw (e, k) refl, h)))
    (tag_step (IsRow w d) t (codes "struct") _ _ (λ e. after_tag (IsRow w d) struct_fields struct_fields_law
    (λ x. struct_type (record { name = x.0; header = x.1; set = x.2; release = x.3; fields = x.4 })) ds
    (λ x k h. (is ∙ rw (e, k) refl, h)))
    (tag_step (IsRow w d) t (codes "variant") _ _ (λ e. after_tag (IsRow w d) variant_fields variant_fields_law
    (λ x. variant_type x.0 x.1 x.2) ds (λ x k h. (is ∙ rw (e, k) refl, h)))
    (tag_step (IsRow w d) t (codes "case") _ _ (λ e. after_tag (IsRow w d) case_fields case_fields_law
    (λ x. case_of (record { name = x.0; payload = x.1; keys = x.2 })) ds (λ x k h. (is ∙ rw (e, k) refl, h)))
    (tag_step (IsRow w d) t (codes "fn") _ _ (λ e. after_tag (IsRow w d) (fn_fields w.ordered)
    (fn_fields_law w.ordered) function ds (λ x k h. (is ∙ rw (e, k) refl, h)))
    (tag_step (IsRow w d) t (codes "extern") _ _ (λ e. after_tag (IsRow w d) (extern_fields w.ordered)
    (extern_fields_law w.ordered) external ds (λ x k h. (is ∙ rw (e, k) refl, h)))
    (tag_step (IsRow w d) t (codes "set") _ _ (λ e. after_tag (IsRow w d) set_stmt set_stmt_law
    (λ x. simple (core.set x.0 x.1)) ds (λ x k h. (is ∙ rw (e, k) refl, h)))
    (tag_step (IsRow w d) t (codes "input") _ _ (λ e. after_tag (IsRow w d) input_stmt input_stmt_law
    (λ x. simple (core.input x.0 x.1)) ds (λ x k h. (is ∙ rw (e, k) refl, h)))
    (tag_step (IsRow w d) t (codes "print") _ _ (λ e. after_tag (IsRow w d) print_stmt print_stmt_law
    (λ e. simple (core.print e)) ds (λ x k h. (is ∙ rw (e, k) refl, h)))
    (tag_step (IsRow w d) t (codes "put") _ _ (λ e. after_tag (IsRow w d) put_stmt put_stmt_law
    (λ x. simple (core.put x.0 x.1 x.2)) ds (λ x k h. (is ∙ rw (e, k) refl, h)))
    (tag_step (IsRow w d) t (codes "new") _ _ (λ e. after_tag (IsRow w d) new_stmt new_stmt_law
    (λ x. simple (core.make x.0 x.1)) ds (λ x k h. (is ∙ rw (e, k) refl, h)))
    (tag_step (IsRow w d) t (codes "become") _ _ (λ e. after_tag (IsRow w d) become_stmt become_stmt_law
    (λ x. simple (core.become x.0 x.1)) ds (λ x k h. (is ∙ rw (e, k) refl, h)))
    (tag_step (IsRow w d) t (codes "release") _ _ (λ e. after_tag (IsRow w d) release_stmt release_stmt_law
    (λ x. simple (core.release x)) ds (λ x k h. (is ∙ rw (e, k) refl, h)))
    (tag_step (IsRow w d) t (codes "drop") _ _ (λ e. after_tag (IsRow w d) drop_stmt drop_stmt_law (λ v. simple (core.drop v)) ds
    (λ x k h. (is ∙ rw (e, k) refl, h)))
    (tag_step (IsRow w d) t (codes "own") _ _ (λ e. after_tag (IsRow w d) own_stmt own_stmt_law
    (λ x. simple (core.own x.0 x.1)) ds (λ x k h. (is ∙ rw (e, k) refl, h)))
    (tag_step (IsRow w d) t (codes "unpack") _ _ (λ e. after_tag (IsRow w d) unpack_stmt unpack_stmt_law
    (λ x. simple (core.unpack x.0 x.1)) ds (λ x k h. (is ∙ rw (e, k) refl, h)))
    (tag_step (IsRow w d) t (codes "build") _ _ (λ e. after_tag (IsRow w d) build_stmt build_stmt_law
    (λ x. simple (core.build x.0 x.1 x.2)) ds (λ x k h. (is ∙ rw (e, k) refl, h)))
    (tag_step (IsRow w d) t (codes "call") _ _ (λ e. after_tag (IsRow w d) call_stmt call_stmt_law (λ x. call x.0 x.1 x.2 x.3) ds
    (λ x k h. (is ∙ rw (e, k) refl, h)))
    (tag_step (IsRow w d) t (codes "swap") _ _ (λ e. after_tag (IsRow w d) swap_stmt swap_stmt_law
    (λ x. simple (core.swap x.0 x.1 x.2)) ds (λ x k h. (is ∙ rw (e, k) refl, h)))
    (tag_step (IsRow w d) t (codes "open") _ _ (λ e. after_tag (IsRow w d) open_stmt open_stmt_law
    (λ x. simple (core.open_into x.0 x.1)) ds (λ x k h. (is ∙ rw (e, k) refl, h)))
    (tag_step (IsRow w d) t (codes "adopt") _ _ (λ e. after_tag (IsRow w d) adopt_stmt adopt_stmt_law
    (λ x. simple (core.adopt x.0 x.1 x.2)) ds (λ x k h. (is ∙ rw (e, k) refl, h)))
    (tag_step (IsRow w d) t (codes "if") _ _ (λ e. after_tag (IsRow w d) (if_stmt w.instances) (if_stmt_law w.instances)
    (λ x. choose x.0 x.1 x.2 x.3) ds (λ x k h. (is ∙ rw (e, k) refl, h)))
    (tag_step (IsRow w d) t (codes "while") _ _ (λ e. after_tag (IsRow w d) (while_stmt w.instances) (while_stmt_law w.instances)
    (λ x. loop x.0 x.1 x.2 x.3) ds (λ x k h. (is ∙ rw (e, k) refl, h)))
    (tag_step (IsRow w d) t (codes "switch") _ _ (λ e. after_tag (IsRow w d) (switch_stmt w.instances)
    (switch_stmt_law w.instances) (λ x. switch x.0 x.1 x.2) ds (λ x k h. (is ∙ rw (e, k) refl, h)))
    (tag_step (IsRow w d) t (codes "focus") _ _ (λ e. after_tag (IsRow w d) focus_stmt focus_stmt_law (λ x. focus x.0 x.1 x.2) ds
    (λ x k h. (is ∙ rw (e, k) refl, h)))
    (tag_step (IsRow w d) t (codes "scope") _ _ (λ e. after_tag (IsRow w d) scope_stmt scope_stmt_law scope ds (λ x k h. (is ∙ rw (e, k) refl, h)))
    (tag_step (IsRow w d) t (codes "return") _ _ (λ e. after_tag (IsRow w d) return_stmt return_stmt_law return ds
    (λ x k h. (is ∙ rw (e, k) refl, h)))
    (tag_step (IsRow w d) t (codes "jump") _ None (λ e. after_tag (IsRow w d) jump_stmt jump_stmt_law jump ds
    (λ x k h. (is ∙ rw (e, k) refl, h))) tt)))))))))))))))))))))))))))))

pub rows_are_read_as_written : (w : Shape) → IsPart (row_part w)
rows_are_read_as_written w = record { back = row_back w; reads = λ d. tagged_array (IsRow w d) (row_of_tag w) d (row_read w d) }
