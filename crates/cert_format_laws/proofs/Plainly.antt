-- What is written for rows that fit is plain.
use Rattle.std.proofs.Common.{pos, negsuc, ◌≡◌, ◌≤◌, ◌<◌, ◌^◌, refl, sym, ap, subst, ℕ, ◌==◌, nat_lt, not, Bool, true, false, List, [], ◌∷◌, ◌++◌, map, length, Option, Some, None, arith}
use Rattle.std.specs.Prelude.{codes}
use Rattle.std.proofs.lemmas.Fmt.{decimal_nonempty, decimal_digit}
use Rattle.std.specs.Fmt.{signed_decimal}
use Rattle.cert_format.specs.Text.{is_plain_number}
use Rattle.std.proofs.lemmas.Bool.Decides.{nat_tests}
use Rattle.serde_json.specs.Data.{Data}
use Rattle.serde_json.specs.View.{items_of}
use Rattle.vlt_core.specs.Core as core
use Rattle.vlt_core.specs.Core.{Ty, Expr, Operand, SetDecl}
use Rattle.cert_rows.specs.Parts.{Part, Fields, nat, list, number_to, text, All, several, with_test, standing_for, few, single, pair, triple, quadruple, quintuple, septuple, tuple, minus_or, zero_or}
use Rattle.cert_rows.specs.Values.{Shape, id, byte, flag, mask, token, is_status, token_status_of, numbers_of_status, token_status, ascends, map_part, only_one, first_map, maps_part, ids, key_fields, own_fields, var_fields, tagged_list, ty_data, FitsTy, ty, field, case_key, key_decl, var_decl, header, side, last_mode, is_entry, entry}
use Rattle.cert_rows.specs.Expressions.{op, number_fields, operator_data, expr_items, FitsExpr, expr, operand_data, FitsOperand, operand}
use Rattle.cert_rows.specs.Rows.{head, arm, Row, version, states, abstract_type, struct_type, variant_type, case_of, function, external, simple, call, choose, loop, switch, focus, scope, return, jump, is_c_name, c_name, is_filled, result_data, FitsResult, result, function_fields, version_part, link, names, version_fields, set_fields, abstract_fields, struct_fields, variant_fields, case_fields, fn_fields, extern_fields, set_stmt, input_stmt, print_stmt, put_stmt, new_stmt, become_stmt, release_stmt, drop_stmt, own_stmt, unpack_stmt, build_stmt, call_stmt, swap_stmt, open_stmt, adopt_stmt, if_stmt, while_stmt, switch_stmt, focus_stmt, scope_stmt, return_stmt, jump_stmt, row_data, FitsRow}
use Rattle.cert_format_laws.proofs.Plain.{HasPlain, HavePlain}
use Rattle.cert_format_laws.proofs.Digits.{plain_decimal}

record PlainPart {A : Type 0} (p : Part A) : Type 0 where
  each : (a : A) → p.Fits a → HasPlain (p.data_of a)

record PlainFields {A : Type 0} (f : Fields A) : Type 0 where
  each : (a : A) → f.Fits a → All HasPlain (f.items a)

pub items_plain : (ds : List Data) → All HasPlain ds → HavePlain (items_of ds)
items_plain [] h = tt
items_plain (d ∷ ds) h = (h.0, items_plain ds h.1)

list_plain : (ds : List Data) → All HasPlain ds → HasPlain (list ds)
list_plain ds h = items_plain ds h

small : (n top : ℕ) → n ≤ top → nat_lt top 10000000000000000000 ≡ true → n < 10 ^ 19
small n top h s = omega (arith, h, below top s)
  where
    below : (top : ℕ) → nat_lt top 10000000000000000000 ≡ true → top < 10000000000000000000
    below top s = grind (arith, nat_tests)

nat_plain : (n : ℕ) → n < 10 ^ 19 → HasPlain (nat n)
nat_plain n h = (plain_decimal n h, decimal_nonempty n (omega (arith, h)))

upto_plain : (top : ℕ) → nat_lt top 10000000000000000000 ≡ true → PlainPart (number_to top)
upto_plain top s = record { each = λ n h. nat_plain n (small n top h s) }

text_plain : PlainPart text
text_plain = record { each = λ s h. tt }

minus_one : signed_decimal (negsuc 0) ≡ 45 ∷ 49 ∷ []
minus_one = ap (λ z. 45 ∷ z) (decimal_digit 1 (omega arith))

module _ {A : Type 0} (p : Part A) (law : PlainPart p) where
  each_plain : (xs : List A) → All p.Fits xs → All HasPlain (map p.data_of xs)
  each_plain [] h = tt
  each_plain (x ∷ xs) h = (law.each x h.0, each_plain xs h.1)

  several_plain : PlainPart (several p)
  several_plain = record { each = λ xs h. list_plain (map p.data_of xs) (each_plain xs h) }

  tested_plain : (test : A → Bool) → PlainPart (with_test test p)
  tested_plain test = record { each = λ a h. law.each a h.0 }

  minus_plain : PlainPart (minus_or p)
  minus_plain = record { each = by }
    where
      by : (o : Option A) → (minus_or p).Fits o → HasPlain ((minus_or p).data_of o)
      by None h = (ap is_plain_number minus_one, subst (λ z. 0 < length z) (sym minus_one) (omega arith))
      by (Some a) h = law.each a h.0

  zero_plain : PlainPart (zero_or p)
  zero_plain = record { each = by }
    where
      by : (o : Option A) → (zero_or p).Fits o → HasPlain ((zero_or p).data_of o)
      by None h = nat_plain 0 (omega arith)
      by (Some a) h = law.each a h.0

few_plain : {A : Type 0} (most : ℕ) (p : Part A) → PlainPart p → PlainPart (few most p)
few_plain most p law = record { each = λ xs h. (several_plain p law).each xs h.0 }

standing_plain : {A B : Type 0} (to : A → B) (from : B → A) (p : Part A) → PlainPart p → PlainPart (standing_for to from p)
standing_plain to from p law = record { each = λ b h. law.each (from b) h.0 }

module _ {A : Type 0} (a : Part A) (la : PlainPart a) where
  single_plain : PlainFields (single a)
  single_plain = record { each = λ x h. (la.each x h, tt) }

module _ {A B : Type 0} (a : Part A) (b : Part B) (la : PlainPart a) (lb : PlainPart b) where
  pair_plain : PlainFields (pair a b)
  pair_plain = record { each = λ x h. (la.each x.0 h.0, (lb.each x.1 h.1, tt)) }

module _ {A B C : Type 0} (a : Part A) (b : Part B) (c : Part C) (la : PlainPart a) (lb : PlainPart b) (lc : PlainPart c) where
  triple_plain : PlainFields (triple a b c)
  triple_plain = record { each = λ x h. (la.each x.0 h.0, (lb.each x.1 h.1, (lc.each x.2 h.2, tt))) }

module _ {A B C D : Type 0} (a : Part A) (b : Part B) (c : Part C) (d : Part D) (la : PlainPart a) (lb : PlainPart b)
    (lc : PlainPart c) (ld : PlainPart d) where
  quadruple_plain : PlainFields (quadruple a b c d)
  quadruple_plain = record { each = λ x h. (la.each x.0 h.0, (lb.each x.1 h.1, (lc.each x.2 h.2, (ld.each x.3 h.3, tt)))) }

module _ {A B C D E : Type 0} (a : Part A) (b : Part B) (c : Part C) (d : Part D) (e : Part E) (la : PlainPart a)
    (lb : PlainPart b) (lc : PlainPart c) (ld : PlainPart d) (le : PlainPart e) where
  quintuple_plain : PlainFields (quintuple a b c d e)
  quintuple_plain = record { each = λ x h. (la.each x.0 h.0, (lb.each x.1 h.1, (lc.each x.2 h.2, (ld.each x.3 h.3, (le.each x.4 h.4, tt))))) }

module _ {A B C D E F G : Type 0} (a : Part A) (b : Part B) (c : Part C) (d : Part D) (e : Part E) (f : Part F) (g : Part G)
    (la : PlainPart a) (lb : PlainPart b) (lc : PlainPart c) (ld : PlainPart d) (le : PlainPart e) (lf : PlainPart f)
    (lg : PlainPart g) where
  septuple_plain : PlainFields (septuple a b c d e f g)
  septuple_plain = record {
    each = λ x h. (
      la.each x.0 h.0,
      (lb.each x.1 h.1, (lc.each x.2 h.2, (ld.each x.3 h.3, (le.each x.4 h.4, (lf.each x.5 h.5, (lg.each x.6 h.6, tt)))))),
    );
  }

tuple_plain : {A : Type 0} (f : Fields A) → PlainFields f → PlainPart (tuple f)
tuple_plain f law = record { each = λ x h. list_plain (f.items x) (law.each x h) }

row_plain : (tag : List ℕ) (ds : List Data) → All HasPlain ds → HasPlain (tagged_list tag ds)
row_plain tag ds h = (tt, items_plain ds h)

-- ---- values

id_plain : PlainPart id
id_plain = upto_plain 4294967295 refl

byte_plain : PlainPart byte
byte_plain = upto_plain 255 refl

mask_plain : PlainPart mask
mask_plain = standing_plain _ _ _ (tested_plain (number_to 4294967295) (upto_plain 4294967295 refl) (λ n. not (n == 0)))

token_plain : PlainPart token
token_plain = standing_plain _ _ (number_to 4294967551) (upto_plain 4294967551 refl)

flag_plain : PlainPart flag
flag_plain = standing_plain _ _ (number_to 1) (upto_plain 1 refl)

status_pair_plain : PlainPart token_status
status_pair_plain = standing_plain token_status_of numbers_of_status _
    (tested_plain _ (tuple_plain _ (triple_plain token (number_to 2) (number_to 4294967295) token_plain (upto_plain 2 refl)
    (upto_plain 4294967295 refl))) (λ x. is_status x.1 x.2))

map_plain : PlainPart map_part
map_plain = tested_plain _ (several_plain token_status status_pair_plain) (ascends 0)

maps_plain : (instances : Option ℕ) → PlainPart (maps_part instances)
maps_plain None = standing_plain only_one first_map map_part map_plain
maps_plain (Some n) = tested_plain _ (several_plain map_part map_plain) (λ ms. length ms == n)

ids_plain : PlainPart ids
ids_plain = several_plain id id_plain

ty_each : (t : Ty) → FitsTy t → HasPlain (ty_data t)
ty_each core.int h = row_plain (codes "int") [] tt
ty_each core.bool h = row_plain (codes "bool") [] tt
ty_each (core.tracked k t args) h = row_plain (codes "key") (key_fields.items (k, t, args))
    ((triple_plain id id ids id_plain id_plain ids_plain).each (k, t, args) h)
ty_each (core.owning s t args) h = row_plain (codes "own") (own_fields.items (s, t, args))
    ((triple_plain mask id ids mask_plain id_plain ids_plain).each (s, t, args) h)
ty_each (core.guarded k t args) h = row_plain (codes "guard") (key_fields.items (k, t, args))
    ((triple_plain id id ids id_plain id_plain ids_plain).each (k, t, args) h)
ty_each (core.variant t args) h = row_plain (codes "var") (var_fields.items (t, args)) ((pair_plain id ids id_plain ids_plain).each (t, args) h)
ty_each (core.owning_variant t args) h =
    row_plain (codes "ownvar") (var_fields.items (t, args)) ((pair_plain id ids id_plain ids_plain).each (t, args) h)

ty_plain : PlainPart ty
ty_plain = record { each = ty_each }

field_plain : PlainPart field
field_plain = standing_plain _ _ _ (tuple_plain _ (triple_plain text ty mask text_plain ty_plain mask_plain))

case_key_plain : PlainPart case_key
case_key_plain = standing_plain _ _ _ (tuple_plain _ (pair_plain id mask id_plain mask_plain))

key_decl_plain : PlainPart key_decl
key_decl_plain = standing_plain _ _ _ (tuple_plain _ (pair_plain text (minus_or id) text_plain (minus_plain id id_plain)))

var_decl_plain : PlainPart var_decl
var_decl_plain = standing_plain _ _ _ (tuple_plain _ (pair_plain text ty text_plain ty_plain))

header_plain : PlainPart header
header_plain = few_plain 16 (minus_or id) (minus_plain id id_plain)

side_plain : PlainPart side
side_plain = minus_plain (number_to 4294967295) (upto_plain 4294967295 refl)

modes_plain : (ordered : Bool) → PlainPart (number_to (last_mode ordered))
modes_plain true = upto_plain 4 refl
modes_plain false = upto_plain 3 refl

entry_plain : (ordered : Bool) → PlainPart (entry ordered)
entry_plain ordered = standing_plain _ _ _ (tested_plain _
    (tuple_plain _ (quadruple_plain (number_to (last_mode ordered)) id side side
    (modes_plain ordered) id_plain side_plain side_plain)) is_entry)

-- ---- expressions and operands

joined_plain : (xs ys : List Data) → All HasPlain xs → All HasPlain ys → All HasPlain (xs ++ ys)
joined_plain [] ys h k = k
joined_plain (x ∷ xs) ys h k = (h.0, joined_plain xs ys h.1 k)

op_plain : PlainPart op
op_plain = standing_plain _ _ (number_to 17) (upto_plain 17 refl)

items_of_plain : (e : Expr) → FitsExpr e → All HasPlain (expr_items e)
items_of_plain (core.number (pos n)) h = (row_plain (codes "n") (number_fields.items n) (nat_plain n (small n 9223372036854775807 h refl), tt), tt)
items_of_plain (core.number (negsuc n)) h = absurd h
items_of_plain (core.truth b) h = (row_plain (codes "b") ((single flag).items b) (flag_plain.each b h, tt), tt)
items_of_plain (core.var v) h = (row_plain (codes "v") ((single id).items v) (id_plain.each v h, tt), tt)
items_of_plain (core.field x i) h = (row_plain (codes "f") ((pair id id).items (x, i)) (id_plain.each x h.0, (id_plain.each i h.1, tt)), tt)
items_of_plain (core.unary o a) h = joined_plain (expr_items a) (operator_data o ∷ []) (items_of_plain a h.0)
    (row_plain (codes "o") ((single op).items o) (op_plain.each o h.1, tt), tt)
items_of_plain (core.binary o a b) h =
    joined_plain (expr_items a) (expr_items b ++ operator_data o ∷ []) (items_of_plain a h.0)
    (joined_plain (expr_items b) (operator_data o ∷ []) (items_of_plain b h.1)
    (row_plain (codes "o") ((single op).items o) (op_plain.each o h.2, tt), tt))

expr_plain : PlainPart expr
expr_plain = record { each = λ e h. list_plain (expr_items e) (items_of_plain e h) }

operand_each : (o : Operand) → FitsOperand o → HasPlain (operand_data o)
operand_each (core.pure e) h = row_plain (codes "e") ((single expr).items e) (expr_plain.each e h, tt)
operand_each (core.move v) h = row_plain (codes "m") ((single id).items v) (id_plain.each v h, tt)
operand_each (core.pack x s) h = row_plain (codes "p") ((pair id mask).items (x, s)) (id_plain.each x h.0, (mask_plain.each s h.1, tt))

operand_plain : PlainPart operand
operand_plain = record { each = operand_each }

operands_plain : PlainPart (several operand)
operands_plain = several_plain operand operand_plain

head_plain : PlainPart head
head_plain = tuple_plain _ (pair_plain id (several token) id_plain (several_plain token token_plain))

arm_plain : PlainPart arm
arm_plain = tuple_plain _ (quadruple_plain byte ids id (several token) byte_plain ids_plain id_plain (several_plain token token_plain))

result_each : (o : Option Ty) → FitsResult o → HasPlain (result_data o)
result_each None h = row_plain (codes "void") [] tt
result_each (Some t) h = ty_each t h

result_plain : PlainPart result
result_plain = record { each = result_each }

function_plain : (ordered : Bool) (name : Part core.Name) (count : Part ℕ) → PlainPart name → PlainPart count →
    PlainFields (function_fields ordered name count)
function_plain ordered name count ln lc =
    septuple_plain name result (number_to 16) (several (entry ordered)) (few 256 key_decl) (few 256 var_decl) count
    ln result_plain (upto_plain 16 refl) (several_plain (entry ordered) (entry_plain ordered))
    (few_plain 256 key_decl key_decl_plain) (few_plain 256 var_decl var_decl_plain) lc

version_plain : PlainPart version_part
version_plain = standing_plain _ _ _ (tested_plain _ (upto_plain 2 refl) (λ n. not (n == 0)))

link_plain : PlainPart link
link_plain = standing_plain _ _ _ (tuple_plain _ (pair_plain byte byte byte_plain byte_plain))

names_plain : PlainPart names
names_plain = tested_plain _ (few_plain 32 text text_plain) is_filled

set_plain : (ordered : Bool) → PlainFields (set_fields ordered)
set_plain false = record { each = λ d h. (pair_plain text names text_plain names_plain).each (d.name, d.states) h.0 }
set_plain true = record {
  each = λ d h. (triple_plain text names (few 31 link) text_plain names_plain
      (few_plain 31 link link_plain)).each (d.name, d.states, d.links) h.0.0;
}

set_row_plain : (ordered : Bool) (d : SetDecl) → (set_fields ordered).Fits d → HasPlain (tagged_list (codes "states") ((set_fields ordered).items d))
set_row_plain ordered d h = row_plain (codes "states") ((set_fields ordered).items d) ((set_plain ordered).each d h)

-- ---- rows

pub rows_are_plain : (w : Shape) (r : Row) → FitsRow w r → HasPlain (row_data w r)
rows_are_plain w (version o) h = row_plain (codes "vault") (version_fields.items o) ((single_plain version_part version_plain).each o h)
rows_are_plain w (states d) h = set_row_plain w.ordered d h
rows_are_plain w (abstract_type name set) h = row_plain (codes "abstract") (abstract_fields.items (name, set))
    ((pair_plain text (minus_or id) text_plain (minus_plain id id_plain)).each (name, set) h)
rows_are_plain w (struct_type d) h = row_plain (codes "struct")
    (struct_fields.items (d.name, d.header, d.set, d.release, d.fields))
    ((quintuple_plain text header (minus_or id) mask (few 32 field) text_plain header_plain (minus_plain id id_plain) mask_plain
    (few_plain 32 field field_plain)).each (d.name, d.header, d.set, d.release, d.fields) h)
rows_are_plain w (variant_type name hs cases) h = row_plain (codes "variant") (variant_fields.items (name, hs, cases))
    ((triple_plain text header _ text_plain header_plain (tested_plain _ (upto_plain 32 refl) (λ n. not (n == 0)))).each (
      name,
      hs,
      cases,
    ) h)
rows_are_plain w (case_of c) h = row_plain (codes "case") (case_fields.items (c.name, c.payload, c.keys))
    ((triple_plain text (few 8 ty) (several case_key) text_plain (few_plain 8 ty ty_plain)
    (several_plain case_key case_key_plain)).each (c.name, c.payload, c.keys) h)
rows_are_plain w (function f) h =
    row_plain (codes "fn") ((fn_fields w.ordered).items f) ((function_plain w.ordered text id text_plain id_plain).each f h)
rows_are_plain w (external f) h = row_plain (codes "extern") ((extern_fields w.ordered).items f)
    ((function_plain w.ordered c_name (number_to 0) (tested_plain text text_plain is_c_name) (upto_plain 0 refl)).each f h)
rows_are_plain w (simple (core.set v e)) h = row_plain (codes "set") (set_stmt.items (v, e)) ((pair_plain id expr id_plain expr_plain).each (v, e) h)
rows_are_plain w (simple (core.input v more)) h =
    row_plain (codes "input") (input_stmt.items (v, more)) ((pair_plain id flag id_plain flag_plain).each (v, more) h)
rows_are_plain w (simple (core.print e)) h = row_plain (codes "print") (print_stmt.items e) ((single_plain expr expr_plain).each e h)
rows_are_plain w (simple (core.put x i e)) h =
    row_plain (codes "put") (put_stmt.items (x, i, e)) ((triple_plain id id expr id_plain id_plain expr_plain).each (x, i, e) h)
rows_are_plain w (simple (core.make x os)) h =
    row_plain (codes "new") (new_stmt.items (x, os)) ((pair_plain id (several operand) id_plain operands_plain).each (x, os) h)
rows_are_plain w (simple (core.become x s)) h =
    row_plain (codes "become") (become_stmt.items (x, s)) ((pair_plain id byte id_plain byte_plain).each (x, s) h)
rows_are_plain w (simple (core.release x)) h = row_plain (codes "release") (release_stmt.items x) ((single_plain id id_plain).each x h)
rows_are_plain w (simple (core.drop v)) h = row_plain (codes "drop") (drop_stmt.items v) ((single_plain id id_plain).each v h)
rows_are_plain w (simple (core.own v o)) h =
    row_plain (codes "own") (own_stmt.items (v, o)) ((pair_plain id operand id_plain operand_plain).each (v, o) h)
rows_are_plain w (simple (core.unpack x v)) h =
    row_plain (codes "unpack") (unpack_stmt.items (x, v)) ((pair_plain id id id_plain id_plain).each (x, v) h)
rows_are_plain w (simple (core.build v c os)) h = row_plain (codes "build") (build_stmt.items (v, c, os))
    ((triple_plain id byte (several operand) id_plain byte_plain operands_plain).each (v, c, os) h)
rows_are_plain w (call g target keys os) h = row_plain (codes "call") (call_stmt.items (g, target, keys, os))
    ((quadruple_plain id (minus_or id) ids (several operand) id_plain (minus_plain id id_plain) ids_plain operands_plain).each (
      g,
      target,
      keys,
      os,
    ) h)
rows_are_plain w (simple (core.swap x i v)) h =
    row_plain (codes "swap") (swap_stmt.items (x, i, v)) ((triple_plain id id id id_plain id_plain id_plain).each (x, i, v) h)
rows_are_plain w (simple (core.open_into x vs)) h =
    row_plain (codes "open") (open_stmt.items (x, vs)) ((pair_plain id ids id_plain ids_plain).each (x, vs) h)
rows_are_plain w (simple (core.adopt y x r)) h =
    row_plain (codes "adopt") (adopt_stmt.items (y, x, r)) ((triple_plain id id id id_plain id_plain id_plain).each (y, x, r) h)
rows_are_plain w (choose e a b m) h = row_plain (codes "if") ((if_stmt w.instances).items (e, a, b, m))
    ((quadruple_plain expr head head (zero_or (maps_part w.instances)) expr_plain head_plain head_plain
    (zero_plain (maps_part w.instances) (maps_plain w.instances))).each (e, a, b, m) h)
rows_are_plain w (loop e a m k) h = row_plain (codes "while") ((while_stmt w.instances).items (e, a, m, k))
    ((quadruple_plain expr head (maps_part w.instances) (maps_part w.instances) expr_plain head_plain (maps_plain w.instances)
    (maps_plain w.instances)).each (e, a, m, k) h)
rows_are_plain w (switch v arms m) h = row_plain (codes "switch") ((switch_stmt w.instances).items (v, arms, m))
    ((triple_plain id (several arm) (zero_or (maps_part w.instances)) id_plain (several_plain arm arm_plain)
    (zero_plain (maps_part w.instances) (maps_plain w.instances))).each (v, arms, m) h)
rows_are_plain w (focus y z a) h = row_plain (codes "focus") (focus_stmt.items (y, z, a))
    ((triple_plain id id head id_plain id_plain head_plain).each (y, z, a) h)
rows_are_plain w (scope a) h = row_plain (codes "scope") (scope_stmt.items a) ((single_plain head head_plain).each a h)
rows_are_plain w (return o) h = row_plain (codes "return") (return_stmt.items o)
    ((single_plain (zero_or operand) (zero_plain operand operand_plain)).each o h)
rows_are_plain w (jump c) h = row_plain (codes "jump") (jump_stmt.items c) ((single_plain flag flag_plain).each c h)
