-- What is written for a row nests at most 5 deep, and all its numbers are whole.
use Rattle.std.proofs.Common.{◌≡◌, ◌≤◌, refl, ap, ◌∙◌, ℕ, suc, max, ◌||◌, Bool, true, false, List, [], ◌∷◌, ◌++◌, map, Option, Some, None, arith}
use Rattle.std.specs.Prelude.{codes}
use Rattle.serde_json.specs.Data.{Data, string, depth, items_depth}
use Rattle.serde_json.specs.Written.{has_float, items_have_float}
use Rattle.serde_json.specs.View.{items_of}
use Rattle.vlt_core.specs.Core as core
use Rattle.vlt_core.specs.Core.{Expr}
use Rattle.cert_rows.specs.Parts.{Part, Fields, list, number_to, text, All, several, few, pair, quadruple, tuple, minus_or, zero_or}
use Rattle.cert_rows.specs.Values.{Shape, id, byte, flag, mask, token, token_status, map_part, maps_part, ids, tagged_list, key_fields, own_fields, var_fields, ty, field, case_key, key_decl, var_decl, entry}
use Rattle.cert_rows.specs.Expressions.{operator_data, expr_items, expr, operand}
use Rattle.cert_rows.specs.Laws.{IsExact}
use Rattle.cert_rows.specs.Rows.{head, arm, Row, version, states, abstract_type, struct_type, variant_type, case_of, function, external, simple, call, choose, loop, switch, focus, scope, return, jump, version_part, link, names, plain_set_fields, linked_set_fields, result, row_data, version_fields, set_fields, abstract_fields, struct_fields, variant_fields, case_fields, fn_fields, extern_fields, set_stmt, input_stmt, print_stmt, put_stmt, new_stmt, become_stmt, release_stmt, drop_stmt, own_stmt, unpack_stmt, build_stmt, call_stmt, swap_stmt, open_stmt, adopt_stmt, if_stmt, while_stmt, switch_stmt, focus_stmt, scope_stmt, return_stmt, jump_stmt}

abbrev ExactPart : {A : Type 0} → ℕ → Part A → Type 0
ExactPart {A} k p = (a : A) → IsExact k (p.data_of a)

abbrev ExactFields : {A : Type 0} → ℕ → Fields A → Type 0
ExactFields {A} k f = (a : A) → All (IsExact k) (f.items a)

weak : (j k : ℕ) (d : Data) → j ≤ k → IsExact j d → IsExact k d
weak j k d h t = record { nests = omega (arith, h, t.nests); whole = t.whole }

neither : (a b : Bool) → a ≡ false → b ≡ false → (a || b) ≡ false
neither a b p q = ap (λ x. x || b) p ∙ q

at_most : (a b k : ℕ) → a ≤ k → b ≤ k → max a b ≤ k
at_most a b k p q = omega (arith, p, q)

items_exact : (k : ℕ) (ds : List Data) → All (IsExact k) ds → (items_depth (items_of ds) ≤ k) × (items_have_float (items_of ds) ≡ false)
items_exact k [] h = (omega arith, refl)
items_exact k (d ∷ ds) h =
    let rest = items_exact k ds h.1 in
    (at_most (depth d) (items_depth (items_of ds)) k h.0.nests rest.0, neither (has_float d) (items_have_float (items_of ds)) h.0.whole rest.1)

list_exact : (k : ℕ) (ds : List Data) → All (IsExact k) ds → IsExact (suc k) (list ds)
list_exact k ds h = let x = items_exact k ds h in record { nests = omega (arith, x.0); whole = x.1 }

text_exact : (k : ℕ) (s : List ℕ) → IsExact k (string s)
text_exact k s = record { nests = omega arith; whole = refl }

row_exact : (k : ℕ) (tag : List ℕ) (ds : List Data) → All (IsExact k) ds → IsExact (suc k) (tagged_list tag ds)
row_exact k tag ds h = list_exact k (string tag ∷ ds) (text_exact k tag, h)

all_more : (k : ℕ) (xs ys : List Data) → All (IsExact k) xs → All (IsExact k) ys → All (IsExact k) (xs ++ ys)
all_more k [] ys h g = g
all_more k (x ∷ xs) ys h g = (h.0, all_more k xs ys h.1 g)

list2 : (k : ℕ) {a b : Data} → IsExact k a → IsExact k b → IsExact (suc k) (list (a ∷ b ∷ []))
list2 k {a} {b} x y = list_exact k (a ∷ b ∷ []) (x, (y, tt))

list3 : (k : ℕ) {a b c : Data} → IsExact k a → IsExact k b → IsExact k c → IsExact (suc k) (list (a ∷ b ∷ c ∷ []))
list3 k {a} {b} {c} x y z = list_exact k (a ∷ b ∷ c ∷ []) (x, (y, (z, tt)))

list4 : (k : ℕ) {a b c d : Data} → IsExact k a → IsExact k b → IsExact k c → IsExact k d → IsExact (suc k) (list (a ∷ b ∷ c ∷ d ∷ []))
list4 k {a} {b} {c} {d} x y z w = list_exact k (a ∷ b ∷ c ∷ d ∷ []) (x, (y, (z, (w, tt))))

row1 : (k : ℕ) {t : List ℕ} {a : Data} → IsExact k a → IsExact (suc k) (tagged_list t (a ∷ []))
row1 k {t} {a} x = row_exact k t (a ∷ []) (x, tt)

row2 : (k : ℕ) {t : List ℕ} {a b : Data} → IsExact k a → IsExact k b → IsExact (suc k) (tagged_list t (a ∷ b ∷ []))
row2 k {t} {a} {b} x y = row_exact k t (a ∷ b ∷ []) (x, (y, tt))

-- ---- parts

texts : (k : ℕ) → ExactPart k text
texts k s = text_exact k s

numbers : (k top : ℕ) → ExactPart k (number_to top)
numbers k top n = record { nests = omega arith; whole = refl }

lists : {A : Type 0} (k : ℕ) (p : Part A) → ExactPart k p → ExactPart (suc k) (several p)
lists {A} k p h xs = list_exact k (map p.data_of xs) (each xs)
  where
    each : (xs : List A) → All (IsExact k) (map p.data_of xs)
    each [] = tt
    each (x ∷ xs) = (h x, each xs)

minuses : {A : Type 0} (k : ℕ) (p : Part A) → ExactPart k p → ExactPart k (minus_or p)
minuses k p h None = record { nests = omega arith; whole = refl }
minuses k p h (Some a) = h a

zeros : {A : Type 0} (k : ℕ) (p : Part A) → ExactPart k p → ExactPart k (zero_or p)
zeros k p h None = record { nests = omega arith; whole = refl }
zeros k p h (Some a) = h a

tuples : {A : Type 0} (k : ℕ) (f : Fields A) → ExactFields k f → ExactPart (suc k) (tuple f)
tuples k f h a = list_exact k (f.items a) (h a)

wider : {A : Type 0} (j k : ℕ) (p : Part A) → j ≤ k → ExactPart j p → ExactPart k p
wider j k p h t a = weak j k (p.data_of a) h (t a)

ids_exact : (k : ℕ) → ExactPart (suc k) ids
ids_exact k = lists k id (numbers k 4294967295)

ty_exact : ExactPart 2 ty
ty_exact core.int = row_exact 1 _ [] tt
ty_exact core.bool = row_exact 1 _ [] tt
ty_exact (core.tracked k t args) =
    row_exact 1 _ (key_fields.items (k, t, args)) (numbers 1 4294967295 k, (numbers 1 4294967295 t, (ids_exact 0 args, tt)))
ty_exact (core.owning s t args) =
    row_exact 1 _ (own_fields.items (s, t, args)) (numbers 1 4294967295 _, (numbers 1 4294967295 t, (ids_exact 0 args, tt)))
ty_exact (core.guarded k t args) =
    row_exact 1 _ (key_fields.items (k, t, args)) (numbers 1 4294967295 k, (numbers 1 4294967295 t, (ids_exact 0 args, tt)))
ty_exact (core.variant t args) = row_exact 1 _ (var_fields.items (t, args)) (numbers 1 4294967295 t, (ids_exact 0 args, tt))
ty_exact (core.owning_variant t args) = row_exact 1 _ (var_fields.items (t, args)) (numbers 1 4294967295 t, (ids_exact 0 args, tt))

result_exact : ExactPart 2 result
result_exact None = row_exact 1 _ [] tt
result_exact (Some t) = ty_exact t

tokens_exact : (k : ℕ) → ExactPart (suc k) (several token)
tokens_exact k = lists k token (λ t. numbers k 4294967551 _)

head_exact : ExactPart 2 head
head_exact h = tuples 1 (pair id (several token)) (λ h. (numbers 1 4294967295 h.0, (tokens_exact 0 h.1, tt))) h

arm_exact : ExactPart 2 arm
arm_exact a = tuples 1 (quadruple byte ids id (several token))
    (λ a. (numbers 1 255 a.0, (ids_exact 0 a.1, (numbers 1 4294967295 a.2, (tokens_exact 0 a.3, tt))))) a

map_exact : ExactPart 2 map_part
map_exact m = lists 1 token_status (λ x. list3 0 (numbers 0 4294967551 _) (numbers 0 2 _) (numbers 0 4294967295 _)) m

maps_exact : (n : Option ℕ) → ExactPart 3 (maps_part n)
maps_exact None ms = weak 2 3 _ (omega arith) (map_exact _)
maps_exact (Some n) ms = lists 2 map_part map_exact ms

items_are : (e : Expr) → All (IsExact 1) (expr_items e)
items_are (core.number z) = (row1 0 (numbers 0 9223372036854775807 _), tt)
items_are (core.truth b) = (row1 0 (numbers 0 1 _), tt)
items_are (core.var v) = (row1 0 (numbers 0 4294967295 v), tt)
items_are (core.field x i) = (row2 0 (numbers 0 4294967295 x) (numbers 0 4294967295 i), tt)
items_are (core.unary o a) = all_more 1 (expr_items a) (operator_data o ∷ []) (items_are a) (row1 0 (numbers 0 17 _), tt)
items_are (core.binary o a b) = all_more 1 (expr_items a) (expr_items b ++ operator_data o ∷ []) (items_are a)
    (all_more 1 (expr_items b) (operator_data o ∷ []) (items_are b) (row1 0 (numbers 0 17 _), tt))

expr_exact : ExactPart 2 expr
expr_exact e = list_exact 1 (expr_items e) (items_are e)

operand_exact : ExactPart 3 operand
operand_exact (core.pure e) = row1 2 (expr_exact e)
operand_exact (core.move v) = row1 2 (numbers 2 4294967295 v)
operand_exact (core.pack x s) = row2 2 (numbers 2 4294967295 x) (numbers 2 4294967295 _)

field_exact : ExactPart 3 field
field_exact d = list3 2 (text_exact 2 _) (ty_exact _) (numbers 2 4294967295 _)

var_exact : ExactPart 3 var_decl
var_exact d = list2 2 (text_exact 2 _) (ty_exact _)

key_exact : ExactPart 1 key_decl
key_exact d = list2 0 (text_exact 0 _) (minuses 0 id (numbers 0 4294967295) _)

case_key_exact : ExactPart 1 case_key
case_key_exact k = list2 0 (numbers 0 4294967295 _) (numbers 0 4294967295 _)

entry_exact : (ordered : Bool) → ExactPart 1 (entry ordered)
entry_exact ordered e = list4 0 (numbers 0 4 _) (numbers 0 4294967295 _)
    (minuses 0 (number_to 4294967295) (numbers 0 4294967295) _) (minuses 0 (number_to 4294967295) (numbers 0 4294967295) _)

flags : ExactPart 4 flag
flags b = numbers 4 1 _

masks : ExactPart 4 mask
masks s = numbers 4 4294967295 _

versions : ExactPart 4 version_part
versions o = numbers 4 2 _

links_exact : ExactPart 4 (few 31 link)
links_exact = lists 3 link (λ l. weak 1 3 _ (omega arith) (list2 0 (numbers 0 255 _) (numbers 0 255 _)))

names_exact : ExactPart 4 names
names_exact = lists 3 text (texts 3)

set_exact : (w : Shape) (d : core.SetDecl) → IsExact 5 (row_data w (states d))
set_exact w d = by w.ordered
  where
    by : (ordered : Bool) → IsExact 5 (tagged_list (codes "states") ((set_fields ordered).items d))
    by false = row_exact 4 (codes "states") (plain_set_fields.items d) (texts 4 d.name, (names_exact d.states, tt))
    by true = row_exact 4 (codes "states") (linked_set_fields.items d) (texts 4 d.name, (names_exact d.states, (links_exact d.links, tt)))

-- ---- as parts of a row, each nests at most 4 deep

pub rows_exact : (w : Shape) (r : Row) → IsExact 5 (row_data w r)
rows_exact w (version o) = row_exact 4 _ (version_fields.items o) (versions o, tt)
rows_exact w (states d) = set_exact w d
rows_exact w (abstract_type name set) =
    row_exact 4 _ (abstract_fields.items (name, set)) (texts 4 name, (minuses 4 id (numbers 4 4294967295) set, tt))
rows_exact w (struct_type d) = row_exact 4 _ (struct_fields.items (d.name, d.header, d.set, d.release, d.fields)) (
  texts 4 d.name,
  (
    lists 3 (minus_or id) (minuses 3 id (numbers 3 4294967295)) d.header,
    (minuses 4 id (numbers 4 4294967295) d.set, (masks d.release, (lists 3 field field_exact d.fields, tt))),
  ),
)
rows_exact w (variant_type name hs cases) = row_exact 4 _ (variant_fields.items (name, hs, cases)) (
  texts 4 name,
  (lists 3 (minus_or id) (minuses 3 id (numbers 3 4294967295)) hs, (numbers 4 32 cases, tt)),
)
rows_exact w (case_of c) = row_exact 4 _ (case_fields.items (c.name, c.payload, c.keys)) (
  texts 4 c.name,
  (
    lists 3 ty (wider 2 3 ty (omega arith) ty_exact) c.payload,
    (lists 3 case_key (wider 1 3 case_key (omega arith) case_key_exact) c.keys, tt),
  ),
)
rows_exact w (function f) = row_exact 4 _ ((fn_fields w.ordered).items f) (
  texts 4 _,
  (
    wider 2 4 result (omega arith) result_exact _,
    (
      numbers 4 16 _,
      (
        lists 3 (entry w.ordered) (wider 1 3 (entry w.ordered) (omega arith) (entry_exact w.ordered)) _,
        (
          lists 3 key_decl (wider 1 3 key_decl (omega arith) key_exact) _,
          (lists 3 var_decl var_exact _, (numbers 4 4294967295 _, tt)),
        ),
      ),
    ),
  ),
)
rows_exact w (external f) = row_exact 4 _ ((extern_fields w.ordered).items f) (
  texts 4 _,
  (
    wider 2 4 result (omega arith) result_exact _,
    (
      numbers 4 16 _,
      (
        lists 3 (entry w.ordered) (wider 1 3 (entry w.ordered) (omega arith) (entry_exact w.ordered)) _,
        (lists 3 key_decl (wider 1 3 key_decl (omega arith) key_exact) _, (lists 3 var_decl var_exact _, (numbers 4 0 _, tt))),
      ),
    ),
  ),
)
rows_exact w (simple (core.set v e)) = row_exact 4 _ (set_stmt.items (v, e)) (numbers 4 4294967295 v, (wider 2 4 expr (omega arith) expr_exact e, tt))
rows_exact w (simple (core.input v more)) = row_exact 4 _ (input_stmt.items (v, more)) (numbers 4 4294967295 v, (flags more, tt))
rows_exact w (simple (core.print e)) = row_exact 4 _ (print_stmt.items e) (wider 2 4 expr (omega arith) expr_exact e, tt)
rows_exact w (simple (core.put x i e)) = row_exact 4 _ (put_stmt.items (x, i, e)) (
  numbers 4 4294967295 x,
  (numbers 4 4294967295 i, (wider 2 4 expr (omega arith) expr_exact e, tt)),
)
rows_exact w (simple (core.make x os)) = row_exact 4 _ (new_stmt.items (x, os)) (numbers 4 4294967295 x, (lists 3 operand operand_exact os, tt))
rows_exact w (simple (core.become x s)) = row_exact 4 _ (become_stmt.items (x, s)) (numbers 4 4294967295 x, (numbers 4 255 s, tt))
rows_exact w (simple (core.release x)) = row_exact 4 _ (release_stmt.items x) (numbers 4 4294967295 x, tt)
rows_exact w (simple (core.drop v)) = row_exact 4 _ (drop_stmt.items v) (numbers 4 4294967295 v, tt)
rows_exact w (simple (core.own v o)) =
    row_exact 4 _ (own_stmt.items (v, o)) (numbers 4 4294967295 v, (wider 3 4 operand (omega arith) operand_exact o, tt))
rows_exact w (simple (core.unpack x v)) = row_exact 4 _ (unpack_stmt.items (x, v)) (numbers 4 4294967295 x, (numbers 4 4294967295 v, tt))
rows_exact w (simple (core.build v c os)) = row_exact 4 _ (build_stmt.items (v, c, os)) (
  numbers 4 4294967295 v,
  (numbers 4 255 c, (lists 3 operand operand_exact os, tt)),
)
rows_exact w (call g target keys os) = row_exact 4 _ (call_stmt.items (g, target, keys, os)) (
  numbers 4 4294967295 g,
  (minuses 4 id (numbers 4 4294967295) target, (ids_exact 3 keys, (lists 3 operand operand_exact os, tt))),
)
rows_exact w (simple (core.swap x i v)) =
    row_exact 4 _ (swap_stmt.items (x, i, v)) (numbers 4 4294967295 x, (numbers 4 4294967295 i, (numbers 4 4294967295 v, tt)))
rows_exact w (simple (core.open_into x vs)) = row_exact 4 _ (open_stmt.items (x, vs)) (numbers 4 4294967295 x, (ids_exact 3 vs, tt))
rows_exact w (simple (core.adopt y x r)) =
    row_exact 4 _ (adopt_stmt.items (y, x, r)) (numbers 4 4294967295 y, (numbers 4 4294967295 x, (numbers 4 4294967295 r, tt)))
rows_exact w (choose e a b m) = row_exact 4 _ ((if_stmt w.instances).items (e, a, b, m)) (
  wider 2 4 expr (omega arith) expr_exact e,
  (
    wider 2 4 head (omega arith) head_exact a,
    (
      wider 2 4 head (omega arith) head_exact b,
      (
        zeros 4 (maps_part w.instances)
            (wider 3 4 (maps_part w.instances) (omega arith) (maps_exact w.instances)) m,
        tt,
      ),
    ),
  ),
)
rows_exact w (loop e a m k) = row_exact 4 _ ((while_stmt w.instances).items (e, a, m, k)) (
  wider 2 4 expr (omega arith) expr_exact e,
  (
    wider 2 4 head (omega arith) head_exact a,
    (
      wider 3 4 (maps_part w.instances) (omega arith) (maps_exact w.instances) m,
      (wider 3 4 (maps_part w.instances) (omega arith) (maps_exact w.instances) k, tt),
    ),
  ),
)
rows_exact w (switch v arms m) = row_exact 4 _ ((switch_stmt w.instances).items (v, arms, m)) (
  numbers 4 4294967295 v,
  (
    wider 3 4 (several arm) (omega arith) (lists 2 arm arm_exact) arms,
    (zeros 4 (maps_part w.instances) (wider 3 4 (maps_part w.instances) (omega arith) (maps_exact w.instances)) m, tt),
  ),
)
rows_exact w (focus y z a) = row_exact 4 _ (focus_stmt.items (y, z, a)) (
  numbers 4 4294967295 y,
  (numbers 4 4294967295 z, (wider 2 4 head (omega arith) head_exact a, tt)),
)
rows_exact w (scope a) = row_exact 4 _ (scope_stmt.items a) (wider 2 4 head (omega arith) head_exact a, tt)
rows_exact w (return o) = row_exact 4 _ (return_stmt.items o) (zeros 4 operand (wider 3 4 operand (omega arith) operand_exact) o, tt)
rows_exact w (jump c) = row_exact 4 _ (jump_stmt.items c) (flags c, tt)
