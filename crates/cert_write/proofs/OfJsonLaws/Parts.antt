-- What is written for a part of a row that fits is readable.
use Rattle.std.proofs.Common.{◌≡◌, ◌<◌, ℕ, pos, negsuc, nat_lt, Bool, true, false, List, [], ◌∷◌, ◌++◌, map, Option, Some, None, IsUtf8, refl, arith}
use Rattle.std.specs.Prelude.{codes}
use Rattle.std.proofs.lemmas.Bool.Decides.{nat_tests}
use Rattle.json.proofs.Printed.Utf8.{are_ascii, IsUtf8-are_ascii}
use Rattle.serde_json.specs.Data.{Data}
use Rattle.serde_json.specs.View.{items_of}
use Rattle.vlt_core.specs.Core as core
use Rattle.vlt_core.specs.Core.{FieldDecl, KeyDecl, VarDecl, Expr}
use Rattle.cert_rows.specs.Parts.{Part, nat, list, number_to, All, several, minus_or, zero_or}
use Rattle.cert_rows.specs.Values.{id, byte, flag, mask_of, mask, number_of_tok, token, numbers_of_status, token_status, map_part, first_map, maps_part, ids, tagged_list, ty, field, case_key, key_decl, var_decl, header, side, last_mode, entry_numbers, entry}
use Rattle.cert_rows.specs.Expressions.{op, operator_data, expr_items, FitsExpr, expr, operand}
use Rattle.cert_rows.specs.Rows.{head, arm, result, version_part, link}
use Rattle.cert_format_laws.proofs.Decoding.{all_joined}
use Rattle.cert_write.proofs.OfJsonLaws.Readable.{IsReadable, AreReadable}

abbrev pub ReadablePart : {A : Type 0} → Part A → Type 0
ReadablePart {A} p = (a : A) → p.Fits a → IsReadable (p.data_of a)

-- ---- numbers, lists and rows

upto : (top : ℕ) → nat_lt top 18446744073709551616 ≡ true → ReadablePart (number_to top)
upto top s n h = omega (arith, h, below top s)
  where
    below : (top : ℕ) → nat_lt top 18446744073709551616 ≡ true → top < 18446744073709551616
    below top s = grind (arith, nat_tests)

items_readable : (ds : List Data) → All IsReadable ds → AreReadable (items_of ds)
items_readable [] h = tt
items_readable (d ∷ ds) h = (h.0, items_readable ds h.1)

pub list_readable : (ds : List Data) → All IsReadable ds → IsReadable (list ds)
list_readable ds h = items_readable ds h

pub row_readable : (tag : List ℕ) (ds : List Data) → are_ascii tag ≡ true → All IsReadable ds → IsReadable (tagged_list tag ds)
row_readable tag ds ascii h = (IsUtf8-are_ascii tag ascii, items_readable ds h)

-- ---- several, each with a name or without

module _ {A : Type 0} (p : Part A) where
  pub each_named : (HasText : A → Type 0) → ((a : A) → p.Fits a → HasText a → IsReadable (p.data_of a)) →
      (xs : List A) → All p.Fits xs → All HasText xs → IsReadable ((several p).data_of xs)
  each_named HasText law xs h names = list_readable (map p.data_of xs) (each xs h names)
    where
      each : (xs : List A) → All p.Fits xs → All HasText xs → All IsReadable (map p.data_of xs)
      each [] h names = tt
      each (x ∷ xs) h names = (law x h.0 names.0, each xs h.1 names.1)

  module _ (law : ReadablePart p) where
    each_readable : (xs : List A) → All p.Fits xs → All IsReadable (map p.data_of xs)
    each_readable [] h = tt
    each_readable (x ∷ xs) h = (law x h.0, each_readable xs h.1)

    pub several_readable : ReadablePart (several p)
    several_readable xs h = list_readable (map p.data_of xs) (each_readable xs h)

    pub minus_readable : ReadablePart (minus_or p)
    minus_readable None h = omega arith
    minus_readable (Some a) h = law a h.0

    pub zero_readable : ReadablePart (zero_or p)
    zero_readable None h = omega arith
    zero_readable (Some a) h = law a h.0

-- ---- values

pub id_readable : ReadablePart id
id_readable = upto 4294967295 refl

pub byte_readable : ReadablePart byte
byte_readable = upto 255 refl

pub flag_readable : ReadablePart flag
flag_readable b h = upto 1 refl _ h.0

pub mask_readable : ReadablePart mask
mask_readable s h = upto 4294967295 refl (mask_of s) h.0.0

pub ids_readable : ReadablePart ids
ids_readable = several_readable id id_readable

token_readable : ReadablePart token
token_readable t h = upto 4294967551 refl (number_of_tok t) h.0

pub tokens_readable : ReadablePart (several token)
tokens_readable = several_readable token token_readable

status_readable : ReadablePart token_status
status_readable x h =
    let y = numbers_of_status x in
    list_readable (token.data_of y.0 ∷ nat y.1 ∷ nat y.2 ∷ [])
    (token_readable y.0 h.0.0.0, (upto 2 refl y.1 h.0.0.1, (upto 4294967295 refl y.2 h.0.0.2, tt)))

map_readable : ReadablePart map_part
map_readable m h = several_readable token_status status_readable m h.0

pub maps_readable : (instances : Option ℕ) → ReadablePart (maps_part instances)
maps_readable None ms h = map_readable (first_map ms) h.0
maps_readable (Some n) ms h = several_readable map_part map_readable ms h.0

pub ty_readable : ReadablePart ty
ty_readable core.int h = row_readable (codes "int") [] refl tt
ty_readable core.bool h = row_readable (codes "bool") [] refl tt
ty_readable (core.tracked k t args) h =
    row_readable (codes "key") (nat k ∷ nat t ∷ ids.data_of args ∷ []) refl
    (id_readable k h.0, (id_readable t h.1, (ids_readable args h.2, tt)))
ty_readable (core.owning s t args) h =
    row_readable (codes "own") (mask.data_of s ∷ nat t ∷ ids.data_of args ∷ []) refl
    (mask_readable s h.0, (id_readable t h.1, (ids_readable args h.2, tt)))
ty_readable (core.guarded k t args) h =
    row_readable (codes "guard") (nat k ∷ nat t ∷ ids.data_of args ∷ []) refl
    (id_readable k h.0, (id_readable t h.1, (ids_readable args h.2, tt)))
ty_readable (core.variant t args) h =
    row_readable (codes "var") (nat t ∷ ids.data_of args ∷ []) refl (id_readable t h.0, (ids_readable args h.1, tt))
ty_readable (core.owning_variant t args) h =
    row_readable (codes "ownvar") (nat t ∷ ids.data_of args ∷ []) refl (id_readable t h.0, (ids_readable args h.1, tt))

pub result_readable : ReadablePart result
result_readable None h = row_readable (codes "void") [] refl tt
result_readable (Some t) h = ty_readable t h

-- ---- declarations

abbrev pub HasTextField : FieldDecl → Type 0
HasTextField d = IsUtf8 d.name

abbrev pub HasTextKey : KeyDecl → Type 0
HasTextKey d = IsUtf8 d.name

abbrev pub HasTextVar : VarDecl → Type 0
HasTextVar d = IsUtf8 d.name

pub field_readable : (d : FieldDecl) → field.Fits d → HasTextField d → IsReadable (field.data_of d)
field_readable d h name = (name, (ty_readable d.ty h.0.1, (mask_readable d.states h.0.2, tt)))

pub key_readable : (d : KeyDecl) → key_decl.Fits d → HasTextKey d → IsReadable (key_decl.data_of d)
key_readable d h name = (name, (minus_readable id id_readable d.key_type h.0.1, tt))

pub var_readable : (d : VarDecl) → var_decl.Fits d → HasTextVar d → IsReadable (var_decl.data_of d)
var_readable d h name = (name, (ty_readable d.ty h.0.1, tt))

pub case_key_readable : ReadablePart case_key
case_key_readable k h = (id_readable k.position h.0.0, (mask_readable k.states h.0.1, tt))

pub header_readable : ReadablePart header
header_readable hs h = several_readable (minus_or id) (minus_readable id id_readable) hs h.0

side_readable : ReadablePart side
side_readable = minus_readable (number_to 4294967295) (upto 4294967295 refl)

mode_readable : (ordered : Bool) → ReadablePart (number_to (last_mode ordered))
mode_readable true = upto 4 refl
mode_readable false = upto 3 refl

pub entry_readable : (ordered : Bool) → ReadablePart (entry ordered)
entry_readable ordered e h =
    let x = entry_numbers e in
    list_readable (nat x.0 ∷ nat x.1 ∷ side.data_of x.2 ∷ side.data_of x.3 ∷ [])
    (mode_readable ordered x.0 h.0.0.0, (id_readable x.1 h.0.0.1, (side_readable x.2 h.0.0.2, (side_readable x.3 h.0.0.3, tt))))

pub link_readable : ReadablePart link
link_readable l h = (byte_readable l.lower h.0.0, (byte_readable l.upper h.0.1, tt))

pub version_readable : ReadablePart version_part
version_readable o h = upto 2 refl _ h.0.0

pub params_readable : ReadablePart (number_to 16)
params_readable = upto 16 refl

pub cases_readable : ReadablePart (number_to 32)
cases_readable = upto 32 refl

pub no_statements_readable : ReadablePart (number_to 0)
no_statements_readable = upto 0 refl

-- ---- expressions, operands and heads of blocks

op_readable : ReadablePart op
op_readable o h = upto 17 refl _ h.0

operator_readable : (o : _) → op.Fits o → All IsReadable (operator_data o ∷ [])
operator_readable o h = (row_readable (codes "o") (op.data_of o ∷ []) refl (op_readable o h, tt), tt)

expr_items_readable : (e : Expr) → FitsExpr e → All IsReadable (expr_items e)
expr_items_readable (core.number (pos n)) h =
    (row_readable (codes "n") (nat n ∷ []) refl (upto 9223372036854775807 refl n h, tt), tt)
expr_items_readable (core.number (negsuc n)) h = absurd h
expr_items_readable (core.truth b) h = (row_readable (codes "b") (flag.data_of b ∷ []) refl (flag_readable b h, tt), tt)
expr_items_readable (core.var v) h = (row_readable (codes "v") (nat v ∷ []) refl (id_readable v h, tt), tt)
expr_items_readable (core.field x i) h =
    (row_readable (codes "f") (nat x ∷ nat i ∷ []) refl (id_readable x h.0, (id_readable i h.1, tt)), tt)
expr_items_readable (core.unary o a) h =
    all_joined IsReadable (expr_items a) (operator_data o ∷ []) (expr_items_readable a h.0) (operator_readable o h.1)
expr_items_readable (core.binary o a b) h =
    all_joined IsReadable (expr_items a) (expr_items b ++ operator_data o ∷ []) (expr_items_readable a h.0)
    (all_joined IsReadable (expr_items b) (operator_data o ∷ []) (expr_items_readable b h.1) (operator_readable o h.2))

pub expr_readable : ReadablePart expr
expr_readable e h = list_readable (expr_items e) (expr_items_readable e h)

pub operand_readable : ReadablePart operand
operand_readable (core.pure e) h = row_readable (codes "e") (expr.data_of e ∷ []) refl (expr_readable e h, tt)
operand_readable (core.move v) h = row_readable (codes "m") (nat v ∷ []) refl (id_readable v h, tt)
operand_readable (core.pack x s) h =
    row_readable (codes "p") (nat x ∷ mask.data_of s ∷ []) refl (id_readable x h.0, (mask_readable s h.1, tt))

pub operands_readable : ReadablePart (several operand)
operands_readable = several_readable operand operand_readable

pub head_readable : ReadablePart head
head_readable x h = (id_readable x.0 h.0, (tokens_readable x.1 h.1, tt))

pub arm_readable : ReadablePart arm
arm_readable x h = (byte_readable x.0 h.0, (ids_readable x.1 h.1, (id_readable x.2 h.2, (tokens_readable x.3 h.3, tt))))
