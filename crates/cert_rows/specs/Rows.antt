-- The rows of a certificate. A row of statements with blocks says how many statements each block
-- has; those follow.
use Rattle.std.specs.Prelude.{ℕ, nat_le, nat_lt, ◌==◌, ◌&&◌, ◌||◌, not, Bool, true, false, if◌then◌else◌, List, [], ◌∷◌, length, codes, Option, Some, None, option_map, option_and_then}
use Rattle.std.specs.List.{list_all}
use Rattle.std.specs.Str.{bytes_eq}
use Rattle.serde_json.specs.Data.{Data}
use Rattle.vlt_core.specs.Core as core
use Rattle.vlt_core.specs.Core.{Name, States, Ty, Tok, Link, SetDecl, FieldDecl, CaseKey, CaseDecl, StructDecl, Entry, KeyDecl, VarDecl, Expr, Operand, Simple}
use Rattle.cert_rows.specs.Parts.{Part, Fields, array_in, number_to, text, several, with_test, few, single, pair, triple, quadruple, quintuple, septuple, tuple, fields_for, fields_with_test, standing_for, minus_or, zero_or}
use Rattle.cert_rows.specs.Values.{Shape, id, byte, flag, mask, token, ListedMap, maps_part, ids, tagged_list, by_tag, if_empty, ty_data, ty_of_tag, FitsTy, ty, field, case_key, key_decl, var_decl, header, entry}
use Rattle.cert_rows.specs.Expressions.{expr, operand}

-- how many statements a block has, and the tokens bound in it
abbrev pub Head : Type 0
Head = ℕ × List Tok

abbrev pub head : Part Head
head = tuple (pair id (several token))

-- the case, the variables that take its payloads, and the head of the block
abbrev pub ArmHead : Type 0
ArmHead = ℕ × List ℕ × ℕ × List Tok

abbrev pub arm : Part ArmHead
arm = tuple (quadruple byte ids id (several token))

-- one map for each instance of the function
abbrev pub Maps : Type 0
Maps = List ListedMap

-- a function's name, result, parameters, clause, keys, variables, and the number of its own
-- statements
abbrev pub FnRow : Type 0
FnRow = Name × Option Ty × ℕ × List Entry × List KeyDecl × List VarDecl × ℕ

pub data Row : Type 0 where
  -- whether it is version 2, where state sets have links and entries can be bound
  version : (ordered : Bool) → Row
  states : SetDecl → Row
  abstract_type : Name → (set : Option ℕ) → Row
  struct_type : StructDecl → Row
  variant_type : Name → (header : List (Option ℕ)) → (cases : ℕ) → Row
  case_of : CaseDecl → Row
  function : FnRow → Row
  external : FnRow → Row
  simple : Simple → Row
  call : (f : ℕ) → (target : Option ℕ) → (keys : List ℕ) → List Operand → Row
  choose : Expr → Head → Head → Option Maps → Row
  loop : Expr → Head → (around exit : Maps) → Row
  switch : (v : ℕ) → List ArmHead → Option Maps → Row
  focus : (y z : ℕ) → Head → Row
  scope : Head → Row
  return : Option Operand → Row
  jump : (continues : Bool) → Row

-- ---- names

abbrev pub is_letter : ℕ → Bool
is_letter c = (nat_le 65 c && nat_le c 90) || (nat_le 97 c && nat_le c 122) || (c == 95)

abbrev pub is_c_character : ℕ → Bool
is_c_character c = is_letter c || (nat_le 48 c && nat_le c 57)

-- what a string of the C subset has between its quotes
abbrev pub is_c_name : Name → Bool
is_c_name [] = false
is_c_name (c ∷ cs) = is_letter c && list_all is_c_character cs

abbrev pub c_name : Part Name
c_name = with_test is_c_name text

abbrev pub is_filled : List Name → Bool
is_filled [] = false
is_filled (n ∷ ns) = true

-- ---- results

abbrev pub result_data : Option Ty → Data
result_data None = tagged_list (codes "void") []
result_data (Some t) = ty_data t

abbrev pub result_of_tag : List ℕ → List Data → Option (Option Ty)
result_of_tag t ds =
    if bytes_eq t (codes "void") then if_empty None ds else option_map Some (ty_of_tag t ds)

abbrev pub FitsResult : Option Ty → Type 0
FitsResult None = Unit {0}
FitsResult (Some t) = FitsTy t

abbrev pub result : Part (Option Ty)
result = record {
  data_of = result_data;
  of_data = λ d. option_and_then (by_tag result_of_tag) (array_in d);
  Fits = FitsResult;
}

abbrev pub function_fields : (ordered : Bool) → (name : Part Name) → (count : Part ℕ) → Fields FnRow
function_fields ordered name count = septuple name result (number_to 16) (several (entry ordered))
    (few 256 key_decl) (few 256 var_decl) count

-- ---- versions, state sets and their links

abbrev pub version_part : Part Bool
version_part = standing_for (λ n. n == 2) (λ o. if o then 2 else 1)
    (with_test (λ n. not (n == 0)) (number_to 2))

abbrev pub link : Part Link
link = standing_for (λ x. record { lower = x.0; upper = x.1 }) (λ l. (l.lower, l.upper))
    (tuple (pair byte byte))

abbrev pub names : Part (List Name)
names = with_test is_filled (few 32 text)

-- links are of states of the set
abbrev pub has_own_links : SetDecl → Bool
has_own_links d =
    list_all (λ l. nat_lt l.lower (length d.states) && nat_lt l.upper (length d.states)) d.links

-- ["states",name,[names]]
abbrev pub plain_set_fields : Fields SetDecl
plain_set_fields =
    fields_for
    (λ x. record { name = x.0; states = x.1; links = [] })
    (λ d. (d.name, d.states))
    (pair text names)

-- ["states",name,[names],[[lower,upper],..]]
abbrev pub linked_set_fields : Fields SetDecl
linked_set_fields =
    fields_with_test has_own_links (fields_for
    (λ x. record { name = x.0; states = x.1; links = x.2 })
    (λ d. (d.name, d.states, d.links))
    (triple text names (few 31 link)))

abbrev pub set_fields : (ordered : Bool) → Fields SetDecl
set_fields false = plain_set_fields
set_fields true = linked_set_fields

-- ---- the fields of each row

-- ["vault",1 or 2]
abbrev pub version_fields : Fields Bool
version_fields = single version_part

-- ["abstract",name,set or -1]
abbrev pub abstract_fields : Fields (Name × Option ℕ)
abstract_fields = pair text (minus_or id)

-- ["struct",name,[header types or -1],set or -1,release mask,[[field,type,mask],..]]
abbrev pub struct_fields : Fields (Name × List (Option ℕ) × Option ℕ × States × List FieldDecl)
struct_fields = quintuple text header (minus_or id) mask (few 32 field)

-- ["variant",name,[header types or -1],cases]
abbrev pub variant_fields : Fields (Name × List (Option ℕ) × ℕ)
variant_fields = triple text header (with_test (λ n. not (n == 0)) (number_to 32))

-- ["case",name,[types],[[parameter,mask],..]]
abbrev pub case_fields : Fields (Name × List Ty × List CaseKey)
case_fields = triple text (few 8 ty) (several case_key)

-- ["fn",name,result,parameters,[entries],[keys],[variables],statements]
abbrev pub fn_fields : (ordered : Bool) → Fields FnRow
fn_fields ordered = function_fields ordered text id

-- ["extern",..,0]
abbrev pub extern_fields : (ordered : Bool) → Fields FnRow
extern_fields ordered = function_fields ordered c_name (number_to 0)

-- ["set",v,e]
abbrev pub set_stmt : Fields (ℕ × Expr)
set_stmt = pair id expr

-- ["input",v,0 or 1]
abbrev pub input_stmt : Fields (ℕ × Bool)
input_stmt = pair id flag

-- ["print",e]
abbrev pub print_stmt : Fields Expr
print_stmt = single expr

-- ["put",x,f,e]
abbrev pub put_stmt : Fields (ℕ × ℕ × Expr)
put_stmt = triple id id expr

-- ["new",x,[operands]]
abbrev pub new_stmt : Fields (ℕ × List Operand)
new_stmt = pair id (several operand)

-- ["become",x,s]
abbrev pub become_stmt : Fields (ℕ × ℕ)
become_stmt = pair id byte

-- ["release",x]
abbrev pub release_stmt : Fields ℕ
release_stmt = single id

-- ["drop",v]
abbrev pub drop_stmt : Fields ℕ
drop_stmt = single id

-- ["own",v,operand]
abbrev pub own_stmt : Fields (ℕ × Operand)
own_stmt = pair id operand

-- ["unpack",x,v]
abbrev pub unpack_stmt : Fields (ℕ × ℕ)
unpack_stmt = pair id id

-- ["build",v,case,[operands]]
abbrev pub build_stmt : Fields (ℕ × ℕ × List Operand)
build_stmt = triple id byte (several operand)

-- ["call",function,v or -1,[caller's key for each key],[operands]]
abbrev pub call_stmt : Fields (ℕ × Option ℕ × List ℕ × List Operand)
call_stmt = quadruple id (minus_or id) ids (several operand)

-- ["swap",x,f,v]
abbrev pub swap_stmt : Fields (ℕ × ℕ × ℕ)
swap_stmt = triple id id id

-- ["open",x,[v]]
abbrev pub open_stmt : Fields (ℕ × List ℕ)
open_stmt = pair id ids

-- ["adopt",y,x,r]
abbrev pub adopt_stmt : Fields (ℕ × ℕ × ℕ)
adopt_stmt = triple id id id

-- ["if",e,block,block,map or 0]
abbrev pub if_stmt : (instances : Option ℕ) → Fields (Expr × Head × Head × Option Maps)
if_stmt n = quadruple expr head head (zero_or (maps_part n))

-- ["while",e,block,loop map,exit map]
abbrev pub while_stmt : (instances : Option ℕ) → Fields (Expr × Head × Maps × Maps)
while_stmt n = quadruple expr head (maps_part n) (maps_part n)

-- ["switch",v,[arms],map or 0]
abbrev pub switch_stmt : (instances : Option ℕ) → Fields (ℕ × List ArmHead × Option Maps)
switch_stmt n = triple id (several arm) (zero_or (maps_part n))

-- ["focus",y,z,block]
abbrev pub focus_stmt : Fields (ℕ × ℕ × Head)
focus_stmt = triple id id head

-- ["scope",block]
abbrev pub scope_stmt : Fields Head
scope_stmt = single head

-- ["return",operand or 0]
abbrev pub return_stmt : Fields (Option Operand)
return_stmt = single (zero_or operand)

-- ["jump",0 break or 1 continue]
abbrev pub jump_stmt : Fields Bool
jump_stmt = single flag

-- ---- rows

abbrev pub row_data : Shape → Row → Data
row_data w (version o) = tagged_list (codes "vault") (version_fields.items o)
row_data w (states d) = tagged_list (codes "states") ((set_fields w.ordered).items d)
row_data w (abstract_type name set) = tagged_list (codes "abstract")
    (abstract_fields.items (name, set))
row_data w (struct_type d) = tagged_list (codes "struct")
    (struct_fields.items (d.name, d.header, d.set, d.release, d.fields))
row_data w (variant_type name hs cases) =
    tagged_list (codes "variant") (variant_fields.items (name, hs, cases))
row_data w (case_of c) = tagged_list (codes "case") (case_fields.items (c.name, c.payload, c.keys))
row_data w (function f) = tagged_list (codes "fn") ((fn_fields w.ordered).items f)
row_data w (external f) = tagged_list (codes "extern") ((extern_fields w.ordered).items f)
row_data w (simple (core.set v e)) = tagged_list (codes "set") (set_stmt.items (v, e))
row_data w (simple (core.input v more)) = tagged_list (codes "input") (input_stmt.items (v, more))
row_data w (simple (core.print e)) = tagged_list (codes "print") (print_stmt.items e)
row_data w (simple (core.put x i e)) = tagged_list (codes "put") (put_stmt.items (x, i, e))
row_data w (simple (core.make x os)) = tagged_list (codes "new") (new_stmt.items (x, os))
row_data w (simple (core.become x s)) = tagged_list (codes "become") (become_stmt.items (x, s))
row_data w (simple (core.release x)) = tagged_list (codes "release") (release_stmt.items x)
row_data w (simple (core.drop v)) = tagged_list (codes "drop") (drop_stmt.items v)
row_data w (simple (core.own v o)) = tagged_list (codes "own") (own_stmt.items (v, o))
row_data w (simple (core.unpack x v)) = tagged_list (codes "unpack") (unpack_stmt.items (x, v))
row_data w (simple (core.build v c os)) = tagged_list (codes "build") (build_stmt.items (v, c, os))
row_data w (call g target keys os) = tagged_list (codes "call")
    (call_stmt.items (g, target, keys, os))
row_data w (simple (core.swap x i v)) = tagged_list (codes "swap") (swap_stmt.items (x, i, v))
row_data w (simple (core.open_into x vs)) = tagged_list (codes "open") (open_stmt.items (x, vs))
row_data w (simple (core.adopt y x r)) = tagged_list (codes "adopt") (adopt_stmt.items (y, x, r))
row_data w (choose e a b m) = tagged_list (codes "if") ((if_stmt w.instances).items (e, a, b, m))
row_data w (loop e a m k) = tagged_list (codes "while")
    ((while_stmt w.instances).items (e, a, m, k))
row_data w (switch v arms m) = tagged_list (codes "switch")
    ((switch_stmt w.instances).items (v, arms, m))
row_data w (focus y z a) = tagged_list (codes "focus") (focus_stmt.items (y, z, a))
row_data w (scope a) = tagged_list (codes "scope") (scope_stmt.items a)
row_data w (return o) = tagged_list (codes "return") (return_stmt.items o)
row_data w (jump c) = tagged_list (codes "jump") (jump_stmt.items c)

abbrev pub row_of_tag : Shape → List ℕ → List Data → Option Row
row_of_tag w t ds =
    if bytes_eq t (codes "vault") then option_map version (version_fields.of_items ds)
    else if bytes_eq t (codes "states") then option_map states ((set_fields w.ordered).of_items ds)
    else if bytes_eq t (codes "abstract") then
    option_map (λ x. abstract_type x.0 x.1) (abstract_fields.of_items ds)
    else if bytes_eq t (codes "struct") then
    option_map (λ x. struct_type (record {
      name = x.0;
      header = x.1;
      set = x.2;
      release = x.3;
      fields = x.4;
    })) (struct_fields.of_items ds)
    else if bytes_eq t (codes "variant") then
    option_map (λ x. variant_type x.0 x.1 x.2) (variant_fields.of_items ds)
    else if bytes_eq t (codes "case") then
    option_map (λ x. case_of (record { name = x.0; payload = x.1; keys = x.2 }))
    (case_fields.of_items ds)
    else if bytes_eq t (codes "fn") then option_map function ((fn_fields w.ordered).of_items ds)
    else if bytes_eq t (codes "extern") then
    option_map external ((extern_fields w.ordered).of_items ds)
    else if bytes_eq t (codes "set") then
    option_map (λ x. simple (core.set x.0 x.1)) (set_stmt.of_items ds)
    else if bytes_eq t (codes "input") then
    option_map (λ x. simple (core.input x.0 x.1)) (input_stmt.of_items ds)
    else if bytes_eq t (codes "print") then
    option_map (λ e. simple (core.print e)) (print_stmt.of_items ds)
    else if bytes_eq t (codes "put") then
    option_map (λ x. simple (core.put x.0 x.1 x.2)) (put_stmt.of_items ds)
    else if bytes_eq t (codes "new") then
    option_map (λ x. simple (core.make x.0 x.1)) (new_stmt.of_items ds)
    else if bytes_eq t (codes "become") then
    option_map (λ x. simple (core.become x.0 x.1)) (become_stmt.of_items ds)
    else if bytes_eq t (codes "release") then
    option_map (λ x. simple (core.release x)) (release_stmt.of_items ds)
    else if bytes_eq t (codes "drop") then
    option_map (λ v. simple (core.drop v)) (drop_stmt.of_items ds)
    else if bytes_eq t (codes "own") then
    option_map (λ x. simple (core.own x.0 x.1)) (own_stmt.of_items ds)
    else if bytes_eq t (codes "unpack") then
    option_map (λ x. simple (core.unpack x.0 x.1)) (unpack_stmt.of_items ds)
    else if bytes_eq t (codes "build") then
    option_map (λ x. simple (core.build x.0 x.1 x.2)) (build_stmt.of_items ds)
    else if bytes_eq t (codes "call") then
    option_map (λ x. call x.0 x.1 x.2 x.3) (call_stmt.of_items ds)
    else if bytes_eq t (codes "swap") then
    option_map (λ x. simple (core.swap x.0 x.1 x.2)) (swap_stmt.of_items ds)
    else if bytes_eq t (codes "open") then
    option_map (λ x. simple (core.open_into x.0 x.1)) (open_stmt.of_items ds)
    else if bytes_eq t (codes "adopt") then
    option_map (λ x. simple (core.adopt x.0 x.1 x.2)) (adopt_stmt.of_items ds)
    else if bytes_eq t (codes "if") then
    option_map (λ x. choose x.0 x.1 x.2 x.3) ((if_stmt w.instances).of_items ds)
    else if bytes_eq t (codes "while") then
    option_map (λ x. loop x.0 x.1 x.2 x.3) ((while_stmt w.instances).of_items ds)
    else if bytes_eq t (codes "switch") then
    option_map (λ x. switch x.0 x.1 x.2) ((switch_stmt w.instances).of_items ds)
    else if bytes_eq t (codes "focus") then
    option_map (λ x. focus x.0 x.1 x.2) (focus_stmt.of_items ds)
    else if bytes_eq t (codes "scope") then option_map scope (scope_stmt.of_items ds)
    else if bytes_eq t (codes "return") then option_map return (return_stmt.of_items ds)
    else if bytes_eq t (codes "jump") then option_map jump (jump_stmt.of_items ds)
    else None

abbrev pub FitsRow : Shape → Row → Type 0
FitsRow w (version o) = version_fields.Fits o
FitsRow w (states d) = (set_fields w.ordered).Fits d
FitsRow w (abstract_type name set) = abstract_fields.Fits (name, set)
FitsRow w (struct_type d) = struct_fields.Fits (d.name, d.header, d.set, d.release, d.fields)
FitsRow w (variant_type name hs cases) = variant_fields.Fits (name, hs, cases)
FitsRow w (case_of c) = case_fields.Fits (c.name, c.payload, c.keys)
FitsRow w (function f) = (fn_fields w.ordered).Fits f
FitsRow w (external f) = (extern_fields w.ordered).Fits f
FitsRow w (simple (core.set v e)) = set_stmt.Fits (v, e)
FitsRow w (simple (core.input v more)) = input_stmt.Fits (v, more)
FitsRow w (simple (core.print e)) = print_stmt.Fits e
FitsRow w (simple (core.put x i e)) = put_stmt.Fits (x, i, e)
FitsRow w (simple (core.make x os)) = new_stmt.Fits (x, os)
FitsRow w (simple (core.become x s)) = become_stmt.Fits (x, s)
FitsRow w (simple (core.release x)) = release_stmt.Fits x
FitsRow w (simple (core.drop v)) = drop_stmt.Fits v
FitsRow w (simple (core.own v o)) = own_stmt.Fits (v, o)
FitsRow w (simple (core.unpack x v)) = unpack_stmt.Fits (x, v)
FitsRow w (simple (core.build v c os)) = build_stmt.Fits (v, c, os)
FitsRow w (call g target keys os) = call_stmt.Fits (g, target, keys, os)
FitsRow w (simple (core.swap x i v)) = swap_stmt.Fits (x, i, v)
FitsRow w (simple (core.open_into x vs)) = open_stmt.Fits (x, vs)
FitsRow w (simple (core.adopt y x r)) = adopt_stmt.Fits (y, x, r)
FitsRow w (choose e a b m) = (if_stmt w.instances).Fits (e, a, b, m)
FitsRow w (loop e a m k) = (while_stmt w.instances).Fits (e, a, m, k)
FitsRow w (switch v arms m) = (switch_stmt w.instances).Fits (v, arms, m)
FitsRow w (focus y z a) = focus_stmt.Fits (y, z, a)
FitsRow w (scope a) = scope_stmt.Fits a
FitsRow w (return o) = return_stmt.Fits o
FitsRow w (jump c) = jump_stmt.Fits c

abbrev pub row_part : Shape → Part Row
row_part w = record {
  data_of = row_data w;
  of_data = λ d. option_and_then (by_tag (row_of_tag w)) (array_in d);
  Fits = FitsRow w;
}
