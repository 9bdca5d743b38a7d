-- Sets of states, tokens, maps, types and declarations, as parts of rows.
use Rattle.std.specs.Prelude.{◌+◌, ◌-◌, ◌*◌, ℕ, zero, suc, nat_le, nat_lt, ◌==◌, ◌&&◌, not, Bool, true, false, if◌then◌else◌, List, [], ◌∷◌, length, codes, Option, Some, None, option_map, option_and_then}
use Rattle.std.specs.Str.{bytes_eq}
use Rattle.serde_json.specs.Data.{Data, string}
use Rattle.serde_json.specs.Find.{as_str}
use Rattle.vlt_base.specs.States.{is_bit}
use Rattle.vlt_core.specs.Core.{States, Ty, int, bool, tracked, owning, guarded, variant, owning_variant, FieldDecl, CaseKey, Tok, a_key, a_var, Mode, kept, taken, given, fresh, up_to, Entry, KeyDecl, VarDecl}
use Rattle.vlt_core.specs.Maps.{Status, absent, held, lent, full}
use Rattle.cert_rows.specs.Parts.{Part, Fields, list, array_in, number_to, text, several, with_test, standing_for, few, pair, triple, quadruple, tuple, minus_or}

-- How rows are written. In version 2 state sets have links and entries can be bound; in a function
-- with a bound entry there are so many maps in place of each, one for each instance.
pub record Shape : Type 0 where
  pub ordered : Bool
  pub instances : Option ℕ

-- numbers of things, and of cases, states and operators
abbrev pub id : Part ℕ
id = number_to 4294967295

abbrev pub byte : Part ℕ
byte = number_to 255

abbrev pub flag : Part Bool
flag = standing_for (λ n. n == 1) (λ b. if b then 1 else 0) (number_to 1)

-- ---- sets of states: a number whose bits they are, and not 0

-- the number whose lowest bits are the states below k
abbrev pub bits_number : (k : ℕ) → States → ℕ
bits_number zero s = 0
bits_number (suc k) s = (if s 0 then 1 else 0) + 2 * bits_number k (λ i. s (suc i))

abbrev pub mask_of : States → ℕ
mask_of s = bits_number 32 s

abbrev pub mask : Part States
mask = standing_for is_bit mask_of (with_test (λ n. not (n == 0)) (number_to 4294967295))

-- ---- tokens: k for a key, 256 + v for a variable

abbrev pub number_of_tok : Tok → ℕ
number_of_tok (a_key k) = k
number_of_tok (a_var v) = 256 + v

abbrev pub tok_of_number : ℕ → Tok
tok_of_number n = if nat_lt n 256 then a_key n else a_var (n - 256)

abbrev pub token : Part Tok
token = standing_for tok_of_number number_of_tok (number_to 4294967551)

-- ---- maps: tokens ascend, none is absent

abbrev pub kind_number : Status → ℕ
kind_number absent = 3
kind_number (held s) = 0
kind_number (lent s) = 1
kind_number full = 2

abbrev pub status_mask : Status → ℕ
status_mask absent = 0
status_mask (held s) = mask_of s
status_mask (lent s) = mask_of s
status_mask full = 0

abbrev pub status_of : (kind mask : ℕ) → Status
status_of k m = if k == 0 then held (is_bit m) else if k == 1 then lent (is_bit m) else full

-- kind 2 has mask 0, and the other two another one
abbrev pub is_status : (kind mask : ℕ) → Bool
is_status k m = if k == 2 then m == 0 else not (m == 0)

-- a token with its status, as a map lists it
abbrev pub TokenStatus : Type 0
TokenStatus = Tok × Status

abbrev pub token_status_of : Tok × ℕ × ℕ → TokenStatus
token_status_of x = (x.0, status_of x.1 x.2)

abbrev pub numbers_of_status : TokenStatus → Tok × ℕ × ℕ
numbers_of_status x = (x.0, kind_number x.1, status_mask x.1)

abbrev pub token_status : Part TokenStatus
token_status = standing_for token_status_of numbers_of_status
    (with_test (λ x. is_status x.1 x.2) (tuple (triple token (number_to 2) (number_to 4294967295))))

-- tokens ascend, and none is less than `least`
abbrev pub ascends : (least : ℕ) → List TokenStatus → Bool
ascends least [] = true
ascends least (x ∷ xs) = nat_le least (number_of_tok x.0) && ascends (suc (number_of_tok x.0)) xs

abbrev pub ListedMap : Type 0
ListedMap = List TokenStatus

abbrev pub map_part : Part ListedMap
map_part = with_test (ascends 0) (several token_status)

-- One map of each instance. In a function without a bound entry it stands by itself, else in an
-- array of so many.
abbrev pub only_one : ListedMap → List ListedMap
only_one m = m ∷ []

abbrev pub first_map : List ListedMap → ListedMap
first_map [] = []
first_map (m ∷ ms) = m

abbrev pub maps_part : (instances : Option ℕ) → Part (List ListedMap)
maps_part None = standing_for only_one first_map map_part
maps_part (Some n) = with_test (λ ms. length ms == n) (several map_part)

-- ---- types

abbrev pub ids : Part (List ℕ)
ids = several id

abbrev pub key_fields : Fields (ℕ × ℕ × List ℕ)
key_fields = triple id id ids

abbrev pub own_fields : Fields (States × ℕ × List ℕ)
own_fields = triple mask id ids

abbrev pub var_fields : Fields (ℕ × List ℕ)
var_fields = pair id ids

abbrev pub tagged_list : (tag : List ℕ) → List Data → Data
tagged_list tag ds = list (string tag ∷ ds)

abbrev pub ty_data : Ty → Data
ty_data int = tagged_list (codes "int") []
ty_data bool = tagged_list (codes "bool") []
ty_data (tracked k t args) = tagged_list (codes "key") (key_fields.items (k, t, args))
ty_data (owning s t args) = tagged_list (codes "own") (own_fields.items (s, t, args))
ty_data (guarded k t args) = tagged_list (codes "guard") (key_fields.items (k, t, args))
ty_data (variant t args) = tagged_list (codes "var") (var_fields.items (t, args))
ty_data (owning_variant t args) = tagged_list (codes "ownvar") (var_fields.items (t, args))

-- this, where no items are there
abbrev pub if_empty : {A : Type 0} → A → List Data → Option A
if_empty a [] = Some a
if_empty a (d ∷ ds) = None

abbrev pub ty_of_tag : List ℕ → List Data → Option Ty
ty_of_tag t ds =
    if bytes_eq t (codes "int") then if_empty int ds
    else if bytes_eq t (codes "bool") then if_empty bool ds
    else if bytes_eq t (codes "key") then
    option_map (λ x. tracked x.0 x.1 x.2) (key_fields.of_items ds)
    else if bytes_eq t (codes "own") then
    option_map (λ x. owning x.0 x.1 x.2) (own_fields.of_items ds)
    else if bytes_eq t (codes "guard") then
    option_map (λ x. guarded x.0 x.1 x.2) (key_fields.of_items ds)
    else if bytes_eq t (codes "var") then option_map (λ x. variant x.0 x.1) (var_fields.of_items ds)
    else if bytes_eq t (codes "ownvar") then
    option_map (λ x. owning_variant x.0 x.1) (var_fields.of_items ds)
    else None

-- an array whose first item is a text, by this text and the others
abbrev pub by_tag : {A : Type 0} → (List ℕ → List Data → Option A) → List Data → Option A
by_tag go [] = None
by_tag go (d ∷ ds) = option_and_then (λ t. go t ds) (as_str d)

abbrev pub FitsTy : Ty → Type 0
FitsTy int = Unit {0}
FitsTy bool = Unit {0}
FitsTy (tracked k t args) = key_fields.Fits (k, t, args)
FitsTy (owning s t args) = own_fields.Fits (s, t, args)
FitsTy (guarded k t args) = key_fields.Fits (k, t, args)
FitsTy (variant t args) = var_fields.Fits (t, args)
FitsTy (owning_variant t args) = var_fields.Fits (t, args)

abbrev pub ty : Part Ty
ty = record {
  data_of = ty_data;
  of_data = λ d. option_and_then (by_tag ty_of_tag) (array_in d);
  Fits = FitsTy;
}

-- ---- declarations

abbrev pub field : Part FieldDecl
field = standing_for
    (λ x. record { name = x.0; ty = x.1; states = x.2 })
    (λ d. (d.name, d.ty, d.states))
    (tuple (triple text ty mask))

abbrev pub case_key : Part CaseKey
case_key = standing_for
    (λ x. record { position = x.0; states = x.1 })
    (λ k. (k.position, k.states))
    (tuple (pair id mask))

abbrev pub key_decl : Part KeyDecl
key_decl = standing_for
    (λ x. record { name = x.0; key_type = x.1 })
    (λ d. (d.name, d.key_type))
    (tuple (pair text (minus_or id)))

abbrev pub var_decl : Part VarDecl
var_decl = standing_for
    (λ x. record { name = x.0; ty = x.1 })
    (λ d. (d.name, d.ty))
    (tuple (pair text ty))

abbrev pub header : Part (List (Option ℕ))
header = few 16 (minus_or id)

-- ---- entries

-- A side is 0 where the key is absent on it, -1 where it names no states, else a mask. The first
-- side of a bound entry is the state that bounds it, and its second one is -1.
abbrev pub Side : Type 0
Side = Option ℕ

abbrev pub side : Part Side
side = minus_or (number_to 4294967295)

abbrev pub mode_number : Mode → ℕ
mode_number kept = 0
mode_number taken = 1
mode_number given = 2
mode_number fresh = 3
mode_number (up_to b) = 4

abbrev pub bound_number : Side → ℕ
bound_number None = 0
bound_number (Some b) = b

abbrev pub mode_of_number : ℕ → (bound : ℕ) → Mode
mode_of_number n b =
    if n == 0 then kept
    else if n == 1 then taken
    else if n == 2 then given
    else if n == 3 then fresh
    else up_to b

abbrev pub is_zero_side : Side → Bool
is_zero_side None = false
is_zero_side (Some n) = n == 0

abbrev pub is_unsaid : Side → Bool
is_unsaid None = true
is_unsaid (Some n) = false

-- both sides of `kept` are said, or neither
abbrev pub are_alike : Side → Side → Bool
are_alike None None = true
are_alike (Some m) (Some n) = true
are_alike _ _ = false

abbrev pub is_bound_side : Side → Bool
is_bound_side None = false
is_bound_side (Some b) = nat_le b 255

abbrev pub is_entry : ℕ × ℕ × Side × Side → Bool
is_entry x =
    if x.0 == 0 then (not (is_zero_side x.2) && not (is_zero_side x.3)) && are_alike x.2 x.3
    else if x.0 == 1 then not (is_zero_side x.2) && is_zero_side x.3
    else if x.0 == 4 then is_bound_side x.2 && is_unsaid x.3
    else is_zero_side x.2 && not (is_zero_side x.3)

abbrev pub side_states : Side → Option States
side_states None = None
side_states (Some n) = if n == 0 then None else Some (is_bit n)

abbrev pub held_number : Option States → Side
held_number None = None
held_number (Some s) = Some (mask_of s)

abbrev pub entry_of : ℕ × ℕ × Side × Side → Entry
entry_of x = record {
  mode = mode_of_number x.0 (bound_number x.2);
  key = x.1;
  before = if x.0 == 4 then None else side_states x.2;
  after = side_states x.3;
}

abbrev pub before_number : Mode → Option States → Side
before_number kept o = held_number o
before_number taken o = held_number o
before_number given o = Some 0
before_number fresh o = Some 0
before_number (up_to b) o = Some b

abbrev pub after_number : Mode → Option States → Side
after_number taken o = Some 0
after_number kept o = held_number o
after_number given o = held_number o
after_number fresh o = held_number o
after_number (up_to b) o = None

abbrev pub entry_numbers : Entry → ℕ × ℕ × Side × Side
entry_numbers e =
    (mode_number e.mode, e.key, before_number e.mode e.before, after_number e.mode e.after)

abbrev pub last_mode : (ordered : Bool) → ℕ
last_mode ordered = if ordered then 4 else 3

abbrev pub entry : (ordered : Bool) → Part Entry
entry ordered = standing_for entry_of entry_numbers
    (with_test is_entry (tuple (quadruple (number_to (last_mode ordered)) id side side)))
