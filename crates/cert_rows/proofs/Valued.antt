-- Parts of rows: what is written is read, and what is read was written so.
use Rattle.std.proofs.Common.{◌≡◌, ◌≤◌, ◌<◌, ◌+◌, ◌-◌, ◌*◌, ◌^◌, ◌%◌, ◌/◌, refl, sym, ap, ◌∙◌, ℕ, zero, suc, ◌==◌, nat_le, nat_lt, not, ◌&&◌, Bool, true, false, true≢false, if◌then◌else◌, List, [], ◌∷◌, length, Option, Some, None, option_map, option_and_then, IfSome, rules, arith}
use Rattle.std.specs.Prelude.{codes}
use Rattle.std.specs.Str.{bytes_eq}
use Rattle.std.specs.Int.{bit_at}
use Rattle.std.proofs.lemmas.Nat.Bits.{bit_at_lowest, bit_at-suc}
use Rattle.std.proofs.lemmas.Bool.Decides.{nat_tests}
use Rattle.std.proofs.lemmas.Slice.Eq.{bytes_eq-Decides}
use Rattle.serde_json.specs.Data.{Data, string}
use Rattle.serde_json.specs.Find.{as_str}
use Rattle.vlt_base.specs.States.{is_bit}
use Rattle.vlt_core.specs.Core.{Ty, int, bool, tracked, owning, guarded, variant, owning_variant, a_key, a_var}
use Rattle.cert_rows.specs.Parts.{Part, Fields, list, number_to, text, few, minus_or, array_in}
use Rattle.cert_rows.specs.Values.{id, flag, bits_number, mask_of, mask, number_of_tok, tok_of_number, token, kind_number, status_mask, status_of, is_status, token_status_of, numbers_of_status, token_status, ascends, map_part, only_one, first_map, maps_part, ids, key_fields, own_fields, var_fields, tagged_list, ty_data, if_empty, ty_of_tag, by_tag, FitsTy, ty, field, case_key, key_decl, var_decl, header, Side, side, mode_of_number, is_zero_side, is_unsaid, are_alike, is_bound_side, is_entry, bound_number, last_mode, side_states, held_number, after_number, entry_of, entry_numbers, entry}
use Rattle.cert_rows.specs.Laws.{IsPart, AreFields}
use Rattle.cert_rows.proofs.Codec.{and_then_in, map_on, array_read, number_to_part, text_part, several_part, with_test_part, standing_part, pair_fields, triple_fields, quadruple_fields, tuple_part, minus_part}

pub id_part : IsPart id
id_part = number_to_part 4294967295

-- ---- sets of states

bit_more : (n i : ℕ) → is_bit n (suc i) ≡ is_bit (n / 2) i
bit_more n i = ap (λ b. b == 1) (bit_at-suc n i)

lowest : (n : ℕ) → (if is_bit n 0 then 1 else 0) ≡ n % 2
lowest n = by (n % 2) (bit_at_lowest n) (omega arith)
  where
    by : (m : ℕ) → bit_at n 0 ≡ m → m < 2 → (if is_bit n 0 then 1 else 0) ≡ m
    by zero is less = ap (λ b. if b == 1 then 1 else 0) is
    by (suc zero) is less = ap (λ b. if b == 1 then 1 else 0) is
    by (suc (suc m)) is less = absurd (omega (arith, less))

pub bits_back : (k n : ℕ) → n < 2 ^ k → bits_number k (is_bit n) ≡ n
bits_back zero n small = omega (arith, small)
bits_back (suc k) n small =
    let half : n / 2 < 2 ^ k = halved in
    let rest : bits_number k (λ i. is_bit n (suc i)) ≡ n / 2 = ap (bits_number k) (λ j i. bit_more n i j) ∙ bits_back k (n / 2) half in
    let parts : n % 2 + 2 * (n / 2) ≡ n = omega arith in
    rw (lowest n, rest) parts
  where
    halved : n / 2 < 2 ^ k
    halved = let e : 2 ^ suc k ≡ 2 * 2 ^ k = omega arith in omega (arith, e, small)

nonzero : (n : ℕ) → not (n == 0) ≡ true → 1 ≤ n
nonzero n is = grind (arith, nat_tests)

small_mask : (n : ℕ) → n ≤ 4294967295 → n < 2 ^ 32
small_mask n h = omega (arith, h)

pub mask_back : (n : ℕ) → n ≤ 4294967295 → mask_of (is_bit n) ≡ n
mask_back n h = bits_back 32 n (small_mask n h)

pub mask_part : IsPart mask
mask_part = standing_part is_bit mask_of _ (with_test_part (number_to 4294967295) (number_to_part 4294967295) (λ n. not (n == 0)))
    (λ n h. mask_back n h.0)

-- ---- tokens

tok_back : (n : ℕ) → number_of_tok (tok_of_number n) ≡ n
tok_back n = by (nat_lt n 256) refl
  where
    by : (b : Bool) → nat_lt n 256 ≡ b → number_of_tok (if b then a_key n else a_var (n - 256)) ≡ n
    by true is = refl
    by false is = let far : 256 ≤ n = grind (arith, nat_tests) in omega (arith, far)

pub token_part : IsPart token
token_part = standing_part tok_of_number number_of_tok (number_to 4294967551) (number_to_part 4294967551) (λ n h. tok_back n)

-- ---- maps

status_back : (k m : ℕ) → k ≤ 2 → m ≤ 4294967295 → is_status k m ≡ true → (kind_number (status_of k m) ≡ k) × (status_mask (status_of k m) ≡ m)
status_back zero m h l is = (refl, mask_back m l)
status_back (suc zero) m h l is = (refl, mask_back m l)
status_back (suc (suc zero)) m h l is = (refl, none m is)
  where
    none : (m : ℕ) → (m == 0) ≡ true → 0 ≡ m
    none m is = grind (arith, nat_tests)
status_back (suc (suc (suc k))) m h l is = absurd (omega (arith, h))

pub token_status_part : IsPart token_status
token_status_part =
    standing_part token_status_of numbers_of_status _
    (with_test_part _ (tuple_part _ (triple_fields token (number_to 2) (number_to 4294967295) token_part (number_to_part 2)
    (number_to_part 4294967295))) (λ x. is_status x.1 x.2))
    (λ x h. let b = status_back x.1 x.2 h.0.1 h.0.2 h.1 in rw (b.0, b.1) refl)

pub map_law : IsPart map_part
map_law = with_test_part _ (several_part token_status token_status_part) (ascends 0)

pub maps_law : (instances : Option ℕ) → IsPart (maps_part instances)
maps_law None = standing_part only_one first_map map_part map_law (λ m h. refl)
maps_law (Some n) = with_test_part _ (several_part map_part map_law) (λ ms. length ms == n)

-- ---- types

pub ids_part : IsPart ids
ids_part = several_part id id_part

key_law : AreFields key_fields
key_law = triple_fields id id ids id_part id_part ids_part

own_law : AreFields own_fields
own_law = triple_fields mask id ids mask_part id_part ids_part

var_law : AreFields var_fields
var_law = pair_fields id ids id_part ids_part

pub word : (t w : List ℕ) → bytes_eq t w ≡ true → t ≡ w
word t w e = search (rules, bytes_eq-Decides t w)

-- one tag after another
pub tag_step : {A : Type 0} (P : A → Type 0) (t w : List ℕ) (x y : Option A) → (t ≡ w → IfSome x P) → IfSome y P →
    IfSome (if bytes_eq t w then x else y) P
tag_step {A} P t w x y h k = by (bytes_eq t w) refl
  where
    by : (b : Bool) → bytes_eq t w ≡ b → IfSome (if b then x else y) P
    by true e = h (word t w e)
    by false e = k

-- the fields after a tag
pub after_tag : {A X : Type 0} (P : A → Type 0) (f : Fields X) → AreFields f → (mk : X → A) (ds : List Data) →
    ((x : X) → ds ≡ f.items x → f.Fits x → P (mk x)) → IfSome (option_map mk (f.of_items ds)) P
after_tag P f law mk ds go = map_on (λ x. (ds ≡ f.items x) × f.Fits x) P mk (f.of_items ds) (law.reads ds) (λ x h. go x h.0 h.1)

abbrev IsTy : Data → Ty → Type 0
IsTy d t = (d ≡ ty_data t) × FitsTy t

pub no_more : {A : Type 0} (P : A → Type 0) (a : A) (ds : List Data) → (ds ≡ [] → P a) → IfSome (if_empty a ds) P
no_more P a [] go = go refl
no_more P a (d ∷ ds) go = tt

pub ty_read : (d : Data) (t : List ℕ) (ds : List Data) → d ≡ tagged_list t ds → IfSome (ty_of_tag t ds) (IsTy d)
ty_read d t ds is =
    tag_step (IsTy d) t (codes "int") _ _ (λ e. no_more (IsTy d) int ds (λ k. (is ∙ rw (e, k) refl, tt)))
    (tag_step (IsTy d) t (codes "bool") _ _ (λ e. no_more (IsTy d) bool ds (λ k. (is ∙ rw (e, k) refl, tt)))
    (tag_step (IsTy d) t (codes "key") _ _ (λ e. after_tag (IsTy d) key_fields key_law (λ x. tracked x.0 x.1 x.2) ds
    (λ x k h. (is ∙ rw (e, k) refl, h)))
    (tag_step (IsTy d) t (codes "own") _ _ (λ e. after_tag (IsTy d) own_fields own_law (λ x. owning x.0 x.1 x.2) ds
    (λ x k h. (is ∙ rw (e, k) refl, h)))
    (tag_step (IsTy d) t (codes "guard") _ _ (λ e. after_tag (IsTy d) key_fields key_law (λ x. guarded x.0 x.1 x.2) ds
    (λ x k h. (is ∙ rw (e, k) refl, h)))
    (tag_step (IsTy d) t (codes "var") _ _ (λ e. after_tag (IsTy d) var_fields var_law (λ x. variant x.0 x.1) ds (λ x k h. (is ∙ rw (e, k) refl, h)))
    (tag_step (IsTy d) t (codes "ownvar") _ None (λ e. after_tag (IsTy d) var_fields var_law (λ x. owning_variant x.0 x.1) ds
    (λ x k h. (is ∙ rw (e, k) refl, h))) tt))))))

-- an array that begins with a text
pub tagged_array : {A : Type 0} (P : A → Type 0) (go : List ℕ → List Data → Option A) (d : Data) →
    ((t : List ℕ) (ds : List Data) → d ≡ tagged_list t ds → IfSome (go t ds) P) →
    IfSome (option_and_then (by_tag go) (array_in d)) P
tagged_array P go d k = and_then_in (λ ds. d ≡ list ds) P (by_tag go) (array_in d) (array_read d) items
  where
    items : (ds : List Data) → d ≡ list ds → IfSome (by_tag go ds) P
    items [] is = tt
    items (x ∷ ds) is = and_then_in (λ t. (x ≡ string t) × Unit {0}) P (λ t. go t ds) (as_str x) (text_part.reads x)
        (λ t h. k t ds (is ∙ rw (h.0) refl))

ty_back : (t : Ty) → FitsTy t → ty.of_data (ty_data t) ≡ Some t
ty_back int h = refl
ty_back bool h = refl
ty_back (tracked k t args) h = ap (option_map (λ x. tracked x.0 x.1 x.2)) (key_law.back (k, t, args) h)
ty_back (owning s t args) h = ap (option_map (λ x. owning x.0 x.1 x.2)) (own_law.back (s, t, args) h)
ty_back (guarded k t args) h = ap (option_map (λ x. guarded x.0 x.1 x.2)) (key_law.back (k, t, args) h)
ty_back (variant t args) h = ap (option_map (λ x. variant x.0 x.1)) (var_law.back (t, args) h)
ty_back (owning_variant t args) h = ap (option_map (λ x. owning_variant x.0 x.1)) (var_law.back (t, args) h)

pub ty_part : IsPart ty
ty_part = record { back = ty_back; reads = λ d. tagged_array (IsTy d) ty_of_tag d (ty_read d) }

-- ---- declarations

pub field_part : IsPart field
field_part = standing_part _ _ _ (tuple_part _ (triple_fields text ty mask text_part ty_part mask_part)) (λ x h. refl)

pub case_key_part : IsPart case_key
case_key_part = standing_part _ _ _ (tuple_part _ (pair_fields id mask id_part mask_part)) (λ x h. refl)

pub key_decl_part : IsPart key_decl
key_decl_part = standing_part _ _ _ (tuple_part _ (pair_fields text (minus_or id) text_part (minus_part id id_part))) (λ x h. refl)

pub var_decl_part : IsPart var_decl
var_decl_part = standing_part _ _ _ (tuple_part _ (pair_fields text ty text_part ty_part)) (λ x h. refl)

pub few_part : {A : Type 0} (most : ℕ) (p : Part A) → IsPart p → IsPart (few most p)
few_part most p law = with_test_part _ (several_part p law) (λ xs. nat_le (length xs) most)

pub header_part : IsPart header
header_part = few_part 16 (minus_or id) (minus_part id id_part)

flag_back : (n : ℕ) → n ≤ 1 → (if n == 1 then 1 else 0) ≡ n
flag_back zero h = refl
flag_back (suc zero) h = refl
flag_back (suc (suc n)) h = absurd (omega (arith, h))

pub flag_part : IsPart flag
flag_part = standing_part _ _ (number_to 1) (number_to_part 1) flag_back

side_part : IsPart side
side_part = minus_part (number_to 4294967295) (number_to_part 4294967295)

abbrev FitsSide : Side → Type 0
FitsSide None = Unit {0}
FitsSide (Some n) = n ≤ 4294967295

side_fits : (x : Side) → side.Fits x → FitsSide x
side_fits None h = tt
side_fits (Some n) h = h.0

-- a side that isn't 0 comes back from its states
held_back : (x : Side) → FitsSide x → not (is_zero_side x) ≡ true → held_number (side_states x) ≡ x
held_back None h is = refl
held_back (Some n) h is = by (n == 0) refl
  where
    by : (b : Bool) → (n == 0) ≡ b → held_number (if b then None else Some (is_bit n)) ≡ Some n
    by true e = absurd (true≢false (sym is ∙ ap not e))
    by false e = ap Some (mask_back n h)

zero_back : (x : Side) → is_zero_side x ≡ true → Some 0 ≡ x
zero_back None is = absurd (true≢false (sym is))
zero_back (Some n) is = ap Some (none n is)
  where
    none : (n : ℕ) → (n == 0) ≡ true → 0 ≡ n
    none n is = grind (arith, nat_tests)

both_so : (a b : Bool) → (a && b) ≡ true → (a ≡ true) × (b ≡ true)
both_so true b e = (refl, e)
both_so false b e = absurd (true≢false (sym e))

bound_back : (b : Side) → is_bound_side b ≡ true → Some (bound_number b) ≡ b
bound_back None is = absurd (true≢false (sym is))
bound_back (Some n) is = refl

unsaid_back : (a : Side) → is_unsaid a ≡ true → None ≡ a
unsaid_back None is = refl
unsaid_back (Some n) is = absurd (true≢false (sym is))

numbers_back : (m k : ℕ) (b a : Side) → m ≤ 4 → FitsSide b → FitsSide a → is_entry (m, k, b, a) ≡ true →
    entry_numbers (entry_of (m, k, b, a)) ≡ (m, k, b, a)
numbers_back zero k b a h hb ha is =
    let x = both_so (not (is_zero_side b) && not (is_zero_side a)) (are_alike b a) is in
    let y = both_so (not (is_zero_side b)) (not (is_zero_side a)) x.0 in
    rw (held_back b hb y.0, held_back a ha y.1) refl
numbers_back (suc zero) k b a h hb ha is =
    let y = both_so (not (is_zero_side b)) (is_zero_side a) is in
    rw (held_back b hb y.0, zero_back a y.1) refl
numbers_back (suc (suc zero)) k b a h hb ha is =
    let y = both_so (is_zero_side b) (not (is_zero_side a)) is in
    rw (zero_back b y.0, held_back a ha y.1) refl
numbers_back (suc (suc (suc zero))) k b a h hb ha is =
    let y = both_so (is_zero_side b) (not (is_zero_side a)) is in
    rw (zero_back b y.0, held_back a ha y.1) refl
numbers_back (suc (suc (suc (suc zero)))) k b a h hb ha is =
    let y = both_so (is_bound_side b) (is_unsaid a) is in
    ap (λ x. (4, k, x, after_number (mode_of_number 4 (bound_number b)) (side_states a))) (bound_back b y.0) ∙
    ap (λ x. (4, k, b, x)) (unsaid_back a y.1)
numbers_back (suc (suc (suc (suc (suc m))))) k b a h hb ha is = absurd (omega (arith, h))

modes_within : (ordered : Bool) (m : ℕ) → m ≤ last_mode ordered → m ≤ 4
modes_within true m h = h
modes_within false m h = omega (arith, h)

pub entry_part : (ordered : Bool) → IsPart (entry ordered)
entry_part ordered =
    standing_part entry_of entry_numbers _
    (with_test_part _ (tuple_part _ (quadruple_fields (number_to (last_mode ordered)) id side side
    (number_to_part (last_mode ordered)) id_part side_part side_part)) is_entry)
    (λ x h. numbers_back x.0 x.1 x.2 x.3 (modes_within ordered x.0 h.0.0) (side_fits x.2 h.0.2) (side_fits x.3 h.0.3) h.1)
