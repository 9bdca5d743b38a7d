-- The sum of a set's bits is its number; lists of states, and how many they have.
use Rattle.std.proofs.Common.{◌≡◌, ◌≤◌, ◌<◌, ℕ, zero, suc, ◌+◌, ◌-◌, ◌*◌, ◌/◌, ◌%◌, ◌^◌, ◌==◌, nat_le, Bool, true, false, if◌then◌else◌, [], ◌∷◌, ◌++◌, length, filter, refl, sym, ap, ◌∙◌, arith, add-one, length-append}
use Rattle.std.proofs.lemmas.Bool.Decides.{nat_tests}
use Rattle.std.proofs.lemmas.List.Sums.{sum_by-append}
use Rattle.std.proofs.lemmas.List.Elements.{filter-append}
use Rattle.std.proofs.lemmas.Nat.Bits.{bit_at-lt}
use Rattle.std.proofs.Math.Pow.{split, field, mod-mod-pow, pow-lt, pow_mono}
use Rattle.std.proofs.Math.Nat.{pow-suc}
use Rattle.std.specs.List.{range_with_len, sum_by}
use Rattle.std.specs.Int.{bit_at}
use Rattle.vlt_base.specs.States.{is_bit}
use Rattle.vlt_core.specs.Core.{States}
use Rattle.c_syntax.specs.declared.program.CPrim.TheVariants as prim
use Rattle.c_lower.specs.Statements.{runtime_call}
use Rattle.c_lower.specs.Glue.{mask, pick_state}
use Rattle.c_lower_program.specs.Glue.Picks.{states_below, picked}

-- ---- lists of states

pub one_more : (a n : ℕ) → range_with_len a (suc n) ≡ range_with_len a n ++ (a + n) ∷ []
one_more a zero = let e : a ≡ a + 0 = omega arith in ap (λ k. k ∷ []) e
one_more a (suc n) =
    let e : a + 1 + n ≡ a + suc n = omega arith in
    ap (λ ks. a ∷ ks) (one_more (a + 1) n ∙ ap (λ k. range_with_len (a + 1) n ++ k ∷ []) e)

from_0 : (n : ℕ) → range_with_len 0 (suc n) ≡ range_with_len 0 n ++ n ∷ []
from_0 n = let e : 0 + n ≡ n = omega arith in one_more 0 n ∙ ap (λ k. range_with_len 0 n ++ k ∷ []) e

below_is : (n : ℕ) (s : States) → states_below n s ≡ filter s (range_with_len 0 n)
unfolding states_below
below_is zero s = refl
below_is (suc n) s =
    ap (λ ks. ks ++ (if s n then n ∷ [] else [])) (below_is n s)
    ∙ sym (filter-append s (range_with_len 0 n) (n ∷ []))
    ∙ ap (filter s) (sym (from_0 n))

picked_is : (s : States) → picked s ≡ pick_state s
unfolding picked
picked_is s =
    ap (λ ns. if nat_le 2 (length ns) then runtime_call prim.Pick (mask ns ∷ []) ∷ [] else []) (below_is 32 s)

pub picked_all : picked ≡ pick_state
picked_all = λ i s. picked_is s i

below_same : (n : ℕ) (s r : States) → ((i : ℕ) → i < n → s i ≡ r i) → states_below n s ≡ states_below n r
unfolding states_below
below_same zero s r e = refl
below_same (suc n) s r e =
    ap (λ ks. ks ++ (if s n then n ∷ [] else [])) (below_same n s r (λ i l. e i (omega arith)))
    ∙ ap (λ b. states_below n r ++ (if b then n ∷ [] else [])) (e n (omega arith))

-- what the states from 32 on are makes no difference
pub picked_same : (s r : States) → ((i : ℕ) → i < 32 → s i ≡ r i) → picked s ≡ picked r
unfolding picked
picked_same s r e =
    ap (λ ns. if nat_le 2 (length ns) then runtime_call prim.Pick (mask ns ∷ []) ∷ [] else []) (below_same 32 s r e)

none_below : (n : ℕ) → states_below n (λ i. false) ≡ []
unfolding states_below
none_below zero = refl
none_below (suc n) = ap (λ ks. ks ++ []) (none_below n)

pub none_picked : picked (λ i. false) ≡ []
unfolding picked
none_picked = ap (λ ns. if nat_le 2 (length ns) then runtime_call prim.Pick (mask ns ∷ []) ∷ [] else []) (none_below 32)

-- one state isn't asked for, and more are
pub not_asked : (s : States) → length (states_below 32 s) < 2 → picked s ≡ []
unfolding picked
not_asked s few =
    let e : nat_le 2 (length (states_below 32 s)) ≡ false = grind (arith, nat_tests) in
    ap (λ b. if b then runtime_call prim.Pick (mask (states_below 32 s) ∷ []) ∷ [] else []) e

pub asked : (s : States) → 2 ≤ length (states_below 32 s) → picked s ≡ runtime_call prim.Pick (mask (states_below 32 s) ∷ []) ∷ []
unfolding picked
asked s many =
    let e : nat_le 2 (length (states_below 32 s)) ≡ true = grind (arith, nat_tests) in
    ap (λ b. if b then runtime_call prim.Pick (mask (states_below 32 s) ∷ []) ∷ [] else []) e

-- ---- how many there are

pub no_states : (s : States) → length (states_below 0 s) ≡ 0
unfolding states_below
no_states s = refl

next_length : (n : ℕ) (s : States) → length (states_below (n + 1) s) ≡ length (states_below n s) + length (if s n then n ∷ [] else [])
unfolding states_below
next_length n s =
    ap (λ k. length (states_below k s)) (add-one n) ∙ length-append (states_below n s) (if s n then n ∷ [] else [])

pub count_in : (n : ℕ) (s : States) → s n ≡ true → length (states_below (n + 1) s) ≡ length (states_below n s) + 1
count_in n s e = next_length n s ∙ ap (λ b. length (states_below n s) + length (if b then n ∷ [] else [])) e

pub count_out : (n : ℕ) (s : States) → s n ≡ false → length (states_below (n + 1) s) ≡ length (states_below n s)
count_out n s e =
    let none : length (states_below n s) + 0 ≡ length (states_below n s) = omega arith in
    next_length n s ∙ ap (λ b. length (states_below n s) + length (if b then n ∷ [] else [])) e ∙ none

-- ---- sums of bits

next_bits : (m n : ℕ) → m % 2 ^ n + bit_at m n * 2 ^ n ≡ m % 2 ^ suc n
next_bits m n =
    let whole : m % 2 ^ (1 + n) / 2 ^ n * 2 ^ n + m % 2 ^ (1 + n) % 2 ^ n ≡ m % 2 ^ (1 + n) = split (m % 2 ^ (1 + n)) n in
    let low : m % 2 ^ (1 + n) % 2 ^ n ≡ m % 2 ^ n = mod-mod-pow m 1 n in
    let high : m % 2 ^ (1 + n) / 2 ^ n ≡ bit_at m n = field m 1 n in
    let next : 1 + n ≡ suc n = omega arith in
    let a = m % 2 ^ n in
    let b = bit_at m n * 2 ^ n in
    let swapped : a + b ≡ b + a = omega arith in
    swapped
    ∙ ap (λ k. bit_at m n * 2 ^ n + k) (sym low)
    ∙ ap (λ k. k * 2 ^ n + m % 2 ^ (1 + n) % 2 ^ n) (sym high)
    ∙ whole
    ∙ ap (λ k. m % 2 ^ k) next

one_bit : (n bit : ℕ) (b : Bool) → bit < 2 → (bit == 1) ≡ b → sum_by (λ k. 2 ^ k) (if b then n ∷ [] else []) ≡ bit * 2 ^ n
one_bit n bit true small e =
    let is : bit ≡ 1 = grind (arith, nat_tests) in
    let once : 0 + 2 ^ n ≡ 1 * 2 ^ n = omega arith in
    once ∙ ap (λ k. k * 2 ^ n) (sym is)
one_bit n bit false small e =
    let is : bit ≡ 0 = grind (arith, nat_tests) in
    let none : 0 ≡ 0 * 2 ^ n = omega arith in
    none ∙ ap (λ k. k * 2 ^ n) (sym is)

sum_is : (m n : ℕ) (s : States) → ((i : ℕ) → is_bit m i ≡ s i) → sum_by (λ k. 2 ^ k) (states_below n s) ≡ m % 2 ^ n
unfolding states_below
sum_is m zero s e = omega arith
sum_is m (suc n) s e =
    sum_by-append (λ k. 2 ^ k) (states_below n s) (if s n then n ∷ [] else [])
    ∙ ap (λ k. k + sum_by (λ k. 2 ^ k) (if s n then n ∷ [] else [])) (sum_is m n s e)
    ∙ ap (λ k. m % 2 ^ n + k) (one_bit n (bit_at m n) (s n) (bit_at-lt m n) (e n))
    ∙ next_bits m n

pub sum_of_mask : (m : ℕ) (s : States) → ((i : ℕ) → is_bit m i ≡ s i) → m < 2 ^ 32 → sum_by (λ k. 2 ^ k) (states_below 32 s) ≡ m
sum_of_mask m s e small =
    let same : m % 2 ^ 32 ≡ m = omega arith in
    sum_is m 32 s e ∙ same

-- the bits of all numbers below one
ones : (n : ℕ) → sum_by (λ k. 2 ^ k) (range_with_len 0 n) + 1 ≡ 2 ^ n
ones zero = refl
ones (suc n) =
    let before = ones n in
    let all : sum_by (λ k. 2 ^ k) (range_with_len 0 (suc n)) ≡ sum_by (λ k. 2 ^ k) (range_with_len 0 n) + (0 + 2 ^ n) =
    ap (sum_by (λ k. 2 ^ k)) (from_0 n) ∙ sum_by-append (λ k. 2 ^ k) (range_with_len 0 n) (n ∷ []) in
    let twice : 2 ^ suc n ≡ 2 ^ n * 2 = pow-suc 2 n in
    omega arith

pub all_ones : (n : ℕ) → n ≤ 63 → 1 * 2 ^ n % 2 ^ 64 - 1 ≡ sum_by (λ k. 2 ^ k) (range_with_len 0 n)
all_ones n few =
    let less : n < 64 = omega arith in
    let below : 2 ^ n < 2 ^ 64 = pow-lt less in
    let sum = ones n in
    omega arith

pub ones_fit : (n : ℕ) → n ≤ 63 → 1 * 2 ^ n % 2 ^ 64 - 1 < 2 ^ 63
ones_fit n few =
    let less : n < 64 = omega arith in
    let below : 2 ^ n < 2 ^ 64 = pow-lt less in
    let most : 2 ^ n ≤ 2 ^ 63 = pow_mono few in
    omega arith
