-- The states up to one, as loops over the links of a set find them.
use Rattle.std.proofs.Common.{◌≡◌, ◌==◌, ◌||◌, ◌&&◌, ◌<◌, ◌≤◌, ◌+◌, ℕ, zero, suc, nat_lt, Bool, true, false, List, [], ◌∷◌, map, bit_and, min, refl, sym, ap, ◌∙◌, add-one, arith}
use Rattle.std.proofs.Math.Path.{fun_ext}
use Rattle.std.specs.List.{list_any}
use Rattle.std.specs.Int.{bit_at}
use Rattle.std.proofs.lemmas.Nat.Bits.{bit_at_and, bit_at-lt, bit_at_above}
use Rattle.std.proofs.lemmas.Bool.Decides.{nat_tests}
use Rattle.vlt_base.specs.States.{has_state, is_bit}
use Rattle.vlt_base.specs.declared.states.StateSet.{StateSet}
use Rattle.vlt_core.specs.Core as core
use Rattle.vlt_core.specs.Core.{States}
use Rattle.vlt_core.specs.View.{link_of}
use Rattle.vlt_core.specs.Lookups.{no_states, every_state, leads_up}
use Rattle.vlt_core.specs.declared.program.Link.{Link}
use Rattle.vlt_core.proofs.Sets.{none_above}

-- ---- both

both_bits : (m n i : ℕ) → is_bit (bit_and m n) i ≡ (is_bit m i && is_bit n i)
both_bits m n i =
    let both : bit_at (bit_and m n) i ≡ min (bit_at m i) (bit_at n i) = bit_at_and m n i in
    let left : bit_at m i < 2 = bit_at-lt m i in
    let right : bit_at n i < 2 = bit_at-lt n i in
    grind (arith, nat_tests)

-- the mask of the numbers that are in both sets
pub both_masks : (a b : StateSet) (m n i : ℕ) → is_bit m i ≡ has_state a i → is_bit n i ≡ has_state b i → is_bit (bit_and m n) i ≡ (has_state a i && has_state b i)
both_masks a b m n i e f = both_bits m n i ∙ (ap (λ x. x && is_bit n i) e ∙ ap (λ x. has_state a i && x) f)

-- a number with a bit is not 0
zero_bits : (i : ℕ) → bit_at 0 i ≡ 0
zero_bits i = bit_at_above 0 0 i (omega arith) (omega arith)

-- an empty mask
pub none_both : (a b : StateSet) (m : ℕ) → ((i : ℕ) → is_bit m i ≡ (has_state a i && has_state b i)) → m ≡ 0 → ◌≡◌ {A = States} no_states (λ i. has_state a i && has_state b i)
none_both a b m each empty = fun_ext (λ i. sym (ap (λ k. k == 1) (zero_bits i)) ∙ (ap (λ k. is_bit k i) (sym empty) ∙ each i))

-- ---- links

any_same : (p : core.Link → Bool) (q : Link → Bool) (ls : List Link) → ((l : Link) → q l ≡ p (link_of l)) → list_any q ls ≡ list_any p (map link_of ls)
any_same p q [] same = refl
any_same p q (l ∷ ls) same = ap (λ x. x || list_any q ls) (same l) ∙ ap (λ x. p (link_of l) || x) (any_same p q ls same)

-- a link leads into the set where it leads up
into : (x : Bool) (set : StateSet) (upper : ℕ) (up : Bool) → (upper < 32 → has_state set upper ≡ up) → (x && has_state set upper) ≡ (x && (every_state upper && up))
into x set upper up e = ap (λ b. x && b) (by (nat_lt upper 32) refl)
  where
    by : (b : Bool) → nat_lt upper 32 ≡ b → has_state set upper ≡ (b && up)
    by true below = e (grind (arith, nat_tests))
    by false from = none_above set upper (grind (arith, nat_tests))

up_more : (ls : List core.Link) (n x y : ℕ) → leads_up ls (suc n) x y ≡ (x == y || list_any (λ l. l.lower == x && (every_state l.upper && leads_up ls n l.upper y)) ls)
unfolding leads_up
up_more ls n x y = refl

-- a step of the search is a step of the definition
pub one_step : (ls : List Link) (set up : StateSet) (n b x : ℕ) → ((y : ℕ) → y < 32 → has_state set y ≡ leads_up (map link_of ls) n y b) →
    has_state up x ≡ (x == b || list_any (λ l. l.lower == x && has_state set l.upper) ls) → has_state up x ≡ leads_up (map link_of ls) (n + 1) x b
one_step ls set up n b x each e =
    let all = map link_of ls in
    let same = any_same (λ l. l.lower == x && (every_state l.upper && leads_up all n l.upper b)) (λ l. l.lower == x && has_state set l.upper) ls
    (λ l. into (l.lower == x) set l.upper (leads_up all n l.upper b) (each l.upper)) in
    e ∙ (ap (λ c. x == b || c) same ∙ (sym (up_more all n x b) ∙ ap (λ k. leads_up all k x b) (sym (add-one n))))

-- from no state below 32 links lead to one from 32 on
none_to : (ls : List core.Link) (n b : ℕ) → ((y : ℕ) → y < 32 → leads_up ls n y b ≡ false) → (x : ℕ) (ks : List core.Link) →
    list_any (λ l. l.lower == x && (every_state l.upper && leads_up ls n l.upper b)) ks ≡ false
none_to ls n b none x [] = refl
none_to ls n b none x (l ∷ ks) =
    ap (λ c. c || list_any (λ l. l.lower == x && (every_state l.upper && leads_up ls n l.upper b)) ks) (at (l.lower == x) (nat_lt l.upper 32) refl) ∙ none_to ls n b none x ks
  where
    at : (a c : Bool) → nat_lt l.upper 32 ≡ c → (a && (c && leads_up ls n l.upper b)) ≡ false
    at false c is = refl
    at true false is = refl
    at true true is = none l.upper (grind (arith, nat_tests))

pub none_up : (ls : List core.Link) (n b x : ℕ) → 32 ≤ b → x < 32 → leads_up ls n x b ≡ false
unfolding leads_up
none_up ls zero b x from below = grind (arith, nat_tests)
none_up ls (suc n) b x from below =
    let apart : (x == b) ≡ false = grind (arith, nat_tests) in
    up_more ls n x b ∙ (ap (λ c. c || list_any (λ l. l.lower == x && (every_state l.upper && leads_up ls n l.upper b)) ls) apart ∙ none_to ls n b (λ y less. none_up ls n b y from less) x ls)

pub up_alone : (ls : List core.Link) (x b : ℕ) → leads_up ls 0 x b ≡ (x == b)
unfolding leads_up
up_alone ls x b = refl

-- ---- the states up to one

pub up_of_none : (n : ℕ) (up : States) → n ≡ 0 → ◌≡◌ {A = States} no_states (λ i. every_state i && (nat_lt i n && up i))
up_of_none n up none = fun_ext (λ i. sym (at i (nat_lt i 32) (grind (arith, nat_tests))))
  where
    at : (i : ℕ) (b : Bool) → nat_lt i n ≡ false → (b && (nat_lt i n && up i)) ≡ false
    at i false is = refl
    at i true is = ap (λ c. c && up i) is

pub up_to_far : (all : States) (ls : List core.Link) (b : ℕ) → 32 ≤ b → ◌≡◌ {A = States} no_states (λ i. every_state i && (all i && leads_up ls 31 i b))
up_to_far all ls b from = fun_ext (λ i. sym (at i (nat_lt i 32) (all i) refl))
  where
    at : (i : ℕ) (c d : Bool) → nat_lt i 32 ≡ c → (c && (d && leads_up ls 31 i b)) ≡ false
    at i false d is = refl
    at i true false is = refl
    at i true true is = none_up ls 31 b i from (grind (arith, nat_tests))

pub cut : (first up : StateSet) (n : ℕ) (leads : States) → ((i : ℕ) → has_state first i ≡ (nat_lt i 32 && nat_lt i n)) → ((i : ℕ) → i < 32 → has_state up i ≡ leads i) →
    ◌≡◌ {A = States} (λ i. has_state first i && has_state up i) (λ i. every_state i && (nat_lt i n && leads i))
cut first up n leads of_first of_up = fun_ext (λ i. ap (λ c. c && has_state up i) (of_first i) ∙ at i (nat_lt i 32) refl)
  where
    at : (i : ℕ) (b : Bool) → nat_lt i 32 ≡ b → ((b && nat_lt i n) && has_state up i) ≡ (b && (nat_lt i n && leads i))
    at i false is = refl
    at i true is = ap (λ c. nat_lt i n && c) (of_up i (grind (arith, nat_tests)))
