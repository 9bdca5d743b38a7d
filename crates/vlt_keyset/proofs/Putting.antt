-- Pairs put into a held map, from the last to the first.
use Rattle.std.proofs.Common.{◌≡◌, ◌≢◌, ◌<◌, ◌≤◌, ◌+◌, ◌-◌, ◌==◌, ℕ, Bool, true, false, if◌then◌else◌, List, [], ◌∷◌, length, drop, set, get_or, get_or-set_same, get_or-set_other, length-set, zero, suc, refl, sym, ap, ◌∙◌, subst, arith}
use Rattle.std.proofs.lemmas.Bool.Decides.{nat_tests}
use Rattle.std.proofs.lemmas.List.{drop_all}
use Rattle.vlt_core.specs.Core.{Tok, a_key, a_var}
use Rattle.vlt_core.specs.Maps.{is_tok, absent}
use Rattle.vlt_core.specs.View.{tok_of}
use Rattle.vlt_core.specs.HeldView.{status_of}
use Rattle.vlt_core.specs.declared.held.Status as DS
use Rattle.vlt_core.specs.declared.held.Status.TheVariants.{Absent}
use Rattle.vlt_keyset.specs.Pairs.{Pair, map_of_pairs, IsAmong, AreAmong}
use Rattle.vlt_keyset.specs.Held.{Statuses, map_of, HasPlace}
use Rattle.vlt_keyset.specs.Tables.{put_in}
use Rattle.vlt_keyset.proofs.Ordered.{split_at}

-- the status at a place of a table in which one was put
put_at : (xs : List DS.Status) (i k : ℕ) (s : DS.Status) → k < length xs → status_of (get_or (set xs k s) i Absent) ≡ (if i == k then status_of s else status_of (get_or xs i Absent))
put_at xs i k s lt = by (i == k) refl
  where
    same : (i k : ℕ) → (i == k) ≡ true → i ≡ k
    same i k e = grind (arith, nat_tests)

    other : (i k : ℕ) → (i == k) ≡ false → i ≢ k
    other i k e = grind (arith, nat_tests)

    by : (b : Bool) → (i == k) ≡ b → status_of (get_or (set xs k s) i Absent) ≡ (if b then status_of s else status_of (get_or xs i Absent))
    by true e = ap (λ j. status_of (get_or (set xs k s) j Absent)) (same i k e) ∙ ap status_of (get_or-set_same xs k s Absent lt)
    by false e = ap status_of (get_or-set_other xs k i s Absent (other i k e))

put_map : (h : Statuses) (t u : Tok) (s : DS.Status) → HasPlace h t → map_of (put_in h t s) u ≡ (if is_tok u t then status_of s else map_of h u)
put_map h (a_key k) (a_key j) s lt = put_at h.keys j k s lt
put_map h (a_key k) (a_var w) s lt = refl
put_map h (a_var v) (a_key j) s lt = refl
put_map h (a_var v) (a_var w) s lt = put_at h.vars w v s lt

put_keys : (h : Statuses) (t : Tok) (s : DS.Status) → length (put_in h t s).keys ≡ length h.keys
put_keys h (a_key k) s = length-set h.keys k s
put_keys h (a_var v) s = refl

put_vars : (h : Statuses) (t : Tok) (s : DS.Status) → length (put_in h t s).vars ≡ length h.vars
put_vars h (a_key k) s = refl
put_vars h (a_var v) s = length-set h.vars v s

-- the last j pairs are in the map
pub record IsPut (m n : ℕ) (xs : List Pair) (j : ℕ) (h : Statuses) : Type 0 where
  pub map : map_of h ≡ map_of_pairs (drop (length xs - j) xs)
  pub keys : length h.keys ≡ m
  pub vars : length h.vars ≡ n

pub put_first : (keys vars : ℕ) (xs : List Pair) (h : Statuses) → map_of h ≡ (λ t. absent) → length h.keys ≡ keys → length h.vars ≡ vars → IsPut keys vars xs 0 h
put_first keys vars xs h e k v = record { map = e ∙ sym (ap map_of_pairs (drop_all (length xs - 0) xs (omega arith))); keys = k; vars = v }

-- the pair before the last j
split_back : (xs : List Pair) (j : ℕ) (x : Pair) → j < length xs → x ≡ get_or xs (length xs - 1 - j) x → drop (length xs - (j + 1)) xs ≡ x ∷ drop (length xs - j) xs
split_back xs j x lt read =
    let here : length xs - 1 - j ≡ length xs - (j + 1) = omega arith in
    let next : length xs - 1 - j + 1 ≡ length xs - j = omega arith in
    ap (λ i. drop i xs) (sym here) ∙ split_at xs (length xs - 1 - j) x (omega arith) read ∙ ap (λ i. x ∷ drop i xs) next

pub put_more : (keys vars : ℕ) (xs : List Pair) (j : ℕ) (x : Pair) (h k : Statuses) → j < length xs → x ≡ get_or xs (length xs - 1 - j) x → HasPlace h (tok_of x.0) → k ≡ put_in h (tok_of x.0) x.1 → IsPut keys vars xs j h → IsPut keys vars xs (j + 1) k
put_more keys vars xs j x h k lt read place new g = subst (IsPut keys vars xs (j + 1)) (sym new) (record {
  map = λ i u. each u i;
  keys = put_keys h (tok_of x.0) x.1 ∙ g.keys;
  vars = put_vars h (tok_of x.0) x.1 ∙ g.vars;
})
  where
    each : (u : Tok) → map_of (put_in h (tok_of x.0) x.1) u ≡ map_of_pairs (drop (length xs - (j + 1)) xs) u
    each u =
        put_map h (tok_of x.0) u x.1 place ∙ ap (λ m. if is_tok u (tok_of x.0) then status_of x.1 else m u) g.map ∙
        sym (ap (λ l. map_of_pairs l u) (split_back xs j x lt read))

pub put_all : (keys vars : ℕ) (xs : List Pair) (j : ℕ) (h : Statuses) → length xs ≤ j → IsPut keys vars xs j h → map_of h ≡ map_of_pairs xs
put_all keys vars xs j h past g = let all : length xs - j ≡ 0 = omega arith in g.map ∙ ap (λ i. map_of_pairs (drop i xs)) all

-- ---- a token without a place

among_at : (keys vars : ℕ) (xs : List Pair) (i : ℕ) → AreAmong keys vars xs → AreAmong keys vars (drop i xs)
among_at keys vars xs zero a = a
among_at keys vars [] (suc i) a = tt
among_at keys vars (x ∷ xs) (suc i) a = among_at keys vars xs i a.1

place_among : (h : Statuses) (keys vars : ℕ) (t : Tok) → length h.keys ≡ keys → length h.vars ≡ vars → IsAmong keys vars t → HasPlace h t
place_among h keys vars (a_key k) e f a = omega (arith, e, a)
place_among h keys vars (a_var v) e f a = omega (arith, f, a)

pub no_place : (keys vars : ℕ) (xs : List Pair) (j : ℕ) (x : Pair) (h : Statuses) → j < length xs → x ≡ get_or xs (length xs - 1 - j) x → (HasPlace h (tok_of x.0) → ⊥) → IsPut keys vars xs j h → AreAmong keys vars xs → ⊥
no_place keys vars xs j x h lt read none g a =
    none (place_among h keys vars (tok_of x.0) g.keys g.vars (subst (AreAmong keys vars) (split_back xs j x lt read) (among_at keys vars xs (length xs - (j + 1)) a)).0)
