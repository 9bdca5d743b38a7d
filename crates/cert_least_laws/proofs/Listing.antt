-- A held map is listed in one way.
use Rattle.std.proofs.Common.{◌≡◌, ◌≤◌, ◌<◌, ◌&&◌, ◌==◌, ℕ, suc, nat_le, nat_lt, Bool, true, false, true≢false, [], ◌∷◌, length, Option, Some, None, refl, sym, ap, ◌∙◌, subst, arith}
use Rattle.std.proofs.lemmas.Bool.{eq-eqb}
use Rattle.std.proofs.lemmas.Bool.Decides.{nat_tests}
use Rattle.vlt_core.specs.Core.{Tok, a_key, a_var}
use Rattle.vlt_core.specs.Maps.{absent, is_tok}
use Rattle.vlt_core_laws.proofs.Binding.{on_true, on_false}
use Rattle.vlt_core_laws.proofs.Founds.{same_is}
use Rattle.cert_rows.specs.Parts.{All}
use Rattle.cert_rows.specs.Values.{number_of_tok, tok_of_number, token, kind_number, TokenStatus, token_status, ascends, ListedMap, map_part, only_one, first_map, maps_part}
use Rattle.cert_rows.specs.Rows.{Maps}
use Rattle.cert_fit_laws.specs.Annotation.{held_map}
use Rattle.cert_least_laws.specs.LeastNotes.{map_at}

-- ---- tokens and statuses

same_token : (t u : Tok) → token.Fits t → token.Fits u → number_of_tok t ≡ number_of_tok u → t ≡ u
same_token t u p q e = sym p.1 ∙ (ap tok_of_number e ∙ q.1)

pub is_itself : (t : Tok) → is_tok t t ≡ true
is_itself (a_key k) = eq-eqb k k refl
is_itself (a_var v) = eq-eqb v v refl

-- a token of a map isn't absent
present : (x : TokenStatus) → token_status.Fits x → x.1 ≡ absent → ⊥
present x fit e = three (subst (λ s. kind_number s ≤ 2) e fit.0.0.1)
  where
    three : 3 ≤ 2 → ⊥
    three h = omega (arith, h)

-- ---- in order

left_so : (a b : Bool) → (a && b) ≡ true → a ≡ true
left_so true b e = refl
left_so false b e = e

right_so : (a b : Bool) → (a && b) ≡ true → b ≡ true
right_so true b e = e
right_so false b e = absurd (true≢false (sym e))

at_least : (m n : ℕ) → nat_le m n ≡ true → m ≤ n
at_least m n e = grind (arith, nat_tests)

-- a first token and those after it
first_up : (m : ℕ) (x : TokenStatus) (xs : ListedMap) → ascends m (x ∷ xs) ≡ true → m ≤ number_of_tok x.0
first_up m x xs e = at_least m (number_of_tok x.0) (left_so (nat_le m (number_of_tok x.0)) (ascends (suc (number_of_tok x.0)) xs) e)

rest_up : (m : ℕ) (x : TokenStatus) (xs : ListedMap) → ascends m (x ∷ xs) ≡ true → ascends (suc (number_of_tok x.0)) xs ≡ true
rest_up m x xs e = right_so (nat_le m (number_of_tok x.0)) (ascends (suc (number_of_tok x.0)) xs) e

-- a token with a lower number isn't the other one
lower_other : (t u : Tok) → suc (number_of_tok t) ≤ number_of_tok u → is_tok t u ≡ false
lower_other t u less = by (is_tok t u) refl
  where
    never : (a b : ℕ) → suc a ≤ b → a ≡ b → ⊥
    never a b less e = omega (arith, less, e)

    by : (b : Bool) → is_tok t u ≡ b → is_tok t u ≡ false
    by true e = absurd (never (number_of_tok t) (number_of_tok u) less (ap number_of_tok (same_is t u e)))
    by false e = e

upward : (a m n : ℕ) → suc a ≤ m → m ≤ n → suc a ≤ n
upward a m n x y = omega (arith, x, y)

onward : (a m n : ℕ) → suc a ≤ m → m ≤ n → suc a ≤ suc n
onward a m n x y = omega (arith, x, y)

absent_below : (xs : ListedMap) (m : ℕ) (t : Tok) → ascends m xs ≡ true → suc (number_of_tok t) ≤ m → held_map xs t ≡ absent
absent_below [] m t up less = refl
absent_below (x ∷ xs) m t up less =
    let first = first_up m x xs up in
    on_false (is_tok t x.0) x.1 (held_map xs t) (lower_other t x.0 (upward (number_of_tok t) m (number_of_tok x.0) less first)) ∙
    absent_below xs (suc (number_of_tok x.0)) t (rest_up m x xs up) (onward (number_of_tok t) m (number_of_tok x.0) less first)

itself_least : (a : ℕ) → suc a ≤ suc a
itself_least a = omega arith

-- ---- a listed map

head_held : (x : TokenStatus) (xs : ListedMap) → held_map (x ∷ xs) x.0 ≡ x.1
head_held x xs = on_true (is_tok x.0 x.0) x.1 (held_map xs x.0) (is_itself x.0)

-- the token with a lower number than the first one is in no list but its own
never_lower : (x y : TokenStatus) (xs ys : ListedMap) (n : ℕ) → token_status.Fits x → ascends n (y ∷ ys) ≡ true → suc (number_of_tok x.0) ≤ number_of_tok y.0 → held_map (x ∷ xs) x.0 ≡ held_map (y ∷ ys) x.0 → ⊥
never_lower x y xs ys n fit up less e =
    present x fit
    (sym (head_held x xs) ∙ (e ∙ (on_false (is_tok x.0 y.0) y.1 (held_map ys x.0) (lower_other x.0 y.0 less) ∙
    absent_below ys (suc (number_of_tok y.0)) x.0 (rest_up n y ys up) (onward (number_of_tok x.0) (number_of_tok y.0) (number_of_tok y.0) less (same (number_of_tok y.0))))))
  where
    same : (a : ℕ) → a ≤ a
    same a = omega arith

-- the tails say the same where the heads are one
tails : (x : TokenStatus) (xs ys : ListedMap) (m n : ℕ) → ascends m (x ∷ xs) ≡ true → ascends n (x ∷ ys) ≡ true → ((t : Tok) → held_map (x ∷ xs) t ≡ held_map (x ∷ ys) t) → (t : Tok) → held_map xs t ≡ held_map ys t
tails x xs ys m n up over same t = by (is_tok t x.0) refl
  where
    by : (b : Bool) → is_tok t x.0 ≡ b → held_map xs t ≡ held_map ys t
    by true e =
        let at = same_is t x.0 e in
        let less = subst (λ u. suc (number_of_tok u) ≤ suc (number_of_tok x.0)) (sym at) (itself_least (number_of_tok x.0)) in
        absent_below xs (suc (number_of_tok x.0)) t (rest_up m x xs up) less ∙ sym (absent_below ys (suc (number_of_tok x.0)) t (rest_up n x ys over) less)
    by false e = sym (on_false (is_tok t x.0) x.1 (held_map xs t) e) ∙ (same t ∙ on_false (is_tok t x.0) x.1 (held_map ys t) e)

same_number : (a b : ℕ) → nat_lt a b ≡ false → nat_lt b a ≡ false → a ≡ b
same_number a b p q = grind (arith, nat_tests)

lower_so : (a b : ℕ) → nat_lt a b ≡ true → suc a ≤ b
lower_so a b e = grind (arith, nat_tests)

pub same_listed : (xs ys : ListedMap) (m n : ℕ) → All token_status.Fits xs → All token_status.Fits ys → ascends m xs ≡ true → ascends n ys ≡ true → ((t : Tok) → held_map xs t ≡ held_map ys t) → xs ≡ ys
same_listed [] [] m n f g up over same = refl
same_listed [] (y ∷ ys) m n f g up over same = absurd (present y g.0 (sym (head_held y ys) ∙ sym (same y.0)))
same_listed (x ∷ xs) [] m n f g up over same = absurd (present x f.0 (sym (head_held x xs) ∙ same x.0))
same_listed (x ∷ xs) (y ∷ ys) m n f g up over same =
    by (same_listed xs ys (suc (number_of_tok x.0)) (suc (number_of_tok y.0)) f.1 g.1 (rest_up m x xs up) (rest_up n y ys over))
    (nat_lt (number_of_tok x.0) (number_of_tok y.0)) (nat_lt (number_of_tok y.0) (number_of_tok x.0)) refl refl
  where
    one : number_of_tok x.0 ≡ number_of_tok y.0 → x ≡ y
    one e =
        let at = same_token x.0 y.0 f.0.0.0.0 g.0.0.0.0 e in
        let status : x.1 ≡ y.1 = sym (head_held x xs) ∙ (same x.0 ∙ (ap (held_map (y ∷ ys)) at ∙ head_held y ys)) in
        λ i. (at i, status i)

    go : (((t : Tok) → held_map xs t ≡ held_map ys t) → xs ≡ ys) → x ≡ y → x ∷ xs ≡ y ∷ ys
    go more e =
        let above = subst (λ z. ascends n (z ∷ ys) ≡ true) (sym e) over in
        let alike = subst (λ z. (t : Tok) → held_map (x ∷ xs) t ≡ held_map (z ∷ ys) t) (sym e) same in
        ap (λ z. z ∷ xs) e ∙ ap (λ zs. y ∷ zs) (more (tails x xs ys m n up above alike))

    by : (((t : Tok) → held_map xs t ≡ held_map ys t) → xs ≡ ys) → (b c : Bool) → nat_lt (number_of_tok x.0) (number_of_tok y.0) ≡ b → nat_lt (number_of_tok y.0) (number_of_tok x.0) ≡ c → x ∷ xs ≡ y ∷ ys
    by more true c p q = absurd (never_lower x y xs ys n f.0 over (lower_so (number_of_tok x.0) (number_of_tok y.0) p) (same x.0))
    by more false true p q = absurd (never_lower y x ys xs m g.0 up (lower_so (number_of_tok y.0) (number_of_tok x.0) q) (sym (same y.0)))
    by more false false p q = go more (one (same_number (number_of_tok x.0) (number_of_tok y.0) p q))

pub same_map : (xs ys : ListedMap) → map_part.Fits xs → map_part.Fits ys → held_map xs ≡ held_map ys → xs ≡ ys
same_map xs ys f g e = same_listed xs ys 0 0 f.0 g.0 f.1 g.1 (λ t. ap (λ h. h t) e)

-- ---- the maps of all instances

-- how many there are
abbrev pub many : Option ℕ → ℕ
many None = 1
many (Some n) = n

same_each : (xs ys : Maps) → All map_part.Fits xs → All map_part.Fits ys → length xs ≡ length ys → ((i : ℕ) → i < length xs → map_at i xs ≡ map_at i ys) → xs ≡ ys
same_each [] [] f g long same = refl
same_each [] (y ∷ ys) f g long same = absurd (never (length ys) long)
  where
    never : (n : ℕ) → 0 ≡ suc n → ⊥
    never n e = omega (arith, e)
same_each (x ∷ xs) [] f g long same = absurd (never (length xs) long)
  where
    never : (n : ℕ) → suc n ≡ 0 → ⊥
    never n e = omega (arith, e)
same_each (x ∷ xs) (y ∷ ys) f g long same =
    ap (λ z. z ∷ xs) (same_map x y f.0 g.0 (same 0 (some (length xs)))) ∙
    ap (λ zs. y ∷ zs) (same_each xs ys f.1 g.1 (less (length xs) (length ys) long) (λ i within. same (suc i) (more i (length xs) within)))
  where
    some : (n : ℕ) → 0 < suc n
    some n = omega arith

    less : (m n : ℕ) → suc m ≡ suc n → m ≡ n
    less m n e = omega (arith, e)

    more : (i n : ℕ) → i < n → suc i < suc n
    more i n h = omega (arith, h)

counted : (m n : ℕ) → (m == n) ≡ true → m ≡ n
counted m n e = grind (arith, nat_tests)

first_held : (xs : Maps) → held_map (first_map xs) ≡ map_at 0 xs
first_held [] = refl
first_held (x ∷ xs) = refl

pub same_maps : (o : Option ℕ) (xs ys : Maps) → (maps_part o).Fits xs → (maps_part o).Fits ys → ((i : ℕ) → i < many o → map_at i xs ≡ map_at i ys) → xs ≡ ys
same_maps None xs ys f g same =
    sym f.1 ∙ (ap only_one (same_map (first_map xs) (first_map ys) f.0 g.0 (first_held xs ∙ (same 0 one ∙ sym (first_held ys)))) ∙ g.1)
  where
    one : 0 < 1
    one = omega arith
same_maps (Some n) xs ys f g same =
    let long = counted (length xs) n f.1 in
    same_each xs ys f.0 g.0 (long ∙ sym (counted (length ys) n g.1)) (λ i within. same i (subst (λ m. i < m) long within))
