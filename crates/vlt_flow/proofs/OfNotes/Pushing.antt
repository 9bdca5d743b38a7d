-- Lists of pairs that grow.
use Rattle.std.proofs.Common.{◌≡◌, ◌<◌, ◌≤◌, ◌+◌, ◌==◌, ℕ, Bool, true, false, nat_lt, if◌then◌else◌, List, [], ◌∷◌, ◌++◌, length, get_or, ⊎_elim, refl, sym, ap, ◌∙◌, arith}
use Rattle.std.proofs.lemmas.List.{get_or_past}
use Rattle.std.proofs.lemmas.Bool.{cases_lt}
use Rattle.std.proofs.lemmas.Bool.Decides.{nat_tests}
use Rattle.vlt_core.specs.Core.{Tok, a_key, a_var}
use Rattle.vlt_core.specs.Maps as maps
use Rattle.vlt_core.specs.Maps.{HeldMap, is_tok}
use Rattle.vlt_core.specs.View.{tok_of}
use Rattle.vlt_core.specs.HeldView.{status_of}
use Rattle.vlt_core.specs.declared.held.Tok as D
use Rattle.vlt_core.specs.declared.held.Status as DS
use Rattle.vlt_core.specs.declared.held.Status.TheVariants.{Absent}
use Rattle.vlt_core.specs.declared.held.Status.TheVariants as status
use Rattle.vlt_keyset.specs.Pairs.{Pair, map_of_pairs, IsPresent, AreInOrder, HasOnly}
use Rattle.vlt_keyset.specs.Held.{Statuses, map_of, HasPlace}
use Rattle.vlt_flow.specs.Notes.Pushed.{first_of, status_at, status_in, keys_of, vars_of, IsPushed}

first_absent : (s : maps.Status) → first_of s maps.absent ≡ s
first_absent maps.absent = refl
first_absent (maps.held s) = refl
first_absent (maps.lent s) = refl
first_absent maps.full = refl

first_assoc : (a b c : maps.Status) → first_of (first_of a b) c ≡ first_of a (first_of b c)
first_assoc maps.absent b c = refl
first_assoc (maps.held s) b c = refl
first_assoc (maps.lent s) b c = refl
first_assoc maps.full b c = refl

status_append : (xs : List Pair) (x : Pair) (t : Tok) → status_in (xs ++ x ∷ []) t ≡ first_of (status_in xs t) (status_at x t)
status_append [] x t = first_absent (status_at x t)
status_append (y ∷ ys) x t = ap (first_of (status_at y t)) (status_append ys x t) ∙ sym (first_assoc (status_at y t) (status_in ys t) (status_at x t))

pub pushed : (tok : D.Tok) (status : DS.Status) (old new : List Pair) → new ≡ old ++ (tok, status) ∷ [] → IsPushed tok status old new
pushed tok status old new e = record { each = λ t. ap (λ l. status_in l t) e ∙ status_append old (tok, status) t }

absent_at : (tok : D.Tok) (t : Tok) → status_at (tok, Absent) t ≡ maps.absent
absent_at tok t = by (is_tok t (tok_of tok))
  where
    by : (b : Bool) → (if b then status_of Absent else maps.absent) ≡ maps.absent
    by true = refl
    by false = refl

pub not_pushed : (tok : D.Tok) (old : List Pair) → IsPushed tok Absent old old
not_pushed tok old = record { each = λ t. sym (ap (first_of (status_in old t)) (absent_at tok t) ∙ first_absent (status_in old t)) }

-- ---- the tokens so far

-- the statuses of the first n keys, of the first n variables
abbrev pub keys_below : HeldMap → ℕ → HeldMap
keys_below h n (a_key k) = if nat_lt k n then h (a_key k) else maps.absent
keys_below h n (a_var v) = maps.absent

abbrev pub vars_below : HeldMap → ℕ → HeldMap
vars_below h n (a_key k) = maps.absent
vars_below h n (a_var v) = if nat_lt v n then h (a_var v) else maps.absent

pub record IsGrown (old new : List Pair) (part : HeldMap) : Type 0 where
  pub each : (t : Tok) → status_in new t ≡ first_of (status_in old t) (part t)

none_below : (k : ℕ) → nat_lt k 0 ≡ false
none_below k = grind (arith, nat_tests)

pub keys_first : (h : HeldMap) (old : List Pair) → IsGrown old old (keys_below h 0)
keys_first h old = record { each = λ t. sym (ap (first_of (status_in old t)) (none t) ∙ first_absent (status_in old t)) }
  where
    none : (t : Tok) → keys_below h 0 t ≡ maps.absent
    none (a_key k) = ap (λ b. if b then h (a_key k) else maps.absent) (none_below k)
    none (a_var v) = refl

pub vars_first : (h : HeldMap) (old : List Pair) → IsGrown old old (vars_below h 0)
vars_first h old = record { each = λ t. sym (ap (first_of (status_in old t)) (none t) ∙ first_absent (status_in old t)) }
  where
    none : (t : Tok) → vars_below h 0 t ≡ maps.absent
    none (a_key k) = refl
    none (a_var v) = ap (λ b. if b then h (a_var v) else maps.absent) (none_below v)

-- with one number more
next_below : (k n : ℕ) (s : ℕ → maps.Status) → first_of (if nat_lt k n then s k else maps.absent) (if k == n then s n else maps.absent) ≡ (if nat_lt k (n + 1) then s k else maps.absent)
next_below k n s = by (nat_lt k n) (k == n) refl refl
  where
    less : (k n : ℕ) → nat_lt k n ≡ true → nat_lt k (n + 1) ≡ true
    less k n e = grind (arith, nat_tests)

    apart : (k n : ℕ) → nat_lt k n ≡ true → (k == n) ≡ false
    apart k n e = grind (arith, nat_tests)

    here : (k n : ℕ) → (k == n) ≡ true → nat_lt k (n + 1) ≡ true
    here k n e = grind (arith, nat_tests)

    same : (k n : ℕ) → (k == n) ≡ true → n ≡ k
    same k n e = grind (arith, nat_tests)

    past : (k n : ℕ) → nat_lt k n ≡ false → (k == n) ≡ false → nat_lt k (n + 1) ≡ false
    past k n e f = grind (arith, nat_tests)

    by : (b c : Bool) → nat_lt k n ≡ b → (k == n) ≡ c → first_of (if nat_lt k n then s k else maps.absent) (if k == n then s n else maps.absent) ≡ (if nat_lt k (n + 1) then s k else maps.absent)
    by true c e f = rw (e, apart k n e, less k n e) (first_absent (s k))
    by false true e f = rw (e, f, here k n f) (ap s (same k n f))
    by false false e f = rw (e, f, past k n e f) refl

grown_more : (old new more : List Pair) (h g : HeldMap) (tok : D.Tok) (status : DS.Status) → IsGrown old new h → IsPushed tok status new more → ((t : Tok) → first_of (h t) (status_at (tok, status) t) ≡ g t) → IsGrown old more g
grown_more old new more h g tok status x p e = record {
  each = λ t. p.each t ∙ ap (λ s. first_of s (status_at (tok, status) t)) (x.each t) ∙ first_assoc (status_in old t) (h t) (status_at (tok, status) t) ∙ ap (first_of (status_in old t)) (e t);
}

pub keys_more : (h : HeldMap) (old new more : List Pair) (tok : D.Tok) (n : ℕ) (status : DS.Status) → tok_of tok ≡ a_key n → status_of status ≡ h (a_key n) → IsGrown old new (keys_below h n) → IsPushed tok status new more → IsGrown old more (keys_below h (n + 1))
keys_more h old new more tok n status is same x p = grown_more old new more (keys_below h n) (keys_below h (n + 1)) tok status x p each
  where
    each : (t : Tok) → first_of (keys_below h n t) (status_at (tok, status) t) ≡ keys_below h (n + 1) t
    each (a_key k) = rw (is, same) (next_below k n (λ i. h (a_key i)))
    each (a_var v) = rw is refl

pub vars_more : (h : HeldMap) (old new more : List Pair) (tok : D.Tok) (n : ℕ) (status : DS.Status) → tok_of tok ≡ a_var n → status_of status ≡ h (a_var n) → IsGrown old new (vars_below h n) → IsPushed tok status new more → IsGrown old more (vars_below h (n + 1))
vars_more h old new more tok n status is same x p = grown_more old new more (vars_below h n) (vars_below h (n + 1)) tok status x p each
  where
    each : (t : Tok) → first_of (vars_below h n t) (status_at (tok, status) t) ≡ vars_below h (n + 1) t
    each (a_key k) = rw is refl
    each (a_var v) = rw (is, same) (next_below v n (λ i. h (a_var i)))

-- ---- all tokens

all_below : (k n : ℕ) (xs : List DS.Status) → length xs ≤ n → (if nat_lt k n then status_of (get_or xs k Absent) else maps.absent) ≡ status_of (get_or xs k Absent)
all_below k n xs past = by (nat_lt k n) refl
  where
    far : (k n : ℕ) → nat_lt k n ≡ false → n ≤ k
    far k n e = grind (arith, nat_tests)

    by : (b : Bool) → nat_lt k n ≡ b → (if b then status_of (get_or xs k Absent) else maps.absent) ≡ status_of (get_or xs k Absent)
    by true e = refl
    by false e = sym (ap status_of (get_or_past xs k Absent (omega (arith, past, far k n e))))

past_place : (m n : ℕ) → (n < m → ⊥) → m ≤ n
past_place m n f = ⊎_elim (λ p. absurd (f p)) (λ p. p) (cases_lt n m)

pub keys_end : (h : Statuses) (n : ℕ) (old new : List Pair) → (HasPlace h (a_key n) → ⊥) → IsGrown old new (keys_below (map_of h) n) → (t : Tok) → status_in new t ≡ first_of (status_in old t) (keys_of (map_of h) t)
keys_end h n old new none g t = g.each t ∙ ap (first_of (status_in old t)) (each t)
  where
    each : (t : Tok) → keys_below (map_of h) n t ≡ keys_of (map_of h) t
    each (a_key k) = all_below k n h.keys (past_place (length h.keys) n none)
    each (a_var v) = refl

pub vars_end : (h : Statuses) (n : ℕ) (old new : List Pair) → (HasPlace h (a_var n) → ⊥) → IsGrown old new (vars_below (map_of h) n) → (t : Tok) → status_in new t ≡ first_of (status_in old t) (vars_of (map_of h) t)
vars_end h n old new none g t = g.each t ∙ ap (first_of (status_in old t)) (each t)
  where
    each : (t : Tok) → vars_below (map_of h) n t ≡ vars_of (map_of h) t
    each (a_key k) = refl
    each (a_var v) = all_below v n h.vars (past_place (length h.vars) n none)

only_below : (k n : ℕ) (s : maps.Status) → (n ≤ k → s ≡ maps.absent) → (if nat_lt k n then s else maps.absent) ≡ s
only_below k n s none = by (nat_lt k n) refl
  where
    far : (k n : ℕ) → nat_lt k n ≡ false → n ≤ k
    far k n e = grind (arith, nat_tests)

    by : (b : Bool) → nat_lt k n ≡ b → (if b then s else maps.absent) ≡ s
    by true e = refl
    by false e = sym (none (far k n e))

-- all of so many keys, or variables, where other tokens are absent
pub keys_over : (h : HeldMap) (m n : ℕ) (old new : List Pair) → HasOnly m n h → IsGrown old new (keys_below h m) → (t : Tok) → status_in new t ≡ first_of (status_in old t) (keys_of h t)
keys_over h m n old new only g t = g.each t ∙ ap (first_of (status_in old t)) (each t)
  where
    each : (t : Tok) → keys_below h m t ≡ keys_of h t
    each (a_key k) = only_below k m (h (a_key k)) (λ le. only (a_key k) (λ lt. omega (arith, le, lt)))
    each (a_var v) = refl

pub vars_over : (h : HeldMap) (m n : ℕ) (old new : List Pair) → HasOnly m n h → IsGrown old new (vars_below h n) → (t : Tok) → status_in new t ≡ first_of (status_in old t) (vars_of h t)
vars_over h m n old new only g t = g.each t ∙ ap (first_of (status_in old t)) (each t)
  where
    each : (t : Tok) → vars_below h n t ≡ vars_of h t
    each (a_key k) = refl
    each (a_var v) = only_below v n (h (a_var v)) (λ le. only (a_var v) (λ lt. omega (arith, le, lt)))

-- of a list in order both readings are the same
said : (xs : List Pair) → AreInOrder xs → (t : Tok) → map_of_pairs xs t ≡ status_in xs t
said [] o t = refl
said (x ∷ xs) o t = by (said xs o.2 t) (is_tok t (tok_of x.0))
  where
    stays : (s : DS.Status) (u : maps.Status) → IsPresent s → status_of s ≡ first_of (status_of s) u
    stays status.Absent u some = absurd some
    stays (status.Held states) u some = refl
    stays (status.Lent states) u some = refl
    stays status.Full u some = refl

    by : map_of_pairs xs t ≡ status_in xs t → (b : Bool) → (if b then status_of x.1 else map_of_pairs xs t) ≡ first_of (if b then status_of x.1 else maps.absent) (status_in xs t)
    by more true = stays x.1 (status_in xs t) o.0
    by more false = more

pub all_listed : (h : HeldMap) (none keys all : List Pair) → none ≡ [] → ((t : Tok) → status_in keys t ≡ first_of (status_in none t) (keys_of h t)) → ((t : Tok) → status_in all t ≡ first_of (status_in keys t) (vars_of h t)) → AreInOrder all → map_of_pairs all ≡ h
all_listed h none keys all e f g o = λ i t. (said all o t ∙ each t) i
  where
    each : (t : Tok) → status_in all t ≡ h t
    each (a_key k) = g (a_key k) ∙ first_absent (status_in keys (a_key k)) ∙ f (a_key k) ∙ ap (λ l. first_of (status_in l (a_key k)) (h (a_key k))) e
    each (a_var v) = g (a_var v) ∙ ap (λ s. first_of s (h (a_var v))) (f (a_var v) ∙ first_absent (status_in none (a_var v)) ∙ ap (λ l. status_in l (a_var v)) e)
