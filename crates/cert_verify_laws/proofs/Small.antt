-- Lists of few rows that name tokens of the function alone.
use Rattle.std.proofs.Common.{◌≡◌, ◌≤◌, ◌+◌, ℕ, zero, suc, nat_lt, Bool, true, false, cond, List, [], ◌∷◌, ◌++◌, map, length, Option, Some, None, slice_get, option_map, refl, sym, subst, arith}
use Rattle.std.specs.Prelude.{filter}
use Rattle.std.specs.List.{flat_map, list_any, range_with_len}
use Rattle.std.proofs.lemmas.Bool.{and_parts}
use Rattle.std.proofs.lemmas.Bool.Decides.{nat_tests}
use Rattle.std.proofs.lemmas.List.{length-append, length-map}
use Rattle.std.proofs.lemmas.List.FromFn.{length-range_with_len}
use Rattle.vlt_core.specs.Core.{Tok, a_key, a_var, VarDecl, Func}
use Rattle.vlt_core.specs.Lookups.{Reference, is_owning_var, owning_vars, owns}
use Rattle.vlt_core.specs.Maps.{Row, is_tok, away_row}
use Rattle.vlt_core.specs.Rows.{on_key, fill_rows, tokens_of, in_order}
use Rattle.vlt_core.specs.KindedHeads.{unless}
use Rattle.vlt_core.specs.KindedBodies.{token_broken, same_toks, tokens_broken}
use Rattle.vlt_core.specs.declared.rules.TheConstants as rule
use Rattle.vlt_core_laws.proofs.Good.{AllRows, all_both, all_filled}
use Rattle.vlt_core_laws.proofs.Unbroken.{left_empty, right_empty, unless_holds}
use Rattle.cert_rows.specs.Parts.{All}
use Rattle.cert_fit_laws.proofs.NarrowNumbers.{within, all_flat}

-- the token's number is below the count of the function's keys, or variables
abbrev pub is_own : Func → Tok → Bool
is_own f (a_key k) = nat_lt k (length f.keys)
is_own f (a_var v) = nat_lt v (length f.vars)

abbrev pub IsOwnRow : Func → Row → Type 0
IsOwnRow f r = is_own f r.tok ≡ true

pub record Small (f : Func) (n : ℕ) (rs : List Row) : Type 0 where
  pub few : length rs ≤ n
  pub own : AllRows (IsOwnRow f) rs

-- ---- lengths

pub least : (n : ℕ) → 0 ≤ n
least n = omega arith

no_more : {A : Type 0} (test : A → Bool) (xs : List A) → length (filter test xs) ≤ length xs
no_more test [] = omega arith
no_more test (x ∷ xs) = by (test x) (no_more test xs)
  where
    next : (a b : ℕ) → a ≤ b → a ≤ suc b
    next a b x = omega (arith, x)

    up : (a b : ℕ) → a ≤ b → suc a ≤ suc b
    up a b x = omega (arith, x)

    by : (b : Bool) → length (filter test xs) ≤ length xs → length (cond b (x ∷ filter test xs) (filter test xs)) ≤ suc (length xs)
    by true few = up (length (filter test xs)) (length xs) few
    by false few = next (length (filter test xs)) (length xs) few

pub kept_few : {A : Type 0} (test : A → Bool) (xs : List A) (n : ℕ) → length xs ≤ n → length (filter test xs) ≤ n
kept_few test xs n few = over (length (filter test xs)) (length xs) (no_more test xs) few
  where
    over : (a b : ℕ) → a ≤ b → b ≤ n → a ≤ n
    over a b x y = omega (arith, x, y)

pub mapped_few : {A B : Type 0} (go : A → B) (xs : List A) (n : ℕ) → length xs ≤ n → length (map go xs) ≤ n
mapped_few go xs n few = over (length (map go xs)) (length xs) (length-map xs go) few
  where
    over : (a b : ℕ) → a ≡ b → b ≤ n → a ≤ n
    over a b x y = omega (arith, x, y)

-- ---- what is so of all

pub all_kept : {A : Type 0} (P : A → Type 0) (test : A → Bool) (xs : List A) → All P xs → All P (filter test xs)
all_kept P test [] all = tt
all_kept P test (x ∷ xs) all = by (test x) (all_kept P test xs all.1)
  where
    by : (b : Bool) → All P (filter test xs) → All P (cond b (x ∷ filter test xs) (filter test xs))
    by true rest = (all.0, rest)
    by false rest = rest

all_joined : {A : Type 0} (P : A → Type 0) (xs ys : List A) → All P xs → All P ys → All P (xs ++ ys)
all_joined P [] ys a b = b
all_joined P (x ∷ xs) ys a b = (a.0, all_joined P xs ys a.1 b)

module _ (f : Func) where
  pub none_small : (n : ℕ) → Small f n []
  none_small n = record { few = least n; own = tt }

  pub one_small : (n : ℕ) (r : Row) → 1 ≤ n → is_own f r.tok ≡ true → Small f n (r ∷ [])
  one_small n r few own = record { few = few; own = (own, tt) }

  pub raised : (m n : ℕ) (rs : List Row) → Small f m rs → m ≤ n → Small f n rs
  raised m n rs x more = record { few = over (length rs) x.few more; own = x.own }
    where
      over : (a : ℕ) → a ≤ m → m ≤ n → a ≤ n
      over a x y = omega (arith, x, y)

  pub joined : (m n k : ℕ) (rs ss : List Row) → Small f m rs → Small f n ss → m + n ≤ k → Small f k (rs ++ ss)
  joined m n k rs ss x y few = record {
    few = sum (length (rs ++ ss)) (length rs) (length ss) (length-append rs ss) x.few y.few few;
    own = all_both (IsOwnRow f) rs ss x.own y.own;
  }
    where
      sum : (a b c : ℕ) → a ≡ b + c → b ≤ m → c ≤ n → m + n ≤ k → a ≤ k
      sum a b c e x y z = omega (arith, e, x, y, z)

  pub on_small : (o : Option Reference) (go : Reference → Row) → ((r : Reference) → o ≡ Some r → is_own f (go r).tok ≡ true) → Small f 1 (on_key o go)
  on_small None go own = none_small 1
  on_small (Some r) go own = one_small 1 (go r) (omega arith) (own r refl)

  owner_there : (v : ℕ) → is_owning_var f v ≡ true → nat_lt v (length f.vars) ≡ true
  owner_there v owning = by (slice_get f.vars v) refl owning
    where
      by : (o : Option VarDecl) → slice_get f.vars v ≡ o → owns (option_map (λ d. d.ty) o) ≡ true → nat_lt v (length f.vars) ≡ true
      by None at own = cc
      by (Some d) at own = within f.vars v d at

  pub fill_small : (vs : List ℕ) (n : ℕ) → length vs ≤ n → Small f n (fill_rows f vs)
  fill_small vs n few = record {
    few = mapped_few _ (filter (is_owning_var f) vs) n (kept_few (is_owning_var f) vs n few);
    own = all_filled (IsOwnRow f) f vs (λ v m o. owner_there v o);
  }

  -- ---- tokens

  abbrev AreOwnToks : List Tok → Type 0
  AreOwnToks ts = All (λ t. is_own f t ≡ true) ts

  all_away : (ts : List Tok) → AreOwnToks ts → AllRows (IsOwnRow f) (map away_row ts)
  all_away [] own = tt
  all_away (t ∷ ts) own = (own.0, all_away ts own.1)

  away_small : (ts : List Tok) (n : ℕ) → length ts ≤ n → AreOwnToks ts → Small f n (map away_row ts)
  away_small ts n few own = record { few = mapped_few away_row ts n few; own = all_away ts own }

  keys_own : (a n : ℕ) → a + n ≤ length f.keys → AreOwnToks (map a_key (range_with_len a n))
  keys_own a zero few = tt
  keys_own a (suc n) few = (first a (length f.keys) few, keys_own (a + 1) n (rest a (length f.keys) few))
    where
      first : (a m : ℕ) → a + suc n ≤ m → nat_lt a m ≡ true
      first a m x = grind (arith, nat_tests)

      rest : (a m : ℕ) → a + suc n ≤ m → a + 1 + n ≤ m
      rest a m x = omega (arith, x)

  owners_own : (vs : List ℕ) → AreOwnToks (map a_var (filter (is_owning_var f) vs))
  owners_own [] = tt
  owners_own (v ∷ vs) = by (is_owning_var f v) refl (owners_own vs)
    where
      by : (b : Bool) → is_owning_var f v ≡ b → AreOwnToks (map a_var (filter (is_owning_var f) vs)) → AreOwnToks (map a_var (cond b (v ∷ filter (is_owning_var f) vs) (filter (is_owning_var f) vs)))
      by true own rest = (owner_there v own, rest)
      by false own rest = rest

  tokens_own : AreOwnToks (tokens_of f)
  tokens_own = all_joined (λ t. is_own f t ≡ true) (map a_key (range_with_len 0 (length f.keys))) (map a_var (owning_vars f)) (keys_own 0 (length f.keys) (all_of (length f.keys))) (owners_own (range_with_len 0 (length f.vars)))
    where
      all_of : (n : ℕ) → 0 + n ≤ n
      all_of n = omega arith

  module _ (few_keys : length f.keys ≤ 256) (few_vars : length f.vars ≤ 256) where
    tokens_few : length (tokens_of f) ≤ 512
    tokens_few = sum _ _ _ (length-append (map a_key (range_with_len 0 (length f.keys))) (map a_var (owning_vars f)))
        (mapped_few a_key (range_with_len 0 (length f.keys)) 256 (counted (length f.keys) few_keys))
        (mapped_few a_var (owning_vars f) 256 (kept_few (is_owning_var f) (range_with_len 0 (length f.vars)) 256 (counted (length f.vars) few_vars)))
      where
        counted : (n : ℕ) → n ≤ 256 → length (range_with_len 0 n) ≤ 256
        counted n few = subst (λ m. m ≤ 256) (sym (length-range_with_len 0 n)) few

        sum : (a b c : ℕ) → a ≡ b + c → b ≤ 256 → c ≤ 256 → a ≤ 512
        sum a b c e x y = omega (arith, e, x, y)

    pub tokens_small : Small f 512 (map away_row (tokens_of f))
    tokens_small = away_small (tokens_of f) 512 tokens_few tokens_own

    in_order_few : (ts : List Tok) → length (in_order f ts) ≤ 512
    in_order_few ts = kept_few (λ t. list_any (is_tok t) ts) (tokens_of f) 512 tokens_few

    pub left_small : (ts : List Tok) → Small f 512 (map away_row (in_order f ts))
    left_small ts = away_small (in_order f ts) 512 (in_order_few ts) (all_kept (λ t. is_own f t ≡ true) (λ t. list_any (is_tok t) ts) (tokens_of f) tokens_own)

    pub left_few : (ts : List Tok) → length (in_order f ts) ≤ 512
    left_few ts = in_order_few ts

    token_own : (t : Tok) → token_broken f t ≡ [] → is_own f t ≡ true
    token_own (a_key k) e = unless_holds (nat_lt k (length f.keys)) rule.UNKNOWN_NAME e
    token_own (a_var v) e = unless_holds (nat_lt v (length f.vars)) rule.UNKNOWN_NAME e

    as_long : (xs ys : List Tok) (n : ℕ) → same_toks xs ys ≡ true → length ys ≤ n → length xs ≤ n
    as_long [] ys n e few = least n
    as_long (x ∷ xs) [] n e few = cc
    as_long (x ∷ xs) (y ∷ ys) zero e few = absurd (never (length ys) few)
      where
        never : (a : ℕ) → suc a ≤ 0 → ⊥
        never a x = omega (arith, x)
    as_long (x ∷ xs) (y ∷ ys) (suc n) e few = up (length xs) (as_long xs ys n (and_parts (is_tok x y) (same_toks xs ys) e).1 (down (length ys) few))
      where
        up : (a : ℕ) → a ≤ n → suc a ≤ suc n
        up a x = omega (arith, x)

        down : (a : ℕ) → suc a ≤ suc n → a ≤ n
        down a x = omega (arith, x)

    -- a block's list
    pub bound_few : (listed made : List Tok) → tokens_broken f listed made ≡ [] → length listed ≤ 512
    bound_few listed made e = as_long listed (in_order f made) 512 (unless_holds (same_toks listed (in_order f made)) rule.NAME_TAKEN (right_empty (flat_map (token_broken f) listed) (unless (same_toks listed (in_order f made)) rule.NAME_TAKEN) e)) (in_order_few made)

    pub bound_own : (listed made : List Tok) → tokens_broken f listed made ≡ [] → AllRows (IsOwnRow f) (map away_row listed)
    bound_own listed made e = all_away listed (all_flat (λ t. is_own f t ≡ true) (token_broken f) token_own listed (left_empty (flat_map (token_broken f) listed) (unless (same_toks listed (in_order f made)) rule.NAME_TAKEN) e))
