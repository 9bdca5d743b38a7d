-- A held map of a function as a certificate lists it.
use Rattle.std.proofs.Common.{◌≡◌, ◌<◌, ◌≤◌, ◌+◌, ◌-◌, ◌==◌, ℕ, zero, suc, nat_lt, nat_le, Bool, true, false, true≢false, if◌then◌else◌, [], ◌∷◌, length, Option, Some, None, slice_get, refl, sym, ap, subst, ◌∙◌, arith}
use Rattle.std.specs.Option.{option_map}
use Rattle.std.proofs.Math.Path.{fun_ext}
use Rattle.std.proofs.lemmas.Bool.{and_from, le-leb}
use Rattle.std.proofs.lemmas.Bool.Decides.{nat_tests}
use Rattle.std.proofs.lemmas.Option.{slice_get_within}
use Rattle.vlt_core.specs.Core.{Tok, a_key, a_var, VarDecl, Func}
use Rattle.vlt_core.specs.Lookups.{owns, is_owning_var}
use Rattle.vlt_core.specs.Maps.{Status, absent, held, lent, full, HeldMap, is_tok}
use Rattle.vlt_core.specs.Found.{One, one_absent, one_held, one_lent, one_full, Has}
use Rattle.vlt_core_laws.proofs.Binding.{on_true, on_false}
use Rattle.vlt_core_laws.proofs.Founds.{same_is}
use Rattle.cert_rows.specs.Parts.{All}
use Rattle.cert_rows.specs.Values.{mask, number_of_tok, tok_of_number, token, token_status, ascends, ListedMap, map_part}
use Rattle.cert_fit_laws.specs.Annotation.{held_map}
use Rattle.cert_least_laws.proofs.Listing.{is_itself}
use Rattle.cert_least_laws.proofs.OfBodies.Masking.{narrow_mask}
use Rattle.cert_least_laws.proofs.OfBodies.Tidy.{IsTidyOne}

-- ---- tokens by number

tok_back : (n : ℕ) → number_of_tok (tok_of_number n) ≡ n
tok_back n = by (nat_lt n 256) refl
  where
    by : (b : Bool) → nat_lt n 256 ≡ b → number_of_tok (if b then a_key n else a_var (n - 256)) ≡ n
    by true is = refl
    by false is = let far : 256 ≤ n = grind (arith, nat_tests) in omega (arith, far)

-- two tokens of two numbers
apart : (t : Tok) (n : ℕ) → (number_of_tok t ≡ n → ⊥) → is_tok t (tok_of_number n) ≡ false
apart t n other = by (is_tok t (tok_of_number n)) refl
  where
    by : (b : Bool) → is_tok t (tok_of_number n) ≡ b → is_tok t (tok_of_number n) ≡ false
    by true e = absurd (other (ap number_of_tok (same_is t (tok_of_number n) e) ∙ tok_back n))
    by false e = e

-- ---- the list

abbrev pub is_here : Status → Bool
is_here absent = false
is_here (held s) = true
is_here (lent s) = true
is_here full = true

not_here : (s : Status) → is_here s ≡ false → s ≡ absent
not_here absent e = refl
not_here (held s) e = absurd (true≢false e)
not_here (lent s) e = absurd (true≢false e)
not_here full e = absurd (true≢false e)

-- ---- entries

abbrev pub FitsMask : Status → Type 0
FitsMask absent = Unit {0}
FitsMask (held s) = mask.Fits s
FitsMask (lent s) = mask.Fits s
FitsMask full = Unit {0}

entry_fits : (t : Tok) (s : Status) → token.Fits t → is_here s ≡ true → FitsMask s → token_status.Fits (t, s)
entry_fits t absent own here fit = absurd (true≢false (sym here))
entry_fits t (held s) own here fit = (((own, none, fit.0.0), fit.0.1), ap (λ s. (t, held s)) fit.1)
  where
    none : 0 ≤ 2
    none = omega arith
entry_fits t (lent s) own here fit = (((own, one, fit.0.0), fit.0.1), ap (λ s. (t, lent s)) fit.1)
  where
    one : 1 ≤ 2
    one = omega arith
entry_fits t full own here fit = (((own, two, none), refl), refl)
  where
    two : 2 ≤ 2
    two = omega arith

    none : 0 ≤ 4294967295
    none = omega arith

token_fits : (n : ℕ) → n < 512 → token.Fits (tok_of_number n)
token_fits n few = (low (number_of_tok (tok_of_number n)) n (tok_back n) few, ap tok_of_number (tok_back n))
  where
    low : (a n : ℕ) → a ≡ n → n < 512 → a ≤ 4294967551
    low a n e few = omega (arith, e, few)

-- ---- maps

module _ (m : HeldMap) where
  -- the tokens of so many numbers from n on
  abbrev listed_from : (n count : ℕ) → ListedMap
  listed_from n zero = []
  listed_from n (suc c) = if is_here (m (tok_of_number n)) then (tok_of_number n, m (tok_of_number n)) ∷ listed_from (suc n) c else listed_from (suc n) c

  -- a token that is absent isn't in it
  absent_listed : (t : Tok) → m t ≡ absent → (n c : ℕ) → held_map (listed_from n c) t ≡ absent
  absent_listed t none n zero = refl
  absent_listed t none n (suc c) = by (is_here (m (tok_of_number n))) (absent_listed t none (suc n) c)
    where
      at : (b : Bool) → is_tok t (tok_of_number n) ≡ b → held_map (listed_from (suc n) c) t ≡ absent → (if b then m (tok_of_number n) else held_map (listed_from (suc n) c) t) ≡ absent
      at true e more = ap m (sym (same_is t (tok_of_number n) e)) ∙ none
      at false e more = more

      by : (b : Bool) → held_map (listed_from (suc n) c) t ≡ absent → held_map (if b then (tok_of_number n, m (tok_of_number n)) ∷ listed_from (suc n) c else listed_from (suc n) c) t ≡ absent
      by true more = at (is_tok t (tok_of_number n)) refl more
      by false more = more

  -- one of these numbers has its status
  there_listed : (t : Tok) → tok_of_number (number_of_tok t) ≡ t → (n c : ℕ) → n ≤ number_of_tok t → number_of_tok t < n + c → held_map (listed_from n c) t ≡ m t
  there_listed t own n zero from to = absurd (none (number_of_tok t) n from to)
    where
      none : (a n : ℕ) → n ≤ a → a < n + 0 → ⊥
      none a n from to = omega (arith, from, to)
  there_listed t own n (suc c) from to = by (number_of_tok t == n) refl (λ q. there_listed t own (suc n) c (further (number_of_tok t) n from q) (shifted (number_of_tok t) n c to))
    where
      further : (a n : ℕ) → n ≤ a → (a == n) ≡ false → suc n ≤ a
      further a n from q = grind (arith, nat_tests)

      shifted : (a n c : ℕ) → a < n + suc c → a < suc n + c
      shifted a n c to = omega (arith, to)

      number_is : (a n : ℕ) → (a == n) ≡ true → a ≡ n
      number_is a n q = grind (arith, nat_tests)

      other : (a n : ℕ) → (a == n) ≡ false → a ≡ n → ⊥
      other a n q e = grind (arith, nat_tests)

      first : tok_of_number n ≡ t → (b : Bool) → is_here (m (tok_of_number n)) ≡ b → held_map (if b then (tok_of_number n, m (tok_of_number n)) ∷ listed_from (suc n) c else listed_from (suc n) c) t ≡ m t
      first same true here = on_true (is_tok t (tok_of_number n)) (m (tok_of_number n)) (held_map (listed_from (suc n) c) t) (subst (λ u. is_tok t u ≡ true) (sym same) (is_itself t)) ∙ ap m same
      first same false here =
          let none = ap m (sym same) ∙ not_here (m (tok_of_number n)) here in
          absent_listed t none (suc n) c ∙ sym none

      later : (number_of_tok t ≡ n → ⊥) → held_map (listed_from (suc n) c) t ≡ m t → (b : Bool) → held_map (if b then (tok_of_number n, m (tok_of_number n)) ∷ listed_from (suc n) c else listed_from (suc n) c) t ≡ m t
      later q more true = on_false (is_tok t (tok_of_number n)) (m (tok_of_number n)) (held_map (listed_from (suc n) c) t) (apart t n q) ∙ more
      later q more false = more

      by : (b : Bool) → (number_of_tok t == n) ≡ b → ((number_of_tok t == n) ≡ false → held_map (listed_from (suc n) c) t ≡ m t) → held_map (listed_from n (suc c)) t ≡ m t
      by true e more = first (ap tok_of_number (sym (number_is (number_of_tok t) n e)) ∙ own) (is_here (m (tok_of_number n))) refl
      by false e more = later (other (number_of_tok t) n e) (more e) (is_here (m (tok_of_number n)))

  -- ---- it fits rows

  all_fit : ((t : Tok) → FitsMask (m t)) → (n c : ℕ) → n + c ≤ 512 → All token_status.Fits (listed_from n c)
  all_fit masks n zero few = tt
  all_fit masks n (suc c) few = by (is_here (m (tok_of_number n))) refl (all_fit masks (suc n) c (shifted n c few))
    where
      shifted : (n c : ℕ) → n + suc c ≤ 512 → suc n + c ≤ 512
      shifted n c few = omega (arith, few)

      below : (n c : ℕ) → n + suc c ≤ 512 → n < 512
      below n c few = omega (arith, few)

      by : (b : Bool) → is_here (m (tok_of_number n)) ≡ b → All token_status.Fits (listed_from (suc n) c) → All token_status.Fits (if b then (tok_of_number n, m (tok_of_number n)) ∷ listed_from (suc n) c else listed_from (suc n) c)
      by true here more = (entry_fits (tok_of_number n) (m (tok_of_number n)) (token_fits n (below n c few)) here (masks (tok_of_number n)), more)
      by false here more = more

  all_ascend : (n c least : ℕ) → least ≤ n → ascends least (listed_from n c) ≡ true
  all_ascend n zero least from = refl
  all_ascend n (suc c) least from = by (is_here (m (tok_of_number n))) (λ k to. all_ascend (suc n) c k to)
    where
      number : ℕ
      number = number_of_tok (tok_of_number n)

      reached : (a n least : ℕ) → a ≡ n → least ≤ n → least ≤ a
      reached a n least e from = omega (arith, e, from)

      next : (a n : ℕ) → a ≡ n → suc a ≤ suc n
      next a n e = omega (arith, e)

      over : (n least : ℕ) → least ≤ n → least ≤ suc n
      over n least from = omega (arith, from)

      by : (b : Bool) → ((k : ℕ) → k ≤ suc n → ascends k (listed_from (suc n) c) ≡ true) → ascends least (if b then (tok_of_number n, m (tok_of_number n)) ∷ listed_from (suc n) c else listed_from (suc n) c) ≡ true
      by true more = and_from (nat_le least number) (ascends (suc number) (listed_from (suc n) c)) (le-leb least number (reached number n least (tok_back n) from)) (more (suc number) (next number n (tok_back n)))
      by false more = more least (over n least from)

-- ---- the maps of a function

-- something is found of each token, and all of it is tidy
pub record IsTidyMap (f : Func) (m : HeldMap) : Type 0 where
  pub some : (t : Tok) → (o : One) × Has (m t) o
  pub tidy : (t : Tok) (o : One) → Has (m t) o → IsTidyOne f t o

-- the list of a map of a function with so many variables
abbrev pub list_of : (vars : ℕ) → HeldMap → ListedMap
list_of vars m = listed_from m 0 (256 + vars)

has_no_absent : (s : Status) → Has s one_absent → is_here s ≡ true → ⊥
has_no_absent absent h here = true≢false (sym here)
has_no_absent (held s) h here = h
has_no_absent (lent s) h here = h
has_no_absent full h here = h

pub owning_below : (f : Func) (v : ℕ) → is_owning_var f v ≡ true → v < length f.vars
owning_below f v e = by (slice_get f.vars v) refl e
  where
    by : (o : Option VarDecl) → slice_get f.vars v ≡ o → owns (option_map (λ d. d.ty) o) ≡ true → v < length f.vars
    by None at e = absurd (true≢false (sym e))
    by (Some d) at e = slice_get_within f.vars v d at

record IsReached (vars : ℕ) (t : Tok) : Type 0 where
  own : tok_of_number (number_of_tok t) ≡ t
  to : number_of_tok t < 256 + vars

module _ (f : Func) (few_keys : length f.keys ≤ 256) (few_vars : length f.vars ≤ 256) (m : HeldMap) (is : IsTidyMap f m) where
  key_reached : (k : ℕ) → nat_lt k (length f.keys) ≡ true → IsReached (length f.vars) (a_key k)
  key_reached k own = record { own = on_true (nat_lt k 256) (a_key k) (a_var (k - 256)) (small k (length f.keys) own few_keys); to = low k (length f.keys) (length f.vars) own few_keys }
    where
      small : (k n : ℕ) → nat_lt k n ≡ true → n ≤ 256 → nat_lt k 256 ≡ true
      small k n less few = grind (arith, nat_tests)

      low : (k n v : ℕ) → nat_lt k n ≡ true → n ≤ 256 → k < 256 + v
      low k n v less few = let s : k < n = grind (arith, nat_tests) in omega (arith, s, few)

  var_reached : (v : ℕ) → v < length f.vars → IsReached (length f.vars) (a_var v)
  var_reached v less = record { own = on_false (nat_lt (256 + v) 256) (a_key (256 + v)) (a_var (256 + v - 256)) (past v) ∙ ap a_var (back v); to = low v (length f.vars) less }
    where
      past : (v : ℕ) → nat_lt (256 + v) 256 ≡ false
      past v = grind (arith, nat_tests)

      back : (v : ℕ) → 256 + v - 256 ≡ v
      back v = omega arith

      low : (v n : ℕ) → v < n → 256 + v < 256 + n
      low v n less = omega (arith, less)

  reached : (t : Tok) (o : One) → is_here (m t) ≡ true → Has (m t) o → IsTidyOne f t o → IsReached (length f.vars) t
  reached t one_absent here h tidy = absurd (has_no_absent (m t) h here)
  reached (a_key k) (one_held s) here h tidy = key_reached k tidy.0
  reached (a_key k) (one_lent s) here h tidy = key_reached k tidy.0
  reached (a_key k) one_full here h tidy = absurd tidy
  reached (a_var v) (one_held s) here h tidy = absurd tidy
  reached (a_var v) (one_lent s) here h tidy = absurd tidy
  reached (a_var v) one_full here h tidy = var_reached v (owning_below f v tidy)

  -- the list says the map
  pub listed_says : held_map (list_of (length f.vars) m) ≡ m
  listed_says = fun_ext (λ t. by t (is_here (m t)) refl)
    where
      from : (a : ℕ) → 0 ≤ a
      from a = omega arith

      up : (a n : ℕ) → a < n → a < 0 + n
      up a n less = omega (arith, less)

      by : (t : Tok) (b : Bool) → is_here (m t) ≡ b → held_map (listed_from m 0 (256 + length f.vars)) t ≡ m t
      by t true here =
          let o = is.some t in
          let r = reached t o.0 here o.1 (is.tidy t o.0 o.1) in
          there_listed m t r.own 0 (256 + length f.vars) (from (number_of_tok t)) (up (number_of_tok t) (256 + length f.vars) r.to)
      by t false here = let none = not_here (m t) here in absent_listed m t none 0 (256 + length f.vars) ∙ sym none

  held_below : (t : Tok) (s : ℕ) → IsTidyOne f t (one_held s) → s < 32
  held_below (a_key k) s tidy = tidy.1
  held_below (a_var v) s tidy = absurd tidy

  lent_below : (t : Tok) (s : ℕ) → IsTidyOne f t (one_lent s) → s < 32
  lent_below (a_key k) s tidy = tidy.1
  lent_below (a_var v) s tidy = absurd tidy

  masked : (t : Tok) (s : Status) → (o : One) × Has s o → ((o : One) → Has s o → IsTidyOne f t o) → FitsMask s
  masked t absent some tidy = tt
  masked t full some tidy = tt
  masked t (held s) some tidy = by some.0 some.1
    where
      by : (o : One) → Has (held s) o → mask.Fits s
      by (one_held i) h = narrow_mask s (record { below = λ j has. held_below t j (tidy (one_held j) has) }) i h
      by one_absent h = absurd h
      by (one_lent i) h = absurd h
      by one_full h = absurd h
  masked t (lent s) some tidy = by some.0 some.1
    where
      by : (o : One) → Has (lent s) o → mask.Fits s
      by (one_lent i) h = narrow_mask s (record { below = λ j has. lent_below t j (tidy (one_lent j) has) }) i h
      by one_absent h = absurd h
      by (one_held i) h = absurd h
      by one_full h = absurd h

  -- and fits a row
  pub listed_fits : map_part.Fits (list_of (length f.vars) m)
  listed_fits = (all_fit m (λ t. masked t (m t) (is.some t) (is.tidy t)) 0 (256 + length f.vars) (few (length f.vars) few_vars), all_ascend m 0 (256 + length f.vars) 0 none)
    where
      few : (v : ℕ) → v ≤ 256 → 0 + (256 + v) ≤ 512
      few v h = omega (arith, h)

      none : 0 ≤ 0
      none = omega arith
