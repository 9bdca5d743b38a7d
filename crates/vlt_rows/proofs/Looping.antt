-- Rows that a loop takes, a piece for each item.
use Rattle.std.proofs.Common.{◌≡◌, ◌<◌, ◌≤◌, ◌+◌, ℕ, Bool, true, false, if◌then◌else◌, List, [], ◌∷◌, ◌++◌, map, filter, length, drop, drop-cons, add-one, get_or, suc, refl, sym, ap, ◌∙◌, subst, Result, Ok, Err, Option, Some, None, slice_get}
use Rattle.std.specs.List.{flat_map, filter_map, cons_option}
use Rattle.std.specs.Option.{option_map}
use Rattle.std.specs.Result.{IsErrAnd}
use Rattle.std.proofs.lemmas.List.{drop_all}
use Rattle.vlt_core.specs.Core.{Tok, Entry, CaseKey, CaseDecl, Func, Program}
use Rattle.vlt_core.specs.Lookups.{VariantOf, case_at, keys_in}
use Rattle.vlt_core.specs.Maps.{Row, away_row}
use Rattle.vlt_core.specs.Rows.{called_rows, on_option}
use Rattle.vlt_rows.specs.Pieces.{entry_rows, case_row, case_rows, case_key_rows}
use Rattle.vlt_rows.specs.declared.sink.RowError.{RowError}
use Rattle.vlt_rows.specs.Taking.{Takes, Stops, TookOrStopped}
use Rattle.vlt_rows.proofs.Taken.{takes_none, goes_on, stops_first}

-- what is taken through the items from i on is taken through all
pub record Going {V X : Type 0} (takes : Takes V) (stops : Stops V) (g : X → List Row) (xs : List X) (v : V) (i : ℕ) (cur : V) : Type 0 where
  pub all : (w : V) (r : Result (Unit {0}) RowError) → TookOrStopped takes stops (flat_map g (drop i xs)) cur w r → TookOrStopped takes stops (flat_map g xs) v w r

split_at : {X : Type 0} (xs : List X) (i : ℕ) (x : X) → i < length xs → x ≡ get_or xs i x → drop i xs ≡ x ∷ drop (i + 1) xs
split_at xs i x lt read = rw add-one (drop-cons xs i x lt ∙ ap (λ y. y ∷ drop (suc i) xs) (sym read))

module _ {V X : Type 0} (takes : Takes V) (stops : Stops V) (g : X → List Row) (xs : List X) (v : V) where
  pub going_first : Going takes stops g xs v 0 v
  going_first = record { all = λ w r p. p }

  pub going_more : (i : ℕ) (cur new : V) (x : X) → i < length xs → x ≡ get_or xs i x → Going takes stops g xs v i cur → TookOrStopped takes stops (g x) cur new (Ok tt) → Going takes stops g xs v (i + 1) new
  going_more i cur new x lt read s p = record {
    all = λ w r q. s.all w r (subst (λ l. TookOrStopped takes stops (flat_map g l) cur w r) (sym (split_at xs i x lt read)) (goes_on takes stops (g x) (flat_map g (drop (i + 1) xs)) cur new w r p q));
  }

  pub going_stops : (i : ℕ) (cur new : V) (x : X) (r : Result (Unit {0}) RowError) (d : RowError) → i < length xs → x ≡ get_or xs i x → Going takes stops g xs v i cur → IsErrAnd r (λ y. y ≡ d) → TookOrStopped takes stops (g x) cur new (Err d) → TookOrStopped takes stops (flat_map g xs) v new r
  going_stops i cur new x r d lt read s gives p =
      s.all new r (subst (λ l. TookOrStopped takes stops (flat_map g l) cur new r) (sym (split_at xs i x lt read)) (stops_first takes stops (g x) (flat_map g (drop (i + 1) xs)) cur new new r d gives p))

  pub going_ends : (i : ℕ) (cur : V) → length xs ≤ i → Going takes stops g xs v i cur → TookOrStopped takes stops (flat_map g xs) v cur (Ok tt)
  going_ends i cur past s = s.all cur (Ok tt) (subst (λ l. TookOrStopped takes stops (flat_map g l) cur cur (Ok tt)) (sym (drop_all i xs past)) (takes_none takes stops cur))

-- the items that pass a test, each with a row
pub filtered : {X Y : Type 0} (row : Y → Row) (test : Y → Bool) (f : X → Y) (xs : List X) → flat_map (λ x. map row (filter test (f x ∷ []))) xs ≡ map row (filter test (map f xs))
filtered row test f [] = refl
filtered {X} {Y} row test f (x ∷ xs) = one (test (f x)) (filtered row test f xs)
  where
    one : (b : Bool) → flat_map (λ x. map row (filter test (f x ∷ []))) xs ≡ map row (filter test (map f xs)) →
        map row (if b then f x ∷ [] else []) ++ flat_map (λ x. map row (filter test (f x ∷ []))) xs ≡ map row (if b then f x ∷ filter test (map f xs) else filter test (map f xs))
    one true e = ap (λ l. row (f x) ∷ l) e
    one false e = e

pub flat_filter : {X Y : Type 0} (g : Y → List Row) (test : Y → Bool) (f : X → Y) (xs : List X) → flat_map (λ x. if test (f x) then g (f x) else []) xs ≡ flat_map g (filter test (map f xs))
flat_filter g test f [] = refl
flat_filter {X} {Y} g test f (x ∷ xs) = one (test (f x)) (flat_filter g test f xs)
  where
    one : (b : Bool) → flat_map (λ x. if test (f x) then g (f x) else []) xs ≡ flat_map g (filter test (map f xs)) →
        (if b then g (f x) else []) ++ flat_map (λ x. if test (f x) then g (f x) else []) xs ≡ flat_map g (if b then f x ∷ filter test (map f xs) else filter test (map f xs))
    one true e = ap (λ l. g (f x) ++ l) e
    one false e = e

pub clause_flat : {X : Type 0} (p : Program) (f : Func) (keys : List ℕ) (g : X → Entry) (es : List X) → flat_map (λ e. entry_rows p f keys (g e)) es ≡ called_rows p f keys (map g es)
clause_flat p f keys g [] = refl
clause_flat p f keys g (e ∷ es) = ap (λ l. entry_rows p f keys (g e) ++ l) (clause_flat p f keys g es)

pub gone_flat : {X : Type 0} (g : X → Tok) (ts : List X) → flat_map (λ t. away_row (g t) ∷ []) ts ≡ map away_row (map g ts)
gone_flat g [] = refl
gone_flat g (t ∷ ts) = ap (λ l. away_row (g t) ∷ l) (gone_flat g ts)

-- the rows of the keys that a case lists
pub case_flat : (opens : Bool) (args : List ℕ) (ks : List CaseKey) → flat_map (case_key_rows args opens) ks ≡ map (case_row opens) (filter_map (λ k. option_map (λ j. record { key = j; states = k.states }) (slice_get args k.position)) ks)
case_flat opens args [] = refl
case_flat opens args (k ∷ ks) = one (slice_get args k.position) (case_flat opens args ks)
  where
    one : (o : Option ℕ) → flat_map (case_key_rows args opens) ks ≡ map (case_row opens) (filter_map (λ k. option_map (λ j. record { key = j; states = k.states }) (slice_get args k.position)) ks) →
        on_option o (λ j. case_row opens (record { key = j; states = k.states }) ∷ []) ++ flat_map (case_key_rows args opens) ks ≡ map (case_row opens) (cons_option (option_map (λ j. record { key = j; states = k.states }) o) (filter_map (λ k. option_map (λ j. record { key = j; states = k.states }) (slice_get args k.position)) ks))
    one None e = e
    one (Some j) e = ap (λ l. case_row opens (record { key = j; states = k.states }) ∷ l) e

pub case_found : (p : Program) (opens : Bool) (case : ℕ) (o : Option VariantOf) (t : VariantOf) (d : CaseDecl) → Some t ≡ o → Some d ≡ case_at p t.type case → flat_map (case_key_rows t.args opens) d.keys ≡ case_rows p opens case o
case_found p opens case o t d is found =
    subst (λ o. flat_map (case_key_rows t.args opens) d.keys ≡ case_rows p opens case o) is
    (subst (λ x. flat_map (case_key_rows t.args opens) d.keys ≡ map (case_row opens) (keys_in t.args x)) found (case_flat opens t.args d.keys))
