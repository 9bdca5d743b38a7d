-- Tallies of rows, one after another.
use Rattle.std.proofs.Common.{◌≡◌, refl, sym, ap, ◌∙◌, ◌<◌, ◌≤◌, ◌+◌, ℕ, suc, min, nat_lt, if◌then◌else◌, Bool, true, false, List, [], ◌∷◌, ◌++◌, Option, Some, None, arith}
use Rattle.std.proofs.lemmas.Bool.Decides.{nat_tests}
use Rattle.std.specs.Option.{option_map}
use Rattle.vlt_core.specs.KindedHeads.{Rules}
use Rattle.vlt_core.specs.Kinded.{first_broken}
use Rattle.cert_kinds_types.specs.Least.{least, lesser}
use Rattle.cert_kinds_types.proofs.Smallest.{joined}
use Rattle.cert_kinds_tallies.specs.Tallies.{last_row, row_after, Place, Tally, first_of, broken_at, clean, with_row, with_rest, tallied}

pub both : (t : Tally) (xs ys : List Rules) → tallied t (xs ++ ys) ≡ tallied (tallied t xs) ys
both t [] ys = refl
both t (r ∷ xs) ys = both (with_row t (least r)) xs ys

-- ---- rows that were tallied by themselves

first_of_three : (a b c : Option Place) → first_of a (first_of b c) ≡ first_of (first_of a b) c
first_of_three None b c = refl
first_of_three (Some x) b c = refl

first_alone : (a : Option Place) → first_of a None ≡ a
first_alone None = refl
first_alone (Some x) = refl

one_over : (a t : Tally) (rule : Option ℕ) → with_rest a (with_row t rule) ≡ with_row (with_rest a t) rule
one_over a t rule =
    ap {A = Option Place} {B = Tally} (λ x. record { next = row_after t.next; found = x }) (first_of_three a.found t.found (broken_at t.next rule))

over : (a t : Tally) (rows : List Rules) → with_rest a (tallied t rows) ≡ tallied (with_rest a t) rows
over a t [] = refl
over a t (r ∷ rows) = over a (with_row t (least r)) rows ∙ ap (λ u. tallied u rows) (one_over a t (least r))

pub rest : (t : Tally) (rows : List Rules) → with_rest t (tallied (clean t.next) rows) ≡ tallied t rows
rest t rows =
    over t (clean t.next) rows
    ∙ ap {A = Option Place} (λ x. tallied (record { next = t.next; found = x }) rows) (first_alone t.found)

-- a statement's own row, and those inside it
pub statement : (all start inside new : Tally) (a b : Option ℕ) (rs qs : Rules) (rows : List Rules) →
    a ≡ least rs → b ≡ least qs → start ≡ clean (row_after all.next) → inside ≡ tallied start rows →
    new ≡ with_rest (with_row all (lesser a b)) inside → new ≡ tallied all ((rs ++ qs) ∷ rows)
statement all start inside new a b rs qs rows ea eb es ei en =
    let rule : lesser a b ≡ least (rs ++ qs) = ap (λ x. lesser x b) ea ∙ ap (lesser (least rs)) eb ∙ sym (joined rs qs) in
    en ∙ ap (λ x. with_rest (with_row all x) inside) rule
    ∙ ap (with_rest (with_row all (least (rs ++ qs)))) (ei ∙ ap (λ t. tallied t rows) es)
    ∙ rest (with_row all (least (rs ++ qs))) rows

-- ---- the first broken row

stays : (n : ℕ) (x : Place) (rows : List Rules) → (tallied (record { next = n; found = Some x }) rows).found ≡ Some x
stays n x [] = refl
stays n x (r ∷ rows) = stays (row_after n) x rows

next_within : (n m : ℕ) → (if nat_lt (min n m) m then suc (min n m) else min n m) ≡ min (suc n) m
next_within n m = by (nat_lt (min n m) m) refl
  where
    by : (b : Bool) → nat_lt (min n m) m ≡ b → (if b then suc (min n m) else min n m) ≡ min (suc n) m
    by true lt = let below : min n m < m = grind (arith, nat_tests) in omega arith
    by false ge = let above : m ≤ min n m = grind (arith, nat_tests) in omega arith

after_counted : (n : ℕ) → row_after (min n last_row) ≡ min (suc n) last_row
unfolding row_after
after_counted n = next_within n last_row

abbrev pub counted : Place → Place
counted x = (min x.0 last_row, x.1)

pub first_counted : (n : ℕ) (rows : List Rules) → (tallied (clean (min n last_row)) rows).found ≡ option_map counted (first_broken n rows)
first_counted n [] = refl
first_counted n ([] ∷ rows) = ap (λ m. (tallied (clean m) rows).found) (after_counted n) ∙ first_counted (suc n) rows
first_counted n ((r ∷ rs) ∷ rows) = stays (row_after (min n last_row)) _ rows
