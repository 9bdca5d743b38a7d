-- The least of the names that clash, and places.
use Rattle.std.proofs.Common.{◌≡◌, ◌⊎◌, inl, inr, ℕ, ◌+◌, ◌-◌, ◌<◌, Bool, true, false, true≢false, if◌then◌else◌, List, [], ◌∷◌, Some, None, refl, sym, ap, ◌∙◌, subst, arith}
use Rattle.std.specs.Prelude.{nat_lt}
use Rattle.std.specs.Ordering.{nat_cmp, is_lt, ordering_reverse}
use Rattle.std.specs.declared.cmp.Ordering.{Ordering}
use Rattle.std.specs.declared.cmp.Ordering.TheVariants.{Less, Equal, Greater}
use Rattle.std.specs.Cmp.Lexicographic.{slice_cmp}
use Rattle.std.proofs.lemmas.Cmp.{nat_list_cmp_total}
use Rattle.std.proofs.lemmas.Option.{none-some, same_Some}
use Rattle.vlt_syntax.specs.Tree.{Name}
use Rattle.vlt_syntax.specs.Lists.{Each}
use Rattle.vlt_iface.specs.declared.places.TheConstants.{RAISE}
use Rattle.vlt_iface.specs.Least.{IsNamed, IsLeast}
use Rattle.vlt_iface.specs.Told.{place_of, is_less, least_name_from, least_name}

abbrev Text : Type 0
Text = List ℕ

-- the first isn't greater
abbrev UpTo : Text → Text → Type 0
UpTo m n = is_less n m ≡ false

less_is : (o : Ordering) → is_lt o ≡ true → o ≡ Less
less_is Less e = refl
less_is Equal e = absurd (true≢false (sym e))
less_is Greater e = absurd (true≢false (sym e))

through : (m n k : Text) → is_less n k ≡ true → UpTo m n → UpTo m k
through m n k less up = by (is_less k m) refl
  where
    by : (b : Bool) → is_less k m ≡ b → UpTo m k
    by false e = e
    by true e = absurd (true≢false (sym (ap is_lt (nat_list_cmp_total.trans n k m (less_is (slice_cmp nat_cmp n k) less) (less_is (slice_cmp nat_cmp k m) e))) ∙ up))

beside : (m n k : Text) → is_less n k ≡ false → UpTo m k → UpTo m n
beside m n k off up = by (slice_cmp nat_cmp n k) refl (is_less n m) refl
  where
    by : (o : Ordering) → slice_cmp nat_cmp n k ≡ o → (b : Bool) → is_less n m ≡ b → UpTo m n
    by o same false e = e
    by Less same true e = absurd (true≢false (sym (ap is_lt same) ∙ off))
    by Equal same true e = absurd (true≢false (sym e ∙ (ap is_lt (nat_list_cmp_total.congr n k m same) ∙ up)))
    by Greater same true e =
        absurd (true≢false (sym (ap is_lt (nat_list_cmp_total.trans k n m (nat_list_cmp_total.antisymm k n ∙ ap ordering_reverse same) (less_is (slice_cmp nat_cmp n m) e))) ∙ up))

self : (n : Text) → UpTo n n
self n = by (slice_cmp nat_cmp n n) refl
  where
    by : (o : Ordering) → slice_cmp nat_cmp n n ≡ o → is_lt (slice_cmp nat_cmp n n) ≡ false
    by Less e = absurd (true≢false (ap is_lt (sym e ∙ (nat_list_cmp_total.antisymm n n ∙ ap ordering_reverse e))))
    by Equal e = ap is_lt e
    by Greater e = ap is_lt e

record From (k : Text) (ns : List Name) (m : Text) : Type 0 where
  one : (k ≡ m) ⊎ IsNamed ns m
  up : UpTo m k
  least : Each (λ n. UpTo m n.text) ns

least_from_some : (k : Text) (ns : List Name) (m : Text) → least_name_from (Some k) ns ≡ Some m → From k ns m
least_from_some k [] m e = let same = same_Some k m e in record { one = inl same; up = subst (λ m. UpTo m k) same (self k); least = tt }
least_from_some k (n ∷ ns) m e = by (is_less n.text k) refl (λ x. least_from_some x ns m) e
  where
    by : (b : Bool) → is_less n.text k ≡ b → ((x : Text) → least_name_from (Some x) ns ≡ Some m → From x ns m) → least_name_from (if b then Some n.text else Some k) ns ≡ Some m → From k (n ∷ ns) m
    by true less rest e = let r = rest n.text e in record { one = inr (r.one); up = through m n.text k less r.up; least = (r.up, r.least) }
    by false off rest e = let r = rest k e in record { one = deeper r.one; up = r.up; least = (beside m n.text k off r.up, r.least) }
      where
        deeper : (k ≡ m) ⊎ IsNamed ns m → (k ≡ m) ⊎ IsNamed (n ∷ ns) m
        deeper (inl x) = inl x
        deeper (inr x) = inr (inr x)

pub least_is : (ns : List Name) (m : Text) → least_name ns ≡ Some m → IsLeast ns m
least_is [] m e = absurd (none-some m e)
least_is (n ∷ ns) m e = let r = least_from_some n.text ns m e in record { one = r.one; least = (r.up, r.least) }

some_stays : (k : Text) (ns : List Name) → least_name_from (Some k) ns ≡ None → ⊥
some_stays k [] e = none-some k (sym e)
some_stays k (n ∷ ns) e = by (is_less n.text k) (some_stays n.text ns) (some_stays k ns) e
  where
    by : (b : Bool) → (least_name_from (Some n.text) ns ≡ None → ⊥) → (least_name_from (Some k) ns ≡ None → ⊥) → least_name_from (if b then Some n.text else Some k) ns ≡ None → ⊥
    by true one two e = one e
    by false one two e = two e

-- there is none where no name is
pub no_least : (ns : List Name) → least_name ns ≡ None → ns ≡ []
no_least [] e = refl
no_least (n ∷ ns) e = absurd (some_stays n.text ns e)

-- ---- places

pub place_here : (at : ℕ) → at < RAISE → place_of at ≡ record { file = 0; at = at }
place_here at e = let f : nat_lt at RAISE ≡ true = grind arith in ap (λ (b : Bool). if b then record { file = 0; at = at } else record { file = 1; at = at - RAISE }) f

pub place_raised : (at : ℕ) → place_of (at + RAISE) ≡ record { file = 1; at = at }
place_raised at =
    let f : nat_lt (at + RAISE) RAISE ≡ false = grind arith in
    let g : (at + RAISE) - RAISE ≡ at = omega arith in
    ap (λ (b : Bool). if b then record { file = 0; at = at + RAISE } else record { file = 1; at = (at + RAISE) - RAISE }) f ∙ ap (λ n. record { file = 1; at = n }) g
