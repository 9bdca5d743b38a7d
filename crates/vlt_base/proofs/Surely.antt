-- What can't fail: what follows from it, finitely many at once, and least numbers.
use Rattle.std.proofs.Common.{◌≡◌, ◌<◌, ◌≤◌, ℕ, zero, suc, Bool, true, false, IsTrue, List, [], ◌∷◌, Some, slice_get, ◌⊎◌, inl, inr, ⊎_elim, refl, sym, subst, true≢false, arith}
use Rattle.std.proofs.lemmas.Bool.{cases_lt}
use Rattle.std.proofs.lemmas.Option.{none-some, same_Some}
use Rattle.vlt_base.specs.Sure.{Surely}

pub sure : {A : Type 0} → A → Surely A
sure a = λ never. never a

pub surely : {A : Type 0} → {B : Type 0} → Surely A → (A → Surely B) → Surely B
surely s f = λ never. s (λ a. f a never)

pub so : {A : Type 0} → {B : Type 0} → Surely A → (A → B) → Surely B
so s f = λ never. s (λ a. never (f a))

-- it is so, or it isn't
pub one_way : (A : Type 0) → Surely (A ⊎ (A → ⊥))
one_way A = λ never. never (inr (λ a. never (inl a)))

-- a test of a fact
pub record IsTest (b : Bool) (A : Type 0) : Type 0 where
  pub there : IsTrue b → A
  pub back : A → IsTrue b

pub tested : (A : Type 0) → Surely ((b : Bool) × IsTest b A)
tested A = so (one_way A) (λ x. ⊎_elim (λ a. (true, record { there = λ e. a; back = λ a. refl })) (λ n. (false, record { there = λ e. absurd (true≢false (sym e)); back = λ a. absurd (n a) })) x)

-- ---- finitely many

pub all_in : {X : Type 0} → (xs : List X) (P : X → Type 0) → ((i : ℕ) (x : X) → slice_get xs i ≡ Some x → Surely (P x)) → Surely ((i : ℕ) (x : X) → slice_get xs i ≡ Some x → P x)
all_in [] P s = sure (λ i x e. absurd (none-some x e))
all_in {X = X} (y ∷ ys) P s = surely (s zero y refl) (λ first. so (all_in ys P (λ i x e. s (suc i) x e)) (λ rest. step first rest))
  where
    step : P y → ((i : ℕ) (x : X) → slice_get ys i ≡ Some x → P x) → (i : ℕ) (x : X) → slice_get (y ∷ ys) i ≡ Some x → P x
    step first rest zero x e = subst P (same_Some y x e) first
    step first rest (suc i) x e = rest i x e

-- ---- the least

pub record Least (P : ℕ → Type 0) : Type 0 where
  pub number : ℕ
  pub there : P number
  pub least : (k : ℕ) → P k → number ≤ k

-- a number below which there is none is no less than n
not_below : (P : ℕ → Type 0) (n k : ℕ) → ((j : ℕ) → j < n → P j → ⊥) → P k → n ≤ k
not_below P n k none p = ⊎_elim (λ less. absurd (none k less p)) (λ le. le) (cases_lt k n)

none_below : (P : ℕ → Type 0) → (Least P → ⊥) → (n k : ℕ) → k < n → P k → ⊥
none_below P never zero k less p = omega (arith, less)
none_below P never (suc n) k less p =
    let before = none_below P never n in
    let le = not_below P n k before p in
    never (record { number = k; there = p; least = λ j q. let m = not_below P n j before q in omega (arith, less, le, m) })

pub least : (P : ℕ → Type 0) (n : ℕ) → P n → Surely (Least P)
least P n p = λ never. none_below P never (suc n) n (omega arith) p

-- the least by a number that each thing has
pub record LeastBy {A : Type 0} (rank : A → ℕ) (F : A → Type 0) : Type 0 where
  pub item : A
  pub there : F item
  pub least : (b : A) → F b → rank item ≤ rank b

pub least_by : {A : Type 0} → (rank : A → ℕ) (F : A → Type 0) (a : A) → F a → Surely (LeastBy rank F)
least_by {A = A} rank F a p = so (least (λ n. (b : A) × (rank b ≡ n) × F b) (rank a) (a, refl, p))
    (λ x. record { item = x.there.0; there = x.there.2; least = λ b q. subst (λ n. n ≤ rank b) (sym x.there.1) (x.least (rank b) (b, refl, q)) })
