-- Tests first fail in one way, and in none where all of them hold.
use Rattle.std.proofs.Common.{◌≡◌, ◌⊎◌, ◌<◌, inl, inr, sym, ap, ◌∙◌, ℕ, List, [], ◌∷◌, arith, ⊎_elim, refl}
use Rattle.vlt_core.specs.Core.{Tok, a_key, a_var}
use Rattle.vlt_core.specs.Maps.{HeldMap}
use Rattle.vlt_keyset.specs.Pairs.{IsBefore}
use Rattle.cert_check.specs.Tests.{Test, row_test, below_test, lost_test, Holds, Hold, as_wanted, IsFirstApart, Failure, refused, lost, refusal, Fails, FirstFails}

not_both : (t : Test) (x : Failure) → Holds t → Fails t x → ⊥
not_both (row_test n t s w) (refused x) h r = r.0 h
not_both (row_test n t s w) lost h r = r
not_both (below_test n b k) (refused x) h r = r.1.apart (h.each r.0)
not_both (below_test n b k) lost h r = r
not_both (lost_test n) x h r = h

pub none_fails : (ts : List Test) (x : Failure) → Hold ts → FirstFails ts x → ⊥
none_fails [] x h r = r
none_fails (t ∷ ts) x h r = ⊎_elim (λ a. not_both t x h.0 a) (λ b. none_fails ts x h.1 b.1) r

-- of two tokens one comes first, or they are one
pub numbers : (m n : ℕ) → (m < n) ⊎ ((m ≡ n) ⊎ (n < m))
numbers m n = grind arith

one_first : (t u : Tok) → IsBefore t u ⊎ ((t ≡ u) ⊎ IsBefore u t)
one_first (a_key k) (a_key j) = ⊎_elim (λ a. inl a) (λ b. ⊎_elim (λ e. inr (inl (ap a_key e))) (λ c. inr (inr c)) b) (numbers k j)
one_first (a_key k) (a_var w) = inl tt
one_first (a_var v) (a_key j) = inr (inr tt)
one_first (a_var v) (a_var w) = ⊎_elim (λ a. inl a) (λ b. ⊎_elim (λ e. inr (inl (ap a_var e))) (λ c. inr (inr c)) b) (numbers v w)

first_same : (h k : HeldMap) (t u : Tok) → IsFirstApart h k t → IsFirstApart h k u → t ≡ u
first_same h k t u a b = ⊎_elim (λ before. absurd (a.apart (b.first t before))) (λ c. ⊎_elim (λ e. e) (λ before. absurd (b.apart (a.first u before))) c) (one_first t u)

same : (t : Test) (x y : Failure) → Fails t x → Fails t y → x ≡ y
same (row_test n t s w) (refused x) (refused y) a b = ap refused (a.1 ∙ sym b.1)
same (row_test n t s w) lost y a b = absurd a
same (row_test n t s w) (refused x) lost a b = absurd b
same (below_test n h k) (refused x) (refused y) a b =
    ap refused (a.2 ∙ ap (λ t. refusal n t (h t) (as_wanted (k t))) (first_same h k a.0 b.0 a.1 b.1) ∙ sym b.2)
same (below_test n h k) lost y a b = absurd a
same (below_test n h k) (refused x) lost a b = absurd b
same (lost_test n) (refused x) y a b = absurd a
same (lost_test n) lost (refused y) a b = absurd b
same (lost_test n) lost lost a b = refl

pub fails_one_way : (ts : List Test) (x y : Failure) → FirstFails ts x → FirstFails ts y → x ≡ y
fails_one_way [] x y a b = absurd a
fails_one_way (t ∷ ts) x y a b =
    ⊎_elim (λ p. ⊎_elim (λ q. same t x y p q) (λ q. absurd (not_both t x q.0 p)) b)
    (λ p. ⊎_elim (λ q. absurd (not_both t y p.0 q)) (λ q. fails_one_way ts x y p.1 q.1) b) a
