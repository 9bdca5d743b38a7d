-- A table of what is found is that of the status that surely stands for it.
use Rattle.std.proofs.Common.{◌≡◌, ◌∷◌, ◌++◌, Bool, true, false, IsTrue, List, [], refl, sym, subst, ◌⊎◌, inl, inr, ⊎_elim, true≢false}
use Rattle.vlt_base.specs.Sure.{Surely}
use Rattle.vlt_base.proofs.Surely.{so}
use Rattle.vlt_core.specs.Core.{Tok}
use Rattle.vlt_core.specs.Maps.{Status, absent, held, lent, full}
use Rattle.vlt_core.specs.Flow.{step, choose, loop, switch, scope, focus, return, jump, Stmts, done, next}
use Rattle.vlt_core.specs.Found.{One, one_absent, one_held, one_lent, one_full, Ones, Has, out_stmts, to_next}
use Rattle.vlt_core_laws.specs.Shown.{IsJust}
use Rattle.vlt_core_laws.specs.Sweep.{Many}
use Rattle.vlt_points_laws.specs.Points.{IsTableOf, Before, NoPoint, OnlyIf, AreFoundStmts}
use Rattle.cert_points_laws.specs.Noted.{Any, BeginWith, Follow}

true_or : (b : Bool) → IsTrue b ⊎ (IsTrue b → ⊥)
true_or true = inl refl
true_or false = inr (λ x. true≢false (sym x))

has_or : (u : Status) (o : One) → Has u o ⊎ (Has u o → ⊥)
has_or absent one_absent = inl tt
has_or (held s) (one_held i) = true_or (s i)
has_or (lent s) (one_lent i) = true_or (s i)
has_or full one_full = inl tt
has_or absent (one_held i) = inr (λ x. x)
has_or absent (one_lent i) = inr (λ x. x)
has_or absent one_full = inr (λ x. x)
has_or (held s) one_absent = inr (λ x. x)
has_or (held s) (one_lent i) = inr (λ x. x)
has_or (held s) one_full = inr (λ x. x)
has_or (lent s) one_absent = inr (λ x. x)
has_or (lent s) (one_held i) = inr (λ x. x)
has_or (lent s) one_full = inr (λ x. x)
has_or full one_absent = inr (λ x. x)
has_or full (one_held i) = inr (λ x. x)
has_or full (one_lent i) = inr (λ x. x)

settled : {A : Type 0} → A ⊎ (A → ⊥) → Surely A → A
settled d s = ⊎_elim (λ a. a) (λ no. absurd (s no)) d

pub table_of : (u : Status) (S : Ones) (m : Many) → IsTableOf S m → Surely (IsJust u S) → IsTableOf (Has u) m
table_of u S m table just = λ o. (
  λ x. settled (has_or u o) (so just (λ j. j.there o ((table o).0 x))),
  λ h. settled (true_or (m o)) (so just (λ j. (table o).1 (j.back o h))),
)

-- ---- a first point

begin_at : (S : Ones) (m : Many) (ms ns : List Many) → ns ≡ m ∷ ms → IsTableOf S m → BeginWith S ns
begin_at S m ms ns e table = subst (BeginWith S) (sym e) table

pub begin_none : (S : Ones) (xs ys : List Many) → xs ≡ [] → ys ≡ [] → BeginWith S (xs ++ ys)
begin_none S xs ys e f = subst (λ xs. BeginWith S (xs ++ ys)) (sym e) (subst (BeginWith S) (sym f) tt)

-- the first point of a statement that is no loop has what comes to it
begin_form : (u : Status) (S : Ones) (F : List Many → Type 0) (us vs ys xs : List Many) → Before S F us → Surely (IsJust u S) → xs ≡ us ++ vs → BeginWith (Has u) (xs ++ ys)
begin_form u S F us vs ys xs x just e =
    subst (λ xs. BeginWith (Has u) (xs ++ ys)) (sym e)
    (subst (λ us. BeginWith (Has u) ((us ++ vs) ++ ys)) (sym x.2.2) (table_of u S x.0 x.1 just))

begin_last : (b : Bool) (u : Status) (S : Ones) (xs ys : List Many) → xs ≡ [] → OnlyIf b (Before S NoPoint) ys → Surely (IsJust u S) → BeginWith (Has u) (xs ++ ys)
begin_last true u S xs ys e x just = subst (λ xs. BeginWith (Has u) (xs ++ ys)) (sym e) (subst (BeginWith (Has u)) (sym x.2.2) (table_of u S x.0 x.1 just))
begin_last false u S xs ys e x just = begin_none (Has u) xs ys e x

pub follow : (t : Tok) (b : Bool) (u : Status) (S : Ones) (rest : Stmts) (xs ys : List Many) → AreFoundStmts t rest S xs → OnlyIf b (Before (out_stmts t rest S to_next) NoPoint) ys → Surely (IsJust u S) → Follow (Has u) rest (xs ++ ys)
follow t b u S done xs ys x y just = begin_last b u S xs ys x y just
follow t b u S (next at (loop rs s) rest) xs ys x y just = tt
follow t b u S (next at (step rs) rest) xs ys x y just = begin_form u S _ x.0 x.2.0 ys xs x.1 just x.2.2
follow t b u S (next at (choose rs v w) rest) xs ys x y just = begin_form u S _ x.0 x.2.0 ys xs x.1 just x.2.2
follow t b u S (next at (switch rs arms end) rest) xs ys x y just = begin_form u S _ x.0 x.2.0 ys xs x.1 just x.2.2
follow t b u S (next at (scope s) rest) xs ys x y just = begin_form u S _ x.0 x.2.0 ys xs x.1 just x.2.2
follow t b u S (next at (focus rs s es) rest) xs ys x y just = begin_form u S _ x.0 x.2.0 ys xs x.1 just x.2.2
follow t b u S (next at (return rs) rest) xs ys x y just = begin_form u S _ x.0 x.2.0 ys xs x.1 just x.2.2
follow t b u S (next at (jump c left) rest) xs ys x y just = begin_form u S _ x.0 x.2.0 ys xs x.1 just x.2.2

-- the last point of a block
pub any_last : (b : Bool) (S : Ones) (ys : List Many) → OnlyIf b (Before S NoPoint) ys → OnlyIf b (Any NoPoint) ys
any_last true S ys x = (x.0, x.2)
any_last false S ys x = x
