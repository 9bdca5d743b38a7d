-- Rows one after another, and rows that keep the map.
use Rattle.std.proofs.Common.{◌≡◌, ⊎_elim, ℕ, true, if◌then◌else◌, List, [], ◌∷◌, ◌++◌, Option, Some, None, refl, sym, ap, ◌∙◌, subst}
use Rattle.std.proofs.lemmas.Bool.{cases_Bool, eqb-true, eq-eqb}
use Rattle.vlt_core.specs.Core.{Tok, a_key, a_var, Expr, number, truth, var, field, unary, binary, Func, Program}
use Rattle.vlt_core.specs.Lookups.{Reference, reference_of, guarded_of, permitted_in}
use Rattle.vlt_core.specs.Maps.{HeldMap, wants_in, wants_held, stays, status_after, Row, is_tok, row_passed, CanPass, map_after}
use Rattle.vlt_core.specs.Rows.{row, on_key, touch_rows, expr_rows}

pub pass_split : (xs ys : List Row) (h : HeldMap) → CanPass (xs ++ ys) h → CanPass xs h × CanPass ys (map_after xs h)
pass_split [] ys h c = (tt, c)
pass_split (r ∷ xs) ys h c = let rest = pass_split xs ys (row_passed r h) c.1 in ((c.0, rest.0), rest.1)

pub passed_split : (xs ys : List Row) (h : HeldMap) → map_after (xs ++ ys) h ≡ map_after ys (map_after xs h)
passed_split [] ys h = refl
passed_split (r ∷ xs) ys h = passed_split xs ys (row_passed r h)

pub tok_is : (t u : Tok) → is_tok t u ≡ true → t ≡ u
tok_is (a_key k) (a_key j) e = ap a_key (eqb-true k j e)
tok_is (a_var v) (a_var w) e = ap a_var (eqb-true v w e)
tok_is (a_key k) (a_var w) e = cc
tok_is (a_var v) (a_key j) e = cc

pub tok_itself : (t : Tok) → is_tok t t ≡ true
tok_itself (a_key k) = eq-eqb k k refl
tok_itself (a_var v) = eq-eqb v v refl

-- the status of a row's own token after it, and of another one
pub row_here : (r : Row) (h : HeldMap) → row_passed r h r.tok ≡ status_after r.after (h r.tok)
row_here r h = ap (λ b. if b then status_after r.after (h r.tok) else h r.tok) (tok_itself r.tok)

pub row_other : (r : Row) (h : HeldMap) (t : Tok) → (t ≡ r.tok → ⊥) → row_passed r h t ≡ h t
row_other r h t other = ⊎_elim
    (λ e. absurd (other (tok_is t r.tok e)))
    (λ e. ap (λ b. if b then status_after r.after (h r.tok) else h t) e)
    (cases_Bool (is_tok t r.tok))

abbrev pub AreStays : List Row → Type 0
AreStays [] = Unit {0}
AreStays (r ∷ rs) = (r.after ≡ stays) × AreStays rs

pub stays_both : (xs ys : List Row) → AreStays xs → AreStays ys → AreStays (xs ++ ys)
stays_both [] ys a b = b
stays_both (r ∷ xs) ys a b = (a.0, stays_both xs ys a.1 b)

row_stays : (r : Row) (h : HeldMap) → r.after ≡ stays → row_passed r h ≡ h
row_stays r h e = λ i t. (at t) i
  where
    at : (t : Tok) → row_passed r h t ≡ h t
    at t = ⊎_elim
        (λ same. ap (λ b. if b then status_after r.after (h r.tok) else h t) same ∙ (ap (λ a. status_after a (h r.tok)) e ∙ ap h (sym (tok_is t r.tok same))))
        (λ other. ap (λ b. if b then status_after r.after (h r.tok) else h t) other)
        (cases_Bool (is_tok t r.tok))

pub stays_passed : (rs : List Row) (h : HeldMap) → AreStays rs → map_after rs h ≡ h
stays_passed [] h a = refl
stays_passed (r ∷ rs) h a = ap (map_after rs) (row_stays r h a.0) ∙ stays_passed rs h a.1

pub touch_stays : (p : Program) (f : Func) (x i : ℕ) → AreStays (touch_rows p f x i)
touch_stays p f x i = stays_both _ _ (by (reference_of f x)) (by' (guarded_of f x))
  where
    by : (q : Option Reference) →
        AreStays (on_key q (λ r. row (a_key r.key) (wants_in (permitted_in p r.type i)) stays))
    by None = tt
    by (Some r) = (refl, tt)

    by' : (q : Option Reference) → AreStays (on_key q (λ r. row (a_key r.key) wants_held stays))
    by' None = tt
    by' (Some r) = (refl, tt)

pub expr_stays : (p : Program) (f : Func) (e : Expr) → AreStays (expr_rows p f e)
expr_stays p f (number z) = tt
expr_stays p f (truth b) = tt
expr_stays p f (var v) = tt
expr_stays p f (field x i) = touch_stays p f x i
expr_stays p f (unary op a) = expr_stays p f a
expr_stays p f (binary op a b) = stays_both _ _ (expr_stays p f a) (expr_stays p f b)

-- rows after ones that keep the map are passed from the same map
pub pass_after : (xs ys : List Row) (h : HeldMap) → AreStays xs → CanPass (xs ++ ys) h → CanPass xs h × CanPass ys h
pass_after xs ys h a c = let both = pass_split xs ys h c in (both.0, subst (CanPass ys) (stays_passed xs h a) both.1)
