-- Slots of parameters are those that the definitions say, and numbers go up one by one.
use Rattle.std.proofs.Common.{◌≡◌, ◌<◌, ◌≤◌, ◌+◌, ◌-◌, ℕ, zero, suc, Bool, List, [], ◌∷◌, ◌++◌, map, take, refl, sym, ap, ◌∙◌, arith}
use Rattle.std.specs.List.{range_with_len}
use Rattle.vlt_core.specs.Core.{VarDecl, Program, Func}
use Rattle.c_lower.specs.Slots.{Sort, Numbers, Slot, past, past_all, first_numbers, var_at, vars_at, slot_sorts, sorted_slots, var_sorts, param_slots}
use Rattle.c_lower.specs.Lowering.{param_numbers}
use Rattle.c_syntax.specs.C.{Stmt}
use Rattle.c_lower.specs.Statements.{StmtCode, stmt_code}
use Rattle.c_lower_calls.specs.Written.{Writes}
use Rattle.c_lower_exprs.specs.Tables.{slot_view, vars_laid, AreSlots}
use Rattle.c_lower_exprs.specs.declared.frame.Slot.{Slot as CodeSlot}
use Rattle.c_lower_exprs.proofs.Laws.{vars_step}
use Rattle.c_lower_program.specs.Code.Heads.{past_slots, past_lists, vars_in, slots_between}

vars_both : (t : Numbers) (ss more : List Sort) → vars_at t (ss ++ more) ≡ vars_at t ss ++ vars_at (past_all t ss) more
vars_both t [] more = refl
vars_both t (x ∷ ss) more = ap (λ vs. var_at t x ∷ vs) (vars_both (past t x) ss more)

vars_sorted : (t : Numbers) (ss : List Sort) → map (λ (x : Slot). x.var) (sorted_slots ss (vars_at t ss)) ≡ vars_at t ss
vars_sorted t [] = refl
vars_sorted t (x ∷ ss) = ap (λ vs. var_at t x ∷ vs) (vars_sorted (past t x) ss)

past_sorted : (t u : Numbers) (ss : List Sort) → past_slots t (sorted_slots ss (vars_at u ss)) ≡ past_all t ss
past_sorted t u [] = refl
past_sorted t u (x ∷ ss) = past_sorted (past t x) (past u x) ss

vars_taken : (p : Program) (t : Numbers) (ds : List VarDecl) (n : ℕ) → vars_in (take n (vars_laid p t ds)) ≡ vars_at t (var_sorts p (take n ds))
vars_taken p t [] zero = refl
vars_taken p t [] (suc n) = refl
vars_taken p t (d ∷ ds) zero = refl
vars_taken p t (d ∷ ds) (suc n) =
    ap (λ vs. vs ++ vars_in (take n (vars_laid p (past_all t (slot_sorts p d.ty)) ds))) (vars_sorted t (slot_sorts p d.ty))
    ∙ ap (λ vs. vars_at t (slot_sorts p d.ty) ++ vs) (vars_taken p (past_all t (slot_sorts p d.ty)) ds n)
    ∙ sym (vars_both t (slot_sorts p d.ty) (var_sorts p (take n ds)))

past_taken : (p : Program) (t : Numbers) (ds : List VarDecl) (n : ℕ) → past_lists t (take n (vars_laid p t ds)) ≡ past_all t (var_sorts p (take n ds))
past_taken p t [] zero = refl
past_taken p t [] (suc n) = refl
past_taken p t (d ∷ ds) zero = refl
past_taken p t (d ∷ ds) (suc n) =
    ap (λ u. past_lists u (take n (vars_laid p (past_all t (slot_sorts p d.ty)) ds))) (past_sorted t t (slot_sorts p d.ty))
    ∙ past_taken p (past_all t (slot_sorts p d.ty)) ds n
    ∙ sym (vars_step p t d (take n ds))

map_taken : {A B : Type 0} (f : A → B) (n : ℕ) (xs : List A) → map f (take n xs) ≡ take n (map f xs)
map_taken f zero xs = refl
map_taken f (suc n) [] = refl
map_taken f (suc n) (x ∷ xs) = ap (λ ys. f x ∷ ys) (map_taken f n xs)

pub params_are : (p : Program) (f : Func) (table : List (List CodeSlot)) → AreSlots p f table → vars_in (map (map slot_view) (take f.params table)) ≡ param_slots p f
params_are p f table e =
    ap vars_in (map_taken (map slot_view) f.params table ∙ ap (take f.params) e) ∙ vars_taken p first_numbers f.vars f.params

pub numbers_are : (p : Program) (f : Func) (table : List (List CodeSlot)) → AreSlots p f table → past_lists first_numbers (map (map slot_view) (take f.params table)) ≡ param_numbers p f
numbers_are p f table e =
    ap (past_lists first_numbers) (map_taken (map slot_view) f.params table ∙ ap (take f.params) e) ∙ past_taken p first_numbers f.vars f.params

-- ---- numbers one by one

pub next_between : (r : Bool) (a b : ℕ) → a < b → slots_between r a b ≡ record { reference = r; number = a } ∷ slots_between r (a + 1) b
next_between r a b lt =
    let e : b - a ≡ suc (b - (a + 1)) = omega arith in
    ap (λ n. map (λ i. record { reference = r; number = i }) (range_with_len a n)) e

pub none_between : (r : Bool) (a b : ℕ) → b ≤ a → slots_between r a b ≡ []
none_between r a b le =
    let e : b - a ≡ 0 = omega arith in
    ap (λ n. map (λ i. record { reference = r; number = i }) (range_with_len a n)) e

-- what is written where nothing was is the code
pub written_whole : (code : StmtCode) (new : List Stmt) (t : Numbers) → Writes code [] new t → stmt_code new t ≡ code
written_whole code new t h = λ i. record { stmts = h.stmts i; most = h.most i }
