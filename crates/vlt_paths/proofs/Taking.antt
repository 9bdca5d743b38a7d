-- Rows that a path takes, one after another; none stops it.
use Rattle.std.proofs.Common.{◌≡◌, ◌↔◌, ◌⊎◌, ℕ, Bool, true, false, IsTrue, rules, List, [], ◌∷◌, ◌++◌, map, Option, Some, None, Result, Ok, Err, refl, sym, subst, inl, inr, ◌||◌, ⊎_elim}
use Rattle.vlt_core.specs.Core.{Tok}
use Rattle.vlt_core.specs.Maps.{Row, Wanted, After, is_tok, away_row}
use Rattle.vlt_core.specs.Found.{One, WantsOne, LeftBy}
use Rattle.vlt_core.specs.FaultView.{choices_of}
use Rattle.std.specs.List.{list_any}
use Rattle.vlt_core.specs.View.{tok_of}
use Rattle.vlt_rows.specs.declared.sink.RowError.{RowError}
use Rattle.vlt_rows.specs.Taking.{TakesAll, StopsIn, TookOrStopped}
use Rattle.vlt_paths.specs.declared.passing.Passing.{Passing}
use Rattle.vlt_paths.specs.declared.point.Sought.{Sought}
use Rattle.vlt_paths.specs.declared.comes.Comes.{Comes}
use Rattle.vlt_paths.specs.declared.point.Point.{Point}
use Rattle.vlt_paths.specs.declared.point.Hunt.{Hunt}
use Rattle.vlt_paths.specs.Comes.{Brings, SoughtBy, SoughtRow}
use Rattle.vlt_paths.specs.Along.{state_of, sought_of, Passes, IsPast, MeetsRow}
use Rattle.vlt_paths.specs.Taken.{IsTaken}
use Rattle.vlt_paths.proofs.Passed.{IsOwn, passes_none, passes_more, passes_other, passes_own, passes_all, gone_one, gone_none}
use Rattle.vlt_paths.proofs.Tokens.{same_tok, own_tok}

pub sought_own : (t : Tok) (s : Option Sought) → IsOwn (SoughtRow t s) t
sought_own t None = record { own = λ at r o p. absurd p; refuses = λ at r o p. absurd p }
sought_own t (Some s) = record { own = λ at r o p. p.1; refuses = λ at r o p. p.3 }

pub sought_row : (t : Tok) (s : Option Sought) (at : ℕ) (r : Row) (o : One) → SoughtRow t s at r o ↔ (SoughtBy t s at r.tok r.wanted × (WantsOne r.wanted o → ⊥))
sought_row t None at r o = (λ h. absurd h, λ h. absurd h.0)
sought_row t (Some s) at r o = (λ h. ((h.0, h.1, h.2), h.3), λ h. (h.0.0, h.0.1, h.0.2, h.1))

all_taken : (rs : List Row) (v u : Passing) → TakesAll (λ r v u. IsTaken r v u) rs v u → IsPast v.hunt v.at rs v.point u.point
all_taken [] v u e = subst (λ w. IsPast v.hunt v.at [] v.point w.point) (sym e) (passes_none (sought_of v.hunt) (tok_of v.hunt.tok) v.at (state_of v.point))
all_taken (r ∷ rs) v u x =
    passes_more (sought_of v.hunt) (tok_of v.hunt.tok) v.at r rs (state_of v.point) (state_of x.0.point) (state_of u.point) x.1.past
    (subst (λ h. IsPast h v.at rs x.0.point u.point) x.1.hunt (subst (λ a. IsPast x.0.hunt a rs x.0.point u.point) x.1.at (all_taken rs x.0 u x.2)))

never_stops : (rs : List Row) (v : Passing) (e : RowError) → StopsIn (λ r v u. IsTaken r v u) (λ r v e. ⊥) rs v e → ⊥
never_stops [] v e p = p
never_stops (r ∷ rs) v e (inl p) = p
never_stops (r ∷ rs) v e (inr p) = never_stops rs p.0 e p.2

pub all_past : (rs : List Row) (v u : Passing) (r : Result (Unit {0}) RowError) → TookOrStopped (λ r v u. IsTaken r v u) (λ r v e. ⊥) rs v u r → IsPast v.hunt v.at rs v.point u.point
all_past rs v u (Ok x) p = all_taken rs v u p.took
all_past rs v u (Err e) p = absurd (never_stops rs v e p.stopped)

-- ---- of the code's calls

pub row_brings : (old mid new : Comes) (w : Wanted) (a : After) → ((o : One) → Brings mid o ↔ (Brings old o × WantsOne w o)) → ((q : One) → Brings new q ↔ ((o : One) × Brings mid o × LeftBy a o q)) → (q : One) → Brings new q ↔ ((o : One) × Brings old o × WantsOne w o × LeftBy a o q)
row_brings old mid new w a f g q = (
  λ h. let x = (g q).0 h in let y = (f x.0).0 x.1 in (x.0, y.0, y.1, x.2),
  λ x. (g q).1 (x.0, (f x.0).1 (x.1, x.2), x.3),
)

pub either_is : (r a b : Bool) → r ≡ (a || b) → IsTrue r ↔ (IsTrue a ⊎ IsTrue b)
either_is r a b e = subst (λ x. IsTrue x ↔ (IsTrue a ⊎ IsTrue b)) (sym e) (both a b)
  where
    never : IsTrue false → ⊥
    never h = search rules

    both : (a b : Bool) → IsTrue (a || b) ↔ (IsTrue a ⊎ IsTrue b)
    both true b = (λ h. inl h, λ h. search rules)
    both false b = (λ h. inr h, λ h. ⊎_elim (λ x. absurd (never x)) (λ y. y) h)

pub own_past : (h : Hunt) (at : ℕ) (r : Row) (v : Point) (comes : Comes) (met b : Bool) → is_tok (tok_of h.tok) r.tok ≡ true → ((q : One) → Brings comes q ↔ ((o : One) × Brings v.comes o × WantsOne r.wanted o × LeftBy r.after o q)) → (IsTrue met ↔ (IsTrue v.met ⊎ IsTrue b)) → (IsTrue b ↔ MeetsRow h at r v) → Passes (sought_of h) (tok_of h.tok) at (r ∷ []) (state_of v) (record { brings = Brings comes; left = choices_of v.rest.now; met = met })
own_past h at r v comes met b is brings meets hit = passes_own (sought_of h) (tok_of h.tok) at r (state_of v) (record { brings = Brings comes; left = choices_of v.rest.now; met = met }) b is refl brings meets hit

pub other_past : (h : Hunt) (at : ℕ) (r : Row) (v : Point) → is_tok (tok_of h.tok) r.tok ≡ false → IsPast h at (r ∷ []) v v
other_past h at r v e = passes_other (sought_of h) (tok_of h.tok) at r (state_of v) (sought_own (tok_of h.tok) h.row) e

never : IsTrue false → ⊥
never h = search rules

-- the row isn't met where choices are left, or it isn't the one
pub choices_left : (h : Hunt) (at : ℕ) (r : Row) (v : Point) → (choices_of v.rest.now ≡ [] → ⊥) → IsTrue false ↔ MeetsRow h at r v
choices_left h at r v f = (λ t. absurd (never t), λ x. absurd (f x.0))

pub other_row : (h : Hunt) (at : ℕ) (r : Row) (v : Point) → (SoughtBy (tok_of h.tok) h.row at r.tok r.wanted → ⊥) → IsTrue false ↔ MeetsRow h at r v
other_row h at r v f = (λ t. absurd (never t), λ x. absurd (f ((sought_row (tok_of h.tok) h.row at r x.1.0).0 x.1.2).0))

pub this_row : (h : Hunt) (at : ℕ) (r : Row) (v : Point) (b : Bool) → choices_of v.rest.now ≡ [] → SoughtBy (tok_of h.tok) h.row at r.tok r.wanted → (IsTrue b ↔ ((o : One) × Brings v.comes o × (WantsOne r.wanted o → ⊥))) → IsTrue b ↔ MeetsRow h at r v
this_row h at r v b none is e = (
  λ t. let x = e.0 t in (none, (x.0, x.1, (sought_row (tok_of h.tok) h.row at r x.0).1 (is, x.2))),
  λ x. e.1 (x.1.0, x.1.1, ((sought_row (tok_of h.tok) h.row at r x.1.0).0 x.1.2).1),
)

-- of rows that want tokens away the one of the path's token counts
pub gone_past : (h : Hunt) (at : ℕ) (ts : List Tok) (v u : Point) → list_any (is_tok (tok_of h.tok)) ts ≡ true → IsPast h at (away_row (tok_of h.tok) ∷ []) v u → IsPast h at (map away_row ts) v u
gone_past h at ts v u e p = gone_one (sought_of h) (tok_of h.tok) at ts (state_of v) (state_of u) (sought_own (tok_of h.tok) h.row) same_tok (own_tok (tok_of h.tok)) e p

pub none_past : (h : Hunt) (at : ℕ) (ts : List Tok) (v : Point) → list_any (is_tok (tok_of h.tok)) ts ≡ false → IsPast h at (map away_row ts) v v
none_past h at ts v e = gone_none (sought_of h) (tok_of h.tok) at ts (state_of v) (sought_own (tok_of h.tok) h.row) e

pub both_past : (h : Hunt) (at : ℕ) (xs ys : List Row) (v m u : Point) → IsPast h at xs v m → IsPast h at ys m u → IsPast h at (xs ++ ys) v u
both_past h at xs ys v m u x y = passes_all (sought_of h) (tok_of h.tok) at xs ys (state_of v) (state_of m) (state_of u) x y
