-- Rows, one after another.
use Rattle.std.proofs.Common.{◌≡◌, ◌≤◌, ◌+◌, ℕ, List, ◌∷◌, map, length, drop, subst, arith, Option, None, inl, inr, ⊎_elim}
use Rattle.std.proofs.lemmas.List.{drop_all}
use Rattle.vlt_core.specs.Core.{Tok}
use Rattle.vlt_core.specs.Maps.{Row}
use Rattle.vlt_core.specs.Found.{Ones, image}
use Rattle.vlt_core.specs.Faults.{RowAt, IsMixed, IsUnwanted}
use Rattle.vlt_core_laws.specs.Sweep.{Many, In, IsSameOnes}
use Rattle.vlt_faults.specs.Finding.Passes.{IsMoved}
use Rattle.vlt_faults.proofs.OfFinding.Passing as passing
use Rattle.vlt_faults.specs.declared.judge.blame.Blame.{Blame}
use Rattle.vlt_faults.specs.Judge.Blames.{IsEarlier, FirstOfRow, FirstOfRows, TellsUnwanted, TellsMixed}
use Rattle.vlt_faults.proofs.OfJudge.Firsts.{Going, going_none, going_more, going_ends}
use Rattle.vlt_faults.proofs.OfJudge.Founds.{turned, rows_moved, rows_told}

abbrev pub RowsGoing : Tok → (at : ℕ) → Option Blame → (n0 : ℕ) → List Row → Ones → (n : ℕ) → List Row → Ones → Type 0
RowsGoing t at x n0 all S n rest T =
    Going t x
    (λ p. RowAt IsUnwanted IsMixed p t at n0 all S) (λ p. RowAt IsUnwanted IsMixed p t at n rest T)
    (λ kind p. RowAt (TellsUnwanted kind) (TellsMixed kind) p t at n0 all S) (λ kind p. RowAt (TellsUnwanted kind) (TellsMixed kind) p t at n rest T)

-- the first i rows were looked at
pub record Looking {X : Type 0} (t : Tok) (at n0 : ℕ) (f : X → Row) (xs : List X) (m : Many) (i n : ℕ) (cur : Many) (x : Option Blame) : Type 0 where
  pub number : n ≡ n0 + i
  pub passed : passing.Going t f xs m i cur
  pub going : RowsGoing t at x n0 (map f xs) (In m) n (map f (drop i xs)) (In cur)

pub looking_first : {X : Type 0} (t : Tok) (at n0 : ℕ) (f : X → Row) (xs : List X) (m : Many) → Looking t at n0 f xs m 0 n0 m None
looking_first t at n0 f xs m = record {
  number = omega arith;
  passed = record { each = λ o. (λ x. x, λ x. x) };
  going = going_none t _ _;
}

moved_same : (t : Tok) (r : Row) (cur new : Many) → IsMoved t r cur new → IsSameOnes (image t r (In cur)) (In new)
moved_same t r cur new e = record { there = λ o x. (e.each o).1 x; back = λ o x. (e.each o).0 x }

rows_more : (t : Tok) (at n0 n : ℕ) (all rest : List Row) (S : Ones) (r : Row) (cur new : Many) (x y z : Option Blame) → RowsGoing t at x n0 all S n (r ∷ rest) (In cur) → FirstOfRow t at n r (In cur) y → IsEarlier x y z → IsMoved t r cur new → RowsGoing t at z n0 all S (n + 1) rest (In new)
rows_more t at n0 n all rest S r cur new x y z g f e moved =
    let same = moved_same t r cur new moved in
    going_more t x y z _ _ _ _ _ _ _ _ g f e
    (λ p. ⊎_elim (λ w. inl w) (λ w. inr (rows_moved t (image t r (In cur)) (In new) same p at (n + 1) rest w)))
    (λ kind p w. inl w)
    (λ kind p w. inr (rows_told t (In new) (image t r (In cur)) (turned (image t r (In cur)) (In new) same) kind p at (n + 1) rest w))

pub looking_more : {X : Type 0} (t : Tok) (at n0 : ℕ) (f : X → Row) (xs : List X) (m : Many) (i n : ℕ) (cur new : Many) (x y z : Option Blame) (a : X) → drop i xs ≡ a ∷ drop (i + 1) xs → Looking t at n0 f xs m i n cur x → FirstOfRow t at n (f a) (In cur) y → IsEarlier x y z → IsMoved t (f a) cur new → Looking t at n0 f xs m (i + 1) (n + 1) new z
looking_more t at n0 f xs m i n cur new x y z a split l first e moved = record {
  number = omega (arith, l.number);
  passed = passing.going_more t f xs m i cur new a split l.passed moved;
  going = rows_more t at n0 n (map f xs) (map f (drop (i + 1) xs)) (In m) (f a) cur new x y z
      (subst (λ l. RowsGoing t at x n0 (map f xs) (In m) n (map f l) (In cur)) split l.going) first e moved;
}

pub looking_ends : {X : Type 0} (t : Tok) (at n0 : ℕ) (f : X → Row) (xs : List X) (m : Many) (i n : ℕ) (cur : Many) (x : Option Blame) → length xs ≤ i → Looking t at n0 f xs m i n cur x → FirstOfRows t at n0 (map f xs) (In m) x
looking_ends t at n0 f xs m i n cur x past l =
    going_ends t x _ _ _ _ (subst (λ ys. RowsGoing t at x n0 (map f xs) (In m) n (map f ys) (In cur)) (drop_all i xs past) l.going) (λ p y. y)
