-- An annotation counts by the maps of the statements that have a note.
use Rattle.std.proofs.Common.{◌≡◌, ◌≤◌, ◌+◌, ◌||◌, ◌==◌, ℕ, suc, Bool, true, false, true≢false, if◌then◌else◌, List, [], ◌∷◌, ◌++◌, map, None, refl, sym, ap, ◌∙◌, arith}
use Rattle.std.proofs.lemmas.Bool.{eq-eqb}
use Rattle.vlt_core.specs.Maps.{HeldMap}
use Rattle.vlt_core.specs.Flow.{Flow, step, choose, loop, switch, scope, focus, return, jump, Block, block, Stmts, done, next, Arms, no_arms, arm, size, size_block, passes_block, passes_arms}
use Rattle.vlt_core.specs.Local.{Notes, IsLocalBlock}
use Rattle.vlt_core.specs.Least.{Note, at_loop, at_join, Noted, a_loop, a_join, noted_by, noted, noted_block, noted_stmts, noted_arms, around_in, after_in, notes_in}
use Rattle.vlt_core_laws.proofs.Binding.{on_true}
use Rattle.vlt_flow.proofs.OfNotes.Alike.{Same, SameBlock, SameStmts, SameArms, local_block_alike}
use Rattle.cert_fit_laws.proofs.Named.{number_of, Climbs}
use Rattle.cert_least_laws.proofs.Climbing.{climb_block}
use Rattle.cert_least_laws.proofs.OneList.{around_past, after_past}

-- the note of a statement
abbrev pub read : Notes → Noted → Note
read a (a_loop n) = at_loop n (a.around n) (a.following n)
read a (a_join n) = at_join n (a.following n)

pub named_back : (a : Notes) (xs : List Noted) → map noted_by (map (read a) xs) ≡ xs
named_back a [] = refl
named_back a (a_loop n ∷ xs) = ap (λ ys. a_loop n ∷ ys) (named_back a xs)
named_back a (a_join n ∷ xs) = ap (λ ys. a_join n ∷ ys) (named_back a xs)

-- ---- two annotations that say the same of these statements

module _ (a b : Notes) where
  abbrev Agree : List Noted → Type 0
  Agree [] = Unit {0}
  Agree (a_loop n ∷ xs) = (a.around n ≡ b.around n) × (a.following n ≡ b.following n) × Agree xs
  Agree (a_join n ∷ xs) = (a.following n ≡ b.following n) × Agree xs

  agree_left : (xs ys : List Noted) → Agree (xs ++ ys) → Agree xs
  agree_left [] ys e = tt
  agree_left (a_loop n ∷ xs) ys e = (e.0, e.1, agree_left xs ys e.2)
  agree_left (a_join n ∷ xs) ys e = (e.0, agree_left xs ys e.1)

  agree_right : (xs ys : List Noted) → Agree (xs ++ ys) → Agree ys
  agree_right [] ys e = e
  agree_right (a_loop n ∷ xs) ys e = agree_right xs ys e.2
  agree_right (a_join n ∷ xs) ys e = agree_right xs ys e.1

  agree_own : (n : ℕ) (c : Bool) → Agree (if c then a_join n ∷ [] else []) → c ≡ true → a.following n ≡ b.following n
  agree_own n true e q = e.0
  agree_own n false e q = absurd (true≢false (sym q))

  mutual
    same_form : (s : Flow) (n : ℕ) → Agree (noted n s) → Same a b n s
    same_form (step rs) n e = tt
    same_form (choose rs s t) n e =
        let own = if passes_block s || passes_block t then a_join n ∷ [] else [] in
        let front = agree_left (own ++ noted_block (n + 1) s) (noted_block (n + 1 + size_block s) t) e in (
          agree_own n (passes_block s || passes_block t) (agree_left own (noted_block (n + 1) s) front),
          (same_block s (n + 1) (agree_right own (noted_block (n + 1) s) front), same_block t (n + 1 + size_block s) (agree_right (own ++ noted_block (n + 1) s) (noted_block (n + 1 + size_block s) t) e)),
        )
    same_form (loop rs s) n e = (e.0, (e.1, same_block s (n + 1) e.2))
    same_form (switch rs arms end) n e =
        let own = if passes_arms arms then a_join n ∷ [] else [] in
        (agree_own n (passes_arms arms) (agree_left own (noted_arms (n + 1) arms) e), same_arms arms (n + 1) (agree_right own (noted_arms (n + 1) arms) e))
    same_form (scope s) n e = same_block s (n + 1) e
    same_form (focus rs s es) n e = same_block s (n + 1) e
    same_form (return rs) n e = tt
    same_form (jump c left) n e = tt

    pub same_block : (s : Block) (n : ℕ) → Agree (noted_block n s) → SameBlock a b n s
    same_block (block ss bound end) n e = same_stmts ss n e

    same_stmts : (ss : Stmts) (n : ℕ) → Agree (noted_stmts n ss) → SameStmts a b n ss
    same_stmts done n e = tt
    same_stmts (next at s rest) n e = (same_form s n (agree_left (noted n s) (noted_stmts (n + size s) rest) e), same_stmts rest (n + size s) (agree_right (noted n s) (noted_stmts (n + size s) rest) e))

    same_arms : (arms : Arms) (n : ℕ) → Agree (noted_arms n arms) → SameArms a b n arms
    same_arms no_arms n e = tt
    same_arms (arm rs s rest) n e = (same_block s n (agree_left (noted_block n s) (noted_arms (n + size_block s) rest) e), same_arms rest (n + size_block s) (agree_right (noted_block n s) (noted_arms (n + size_block s) rest) e))

-- ---- the notes of the statements say the same of them

over : (a m n : ℕ) → suc a ≤ m → m ≤ n → suc a ≤ n
over a m n x y = omega (arith, x, y)

after : (a m n : ℕ) → suc a ≤ m → m ≤ n → suc a ≤ suc n
after a m n x y = omega (arith, x, y)

least_number : (a : ℕ) → suc a ≤ suc a
least_number a = omega arith

agree_past : (a : Notes) (y : Note) (ys : List Note) (xs : List Noted) (m k : ℕ) → suc (number_of (noted_by y)) ≤ m → Climbs m k xs → Agree a (notes_in ys) xs → Agree a (notes_in (y ∷ ys)) xs
agree_past a y ys [] m k less c e = tt
agree_past a y ys (a_loop n ∷ xs) m k less c e =
    let above = over (number_of (noted_by y)) m n less c.0 in
    (e.0 ∙ sym (around_past y ys n above), e.1 ∙ sym (after_past y ys n above), agree_past a y ys xs (suc n) k (after (number_of (noted_by y)) m n less c.0) c.1 e.2)
agree_past a y ys (a_join n ∷ xs) m k less c e =
    let above = over (number_of (noted_by y)) m n less c.0 in
    (e.0 ∙ sym (after_past y ys n above), agree_past a y ys xs (suc n) k (after (number_of (noted_by y)) m n less c.0) c.1 e.1)

first : (n : ℕ) (u v : HeldMap) → (if n == n then u else v) ≡ u
first n u v = on_true (n == n) u v (eq-eqb n n refl)

agree_read : (a : Notes) (xs : List Noted) (m k : ℕ) → Climbs m k xs → Agree a (notes_in (map (read a) xs)) xs
agree_read a [] m k c = tt
agree_read a (a_loop n ∷ xs) m k c =
    let ys = map (read a) xs in (
      sym (first n (a.around n) (around_in ys n)),
      sym (first n (a.following n) (after_in ys n)),
      agree_past a (at_loop n (a.around n) (a.following n)) ys xs (suc n) k (least_number n) c.1 (agree_read a xs (suc n) k c.1),
    )
agree_read a (a_join n ∷ xs) m k c =
    let ys = map (read a) xs in
    (sym (first n (a.following n) (after_in ys n)), agree_past a (at_join n (a.following n)) ys xs (suc n) k (least_number n) c.1 (agree_read a xs (suc n) k c.1))

-- so they have the maps that it has there
pub read_alike : (a : Notes) (s : Block) → SameBlock a (notes_in (map (read a) (noted_block 0 s))) 0 s
read_alike a s =
    same_block a (notes_in (map (read a) (noted_block 0 s))) s 0 (agree_read a (noted_block 0 s) 0 (0 + size_block s) (climb_block 0 s))

-- and hold where it does
pub read_local : (a : Notes) (s : Block) (h : HeldMap) → IsLocalBlock a None 0 h s → IsLocalBlock (notes_in (map (read a) (noted_block 0 s))) None 0 h s
read_local a s h local = local_block_alike s a (notes_in (map (read a) (noted_block 0 s))) None 0 h (read_alike a s) tt local
