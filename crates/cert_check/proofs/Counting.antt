-- The numbers of the statements that tests belong to.
use Rattle.std.proofs.Common.{◌<◌, ◌≤◌, ◌+◌, ℕ, Bool, true, false, List, [], ◌∷◌, ◌++◌, map, Option, Some, None, sym, subst, ⊎_elim, arith}
use Rattle.vlt_core.specs.Maps.{HeldMap, Row, row_passed, map_after, away_row}
use Rattle.vlt_core.specs.Flow.{Flow, step, choose, loop, switch, scope, focus, return, jump, Block, block, Stmts, done, next, Arms, no_arms, arm, size, size_block, size_stmts, size_arms}
use Rattle.vlt_core.specs.Local.{Notes, leads, leads_block, leads_stmts}
use Rattle.cert_check.specs.Tests.{Test, row_test, below_test, lost_test, row_tests, below_tests, when_some, jump_tests, tests, block_tests, list_tests, arms_tests, Refusal, refused, Fails, FirstFails}

abbrev pub number : Test → ℕ
number (row_test n t s w) = n
number (below_test n h k) = n
number (lost_test n) = n

module _ (hi : ℕ) where
  -- each belongs to a statement below this number
  abbrev pub AreBelow : List Test → Type 0
  AreBelow [] = Unit {0}
  AreBelow (t ∷ ts) = (number t < hi) × AreBelow ts

  join : (xs ys : List Test) → AreBelow xs → AreBelow ys → AreBelow (xs ++ ys)
  join [] ys p q = q
  join (x ∷ xs) ys p q = (p.0, join xs ys p.1 q)

  rows : (n : ℕ) (rs : List Row) (h : HeldMap) → n < hi → AreBelow (row_tests n rs h)
  rows n [] h lt = tt
  rows n (r ∷ rs) h lt = (lt, rows n rs (row_passed r h) lt)

  belows : (n : ℕ) (o : Option HeldMap) (k : HeldMap) → n < hi → AreBelow (below_tests n o k)
  belows n None k lt = tt
  belows n (Some h) k lt = (lt, tt)

  whens : (o : Option HeldMap) (go : HeldMap → List Test) → ((m : HeldMap) → AreBelow (go m)) → AreBelow (when_some o go)
  whens None go each = tt
  whens (Some m) go each = each m

  jumps : (a : Notes) (l : Option ℕ) (c : Bool) (n : ℕ) (h : HeldMap) → n < hi → AreBelow (jump_tests a l c n h)
  jumps a None c n h lt = (lt, tt)
  jumps a (Some l) true n h lt = (lt, tt)
  jumps a (Some l) false n h lt = (lt, tt)

  mutual
    form : (a : Notes) (l : Option ℕ) (n : ℕ) (h : HeldMap) (s : Flow) → n + size s ≤ hi → AreBelow (tests a l n h s)
    form a l n h (step rs) few = rows n rs h (omega (arith, few))
    form a l n h (choose rs s t) few =
        let lt : n < hi = omega (arith, few) in
        let k = map_after rs h in
        join (row_tests n rs h) _ (rows n rs h lt)
        (join (block_tests a l n (n + 1) k s) _ (blocks a l n (n + 1) k s lt (omega (arith, few)))
        (join (below_tests n (leads_block a (n + 1) k s) (a.following n)) _ (belows n _ _ lt)
        (join (block_tests a l n (n + 1 + size_block s) k t) _ (blocks a l n (n + 1 + size_block s) k t lt (omega (arith, few)))
        (belows n (leads_block a (n + 1 + size_block s) k t) (a.following n) lt))))
    form a l n h (loop rs s) few =
        let lt : n < hi = omega (arith, few) in
        let k = map_after rs (a.around n) in (
          lt,
          join (row_tests n rs (a.around n)) _ (rows n rs (a.around n) lt)
              (lt, join (block_tests a (Some n) n (n + 1) k s) _ (blocks a (Some n) n (n + 1) k s lt (omega (arith, few))) (belows n (leads_block a (n + 1) k s) (a.around n) lt)),
        )
    form a l n h (switch rs arms end) few =
        let lt : n < hi = omega (arith, few) in
        join (row_tests n rs h) _ (rows n rs h lt) (arms_below a l n (n + 1) (map_after rs h) arms (a.following n) lt (omega (arith, few)))
    form a l n h (scope s) few = blocks a l n (n + 1) h s (omega (arith, few)) (omega (arith, few))
    form a l n h (focus rs s es) few =
        let lt : n < hi = omega (arith, few) in
        let k = map_after rs h in
        join (row_tests n rs h) _ (rows n rs h lt)
        (join (block_tests a l n (n + 1) k s) _ (blocks a l n (n + 1) k s lt (omega (arith, few))) (whens (leads_block a (n + 1) k s) (row_tests n es) (λ m. rows n es m lt)))
    form a l n h (return rs) few = rows n rs h (omega (arith, few))
    form a l n h (jump c left) few =
        let lt : n < hi = omega (arith, few) in
        join (row_tests n (map away_row left) h) _ (rows n (map away_row left) h lt) (jumps a l c n (map_after (map away_row left) h) lt)

    pub blocks : (a : Notes) (l : Option ℕ) (e n : ℕ) (h : HeldMap) (s : Block) → e < hi → n + size_block s ≤ hi → AreBelow (block_tests a l e n h s)
    blocks a l e n h (block ss bound end) lt few =
        join (list_tests a l n h ss) _ (lists a l n h ss few) (whens (leads_stmts a n h ss) (row_tests e (map away_row bound)) (λ m. rows e (map away_row bound) m lt))

    lists : (a : Notes) (l : Option ℕ) (n : ℕ) (h : HeldMap) (ss : Stmts) → n + size_stmts ss ≤ hi → AreBelow (list_tests a l n h ss)
    lists a l n h done few = tt
    lists a l n h (next at s rest) few =
        join (tests a l n h s) _ (form a l n h s (omega (arith, few)))
        (whens (leads a n h s) (λ m. list_tests a l (n + size s) m rest) (λ m. lists a l (n + size s) m rest (omega (arith, few))))

    arms_below : (a : Notes) (l : Option ℕ) (e n : ℕ) (h : HeldMap) (arms : Arms) (k : HeldMap) → e < hi → n + size_arms arms ≤ hi → AreBelow (arms_tests a l e n h arms k)
    arms_below a l e n h no_arms k lt few = tt
    arms_below a l e n h (arm rs s rest) k lt few =
        join (row_tests e rs h) _ (rows e rs h lt)
        (join (block_tests a l e n (map_after rs h) s) _ (blocks a l e n (map_after rs h) s lt (omega (arith, few)))
        (join (below_tests e (leads_block a n (map_after rs h) s) k) _ (belows e _ _ lt) (arms_below a l e (n + size_block s) h rest k lt (omega (arith, few)))))

  one : (t : Test) (x : Refusal) → number t < hi → Fails t (refused x) → x.statement < hi
  one (row_test n t s w) x lt f = subst (λ y. y.statement < hi) (sym f.1) lt
  one (below_test n h k) x lt f = subst (λ y. y.statement < hi) (sym f.2) lt
  one (lost_test n) x lt f = absurd f

  -- so does the one that a refusal names
  pub refused_below : (ts : List Test) (x : Refusal) → AreBelow ts → FirstFails ts (refused x) → x.statement < hi
  refused_below [] x p f = absurd f
  refused_below (t ∷ ts) x p f = ⊎_elim (λ q. one t x p.0 q) (λ q. refused_below ts x p.1 q.1) f
