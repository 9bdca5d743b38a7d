-- An annotation holds exactly where its tests do.
use Rattle.std.proofs.Common.{◌↔◌, ℕ, ◌+◌, Bool, true, false, List, [], ◌∷◌, ◌++◌, map, Option, Some, None}
use Rattle.vlt_core.specs.Core.{Func, Program}
use Rattle.vlt_core.specs.Maps.{HeldMap, IsBelow, Row, row_passed, CanPass, map_after, away_row}
use Rattle.vlt_core.specs.Flow.{Flow, step, choose, loop, switch, scope, focus, return, jump, Block, block, Stmts, done, next, Arms, no_arms, arm, size, size_block}
use Rattle.vlt_core.specs.Bodies.{body_flow}
use Rattle.vlt_core.specs.Derives.{start_map}
use Rattle.vlt_core.specs.Local.{Notes, When, Meets, leads, leads_block, IsLocal, IsLocalBlock, IsLocalStmts, IsLocalArms, IsLocalIn}
use Rattle.cert_check.specs.Tests.{Test, Hold, row_tests, below_tests, when_some, jump_tests, tests, block_tests, list_tests, arms_tests, body_tests}

-- ---- lists of tests

pub left : (xs ys : List Test) → Hold (xs ++ ys) → Hold xs
left [] ys h = tt
left (x ∷ xs) ys h = (h.0, left xs ys h.1)

pub right : (xs ys : List Test) → Hold (xs ++ ys) → Hold ys
right [] ys h = h
right (x ∷ xs) ys h = right xs ys h.1

pub both : (xs ys : List Test) → Hold xs → Hold ys → Hold (xs ++ ys)
both [] ys h k = k
both (x ∷ xs) ys h k = (h.0, both xs ys h.1 k)

passed : (n : ℕ) (rs : List Row) (h : HeldMap) → Hold (row_tests n rs h) → CanPass rs h
passed n [] h t = tt
passed n (r ∷ rs) h t = (t.0, passed n rs (row_passed r h) t.1)

passes : (n : ℕ) (rs : List Row) (h : HeldMap) → CanPass rs h → Hold (row_tests n rs h)
passes n [] h t = tt
passes n (r ∷ rs) h t = (t.0, passes n rs (row_passed r h) t.1)

below : (n : ℕ) (o : Option HeldMap) (k : HeldMap) → Hold (below_tests n o k) → When o (λ m. IsBelow m k)
below n None k t = tt
below n (Some h) k t = t.0

belows : (n : ℕ) (o : Option HeldMap) (k : HeldMap) → When o (λ m. IsBelow m k) → Hold (below_tests n o k)
belows n None k t = tt
belows n (Some h) k t = (t, tt)

on_some : (o : Option HeldMap) (go : HeldMap → List Test) (P : HeldMap → Type 0) → ((m : HeldMap) → Hold (go m) → P m) → Hold (when_some o go) → When o P
on_some None go P f t = tt
on_some (Some m) go P f t = f m t

to_some : (o : Option HeldMap) (go : HeldMap → List Test) (P : HeldMap → Type 0) → ((m : HeldMap) → P m → Hold (go m)) → When o P → Hold (when_some o go)
to_some None go P f t = tt
to_some (Some m) go P f t = f m t

met : (a : Notes) (l : Option ℕ) (c : Bool) (n : ℕ) (h : HeldMap) → Hold (jump_tests a l c n h) → Meets a l c h
met a None c n h t = t.0
met a (Some l) true n h t = t.0
met a (Some l) false n h t = t.0

meets : (a : Notes) (l : Option ℕ) (c : Bool) (n : ℕ) (h : HeldMap) → Meets a l c h → Hold (jump_tests a l c n h)
meets a None c n h t = (t, tt)
meets a (Some l) true n h t = (t, tt)
meets a (Some l) false n h t = (t, tt)

-- ---- tests that hold

mutual
  holds : (a : Notes) (l : Option ℕ) (n : ℕ) (h : HeldMap) (s : Flow) → Hold (tests a l n h s) → IsLocal a l n h s
  holds a l n h (step rs) t = passed n rs h t
  holds a l n h (choose rs s u) t =
      let t1 = right (row_tests n rs h) _ t in
      let t2 = right (block_tests a l n (n + 1) (map_after rs h) s) _ t1 in
      let t3 = right (below_tests n (leads_block a (n + 1) (map_after rs h) s) (a.following n)) _ t2 in (
        passed n rs h (left (row_tests n rs h) _ t),
        holds_block a l n (n + 1) (map_after rs h) s (left (block_tests a l n (n + 1) (map_after rs h) s) _ t1),
        holds_block a l n (n + 1 + size_block s) (map_after rs h) u (left (block_tests a l n (n + 1 + size_block s) (map_after rs h) u) _ t3),
        below n _ (a.following n) (left (below_tests n (leads_block a (n + 1) (map_after rs h) s) (a.following n)) _ t2),
        below n _ (a.following n) (right (block_tests a l n (n + 1 + size_block s) (map_after rs h) u) _ t3),
      )
  holds a l n h (loop rs s) t =
      let t1 = right (row_tests n rs (a.around n)) _ t.1 in (
        t.0,
        passed n rs (a.around n) (left (row_tests n rs (a.around n)) _ t.1),
        t1.0,
        holds_block a (Some n) n (n + 1) (map_after rs (a.around n)) s (left (block_tests a (Some n) n (n + 1) (map_after rs (a.around n)) s) _ t1.1),
        below n _ (a.around n) (right (block_tests a (Some n) n (n + 1) (map_after rs (a.around n)) s) _ t1.1),
      )
  holds a l n h (switch rs arms end) t =
      (passed n rs h (left (row_tests n rs h) _ t), holds_arms a l n (n + 1) (map_after rs h) arms (a.following n) (right (row_tests n rs h) _ t))
  holds a l n h (scope s) t = holds_block a l n (n + 1) h s t
  holds a l n h (focus rs s es) t =
      let t1 = right (row_tests n rs h) _ t in (
        passed n rs h (left (row_tests n rs h) _ t),
        holds_block a l n (n + 1) (map_after rs h) s (left (block_tests a l n (n + 1) (map_after rs h) s) _ t1),
        on_some _ (row_tests n es) (CanPass es) (λ m. passed n es m) (right (block_tests a l n (n + 1) (map_after rs h) s) _ t1),
      )
  holds a l n h (return rs) t = passed n rs h t
  holds a l n h (jump c gone) t = (
    passed n (map away_row gone) h (left (row_tests n (map away_row gone) h) _ t),
    met a l c n (map_after (map away_row gone) h) (right (row_tests n (map away_row gone) h) _ t),
  )

  pub holds_block : (a : Notes) (l : Option ℕ) (e n : ℕ) (h : HeldMap) (s : Block) → Hold (block_tests a l e n h s) → IsLocalBlock a l n h s
  holds_block a l e n h (block ss bound end) t = (
    holds_list a l n h ss (left (list_tests a l n h ss) _ t),
    on_some _ (row_tests e (map away_row bound)) (CanPass (map away_row bound)) (λ m. passed e (map away_row bound) m) (right (list_tests a l n h ss) _ t),
  )

  holds_list : (a : Notes) (l : Option ℕ) (n : ℕ) (h : HeldMap) (ss : Stmts) → Hold (list_tests a l n h ss) → IsLocalStmts a l n h ss
  holds_list a l n h done t = tt
  holds_list a l n h (next at s rest) t = (
    holds a l n h s (left (tests a l n h s) _ t),
    on_some (leads a n h s) (λ m. list_tests a l (n + size s) m rest) (λ m. IsLocalStmts a l (n + size s) m rest) (λ m. holds_list a l (n + size s) m rest) (right (tests a l n h s) _ t),
  )

  holds_arms : (a : Notes) (l : Option ℕ) (e n : ℕ) (h : HeldMap) (arms : Arms) (k : HeldMap) → Hold (arms_tests a l e n h arms k) → IsLocalArms a l n h arms k
  holds_arms a l e n h no_arms k t = tt
  holds_arms a l e n h (arm rs s rest) k t =
      let t1 = right (row_tests e rs h) _ t in
      let t2 = right (block_tests a l e n (map_after rs h) s) _ t1 in (
        passed e rs h (left (row_tests e rs h) _ t),
        holds_block a l e n (map_after rs h) s (left (block_tests a l e n (map_after rs h) s) _ t1),
        below e _ k (left (below_tests e (leads_block a n (map_after rs h) s) k) _ t2),
        holds_arms a l e (n + size_block s) h rest k (right (below_tests e (leads_block a n (map_after rs h) s) k) _ t2),
      )

-- ---- tests of what holds

mutual
  tested : (a : Notes) (l : Option ℕ) (n : ℕ) (h : HeldMap) (s : Flow) → IsLocal a l n h s → Hold (tests a l n h s)
  tested a l n h (step rs) t = passes n rs h t
  tested a l n h (choose rs s u) t =
      both (row_tests n rs h) _ (passes n rs h t.0)
      (both (block_tests a l n (n + 1) (map_after rs h) s) _ (tested_block a l n (n + 1) (map_after rs h) s t.1)
      (both (below_tests n (leads_block a (n + 1) (map_after rs h) s) (a.following n)) _ (belows n _ (a.following n) t.3)
      (both (block_tests a l n (n + 1 + size_block s) (map_after rs h) u) _ (tested_block a l n (n + 1 + size_block s) (map_after rs h) u t.2) (belows n _ (a.following n) t.4))))
  tested a l n h (loop rs s) t = (
    t.0,
    both (row_tests n rs (a.around n)) _ (passes n rs (a.around n) t.1)
        (t.2, both (block_tests a (Some n) n (n + 1) (map_after rs (a.around n)) s) _ (tested_block a (Some n) n (n + 1) (map_after rs (a.around n)) s t.3) (belows n _ (a.around n) t.4)),
  )
  tested a l n h (switch rs arms end) t = both (row_tests n rs h) _ (passes n rs h t.0) (tested_arms a l n (n + 1) (map_after rs h) arms (a.following n) t.1)
  tested a l n h (scope s) t = tested_block a l n (n + 1) h s t
  tested a l n h (focus rs s es) t =
      both (row_tests n rs h) _ (passes n rs h t.0)
      (both (block_tests a l n (n + 1) (map_after rs h) s) _ (tested_block a l n (n + 1) (map_after rs h) s t.1)
      (to_some _ (row_tests n es) (CanPass es) (λ m. passes n es m) t.2))
  tested a l n h (return rs) t = passes n rs h t
  tested a l n h (jump c gone) t =
      both (row_tests n (map away_row gone) h) _ (passes n (map away_row gone) h t.0) (meets a l c n (map_after (map away_row gone) h) t.1)

  pub tested_block : (a : Notes) (l : Option ℕ) (e n : ℕ) (h : HeldMap) (s : Block) → IsLocalBlock a l n h s → Hold (block_tests a l e n h s)
  tested_block a l e n h (block ss bound end) t =
      both (list_tests a l n h ss) _ (tested_list a l n h ss t.0)
      (to_some _ (row_tests e (map away_row bound)) (CanPass (map away_row bound)) (λ m. passes e (map away_row bound) m) t.1)

  tested_list : (a : Notes) (l : Option ℕ) (n : ℕ) (h : HeldMap) (ss : Stmts) → IsLocalStmts a l n h ss → Hold (list_tests a l n h ss)
  tested_list a l n h done t = tt
  tested_list a l n h (next at s rest) t =
      both (tests a l n h s) _ (tested a l n h s t.0)
      (to_some (leads a n h s) (λ m. list_tests a l (n + size s) m rest) (λ m. IsLocalStmts a l (n + size s) m rest) (λ m. tested_list a l (n + size s) m rest) t.1)

  tested_arms : (a : Notes) (l : Option ℕ) (e n : ℕ) (h : HeldMap) (arms : Arms) (k : HeldMap) → IsLocalArms a l n h arms k → Hold (arms_tests a l e n h arms k)
  tested_arms a l e n h no_arms k t = tt
  tested_arms a l e n h (arm rs s rest) k t =
      both (row_tests e rs h) _ (passes e rs h t.0)
      (both (block_tests a l e n (map_after rs h) s) _ (tested_block a l e n (map_after rs h) s t.1)
      (both (below_tests e (leads_block a n (map_after rs h) s) k) _ (belows e _ k t.2) (tested_arms a l e (n + size_block s) h rest k t.3)))

pub tests_local : (p : Program) (f : Func) (a : Notes) → Hold (body_tests p f a) ↔ IsLocalIn p f a
tests_local p f a = (holds_block a None 0 0 (start_map p f) (body_flow p f), tested_block a None 0 0 (start_map p f) (body_flow p f))
