-- Where each jump of a body stands in a loop, no test is that of a jump in no loop.
use Rattle.std.proofs.Common.{⊎_elim, inl, inr, ℕ, ◌+◌, Bool, true, false, true≢false, IsTrue, List, [], ◌∷◌, ◌++◌, map, Option, Some, None, sym}
use Rattle.vlt_core.specs.Maps.{HeldMap, Row, row_passed, map_after, away_row}
use Rattle.vlt_core.specs.Flow.{Flow, step, choose, loop, switch, scope, focus, return, jump, Block, block, Stmts, done, next, Arms, no_arms, arm, size, size_block}
use Rattle.vlt_core.specs.Local.{Notes, leads, leads_block, leads_stmts}
use Rattle.vlt_core_laws.specs.Scoped.{IsJumping, IsJumpingBlock, IsJumpingStmts, IsJumpingArms}
use Rattle.cert_check.specs.Tests.{Test, lost, FirstFails, row_tests, below_tests, when_some, jump_tests, tests, block_tests, list_tests, arms_tests}

-- ---- lists of tests

pub record IsFound (ts : List Test) : Type 0 where
  pub never : FirstFails ts lost → ⊥

pub both : (xs ys : List Test) → IsFound xs → IsFound ys → IsFound (xs ++ ys)
both xs ys a b = record { never = by xs a.never }
  where
    by : (xs : List Test) → (FirstFails xs lost → ⊥) → FirstFails (xs ++ ys) lost → ⊥
    by [] a f = b.never f
    by (x ∷ xs) a f = ⊎_elim (λ here. a (inl here)) (λ more. by xs (λ g. a (inr (more.0, g))) more.1) f

rows : (n : ℕ) (rs : List Row) (h : HeldMap) → IsFound (row_tests n rs h)
rows n rs h = record { never = by rs h }
  where
    by : (rs : List Row) (h : HeldMap) → FirstFails (row_tests n rs h) lost → ⊥
    by [] h f = f
    by (r ∷ rs) h f = ⊎_elim (λ here. here) (λ more. by rs (row_passed r h) more.1) f

belows : (n : ℕ) (o : Option HeldMap) (k : HeldMap) → IsFound (below_tests n o k)
belows n None k = record { never = λ f. f }
belows n (Some h) k = record { never = λ f. ⊎_elim (λ here. here) (λ more. more.1) f }

after : (o : Option HeldMap) (go : HeldMap → List Test) → ((h : HeldMap) → IsFound (go h)) → IsFound (when_some o go)
after None go each = record { never = λ f. f }
after (Some h) go each = each h

abbrev pub is_in : Option ℕ → Bool
is_in None = false
is_in (Some l) = true

jumps : (a : Notes) (l : Option ℕ) (c : Bool) (n : ℕ) (h : HeldMap) → IsTrue (is_in l) → IsFound (jump_tests a l c n h)
jumps a None c n h inside = absurd (true≢false (sym inside))
jumps a (Some l) true n h inside = record { never = λ f. ⊎_elim (λ here. here) (λ more. more.1) f }
jumps a (Some l) false n h inside = record { never = λ f. ⊎_elim (λ here. here) (λ more. more.1) f }

-- ---- bodies

module _ (a : Notes) where
  mutual
    form : (s : Flow) (l : Option ℕ) (n : ℕ) (h : HeldMap) → IsJumping (is_in l) s → IsFound (tests a l n h s)
    form (step rs) l n h j = rows n rs h
    form (choose rs s t) l n h j =
        both (row_tests n rs h) _ (rows n rs h)
        (both (block_tests a l n (n + 1) (map_after rs h) s) _ (body s l n (n + 1) (map_after rs h) j.0)
        (both (below_tests n (leads_block a (n + 1) (map_after rs h) s) (a.following n)) _ (belows n (leads_block a (n + 1) (map_after rs h) s) (a.following n))
        (both (block_tests a l n (n + 1 + size_block s) (map_after rs h) t) _ (body t l n (n + 1 + size_block s) (map_after rs h) j.1)
        (belows n (leads_block a (n + 1 + size_block s) (map_after rs h) t) (a.following n)))))
    form (loop rs s) l n h j =
        both (below_tests n (Some h) (a.around n)) _ (belows n (Some h) (a.around n))
        (both (row_tests n rs (a.around n)) _ (rows n rs (a.around n))
        (both (below_tests n (Some (map_after rs (a.around n))) (a.following n)) _ (belows n (Some (map_after rs (a.around n))) (a.following n))
        (both (block_tests a (Some n) n (n + 1) (map_after rs (a.around n)) s) _ (body s (Some n) n (n + 1) (map_after rs (a.around n)) j)
        (belows n (leads_block a (n + 1) (map_after rs (a.around n)) s) (a.around n)))))
    form (switch rs arms end) l n h j = both (row_tests n rs h) _ (rows n rs h) (ways arms l n (n + 1) (map_after rs h) (a.following n) j)
    form (scope s) l n h j = body s l n (n + 1) h j
    form (focus rs s es) l n h j =
        both (row_tests n rs h) _ (rows n rs h)
        (both (block_tests a l n (n + 1) (map_after rs h) s) _ (body s l n (n + 1) (map_after rs h) j)
        (after (leads_block a (n + 1) (map_after rs h) s) (row_tests n es) (λ m. rows n es m)))
    form (return rs) l n h j = rows n rs h
    form (jump c left) l n h j = both (row_tests n (map away_row left) h) _ (rows n (map away_row left) h) (jumps a l c n (map_after (map away_row left) h) j)

    pub body : (s : Block) (l : Option ℕ) (e n : ℕ) (h : HeldMap) → IsJumpingBlock (is_in l) s → IsFound (block_tests a l e n h s)
    body (block ss bound end) l e n h j =
        both (list_tests a l n h ss) _ (list ss l n h j) (after (leads_stmts a n h ss) (row_tests e (map away_row bound)) (λ m. rows e (map away_row bound) m))

    list : (ss : Stmts) (l : Option ℕ) (n : ℕ) (h : HeldMap) → IsJumpingStmts (is_in l) ss → IsFound (list_tests a l n h ss)
    list done l n h j = record { never = λ f. f }
    list (next at s rest) l n h j =
        both (tests a l n h s) _ (form s l n h j.0) (after (leads a n h s) (λ m. list_tests a l (n + size s) m rest) (λ m. list rest l (n + size s) m j.1))

    ways : (arms : Arms) (l : Option ℕ) (e n : ℕ) (h k : HeldMap) → IsJumpingArms (is_in l) arms → IsFound (arms_tests a l e n h arms k)
    ways no_arms l e n h k j = record { never = λ f. f }
    ways (arm rs s rest) l e n h k j =
        both (row_tests e rs h) _ (rows e rs h)
        (both (block_tests a l e n (map_after rs h) s) _ (body s l e n (map_after rs h) j.0)
        (both (below_tests e (leads_block a n (map_after rs h) s) k) _ (belows e (leads_block a n (map_after rs h) s) k)
        (ways rest l e (n + size_block s) h k j.1)))
