-- A statement that ends has no way on.
use Rattle.std.proofs.Common.{◌≡◌, ◌⊎◌, inl, inr, refl, sym, ap, ◌∙◌, ⊎_elim, ℕ, ◌&&◌, ◌||◌, Bool, true, false, true≢false, List, ◌++◌}
use Rattle.vlt_core.specs.Core as core
use Rattle.vlt_core.specs.Core.{Tok, Func, Program}
use Rattle.vlt_core.specs.Flow.{passes, passes_block, passes_stmts, passes_arms}
use Rattle.vlt_core.specs.Bodies.{flow_of, flow_of_block, flow_of_stmts, flow_of_arms}
use Rattle.vlt_core.specs.KindedBodies.{ends, block_ends, list_ends, arms_end}

both_so : (a b : Bool) → (a && b) ≡ true → (a ≡ true) × (b ≡ true)
both_so true b e = (refl, e)
both_so false b e = absurd (true≢false (sym e))

neither : (a b : Bool) → a ≡ false → b ≡ false → (a || b) ≡ false
neither a b p q = ap (λ x. x || b) p ∙ q

first_not : (a b : Bool) → a ≡ false → (a && b) ≡ false
first_not a b p = ap (λ x. x && b) p

second_not : (a b : Bool) → b ≡ false → (a && b) ≡ false
second_not true b p = p
second_not false b p = refl

no : {X : Type 0} → false ≡ true → X
no e = absurd (true≢false (sym e))

module _ (p : Program) (f : Func) where
  mutual
    pub dont_pass : (s : core.Form) (left : List Tok) → ends s ≡ true → passes (flow_of p f left s) ≡ false
    dont_pass (core.simple s) left e = no e
    dont_pass (core.call g target keys args) left e = no e
    dont_pass (core.choose x a b) left e = let q = both_so (block_ends a) (block_ends b) e in neither _ _ (block_stops a left q.0) (block_stops b left q.1)
    dont_pass (core.loop x b) left e = no e
    dont_pass (core.switch v arms end) left e = arms_stop arms left v e
    dont_pass (core.focus y z b) left e = no e
    dont_pass (core.scope b) left e = block_stops b left e
    dont_pass (core.return value) left e = refl
    dont_pass (core.jump continues) left e = refl

    block_stops : (b : core.Block) (left : List Tok) → block_ends b ≡ true → passes_block (flow_of_block p f left b) ≡ false
    block_stops (core.block ss bound end) left e = ⊎_elim (λ q. no q) (λ q. q) (list_stops ss (left ++ bound) false e)

    list_stops : (ss : core.Stmts) (left : List Tok) (before : Bool) → list_ends before ss ≡ true → (before ≡ true) ⊎ (passes_stmts (flow_of_stmts p f left ss) ≡ false)
    list_stops core.done left before e = inl e
    list_stops (core.next at s rest) left before e =
        inr (⊎_elim (λ q. first_not _ _ (dont_pass s left q)) (λ q. second_not _ _ q) (list_stops rest left (ends s) e))

    arms_stop : (arms : core.Arms) (left : List Tok) (v : ℕ) → arms_end arms ≡ true → passes_arms (flow_of_arms p f left v arms) ≡ false
    arms_stop core.no_arms left v e = refl
    arms_stop (core.arm c vs b rest) left v e = let q = both_so (block_ends b) (arms_end rest) e in neither _ _ (block_stops b left q.0) (arms_stop rest left v q.1)
