-- Where each statement is come to, the maps of all those that have a note are kept.
use Rattle.std.proofs.Common.{◌≡◌, ◌+◌, ◌||◌, ℕ, Bool, true, false, if◌then◌else◌, List, [], ◌∷◌, ◌++◌, refl, sym, subst}
use Rattle.std.specs.Prelude.{IsSome}
use Rattle.vlt_core.specs.Core.{Tok}
use Rattle.vlt_core.specs.Flow.{Flow, step, choose, loop, switch, scope, focus, return, jump, Block, block, Stmts, done, next, Arms, no_arms, arm, size, size_block, passes, passes_block, passes_arms}
use Rattle.vlt_core.specs.Least.{Noted, a_loop, a_join, noted, noted_block, noted_stmts, noted_arms}
use Rattle.vlt_core_laws.specs.Scoped.{IsScoped, IsScopedBlock, IsScopedStmts, IsScopedArms}
use Rattle.vlt_flow.specs.Walks.{Keeps, KeepsBlock, KeepsStmts, KeepsArms}
use Rattle.vlt_flow_maps.specs.Kept.{Marks, slot}

module _ (k : Marks) where
  -- the maps of these statements are kept
  abbrev pub AreKept : List Noted → Type 0
  AreKept [] = Unit {0}
  AreKept (a_loop n ∷ xs) = IsSome (slot k.around n) × IsSome (slot k.following n) × AreKept xs
  AreKept (a_join n ∷ xs) = IsSome (slot k.following n) × AreKept xs

  both : (xs ys : List Noted) → AreKept xs → AreKept ys → AreKept (xs ++ ys)
  both [] ys a b = b
  both (a_loop n ∷ xs) ys a b = (a.0, a.1, both xs ys a.2 b)
  both (a_join n ∷ xs) ys a b = (a.0, both xs ys a.1 b)

  join : (n : ℕ) (b : Bool) → (b ≡ true → IsSome (slot k.following n)) → AreKept (if b then a_join n ∷ [] else [])
  join n true some = (some refl, tt)
  join n false some = tt

  -- nothing comes after a statement that can't be passed
  following : (b : Bool) (ss : Stmts) (n : ℕ) → (b ≡ true → AreKept (noted_stmts n ss)) → (b ≡ false → ss ≡ done) → AreKept (noted_stmts n ss)
  following true ss n kept none = kept refl
  following false ss n kept none = subst (λ ss. AreKept (noted_stmts n ss)) (sym (none refl)) tt

  mutual
    in_form : (s : Flow) (g : Tok → Bool) (n : ℕ) → IsScoped g s → Keeps k n s → AreKept (noted n s)
    in_form (step rs) g n c h = tt
    in_form (choose rs u v) g n c h =
        let own = if passes_block u || passes_block v then a_join n ∷ [] else [] in
        both (own ++ noted_block (n + 1) u) (noted_block (n + 1 + size_block u) v)
        (both own (noted_block (n + 1) u) (join n (passes_block u || passes_block v) h.0) (in_block u g (n + 1) c.1 h.1))
        (in_block v g (n + 1 + size_block u) c.2 h.2)
    in_form (loop rs u) g n c h = (h.0, h.1, in_block u g (n + 1) c.1 h.2)
    in_form (switch rs arms end) g n c h = both (if passes_arms arms then a_join n ∷ [] else []) _ (join n (passes_arms arms) h.0) (in_arms arms g (n + 1) c.1 h.1)
    in_form (scope u) g n c h = in_block u g (n + 1) c h
    in_form (focus rs u es) g n c h = in_block u _ (n + 1) c.2 h
    in_form (return rs) g n c h = tt
    in_form (jump continues left) g n c h = tt

    pub in_block : (s : Block) (g : Tok → Bool) (n : ℕ) → IsScopedBlock g s → KeepsBlock k n s → AreKept (noted_block n s)
    in_block (block ss bound end) g n c h = in_stmts ss _ n c.1 h

    in_stmts : (ss : Stmts) (g : Tok → Bool) (n : ℕ) → IsScopedStmts g ss → KeepsStmts k n ss → AreKept (noted_stmts n ss)
    in_stmts done g n c h = tt
    in_stmts (next at s rest) g n c h = both (noted n s) _ (in_form s g n c.0 h.0) (following (passes s) rest (n + size s) (λ e. in_stmts rest g (n + size s) c.2 (h.1 e)) c.1)

    in_arms : (arms : Arms) (g : Tok → Bool) (n : ℕ) → IsScopedArms g arms → KeepsArms k n arms → AreKept (noted_arms n arms)
    in_arms no_arms g n c h = tt
    in_arms (arm rs u rest) g n c h = both (noted_block n u) _ (in_block u g n c.1 h.0) (in_arms rest g (n + size_block u) c.2 h.1)
