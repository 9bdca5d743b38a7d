-- What is found at a statement lies in the maps of each annotation that holds.
use Rattle.std.proofs.Common.{◌≡◌, ◌+◌, ◌||◌, ℕ, zero, suc, Bool, true, false, List, Option, Some, None, refl, sym, subst, ⊎_elim, true≢false, MatchBool}
use Rattle.std.specs.Prelude.{IsSome}
use Rattle.vlt_core.specs.Core.{Tok}
use Rattle.vlt_core.specs.Maps.{Row, Status, HeldMap, map_after, IsBelow}
use Rattle.vlt_core.specs.Flow.{Flow, step, choose, loop, switch, scope, focus, return, jump, Block, block, Stmts, done, next, Arms, no_arms, arm, size, size_block, passes, passes_block, passes_arms}
use Rattle.vlt_core.specs.Local.{Notes, When, only_if, leads, IsLocal, IsLocalBlock, IsLocalStmts, IsLocalArms}
use Rattle.vlt_core.specs.Found.{One, Ones, Has, images, both, turns, to_next, to_continue, out, out_block, head_of}
use Rattle.vlt_core_laws.specs.Scoped.{IsScoped, IsScopedBlock, IsScopedStmts, IsScopedArms}
use Rattle.vlt_core_laws.specs.Sweep.{found_head, found_head_block, found_head_stmts, found_head_arms, found_exit, found_exit_block, found_exit_stmts, found_exit_arms}
use Rattle.vlt_core_laws.proofs.Changes.{leads_some}
use Rattle.vlt_core_laws.proofs.Founds.{IsIn, images_in, in_below, has_below, HasAt, local_out, local_out_block}

-- ---- maps

has_through : (o : Option HeldMap) (k : HeldMap) (t : Tok) (x : One) → HasAt o t x → When o (λ m. IsBelow m k) → Has (k t) x
has_through None k t x h w = absurd h
has_through (Some m) k t x h w = has_below (m t) (k t) x (w.each t) h

only_has : (b : Bool) (k : HeldMap) (t : Tok) (x : One) → HasAt (only_if b k) t x → Has (k t) x
only_has true k t x h = h
only_has false k t x h = absurd h

turns_in : (F : Ones → Ones) (S : Ones) (i : Status) → IsIn S i → ((T : Ones) → IsIn T i → IsIn (F T) i) → (n : ℕ) → IsIn (turns F n S) i
turns_in F S i p f zero = p
turns_in F S i p f (suc n) = f (turns F n S) (turns_in F S i p f n)

-- a statement that leads nowhere isn't passed
pub leads_nowhere : (b : Bool) (o : Option HeldMap) → MatchBool b (IsSome o) (o ≡ None) → o ≡ None → b ≡ false
leads_nowhere false o m e = refl
leads_nowhere true o m e = absurd (true≢false (sym (subst (λ o. IsSome o) e m)))

-- where the statement before leads on, what comes to it lies in the map
pub in_next : (t : Tok) (a : Notes) (l : Option ℕ) (n : ℕ) (h m : HeldMap) (S : Ones) (s : Flow) → IsIn S (h t) → IsLocal a l n h s → leads a n h s ≡ Some m → IsIn (out t s S to_next) (m t)
in_next t a l n h m S s p d e = record { each = λ o x. subst (λ z. HasAt z t o) e ((local_out s t a l n h S p d).0.next o x) }

when_some : (o : Option HeldMap) (m : HeldMap) (P : HeldMap → Type 0) → o ≡ Some m → When o P → P m
when_some o m P e w = subst (λ z. When z P) e w

-- what is so of the statements after one is so of none, or of those that some map comes to
pub rest_case : (t : Tok) (a : Notes) (l : Option ℕ) (n : ℕ) (h : HeldMap) (S : Ones) (s : Flow) (rest : Stmts) (F : Stmts → Type 0) (Y : Type 0) →
    (passes s ≡ false → rest ≡ done) → IsIn S (h t) → IsLocal a l n h s → When (leads a n h s) (λ m. IsLocalStmts a l (n + size s) m rest) → F rest → (F done → Y) →
    ((m : HeldMap) → IsIn (out t s S to_next) (m t) → IsLocalStmts a l (n + size s) m rest → Y) → Y
rest_case t a l n h S s rest F Y last p d w x none go = by (leads a n h s) refl
  where
    by : (o : Option HeldMap) → leads a n h s ≡ o → Y
    by None e = none (subst F (last (leads_nowhere (passes s) (leads a n h s) (leads_some s a n h) e)) x)
    by (Some m) e = go m (in_next t a l n h m S s p d e) (when_some (leads a n h s) m (λ m. IsLocalStmts a l (n + size s) m rest) e w)

module _ (t : Tok) (a : Notes) where
  pub at_head : (rs : List Row) (s : Block) (l : Option ℕ) (n : ℕ) (h : HeldMap) (S : Ones) → IsIn S (h t) → IsLocal a l n h (loop rs s) → IsIn (head_of t rs s S) (a.around n t)
  at_head rs s l n h S p d = record { each = λ o x. (turns_in _ S (a.around n t) (in_below S (h t) (a.around n t) (d.0.each t) p) round x.0).each o x.1 }
    where
      round : (T : Ones) → IsIn T (a.around n t) → IsIn (both (out_block t s (images t rs T) to_next) (out_block t s (images t rs T) to_continue)) (a.around n t)
      round T q =
          let f = local_out_block s t a (Some n) (n + 1) (map_after rs (a.around n)) (images t rs T) (images_in t rs T (a.around n) q) d.3 in
          record { each = λ o y. ⊎_elim (λ z. has_through _ (a.around n) t o (f.0.next o z) d.4) (f.0.continues o) y }

  mutual
    heads_in : (s : Flow) (g : Tok → Bool) (l : Option ℕ) (n : ℕ) (h : HeldMap) (S : Ones) → IsScoped g s → IsIn S (h t) → IsLocal a l n h s → (i : ℕ) (o : One) → found_head t s n S i o → Has (a.around i t) o
    heads_in (step rs) g l n h S c p d i o x = absurd x
    heads_in (choose rs u v) g l n h S c p d i o x = ⊎_elim
        (heads_in_block u g l (n + 1) (map_after rs h) (images t rs S) c.1 (images_in t rs S h p) d.1 i o)
        (heads_in_block v g l (n + 1 + size_block u) (map_after rs h) (images t rs S) c.2 (images_in t rs S h p) d.2 i o) x
    heads_in (loop rs s) g l n h S c p d i o x =
        let top = at_head rs s l n h S p d in
        ⊎_elim (λ y. subst (λ j. Has (a.around j t) o) (sym y.0) (top.each o y.1))
        (heads_in_block s g (Some n) (n + 1) (map_after rs (a.around n)) (images t rs (head_of t rs s S)) c.1 (images_in t rs (head_of t rs s S) (a.around n) top) d.3 i o) x
    heads_in (switch rs arms end) g l n h S c p d i o x = heads_in_arms arms g l (n + 1) (map_after rs h) (a.following n) (images t rs S) c.1 (images_in t rs S h p) d.1 i o x
    heads_in (scope s) g l n h S c p d i o x = heads_in_block s g l (n + 1) h S c p d i o x
    heads_in (focus rs s es) g l n h S c p d i o x = heads_in_block s _ l (n + 1) (map_after rs h) (images t rs S) c.2 (images_in t rs S h p) d.1 i o x
    heads_in (return rs) g l n h S c p d i o x = absurd x
    heads_in (jump k left) g l n h S c p d i o x = absurd x

    pub heads_in_block : (s : Block) (g : Tok → Bool) (l : Option ℕ) (n : ℕ) (h : HeldMap) (S : Ones) → IsScopedBlock g s → IsIn S (h t) → IsLocalBlock a l n h s → (i : ℕ) (o : One) → found_head_block t s n S i o → Has (a.around i t) o
    heads_in_block (block ss bound end) g l n h S c p d i o x = heads_in_stmts ss _ l n h S c.1 p d.0 i o x

    heads_in_stmts : (ss : Stmts) (g : Tok → Bool) (l : Option ℕ) (n : ℕ) (h : HeldMap) (S : Ones) → IsScopedStmts g ss → IsIn S (h t) → IsLocalStmts a l n h ss → (i : ℕ) (o : One) → found_head_stmts t ss n S i o → Has (a.around i t) o
    heads_in_stmts done g l n h S c p d i o x = absurd x
    heads_in_stmts (next at s rest) g l n h S c p d i o x = ⊎_elim
        (heads_in s g l n h S c.0 p d.0 i o)
        (λ y. rest_case t a l n h S s rest (λ ss. found_head_stmts t ss (n + size s) (out t s S to_next) i o) (Has (a.around i t) o) c.1 p d.0 d.1 y (λ z. absurd z)
        (λ m q w. heads_in_stmts rest g l (n + size s) m (out t s S to_next) c.2 q w i o y)) x

    heads_in_arms : (arms : Arms) (g : Tok → Bool) (l : Option ℕ) (n : ℕ) (h k : HeldMap) (S : Ones) → IsScopedArms g arms → IsIn S (h t) → IsLocalArms a l n h arms k → (i : ℕ) (o : One) → found_head_arms t arms n S i o → Has (a.around i t) o
    heads_in_arms no_arms g l n h k S c p d i o x = absurd x
    heads_in_arms (arm rs s rest) g l n h k S c p d i o x = ⊎_elim
        (heads_in_block s g l n (map_after rs h) (images t rs S) c.1 (images_in t rs S h p) d.1 i o)
        (heads_in_arms rest g l (n + size_block s) h k S c.2 p d.3 i o) x

  -- ---- after loops and choices

  mutual
    exits_in : (s : Flow) (g : Tok → Bool) (l : Option ℕ) (n : ℕ) (h : HeldMap) (S : Ones) → IsScoped g s → IsIn S (h t) → IsLocal a l n h s → (i : ℕ) (o : One) → found_exit t s n S i o → Has (a.following i t) o
    exits_in (step rs) g l n h S c p d i o x = absurd x
    exits_in (choose rs u v) g l n h S c p d i o x = ⊎_elim
        (λ y. subst (λ j. Has (a.following j t) o) (sym y.0) (only_has (passes_block u || passes_block v) (a.following n) t o ((local_out (choose rs u v) t a l n h S p d).0.next o y.1)))
        (⊎_elim
        (exits_in_block u g l (n + 1) (map_after rs h) (images t rs S) c.1 (images_in t rs S h p) d.1 i o)
        (exits_in_block v g l (n + 1 + size_block u) (map_after rs h) (images t rs S) c.2 (images_in t rs S h p) d.2 i o)) x
    exits_in (loop rs s) g l n h S c p d i o x = ⊎_elim
        (λ y. subst (λ j. Has (a.following j t) o) (sym y.0) ((local_out (loop rs s) t a l n h S p d).0.next o y.1))
        (exits_in_block s g (Some n) (n + 1) (map_after rs (a.around n)) (images t rs (head_of t rs s S)) c.1 (images_in t rs (head_of t rs s S) (a.around n) (at_head rs s l n h S p d)) d.3 i o) x
    exits_in (switch rs arms end) g l n h S c p d i o x = ⊎_elim
        (λ y. subst (λ j. Has (a.following j t) o) (sym y.0) (only_has (passes_arms arms) (a.following n) t o ((local_out (switch rs arms end) t a l n h S p d).0.next o y.1)))
        (exits_in_arms arms g l (n + 1) (map_after rs h) (a.following n) (images t rs S) c.1 (images_in t rs S h p) d.1 i o) x
    exits_in (scope s) g l n h S c p d i o x = exits_in_block s g l (n + 1) h S c p d i o x
    exits_in (focus rs s es) g l n h S c p d i o x = exits_in_block s _ l (n + 1) (map_after rs h) (images t rs S) c.2 (images_in t rs S h p) d.1 i o x
    exits_in (return rs) g l n h S c p d i o x = absurd x
    exits_in (jump k left) g l n h S c p d i o x = absurd x

    pub exits_in_block : (s : Block) (g : Tok → Bool) (l : Option ℕ) (n : ℕ) (h : HeldMap) (S : Ones) → IsScopedBlock g s → IsIn S (h t) → IsLocalBlock a l n h s → (i : ℕ) (o : One) → found_exit_block t s n S i o → Has (a.following i t) o
    exits_in_block (block ss bound end) g l n h S c p d i o x = exits_in_stmts ss _ l n h S c.1 p d.0 i o x

    exits_in_stmts : (ss : Stmts) (g : Tok → Bool) (l : Option ℕ) (n : ℕ) (h : HeldMap) (S : Ones) → IsScopedStmts g ss → IsIn S (h t) → IsLocalStmts a l n h ss → (i : ℕ) (o : One) → found_exit_stmts t ss n S i o → Has (a.following i t) o
    exits_in_stmts done g l n h S c p d i o x = absurd x
    exits_in_stmts (next at s rest) g l n h S c p d i o x = ⊎_elim
        (exits_in s g l n h S c.0 p d.0 i o)
        (λ y. rest_case t a l n h S s rest (λ ss. found_exit_stmts t ss (n + size s) (out t s S to_next) i o) (Has (a.following i t) o) c.1 p d.0 d.1 y (λ z. absurd z)
        (λ m q w. exits_in_stmts rest g l (n + size s) m (out t s S to_next) c.2 q w i o y)) x

    exits_in_arms : (arms : Arms) (g : Tok → Bool) (l : Option ℕ) (n : ℕ) (h k : HeldMap) (S : Ones) → IsScopedArms g arms → IsIn S (h t) → IsLocalArms a l n h arms k → (i : ℕ) (o : One) → found_exit_arms t arms n S i o → Has (a.following i t) o
    exits_in_arms no_arms g l n h k S c p d i o x = absurd x
    exits_in_arms (arm rs s rest) g l n h k S c p d i o x = ⊎_elim
        (exits_in_block s g l n (map_after rs h) (images t rs S) c.1 (images_in t rs S h p) d.1 i o)
        (exits_in_arms rest g l (n + size_block s) h k S c.2 p d.3 i o) x
