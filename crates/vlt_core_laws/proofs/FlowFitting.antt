-- Whether tables fit depends on what comes to the part alone.
use Rattle.std.proofs.Common.{◌+◌, ℕ}
use Rattle.vlt_core.specs.Core.{Tok}
use Rattle.vlt_core.specs.Flow.{Flow, step, choose, loop, switch, scope, focus, return, jump, Block, block, Stmts, done, next, Arms, no_arms, arm, size, size_block}
use Rattle.vlt_core.specs.Found.{One, Ones, images, out, to_next, head_of}
use Rattle.vlt_core_laws.proofs.Smooth.{smooth_images, smooth_form, smooth_heads}
use Rattle.vlt_core_laws.proofs.Sweeping.{smooth_round}
use Rattle.vlt_core_laws.specs.Sweep.{Fits, FitsBlock, FitsStmts, FitsArms, IsSameOnes}

same_trans : (A S T : Ones) → IsSameOnes A S → ((o : One) → S o → T o) → ((o : One) → T o → S o) → IsSameOnes A T
same_trans A S T z f g = record { there = λ o x. f o (z.there o x); back = λ o x. z.back o (g o x) }

mutual
  pub same_fits : (s : Flow) (A B : ℕ → Ones) (t : Tok) (n : ℕ) (S T : Ones) → ((o : One) → S o → T o) → ((o : One) → T o → S o) → Fits A B t s n S → Fits A B t s n T
  same_fits (step rs) A B t n S T f g z = tt
  same_fits (choose rs a b) A B t n S T f g z =
      let u = (smooth_images t rs).more S T f in let v = (smooth_images t rs).more T S g in
      let o = smooth_form (choose rs a b) t to_next in (
        same_trans (B n) (out t (choose rs a b) S to_next) (out t (choose rs a b) T to_next) z.0 (o.more S T f) (o.more T S g),
        same_fits_block a A B t (n + 1) (images t rs S) (images t rs T) u v z.1,
        same_fits_block b A B t (n + 1 + size_block a) (images t rs S) (images t rs T) u v z.2,
      )
  same_fits (loop rs s) A B t n S T f g z =
      let i = smooth_heads _ (smooth_round t rs s) in
      let h = i.more S T f in let k = i.more T S g in
      let o = smooth_form (loop rs s) t to_next in (
        same_trans (A n) (head_of t rs s S) (head_of t rs s T) z.0 h k,
        same_trans (B n) (out t (loop rs s) S to_next) (out t (loop rs s) T to_next) z.1 (o.more S T f) (o.more T S g),
        same_fits_block s A B t (n + 1) (images t rs (head_of t rs s S)) (images t rs (head_of t rs s T)) ((smooth_images t rs).more (head_of t rs s S) (head_of t rs s T) h) ((smooth_images t rs).more (head_of t rs s T) (head_of t rs s S) k) z.2,
      )
  same_fits (switch rs arms end) A B t n S T f g z =
      let o = smooth_form (switch rs arms end) t to_next in (
        same_trans (B n) (out t (switch rs arms end) S to_next) (out t (switch rs arms end) T to_next) z.0 (o.more S T f) (o.more T S g),
        same_fits_arms arms A B t (n + 1) (images t rs S) (images t rs T) ((smooth_images t rs).more S T f) ((smooth_images t rs).more T S g) z.1,
      )
  same_fits (scope s) A B t n S T f g z = same_fits_block s A B t (n + 1) S T f g z
  same_fits (focus rs s es) A B t n S T f g z = same_fits_block s A B t (n + 1) (images t rs S) (images t rs T) ((smooth_images t rs).more S T f) ((smooth_images t rs).more T S g) z
  same_fits (return rs) A B t n S T f g z = tt
  same_fits (jump c left) A B t n S T f g z = tt

  pub same_fits_block : (s : Block) (A B : ℕ → Ones) (t : Tok) (n : ℕ) (S T : Ones) → ((o : One) → S o → T o) → ((o : One) → T o → S o) → FitsBlock A B t s n S → FitsBlock A B t s n T
  same_fits_block (block ss bound end) A B t n S T f g z = same_fits_stmts ss A B t n S T f g z

  same_fits_stmts : (ss : Stmts) (A B : ℕ → Ones) (t : Tok) (n : ℕ) (S T : Ones) → ((o : One) → S o → T o) → ((o : One) → T o → S o) → FitsStmts A B t ss n S → FitsStmts A B t ss n T
  same_fits_stmts done A B t n S T f g z = tt
  same_fits_stmts (next at s rest) A B t n S T f g z =
      let o = smooth_form s t to_next in
      (same_fits s A B t n S T f g z.0, same_fits_stmts rest A B t (n + size s) (out t s S to_next) (out t s T to_next) (o.more S T f) (o.more T S g) z.1)

  same_fits_arms : (arms : Arms) (A B : ℕ → Ones) (t : Tok) (n : ℕ) (S T : Ones) → ((o : One) → S o → T o) → ((o : One) → T o → S o) → FitsArms A B t arms n S → FitsArms A B t arms n T
  same_fits_arms no_arms A B t n S T f g z = tt
  same_fits_arms (arm rs s rest) A B t n S T f g z = (
    same_fits_block s A B t n (images t rs S) (images t rs T) ((smooth_images t rs).more S T f) ((smooth_images t rs).more T S g) z.0,
    same_fits_arms rest A B t (n + size_block s) S T f g z.1,
  )
