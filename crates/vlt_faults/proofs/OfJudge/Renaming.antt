-- Two tokens that no row of a part names are told apart by nothing in it.
use Rattle.std.proofs.Common.{◌≡◌, ◌+◌, ℕ, false, List, [], ◌∷◌, map, length, ◌⊎◌, sym, ◌∙◌}
use Rattle.vlt_core.specs.Core.{Tok}
use Rattle.vlt_core.specs.Maps.{Row, is_tok, away_row}
use Rattle.vlt_core.specs.Flow.{Flow, step, choose, loop, switch, scope, focus, return, jump, Block, block, Stmts, done, next, Arms, no_arms, arm, end_of, size, size_block}
use Rattle.vlt_core.specs.Found.{Ones, image_if, images, both, heads, Exit, to_next, to_break, to_continue, jumps, out, out_block, out_stmts, out_arms, head_of}
use Rattle.vlt_core.specs.Faults.{Spot, head_spot, join_spot, row_spot, If, spots, spots_block, spots_stmts, spots_arms, RowAt, SpotAt, SpotAtBlock, SpotAtStmts, SpotAtArms}
use Rattle.vlt_core_laws.specs.Sweep.{found_head, found_head_block, found_head_stmts, found_head_arms, found_exit, found_exit_block, found_exit_stmts, found_exit_arms}
use Rattle.vlt_faults.specs.Judge.Extents.{AvoidsRows, Avoids, AvoidsBlock, AvoidsStmts, AvoidsArms}

module _ (t u : Tok) where
  same_test : (r : Row) → is_tok t r.tok ≡ false → is_tok u r.tok ≡ false → is_tok t r.tok ≡ is_tok u r.tok
  same_test r p q = p ∙ sym q

  images_named : (rs : List Row) → AvoidsRows t rs → AvoidsRows u rs → images t rs ≡ images u rs
  images_named [] p q = λ i S o. S o
  images_named (r ∷ rs) p q =
      let e = same_test r p.0 q.0 in let rest = images_named rs p.1 q.1 in
      λ i S o. rest i (λ x. image_if (e i) r S x) o

  mutual
    out_named : (s : Flow) (x : Exit) → Avoids t s → Avoids u s → ◌≡◌ {A = Ones → Ones} (λ S. out t s S x) (λ S. out u s S x)
    out_named (step rs) to_next p q = let m = images_named rs p q in λ i S o. m i S o
    out_named (step rs) to_break p q = λ i S o. ⊥
    out_named (step rs) to_continue p q = λ i S o. ⊥
    out_named (choose rs a b) x p q =
        let m = images_named rs p.0 q.0 in let f = out_block_named a x p.1.0 q.1.0 in let g = out_block_named b x p.1.1 q.1.1 in
        λ i S o. f i (λ y. m i S y) o ⊎ g i (λ y. m i S y) o
    out_named (loop rs s) to_next p q =
        let m = images_named rs p.0 q.0 in let f = out_block_named s to_next p.1 q.1 in let g = out_block_named s to_continue p.1 q.1 in let h = out_block_named s to_break p.1 q.1 in
        λ i S o. m i (λ y. heads (λ T. both (f i (λ z. m i T z)) (g i (λ z. m i T z))) S y) o ⊎ h i (λ w. m i (λ y. heads (λ T. both (f i (λ z. m i T z)) (g i (λ z. m i T z))) S y) w) o
    out_named (loop rs s) to_break p q = λ i S o. ⊥
    out_named (loop rs s) to_continue p q = λ i S o. ⊥
    out_named (switch rs arms end) x p q = let m = images_named rs p.0 q.0 in let f = out_arms_named arms x p.1 q.1 in λ i S o. f i (λ y. m i S y) o
    out_named (scope s) x p q = let f = out_block_named s x p q in λ i S o. f i S o
    out_named (focus rs s es) to_next p q =
        let m = images_named rs p.0 q.0 in let f = out_block_named s to_next p.1.0 q.1.0 in let n = images_named es p.1.1 q.1.1 in
        λ i S o. n i (λ y. f i (λ z. m i S z) y) o
    out_named (focus rs s es) to_break p q = let m = images_named rs p.0 q.0 in let f = out_block_named s to_break p.1.0 q.1.0 in λ i S o. f i (λ z. m i S z) o
    out_named (focus rs s es) to_continue p q = let m = images_named rs p.0 q.0 in let f = out_block_named s to_continue p.1.0 q.1.0 in λ i S o. f i (λ z. m i S z) o
    out_named (return rs) x p q = λ i S o. ⊥
    out_named (jump c left) x p q = let m = images_named (map away_row left) p q in λ i S o. jumps c x (λ y. m i S y) o

    out_block_named : (s : Block) (x : Exit) → AvoidsBlock t s → AvoidsBlock u s → ◌≡◌ {A = Ones → Ones} (λ S. out_block t s S x) (λ S. out_block u s S x)
    out_block_named (block ss bound end) to_next p q =
        let f = out_stmts_named ss to_next p.0 q.0 in let m = images_named (map away_row bound) p.1 q.1 in λ i S o. m i (λ y. f i S y) o
    out_block_named (block ss bound end) to_break p q = let f = out_stmts_named ss to_break p.0 q.0 in λ i S o. f i S o
    out_block_named (block ss bound end) to_continue p q = let f = out_stmts_named ss to_continue p.0 q.0 in λ i S o. f i S o

    out_stmts_named : (ss : Stmts) (x : Exit) → AvoidsStmts t ss → AvoidsStmts u ss → ◌≡◌ {A = Ones → Ones} (λ S. out_stmts t ss S x) (λ S. out_stmts u ss S x)
    out_stmts_named done to_next p q = λ i S o. S o
    out_stmts_named done to_break p q = λ i S o. ⊥
    out_stmts_named done to_continue p q = λ i S o. ⊥
    out_stmts_named (next at s rest) to_next p q =
        let f = out_named s to_next p.0 q.0 in let g = out_stmts_named rest to_next p.1 q.1 in λ i S o. g i (λ y. f i S y) o
    out_stmts_named (next at s rest) to_break p q =
        let f = out_named s to_next p.0 q.0 in let h = out_named s to_break p.0 q.0 in let g = out_stmts_named rest to_break p.1 q.1 in λ i S o. h i S o ⊎ g i (λ y. f i S y) o
    out_stmts_named (next at s rest) to_continue p q =
        let f = out_named s to_next p.0 q.0 in let h = out_named s to_continue p.0 q.0 in let g = out_stmts_named rest to_continue p.1 q.1 in λ i S o. h i S o ⊎ g i (λ y. f i S y) o

    out_arms_named : (arms : Arms) (x : Exit) → AvoidsArms t arms → AvoidsArms u arms → ◌≡◌ {A = Ones → Ones} (λ S. out_arms t arms S x) (λ S. out_arms u arms S x)
    out_arms_named no_arms x p q = λ i S o. ⊥
    out_arms_named (arm rs s rest) x p q =
        let m = images_named rs p.0.0 q.0.0 in let f = out_block_named s x p.0.1 q.0.1 in let g = out_arms_named rest x p.1 q.1 in
        λ i S o. f i (λ y. m i S y) o ⊎ g i S o

  head_named : (rs : List Row) (s : Block) → AvoidsRows t rs × AvoidsBlock t s → AvoidsRows u rs × AvoidsBlock u s → head_of t rs s ≡ head_of u rs s
  head_named rs s p q =
      let m = images_named rs p.0 q.0 in let f = out_block_named s to_next p.1 q.1 in let g = out_block_named s to_continue p.1 q.1 in
      λ i S o. heads (λ T. both (f i (λ z. m i T z)) (g i (λ z. m i T z))) S o

  -- ---- what is found at the heads and after

  mutual
    heads_named : (s : Flow) (n : ℕ) → Avoids t s → Avoids u s → found_head t s n ≡ found_head u s n
    heads_named (choose rs a b) n p q =
        let m = images_named rs p.0 q.0 in let f = heads_block_named a (n + 1) p.1.0 q.1.0 in let g = heads_block_named b (n + 1 + size_block a) p.1.1 q.1.1 in
        λ i S j o. f i (λ y. m i S y) j o ⊎ g i (λ y. m i S y) j o
    heads_named (loop rs s) n p q =
        let m = images_named rs p.0 q.0 in let h = head_named rs s p q in let f = heads_block_named s (n + 1) p.1 q.1 in
        λ i S j o. ((j ≡ n) × h i S o) ⊎ f i (λ y. m i (λ z. h i S z) y) j o
    heads_named (switch rs arms end) n p q = let m = images_named rs p.0 q.0 in let f = heads_arms_named arms (n + 1) p.1 q.1 in λ i S j o. f i (λ y. m i S y) j o
    heads_named (scope s) n p q = let f = heads_block_named s (n + 1) p q in λ i S j o. f i S j o
    heads_named (focus rs s es) n p q = let m = images_named rs p.0 q.0 in let f = heads_block_named s (n + 1) p.1.0 q.1.0 in λ i S j o. f i (λ y. m i S y) j o
    heads_named (step rs) n p q = λ i S j o. ⊥
    heads_named (return rs) n p q = λ i S j o. ⊥
    heads_named (jump c left) n p q = λ i S j o. ⊥

    pub heads_block_named : (s : Block) (n : ℕ) → AvoidsBlock t s → AvoidsBlock u s → found_head_block t s n ≡ found_head_block u s n
    heads_block_named (block ss bound end) n p q = let f = heads_stmts_named ss n p.0 q.0 in λ i S j o. f i S j o

    heads_stmts_named : (ss : Stmts) (n : ℕ) → AvoidsStmts t ss → AvoidsStmts u ss → found_head_stmts t ss n ≡ found_head_stmts u ss n
    heads_stmts_named done n p q = λ i S j o. ⊥
    heads_stmts_named (next at s rest) n p q =
        let f = heads_named s n p.0 q.0 in let m = out_named s to_next p.0 q.0 in let g = heads_stmts_named rest (n + size s) p.1 q.1 in
        λ i S j o. f i S j o ⊎ g i (λ y. m i S y) j o

    heads_arms_named : (arms : Arms) (n : ℕ) → AvoidsArms t arms → AvoidsArms u arms → found_head_arms t arms n ≡ found_head_arms u arms n
    heads_arms_named no_arms n p q = λ i S j o. ⊥
    heads_arms_named (arm rs s rest) n p q =
        let m = images_named rs p.0.0 q.0.0 in let f = heads_block_named s n p.0.1 q.0.1 in let g = heads_arms_named rest (n + size_block s) p.1 q.1 in
        λ i S j o. f i (λ y. m i S y) j o ⊎ g i S j o

  mutual
    exits_named : (s : Flow) (n : ℕ) → Avoids t s → Avoids u s → found_exit t s n ≡ found_exit u s n
    exits_named (choose rs a b) n p q =
        let m = images_named rs p.0 q.0 in let x = out_named (choose rs a b) to_next p q in let f = exits_block_named a (n + 1) p.1.0 q.1.0 in let g = exits_block_named b (n + 1 + size_block a) p.1.1 q.1.1 in
        λ i S j o. ((j ≡ n) × x i S o) ⊎ (f i (λ y. m i S y) j o ⊎ g i (λ y. m i S y) j o)
    exits_named (loop rs s) n p q =
        let m = images_named rs p.0 q.0 in let x = out_named (loop rs s) to_next p q in let h = head_named rs s p q in let f = exits_block_named s (n + 1) p.1 q.1 in
        λ i S j o. ((j ≡ n) × x i S o) ⊎ f i (λ y. m i (λ z. h i S z) y) j o
    exits_named (switch rs arms end) n p q =
        let m = images_named rs p.0 q.0 in let x = out_named (switch rs arms end) to_next p q in let f = exits_arms_named arms (n + 1) p.1 q.1 in
        λ i S j o. ((j ≡ n) × x i S o) ⊎ f i (λ y. m i S y) j o
    exits_named (scope s) n p q = let f = exits_block_named s (n + 1) p q in λ i S j o. f i S j o
    exits_named (focus rs s es) n p q = let m = images_named rs p.0 q.0 in let f = exits_block_named s (n + 1) p.1.0 q.1.0 in λ i S j o. f i (λ y. m i S y) j o
    exits_named (step rs) n p q = λ i S j o. ⊥
    exits_named (return rs) n p q = λ i S j o. ⊥
    exits_named (jump c left) n p q = λ i S j o. ⊥

    pub exits_block_named : (s : Block) (n : ℕ) → AvoidsBlock t s → AvoidsBlock u s → found_exit_block t s n ≡ found_exit_block u s n
    exits_block_named (block ss bound end) n p q = let f = exits_stmts_named ss n p.0 q.0 in λ i S j o. f i S j o

    exits_stmts_named : (ss : Stmts) (n : ℕ) → AvoidsStmts t ss → AvoidsStmts u ss → found_exit_stmts t ss n ≡ found_exit_stmts u ss n
    exits_stmts_named done n p q = λ i S j o. ⊥
    exits_stmts_named (next at s rest) n p q =
        let f = exits_named s n p.0 q.0 in let m = out_named s to_next p.0 q.0 in let g = exits_stmts_named rest (n + size s) p.1 q.1 in
        λ i S j o. f i S j o ⊎ g i (λ y. m i S y) j o

    exits_arms_named : (arms : Arms) (n : ℕ) → AvoidsArms t arms → AvoidsArms u arms → found_exit_arms t arms n ≡ found_exit_arms u arms n
    exits_arms_named no_arms n p q = λ i S j o. ⊥
    exits_arms_named (arm rs s rest) n p q =
        let m = images_named rs p.0.0 q.0.0 in let f = exits_block_named s n p.0.1 q.0.1 in let g = exits_arms_named rest (n + size_block s) p.1 q.1 in
        λ i S j o. f i (λ y. m i S y) j o ⊎ g i S j o

  -- ---- spots

  module _ (P : Row → Ones → Type 0) (Q : Ones → Type 0) (w : Spot) where
    rows_named : (at n : ℕ) (rs : List Row) → AvoidsRows t rs → AvoidsRows u rs → RowAt P Q w t at n rs ≡ RowAt P Q w u at n rs
    rows_named at n [] p q = λ i S. ⊥
    rows_named at n (r ∷ rs) p q =
        let e = same_test r p.0 q.0 in let rest = rows_named at (n + 1) rs p.1 q.1 in
        λ i S. ((w ≡ row_spot at n) × If (e i) (P r S)) ⊎ rest i (λ x. image_if (e i) r S x)

    mutual
      spot_named : (s : Flow) (at n : ℕ) → Avoids t s → Avoids u s → SpotAt P Q w t at n s ≡ SpotAt P Q w u at n s
      spot_named (step rs) at n p q = let f = rows_named at n rs p q in λ i S. f i S
      spot_named (choose rs a b) at n p q =
          let m = images_named rs p.0 q.0 in let r = rows_named at n rs p.0 q.0 in let f = spot_block_named a (n + length rs) p.1.0 q.1.0 in let g = spot_block_named b (n + length rs + spots_block a) p.1.1 q.1.1 in let x = out_named (choose rs a b) to_next p q in
          λ i S. r i S ⊎ (f i (λ y. m i S y) ⊎ (g i (λ y. m i S y) ⊎ ((w ≡ join_spot (end_of b) (n + length rs + spots_block a + spots_block b)) × Q (x i S))))
      spot_named (loop rs s) at n p q =
          let m = images_named rs p.0 q.0 in let h = head_named rs s p q in let r = rows_named at (n + 1) rs p.0 q.0 in let f = spot_block_named s (n + 1 + length rs) p.1 q.1 in let x = out_named (loop rs s) to_next p q in
          λ i S. ((w ≡ head_spot at n) × Q (h i S)) ⊎ (r i (λ z. h i S z) ⊎ (f i (λ y. m i (λ z. h i S z) y) ⊎ ((w ≡ join_spot (end_of s) (n + 1 + length rs + spots_block s)) × Q (x i S))))
      spot_named (switch rs arms end) at n p q =
          let m = images_named rs p.0 q.0 in let r = rows_named at n rs p.0 q.0 in let f = spot_arms_named arms at (n + length rs) p.1 q.1 in let x = out_named (switch rs arms end) to_next p q in
          λ i S. r i S ⊎ (f i (λ y. m i S y) ⊎ ((w ≡ join_spot end (n + length rs + spots_arms arms)) × Q (x i S)))
      spot_named (scope s) at n p q = let f = spot_block_named s n p q in λ i S. f i S
      spot_named (focus rs s es) at n p q =
          let m = images_named rs p.0 q.0 in let r = rows_named at n rs p.0 q.0 in let f = spot_block_named s (n + length rs) p.1.0 q.1.0 in let x = out_block_named s to_next p.1.0 q.1.0 in let e = rows_named (end_of s) (n + length rs + spots_block s) es p.1.1 q.1.1 in
          λ i S. r i S ⊎ (f i (λ y. m i S y) ⊎ e i (λ z. x i (λ y. m i S y) z))
      spot_named (return rs) at n p q = let f = rows_named at n rs p q in λ i S. f i S
      spot_named (jump c left) at n p q = let f = rows_named at n (map away_row left) p q in λ i S. f i S

      pub spot_block_named : (s : Block) (n : ℕ) → AvoidsBlock t s → AvoidsBlock u s → SpotAtBlock P Q w t n s ≡ SpotAtBlock P Q w u n s
      spot_block_named (block ss bound end) n p q =
          let f = spot_stmts_named ss n p.0 q.0 in let x = out_stmts_named ss to_next p.0 q.0 in let r = rows_named end (n + spots_stmts ss) (map away_row bound) p.1 q.1 in
          λ i S. f i S ⊎ r i (λ y. x i S y)

      spot_stmts_named : (ss : Stmts) (n : ℕ) → AvoidsStmts t ss → AvoidsStmts u ss → SpotAtStmts P Q w t n ss ≡ SpotAtStmts P Q w u n ss
      spot_stmts_named done n p q = λ i S. ⊥
      spot_stmts_named (next at s rest) n p q =
          let f = spot_named s at n p.0 q.0 in let x = out_named s to_next p.0 q.0 in let g = spot_stmts_named rest (n + spots s) p.1 q.1 in
          λ i S. f i S ⊎ g i (λ y. x i S y)

      spot_arms_named : (arms : Arms) (at n : ℕ) → AvoidsArms t arms → AvoidsArms u arms → SpotAtArms P Q w t at n arms ≡ SpotAtArms P Q w u at n arms
      spot_arms_named no_arms at n p q = λ i S. ⊥
      spot_arms_named (arm rs s rest) at n p q =
          let m = images_named rs p.0.0 q.0.0 in let r = rows_named at n rs p.0.0 q.0.0 in let f = spot_block_named s (n + length rs) p.0.1 q.0.1 in let g = spot_arms_named rest at (n + length rs + spots_block s) p.1 q.1 in
          λ i S. r i S ⊎ (f i (λ y. m i S y) ⊎ g i S)
