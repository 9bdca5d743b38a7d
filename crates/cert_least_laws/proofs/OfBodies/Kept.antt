-- What each row keeps is so of all that is found.
use Rattle.std.proofs.Common.{◌≡◌, ◌+◌, ℕ, zero, suc, Bool, true, false, List, [], ◌∷◌, map, refl, sym, subst, ⊎_elim}
use Rattle.vlt_core.specs.Core.{Tok}
use Rattle.vlt_core.specs.Maps.{Row, is_tok, away_row}
use Rattle.vlt_core.specs.Flow.{Flow, step, choose, loop, switch, scope, focus, return, jump, Block, block, Stmts, done, next, Arms, no_arms, arm, size, size_block}
use Rattle.vlt_core.specs.Found.{One, one_absent, Ones, WantsOne, LeftBy, image_if, image, images, turns, Exit, to_next, to_break, to_continue, jumps, out, out_block, out_stmts, out_arms, head_of}
use Rattle.vlt_core_laws.specs.Sweep.{found_head, found_head_block, found_head_stmts, found_head_arms, found_exit, found_exit_block, found_exit_stmts, found_exit_arms}
use Rattle.vlt_core_laws.proofs.Good.{AllRows}

-- ---- what is so of each row, those of returns and those that want tokens away aside

module _ (Q : Row → Type 0) where
  abbrev mutual
    pub EachRow : Flow → Type 0
    EachRow (step rs) = AllRows Q rs
    EachRow (choose rs a b) = AllRows Q rs × EachRowBlock a × EachRowBlock b
    EachRow (loop rs s) = AllRows Q rs × EachRowBlock s
    EachRow (switch rs arms end) = AllRows Q rs × EachRowArms arms
    EachRow (scope s) = EachRowBlock s
    EachRow (focus rs s es) = AllRows Q rs × EachRowBlock s × AllRows Q es
    EachRow (return rs) = Unit {0}
    EachRow (jump continues left) = Unit {0}

    pub EachRowBlock : Block → Type 0
    EachRowBlock (block ss bound end) = EachRowStmts ss

    pub EachRowStmts : Stmts → Type 0
    EachRowStmts done = Unit {0}
    EachRowStmts (next at s rest) = EachRow s × EachRowStmts rest

    pub EachRowArms : Arms → Type 0
    EachRowArms no_arms = Unit {0}
    EachRowArms (arm rs s rest) = AllRows Q rs × EachRowBlock s × EachRowArms rest

-- ---- what is kept

jumps_keep : (c : Bool) (x : Exit) (S : Ones) (P : One → Type 0) → ((o : One) → S o → P o) → (o : One) → jumps c x S o → P o
jumps_keep true to_continue S P f o y = f o y
jumps_keep true to_next S P f o y = absurd y
jumps_keep true to_break S P f o y = absurd y
jumps_keep false to_break S P f o y = f o y
jumps_keep false to_next S P f o y = absurd y
jumps_keep false to_continue S P f o y = absurd y

turns_keep : (F : Ones → Ones) (S : Ones) (P : One → Type 0) → ((o : One) → S o → P o) → ((T : Ones) → ((o : One) → T o → P o) → (o : One) → F T o → P o) → (n : ℕ) (o : One) → turns F n S o → P o
turns_keep F S P p f zero o y = p o y
turns_keep F S P p f (suc n) o y = f (turns F n S) (turns_keep F S P p f n) o y

module _ (t : Tok) (P : One → Type 0) (gone : P one_absent) (Q : Row → Type 0) (keep : (r : Row) → Q r → is_tok t r.tok ≡ true → (o q : One) → P o → WantsOne r.wanted o → LeftBy r.after o q → P q) where
  abbrev AreKept : Ones → Type 0
  AreKept S = (o : One) → S o → P o

  rows_keep : (rs : List Row) (S : Ones) → AllRows Q rs → AreKept S → AreKept (images t rs S)
  rows_keep [] S k f o y = f o y
  rows_keep (r ∷ rs) S k f o y = rows_keep rs (image t r S) k.1 (at (is_tok t r.tok) refl) o y
    where
      at : (b : Bool) → is_tok t r.tok ≡ b → (o : One) → image_if b r S o → P o
      at true e o z = keep r k.0 e z.0 o (f z.0 z.1) z.2 z.3
      at false e o z = f o z

  away_keep : (ts : List Tok) (S : Ones) → AreKept S → AreKept (images t (map away_row ts) S)
  away_keep [] S f o y = f o y
  away_keep (u ∷ us) S f o y = away_keep us (image t (away_row u) S) (at (is_tok t u)) o y
    where
      at : (b : Bool) → (o : One) → image_if b (away_row u) S o → P o
      at true o z = subst P (sym z.3) gone
      at false o z = f o z

  -- at the head of a loop
  head_keep : (rs : List Row) (s : Block) (S : Ones) → AllRows Q rs → ((T : Ones) → AreKept T → (x : Exit) → AreKept (out_block t s T x)) → AreKept S → AreKept (head_of t rs s S)
  head_keep rs s S k inner f o y = turns_keep _ S P f (λ T e o z. let q = rows_keep rs T k e in ⊎_elim (inner (images t rs T) q to_next o) (inner (images t rs T) q to_continue o) z) y.0 o y.1

  mutual
    out_keep : (s : Flow) (S : Ones) → EachRow Q s → AreKept S → (x : Exit) → AreKept (out t s S x)
    out_keep (step rs) S k f to_next o y = rows_keep rs S k f o y
    out_keep (step rs) S k f to_break o y = absurd y
    out_keep (step rs) S k f to_continue o y = absurd y
    out_keep (choose rs u v) S k f x o y =
        let q = rows_keep rs S k.0 f in ⊎_elim (out_keep_block u (images t rs S) k.1 q x o) (out_keep_block v (images t rs S) k.2 q x o) y
    out_keep (loop rs s) S k f to_next o y =
        let top = head_keep rs s S k.0 (λ T e x. out_keep_block s T k.1 e x) f in
        ⊎_elim (rows_keep rs (head_of t rs s S) k.0 top o) (out_keep_block s (images t rs (head_of t rs s S)) k.1 (rows_keep rs (head_of t rs s S) k.0 top) to_break o) y
    out_keep (loop rs s) S k f to_break o y = absurd y
    out_keep (loop rs s) S k f to_continue o y = absurd y
    out_keep (switch rs arms end) S k f x o y = out_keep_arms arms (images t rs S) k.1 (rows_keep rs S k.0 f) x o y
    out_keep (scope s) S k f x o y = out_keep_block s S k f x o y
    out_keep (focus rs s es) S k f to_next o y = rows_keep es (out_block t s (images t rs S) to_next) k.2 (out_keep_block s (images t rs S) k.1 (rows_keep rs S k.0 f) to_next) o y
    out_keep (focus rs s es) S k f to_break o y = out_keep_block s (images t rs S) k.1 (rows_keep rs S k.0 f) to_break o y
    out_keep (focus rs s es) S k f to_continue o y = out_keep_block s (images t rs S) k.1 (rows_keep rs S k.0 f) to_continue o y
    out_keep (return rs) S k f x o y = absurd y
    out_keep (jump c left) S k f x o y = jumps_keep c x (images t (map away_row left) S) P (away_keep left S f) o y

    out_keep_block : (s : Block) (S : Ones) → EachRowBlock Q s → AreKept S → (x : Exit) → AreKept (out_block t s S x)
    out_keep_block (block ss bound end) S k f to_next o y = away_keep bound (out_stmts t ss S to_next) (out_keep_stmts ss S k f to_next) o y
    out_keep_block (block ss bound end) S k f to_break o y = out_keep_stmts ss S k f to_break o y
    out_keep_block (block ss bound end) S k f to_continue o y = out_keep_stmts ss S k f to_continue o y

    out_keep_stmts : (ss : Stmts) (S : Ones) → EachRowStmts Q ss → AreKept S → (x : Exit) → AreKept (out_stmts t ss S x)
    out_keep_stmts done S k f to_next o y = f o y
    out_keep_stmts done S k f to_break o y = absurd y
    out_keep_stmts done S k f to_continue o y = absurd y
    out_keep_stmts (next at s rest) S k f to_next o y = out_keep_stmts rest (out t s S to_next) k.1 (out_keep s S k.0 f to_next) to_next o y
    out_keep_stmts (next at s rest) S k f to_break o y = ⊎_elim (out_keep s S k.0 f to_break o) (out_keep_stmts rest (out t s S to_next) k.1 (out_keep s S k.0 f to_next) to_break o) y
    out_keep_stmts (next at s rest) S k f to_continue o y = ⊎_elim (out_keep s S k.0 f to_continue o) (out_keep_stmts rest (out t s S to_next) k.1 (out_keep s S k.0 f to_next) to_continue o) y

    out_keep_arms : (arms : Arms) (S : Ones) → EachRowArms Q arms → AreKept S → (x : Exit) → AreKept (out_arms t arms S x)
    out_keep_arms no_arms S k f x o y = absurd y
    out_keep_arms (arm rs s rest) S k f x o y = ⊎_elim (out_keep_block s (images t rs S) k.1 (rows_keep rs S k.0 f) x o) (out_keep_arms rest S k.2 f x o) y

  loop_keep : (rs : List Row) (s : Block) (S : Ones) → AllRows Q rs → EachRowBlock Q s → AreKept S → AreKept (head_of t rs s S)
  loop_keep rs s S k inner f = head_keep rs s S k (λ T e x. out_keep_block s T inner e x) f

  mutual
    heads_keep : (s : Flow) (n : ℕ) (S : Ones) → EachRow Q s → AreKept S → (i : ℕ) → AreKept (found_head t s n S i)
    heads_keep (step rs) n S k f i o y = absurd y
    heads_keep (choose rs u v) n S k f i o y =
        let q = rows_keep rs S k.0 f in ⊎_elim (heads_keep_block u (n + 1) (images t rs S) k.1 q i o) (heads_keep_block v (n + 1 + size_block u) (images t rs S) k.2 q i o) y
    heads_keep (loop rs s) n S k f i o y =
        let top = loop_keep rs s S k.0 k.1 f in ⊎_elim (λ z. top o z.1) (heads_keep_block s (n + 1) (images t rs (head_of t rs s S)) k.1 (rows_keep rs (head_of t rs s S) k.0 top) i o) y
    heads_keep (switch rs arms end) n S k f i o y = heads_keep_arms arms (n + 1) (images t rs S) k.1 (rows_keep rs S k.0 f) i o y
    heads_keep (scope s) n S k f i o y = heads_keep_block s (n + 1) S k f i o y
    heads_keep (focus rs s es) n S k f i o y = heads_keep_block s (n + 1) (images t rs S) k.1 (rows_keep rs S k.0 f) i o y
    heads_keep (return rs) n S k f i o y = absurd y
    heads_keep (jump c left) n S k f i o y = absurd y

    pub heads_keep_block : (s : Block) (n : ℕ) (S : Ones) → EachRowBlock Q s → AreKept S → (i : ℕ) → AreKept (found_head_block t s n S i)
    heads_keep_block (block ss bound end) n S k f i o y = heads_keep_stmts ss n S k f i o y

    heads_keep_stmts : (ss : Stmts) (n : ℕ) (S : Ones) → EachRowStmts Q ss → AreKept S → (i : ℕ) → AreKept (found_head_stmts t ss n S i)
    heads_keep_stmts done n S k f i o y = absurd y
    heads_keep_stmts (next at s rest) n S k f i o y = ⊎_elim (heads_keep s n S k.0 f i o) (heads_keep_stmts rest (n + size s) (out t s S to_next) k.1 (out_keep s S k.0 f to_next) i o) y

    heads_keep_arms : (arms : Arms) (n : ℕ) (S : Ones) → EachRowArms Q arms → AreKept S → (i : ℕ) → AreKept (found_head_arms t arms n S i)
    heads_keep_arms no_arms n S k f i o y = absurd y
    heads_keep_arms (arm rs s rest) n S k f i o y = ⊎_elim (heads_keep_block s n (images t rs S) k.1 (rows_keep rs S k.0 f) i o) (heads_keep_arms rest (n + size_block s) S k.2 f i o) y

  mutual
    exits_keep : (s : Flow) (n : ℕ) (S : Ones) → EachRow Q s → AreKept S → (i : ℕ) → AreKept (found_exit t s n S i)
    exits_keep (step rs) n S k f i o y = absurd y
    exits_keep (choose rs u v) n S k f i o y =
        let q = rows_keep rs S k.0 f in
        ⊎_elim (λ z. out_keep (choose rs u v) S k f to_next o z.1) (⊎_elim (exits_keep_block u (n + 1) (images t rs S) k.1 q i o) (exits_keep_block v (n + 1 + size_block u) (images t rs S) k.2 q i o)) y
    exits_keep (loop rs s) n S k f i o y =
        let top = loop_keep rs s S k.0 k.1 f in
        ⊎_elim (λ z. out_keep (loop rs s) S k f to_next o z.1) (exits_keep_block s (n + 1) (images t rs (head_of t rs s S)) k.1 (rows_keep rs (head_of t rs s S) k.0 top) i o) y
    exits_keep (switch rs arms end) n S k f i o y =
        ⊎_elim (λ z. out_keep (switch rs arms end) S k f to_next o z.1) (exits_keep_arms arms (n + 1) (images t rs S) k.1 (rows_keep rs S k.0 f) i o) y
    exits_keep (scope s) n S k f i o y = exits_keep_block s (n + 1) S k f i o y
    exits_keep (focus rs s es) n S k f i o y = exits_keep_block s (n + 1) (images t rs S) k.1 (rows_keep rs S k.0 f) i o y
    exits_keep (return rs) n S k f i o y = absurd y
    exits_keep (jump c left) n S k f i o y = absurd y

    pub exits_keep_block : (s : Block) (n : ℕ) (S : Ones) → EachRowBlock Q s → AreKept S → (i : ℕ) → AreKept (found_exit_block t s n S i)
    exits_keep_block (block ss bound end) n S k f i o y = exits_keep_stmts ss n S k f i o y

    exits_keep_stmts : (ss : Stmts) (n : ℕ) (S : Ones) → EachRowStmts Q ss → AreKept S → (i : ℕ) → AreKept (found_exit_stmts t ss n S i)
    exits_keep_stmts done n S k f i o y = absurd y
    exits_keep_stmts (next at s rest) n S k f i o y = ⊎_elim (exits_keep s n S k.0 f i o) (exits_keep_stmts rest (n + size s) (out t s S to_next) k.1 (out_keep s S k.0 f to_next) i o) y

    exits_keep_arms : (arms : Arms) (n : ℕ) (S : Ones) → EachRowArms Q arms → AreKept S → (i : ℕ) → AreKept (found_exit_arms t arms n S i)
    exits_keep_arms no_arms n S k f i o y = absurd y
    exits_keep_arms (arm rs s rest) n S k f i o y = ⊎_elim (exits_keep_block s n (images t rs S) k.1 (rows_keep rs S k.0 f) i o) (exits_keep_arms rest (n + size_block s) S k.2 f i o) y
