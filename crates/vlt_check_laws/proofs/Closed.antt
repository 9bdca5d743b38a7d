-- What is found in a body of tokens and states that its tests don't tell apart is the same.
use Rattle.std.proofs.Common.{◌≡◌, ℕ, zero, suc, Bool, true, false, List, [], ◌∷◌, ◌++◌, map, refl, sym, ◌∙◌, subst, inl, inr, ⊎_elim}
use Rattle.vlt_core.specs.Core.{Tok}
use Rattle.vlt_core.specs.Maps.{Wanted, wants_absent, wants_held, wants_in, wants_lent, wants_full, After, becomes_absent, becomes_held, stays, becomes_full, becomes_lent, comes_back, Row, is_tok, away_row}
use Rattle.vlt_core.specs.Flow.{Flow, step, choose, loop, switch, scope, focus, return, jump, Block, block, Stmts, done, next, Arms, no_arms, arm}
use Rattle.vlt_core.specs.Found.{One, one_absent, one_held, one_lent, one_full, Ones, WantsOne, LeftBy, image_if, image, images, both, turns, heads, Exit, to_next, to_break, to_continue, jumps, out, out_block, out_stmts, out_arms, head_of}
use Rattle.vlt_core_laws.specs.Shown.{Every}
use Rattle.vlt_check_laws.proofs.Alike.{Test, by_tok, by_state, ToksAlike, StatesAlike, same_state, Keeps, keeps_left, keeps_right}

-- ---- the tests of a body: its rows' tokens, and the sets that they want and leave

abbrev tests_wanted : Wanted → List Test
tests_wanted (wants_in X) = by_state X ∷ []
tests_wanted w = []

abbrev tests_left : After → List Test
tests_left (becomes_held X) = by_state X ∷ []
tests_left a = []

abbrev tests_row : Row → List Test
tests_row r = by_tok r.tok ∷ (tests_wanted r.wanted ++ tests_left r.after)

abbrev pub tests_rows : List Row → List Test
tests_rows [] = []
tests_rows (r ∷ rs) = tests_row r ++ tests_rows rs

abbrev mutual
  pub tests : Flow → List Test
  tests (step rs) = tests_rows rs
  tests (choose rs a b) = tests_rows rs ++ (tests_block a ++ tests_block b)
  tests (loop rs s) = tests_rows rs ++ tests_block s
  tests (switch rs arms end) = tests_rows rs ++ tests_arms arms
  tests (scope s) = tests_block s
  tests (focus rs s es) = tests_rows rs ++ (tests_block s ++ tests_rows es)
  tests (return rs) = tests_rows rs
  tests (jump c left) = tests_rows (map away_row left)

  pub tests_block : Block → List Test
  tests_block (block ss bound end) = tests_stmts ss ++ tests_rows (map away_row bound)

  pub tests_stmts : Stmts → List Test
  tests_stmts done = []
  tests_stmts (next at s rest) = tests s ++ tests_stmts rest

  pub tests_arms : Arms → List Test
  tests_arms no_arms = []
  tests_arms (arm rs s rest) = tests_rows rs ++ (tests_block s ++ tests_arms rest)

-- a turn of a loop, from its head to its head
abbrev pub round_of : Tok → List Row → Block → Ones → Ones
round_of t rs s T = both (out_block t s (images t rs T) to_next) (out_block t s (images t rs T) to_continue)

module _ (xs : List Test) where
  -- the same status, of states that are alike
  abbrev pub Related : One → One → Type 0
  Related one_absent one_absent = Unit {0}
  Related (one_held a) (one_held b) = StatesAlike xs a b
  Related (one_lent a) (one_lent b) = StatesAlike xs a b
  Related one_full one_full = Unit {0}
  Related o q = ⊥

  -- what is found of a token is found of each that is alike
  pub record IsClosed (S : Every) : Type 0 where
    pub each : (t u : Tok) (o q : One) → ToksAlike xs t u → Related o q → S t o → S u q

  -- ---- rows

  itself : (o : One) → Related o o
  itself one_absent = tt
  itself (one_held a) = same_state xs a
  itself (one_lent a) = same_state xs a
  itself one_full = tt

  held_wanted : (w : Wanted) (a b : ℕ) → Keeps xs (tests_wanted w) → StatesAlike xs a b → WantsOne w (one_held a) → WantsOne w (one_held b)
  held_wanted wants_absent a b k x h = h
  held_wanted wants_held a b k x h = h
  held_wanted (wants_in X) a b k x h = sym (k.0 a b x) ∙ h
  held_wanted wants_lent a b k x h = h
  held_wanted wants_full a b k x h = h

  lent_wanted : (w : Wanted) (a b : ℕ) → WantsOne w (one_lent a) → WantsOne w (one_lent b)
  lent_wanted wants_absent a b h = h
  lent_wanted wants_held a b h = h
  lent_wanted (wants_in X) a b h = h
  lent_wanted wants_lent a b h = h
  lent_wanted wants_full a b h = h

  wanted : (w : Wanted) (o q : One) → Keeps xs (tests_wanted w) → Related o q → WantsOne w o → WantsOne w q
  wanted w one_absent one_absent k x h = h
  wanted w (one_held a) (one_held b) k x h = held_wanted w a b k x h
  wanted w (one_lent a) (one_lent b) k x h = lent_wanted w a b h
  wanted w one_full one_full k x h = h
  wanted w o q k x h = absurd x

  from_absent : (q : One) → Related one_absent q → q ≡ one_absent
  from_absent one_absent x = refl
  from_absent q x = absurd x

  from_full : (q : One) → Related one_full q → q ≡ one_full
  from_full one_full x = refl
  from_full q x = absurd x

  from_held : (a : ℕ) (q : One) → Related (one_held a) q → (b : ℕ) × StatesAlike xs a b × (q ≡ one_held b)
  from_held a (one_held b) x = (b, x, refl)
  from_held a q x = absurd x

  from_lent : (a : ℕ) (q : One) → Related (one_lent a) q → (b : ℕ) × StatesAlike xs a b × (q ≡ one_lent b)
  from_lent a (one_lent b) x = (b, x, refl)
  from_lent a q x = absurd x

  -- the row leaves it of a status that is related
  abbrev Leaves : After → (o q : One) → Type 0
  Leaves a o q = (m : One) × Related o m × LeftBy a m q

  left_related : (a : After) (o q : One) (m : One) → Keeps xs (tests_left a) → LeftBy a o m → Related m q → Leaves a o q
  left_related becomes_absent o q m k e x = (o, itself o, from_absent q (subst (λ m. Related m q) e x))
  left_related (becomes_held X) o q m k e x =
      let y = from_held e.0 q (subst (λ m. Related m q) e.2 x) in
      (o, itself o, (y.0, sym (k.0 e.0 y.0 y.1) ∙ e.1, y.2))
  left_related stays o q m k e x = (q, subst (λ m. Related m q) e x, refl)
  left_related becomes_full o q m k e x = (o, itself o, from_full q (subst (λ m. Related m q) e x))
  left_related becomes_lent (one_held a) q m k e x = let y = from_lent a q (subst (λ m. Related m q) e x) in (one_held y.0, y.1, y.2)
  left_related becomes_lent one_absent q m k e x = (one_absent, tt, from_absent q (subst (λ m. Related m q) e x))
  left_related becomes_lent (one_lent a) q m k e x = let y = from_lent a q (subst (λ m. Related m q) e x) in (one_lent y.0, y.1, y.2)
  left_related becomes_lent one_full q m k e x = (one_full, tt, from_full q (subst (λ m. Related m q) e x))
  left_related comes_back (one_lent a) q m k e x = let y = from_held a q (subst (λ m. Related m q) e x) in (one_lent y.0, y.1, y.2)
  left_related comes_back one_absent q m k e x = (one_absent, tt, from_absent q (subst (λ m. Related m q) e x))
  left_related comes_back (one_held a) q m k e x = let y = from_held a q (subst (λ m. Related m q) e x) in (one_held y.0, y.1, y.2)
  left_related comes_back one_full q m k e x = (one_full, tt, from_full q (subst (λ m. Related m q) e x))

  image_if_related : (b : Bool) (r : Row) (S T : Ones) → Keeps xs (tests_wanted r.wanted) → Keeps xs (tests_left r.after) → ((o q : One) → Related o q → S o → T q) → (m q : One) → Related m q → image_if b r S m → image_if b r T q
  image_if_related false r S T j k c m q x y = c m q x y
  image_if_related true r S T j k c m q x y =
      let z = left_related r.after y.0 q m k y.3 x in
      (z.0, c y.0 z.0 z.1 y.1, wanted r.wanted y.0 z.0 j z.1 y.2, z.2)

  pub row_closed : (r : Row) (rs : List Row) (S : Every) → Keeps xs (tests_rows (r ∷ rs)) → IsClosed S → IsClosed (λ t. image t r (S t))
  row_closed r rs S k c =
      let l = keeps_left xs (tests_row r) (tests_rows rs) k in
      record {
        each = λ t u m q p x y.
            subst (λ b. image_if b r (S u) q) (l.0 t u p)
            (image_if_related (is_tok t r.tok) r (S t) (S u) (keeps_left xs (tests_wanted r.wanted) (tests_left r.after) l.1) (keeps_right xs (tests_wanted r.wanted) (tests_left r.after) l.1) (λ o q x y. c.each t u o q p x y) m q x y);
      }

  pub rest_kept : (r : Row) (rs : List Row) → Keeps xs (tests_rows (r ∷ rs)) → Keeps xs (tests_rows rs)
  rest_kept r rs k = keeps_right xs (tests_row r) (tests_rows rs) k

  pub rows_closed : (rs : List Row) (S : Every) → Keeps xs (tests_rows rs) → IsClosed S → IsClosed (λ t. images t rs (S t))
  rows_closed [] S k c = record { each = λ t u o q p x y. c.each t u o q p x y }
  rows_closed (r ∷ rs) S k c = rows_closed rs (λ t. image t r (S t)) (rest_kept r rs k) (row_closed r rs S k c)

  -- ---- joins and loops

  both_closed : (S T : Every) → IsClosed S → IsClosed T → IsClosed (λ t. both (S t) (T t))
  both_closed S T c d = record { each = λ t u o q p x y. ⊎_elim (λ z. inl (c.each t u o q p x z)) (λ z. inr (d.each t u o q p x z)) y }

  none_closed : IsClosed (λ t o. ⊥)
  none_closed = record { each = λ t u o q p x y. y }

  turns_closed : (F : Tok → Ones → Ones) (S : Every) → ((T : Every) → IsClosed T → IsClosed (λ t. F t (T t))) → IsClosed S → (n : ℕ) → IsClosed (λ t. turns (F t) n (S t))
  turns_closed F S f c zero = record { each = λ t u o q p x y. c.each t u o q p x y }
  turns_closed F S f c (suc n) =
      let d = f (λ t. turns (F t) n (S t)) (turns_closed F S f c n) in
      record { each = λ t u o q p x y. d.each t u o q p x y }

  heads_closed : (F : Tok → Ones → Ones) (S : Every) → ((T : Every) → IsClosed T → IsClosed (λ t. F t (T t))) → IsClosed S → IsClosed (λ t. heads (F t) (S t))
  heads_closed F S f c = record { each = λ t u o q p x y. (y.0, (turns_closed F S f c y.0).each t u o q p x y.1) }

  jumps_closed : (continues : Bool) (x : Exit) (S : Every) → IsClosed S → IsClosed (λ t. jumps continues x (S t))
  jumps_closed true to_continue S c = record { each = λ t u o q p x y. c.each t u o q p x y }
  jumps_closed true to_break S c = none_closed
  jumps_closed true to_next S c = none_closed
  jumps_closed false to_break S c = record { each = λ t u o q p x y. c.each t u o q p x y }
  jumps_closed false to_continue S c = none_closed
  jumps_closed false to_next S c = none_closed

  -- at the head of a loop whose body keeps what is closed
  head_from : (rs : List Row) (s : Block) (S : Every) → Keeps xs (tests_rows rs) → ((T : Every) (x : Exit) → IsClosed T → IsClosed (λ t. out_block t s (T t) x)) → IsClosed S → IsClosed (λ t. head_of t rs s (S t))
  head_from rs s S k f c =
      heads_closed (λ t. round_of t rs s) S (λ T d. both_closed _ _ (f (λ t. images t rs (T t)) to_next (rows_closed rs T k d)) (f (λ t. images t rs (T t)) to_continue (rows_closed rs T k d))) c

  mutual
    pub form_closed : (s : Flow) (S : Every) (x : Exit) → Keeps xs (tests s) → IsClosed S → IsClosed (λ t. out t s (S t) x)
    form_closed (step rs) S to_next k c = rows_closed rs S k c
    form_closed (step rs) S to_break k c = none_closed
    form_closed (step rs) S to_continue k c = none_closed
    form_closed (choose rs u v) S x k c =
        let m = rows_closed rs S (keeps_left xs (tests_rows rs) _ k) c in
        let l = keeps_right xs (tests_rows rs) _ k in
        both_closed _ _ (block_closed u (λ t. images t rs (S t)) x (keeps_left xs (tests_block u) (tests_block v) l) m) (block_closed v (λ t. images t rs (S t)) x (keeps_right xs (tests_block u) (tests_block v) l) m)
    form_closed (loop rs s) S to_next k c =
        let j = keeps_left xs (tests_rows rs) (tests_block s) k in let l = keeps_right xs (tests_rows rs) (tests_block s) k in
        let m = rows_closed rs (λ t. head_of t rs s (S t)) j (head_from rs s S j (λ T x d. block_closed s T x l d) c) in
        both_closed _ _ m (block_closed s (λ t. images t rs (head_of t rs s (S t))) to_break l m)
    form_closed (loop rs s) S to_break k c = none_closed
    form_closed (loop rs s) S to_continue k c = none_closed
    form_closed (switch rs arms end) S x k c = arms_closed arms (λ t. images t rs (S t)) x (keeps_right xs (tests_rows rs) (tests_arms arms) k) (rows_closed rs S (keeps_left xs (tests_rows rs) (tests_arms arms) k) c)
    form_closed (scope s) S x k c = block_closed s S x k c
    form_closed (focus rs s es) S to_next k c =
        let l = keeps_right xs (tests_rows rs) _ k in
        rows_closed es _ (keeps_right xs (tests_block s) (tests_rows es) l) (block_closed s (λ t. images t rs (S t)) to_next (keeps_left xs (tests_block s) (tests_rows es) l) (rows_closed rs S (keeps_left xs (tests_rows rs) _ k) c))
    form_closed (focus rs s es) S to_break k c =
        let l = keeps_right xs (tests_rows rs) _ k in
        block_closed s (λ t. images t rs (S t)) to_break (keeps_left xs (tests_block s) (tests_rows es) l) (rows_closed rs S (keeps_left xs (tests_rows rs) _ k) c)
    form_closed (focus rs s es) S to_continue k c =
        let l = keeps_right xs (tests_rows rs) _ k in
        block_closed s (λ t. images t rs (S t)) to_continue (keeps_left xs (tests_block s) (tests_rows es) l) (rows_closed rs S (keeps_left xs (tests_rows rs) _ k) c)
    form_closed (return rs) S x k c = none_closed
    form_closed (jump b left) S x k c = jumps_closed b x (λ t. images t (map away_row left) (S t)) (rows_closed (map away_row left) S k c)

    pub block_closed : (s : Block) (S : Every) (x : Exit) → Keeps xs (tests_block s) → IsClosed S → IsClosed (λ t. out_block t s (S t) x)
    block_closed (block ss bound end) S to_next k c = rows_closed (map away_row bound) (λ t. out_stmts t ss (S t) to_next) (keeps_right xs (tests_stmts ss) _ k) (stmts_closed ss S to_next (keeps_left xs (tests_stmts ss) _ k) c)
    block_closed (block ss bound end) S to_break k c = stmts_closed ss S to_break (keeps_left xs (tests_stmts ss) _ k) c
    block_closed (block ss bound end) S to_continue k c = stmts_closed ss S to_continue (keeps_left xs (tests_stmts ss) _ k) c

    pub stmts_closed : (ss : Stmts) (S : Every) (x : Exit) → Keeps xs (tests_stmts ss) → IsClosed S → IsClosed (λ t. out_stmts t ss (S t) x)
    stmts_closed done S to_next k c = record { each = λ t u o q p x y. c.each t u o q p x y }
    stmts_closed done S to_break k c = none_closed
    stmts_closed done S to_continue k c = none_closed
    stmts_closed (next at s rest) S to_next k c =
        stmts_closed rest (λ t. out t s (S t) to_next) to_next (keeps_right xs (tests s) (tests_stmts rest) k) (form_closed s S to_next (keeps_left xs (tests s) (tests_stmts rest) k) c)
    stmts_closed (next at s rest) S to_break k c =
        let j = keeps_left xs (tests s) (tests_stmts rest) k in let l = keeps_right xs (tests s) (tests_stmts rest) k in
        both_closed _ _ (form_closed s S to_break j c) (stmts_closed rest (λ t. out t s (S t) to_next) to_break l (form_closed s S to_next j c))
    stmts_closed (next at s rest) S to_continue k c =
        let j = keeps_left xs (tests s) (tests_stmts rest) k in let l = keeps_right xs (tests s) (tests_stmts rest) k in
        both_closed _ _ (form_closed s S to_continue j c) (stmts_closed rest (λ t. out t s (S t) to_next) to_continue l (form_closed s S to_next j c))

    arms_closed : (arms : Arms) (S : Every) (x : Exit) → Keeps xs (tests_arms arms) → IsClosed S → IsClosed (λ t. out_arms t arms (S t) x)
    arms_closed no_arms S x k c = none_closed
    arms_closed (arm rs s rest) S x k c =
        let l = keeps_right xs (tests_rows rs) _ k in
        both_closed _ _ (block_closed s (λ t. images t rs (S t)) x (keeps_left xs (tests_block s) (tests_arms rest) l) (rows_closed rs S (keeps_left xs (tests_rows rs) _ k) c)) (arms_closed rest S x (keeps_right xs (tests_block s) (tests_arms rest) l) c)

  pub head_closed : (rs : List Row) (s : Block) (S : Every) → Keeps xs (tests_rows rs ++ tests_block s) → IsClosed S → IsClosed (λ t. head_of t rs s (S t))
  head_closed rs s S k c = head_from rs s S (keeps_left xs (tests_rows rs) (tests_block s) k) (λ T x d. block_closed s T x (keeps_right xs (tests_rows rs) (tests_block s) k) d) c
