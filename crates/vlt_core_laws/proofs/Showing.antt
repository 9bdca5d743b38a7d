-- What is found of a token is of one kind where nothing is mixed, so notes can show it.
use Rattle.std.proofs.Common.{◌≡◌, ◌+◌, ◌||◌, ℕ, zero, suc, Bool, true, false, IsTrue, List, [], ◌∷◌, map, None, refl, sym, subst, inl, inr, ⊎_elim, rules}
use Rattle.vlt_core.specs.Core.{Tok, a_key, a_var}
use Rattle.vlt_core.specs.Maps.{Wanted, wants_absent, wants_held, wants_in, wants_lent, wants_full, After, becomes_absent, becomes_held, stays, becomes_full, becomes_lent, comes_back, Row, Status, is_tok, away_row, HeldMap}
use Rattle.vlt_core.specs.Flow.{Flow, step, choose, loop, switch, scope, focus, return, jump, Block, block, Stmts, done, next, Arms, no_arms, arm, size, size_block}
use Rattle.vlt_core.specs.Local.{Notes, IsLocalBlock}
use Rattle.vlt_core_laws.specs.Scoped.{IsJumping, IsJumpingBlock, IsJumpingStmts, IsJumpingArms}
use Rattle.vlt_core.specs.Found.{One, one_absent, one_held, one_lent, one_full, Ones, WantsOne, LeftBy, image_if, image, images, both, turns, Exit, to_next, to_break, to_continue, jumps, out, out_block, out_stmts, out_arms, head_of, Has}
use Rattle.vlt_core.specs.Faults.{IsMixed}
use Rattle.vlt_core_laws.specs.Faulted.{HasFault, HasFaultBlock, HasFaultStmts, HasFaultArms}
use Rattle.vlt_core_laws.specs.Tame.{IsPlainWanted, IsPlainAfter, ArePlain, lend, unlend, IsFocus, IsTame, IsTameBlock, IsTameStmts, IsTameArms, IsLentOne}
use Rattle.vlt_core_laws.specs.Shown.{one_kind, IsJust, Every, Shows, ShowsBlock, ShowsStmts, ShowsArms, IsOwnKind, IsOwn, IsInFocus, IsGood, IsOneKind, AreFilled, HasFilled, HasFilledBlock, HasFilledStmts, HasFilledArms, IsFit, IsStart, IsReadOf}
use Rattle.vlt_core_laws.specs.Sweep.{In, Stock, IsFoundIn, Fits, FitsBlock, FitsStmts, FitsArms, IsSameOnes}
use Rattle.vlt_core_laws.proofs.Founds.{images_empty, empty_block, same_is}
use Rattle.vlt_core_laws.proofs.Faultless.{gone_filled, faultless_block}
use Rattle.vlt_core_laws.proofs.Sweeping.{fits_block}

-- ---- rows

not_left : (a : After) (o o' : One) → IsPlainAfter a → (IsLentOne o → ⊥) → LeftBy a o o' → IsLentOne o' → ⊥
not_left becomes_absent o o' p n e l = subst IsLentOne e l
not_left (becomes_held s) o o' p n e l = subst IsLentOne e.2 l
not_left stays o o' p n e l = n (subst IsLentOne e l)
not_left becomes_full o o' p n e l = subst IsLentOne e l
not_left becomes_lent o o' p n e l = p
not_left comes_back o o' p n e l = p

not_wanted : (w : Wanted) (o : One) → IsPlainWanted w → IsLentOne o → WantsOne w o → ⊥
not_wanted wants_absent (one_lent i) p l h = h
not_wanted wants_held (one_lent i) p l h = h
not_wanted (wants_in w) (one_lent i) p l h = h
not_wanted wants_lent (one_lent i) p l h = p
not_wanted wants_full (one_lent i) p l h = h
not_wanted w one_absent p l h = l
not_wanted w (one_held i) p l h = l
not_wanted w one_full p l h = l

own_absent : (t : Tok) → IsOwn t one_absent
own_absent (a_key i) = tt
own_absent (a_var i) = tt

own_held : (t : Tok) (s : ℕ → Bool) (i : ℕ) → IsOwnKind (becomes_held s) t → IsOwn t (one_held i)
own_held (a_key k) s i p = tt
own_held (a_var k) s i p = p

own_full : (t : Tok) → IsOwnKind becomes_full t → IsOwn t one_full
own_full (a_key k) p = p
own_full (a_var k) p = tt

own_left : (a : After) (t : Tok) (o o' : One) → IsOwnKind a t → IsPlainAfter a → IsOwn t o → LeftBy a o o' → IsOwn t o'
own_left becomes_absent t o o' k p w e = subst (IsOwn t) (sym e) (own_absent t)
own_left (becomes_held s) t o o' k p w e = subst (IsOwn t) (sym e.2) (own_held t s e.0 k)
own_left stays t o o' k p w e = subst (IsOwn t) (sym e) w
own_left becomes_full t o o' k p w e = subst (IsOwn t) (sym e) (own_full t k)
own_left becomes_lent t o o' k p w e = absurd p
own_left comes_back t o o' k p w e = absurd p

good_left : (b : Bool) (t : Tok) (r : Row) (o o' : One) → IsPlainWanted r.wanted → IsPlainAfter r.after → IsOwnKind r.after t → IsGood b t o → WantsOne r.wanted o → LeftBy r.after o o' → IsGood b t o'
good_left true t r o o' p q k g w e = absurd (not_wanted r.wanted o p g.0 w)
good_left false t r o o' p q k g w e = (not_left r.after o o' q g.0 e, own_left r.after t o o' k q g.1 e)

rows_good : (t : Tok) (rs : List Row) (b : Bool) (S : Ones) → ArePlain rs → AreFilled rs → ((o : One) → S o → IsGood b t o) → (o : One) → images t rs S o → IsGood b t o
rows_good t [] b S p f g o x = g o x
rows_good t (r ∷ rs) b S p f g o x = rows_good t rs b (image t r S) p.2 f.2 (at (is_tok t r.tok) refl) o x
  where
    at : (c : Bool) → is_tok t r.tok ≡ c → (o : One) → image_if c r S o → IsGood b t o
    at true e o x = good_left b t r x.0 o p.0 p.1 (subst (IsOwnKind r.after) (sym (same_is t r.tok e)) f.1) (g x.0 x.1) x.2 x.3
    at false e o x = g o x

gone_plain : (bound : List Tok) → ArePlain (map away_row bound)
gone_plain [] = tt
gone_plain (u ∷ us) = (tt, tt, gone_plain us)

-- ---- one kind

lent_held : (b : Bool) (i j : ℕ) → IsInFocus b (one_lent i) → IsInFocus b (one_held j) → ⊥
lent_held true i j p q = q
lent_held false i j p q = p tt

full_held : (t : Tok) (j : ℕ) → IsOwn t one_full → IsOwn t (one_held j) → ⊥
full_held (a_key k) j p q = p
full_held (a_var k) j p q = q

full_lent : (t : Tok) (j : ℕ) → IsOwn t one_full → IsOwn t (one_lent j) → ⊥
full_lent (a_key k) j p q = p
full_lent (a_var k) j p q = q

pub one_kind_of : (b : Bool) (t : Tok) (S : Ones) → ((o : One) → S o → IsGood b t o) → (IsMixed S → ⊥) → IsOneKind S
one_kind_of b t S g never o o' x y = at o o' x y (g o x) (g o' y)
  where
    at : (o o' : One) → S o → S o' → IsGood b t o → IsGood b t o' → one_kind o ≡ one_kind o'
    at one_absent one_absent x y p q = refl
    at one_absent (one_held i) x y p q = absurd (never (x, (one_held i, tt, y)))
    at one_absent (one_lent i) x y p q = absurd (never (x, (one_lent i, tt, y)))
    at one_absent one_full x y p q = absurd (never (x, (one_full, tt, y)))
    at (one_held i) one_absent x y p q = absurd (never (y, (one_held i, tt, x)))
    at (one_lent i) one_absent x y p q = absurd (never (y, (one_lent i, tt, x)))
    at one_full one_absent x y p q = absurd (never (y, (one_full, tt, x)))
    at (one_held i) (one_held j) x y p q = refl
    at (one_held i) (one_lent j) x y p q = absurd (lent_held b j i q.0 p.0)
    at (one_held i) one_full x y p q = absurd (full_held t i q.1 p.1)
    at (one_lent i) (one_held j) x y p q = absurd (lent_held b i j p.0 q.0)
    at (one_lent i) (one_lent j) x y p q = refl
    at (one_lent i) one_full x y p q = absurd (full_lent t i q.1 p.1)
    at one_full (one_held j) x y p q = absurd (full_held t j p.1 q.1)
    at one_full (one_lent j) x y p q = absurd (full_lent t j p.1 q.1)
    at one_full one_full x y p q = refl

-- ---- no jump leaves a focus

mutual
  jump_none : (s : Flow) (t : Tok) (S : Ones) (o : One) → IsJumping false s → (out t s S to_break o → ⊥) × (out t s S to_continue o → ⊥)
  jump_none (step rs) t S o j = (λ x. x, λ x. x)
  jump_none (choose rs u v) t S o j =
      let f = jump_none_block u t (images t rs S) o j.0 in
      let e = jump_none_block v t (images t rs S) o j.1 in
      (⊎_elim f.0 e.0, ⊎_elim f.1 e.1)
  jump_none (loop rs s) t S o j = (λ x. x, λ x. x)
  jump_none (switch rs arms end) t S o j = jump_none_arms arms t (images t rs S) o j
  jump_none (scope s) t S o j = jump_none_block s t S o j
  jump_none (focus rs s es) t S o j = jump_none_block s t (images t rs S) o j
  jump_none (return rs) t S o j = (λ x. x, λ x. x)
  jump_none (jump c left) t S o j = (λ x. never j, λ x. never j)
    where
      never : IsTrue false → ⊥
      never x = search rules

  jump_none_block : (s : Block) (t : Tok) (S : Ones) (o : One) → IsJumpingBlock false s → (out_block t s S to_break o → ⊥) × (out_block t s S to_continue o → ⊥)
  jump_none_block (block ss bound end) t S o j = jump_none_stmts ss t S o j

  jump_none_stmts : (ss : Stmts) (t : Tok) (S : Ones) (o : One) → IsJumpingStmts false ss → (out_stmts t ss S to_break o → ⊥) × (out_stmts t ss S to_continue o → ⊥)
  jump_none_stmts done t S o j = (λ x. x, λ x. x)
  jump_none_stmts (next at s rest) t S o j =
      let f = jump_none s t S o j.0 in
      let e = jump_none_stmts rest t (out t s S to_next) o j.1 in
      (⊎_elim f.0 e.0, ⊎_elim f.1 e.1)

  jump_none_arms : (arms : Arms) (t : Tok) (S : Ones) (o : One) → IsJumpingArms false arms → (out_arms t arms S to_break o → ⊥) × (out_arms t arms S to_continue o → ⊥)
  jump_none_arms no_arms t S o j = (λ x. x, λ x. x)
  jump_none_arms (arm rs s rest) t S o j =
      let f = jump_none_block s t (images t rs S) o j.0 in
      let e = jump_none_arms rest t S o j.1 in
      (⊎_elim f.0 e.0, ⊎_elim f.1 e.1)

jumps_keep : (c : Bool) (x : Exit) (S : Ones) (P : One → Type 0) → ((o : One) → S o → P o) → (o : One) → jumps c x S o → P o
jumps_keep true to_continue S P f o y = f o y
jumps_keep true to_next S P f o y = absurd y
jumps_keep true to_break S P f o y = absurd y
jumps_keep false to_break S P f o y = f o y
jumps_keep false to_next S P f o y = absurd y
jumps_keep false to_continue S P f o y = absurd y

turns_keep : (F : Ones → Ones) (S : Ones) (P : One → Type 0) → ((o : One) → S o → P o) → ((T : Ones) → ((o : One) → T o → P o) → (o : One) → F T o → P o) → (n : ℕ) (o : One) → turns F n S o → P o
turns_keep F S P p f zero o y = p o y
turns_keep F S P p f (suc n) o y = f (turns F n S) (turns_keep F S P p f n) o y

-- ---- a focus becomes_lent its token, and gives it back

enter : (t g : Tok) (b c : Bool) → is_tok t g ≡ c → (S : Ones) → ((o : One) → S o → IsGood b t o) → (o : One) → image_if c (lend g) S o → IsGood (c || b) t o
enter t g b false e S f o x = f o x
enter t g b true e S f o x = held_lent t x.0 o x.2 x.3 (f x.0 x.1).1
  where
    own : (t : Tok) (i : ℕ) → IsOwn t (one_held i) → IsOwn t (one_lent i)
    own (a_key k) i p = tt
    own (a_var k) i p = p

    held_lent : (t : Tok) (y o : One) → WantsOne wants_held y → LeftBy becomes_lent y o → IsOwn t y → IsGood true t o
    held_lent t (one_held i) o w q p = subst (IsGood true t) (sym q) (tt, own t i p)
    held_lent t one_absent o w q p = absurd w
    held_lent t (one_lent i) o w q p = absurd w
    held_lent t one_full o w q p = absurd w

leave : (t g : Tok) (b c : Bool) (S : Ones) → ((o : One) → S o → IsGood (c || b) t o) → (c ≡ true → b ≡ true → (o : One) → S o → ⊥) → (o : One) → image_if c (unlend g) S o → IsGood b t o
leave t g b false S f never o x = f o x
leave t g true true S f never o x = absurd (never refl refl x.0 x.1)
leave t g false true S f never o x = lent_back t x.0 o x.2 x.3 (f x.0 x.1).1
  where
    own : (t : Tok) (i : ℕ) → IsOwn t (one_lent i) → IsOwn t (one_held i)
    own (a_key k) i p = tt
    own (a_var k) i p = p

    lent_back : (t : Tok) (y o : One) → WantsOne wants_lent y → LeftBy comes_back y o → IsOwn t y → IsGood false t o
    lent_back t (one_lent i) o w q p = subst (IsGood false t) (sym q) (λ l. l, own t i p)
    lent_back t one_absent o w q p = absurd w
    lent_back t (one_held i) o w q p = absurd w
    lent_back t one_full o w q p = absurd w

lend_never : (t g : Tok) (b c : Bool) → c ≡ true → b ≡ true → (S : Ones) → ((o : One) → S o → IsGood b t o) → (o : One) → image_if c (lend g) S o → ⊥
lend_never t g true true p q S f o x = lent_any x.0 x.2 (f x.0 x.1).0
  where
    lent_any : (y : One) → WantsOne wants_held y → IsLentOne y → ⊥
    lent_any (one_held i) w l = l
    lent_any one_absent w l = w
    lent_any (one_lent i) w l = w
    lent_any one_full w l = w
lend_never t g false c p q S f o x = absurd (never q)
  where
    never : false ≡ true → ⊥
    never e = cc
lend_never t g true false p q S f o x = absurd (never p)
  where
    never : false ≡ true → ⊥
    never e = cc

pub focus_enter : (t g : Tok) (rs es : List Row) (b : Bool) (S : Ones) → IsFocus rs es g → AreFilled rs → ((o : One) → S o → IsGood b t o) → (o : One) → images t rs S o → IsGood (is_tok t g || b) t o
focus_enter t g (r ∷ rs) (e ∷ u ∷ []) b S w fill f o x =
    rows_good t rs (is_tok t g || b) (image t r S) w.1 fill.2 (λ o y. enter t g b (is_tok t g) refl S f o (subst (λ r. image t r S o) w.0 y)) o x
focus_enter t g [] es b S w fill f o x = absurd w
focus_enter t g (r ∷ rs) [] b S w fill f o x = absurd w
focus_enter t g (r ∷ rs) (e ∷ []) b S w fill f o x = absurd w
focus_enter t g (r ∷ rs) (e ∷ u ∷ v ∷ vs) b S w fill f o x = absurd w

focus_never : (t g : Tok) (rs es : List Row) (b : Bool) (S : Ones) → IsFocus rs es g → ((o : One) → S o → IsGood b t o) → is_tok t g ≡ true → b ≡ true → (o : One) → images t rs S o → ⊥
focus_never t g (r ∷ rs) (e ∷ u ∷ []) b S w f p q o x =
    images_empty t rs (image t r S) (λ o y. lend_never t g b (is_tok t g) p q S f o (subst (λ r. image t r S o) w.0 y)) o x
focus_never t g [] es b S w f p q o x = absurd w
focus_never t g (r ∷ rs) [] b S w f p q o x = absurd w
focus_never t g (r ∷ rs) (e ∷ []) b S w f p q o x = absurd w
focus_never t g (r ∷ rs) (e ∷ u ∷ v ∷ vs) b S w f p q o x = absurd w

focus_leave : (t g : Tok) (rs es : List Row) (b : Bool) (X : Ones) → IsFocus rs es g → AreFilled es → ((o : One) → X o → IsGood (is_tok t g || b) t o) → (is_tok t g ≡ true → b ≡ true → (o : One) → X o → ⊥) → (o : One) → images t es X o → IsGood b t o
focus_leave t g (r ∷ rs) (e ∷ u ∷ []) b X w fill f never o x =
    leave t g b (is_tok t g) (image t e X)
    (λ o y. rows_good t (e ∷ []) (is_tok t g || b) X w.2 (fill.0, fill.1, tt) f o y)
    (λ p q o y. images_empty t (e ∷ []) X (never p q) o y) o (subst (λ u. image t u (image t e X) o) w.3 x)
focus_leave t g [] es b X w fill f never o x = absurd w
focus_leave t g (r ∷ rs) [] b X w fill f never o x = absurd w
focus_leave t g (r ∷ rs) (e ∷ []) b X w fill f never o x = absurd w
focus_leave t g (r ∷ rs) (e ∷ u ∷ v ∷ vs) b X w fill f never o x = absurd w

-- ---- what comes out is as good as what comes in

mutual
  pub good_form : (s : Flow) (t : Tok) (b : Bool) (S : Ones) → IsTame s → HasFilled s → ((o : One) → S o → IsGood b t o) → (x : Exit) (o : One) → out t s S x o → IsGood b t o
  good_form (step rs) t b S w f p to_next o y = rows_good t rs b S w f p o y
  good_form (step rs) t b S w f p to_break o y = absurd y
  good_form (step rs) t b S w f p to_continue o y = absurd y
  good_form (choose rs u v) t b S w f p x o y =
      let q = rows_good t rs b S w.0 f.0 p in ⊎_elim (good_block u t b (images t rs S) w.1 f.1 q x o) (good_block v t b (images t rs S) w.2 f.2 q x o) y
  good_form (loop rs s) t b S w f p to_next o y =
      let step = λ (T : Ones) (q : (o : One) → T o → IsGood b t o) (x : Exit) (o : One) (z : out_block t s (images t rs T) x o). good_block s t b (images t rs T) w.1 f.1 (rows_good t rs b T w.0 f.0 q) x o z in
      let round = λ (T : Ones) (q : (o : One) → T o → IsGood b t o) (o : One) (z : both (out_block t s (images t rs T) to_next) (out_block t s (images t rs T) to_continue) o). ⊎_elim (step T q to_next o) (step T q to_continue o) z in
      let top = λ (o : One) (z : head_of t rs s S o). turns_keep _ S (IsGood b t) p round z.0 o z.1 in
      ⊎_elim (rows_good t rs b (head_of t rs s S) w.0 f.0 top o) (step (head_of t rs s S) top to_break o) y
  good_form (loop rs s) t b S w f p to_break o y = absurd y
  good_form (loop rs s) t b S w f p to_continue o y = absurd y
  good_form (switch rs arms end) t b S w f p x o y = good_arms arms t b (images t rs S) w.1 f.1 (rows_good t rs b S w.0 f.0 p) x o y
  good_form (scope s) t b S w f p x o y = good_block s t b S w f p x o y
  good_form (focus rs s es) t b S w f p to_next o y =
      let g = w.0.0 in
      focus_leave t g rs es b (out_block t s (images t rs S) to_next) w.0.1 f.2
      (good_block s t (is_tok t g || b) (images t rs S) w.1 f.1 (focus_enter t g rs es b S w.0.1 f.0 p) to_next)
      (λ c e o z. (empty_block s t (images t rs S) (focus_never t g rs es b S w.0.1 p c e)).0 to_next o z) o y
  good_form (focus rs s es) t b S w f p to_break o y = absurd ((jump_none_block s t (images t rs S) o w.2).0 y)
  good_form (focus rs s es) t b S w f p to_continue o y = absurd ((jump_none_block s t (images t rs S) o w.2).1 y)
  good_form (return rs) t b S w f p x o y = absurd y
  good_form (jump c left) t b S w f p x o y = jumps_keep c x (images t (map away_row left) S) (IsGood b t) (rows_good t (map away_row left) b S (gone_plain left) (gone_filled left) p) o y

  pub good_block : (s : Block) (t : Tok) (b : Bool) (S : Ones) → IsTameBlock s → HasFilledBlock s → ((o : One) → S o → IsGood b t o) → (x : Exit) (o : One) → out_block t s S x o → IsGood b t o
  good_block (block ss bound end) t b S w f p to_next o y = rows_good t (map away_row bound) b (out_stmts t ss S to_next) (gone_plain bound) (gone_filled bound) (good_stmts ss t b S w f p to_next) o y
  good_block (block ss bound end) t b S w f p to_break o y = good_stmts ss t b S w f p to_break o y
  good_block (block ss bound end) t b S w f p to_continue o y = good_stmts ss t b S w f p to_continue o y

  pub good_stmts : (ss : Stmts) (t : Tok) (b : Bool) (S : Ones) → IsTameStmts ss → HasFilledStmts ss → ((o : One) → S o → IsGood b t o) → (x : Exit) (o : One) → out_stmts t ss S x o → IsGood b t o
  good_stmts done t b S w f p to_next o y = p o y
  good_stmts done t b S w f p to_break o y = absurd y
  good_stmts done t b S w f p to_continue o y = absurd y
  good_stmts (next at s rest) t b S w f p to_next o y = good_stmts rest t b (out t s S to_next) w.1 f.1 (good_form s t b S w.0 f.0 p to_next) to_next o y
  good_stmts (next at s rest) t b S w f p to_break o y = ⊎_elim (good_form s t b S w.0 f.0 p to_break o) (good_stmts rest t b (out t s S to_next) w.1 f.1 (good_form s t b S w.0 f.0 p to_next) to_break o) y
  good_stmts (next at s rest) t b S w f p to_continue o y = ⊎_elim (good_form s t b S w.0 f.0 p to_continue o) (good_stmts rest t b (out t s S to_next) w.1 f.1 (good_form s t b S w.0 f.0 p to_next) to_continue o) y

  pub good_arms : (arms : Arms) (t : Tok) (b : Bool) (S : Ones) → IsTameArms arms → HasFilledArms arms → ((o : One) → S o → IsGood b t o) → (x : Exit) (o : One) → out_arms t arms S x o → IsGood b t o
  good_arms no_arms t b S w f p x o y = absurd y
  good_arms (arm rs s rest) t b S w f p x o y = ⊎_elim (good_block s t b (images t rs S) w.1 f.1 (rows_good t rs b S w.0 f.0 p) x o) (good_arms rest t b S w.2 f.2 p x o) y

head_good : (s : Block) (rs : List Row) (t : Tok) (b : Bool) (S : Ones) → ArePlain rs → AreFilled rs → IsTameBlock s → HasFilledBlock s → ((o : One) → S o → IsGood b t o) → (o : One) → head_of t rs s S o → IsGood b t o
head_good s rs t b S pl fr w f p o z =
    let step = λ (T : Ones) (q : (o : One) → T o → IsGood b t o) (x : Exit) (o : One) (z : out_block t s (images t rs T) x o). good_block s t b (images t rs T) w f (rows_good t rs b T pl fr q) x o z in
    let round = λ (T : Ones) (q : (o : One) → T o → IsGood b t o) (o : One) (z : both (out_block t s (images t rs T) to_next) (out_block t s (images t rs T) to_continue) o). ⊎_elim (step T q to_next o) (step T q to_continue o) z in
    turns_keep _ S (IsGood b t) p round z.0 o z.1

-- ---- notes that show what is found

-- the notes stand for what A and B have, where it is of one kind
pub record Reads (a : Notes) (A B : Tok → ℕ → Ones) : Type 0 where
  pub around : (t : Tok) (i : ℕ) → IsOneKind (A t i) → IsJust (a.around i t) (A t i)
  pub following : (t : Tok) (i : ℕ) → IsOneKind (B t i) → IsJust (a.following i t) (B t i)

shown_at : (u : Status) (T V : Ones) → IsSameOnes T V → (IsOneKind T → IsJust u T) → IsOneKind V → IsJust u V
shown_at u T V z f k = let j = f (λ o o' x y. k o o' (z.there o x) (z.there o' y)) in record { there = λ o x. j.there o (z.back o x); back = λ o x. z.there o (j.back o x) }

mutual
  pub shows : (s : Flow) (a : Notes) (n : ℕ) (S : Every) (b : Tok → Bool) (A B : Tok → ℕ → Ones) → IsTame s → HasFilled s → ((t : Tok) (o : One) → S t o → IsGood (b t) t o) → ((t : Tok) → HasFault t s (S t) → ⊥) → ((t : Tok) → Fits (A t) (B t) t s n (S t)) → Reads a A B → Shows a n S s
  shows (step rs) a n S b A B w f p never z r = tt
  shows (choose rs u v) a n S b A B w f p never z r = (
    λ e t. shown_at (a.following n t) (B t n) (out t (choose rs u v) (S t) to_next) (z t).0 (r.following t n) (one_kind_of (b t) t (out t (choose rs u v) (S t) to_next) (good_form (choose rs u v) t (b t) (S t) w f (p t) to_next) (λ x. never t (inr (inr (inr x))))),
    shows_block u a (n + 1) (λ t. images t rs (S t)) b A B w.1 f.1 (λ t. rows_good t rs (b t) (S t) w.0 f.0 (p t)) (λ t x. never t (inr (inl x))) (λ t. (z t).1) r,
    shows_block v a (n + 1 + size_block u) (λ t. images t rs (S t)) b A B w.2 f.2 (λ t. rows_good t rs (b t) (S t) w.0 f.0 (p t)) (λ t x. never t (inr (inr (inl x)))) (λ t. (z t).2) r,
  )
  shows (loop rs s) a n S b A B w f p never z r =
      let top = λ (t : Tok). head_good s rs t (b t) (S t) w.0 f.0 w.1 f.1 (p t) in (
        λ t. shown_at (a.around n t) (A t n) (head_of t rs s (S t)) (z t).0 (r.around t n) (one_kind_of (b t) t (head_of t rs s (S t)) (top t) (λ x. never t (inl x))),
        λ t. shown_at (a.following n t) (B t n) (out t (loop rs s) (S t) to_next) (z t).1 (r.following t n) (one_kind_of (b t) t (out t (loop rs s) (S t) to_next) (good_form (loop rs s) t (b t) (S t) w f (p t) to_next) (λ x. never t (inr (inr (inr x))))),
        shows_block s a (n + 1) (λ t. images t rs (head_of t rs s (S t))) b A B w.1 f.1 (λ t. rows_good t rs (b t) (head_of t rs s (S t)) w.0 f.0 (top t)) (λ t x. never t (inr (inr (inl x)))) (λ t. (z t).2) r,
      )
  shows (switch rs arms end) a n S b A B w f p never z r = (
    λ e t. shown_at (a.following n t) (B t n) (out t (switch rs arms end) (S t) to_next) (z t).0 (r.following t n) (one_kind_of (b t) t (out t (switch rs arms end) (S t) to_next) (good_form (switch rs arms end) t (b t) (S t) w f (p t) to_next) (λ x. never t (inr (inr x)))),
    shows_arms arms a (n + 1) (λ t. images t rs (S t)) b A B w.1 f.1 (λ t. rows_good t rs (b t) (S t) w.0 f.0 (p t)) (λ t x. never t (inr (inl x))) (λ t. (z t).1) r,
  )
  shows (scope s) a n S b A B w f p never z r = shows_block s a (n + 1) S b A B w f p never z r
  shows (focus rs s es) a n S b A B w f p never z r =
      let g = w.0.0 in
      shows_block s a (n + 1) (λ t. images t rs (S t)) (λ t. is_tok t g || b t) A B w.1 f.1 (λ t. focus_enter t g rs es (b t) (S t) w.0.1 f.0 (p t)) (λ t x. never t (inr (inl x))) z r
  shows (return rs) a n S b A B w f p never z r = tt
  shows (jump c left) a n S b A B w f p never z r = tt

  pub shows_block : (s : Block) (a : Notes) (n : ℕ) (S : Every) (b : Tok → Bool) (A B : Tok → ℕ → Ones) → IsTameBlock s → HasFilledBlock s → ((t : Tok) (o : One) → S t o → IsGood (b t) t o) → ((t : Tok) → HasFaultBlock t s (S t) → ⊥) → ((t : Tok) → FitsBlock (A t) (B t) t s n (S t)) → Reads a A B → ShowsBlock a n S s
  shows_block (block ss bound end) a n S b A B w f p never z r = shows_stmts ss a n S b A B w f p (λ t x. never t (inl x)) z r

  shows_stmts : (ss : Stmts) (a : Notes) (n : ℕ) (S : Every) (b : Tok → Bool) (A B : Tok → ℕ → Ones) → IsTameStmts ss → HasFilledStmts ss → ((t : Tok) (o : One) → S t o → IsGood (b t) t o) → ((t : Tok) → HasFaultStmts t ss (S t) → ⊥) → ((t : Tok) → FitsStmts (A t) (B t) t ss n (S t)) → Reads a A B → ShowsStmts a n S ss
  shows_stmts done a n S b A B w f p never z r = tt
  shows_stmts (next at s rest) a n S b A B w f p never z r = (
    shows s a n S b A B w.0 f.0 p (λ t x. never t (inl x)) (λ t. (z t).0) r,
    λ e. shows_stmts rest a (n + size s) (λ t. out t s (S t) to_next) b A B w.1 f.1 (λ t. good_form s t (b t) (S t) w.0 f.0 (p t) to_next) (λ t x. never t (inr x)) (λ t. (z t).1) r,
  )

  shows_arms : (arms : Arms) (a : Notes) (n : ℕ) (S : Every) (b : Tok → Bool) (A B : Tok → ℕ → Ones) → IsTameArms arms → HasFilledArms arms → ((t : Tok) (o : One) → S t o → IsGood (b t) t o) → ((t : Tok) → HasFaultArms t arms (S t) → ⊥) → ((t : Tok) → FitsArms (A t) (B t) t arms n (S t)) → Reads a A B → ShowsArms a n S arms
  shows_arms no_arms a n S b A B w f p never z r = tt
  shows_arms (arm rs s rest) a n S b A B w f p never z r = (
    shows_block s a n (λ t. images t rs (S t)) b A B w.1 f.1 (λ t. rows_good t rs (b t) (S t) w.0 f.0 (p t)) (λ t x. never t (inr (inl x))) (λ t. (z t).0) r,
    shows_arms rest a (n + size_block s) S b A B w.2 f.2 p (λ t x. never t (inr (inr x))) (λ t. (z t).1) r,
  )

-- ---- a whole body

fits_found : (t : Tok) (s : Block) (S : Ones) (k : Stock) → IsFoundIn t s S k → FitsBlock (λ i. In (k.around i)) (λ i. In (k.following i)) t s 0 S
fits_found t s S k f = fits_block s (λ i. In (k.around i)) (λ i. In (k.following i)) t 0 S
    (record { there = λ i o p q x. (f.around i o).0 x; back = λ i o x. (f.around i o).1 x })
    (record { there = λ i o p q x. (f.following i o).0 x; back = λ i o x. (f.following i o).1 x })

pub faultless_local : (s : Block) (k : Tok → Stock) (a : Notes) (h : HeldMap) → IsFit s → IsStart h → ((t : Tok) → IsFoundIn t s (Has (h t)) (k t)) → IsReadOf a k → ((t : Tok) → HasFaultBlock t s (Has (h t)) → ⊥) → IsLocalBlock a None 0 h s
faultless_local s k a h fit start f r never =
    let w = shows_block s a 0 (λ t. Has (h t)) (λ t. false) (λ t i. In ((k t).around i)) (λ t i. In ((k t).following i)) fit.tame fit.filled start.good never (λ t. fits_found t s (Has (h t)) (k t) (f t)) (record { around = r.around; following = r.following }) in
    (faultless_block s a None 0 h (λ t. Has (h t)) fit.jumping fit.filled w (λ t. record { there = λ o x. x; back = λ o x. x; some = start.some t }) (record { breaks = λ t o x. tt; continues = λ t o x. tt }) never).0
