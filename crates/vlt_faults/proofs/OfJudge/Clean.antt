-- In a body in which a token is lent in a focus alone, what is found present at a spot is of one kind.
use Rattle.std.proofs.Common.{◌≡◌, ◌+◌, ◌||◌, ℕ, zero, suc, Bool, true, false, List, [], ◌∷◌, map, length, refl, sym, ap, ◌∙◌, subst, ◌⊎◌, inl, inr, ⊎_elim}
use Rattle.vlt_core.specs.Core.{Tok}
use Rattle.vlt_core.specs.Maps.{Wanted, wants_absent, wants_held, wants_in, wants_lent, wants_full, After, becomes_absent, becomes_held, stays, becomes_full, becomes_lent, comes_back, Row, Kind, is_absent, is_held, is_lent, is_full, is_tok, away_row}
use Rattle.vlt_core.specs.Flow.{Flow, step, choose, loop, switch, scope, focus, return, jump, Block, block, Stmts, done, next, Arms, no_arms, arm, end_of}
use Rattle.vlt_core.specs.Found.{One, one_absent, one_held, one_lent, one_full, Ones, WantsOne, LeftBy, image_if, image, images, both, turns, Exit, to_next, to_continue, out, out_block, out_stmts, head_of}
use Rattle.vlt_core.specs.Faults.{Spot, If, IsMixed, IsPresent, present_of, spots, spots_block, spots_stmts, RowAt, SpotAt, SpotAtBlock, SpotAtStmts, SpotAtArms}
use Rattle.vlt_core_laws.specs.Tame.{ArePlain, IsTame, IsTameBlock, IsTameStmts, IsTameArms}
use Rattle.vlt_core_laws.specs.Shown.{one_kind, IsGood, IsOneKind, AreFilled, HasFilled, HasFilledBlock, HasFilledStmts, HasFilledArms}
use Rattle.vlt_core_laws.proofs.Showing.{one_kind_of, good_form, good_block, focus_enter}

-- those that are present are of one kind
pub record IsClean (S : Ones) : Type 0 where
  pub one : IsOneKind (present_of S)

good_clean : (b : Bool) (t : Tok) (S : Ones) → ((o : One) → S o → IsGood b t o) → IsClean S
good_clean b t S g = record { one = one_kind_of b t (present_of S) (λ o y. g o y.0) (λ m. m.0.1) }

absent_or : (o : One) → (o ≡ one_absent) ⊎ IsPresent o
absent_or one_absent = inl refl
absent_or (one_held i) = inr tt
absent_or (one_lent i) = inr tt
absent_or one_full = inr tt

-- where none is mixed with its absence, all are
pub clean_unmixed : (S : Ones) → IsClean S → (IsMixed S → ⊥) → IsOneKind S
clean_unmixed S c never o o' x y = ⊎_elim
    (λ p. ⊎_elim (λ q. ap one_kind (p ∙ sym q)) (λ q. absurd (never (subst S p x, (o', q, y)))) (absent_or o'))
    (λ p. ⊎_elim (λ q. absurd (never (subst S q y, (o, p, x)))) (λ q. c.one o o' (x, p) (y, q)) (absent_or o')) (absent_or o)

-- ---- rows

-- what a row wants is of one kind, and so is what it leaves
abbrev kind_wanted : Wanted → Kind
kind_wanted wants_absent = is_absent
kind_wanted wants_held = is_held
kind_wanted (wants_in states) = is_held
kind_wanted wants_lent = is_lent
kind_wanted wants_full = is_full

wanted_kind : (w : Wanted) (o : One) → WantsOne w o → one_kind o ≡ kind_wanted w
wanted_kind wants_absent one_absent x = refl
wanted_kind wants_absent (one_held i) x = absurd x
wanted_kind wants_absent (one_lent i) x = absurd x
wanted_kind wants_absent one_full x = absurd x
wanted_kind wants_held (one_held i) x = refl
wanted_kind wants_held one_absent x = absurd x
wanted_kind wants_held (one_lent i) x = absurd x
wanted_kind wants_held one_full x = absurd x
wanted_kind (wants_in s) (one_held i) x = refl
wanted_kind (wants_in s) one_absent x = absurd x
wanted_kind (wants_in s) (one_lent i) x = absurd x
wanted_kind (wants_in s) one_full x = absurd x
wanted_kind wants_lent (one_lent i) x = refl
wanted_kind wants_lent one_absent x = absurd x
wanted_kind wants_lent (one_held i) x = absurd x
wanted_kind wants_lent one_full x = absurd x
wanted_kind wants_full one_full x = refl
wanted_kind wants_full one_absent x = absurd x
wanted_kind wants_full (one_held i) x = absurd x
wanted_kind wants_full (one_lent i) x = absurd x

abbrev kind_left : After → Kind → Kind
kind_left becomes_absent k = is_absent
kind_left (becomes_held states) k = is_held
kind_left stays k = k
kind_left becomes_full k = is_full
kind_left becomes_lent is_held = is_lent
kind_left becomes_lent is_absent = is_absent
kind_left becomes_lent is_lent = is_lent
kind_left becomes_lent is_full = is_full
kind_left comes_back is_lent = is_held
kind_left comes_back is_absent = is_absent
kind_left comes_back is_held = is_held
kind_left comes_back is_full = is_full

left_kind : (a : After) (o q : One) → LeftBy a o q → one_kind q ≡ kind_left a (one_kind o)
left_kind becomes_absent o q e = ap one_kind e
left_kind (becomes_held s) o q e = ap one_kind e.2
left_kind stays o q e = ap one_kind e
left_kind becomes_full o q e = ap one_kind e
left_kind becomes_lent (one_held i) q e = ap one_kind e
left_kind becomes_lent one_absent q e = ap one_kind e
left_kind becomes_lent (one_lent i) q e = ap one_kind e
left_kind becomes_lent one_full q e = ap one_kind e
left_kind comes_back (one_lent i) q e = ap one_kind e
left_kind comes_back one_absent q e = ap one_kind e
left_kind comes_back (one_held i) q e = ap one_kind e
left_kind comes_back one_full q e = ap one_kind e

image_clean : (t : Tok) (r : Row) (S : Ones) → IsClean S → IsClean (image t r S)
image_clean t r S c = at (is_tok t r.tok)
  where
    one : (o : One) → image_if true r S o → one_kind o ≡ kind_left r.after (kind_wanted r.wanted)
    one o x = left_kind r.after x.0 o x.3 ∙ ap (kind_left r.after) (wanted_kind r.wanted x.0 x.2)

    at : (b : Bool) → IsClean (image_if b r S)
    at true = record { one = λ o o' x y. one o x.0 ∙ sym (one o' y.0) }
    at false = record { one = λ o o' x y. c.one o o' x y }

-- ---- spots

-- a turn of a loop, from its head to its head
abbrev round_of : Tok → List Row → Block → Ones → Ones
round_of t rs s T = both (out_block t s (images t rs T) to_next) (out_block t s (images t rs T) to_continue)

-- what is so of a row and of a join with what is found there says more where it is clean
module _ (P P' : Row → Ones → Type 0) (Q Q' : Ones → Type 0) (f : (r : Row) (S : Ones) → IsClean S → P r S → P' r S) (g : (S : Ones) → IsClean S → Q S → Q' S) where
  clean_if : (b : Bool) (r : Row) (S : Ones) → IsClean S → If b (P r S) → If b (P' r S)
  clean_if true r S c x = f r S c x
  clean_if false r S c x = x

  clean_rows : (p : Spot) (at n : ℕ) (t : Tok) (rs : List Row) (S : Ones) → IsClean S → RowAt P Q p t at n rs S → RowAt P' Q' p t at n rs S
  clean_rows p at n t [] S c x = x
  clean_rows p at n t (r ∷ rs) S c x = ⊎_elim
      (λ y. inl (y.0, clean_if (is_tok t r.tok) r S c y.1))
      (λ y. inr (clean_rows p at (n + 1) t rs (image t r S) (image_clean t r S c) y)) x

  module _ (p : Spot) (t : Tok) where
    rows_good : (rs : List Row) (b : Bool) (S : Ones) → ArePlain rs → AreFilled rs → ((o : One) → S o → IsGood b t o) → (o : One) → images t rs S o → IsGood b t o
    rows_good rs b S w h k o y = good_form (step rs) t b S w h k to_next o y

    head_good : (s : Block) (rs : List Row) (b : Bool) (S : Ones) → ArePlain rs → AreFilled rs → IsTameBlock s → HasFilledBlock s → ((o : One) → S o → IsGood b t o) → (o : One) → head_of t rs s S o → IsGood b t o
    head_good s rs b S pl fr w h k o z = go z.0 o z.1
      where
        inside : (T : Ones) → ((o : One) → T o → IsGood b t o) → (x : Exit) (o : One) → out_block t s (images t rs T) x o → IsGood b t o
        inside T q x o y = good_block s t b (images t rs T) w h (rows_good rs b T pl fr q) x o y

        go : (n : ℕ) (o : One) → turns (round_of t rs s) n S o → IsGood b t o
        go zero o y = k o y
        go (suc n) o y = ⊎_elim (inside (turns (round_of t rs s) n S) (go n) to_next o) (inside (turns (round_of t rs s) n S) (go n) to_continue o) y

    mutual
      clean_spot : (s : Flow) (b : Bool) (at n : ℕ) (S : Ones) → IsTame s → HasFilled s → ((o : One) → S o → IsGood b t o) → SpotAt P Q p t at n s S → SpotAt P' Q' p t at n s S
      clean_spot (step rs) b at n S w h k x = clean_rows p at n t rs S (good_clean b t S k) x
      clean_spot (choose rs u v) b at n S w h k x =
          let m = rows_good rs b S w.0 h.0 k in
          ⊎_elim (λ y. inl (clean_rows p at n t rs S (good_clean b t S k) y)) (⊎_elim
          (λ y. inr (inl (clean_block u b (n + length rs) (images t rs S) w.1 h.1 m y))) (⊎_elim
          (λ y. inr (inr (inl (clean_block v b (n + length rs + spots_block u) (images t rs S) w.2 h.2 m y))))
          (λ y. inr (inr (inr (y.0, g (out t (choose rs u v) S to_next) (good_clean b t (out t (choose rs u v) S to_next) (good_form (choose rs u v) t b S w h k to_next)) y.1)))))) x
      clean_spot (loop rs s) b at n S w h k x =
          let top = head_good s rs b S w.0 h.0 w.1 h.1 k in
          let clean = good_clean b t (head_of t rs s S) top in
          ⊎_elim (λ y. inl (y.0, g (head_of t rs s S) clean y.1)) (⊎_elim
          (λ y. inr (inl (clean_rows p at (n + 1) t rs (head_of t rs s S) clean y))) (⊎_elim
          (λ y. inr (inr (inl (clean_block s b (n + 1 + length rs) (images t rs (head_of t rs s S)) w.1 h.1 (rows_good rs b (head_of t rs s S) w.0 h.0 top) y))))
          (λ y. inr (inr (inr (y.0, g (out t (loop rs s) S to_next) (good_clean b t (out t (loop rs s) S to_next) (good_form (loop rs s) t b S w h k to_next)) y.1)))))) x
      clean_spot (switch rs arms end) b at n S w h k x =
          ⊎_elim (λ y. inl (clean_rows p at n t rs S (good_clean b t S k) y)) (⊎_elim
          (λ y. inr (inl (clean_arms arms b at (n + length rs) (images t rs S) w.1 h.1 (rows_good rs b S w.0 h.0 k) y)))
          (λ y. inr (inr (y.0, g (out t (switch rs arms end) S to_next) (good_clean b t (out t (switch rs arms end) S to_next) (good_form (switch rs arms end) t b S w h k to_next)) y.1)))) x
      clean_spot (scope s) b at n S w h k x = clean_block s b n S w h k x
      clean_spot (focus rs s es) b at n S w h k x =
          let m = focus_enter t w.0.0 rs es b S w.0.1 h.0 k in
          let after = good_block s t (is_tok t w.0.0 || b) (images t rs S) w.1 h.1 m to_next in
          ⊎_elim (λ y. inl (clean_rows p at n t rs S (good_clean b t S k) y)) (⊎_elim
          (λ y. inr (inl (clean_block s (is_tok t w.0.0 || b) (n + length rs) (images t rs S) w.1 h.1 m y)))
          (λ y. inr (inr (clean_rows p (end_of s) (n + length rs + spots_block s) t es (out_block t s (images t rs S) to_next) (good_clean (is_tok t w.0.0 || b) t (out_block t s (images t rs S) to_next) after) y)))) x
      clean_spot (return rs) b at n S w h k x = clean_rows p at n t rs S (good_clean b t S k) x
      clean_spot (jump c left) b at n S w h k x = clean_rows p at n t (map away_row left) S (good_clean b t S k) x

      pub clean_block : (s : Block) (b : Bool) (n : ℕ) (S : Ones) → IsTameBlock s → HasFilledBlock s → ((o : One) → S o → IsGood b t o) → SpotAtBlock P Q p t n s S → SpotAtBlock P' Q' p t n s S
      clean_block (block ss bound end) b n S w h k x =
          let after = good_block (block ss [] 0) t b S w h k to_next in
          ⊎_elim (λ y. inl (clean_stmts ss b n S w h k y))
          (λ y. inr (clean_rows p end (n + spots_stmts ss) t (map away_row bound) (out_stmts t ss S to_next) (good_clean b t (out_stmts t ss S to_next) (λ o z. after o z)) y)) x

      clean_stmts : (ss : Stmts) (b : Bool) (n : ℕ) (S : Ones) → IsTameStmts ss → HasFilledStmts ss → ((o : One) → S o → IsGood b t o) → SpotAtStmts P Q p t n ss S → SpotAtStmts P' Q' p t n ss S
      clean_stmts done b n S w h k x = x
      clean_stmts (next at s rest) b n S w h k x = ⊎_elim
          (λ y. inl (clean_spot s b at n S w.0 h.0 k y))
          (λ y. inr (clean_stmts rest b (n + spots s) (out t s S to_next) w.1 h.1 (good_form s t b S w.0 h.0 k to_next) y)) x

      clean_arms : (arms : Arms) (b : Bool) (at n : ℕ) (S : Ones) → IsTameArms arms → HasFilledArms arms → ((o : One) → S o → IsGood b t o) → SpotAtArms P Q p t at n arms S → SpotAtArms P' Q' p t at n arms S
      clean_arms no_arms b at n S w h k x = x
      clean_arms (arm rs s rest) b at n S w h k x = ⊎_elim
          (λ y. inl (clean_rows p at n t rs S (good_clean b t S k) y)) (⊎_elim
          (λ y. inr (inl (clean_block s b (n + length rs) (images t rs S) w.1 h.1 (rows_good rs b S w.0 h.0 k) y)))
          (λ y. inr (inr (clean_arms rest b at (n + length rs + spots_block s) S w.2 h.2 k y)))) x
