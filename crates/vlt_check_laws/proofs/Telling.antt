-- What is told of a faulty row or join is there, surely.
use Rattle.std.proofs.Common.{◌≡◌, ◌+◌, ◌||◌, ℕ, zero, suc, Bool, true, false, List, [], ◌∷◌, ◌++◌, map, length, refl, sym, ap, ◌∙◌, ◌⊎◌, inl, inr, ⊎_elim}
use Rattle.vlt_core.specs.Core.{Tok, Func, Program}
use Rattle.vlt_core.specs.Maps.{Wanted, wants_absent, wants_held, wants_in, wants_lent, wants_full, After, becomes_absent, becomes_held, stays, becomes_full, becomes_lent, comes_back, Row, Kind, is_absent, is_held, is_lent, is_full, is_tok, away_row}
use Rattle.vlt_core.specs.Flow.{Flow, step, choose, loop, switch, scope, focus, return, jump, Block, block, Stmts, done, next, Arms, no_arms, arm, end_of}
use Rattle.vlt_core.specs.Bodies.{body_flow}
use Rattle.vlt_core.specs.Derives.{start_map}
use Rattle.vlt_core.specs.Found.{One, one_absent, one_held, one_lent, one_full, Ones, Has, WantsOne, LeftBy, image_if, image, images, turns, Exit, to_next, to_continue, out, out_block, out_stmts, head_of}
use Rattle.vlt_core.specs.Faults.{Spot, If, IsMixed, IsUnwanted, IsPresent, present_of, spots, spots_block, spots_stmts, RowAt, SpotAt, SpotAtBlock, SpotAtStmts, SpotAtArms, FaultKind, at_row, at_join, TellsRow, TellsJoin, IsFaultIn, IsToldOf}
use Rattle.vlt_core_laws.specs.Fit.{IsFitBody}
use Rattle.vlt_core_laws.specs.Tame.{ArePlain, IsFocus, IsTame, IsTameBlock, IsTameStmts, IsTameArms}
use Rattle.vlt_core_laws.specs.Shown.{Every, one_kind, IsGood, IsOneKind, AreFilled, HasFilled, HasFilledBlock, HasFilledStmts, HasFilledArms}
use Rattle.vlt_core_laws.proofs.Showing.{one_kind_of, good_form, good_block, good_stmts, focus_enter}
use Rattle.vlt_base.specs.Sure.{Surely}
use Rattle.vlt_base.proofs.Surely.{so}
use Rattle.vlt_check_laws.proofs.Alike.{Test, Keeps, keeps_left, keeps_right}
use Rattle.vlt_check_laws.proofs.Closed.{tests, tests_block, tests_rows, tests_stmts, tests_arms, IsClosed, Related, row_closed, rest_kept, rows_closed, form_closed, head_closed, block_closed, stmts_closed, round_of}
use Rattle.vlt_check_laws.proofs.Told.{closed_tabled}
use Rattle.vlt_check_laws.proofs.Read.{read, tabled_stands}
use Rattle.vlt_check_laws.proofs.Derived.{tests_body, body_kept, begins_closed}

-- ---- one kind

-- where none is mixed with its absence, all are of one kind
abbrev IsOneUnlessMixed : Ones → Type 0
IsOneUnlessMixed S = (IsMixed S → ⊥) → IsOneKind S

abbrev kind_wanted : Wanted → Kind
kind_wanted wants_absent = is_absent
kind_wanted wants_lent = is_lent
kind_wanted wants_full = is_full
kind_wanted w = is_held

wanted_kind : (w : Wanted) (o : One) → WantsOne w o → one_kind o ≡ kind_wanted w
wanted_kind wants_absent one_absent x = refl
wanted_kind wants_held (one_held i) x = refl
wanted_kind (wants_in X) (one_held i) x = refl
wanted_kind wants_lent (one_lent i) x = refl
wanted_kind wants_full one_full x = refl
wanted_kind w o x = absurd x

abbrev kind_left : After → Kind → Kind
kind_left becomes_absent k = is_absent
kind_left (becomes_held X) k = is_held
kind_left stays k = k
kind_left becomes_full k = is_full
kind_left becomes_lent is_held = is_lent
kind_left becomes_lent k = k
kind_left comes_back is_lent = is_held
kind_left comes_back k = k

left_kind : (a : After) (o q : One) → LeftBy a o q → one_kind q ≡ kind_left a (one_kind o)
left_kind (becomes_held X) o q e = ap one_kind e.2
left_kind becomes_lent (one_held i) q e = ap one_kind e
left_kind comes_back (one_lent i) q e = ap one_kind e
left_kind a o q e = ap one_kind e

-- what a row leaves is of one kind
image_one : (t : Tok) (r : Row) (S : Ones) → IsOneUnlessMixed S → IsOneUnlessMixed (image t r S)
image_one t r S k = at (is_tok t r.tok)
  where
    one : (q : One) → image_if true r S q → one_kind q ≡ kind_left r.after (kind_wanted r.wanted)
    one q x = left_kind r.after x.0 q x.3 ∙ ap (kind_left r.after) (wanted_kind r.wanted x.0 x.2)

    at : (b : Bool) → IsOneUnlessMixed (image_if b r S)
    at true never = λ o q x y. one o x ∙ sym (one q y)
    at false never = k never

-- ---- what is told, of some kind

-- of some kind this is so
abbrev Some : (FaultKind → Type 0) → Type 0
Some A = (kind : FaultKind) × A kind

some_map : (A B : FaultKind → Type 0) → ((kind : FaultKind) → A kind → B kind) → Surely (Some A) → Surely (Some B)
some_map A B f s = so s (λ x. (x.0, f x.0 x.1))

some_either : (A B : FaultKind → Type 0) (X Y : Type 0) → (X → Surely (Some A)) → (Y → Surely (Some B)) → X ⊎ Y → Surely (Some (λ kind. A kind ⊎ B kind))
some_either A B X Y f g x = ⊎_elim
    (λ y. some_map A (λ kind. A kind ⊎ B kind) (λ kind z. inl z) (f y))
    (λ y. some_map B (λ kind. A kind ⊎ B kind) (λ kind z. inr z) (g y)) x

some_with : (X : Type 0) (B : FaultKind → Type 0) → X → Surely (Some B) → Surely (Some (λ kind. X × B kind))
some_with X B x s = some_map B (λ kind. X × B kind) (λ kind y. (x, y)) s

-- ---- what comes to a spot

module _ (xs : List Test) (t : Tok) where
  -- what is alike isn't told apart, and the token is lent just in a focus on it
  record IsSound (b : Bool) (S : Every) : Type 0 where
    closed : IsClosed xs S
    good : (o : One) → S t o → IsGood b t o

  one_sound : (b : Bool) (S : Every) → IsSound b S → IsOneUnlessMixed (S t)
  one_sound b S c = one_kind_of b t (S t) c.good

  rows_sound : (b : Bool) (rs : List Row) (rest : List Test) (S : Every) → Keeps xs (tests_rows rs ++ rest) → ArePlain rs → AreFilled rs → IsSound b S → IsSound b (λ u. images u rs (S u))
  rows_sound b rs rest S k w h c = record {
    closed = rows_closed xs rs S (keeps_left xs (tests_rows rs) rest k) c.closed;
    good = good_form (step rs) t b (S t) w h c.good to_next;
  }

  form_sound : (b : Bool) (s : Flow) (S : Every) → Keeps xs (tests s) → IsTame s → HasFilled s → IsSound b S → IsSound b (λ u. out u s (S u) to_next)
  form_sound b s S k w h c = record { closed = form_closed xs s S to_next k c.closed; good = good_form s t b (S t) w h c.good to_next }

  head_sound : (b : Bool) (rs : List Row) (s : Block) (S : Every) → Keeps xs (tests_rows rs ++ tests_block s) → ArePlain rs → AreFilled rs → IsTameBlock s → HasFilledBlock s → IsSound b S → IsSound b (λ u. head_of u rs s (S u))
  head_sound b rs s S k pl fr w h c = record { closed = head_closed xs rs s S k c.closed; good = λ o x. after x.0 o x.1 }
    where
      turned : (T : Ones) → ((o : One) → T o → IsGood b t o) → (x : Exit) (o : One) → out_block t s (images t rs T) x o → IsGood b t o
      turned T g x o y = good_block s t b (images t rs T) w h (λ q z. good_form (step rs) t b T pl fr g to_next q z) x o y

      after : (n : ℕ) (o : One) → turns (round_of t rs s) n (S t) o → IsGood b t o
      after zero o y = c.good o y
      after (suc n) o y = ⊎_elim (turned (turns (round_of t rs s) n (S t)) (after n) to_next o) (turned (turns (round_of t rs s) n (S t)) (after n) to_continue o) y

  block_sound : (b : Bool) (s : Block) (S : Every) → Keeps xs (tests_block s) → IsTameBlock s → HasFilledBlock s → IsSound b S → IsSound b (λ u. out_block u s (S u) to_next)
  block_sound b s S k w h c = record { closed = block_closed xs s S to_next k c.closed; good = good_block s t b (S t) w h c.good to_next }

  stmts_sound : (b : Bool) (ss : Stmts) (S : Every) → Keeps xs (tests_stmts ss) → IsTameStmts ss → HasFilledStmts ss → IsSound b S → IsSound b (λ u. out_stmts u ss (S u) to_next)
  stmts_sound b ss S k w h c = record { closed = stmts_closed xs ss S to_next k c.closed; good = good_stmts ss t b (S t) w h c.good to_next }

  focus_sound : (b : Bool) (g : Tok) (rs es : List Row) (rest : List Test) (S : Every) → Keeps xs (tests_rows rs ++ rest) → IsFocus rs es g → AreFilled rs → IsSound b S → IsSound (is_tok t g || b) (λ u. images u rs (S u))
  focus_sound b g rs es rest S k w h c = record {
    closed = rows_closed xs rs S (keeps_left xs (tests_rows rs) rest k) c.closed;
    good = focus_enter t g rs es b (S t) w h c.good;
  }

  -- ---- rows and joins

  row_told : (r : Row) (S : Every) → IsClosed xs S → IsOneUnlessMixed (S t) → IsUnwanted r (S t) → Surely (Some (λ kind. TellsRow kind r (S t)))
  row_told r S c one x = so (closed_tabled xs S c) (λ y. (at_row (read (y.many t) (y.lent t)) r.wanted, (tabled_stands S y t (one x.1), refl)))

  present_closed : (S : Every) → IsClosed xs S → IsClosed xs (λ u. present_of (S u))
  present_closed S c = record { each = λ u v o q p x y. (c.each u v o q p x y.0, present o q x y.1) }
    where
      present : (o q : One) → Related xs o q → IsPresent o → IsPresent q
      present one_absent one_absent x y = y
      present o (one_held b) x y = tt
      present o (one_lent b) x y = tt
      present o one_full x y = tt
      present o one_absent x y = absurd x

  join_told : (b : Bool) (S : Every) → IsSound b S → IsMixed (S t) → Surely (Some (λ kind. TellsJoin kind (S t)))
  join_told b S c x =
      let one = one_kind_of b t (present_of (S t)) (λ o y. c.good o y.0) (λ m. m.0.1) in
      so (closed_tabled xs (λ u. present_of (S u)) (present_closed S c.closed)) (λ y.
      (at_join (read (y.many t) (y.lent t)), tabled_stands (λ u. present_of (S u)) y t one))

  module _ (p : Spot) where
    some_if : (b : Bool) (r : Row) (S : Every) → IsClosed xs S → IsOneUnlessMixed (S t) → If b (IsUnwanted r (S t)) → Surely (Some (λ kind. If b (TellsRow kind r (S t))))
    some_if true r S c one x = row_told r S c one x
    some_if false r S c one x = absurd x

    some_join : (b : Bool) (q : Spot) (S : Every) → IsSound b S → (p ≡ q) × IsMixed (S t) → Surely (Some (λ kind. (p ≡ q) × TellsJoin kind (S t)))
    some_join b q S c x = some_with (p ≡ q) (λ kind. TellsJoin kind (S t)) x.0 (join_told b S c x.1)

    some_row : (at n : ℕ) (rs : List Row) (S : Every) → Keeps xs (tests_rows rs) → IsClosed xs S → IsOneUnlessMixed (S t) → RowAt IsUnwanted IsMixed p t at n rs (S t) → Surely (Some (λ kind. RowAt (TellsRow kind) (TellsJoin kind) p t at n rs (S t)))
    some_row at n [] S k c one x = absurd x
    some_row at n (r ∷ rs) S k c one x = some_either _ _ _ _
        (λ y. some_with _ _ y.0 (some_if (is_tok t r.tok) r S c one y.1))
        (λ y. some_row at (n + 1) rs (λ u. image u r (S u)) (rest_kept xs r rs k) (row_closed xs r rs S k c) (image_one t r (S t) one) y) x

    some_rows : (b : Bool) (at n : ℕ) (rs : List Row) (S : Every) → Keeps xs (tests_rows rs) → IsSound b S → RowAt IsUnwanted IsMixed p t at n rs (S t) → Surely (Some (λ kind. RowAt (TellsRow kind) (TellsJoin kind) p t at n rs (S t)))
    some_rows b at n rs S k c x = some_row at n rs S k c.closed (one_sound b S c) x

    mutual
      some_spot : (s : Flow) (b : Bool) (at n : ℕ) (S : Every) → Keeps xs (tests s) → IsTame s → HasFilled s → IsSound b S → SpotAt IsUnwanted IsMixed p t at n s (S t) → Surely (Some (λ kind. SpotAt (TellsRow kind) (TellsJoin kind) p t at n s (S t)))
      some_spot (step rs) b at n S k w h c x = some_rows b at n rs S k c x
      some_spot (choose rs u v) b at n S k w h c x =
          let m = rows_sound b rs _ S k w.0 h.0 c in let l = keeps_right xs (tests_rows rs) _ k in
          some_either _ _ _ _ (λ y. some_rows b at n rs S (keeps_left xs (tests_rows rs) _ k) c y)
          (some_either _ _ _ _ (λ y. some_block u b (n + length rs) (λ a. images a rs (S a)) (keeps_left xs (tests_block u) (tests_block v) l) w.1 h.1 m y)
          (some_either _ _ _ _ (λ y. some_block v b (n + length rs + spots_block u) (λ a. images a rs (S a)) (keeps_right xs (tests_block u) (tests_block v) l) w.2 h.2 m y)
          (λ y. some_join b _ (λ a. out a (choose rs u v) (S a) to_next) (form_sound b (choose rs u v) S k w h c) y))) x
      some_spot (loop rs s) b at n S k w h c x =
          let top = head_sound b rs s S k w.0 h.0 w.1 h.1 c in
          some_either _ _ _ _ (λ y. some_join b _ (λ a. head_of a rs s (S a)) top y)
          (some_either _ _ _ _ (λ y. some_rows b at (n + 1) rs (λ a. head_of a rs s (S a)) (keeps_left xs (tests_rows rs) _ k) top y)
          (some_either _ _ _ _ (λ y. some_block s b (n + 1 + length rs) (λ a. images a rs (head_of a rs s (S a))) (keeps_right xs (tests_rows rs) _ k) w.1 h.1 (rows_sound b rs _ (λ a. head_of a rs s (S a)) k w.0 h.0 top) y)
          (λ y. some_join b _ (λ a. out a (loop rs s) (S a) to_next) (form_sound b (loop rs s) S k w h c) y))) x
      some_spot (switch rs arms end) b at n S k w h c x =
          some_either _ _ _ _ (λ y. some_rows b at n rs S (keeps_left xs (tests_rows rs) _ k) c y)
          (some_either _ _ _ _ (λ y. some_arm arms b at (n + length rs) (λ a. images a rs (S a)) (keeps_right xs (tests_rows rs) _ k) w.1 h.1 (rows_sound b rs _ S k w.0 h.0 c) y)
          (λ y. some_join b _ (λ a. out a (switch rs arms end) (S a) to_next) (form_sound b (switch rs arms end) S k w h c) y)) x
      some_spot (scope s) b at n S k w h c x = some_block s b n S k w h c x
      some_spot (focus rs s es) b at n S k w h c x =
          let m = focus_sound b w.0.0 rs es _ S k w.0.1 h.0 c in
          let l = keeps_right xs (tests_rows rs) _ k in let j = keeps_left xs (tests_block s) (tests_rows es) l in
          some_either _ _ _ _ (λ y. some_rows b at n rs S (keeps_left xs (tests_rows rs) _ k) c y)
          (some_either _ _ _ _ (λ y. some_block s (is_tok t w.0.0 || b) (n + length rs) (λ a. images a rs (S a)) j w.1 h.1 m y)
          (λ y. some_rows (is_tok t w.0.0 || b) (end_of s) (n + length rs + spots_block s) es (λ a. out_block a s (images a rs (S a)) to_next) (keeps_right xs (tests_block s) (tests_rows es) l) (block_sound (is_tok t w.0.0 || b) s (λ a. images a rs (S a)) j w.1 h.1 m) y)) x
      some_spot (return rs) b at n S k w h c x = some_rows b at n rs S k c x
      some_spot (jump e left) b at n S k w h c x = some_rows b at n (map away_row left) S k c x

      some_block : (s : Block) (b : Bool) (n : ℕ) (S : Every) → Keeps xs (tests_block s) → IsTameBlock s → HasFilledBlock s → IsSound b S → SpotAtBlock IsUnwanted IsMixed p t n s (S t) → Surely (Some (λ kind. SpotAtBlock (TellsRow kind) (TellsJoin kind) p t n s (S t)))
      some_block (block ss bound end) b n S k w h c x =
          let j = keeps_left xs (tests_stmts ss) _ k in
          some_either _ _ _ _ (λ y. some_stmt ss b n S j w h c y)
          (λ y. some_rows b end (n + spots_stmts ss) (map away_row bound) (λ a. out_stmts a ss (S a) to_next) (keeps_right xs (tests_stmts ss) _ k) (stmts_sound b ss S j w h c) y) x

      some_stmt : (ss : Stmts) (b : Bool) (n : ℕ) (S : Every) → Keeps xs (tests_stmts ss) → IsTameStmts ss → HasFilledStmts ss → IsSound b S → SpotAtStmts IsUnwanted IsMixed p t n ss (S t) → Surely (Some (λ kind. SpotAtStmts (TellsRow kind) (TellsJoin kind) p t n ss (S t)))
      some_stmt done b n S k w h c x = absurd x
      some_stmt (next at s rest) b n S k w h c x =
          let j = keeps_left xs (tests s) (tests_stmts rest) k in
          some_either _ _ _ _ (λ y. some_spot s b at n S j w.0 h.0 c y)
          (λ y. some_stmt rest b (n + spots s) (λ a. out a s (S a) to_next) (keeps_right xs (tests s) (tests_stmts rest) k) w.1 h.1 (form_sound b s S j w.0 h.0 c) y) x

      some_arm : (arms : Arms) (b : Bool) (at n : ℕ) (S : Every) → Keeps xs (tests_arms arms) → IsTameArms arms → HasFilledArms arms → IsSound b S → SpotAtArms IsUnwanted IsMixed p t at n arms (S t) → Surely (Some (λ kind. SpotAtArms (TellsRow kind) (TellsJoin kind) p t at n arms (S t)))
      some_arm no_arms b at n S k w h c x = absurd x
      some_arm (arm rs s rest) b at n S k w h c x =
          let l = keeps_right xs (tests_rows rs) _ k in
          some_either _ _ _ _ (λ y. some_rows b at n rs S (keeps_left xs (tests_rows rs) _ k) c y)
          (some_either _ _ _ _ (λ y. some_block s b (n + length rs) (λ a. images a rs (S a)) (keeps_left xs (tests_block s) (tests_arms rest) l) w.1 h.1 (rows_sound b rs _ S k w.0 h.0 c) y)
          (λ y. some_arm rest b at (n + length rs + spots_block s) S (keeps_right xs (tests_block s) (tests_arms rest) l) w.2 h.2 c y)) x

-- ---- faults of a function

pub fault_told : (p : Program) (f : Func) (q : Spot) (t : Tok) → IsFitBody p f → IsFaultIn p f q t → Surely (Some (λ kind. IsToldOf p f kind q t))
fault_told p f q t fit x =
    some_block (tests_body p f) t q (body_flow p f) false 0 (λ u. Has (start_map p f u)) (body_kept p f) fit.fit.tame fit.fit.filled
    (record { closed = begins_closed p f; good = fit.start.good t }) x
