-- Something is found of each token at each loop and at each choice that can be passed.
use Rattle.std.proofs.Common.{◌≡◌, ◌+◌, ◌||◌, ◌&&◌, ℕ, zero, Bool, true, false, if◌then◌else◌, List, [], ◌∷◌, ◌++◌, map, Option, Some, None, refl, sym, subst, inl, inr, true≢false}
use Rattle.vlt_core.specs.Core.{Tok}
use Rattle.vlt_core.specs.Maps.{Wanted, wants_absent, wants_held, wants_in, wants_lent, wants_full, After, becomes_absent, becomes_held, stays, becomes_full, becomes_lent, comes_back, Status, Row, HeldMap, IsWanted, is_tok, row_passed, CanPass, map_after, away_row}
use Rattle.vlt_core.specs.Flow.{Flow, step, choose, loop, switch, scope, focus, return, jump, Block, block, Stmts, done, next, Arms, no_arms, arm, size, size_block, passes, passes_block, passes_stmts, passes_arms}
use Rattle.vlt_core.specs.Local.{Notes, When, leads, leads_block, leads_stmts, IsLocal, IsLocalBlock, IsLocalStmts, IsLocalArms}
use Rattle.vlt_core.specs.Found.{One, one_absent, one_held, one_lent, one_full, Ones, Has, WantsOne, LeftBy, image_if, image, images, to_next, out, out_block, out_stmts, out_arms, head_of}
use Rattle.vlt_core.specs.Least.{Noted, a_loop, a_join, noted, noted_block, noted_stmts, noted_arms}
use Rattle.vlt_core_laws.specs.Scoped.{IsScoped, IsScopedBlock, IsScopedStmts, IsScopedArms}
use Rattle.vlt_core_laws.specs.Shown.{IsFilled, AreFilled, HasFilled, HasFilledBlock, HasFilledStmts, HasFilledArms}
use Rattle.vlt_core_laws.specs.Sweep.{found_head, found_head_block, found_head_stmts, found_head_arms, found_exit, found_exit_block, found_exit_stmts, found_exit_arms}
use Rattle.vlt_core_laws.proofs.Faultless.{gone_filled}
use Rattle.vlt_core_laws.proofs.Founds.{IsIn, kind_held, kind_lent, kind_absent, kind_full, same_is, image_in, images_in, HasAt, local_out_block, local_out_stmts}
use Rattle.cert_least_laws.proofs.OfBodies.Within.{rest_case, at_head}

-- there is one
abbrev pub IsSome : Ones → Type 0
IsSome S = (o : One) × S o

-- at the heads H and the exits B of these statements
abbrev pub AreSome : (H B : ℕ → Ones) → List Noted → Type 0
AreSome H B [] = Unit {0}
AreSome H B (a_loop n ∷ xs) = IsSome (H n) × IsSome (B n) × AreSome H B xs
AreSome H B (a_join n ∷ xs) = IsSome (B n) × AreSome H B xs

abbrev Widens : (H G : ℕ → Ones) → Type 0
Widens H G = (i : ℕ) (o : One) → H i o → G i o

some_more : (H G B C : ℕ → Ones) (xs : List Noted) → Widens H G → Widens B C → AreSome H B xs → AreSome G C xs
some_more H G B C [] f e x = tt
some_more H G B C (a_loop n ∷ xs) f e x = ((x.0.0, f n x.0.0 x.0.1), (x.1.0, e n x.1.0 x.1.1), some_more H G B C xs f e x.2)
some_more H G B C (a_join n ∷ xs) f e x = ((x.0.0, e n x.0.0 x.0.1), some_more H G B C xs f e x.1)

some_joined : (H B : ℕ → Ones) (xs ys : List Noted) → AreSome H B xs → AreSome H B ys → AreSome H B (xs ++ ys)
some_joined H B [] ys x y = y
some_joined H B (a_loop n ∷ xs) ys x y = (x.0, x.1, some_joined H B xs ys x.2 y)
some_joined H B (a_join n ∷ xs) ys x y = (x.0, some_joined H B xs ys x.1 y)

some_own : (H B : ℕ → Ones) (n : ℕ) (b : Bool) → (b ≡ true → IsSome (B n)) → AreSome H B (if b then a_join n ∷ [] else [])
some_own H B n true f = (f refl, tt)
some_own H B n false f = tt

-- ---- rows

wants_one : (w : Wanted) (u : Status) (o : One) → IsWanted w u → Has u o → WantsOne w o
wants_one wants_absent u o p h = subst (WantsOne wants_absent) (sym (kind_absent u p o h)) tt
wants_one wants_held u o p h = subst (WantsOne wants_held) (sym (kind_held u p o h).1) tt
wants_one (wants_in w) u o p h = let k = kind_held u p.0 o h in subst (WantsOne (wants_in w)) (sym k.1) (p.1.each k.0 k.2)
wants_one wants_lent u o p h = subst (WantsOne wants_lent) (sym (kind_lent u p o h).1) tt
wants_one wants_full u o p h = subst (WantsOne wants_full) (sym (kind_full u p o h)) tt

left_some : (a : After) (o : One) → IsFilled a → (q : One) × LeftBy a o q
left_some becomes_absent o f = (one_absent, refl)
left_some (becomes_held s) o f = (one_held f.0, (f.0, f.1, refl))
left_some stays o f = (o, refl)
left_some becomes_full o f = (one_full, refl)
left_some becomes_lent one_absent f = (one_absent, refl)
left_some becomes_lent (one_held i) f = (one_lent i, refl)
left_some becomes_lent (one_lent i) f = (one_lent i, refl)
left_some becomes_lent one_full f = (one_full, refl)
left_some comes_back one_absent f = (one_absent, refl)
left_some comes_back (one_held i) f = (one_held i, refl)
left_some comes_back (one_lent i) f = (one_held i, refl)
left_some comes_back one_full f = (one_full, refl)

either : (b c : Bool) {A : Type 0} → (b ≡ true → A) → (c ≡ true → A) → (b || c) ≡ true → A
either true c f g e = f refl
either false c f g e = g e

module _ (t : Tok) where
  rows_some : (rs : List Row) (h : HeldMap) (S : Ones) → AreFilled rs → IsIn S (h t) → CanPass rs h → IsSome S → IsSome (images t rs S)
  rows_some [] h S f p c x = x
  rows_some (r ∷ rs) h S f p c x = rows_some rs (row_passed r h) (image t r S) f.2 (image_in t r S h p) c.1 (at (is_tok t r.tok) refl)
    where
      at : (b : Bool) → is_tok t r.tok ≡ b → (o : One) × image_if b r S o
      at true e =
          let y = left_some r.after x.0 f.0 in
          (y.0, (x.0, x.1, wants_one r.wanted (h r.tok) x.0 c.0 (subst (λ k. Has (h k) x.0) (same_is t r.tok e) (p.each x.0 x.1)), y.1))
      at false e = x

  -- rows at the end of a part
  end_some : (es : List Row) (o : Option HeldMap) (S : Ones) → AreFilled es → ((x : One) → S x → HasAt o t x) → When o (CanPass es) → IsSome S → IsSome (images t es S)
  end_some es None S f at w x = absurd (at x.0 x.1)
  end_some es (Some m) S f at w x = rows_some es m S f (record { each = at }) w x

module _ (t : Tok) (a : Notes) where
  -- what comes out of statements, and is found in them
  abbrev Tail : (n : ℕ) → Ones → Stmts → Type 0
  Tail n T ss = (passes_stmts ss ≡ true → IsSome (out_stmts t ss T to_next)) × AreSome (found_head_stmts t ss n T) (found_exit_stmts t ss n T) (noted_stmts n ss)

  -- of those after one: there are none where it isn't passed
  tail_some : (l : Option ℕ) (n : ℕ) (h : HeldMap) (S : Ones) (s : Flow) (rest : Stmts) → (passes s ≡ false → rest ≡ done) → IsIn S (h t) → IsLocal a l n h s → When (leads a n h s) (λ m. IsLocalStmts a l (n + size s) m rest) →
      (passes s ≡ true → IsSome (out t s S to_next)) → (IsSome (out t s S to_next) → (m : HeldMap) → IsIn (out t s S to_next) (m t) → IsLocalStmts a l (n + size s) m rest → Tail (n + size s) (out t s S to_next) rest) →
      ((passes s && passes_stmts rest) ≡ true → IsSome (out_stmts t rest (out t s S to_next) to_next)) × AreSome (found_head_stmts t rest (n + size s) (out t s S to_next)) (found_exit_stmts t rest (n + size s) (out t s S to_next)) (noted_stmts (n + size s) rest)
  tail_some l n h S s rest last p d w some go = by (passes s) refl
    where
      by : (b : Bool) → passes s ≡ b → ((b && passes_stmts rest) ≡ true → IsSome (out_stmts t rest (out t s S to_next) to_next)) × AreSome (found_head_stmts t rest (n + size s) (out t s S to_next)) (found_exit_stmts t rest (n + size s) (out t s S to_next)) (noted_stmts (n + size s) rest)
      by true e = rest_case t a l n h S s rest (λ ss. rest ≡ ss) (Tail (n + size s) (out t s S to_next) rest) last p d w refl
          (λ q. subst (Tail (n + size s) (out t s S to_next)) (sym q) (λ z. some e, tt))
          (λ m q r. go (some e) m q r)
      by false e = (
        λ z. absurd (true≢false (sym z)),
        subst (λ ss. AreSome (found_head_stmts t ss (n + size s) (out t s S to_next)) (found_exit_stmts t ss (n + size s) (out t s S to_next)) (noted_stmts (n + size s) ss)) (sym (last e)) tt,
      )

  mutual
    form_some : (s : Flow) (g : Tok → Bool) (l : Option ℕ) (n : ℕ) (h : HeldMap) (S : Ones) → IsScoped g s → HasFilled s → IsIn S (h t) → IsLocal a l n h s → IsSome S →
        (passes s ≡ true → IsSome (out t s S to_next)) × AreSome (found_head t s n S) (found_exit t s n S) (noted n s)
    form_some (step rs) g l n h S c f p d x = (λ e. rows_some t rs h S f p d x, tt)
    form_some (choose rs u v) g l n h S c f p d x =
        let q = rows_some t rs h S f.0 p d.0 x in
        let T = images t rs S in
        let k = map_after rs h in
        let m = n + 1 + size_block u in
        let H = found_head t (choose rs u v) n S in
        let B = found_exit t (choose rs u v) n S in
        let one = block_some u g l (n + 1) k T c.1 f.1 (images_in t rs S h p) d.1 q in
        let two = block_some v g l m k T c.2 f.2 (images_in t rs S h p) d.2 q in
        let outs = λ (e : (passes_block u || passes_block v) ≡ true). either (passes_block u) (passes_block v) (λ b. let y = one.0 b in (y.0, inl y.1)) (λ b. let y = two.0 b in (y.0, inr y.1)) e in
        let own = if passes_block u || passes_block v then a_join n ∷ [] else [] in (
          outs,
          some_joined H B (own ++ noted_block (n + 1) u) (noted_block m v)
              (some_joined H B own (noted_block (n + 1) u)
              (some_own H B n (passes_block u || passes_block v) (λ e. let y = outs e in (y.0, inl (refl, y.1))))
              (some_more (found_head_block t u (n + 1) T) H (found_exit_block t u (n + 1) T) B (noted_block (n + 1) u) (λ i o y. inl y) (λ i o y. inr (inl y)) one.1))
              (some_more (found_head_block t v m T) H (found_exit_block t v m T) B (noted_block m v) (λ i o y. inr y) (λ i o y. inr (inr y)) two.1),
        )
    form_some (loop rs s) g l n h S c f p d x =
        let top = at_head t a rs s l n h S p d in
        let T = head_of t rs s S in
        let H = found_head t (loop rs s) n S in
        let B = found_exit t (loop rs s) n S in
        let q = rows_some t rs (a.around n) T f.0 top d.1 (x.0, (zero, x.1)) in
        let one = block_some s g (Some n) (n + 1) (map_after rs (a.around n)) (images t rs T) c.1 f.1 (images_in t rs T (a.around n) top) d.3 q in (
          λ e. (q.0, inl q.1),
          (
            (x.0, inl (refl, (zero, x.1))),
            (q.0, inl (refl, inl q.1)),
            some_more (found_head_block t s (n + 1) (images t rs T)) H (found_exit_block t s (n + 1) (images t rs T)) B (noted_block (n + 1) s) (λ i o y. inr y) (λ i o y. inr y) one.1,
          ),
        )
    form_some (switch rs arms end) g l n h S c f p d x =
        let q = rows_some t rs h S f.0 p d.0 x in
        let T = images t rs S in
        let H = found_head t (switch rs arms end) n S in
        let B = found_exit t (switch rs arms end) n S in
        let one = arms_some arms g l (n + 1) (map_after rs h) (a.following n) T c.1 f.1 (images_in t rs S h p) d.1 q in
        let own = if passes_arms arms then a_join n ∷ [] else [] in (
          one.0,
          some_joined H B own (noted_arms (n + 1) arms)
              (some_own H B n (passes_arms arms) (λ e. let y = one.0 e in (y.0, inl (refl, y.1))))
              (some_more (found_head_arms t arms (n + 1) T) H (found_exit_arms t arms (n + 1) T) B (noted_arms (n + 1) arms) (λ i o y. y) (λ i o y. inr y) one.1),
        )
    form_some (scope s) g l n h S c f p d x =
        let one = block_some s g l (n + 1) h S c f p d x in
        (one.0, some_more (found_head_block t s (n + 1) S) (found_head t (scope s) n S) (found_exit_block t s (n + 1) S) (found_exit t (scope s) n S) (noted_block (n + 1) s) (λ i o y. y) (λ i o y. y) one.1)
    form_some (focus rs s es) g l n h S c f p d x =
        let q = rows_some t rs h S f.0 p d.0 x in
        let T = images t rs S in
        let k = map_after rs h in
        let one = block_some s _ l (n + 1) k T c.2 f.1 (images_in t rs S h p) d.1 q in
        let outs = local_out_block s t a l (n + 1) k T (images_in t rs S h p) d.1 in (
          λ e. end_some t es (leads_block a (n + 1) k s) (out_block t s T to_next) f.2 outs.0.next d.2 (one.0 c.3),
          some_more (found_head_block t s (n + 1) T) (found_head t (focus rs s es) n S) (found_exit_block t s (n + 1) T) (found_exit t (focus rs s es) n S) (noted_block (n + 1) s) (λ i o y. y) (λ i o y. y) one.1,
        )
    form_some (return rs) g l n h S c f p d x = (λ e. absurd (true≢false (sym e)), tt)
    form_some (jump k left) g l n h S c f p d x = (λ e. absurd (true≢false (sym e)), tt)

    pub block_some : (s : Block) (g : Tok → Bool) (l : Option ℕ) (n : ℕ) (h : HeldMap) (S : Ones) → IsScopedBlock g s → HasFilledBlock s → IsIn S (h t) → IsLocalBlock a l n h s → IsSome S →
        (passes_block s ≡ true → IsSome (out_block t s S to_next)) × AreSome (found_head_block t s n S) (found_exit_block t s n S) (noted_block n s)
    block_some (block ss bound end) g l n h S c f p d x =
        let one = stmts_some ss _ l n h S c.1 f p d.0 x in
        let outs = local_out_stmts ss t a l n h S p d.0 in (
          λ e. end_some t (map away_row bound) (leads_stmts a n h ss) (out_stmts t ss S to_next) (gone_filled bound) outs.0.next d.1 (one.0 e),
          some_more (found_head_stmts t ss n S) (found_head_block t (block ss bound end) n S) (found_exit_stmts t ss n S) (found_exit_block t (block ss bound end) n S) (noted_stmts n ss) (λ i o y. y) (λ i o y. y) one.1,
        )

    stmts_some : (ss : Stmts) (g : Tok → Bool) (l : Option ℕ) (n : ℕ) (h : HeldMap) (S : Ones) → IsScopedStmts g ss → HasFilledStmts ss → IsIn S (h t) → IsLocalStmts a l n h ss → IsSome S → Tail n S ss
    stmts_some done g l n h S c f p d x = (λ e. x, tt)
    stmts_some (next at s rest) g l n h S c f p d x =
        let T = out t s S to_next in
        let H = found_head_stmts t (next at s rest) n S in
        let B = found_exit_stmts t (next at s rest) n S in
        let one = form_some s g l n h S c.0 f.0 p d.0 x in
        let more = tail_some l n h S s rest c.1 p d.0 d.1 one.0 (λ y m q w. stmts_some rest g l (n + size s) m T c.2 f.1 q w y) in (
          more.0,
          some_joined H B (noted n s) (noted_stmts (n + size s) rest)
              (some_more (found_head t s n S) H (found_exit t s n S) B (noted n s) (λ i o y. inl y) (λ i o y. inl y) one.1)
              (some_more (found_head_stmts t rest (n + size s) T) H (found_exit_stmts t rest (n + size s) T) B (noted_stmts (n + size s) rest) (λ i o y. inr y) (λ i o y. inr y) more.1),
        )

    arms_some : (arms : Arms) (g : Tok → Bool) (l : Option ℕ) (n : ℕ) (h k : HeldMap) (S : Ones) → IsScopedArms g arms → HasFilledArms arms → IsIn S (h t) → IsLocalArms a l n h arms k → IsSome S →
        (passes_arms arms ≡ true → IsSome (out_arms t arms S to_next)) × AreSome (found_head_arms t arms n S) (found_exit_arms t arms n S) (noted_arms n arms)
    arms_some no_arms g l n h k S c f p d x = (λ e. absurd (true≢false (sym e)), tt)
    arms_some (arm rs s rest) g l n h k S c f p d x =
        let q = rows_some t rs h S f.0 p d.0 x in
        let T = images t rs S in
        let m = n + size_block s in
        let H = found_head_arms t (arm rs s rest) n S in
        let B = found_exit_arms t (arm rs s rest) n S in
        let one = block_some s g l n (map_after rs h) T c.1 f.1 (images_in t rs S h p) d.1 q in
        let more = arms_some rest g l m h k S c.2 f.2 p d.3 x in (
          λ e. either (passes_block s) (passes_arms rest) (λ b. let y = one.0 b in (y.0, inl y.1)) (λ b. let y = more.0 b in (y.0, inr y.1)) e,
          some_joined H B (noted_block n s) (noted_arms m rest)
              (some_more (found_head_block t s n T) H (found_exit_block t s n T) B (noted_block n s) (λ i o y. inl y) (λ i o y. inl y) one.1)
              (some_more (found_head_arms t rest m S) H (found_exit_arms t rest m S) B (noted_arms m rest) (λ i o y. inr y) (λ i o y. inr y) more.1),
        )
