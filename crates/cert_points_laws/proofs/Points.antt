-- The points of a part at which just this is found show the annotation that surely shows it.
use Rattle.std.proofs.Common.{◌≡◌, ◌+◌, ◌&&◌, ◌++◌, ◌∷◌, ℕ, Bool, true, false, List, [], refl, sym, ap, subst, ◌∙◌, true≢false}
use Rattle.std.proofs.lemmas.List.{append_assoc}
use Rattle.vlt_base.specs.Sure.{Surely}
use Rattle.vlt_base.proofs.Surely.{so}
use Rattle.vlt_core.specs.Core.{Tok}
use Rattle.vlt_core.specs.Maps.{HeldMap}
use Rattle.vlt_core.specs.Flow.{Flow, step, choose, loop, switch, scope, focus, return, jump, Block, block, Stmts, done, next, Arms, no_arms, arm, size, size_block, passes, passes_stmts}
use Rattle.vlt_core.specs.Local.{Notes}
use Rattle.vlt_core.specs.Found.{Ones, Has, images, out, out_stmts, to_next, head_of}
use Rattle.vlt_core_laws.specs.Scoped.{with_bound, IsScoped, IsScopedBlock, IsScopedStmts, IsScopedArms}
use Rattle.vlt_core_laws.specs.Shown.{IsJust, AreJust, Every, Shows, ShowsBlock, ShowsStmts, ShowsArms}
use Rattle.vlt_core_laws.specs.Sweep.{Many}
use Rattle.vlt_flow.proofs.OfNotes.Alike.{Same, SameBlock, SameStmts, SameArms}
use Rattle.vlt_points_laws.specs.Points.{Before, NoPoint, OnlyIf, AreFound, AreFoundBlock, AreFoundStmts, AreFoundArms}
use Rattle.cert_points_laws.specs.Noted.{Any, Follow, AreJoined, AreNoted, AreNotedBlock, AreNotedStmts, AreNotedArms}
use Rattle.cert_points_laws.proofs.Leaf.{table_of, follow, begin_none, any_last}

-- its status of the token, at one statement
just : (t : Tok) (h k : HeldMap) (S : Every) → h ≡ k → AreJust h S → IsJust (k t) (S t)
just t h k S e x = subst (λ h. IsJust (h t) (S t)) e (x t)

both_true : (a b : Bool) → (a && b) ≡ true → (a ≡ true) × (b ≡ true)
both_true true b e = (refl, e)
both_true false b e = absurd (true≢false (sym e))

module _ (a : Notes) (t : Tok) where
  abbrev Form : ℕ → Every → Flow → Type 0
  Form n E s = (b : Notes) × (Same b a n s × Shows b n E s)

  abbrev pub OfBlock : ℕ → Every → Block → Type 0
  OfBlock n E s = (b : Notes) × (SameBlock b a n s × ShowsBlock b n E s)

  abbrev OfStmts : ℕ → Every → Stmts → Type 0
  OfStmts n E ss = (b : Notes) × (SameStmts b a n ss × ShowsStmts b n E ss)

  abbrev OfArms : ℕ → Every → Arms → Type 0
  OfArms n E arms = (b : Notes) × (SameArms b a n arms × ShowsArms b n E arms)

  -- after a statement that isn't passed there is none
  rest_shown : (b : Bool) (c : Notes) (n : ℕ) (E : Every) (rest : Stmts) → (b ≡ false → rest ≡ done) → (b ≡ true → ShowsStmts c n E rest) → ShowsStmts c n E rest
  rest_shown true c n E rest last f = f refl
  rest_shown false c n E rest last f = subst (ShowsStmts c n E) (sym (last refl)) tt

  -- what comes together after a choice
  after_choice : (b c : Bool) (n : ℕ) (S : Ones) (rest : Stmts) (xs ys : List Many) → (c ≡ false → rest ≡ done) → (b ≡ true → c ≡ true) → AreFoundStmts t rest S xs →
      OnlyIf b (Before (out_stmts t rest S to_next) NoPoint) ys → (c ≡ true → Surely (IsJust (a.following n t) S)) → Follow (Has (a.following n t)) rest (xs ++ ys)
  after_choice b true n S rest xs ys last k x y f = follow t b (a.following n t) S rest xs ys x y (f refl)
  after_choice true false n S rest xs ys last k x y f = absurd (true≢false (sym (k refl)))
  after_choice false false n S rest xs ys last k x y f = subst (λ r. AreFoundStmts t r S xs → Follow (Has (a.following n t)) r (xs ++ ys)) (sym (last refl)) (λ e. begin_none (Has (a.following n t)) xs ys e y) x

  -- ---- statements

  mutual
    noted_form : (s : Flow) (g : Tok → Bool) (n : ℕ) (E : Every) (ms : List Many) → IsScoped g s → AreFound t s (E t) ms → Surely (Form n E s) → AreNoted a t n s ms
    noted_form (step rs) g n E ms c x k = (x.0, x.2)
    noted_form (choose rs u v) g n E ms c x k = (
      x.0,
      (
        x.2.0,
        (
          x.2.1.0,
          noted_block u g (n + 1) (λ t. images t rs (E t)) x.2.1.0 c.1 x.2.1.1 (so k (λ y. (y.0, (y.1.0.1.0, y.1.1.1)))),
          (x.2.1.2.0, noted_block v g (n + 1 + size_block u) (λ t. images t rs (E t)) x.2.1.2.0 c.2 x.2.1.2.1 (so k (λ y. (y.0, (y.1.0.1.1, y.1.1.2)))), x.2.1.2.2),
        ),
        x.2.2,
      ),
    )
    noted_form (loop rs s) g n E ms c x k = (
      x.0,
      table_of (a.around n t) (head_of t rs s (E t)) x.0 x.1 (so k (λ y. just t (y.0.around n) (a.around n) (λ t. head_of t rs s (E t)) y.1.0.0 y.1.1.0)),
      (x.2.0, noted_block s g (n + 1) (λ t. images t rs (head_of t rs s (E t))) x.2.0 c.1 x.2.1 (so k (λ y. (y.0, (y.1.0.1.1, y.1.1.2)))), x.2.2),
    )
    noted_form (switch rs arms end) g n E ms c x k = (
      x.0,
      (x.2.0, noted_arms arms g (n + 1) (λ t. images t rs (E t)) x.2.0 c.1 x.2.1 (so k (λ y. (y.0, (y.1.0.1, y.1.1.1)))), x.2.2),
    )
    noted_form (scope s) g n E ms c x k = (x.0, (x.2.0, noted_block s g (n + 1) E x.2.0 c x.2.1 k, x.2.2))
    noted_form (focus rs s es) g n E ms c x k = (x.0, (x.2.0, noted_block s (with_bound g (c.0 ∷ [])) (n + 1) (λ t. images t rs (E t)) x.2.0 c.2 x.2.1 k, x.2.2))
    noted_form (return rs) g n E ms c x k = (x.0, x.2)
    noted_form (jump d left) g n E ms c x k = (x.0, x.2)

    pub noted_block : (s : Block) (g : Tok → Bool) (n : ℕ) (E : Every) (ms : List Many) → IsScopedBlock g s → AreFoundBlock t s (E t) ms → Surely (OfBlock n E s) → AreNotedBlock a t n s ms
    noted_block (block ss bound end) g n E ms c x k =
        noted_stmts ss (with_bound g bound) n E (passes_stmts ss) x.0 x.2.0 ms c.1 (λ e. e) x.1 x.2.1 x.2.2 k

    -- of a block's last statements, whose points are followed by its brace's, if that has one
    noted_stmts : (ss : Stmts) (g : Tok → Bool) (n : ℕ) (E : Every) (b : Bool) (xs ys ms : List Many) → IsScopedStmts g ss → (b ≡ true → passes_stmts ss ≡ true) → AreFoundStmts t ss (E t) xs →
        OnlyIf b (Before (out_stmts t ss (E t) to_next) NoPoint) ys → ms ≡ xs ++ ys → Surely (OfStmts n E ss) → AreNotedStmts a t n ss (OnlyIf b (Any NoPoint)) ms
    noted_stmts done g n E b xs ys ms c last x y e k =
        subst (OnlyIf b (Any NoPoint)) (sym (e ∙ ap (λ xs. xs ++ ys) x)) (any_last b (E t) ys y)
    noted_stmts (next at s rest) g n E b xs ys ms c last x y e k =
        let vs = x.2.0 in
        let more = so k (λ z. (z.0, (z.1.0.1, rest_shown (passes s) z.0 (n + size s) (λ t. out t s (E t) to_next) rest c.1 z.1.1.1))) in (
          x.0,
          noted_form s g n E x.0 c.0 x.1 (so k (λ z. (z.0, (z.1.0.0, z.1.1.0)))),
          (
            vs ++ ys,
            (
              joined s n E rest b vs ys c.1 (λ q. (both_true (passes s) (passes_stmts rest) (last q)).0) x.2.1 y (so k (λ z. (z.0, (z.1.0.0, z.1.1.0)))),
              noted_stmts rest g (n + size s) (λ t. out t s (E t) to_next) b vs ys (vs ++ ys) c.2 (λ q. (both_true (passes s) (passes_stmts rest) (last q)).1) x.2.1 y refl more,
            ),
            e ∙ (ap (λ xs. xs ++ ys) x.2.2 ∙ append_assoc x.0 vs ys),
          ),
        )

    joined : (s : Flow) (n : ℕ) (E : Every) (rest : Stmts) (b : Bool) (xs ys : List Many) → (passes s ≡ false → rest ≡ done) → (b ≡ true → passes s ≡ true) → AreFoundStmts t rest (out t s (E t) to_next) xs →
        OnlyIf b (Before (out_stmts t rest (out t s (E t) to_next) to_next) NoPoint) ys → Surely (Form n E s) → AreJoined a t n s rest (xs ++ ys)
    joined (choose rs u v) n E rest b xs ys c last x y k =
        after_choice b (passes (choose rs u v)) n (out t (choose rs u v) (E t) to_next) rest xs ys c last x y
        (λ q. so k (λ z. just t (z.0.following n) (a.following n) (λ t. out t (choose rs u v) (E t) to_next) (z.1.0.0 q) (z.1.1.0 q)))
    joined (loop rs s) n E rest b xs ys c last x y k =
        follow t b (a.following n t) (out t (loop rs s) (E t) to_next) rest xs ys x y
        (so k (λ z. just t (z.0.following n) (a.following n) (λ t. out t (loop rs s) (E t) to_next) z.1.0.1.0 z.1.1.1))
    joined (switch rs arms end) n E rest b xs ys c last x y k =
        after_choice b (passes (switch rs arms end)) n (out t (switch rs arms end) (E t) to_next) rest xs ys c last x y
        (λ q. so k (λ z. just t (z.0.following n) (a.following n) (λ t. out t (switch rs arms end) (E t) to_next) (z.1.0.0 q) (z.1.1.0 q)))
    joined (step rs) n E rest b xs ys c last x y k = tt
    joined (scope s) n E rest b xs ys c last x y k = tt
    joined (focus rs s es) n E rest b xs ys c last x y k = tt
    joined (return rs) n E rest b xs ys c last x y k = tt
    joined (jump d left) n E rest b xs ys c last x y k = tt

    noted_arms : (arms : Arms) (g : Tok → Bool) (n : ℕ) (E : Every) (ms : List Many) → IsScopedArms g arms → AreFoundArms t arms (E t) ms → Surely (OfArms n E arms) → AreNotedArms a t n arms ms
    noted_arms no_arms g n E ms c x k = x
    noted_arms (arm rs s rest) g n E ms c x k = (
      x.0,
      noted_block s g n (λ t. images t rs (E t)) x.0 c.1 x.1 (so k (λ z. (z.0, (z.1.0.0, z.1.1.0)))),
      (x.2.0, noted_arms rest g (n + size_block s) E x.2.0 c.2 x.2.1 (so k (λ z. (z.0, (z.1.0.1, z.1.1.1)))), x.2.2),
    )
