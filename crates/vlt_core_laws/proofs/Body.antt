-- Bodies that break no rule are fit for the check.
use Rattle.std.proofs.Common.{◌≡◌, ℕ, Bool, true, false, ◌||◌, List, [], ◌++◌, refl, ⊎_elim}
use Rattle.vlt_core.specs.Core.{Tok, a_var, Func, Program}
use Rattle.vlt_core.specs.Lookups.{is_owning_var}
use Rattle.vlt_core.specs.Flow as flow
use Rattle.vlt_core.specs.Flow.{passes, passes_block}
use Rattle.vlt_core.specs.KindedScopes.{Ids, at_block_start, left_behind}
use Rattle.vlt_core.specs.KindedBodies.{tokens_broken}
use Rattle.vlt_core_laws.specs.Scoped.{is_bound, with_bound, IsScoped, IsScopedBlock, IsScopedStmts, IsScopedArms}
use Rattle.vlt_core_laws.specs.Tame.{IsTame, IsTameBlock, IsTameStmts, IsTameArms}
use Rattle.vlt_core_laws.specs.Shown.{HasFilled, HasFilledBlock, HasFilledStmts, HasFilledArms}
use Rattle.vlt_core_laws.proofs.Ids.{IsToken, was, AreTyped, Goes, or_left, or_right, not_both, true_or_false, was_not, bound_append, bound_left, bound_right}
use Rattle.vlt_core_laws.proofs.Scoping.{Covers}
use Rattle.vlt_core_laws.proofs.Listed.{listed_made, made_listed, token_of}

-- ---- what is so at a point, and of a part

pub record Point (f : Func) (g : Tok → Bool) (left : List Tok) (ids : Ids) : Type 0 where
  pub covers : Covers f g ids
  pub typed : AreTyped f ids
  pub bound : (t : Tok) → is_bound ids.bound t ≡ true → was ids t ≡ true
  pub others : (v : ℕ) → is_owning_var f v ≡ false → g (a_var v) ≡ true
  pub lefts : (t : Tok) → is_bound left t ≡ true → g t ≡ true

-- what is bound within a part, but not in the block at hand, isn't in scope around it
abbrev pub Apart : Func → (Tok → Bool) → Ids → Ids → Type 0
Apart f g a b = (t : Tok) → IsToken f t → was a t ≡ false → was b t ≡ true → is_bound b.bound t ≡ false → g t ≡ false

-- the tokens of the block at hand are in scope
abbrev pub Final : Func → (Tok → Bool) → Ids → Type 0
Final f g b = (t : Tok) → IsToken f t → is_bound b.bound t ≡ true → g t ≡ true

pub record Fine (g : Tok → Bool) (s : flow.Flow) : Type 0 where
  pub scoped : IsScoped g s
  pub tame : IsTame s
  pub filled : HasFilled s

pub record FineBlock (g : Tok → Bool) (s : flow.Block) : Type 0 where
  pub scoped : IsScopedBlock g s
  pub tame : IsTameBlock s
  pub filled : HasFilledBlock s

pub record FineStmts (g : Tok → Bool) (s : flow.Stmts) : Type 0 where
  pub scoped : IsScopedStmts g s
  pub tame : IsTameStmts s
  pub filled : HasFilledStmts s

pub record FineArms (g : Tok → Bool) (s : flow.Arms) : Type 0 where
  pub scoped : IsScopedArms g s
  pub tame : IsTameArms s
  pub filled : HasFilledArms s

pub both_false : (a b : Bool) → a ≡ false → b ≡ false → (a || b) ≡ false
both_false true b e d = e
both_false false b e d = d

-- ---- how a block is entered

-- A block that begins at `ids0`, of which `extra` was bound just before it, at `ids`.
pub record Enters (f : Func) (ids ids0 : Ids) (extra : List Tok) : Type 0 where
  pub grows : (t : Tok) → was ids t ≡ true → was ids0 t ≡ true
  pub fresh : (t : Tok) → is_bound extra t ≡ true → was ids t ≡ false
  pub made : (t : Tok) → is_bound extra t ≡ true → was ids0 t ≡ true

module _ (p : Program) (f : Func) (g : Tok → Bool) (left : List Tok) (ids ids0 : Ids) (extra listed : List Tok) (last : Ids)
    (point : Point f g left ids) (enters : Enters f ids ids0 extra) (q : Goes f (at_block_start ids0) last) (lists : tokens_broken f listed (extra ++ last.bound) ≡ [])
    (apart : Apart f g ids (left_behind ids last)) where
  -- a listed token is new
  listed_new : (t : Tok) → is_bound listed t ≡ true → (was ids t ≡ false) × (was last t ≡ true)
  listed_new t b = ⊎_elim
      (λ x. (enters.fresh t x, q.grows t (enters.made t x)))
      (λ x. (⊎_elim (λ y. not_both false y refl) (λ y. was_not (was ids t) (was ids0 t) (enters.grows t) y) (q.added t x), ⊎_elim (λ y. not_both false y refl) (λ y. y) (q.known t x)))
      (bound_append extra last.bound t (listed_made f listed (extra ++ last.bound) lists t b).1)

  listed_token : (t : Tok) → is_bound listed t ≡ true → IsToken f t
  listed_token t b = token_of f t (listed_made f listed (extra ++ last.bound) lists t b).0

  not_bound : (t : Tok) → was ids t ≡ false → is_bound ids.bound t ≡ false
  not_bound t w = ⊎_elim (λ b. not_both (was ids t) (point.bound t b) w) (λ b. b) (true_or_false (is_bound ids.bound t))

  pub listed_out : (t : Tok) → is_bound listed t ≡ true → g t ≡ false
  listed_out t b = let new = listed_new t b in apart t (listed_token t b) new.0 new.1 (not_bound t new.0)

  pub inner_apart : Apart f (with_bound g listed) (at_block_start ids0) last
  inner_apart t k w0 w1 nb =
      let w = was_not (was ids t) (was ids0 t) (enters.grows t) w0 in
      both_false (g t) (is_bound listed t) (apart t k w w1 (not_bound t w))
      (⊎_elim (λ b. ⊎_elim (λ x. not_both (was ids0 t) (enters.made t x) w0) (λ x. not_both (is_bound last.bound t) x nb) (bound_append extra last.bound t (listed_made f listed (extra ++ last.bound) lists t b).1)) (λ b. b) (true_or_false (is_bound listed t)))

  pub inner_final : Final f (with_bound g listed) last
  inner_final t k b = or_right (g t) (is_bound listed t) (made_listed f listed (extra ++ last.bound) lists t k (bound_right extra last.bound t b))

  pub extra_listed : (t : Tok) → IsToken f t → is_bound extra t ≡ true → is_bound listed t ≡ true
  extra_listed t k b = made_listed f listed (extra ++ last.bound) lists t k (bound_left extra last.bound t b)

  pub inner_point : Covers f (with_bound g listed) ids0 → AreTyped f ids0 → Point f (with_bound g listed) (left ++ listed) (at_block_start ids0)
  inner_point c t0 = record {
    covers = record { keys = c.keys; vars = c.vars };
    typed = record { each = t0.each };
    bound = λ t b. not_both false b refl;
    others = λ v o. or_left (g (a_var v)) (is_bound listed (a_var v)) (point.others v o);
    lefts = λ t b. ⊎_elim (λ x. or_left (g t) (is_bound listed t) (point.lefts t x)) (λ x. or_right (g t) (is_bound listed t) x) (bound_append left listed t b);
  }
