-- A local annotation gives a derivation, where tokens out of scope are absent.
use Rattle.std.proofs.Common.{◌≡◌, ◌+◌, ℕ, Bool, true, false, IsTrue, MatchBool, cond, List, [], ◌∷◌, map, Option, Some, None, refl, sym, ap, ◌∙◌, subst, rules, ◌⊎◌, ◌||◌, inl, inr, ⊎_elim}
use Rattle.std.specs.Prelude.{IsSome}
use Rattle.vlt_core.specs.Core.{Tok, a_key, a_var}
use Rattle.vlt_core.specs.Maps.{Row, Status, absent, held, lent, full, is_absent, is_held, is_lent, is_full, kind_of, HeldMap, is_tok, status_after, row_passed, CanPass, map_after, IsBelow, away_row}
use Rattle.vlt_core.specs.Flow.{Flow, step, choose, loop, switch, scope, focus, return, jump, Block, block, Stmts, done, next, Arms, no_arms, arm, size, size_block, passes, passes_block, passes_arms}
use Rattle.vlt_core.specs.Local.{Notes, Then, When, Meets, only_if, rows_passed, leads, leads_block, leads_stmts, IsLocal, IsLocalBlock, IsLocalStmts, IsLocalArms}
use Rattle.vlt_core.specs.Derives.{toward, Derives, DerivesBlock, DerivesStmts, DerivesArms, IsDerived}
use Rattle.vlt_core_laws.specs.Scoped.{is_bound, with_bound, AreInScope, IsScoped, IsScopedBlock, IsScopedStmts, IsScopedArms, within, LeavesAbsent, IsAbsentOut, SomeLocal, IsJumpingBlock}
use Rattle.vlt_core.proofs.Maps.{map_refl, map_trans}
use Rattle.vlt_core_laws.proofs.Changes.{Lies, leads_some, leads_block_some}
use Rattle.vlt_core_laws.proofs.Founds.{same_is}
use Rattle.vlt_core_laws.proofs.Annotating.{block_made}

true_false : {P : Type 0} (b : Bool) → b ≡ true → b ≡ false → P
true_false b p q = absurd (never b p q)
  where
    never : (b : Bool) → b ≡ true → b ≡ false → ⊥
    never b p q = cc

absent_kind : (u : Status) → is_absent ≡ kind_of u → u ≡ absent
absent_kind absent e = refl
absent_kind (held s) e = absurd (never e)
  where
    never : is_absent ≡ is_held → ⊥
    never e = cc
absent_kind (lent s) e = absurd (never e)
  where
    never : is_absent ≡ is_lent → ⊥
    never e = cc
absent_kind full e = absurd (never e)
  where
    never : is_absent ≡ is_full → ⊥
    never e = cc

out_below : (g : Tok → Bool) (h k : HeldMap) → IsBelow h k → IsAbsentOut g h → IsAbsentOut g k
out_below g h k p a = record { each = λ t e. absent_kind (k t) (sym (ap kind_of (a.each t e)) ∙ (p.each t).kind) }

row_out : (g : Tok → Bool) (r : Row) (h : HeldMap) → g r.tok ≡ true → IsAbsentOut g h → IsAbsentOut g (row_passed r h)
row_out g r h p a = record { each = λ t e. at t e (is_tok t r.tok) refl }
  where
    at : (t : Tok) → g t ≡ false → (b : Bool) → is_tok t r.tok ≡ b → cond b (status_after r.after (h r.tok)) (h t) ≡ absent
    at t e true s = true_false (g t) (ap g (same_is t r.tok s) ∙ p) e
    at t e false s = a.each t e

rows_out : (g : Tok → Bool) (rs : List Row) (h : HeldMap) → AreInScope g rs → IsAbsentOut g h → IsAbsentOut g (map_after rs h)
rows_out g [] h p a = a
rows_out g (r ∷ rs) h p a = rows_out g rs (row_passed r h) p.1 (row_out g r h p.0 a)

or_left : (a b : Bool) → (a || b) ≡ false → a ≡ false
or_left true b e = e
or_left false b e = refl

out_wider : (g : Tok → Bool) (bound : List Tok) (h : HeldMap) → IsAbsentOut g h → IsAbsentOut (with_bound g bound) h
out_wider g bound h a = record { each = λ t e. a.each t (or_left (g t) (is_bound bound t) e) }

out_within : (s : Block) (g : Tok → Bool) (h : HeldMap) → IsAbsentOut g h → IsAbsentOut (within g s) h
out_within (block ss bound end) g h a = out_wider g bound h a

-- after a focus its own token is absent
out_focus : (g : Tok → Bool) (x : Tok) (es : List Row) (m : HeldMap) → LeavesAbsent x es → IsAbsentOut (with_bound g (x ∷ [])) (map_after es m) → IsAbsentOut g (map_after es m)
out_focus g x es m leaves a = record { each = λ t e. at t e (is_tok t x) refl }
  where
    at : (t : Tok) → g t ≡ false → (b : Bool) → is_tok t x ≡ b → map_after es m t ≡ absent
    at t e true s = ap (map_after es m) (same_is t x s) ∙ leaves m
    at t e false s = a.each t (ap (λ b. b || (is_tok t x || false)) e ∙ ap (λ b. b || false) s)

gone_absent : (bound : List Tok) (m : HeldMap) (t : Tok) → (m t ≡ absent) ⊎ (is_bound bound t ≡ true) → map_after (map away_row bound) m t ≡ absent
gone_absent [] m t (inl e) = e
gone_absent [] m t (inr e) = true_false false e refl
gone_absent (u ∷ us) m t p = gone_absent us (row_passed (away_row u) m) t (at (is_tok t u) p)
  where
    at : (b : Bool) → (m t ≡ absent) ⊎ ((b || is_bound us t) ≡ true) → (cond b absent (m t) ≡ absent) ⊎ (is_bound us t ≡ true)
    at true p = inl refl
    at false (inl e) = inl e
    at false (inr e) = inr e

gone_out : (g : Tok → Bool) (bound : List Tok) (m : HeldMap) → IsAbsentOut (with_bound g bound) m → IsAbsentOut g (map_after (map away_row bound) m)
gone_out g bound m a = record { each = λ t e. gone_absent bound m t (at t e (is_bound bound t) refl) }
  where
    at : (t : Tok) → g t ≡ false → (b : Bool) → is_bound bound t ≡ b → (m t ≡ absent) ⊎ (is_bound bound t ≡ true)
    at t e true s = inr s
    at t e false s = inl (a.each t (ap (λ x. x || is_bound bound t) e ∙ s))

-- rows of tokens that are absent anyway
gone_can : (bound : List Tok) (k : HeldMap) → ((t : Tok) → is_bound bound t ≡ true → k t ≡ absent) → CanPass (map away_row bound) k × IsBelow (map_after (map away_row bound) k) k
gone_can [] k p = (tt, map_refl k)
gone_can (u ∷ us) k p =
    let here : k u ≡ absent = p u (ap (λ b. b || is_bound us u) (same_self u)) in
    let same : row_passed (away_row u) k ≡ k = λ i t. at t (is_tok t u) refl here i in
    let rest = gone_can us k (λ t e. p t (ap (λ b. is_tok t u || b) e ∙ or_true (is_tok t u))) in
    ((ap kind_of here, subst (CanPass (map away_row us)) (sym same) rest.0), subst (λ h. IsBelow (map_after (map away_row us) h) k) (sym same) rest.1)
  where
    same_self : (u : Tok) → is_tok u u ≡ true
    same_self (a_key i) = search rules
    same_self (a_var i) = search rules

    or_true : (b : Bool) → (b || true) ≡ true
    or_true true = refl
    or_true false = refl

    at : (t : Tok) (b : Bool) → is_tok t u ≡ b → k u ≡ absent → cond b absent (k t) ≡ k t
    at t true s e = sym (ap k (same_is t u s) ∙ e)
    at t false s e = refl

-- ---- what a part leads to

way_out : (g : Tok → Bool) (b : Bool) (o : Option HeldMap) (k : HeldMap) → MatchBool b (IsSome o) (o ≡ None) → When o (IsAbsentOut g) → When o (λ m. IsBelow m k) → b ≡ true → IsAbsentOut g k
way_out g true None k p a w e = absurd (no_some p)
  where
    no_some : IsSome {T = HeldMap} None → ⊥
    no_some p = search rules
way_out g true (Some m) k p a w e = out_below g m k w a
way_out g false o k p a w e = true_false false e refl

only_out : (g : Tok → Bool) (p q : Bool) (k : HeldMap) → (p ≡ true → IsAbsentOut g k) → (q ≡ true → IsAbsentOut g k) → When (only_if (p || q) k) (IsAbsentOut g)
only_out g true q k a b = a refl
only_out g false true k a b = b refl
only_out g false false k a b = tt

only_when : (g : Tok → Bool) (p : Bool) (k : HeldMap) → (p ≡ true → IsAbsentOut g k) → When (only_if p k) (IsAbsentOut g)
only_when g true k a = a refl
only_when g false k a = tt

when_rows : (P Q : HeldMap → Type 0) (rs : List Row) (o : Option HeldMap) → ((m : HeldMap) → P m → Q (map_after rs m)) → When o P → When (rows_passed rs o) Q
when_rows P Q rs None f w = tt
when_rows P Q rs (Some m) f w = f m w

when_then : (P Q R : HeldMap → Type 0) (o : Option HeldMap) (f : HeldMap → Option HeldMap) → When o P → When o Q → ((m : HeldMap) → P m → Q m → When (f m) R) → When (Then o f) R
when_then P Q R None f p q go = tt
when_then P Q R (Some m) f p q go = go m p q

or_cases : (p q : Bool) → (p || q) ≡ true → (p ≡ true) ⊎ (q ≡ true)
or_cases true q e = inl refl
or_cases false q e = inr e

mutual
  pub form_out : (s : Flow) (g : Tok → Bool) (a : Notes) (l : Option ℕ) (n : ℕ) (h : HeldMap) → IsScoped g s → IsAbsentOut g h → IsLocal a l n h s → When (leads a n h s) (IsAbsentOut g)
  form_out (step rs) g a l n h w p d = rows_out g rs h w p
  form_out (choose rs u v) g a l n h w p d =
      let q = rows_out g rs h w.0 p in
      only_out g (passes_block u) (passes_block v) (a.following n)
      (way_out g (passes_block u) _ (a.following n) (leads_block_some u a (n + 1) (map_after rs h)) (block_out u g a l (n + 1) (map_after rs h) w.1 (out_within u g (map_after rs h) q) d.1) d.3)
      (way_out g (passes_block v) _ (a.following n) (leads_block_some v a (n + 1 + size_block u) (map_after rs h)) (block_out v g a l (n + 1 + size_block u) (map_after rs h) w.2 (out_within v g (map_after rs h) q) d.2) d.4)
  form_out (loop rs s) g a l n h w p d = out_below g (map_after rs (a.around n)) (a.following n) d.2 (rows_out g rs (a.around n) w.0 (out_below g h (a.around n) d.0 p))
  form_out (switch rs arms end) g a l n h w p d = only_when g (passes_arms arms) (a.following n) (arms_out arms g a l (n + 1) (map_after rs h) (a.following n) w.1 (rows_out g rs h w.0 p) d.1)
  form_out (scope s) g a l n h w p d = block_out s g a l (n + 1) h w (out_within s g h p) d
  form_out (focus rs s es) g a l n h w p d =
      let f = with_bound g (w.0 ∷ []) in
      let q = rows_out f rs h w.1 (out_wider g (w.0 ∷ []) h p) in
      when_rows (IsAbsentOut f) (IsAbsentOut g) es _ (λ m q. out_focus g w.0 es m w.5 (rows_out f es m w.4 q))
      (block_out s f a l (n + 1) (map_after rs h) w.2 (out_within s f (map_after rs h) q) d.1)
  form_out (return rs) g a l n h w p d = tt
  form_out (jump c left) g a l n h w p d = tt

  pub block_out : (s : Block) (g : Tok → Bool) (a : Notes) (l : Option ℕ) (n : ℕ) (h : HeldMap) → IsScopedBlock g s → IsAbsentOut (within g s) h → IsLocalBlock a l n h s → When (leads_block a n h s) (IsAbsentOut g)
  block_out (block ss bound end) g a l n h w p d =
      when_rows (IsAbsentOut (with_bound g bound)) (IsAbsentOut g) (map away_row bound) _ (λ m q. gone_out g bound m q) (stmts_out ss (with_bound g bound) a l n h w.1 p d.0)

  pub stmts_out : (ss : Stmts) (g : Tok → Bool) (a : Notes) (l : Option ℕ) (n : ℕ) (h : HeldMap) → IsScopedStmts g ss → IsAbsentOut g h → IsLocalStmts a l n h ss → When (leads_stmts a n h ss) (IsAbsentOut g)
  stmts_out done g a l n h w p d = p
  stmts_out (next at s rest) g a l n h w p d =
      when_then (IsAbsentOut g) (λ m. IsLocalStmts a l (n + size s) m rest) (IsAbsentOut g) (leads a n h s) (λ m. leads_stmts a (n + size s) m rest) (form_out s g a l n h w.0 p d.0) d.1
      (λ m q r. stmts_out rest g a l (n + size s) m w.2 q r)

  pub arms_out : (arms : Arms) (g : Tok → Bool) (a : Notes) (l : Option ℕ) (n : ℕ) (h k : HeldMap) → IsScopedArms g arms → IsAbsentOut g h → IsLocalArms a l n h arms k → passes_arms arms ≡ true → IsAbsentOut g k
  arms_out no_arms g a l n h k w p d e = true_false false e refl
  arms_out (arm rs s rest) g a l n h k w p d e = ⊎_elim
      (way_out g (passes_block s) _ k (leads_block_some s a n (map_after rs h)) (block_out s g a l n (map_after rs h) w.1 (rows_out (within g s) rs h w.0 (out_within s g h p)) d.1) d.2)
      (arms_out rest g a l (n + size_block s) h k w.2 p d.3)
      (or_cases (passes_block s) (passes_arms rest) e)

-- ---- derivations

-- what meets the annotation lies below the break map or the continue map
pub record IsTarget (a : Notes) (l : Option ℕ) (b c : HeldMap) : Type 0 where
  pub each : (continues : Bool) (h : HeldMap) → Meets a l continues h → IsBelow h (toward continues b c)

lies_way : (b : Bool) (o : Option HeldMap) (m k : HeldMap) → MatchBool b (IsSome o) (o ≡ None) → When o (λ x. IsBelow x m) → (b ≡ true → IsBelow m k) → Lies o (Some k)
lies_way b None m k p w f = tt
lies_way true (Some x) m k p w f = map_trans x m k w (f refl)
lies_way false (Some x) m k p w f = absurd (never x p)
  where
    never : (x : HeldMap) → (let o : Option HeldMap = Some x in o ≡ None) → ⊥
    never x e = cc

only_left : (p q : Bool) (m k : HeldMap) → Lies (only_if (p || q) m) (Some k) → p ≡ true → IsBelow m k
only_left true q m k l e = l
only_left false q m k l e = true_false false e refl

only_right : (p q : Bool) (m k : HeldMap) → Lies (only_if (p || q) m) (Some k) → q ≡ true → IsBelow m k
only_right true q m k l e = l
only_right false true m k l e = l
only_right false false m k l e = true_false false e refl

only_below : (p : Bool) (m k : HeldMap) → Lies (only_if p m) (Some k) → p ≡ true → IsBelow m k
only_below true m k l e = l
only_below false m k l e = true_false false e refl

when_lies : (o : Option HeldMap) (k : HeldMap) → When o (λ m. IsBelow m k) → Lies o (Some k)
when_lies None k w = tt
when_lies (Some m) k w = w

-- the end of a focus, which something comes to
focus_end : (A : HeldMap → Type 0) (D : HeldMap → Type 0) (es : List Row) (k : HeldMap) (b : Bool) (o : Option HeldMap) → MatchBool b (IsSome o) (o ≡ None) → b ≡ true → When o A → When o (CanPass es) → Lies (rows_passed es o) (Some k) → ((m : HeldMap) → A m → Lies o (Some m) → D m) → (m : HeldMap) × D m × CanPass es m × IsBelow (map_after es m) k
focus_end A D es k true None p e a c l go = absurd (no_some p)
  where
    no_some : IsSome {T = HeldMap} None → ⊥
    no_some p = search rules
focus_end A D es k true (Some m) p e a c l go = (m, go m a (map_refl m), c, l)
focus_end A D es k false o p e a c l go = true_false false e refl

-- the end of a block: the list's map, or the map after the block where the list ends
block_end : (A : HeldMap → Type 0) (D : HeldMap → Type 0) (bound : List Tok) (k : HeldMap) (o : Option HeldMap) → When o A → A k → When o (CanPass (map away_row bound)) → Lies (rows_passed (map away_row bound) o) (Some k) → CanPass (map away_row bound) k × IsBelow (map_after (map away_row bound) k) k → ((m : HeldMap) → A m → Lies o (Some m) → D m) → (m : HeldMap) × D m × CanPass (map away_row bound) m × IsBelow (map_after (map away_row bound) m) k
block_end A D bound k None a ak c l e go = (k, go k ak tt, e.0, e.1)
block_end A D bound k (Some m) a ak c l e go = (m, go m a (map_refl m), c, l)

list_next : (A : HeldMap → Type 0) (D R L : HeldMap → Type 0) (f : HeldMap → Option HeldMap) (k : HeldMap) (o : Option HeldMap) → When o A → A k → When o L → Lies (Then o f) (Some k) → ((m : HeldMap) → A m → Lies o (Some m) → D m) → ((m : HeldMap) → A m → L m → Lies (f m) (Some k) → R m) → (o ≡ None → R k) → (m : HeldMap) × D m × R m
list_next A D R L f k None a ak w l go rest end = (k, go k ak tt, end refl)
list_next A D R L f k (Some m) a ak w l go rest end = (m, go m a (map_refl m), rest m a w l)

none_passes : (b : Bool) (o : Option HeldMap) → MatchBool b (IsSome o) (o ≡ None) → o ≡ None → b ≡ false
none_passes true o p e = absurd (no_some (subst IsSome e p))
  where
    no_some : IsSome {T = HeldMap} None → ⊥
    no_some p = search rules
none_passes false o p e = refl

or_true : (b : Bool) → (b || true) ≡ true
or_true true = refl
or_true false = refl

loop_target : (a : Notes) (n : ℕ) (k : HeldMap) → IsBelow (a.following n) k → IsTarget a (Some n) k (a.around n)
loop_target a n k below = record { each = one }
  where
    one : (c : Bool) (h : HeldMap) → Meets a (Some n) c h → IsBelow h (toward c k (a.around n))
    one true h p = p
    one false h p = map_trans h (a.following n) k p below

mutual
  pub form_derives : (s : Flow) (g : Tok → Bool) (a : Notes) (l : Option ℕ) (n : ℕ) (b c h k : HeldMap) → IsScoped g s → IsAbsentOut g h → IsAbsentOut g k → IsTarget a l b c → IsLocal a l n h s → Lies (leads a n h s) (Some k) → Derives b c h s k
  form_derives (step rs) g a l n b c h k w p q t d lies = (d, lies)
  form_derives (return rs) g a l n b c h k w p q t d lies = d
  form_derives (jump continues left) g a l n b c h k w p q t d lies = (d.0, t.each continues _ d.1)
  form_derives (scope s) g a l n b c h k w p q t d lies = block_derives s g a l (n + 1) b c h k w (out_within s g h p) q t d lies
  form_derives (focus rs s es) g a l n b c h k w p q t d lies =
      let f = with_bound g (w.0 ∷ []) in
      let r = out_within s f (map_after rs h) (rows_out f rs h w.1 (out_wider g (w.0 ∷ []) h p)) in (
        d.0,
        focus_end (IsAbsentOut f) (DerivesBlock b c (map_after rs h) s) es k (passes_block s) _ (leads_block_some s a (n + 1) (map_after rs h)) w.3 (block_out s f a l (n + 1) (map_after rs h) w.2 r d.1) d.2 lies
            (λ m x y. block_derives s f a l (n + 1) b c (map_after rs h) m w.2 r x t d.1 y),
      )
  form_derives (choose rs u v) g a l n b c h k w p q t d lies =
      let r = rows_out g rs h w.0 p in (
        d.0,
        block_derives u g a l (n + 1) b c (map_after rs h) k w.1 (out_within u g (map_after rs h) r) q t d.1 (lies_way (passes_block u) _ (a.following n) k (leads_block_some u a (n + 1) (map_after rs h)) d.3 (only_left (passes_block u) (passes_block v) (a.following n) k lies)),
        block_derives v g a l (n + 1 + size_block u) b c (map_after rs h) k w.2 (out_within v g (map_after rs h) r) q t d.2 (lies_way (passes_block v) _ (a.following n) k (leads_block_some v a (n + 1 + size_block u) (map_after rs h)) d.4 (only_right (passes_block u) (passes_block v) (a.following n) k lies)),
      )
  form_derives (loop rs s) g a l n b c h k w p q t d lies =
      let i = a.around n in
      let r = out_below g h i d.0 p in (
        i,
        d.0,
        d.1,
        map_trans (map_after rs i) (a.following n) k d.2 lies,
        block_derives s g a (Some n) (n + 1) k i (map_after rs i) i w.1 (out_within s g (map_after rs i) (rows_out g rs i w.0 r)) r (loop_target a n k lies) d.3 (when_lies _ i d.4),
      )
  form_derives (switch rs arms end) g a l n b c h k w p q t d lies =
      (d.0, arms_derives arms g a l (n + 1) b c (map_after rs h) (a.following n) k w.1 (rows_out g rs h w.0 p) q t d.1 (only_below (passes_arms arms) (a.following n) k lies))

  pub block_derives : (s : Block) (g : Tok → Bool) (a : Notes) (l : Option ℕ) (n : ℕ) (b c h k : HeldMap) → IsScopedBlock g s → IsAbsentOut (within g s) h → IsAbsentOut g k → IsTarget a l b c → IsLocalBlock a l n h s → Lies (leads_block a n h s) (Some k) → DerivesBlock b c h s k
  block_derives (block ss bound end) g a l n b c h k w p q t d lies =
      block_end (IsAbsentOut (with_bound g bound)) (DerivesStmts b c h ss) bound k (leads_stmts a n h ss) (stmts_out ss (with_bound g bound) a l n h w.1 p d.0) (out_wider g bound k q) d.1 lies (gone_can bound k (λ u e. q.each u (w.0 u e)))
      (λ m x y. stmts_derives ss (with_bound g bound) a l n b c h m w.1 p x t d.0 y)

  pub stmts_derives : (ss : Stmts) (g : Tok → Bool) (a : Notes) (l : Option ℕ) (n : ℕ) (b c h k : HeldMap) → IsScopedStmts g ss → IsAbsentOut g h → IsAbsentOut g k → IsTarget a l b c → IsLocalStmts a l n h ss → Lies (leads_stmts a n h ss) (Some k) → DerivesStmts b c h ss k
  stmts_derives done g a l n b c h k w p q t d lies = lies
  stmts_derives (next at s rest) g a l n b c h k w p q t d lies =
      list_next (IsAbsentOut g) (Derives b c h s) (λ m. DerivesStmts b c m rest k) (λ m. IsLocalStmts a l (n + size s) m rest) (λ m. leads_stmts a (n + size s) m rest) k (leads a n h s) (form_out s g a l n h w.0 p d.0) q d.1 lies
      (λ m x y. form_derives s g a l n b c h m w.0 p x t d.0 y)
      (λ m x y z. stmts_derives rest g a l (n + size s) b c m k w.2 x q t y z)
      (λ e. subst (λ r. DerivesStmts b c k r k) (sym (w.1 (none_passes (passes s) _ (leads_some s a n h) e))) (map_refl k))

  pub arms_derives : (arms : Arms) (g : Tok → Bool) (a : Notes) (l : Option ℕ) (n : ℕ) (b c h m k : HeldMap) → IsScopedArms g arms → IsAbsentOut g h → IsAbsentOut g k → IsTarget a l b c → IsLocalArms a l n h arms m → (passes_arms arms ≡ true → IsBelow m k) → DerivesArms b c h arms k
  arms_derives no_arms g a l n b c h m k w p q t d below = tt
  arms_derives (arm rs s rest) g a l n b c h m k w p q t d below = (
    d.0,
    block_derives s g a l n b c (map_after rs h) k w.1 (rows_out (within g s) rs h w.0 (out_within s g h p)) q t d.1 (lies_way (passes_block s) _ m k (leads_block_some s a n (map_after rs h)) d.2 (λ e. below (ap (λ x. x || passes_arms rest) e))),
    arms_derives rest g a l (n + size_block s) b c h m k w.2 p q t d.3 (λ e. below (ap (λ x. passes_block s || x) e ∙ or_true (passes_block s))),
  )

-- a whole body
pub accepted : (s : Block) (g : Tok → Bool) (h : HeldMap) → IsScopedBlock g s → IsAbsentOut g h → SomeLocal s h → IsDerived s h
accepted s g h w p d = by_lead (leads_block d.0 0 h s) refl
  where
    target : IsTarget d.0 None h h
    target = record { each = λ c m x. absurd x }

    by_lead : (o : Option HeldMap) → leads_block d.0 0 h s ≡ o → IsDerived s h
    by_lead None e = (h, h, (h, block_derives s g d.0 None 0 h h h h w (out_within s g h p) p target d.1 (subst (λ o. Lies o (Some h)) (sym e) tt)))
    by_lead (Some k) e = (h, h, (k, block_derives s g d.0 None 0 h h h k w (out_within s g h p) (subst (λ o. When o (IsAbsentOut g)) e (block_out s g d.0 None 0 h w (out_within s g h p) d.1)) target d.1 (subst (λ o. Lies o (Some k)) (sym e) (map_refl k))))

pub annotated : (s : Block) (h : HeldMap) → IsJumpingBlock false s → IsDerived s h → SomeLocal s h
annotated s h j d =
    let made = block_made s false d.0 d.1 h d.2.0 None 0 (record { around = λ i. h; following = λ i. h }) j (λ x. absurd (never x)) (λ i x y. tt) d.2.1 in
    (made.notes, made.holds)
  where
    never : IsTrue false → ⊥
    never x = search rules
