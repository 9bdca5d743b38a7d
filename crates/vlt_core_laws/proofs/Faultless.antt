-- Where nothing is faulty, the notes that show what is found are local.
use Rattle.std.proofs.Common.{◌≡◌, ◌+◌, ◌||◌, ◌&&◌, ℕ, zero, Bool, true, false, IsTrue, List, [], ◌∷◌, map, Option, Some, None, refl, sym, ap, ◌∙◌, subst, cond, ◌⊎◌, inl, inr, ⊎_elim, rules}
use Rattle.vlt_core.specs.Core.{Tok, a_key, a_var}
use Rattle.vlt_core.specs.Maps.{Wanted, wants_absent, wants_held, wants_in, wants_lent, wants_full, After, becomes_absent, becomes_held, stays, becomes_full, becomes_lent, comes_back, Row, Status, absent, held, lent, full, HeldMap, kind_of, states_of, IsWanted, status_after, is_tok, row_passed, CanPass, map_after, IsStatusBelow, IsBelow, away_row}
use Rattle.vlt_core.specs.Flow.{Flow, step, choose, loop, switch, scope, focus, return, jump, Block, block, Stmts, done, next, Arms, no_arms, arm, size, size_block, passes, passes_block, passes_stmts, passes_arms}
use Rattle.vlt_core.specs.Local.{Notes, Then, When, Meets, only_if, rows_passed, leads, leads_block, leads_stmts, IsLocal, IsLocalBlock, IsLocalStmts, IsLocalArms}
use Rattle.vlt_core.specs.Found.{One, one_absent, one_held, one_lent, one_full, Ones, Has, WantsOne, LeftBy, image_if, image, images, Exit, to_next, to_break, to_continue, jumps, out, out_block, out_stmts, out_arms, head_of}
use Rattle.vlt_core_laws.specs.Faulted.{IsRowFault, HasRowFault, HasFault, HasFaultBlock, HasFaultStmts, HasFaultArms}
use Rattle.vlt_core_laws.specs.Scoped.{IsJumping, IsJumpingBlock, IsJumpingStmts, IsJumpingArms}
use Rattle.vlt_core_laws.specs.Shown.{one_kind, Every, AreJust, Shows, ShowsBlock, ShowsStmts, ShowsArms, IsFilled, AreFilled, HasFilled, HasFilledBlock, HasFilledStmts, HasFilledArms}
use Rattle.vlt_core_laws.proofs.Smooth.{heads_closed}
use Rattle.vlt_core_laws.proofs.Sweeping.{smooth_round}
use Rattle.vlt_core_laws.proofs.Founds.{kind_held, kind_lent, kind_absent, kind_full, image_in, mixed_none, same_is}

wants_or : (w : Wanted) (o : One) → WantsOne w o ⊎ (WantsOne w o → ⊥)
wants_or wants_absent one_absent = inl tt
wants_or wants_absent (one_held i) = inr (λ x. x)
wants_or wants_absent (one_lent i) = inr (λ x. x)
wants_or wants_absent one_full = inr (λ x. x)
wants_or wants_held one_absent = inr (λ x. x)
wants_or wants_held (one_held i) = inl tt
wants_or wants_held (one_lent i) = inr (λ x. x)
wants_or wants_held one_full = inr (λ x. x)
wants_or (wants_in w) one_absent = inr (λ x. x)
wants_or (wants_in w) (one_held i) = true_or (w i)
  where
    true_or : (b : Bool) → IsTrue b ⊎ (IsTrue b → ⊥)
    true_or true = inl (search rules)
    true_or false = inr (λ x. search rules)
wants_or (wants_in w) (one_lent i) = inr (λ x. x)
wants_or (wants_in w) one_full = inr (λ x. x)
wants_or wants_lent one_absent = inr (λ x. x)
wants_or wants_lent (one_held i) = inr (λ x. x)
wants_or wants_lent (one_lent i) = inl tt
wants_or wants_lent one_full = inr (λ x. x)
wants_or wants_full one_absent = inr (λ x. x)
wants_or wants_full (one_held i) = inr (λ x. x)
wants_or wants_full (one_lent i) = inr (λ x. x)
wants_or wants_full one_full = inl tt

-- all that a status stands for is wanted, and there is some: so the status is
all_wanted : (w : Wanted) (u : Status) (o : One) → Has u o → ((o : One) → Has u o → WantsOne w o) → IsWanted w u
all_wanted wants_absent absent o h f = refl
all_wanted wants_absent (held s) o h f = absurd (subst (WantsOne wants_absent) (kind_held (held s) refl o h).1 (f o h))
all_wanted wants_absent (lent s) o h f = absurd (subst (WantsOne wants_absent) (kind_lent (lent s) refl o h).1 (f o h))
all_wanted wants_absent full o h f = absurd (subst (WantsOne wants_absent) (kind_full full refl o h) (f o h))
all_wanted wants_held absent o h f = absurd (subst (WantsOne wants_held) (kind_absent absent refl o h) (f o h))
all_wanted wants_held (held s) o h f = refl
all_wanted wants_held (lent s) o h f = absurd (subst (WantsOne wants_held) (kind_lent (lent s) refl o h).1 (f o h))
all_wanted wants_held full o h f = absurd (subst (WantsOne wants_held) (kind_full full refl o h) (f o h))
all_wanted (wants_in w) absent o h f = absurd (subst (WantsOne (wants_in w)) (kind_absent absent refl o h) (f o h))
all_wanted (wants_in w) (held s) o h f = (refl, record { each = λ i x. f (one_held i) x })
all_wanted (wants_in w) (lent s) o h f = absurd (subst (WantsOne (wants_in w)) (kind_lent (lent s) refl o h).1 (f o h))
all_wanted (wants_in w) full o h f = absurd (subst (WantsOne (wants_in w)) (kind_full full refl o h) (f o h))
all_wanted wants_lent absent o h f = absurd (subst (WantsOne wants_lent) (kind_absent absent refl o h) (f o h))
all_wanted wants_lent (held s) o h f = absurd (subst (WantsOne wants_lent) (kind_held (held s) refl o h).1 (f o h))
all_wanted wants_lent (lent s) o h f = refl
all_wanted wants_lent full o h f = absurd (subst (WantsOne wants_lent) (kind_full full refl o h) (f o h))
all_wanted wants_full absent o h f = absurd (subst (WantsOne wants_full) (kind_absent absent refl o h) (f o h))
all_wanted wants_full (held s) o h f = absurd (subst (WantsOne wants_full) (kind_held (held s) refl o h).1 (f o h))
all_wanted wants_full (lent s) o h f = absurd (subst (WantsOne wants_full) (kind_lent (lent s) refl o h).1 (f o h))
all_wanted wants_full full o h f = refl

-- each thing that the changed status stands for is left of one that the status stood for
left_back : (a : After) (u : Status) (o : One) → Has (status_after a u) o → ((x : One) × Has u x) → (x : One) × Has u x × LeftBy a x o
left_back becomes_absent u o h some = (some.0, some.1, kind_absent absent refl o h)
left_back (becomes_held s) u o h some = let k = kind_held (held s) refl o h in (some.0, some.1, (k.0, k.2, k.1))
left_back stays u o h some = (o, h, refl)
left_back becomes_full u o h some = (some.0, some.1, kind_full full refl o h)
left_back becomes_lent absent o h some = (one_absent, tt, kind_absent absent refl o h)
left_back becomes_lent (held s) o h some = let k = kind_lent (lent s) refl o h in (one_held k.0, subst (Has (lent s)) k.1 h, k.1)
left_back becomes_lent (lent s) o h some = let k = kind_lent (lent s) refl o h in (one_lent k.0, subst (Has (lent s)) k.1 h, k.1)
left_back becomes_lent full o h some = (one_full, tt, kind_full full refl o h)
left_back comes_back absent o h some = (one_absent, tt, kind_absent absent refl o h)
left_back comes_back (held s) o h some = let k = kind_held (held s) refl o h in (one_held k.0, k.2, k.1)
left_back comes_back (lent s) o h some = let k = kind_held (held s) refl o h in (one_lent k.0, k.2, k.1)
left_back comes_back full o h some = (one_full, tt, kind_full full refl o h)

left_some : (a : After) (o : One) → IsFilled a → (o' : One) × LeftBy a o o'
left_some becomes_absent o f = (one_absent, refl)
left_some (becomes_held s) o f = (one_held f.0, (f.0, f.1, refl))
left_some stays o f = (o, refl)
left_some becomes_full o f = (one_full, refl)
left_some becomes_lent one_absent f = (one_absent, refl)
left_some becomes_lent (one_held i) f = (one_lent i, refl)
left_some becomes_lent (one_lent i) f = (one_lent i, refl)
left_some becomes_lent one_full f = (one_full, refl)
left_some comes_back one_absent f = (one_absent, refl)
left_some comes_back (one_held i) f = (one_held i, refl)
left_some comes_back (one_lent i) f = (one_held i, refl)
left_some comes_back one_full f = (one_full, refl)

-- the status stands for just these, and there is one
pub record IsFull (u : Status) (S : Ones) : Type 0 where
  pub there : (o : One) → S o → Has u o
  pub back : (o : One) → Has u o → S o
  pub some : (o : One) × S o

abbrev pub AreFull : HeldMap → Every → Type 0
AreFull h S = (t : Tok) → IsFull (h t) (S t)

same_self : (t : Tok) → is_tok t t ≡ true
same_self (a_key i) = search rules
same_self (a_var i) = search rules

all_of : (w : Wanted) (after : After) (tok : Tok) (u : Status) (S : Ones) → IsFull u S → (IsRowFault true (record { tok = tok; wanted = w; after = after }) S → ⊥) → (o : One) → Has u o → WantsOne w o
all_of w after tok u S e never o h = ⊎_elim (λ x. x) (λ x. absurd (never ((o, e.back o h, x), mixed_none S u (record { each = e.there })))) (wants_or w o)

row_full : (t : Tok) (r : Row) (S : Every) (h : HeldMap) → IsFilled r.after → AreFull h S → ((o : One) → Has (h r.tok) o → WantsOne r.wanted o) → IsFull (row_passed r h t) (image t r (S t))
row_full t r S h fill e wants = record {
  there = (image_in t r (S t) h (record { each = (e t).there })).each;
  back = at_back (is_tok t r.tok) refl;
  some = at_some (is_tok t r.tok) refl;
}
  where
    at_back : (b : Bool) → is_tok t r.tok ≡ b → (o : One) → Has (cond b (status_after r.after (h r.tok)) (h t)) o → image_if b r (S t) o
    at_back true q o x =
        let same = same_is t r.tok q in
        let y = left_back r.after (h r.tok) o x (let z = (e r.tok).some in (z.0, (e r.tok).there z.0 z.1)) in
        (y.0, subst (λ k. S k y.0) (sym same) ((e r.tok).back y.0 y.1), wants y.0 y.1, y.2)
    at_back false q o x = (e t).back o x

    at_some : (b : Bool) → is_tok t r.tok ≡ b → (o : One) × image_if b r (S t) o
    at_some true q =
        let same = same_is t r.tok q in
        let z = (e t).some in
        let y = left_some r.after z.0 fill in
        (y.0, (z.0, z.1, wants z.0 (subst (λ k. Has (h k) z.0) same ((e t).there z.0 z.1)), y.1))
    at_some false q = (e t).some

pub rows_full : (rs : List Row) (S : Every) (h : HeldMap) → AreFilled rs → AreFull h S → ((t : Tok) → HasRowFault t rs (S t) → ⊥) → CanPass rs h × AreFull (map_after rs h) (λ t. images t rs (S t))
rows_full [] S h fill e never = (tt, λ t. record { there = (e t).there; back = (e t).back; some = (e t).some })
rows_full (r ∷ rs) S h fill e never =
    let own = λ (x : IsRowFault true r (S r.tok)). never r.tok (inl (subst (λ b. IsRowFault b r (S r.tok)) (sym (same_self r.tok)) x)) in
    let wants = all_of r.wanted r.after r.tok (h r.tok) (S r.tok) (e r.tok) own in
    let z = (e r.tok).some in
    let next = λ (t : Tok). row_full t r S h fill.0 e wants in
    let rest = rows_full rs (λ t. image t r (S t)) (row_passed r h) fill.2 next (λ t x. never t (inr x)) in
    ((all_wanted r.wanted (h r.tok) z.0 ((e r.tok).there z.0 z.1) wants, rest.0), λ t. record { there = (rest.1 t).there; back = (rest.1 t).back; some = (rest.1 t).some })

-- ---- below

has_kind : (u : Status) (o : One) → Has u o → kind_of u ≡ one_kind o
has_kind absent o h = ap one_kind (sym (kind_absent absent refl o h))
has_kind (held s) o h = ap one_kind (sym (kind_held (held s) refl o h).1)
has_kind (lent s) o h = ap one_kind (sym (kind_lent (lent s) refl o h).1)
has_kind full o h = ap one_kind (sym (kind_full full refl o h))

held_state : (v : Status) (i : ℕ) → Has v (one_held i) → IsTrue (states_of v i)
held_state absent i h = absurd h
held_state (held s) i h = h
held_state (lent s) i h = absurd h
held_state full i h = absurd h

lent_state : (v : Status) (i : ℕ) → Has v (one_lent i) → IsTrue (states_of v i)
lent_state absent i h = absurd h
lent_state (held s) i h = absurd h
lent_state (lent s) i h = h
lent_state full i h = absurd h

within_all : (u v : Status) → ((o : One) → Has u o → Has v o) → (i : ℕ) → IsTrue (states_of u i) → IsTrue (states_of v i)
within_all absent v f i x = absurd (never x)
  where
    never : IsTrue false → ⊥
    never x = search rules
within_all (held s) v f i x = held_state v i (f (one_held i) x)
within_all (lent s) v f i x = lent_state v i (f (one_lent i) x)
within_all full v f i x = absurd (never x)
  where
    never : IsTrue false → ⊥
    never x = search rules

full_below : (u v : Status) (S : Ones) → IsFull u S → ((o : One) → S o → Has v o) → IsStatusBelow u v
full_below u v S e f =
    let z = e.some in
    record { kind = has_kind u z.0 (e.there z.0 z.1) ∙ sym (has_kind v z.0 (f z.0 z.1)); within = record { each = within_all u v (λ o h. f o (e.back o h)) } }

pub map_below : (h k : HeldMap) (S : Every) → AreFull h S → ((t : Tok) (o : One) → S t o → Has (k t) o) → IsBelow h k
map_below h k S e f = record { each = λ t. full_below (h t) (k t) (S t) (e t) (f t) }

-- ---- what a part leads to

abbrev pub Gives : Bool → Option HeldMap → Every → Type 0
Gives b None T = b ≡ false
Gives b (Some m) T = (b ≡ true) × AreFull m T

or_left : (b c : Bool) → b ≡ true → (b || c) ≡ true
or_left b c e = subst (λ b. (b || c) ≡ true) (sym e) refl

or_right : (b c : Bool) → c ≡ true → (b || c) ≡ true
or_right true c e = refl
or_right false c e = e

not_both : (b : Bool) → b ≡ false → b ≡ true → ⊥
not_both b p q = never (sym p ∙ q)
  where
    never : false ≡ true → ⊥
    never e = cc

below_if : (b : Bool) (x : Option HeldMap) (k : HeldMap) (T V : Every) → Gives b x T → (b ≡ true → AreJust k V) → ((t : Tok) (o : One) → T t o → V t o) → When x (λ m. IsBelow m k)
below_if b None k T V g j f = tt
below_if b (Some m) k T V g j f = map_below m k T g.1 (λ t o z. (j g.0 t).there o (f t o z))

some_if : (b : Bool) (x : Option HeldMap) (T V : Every) → Gives b x T → ((t : Tok) (o : One) → T t o → V t o) → b ≡ true → (t : Tok) → (o : One) × V t o
some_if b None T V g f e t = absurd (not_both b g e)
some_if b (Some m) T V g f e t = let z = (g.1 t).some in (z.0, f t z.0 z.1)

either_gives : (b c : Bool) (k : HeldMap) (V : Every) → (b ≡ true → (t : Tok) → (o : One) × V t o) → (c ≡ true → (t : Tok) → (o : One) × V t o) → ((b || c) ≡ true → AreJust k V) → Gives (b || c) (only_if (b || c) k) V
either_gives true c k V f g j = (refl, λ t. record { there = (j refl t).there; back = (j refl t).back; some = f refl t })
either_gives false true k V f g j = (refl, λ t. record { there = (j refl t).there; back = (j refl t).back; some = g refl t })
either_gives false false k V f g j = refl

one_gives : (c : Bool) (k : HeldMap) (V : Every) → (c ≡ true → (t : Tok) → (o : One) × V t o) → (c ≡ true → AreJust k V) → Gives c (only_if c k) V
one_gives true k V g j = (refl, λ t. record { there = (j refl t).there; back = (j refl t).back; some = g refl t })
one_gives false k V g j = refl

rows_gives : (es : List Row) (b : Bool) (x : Option HeldMap) (T : Every) → AreFilled es → Gives b x T → ((t : Tok) → HasRowFault t es (T t) → ⊥) → When x (CanPass es) × Gives b (rows_passed es x) (λ t. images t es (T t))
rows_gives es b None T fill g never = (tt, g)
rows_gives es b (Some m) T fill g never = let r = rows_full es T m fill g.1 never in (r.0, (g.0, r.1))

then_gives : (b c : Bool) (x : Option HeldMap) (P : HeldMap → Type 0) (go : HeldMap → Option HeldMap) (T V : Every) → Gives b x T → ((m : HeldMap) → b ≡ true → AreFull m T → P m × Gives c (go m) V) → When x P × Gives (b && c) (Then x go) V
then_gives b c None P go T V g f = (tt, subst (λ b. (b && c) ≡ false) (sym g) refl)
then_gives b c (Some m) P go T V g f = let r = f m g.0 g.1 in (r.0, subst (λ b. Gives (b && c) (go m) V) (sym g.0) r.1)

gives_same : (b : Bool) (x : Option HeldMap) (T V : Every) → Gives b x T → ((t : Tok) (o : One) → T t o → V t o) → ((t : Tok) (o : One) → V t o → T t o) → Gives b x V
gives_same b None T V g f e = g
gives_same b (Some m) T V g f e = (g.0, λ t. record { there = λ o z. (g.1 t).there o (e t o z); back = λ o z. f t o ((g.1 t).back o z); some = let z = (g.1 t).some in (z.0, f t z.0 z.1) })

or_elim : (b c : Bool) (A : Type 0) → (b ≡ true → A) → (c ≡ true → A) → (b || c) ≡ true → A
or_elim true c A f g e = f refl
or_elim false c A f g e = g e

pub gone_filled : (ts : List Tok) → AreFilled (map away_row ts)
gone_filled [] = tt
gone_filled (t ∷ ts) = (tt, tt, gone_filled ts)

abbrev pub inside : Option ℕ → Bool
inside None = false
inside (Some l) = true

abbrev pub Lies : Notes → Option ℕ → Bool → Tok → Ones
Lies a None c t o = Unit {0}
Lies a (Some l) true t o = Has (a.around l t) o
Lies a (Some l) false t o = Has (a.following l t) o

-- what comes out by a jump lies in the maps of the loop round it
pub record Keeps (a : Notes) (l : Option ℕ) (outs : Tok → Exit → Ones) : Type 0 where
  pub breaks : (t : Tok) (o : One) → outs t to_break o → Lies a l false t o
  pub continues : (t : Tok) (o : One) → outs t to_continue o → Lies a l true t o

jump_meets : (c : Bool) (a : Notes) (l : Option ℕ) (h : HeldMap) (T : Every) → IsTrue (inside l) → AreFull h T → Keeps a l (λ t x. jumps c x (T t)) → Meets a l c h
jump_meets c a None h T j e k = never j
  where
    never : IsTrue false → ⊥
    never x = search rules
jump_meets true a (Some l) h T j e k = map_below h (a.around l) T e (λ t o z. k.continues t o z)
jump_meets false a (Some l) h T j e k = map_below h (a.following l) T e (λ t o z. k.breaks t o z)

mutual
  pub faultless : (s : Flow) (a : Notes) (l : Option ℕ) (n : ℕ) (h : HeldMap) (S : Every) → IsJumping (inside l) s → HasFilled s → Shows a n S s → AreFull h S → Keeps a l (λ t. out t s (S t)) → ((t : Tok) → HasFault t s (S t) → ⊥) → IsLocal a l n h s × Gives (passes s) (leads a n h s) (λ t. out t s (S t) to_next)
  faultless (step rs) a l n h S j fill w e k never = let r = rows_full rs S h fill e never in (r.0, (refl, λ t. record { there = (r.1 t).there; back = (r.1 t).back; some = (r.1 t).some }))
  faultless (choose rs u v) a l n h S j fill w e k never =
      let r = rows_full rs S h fill.0 e (λ t x. never t (inl x)) in
      let p = faultless_block u a l (n + 1) (map_after rs h) (λ t. images t rs (S t)) j.0 fill.1 w.1 r.1 (record { breaks = λ t o z. k.breaks t o (inl z); continues = λ t o z. k.continues t o (inl z) }) (λ t x. never t (inr (inl x))) in
      let q = faultless_block v a l (n + 1 + size_block u) (map_after rs h) (λ t. images t rs (S t)) j.1 fill.2 w.2 r.1 (record { breaks = λ t o z. k.breaks t o (inr z); continues = λ t o z. k.continues t o (inr z) }) (λ t x. never t (inr (inr (inl x)))) in
      let V = λ (t : Tok). out t (choose rs u v) (S t) to_next in (
        (
          r.0,
          p.0,
          q.0,
          below_if (passes_block u) _ (a.following n) (λ t. out_block t u (images t rs (S t)) to_next) (λ t. out t (choose rs u v) (S t) to_next) p.1 (λ x. w.0 (or_left (passes_block u) (passes_block v) x)) (λ t o z. inl z),
          below_if (passes_block v) _ (a.following n) (λ t. out_block t v (images t rs (S t)) to_next) (λ t. out t (choose rs u v) (S t) to_next) q.1 (λ x. w.0 (or_right (passes_block u) (passes_block v) x)) (λ t o z. inr z),
        ),
        either_gives (passes_block u) (passes_block v) (a.following n) (λ t. out t (choose rs u v) (S t) to_next)
            (some_if (passes_block u) _ (λ t. out_block t u (images t rs (S t)) to_next) (λ t. out t (choose rs u v) (S t) to_next) p.1 (λ t o z. inl z))
            (some_if (passes_block v) _ (λ t. out_block t v (images t rs (S t)) to_next) (λ t. out t (choose rs u v) (S t) to_next) q.1 (λ t o z. inr z))
            w.0,
      )
  faultless (loop rs s) a l n h S j fill w e k never =
      let H = λ (t : Tok). head_of t rs s (S t) in
      let head : AreFull (a.around n) (λ t. head_of t rs s (S t)) = λ t. record { there = (w.0 t).there; back = (w.0 t).back; some = let z = (e t).some in (z.0, (zero, z.1)) } in
      let r = rows_full rs (λ t. head_of t rs s (S t)) (a.around n) fill.0 head (λ t x. never t (inr (inl x))) in
      let closed = λ (t : Tok). heads_closed _ (smooth_round t rs s) (S t) in
      let p = faultless_block s a (Some n) (n + 1) (map_after rs (a.around n)) (λ t. images t rs (head_of t rs s (S t))) j fill.1 w.2 r.1
      (record { breaks = λ t o z. (w.1 t).there o (inr z); continues = λ t o z. (w.0 t).there o (closed t o (inr z)) }) (λ t x. never t (inr (inr (inl x)))) in (
        (
          map_below h (a.around n) S e (λ t o z. (w.0 t).there o (zero, z)),
          r.0,
          map_below (map_after rs (a.around n)) (a.following n) (λ t. images t rs (head_of t rs s (S t))) r.1 (λ t o z. (w.1 t).there o (inl z)),
          p.0,
          below_if (passes_block s) _ (a.around n) (λ t. out_block t s (images t rs (head_of t rs s (S t))) to_next) (λ t. head_of t rs s (S t)) p.1 (λ x. w.0) (λ t o z. closed t o (inl z)),
        ),
        (refl, λ t. record { there = (w.1 t).there; back = (w.1 t).back; some = let z = (r.1 t).some in (z.0, inl z.1) }),
      )
  faultless (switch rs arms end) a l n h S j fill w e k never =
      let r = rows_full rs S h fill.0 e (λ t x. never t (inl x)) in
      let p = faultless_arms arms a l (n + 1) (map_after rs h) (λ t. images t rs (S t)) (a.following n) (λ t. out t (switch rs arms end) (S t) to_next) j fill.1 w.1 r.1 (record { breaks = k.breaks; continues = k.continues }) (λ t x. never t (inr (inl x))) w.0 (λ t o z. z) in
      ((r.0, p.0), one_gives (passes_arms arms) (a.following n) (λ t. out t (switch rs arms end) (S t) to_next) p.1 w.0)
  faultless (scope s) a l n h S j fill w e k never = let p = faultless_block s a l (n + 1) h S j fill w e (record { breaks = k.breaks; continues = k.continues }) never in (p.0, gives_same (passes_block s) _ _ _ p.1 (λ t o z. z) (λ t o z. z))
  faultless (focus rs s es) a l n h S j fill w e k never =
      let r = rows_full rs S h fill.0 e (λ t x. never t (inl x)) in
      let p = faultless_block s a l (n + 1) (map_after rs h) (λ t. images t rs (S t)) j fill.1 w r.1 (record { breaks = k.breaks; continues = k.continues }) (λ t x. never t (inr (inl x))) in
      let q = rows_gives es (passes_block s) _ (λ t. out_block t s (images t rs (S t)) to_next) fill.2 p.1 (λ t x. never t (inr (inr x))) in
      ((r.0, p.0, q.0), gives_same (passes_block s) _ _ _ q.1 (λ t o z. z) (λ t o z. z))
  faultless (return rs) a l n h S j fill w e k never = ((rows_full rs S h fill e never).0, refl)
  faultless (jump c left) a l n h S j fill w e k never =
      let r = rows_full (map away_row left) S h (gone_filled left) e never in
      ((r.0, jump_meets c a l (map_after (map away_row left) h) (λ t. images t (map away_row left) (S t)) j r.1 (record { breaks = k.breaks; continues = k.continues })), refl)

  pub faultless_block : (s : Block) (a : Notes) (l : Option ℕ) (n : ℕ) (h : HeldMap) (S : Every) → IsJumpingBlock (inside l) s → HasFilledBlock s → ShowsBlock a n S s → AreFull h S → Keeps a l (λ t. out_block t s (S t)) → ((t : Tok) → HasFaultBlock t s (S t) → ⊥) → IsLocalBlock a l n h s × Gives (passes_block s) (leads_block a n h s) (λ t. out_block t s (S t) to_next)
  faultless_block (block ss bound end) a l n h S j fill w e k never =
      let p = faultless_stmts ss a l n h S j fill w e (record { breaks = k.breaks; continues = k.continues }) (λ t x. never t (inl x)) in
      let q = rows_gives (map away_row bound) (passes_stmts ss) _ (λ t. out_stmts t ss (S t) to_next) (gone_filled bound) p.1 (λ t x. never t (inr x)) in
      ((p.0, q.0), gives_same (passes_stmts ss) _ _ _ q.1 (λ t o z. z) (λ t o z. z))

  faultless_stmts : (ss : Stmts) (a : Notes) (l : Option ℕ) (n : ℕ) (h : HeldMap) (S : Every) → IsJumpingStmts (inside l) ss → HasFilledStmts ss → ShowsStmts a n S ss → AreFull h S → Keeps a l (λ t. out_stmts t ss (S t)) → ((t : Tok) → HasFaultStmts t ss (S t) → ⊥) → IsLocalStmts a l n h ss × Gives (passes_stmts ss) (leads_stmts a n h ss) (λ t. out_stmts t ss (S t) to_next)
  faultless_stmts done a l n h S j fill w e k never = (tt, (refl, λ t. record { there = (e t).there; back = (e t).back; some = (e t).some }))
  faultless_stmts (next at s rest) a l n h S j fill w e k never =
      let p = faultless s a l n h S j.0 fill.0 w.0 e (record { breaks = λ t o z. k.breaks t o (inl z); continues = λ t o z. k.continues t o (inl z) }) (λ t x. never t (inl x)) in
      let q = then_gives (passes s) (passes_stmts rest) (leads a n h s) (λ m. IsLocalStmts a l (n + size s) m rest) (λ m. leads_stmts a (n + size s) m rest) (λ t. out t s (S t) to_next) (λ t. out_stmts t rest (out t s (S t) to_next) to_next) p.1
      (λ m x full. faultless_stmts rest a l (n + size s) m (λ t. out t s (S t) to_next) j.1 fill.1 (w.1 x) full (record { breaks = λ t o z. k.breaks t o (inr z); continues = λ t o z. k.continues t o (inr z) }) (λ t x. never t (inr x))) in
      ((p.0, q.0), gives_same (passes s && passes_stmts rest) _ _ _ q.1 (λ t o z. z) (λ t o z. z))

  faultless_arms : (arms : Arms) (a : Notes) (l : Option ℕ) (n : ℕ) (h : HeldMap) (S : Every) (b : HeldMap) (V : Every) → IsJumpingArms (inside l) arms → HasFilledArms arms → ShowsArms a n S arms → AreFull h S → Keeps a l (λ t. out_arms t arms (S t)) → ((t : Tok) → HasFaultArms t arms (S t) → ⊥) → (passes_arms arms ≡ true → AreJust b V) → ((t : Tok) (o : One) → out_arms t arms (S t) to_next o → V t o) → IsLocalArms a l n h arms b × (passes_arms arms ≡ true → (t : Tok) → (o : One) × V t o)
  faultless_arms no_arms a l n h S b V j fill w e k never g f = (tt, λ x. absurd (not_both false refl x))
  faultless_arms (arm rs s rest) a l n h S b V j fill w e k never g f =
      let r = rows_full rs S h fill.0 e (λ t x. never t (inl x)) in
      let p = faultless_block s a l n (map_after rs h) (λ t. images t rs (S t)) j.0 fill.1 w.0 r.1 (record { breaks = λ t o z. k.breaks t o (inl z); continues = λ t o z. k.continues t o (inl z) }) (λ t x. never t (inr (inl x))) in
      let q = faultless_arms rest a l (n + size_block s) h S b V j.1 fill.2 w.1 e (record { breaks = λ t o z. k.breaks t o (inr z); continues = λ t o z. k.continues t o (inr z) }) (λ t x. never t (inr (inr x))) (λ x. g (or_right (passes_block s) (passes_arms rest) x)) (λ t o z. f t o (inr z)) in (
        (r.0, p.0, below_if (passes_block s) _ b (λ t. out_block t s (images t rs (S t)) to_next) V p.1 (λ x. g (or_left (passes_block s) (passes_arms rest) x)) (λ t o z. f t o (inl z)), q.0),
        or_elim (passes_block s) (passes_arms rest) _ (some_if (passes_block s) _ (λ t. out_block t s (images t rs (S t)) to_next) V p.1 (λ t o z. f t o (inl z))) q.1,
      )
