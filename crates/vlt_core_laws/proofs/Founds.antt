-- Where an annotation is local, nothing is faulty: all that is found of a token lies in its maps.
use Rattle.std.proofs.Common.{◌≡◌, ◌+◌, ℕ, zero, suc, Bool, true, false, IsTrue, List, [], ◌∷◌, map, Option, Some, None, refl, sym, ap, subst, cond, nat_eq, ◌||◌, ⊎_elim, rules, MatchBool}
use Rattle.std.specs.Prelude.{IsSome}
use Rattle.vlt_core_laws.proofs.Changes.{leads_block_some}
use Rattle.vlt_core.specs.Core.{Tok, a_key, a_var}
use Rattle.vlt_core.specs.Maps.{Wanted, wants_absent, wants_held, wants_in, wants_lent, wants_full, After, becomes_absent, becomes_held, stays, becomes_full, becomes_lent, comes_back, Row, Status, absent, held, lent, full, HeldMap, is_absent, is_held, is_lent, is_full, kind_of, states_of, IsWanted, status_after, is_tok, row_passed, CanPass, map_after, IsStatusBelow, IsBelow, away_row}
use Rattle.vlt_core.specs.Flow.{Flow, step, choose, loop, switch, scope, focus, return, jump, Block, block, Stmts, done, next, Arms, no_arms, arm, size, size_block, passes_block, passes_arms}
use Rattle.vlt_core.specs.Local.{Notes, Then, When, Meets, only_if, rows_passed, leads, leads_block, leads_stmts, IsLocal, IsLocalBlock, IsLocalStmts, IsLocalArms}
use Rattle.vlt_core.specs.Found.{One, one_absent, one_held, one_lent, one_full, Ones, Has, WantsOne, LeftBy, image_if, image, images, both, turns, Exit, to_next, to_break, to_continue, jumps, out, out_block, out_stmts, out_arms, head_of}
use Rattle.vlt_core.specs.Faults.{IsPresent, IsMixed}
use Rattle.vlt_core_laws.specs.Faulted.{IsRowFault, HasRowFault, HasFault, HasFaultBlock, HasFaultStmts, HasFaultArms}

-- what is found is of the status
pub record IsIn (S : Ones) (u : Status) : Type 0 where
  pub each : (o : One) → S o → Has u o

pub kind_held : (u : Status) → kind_of u ≡ is_held → (o : One) → Has u o → (i : ℕ) × (o ≡ one_held i) × IsTrue (states_of u i)
kind_held absent e o h = absurd (never e)
  where
    never : is_absent ≡ is_held → ⊥
    never e = cc
kind_held (held s) e (one_held i) h = (i, refl, h)
kind_held (held s) e one_absent h = absurd h
kind_held (held s) e (one_lent i) h = absurd h
kind_held (held s) e one_full h = absurd h
kind_held (lent s) e o h = absurd (never e)
  where
    never : is_lent ≡ is_held → ⊥
    never e = cc
kind_held full e o h = absurd (never e)
  where
    never : is_full ≡ is_held → ⊥
    never e = cc

pub kind_lent : (u : Status) → kind_of u ≡ is_lent → (o : One) → Has u o → (i : ℕ) × (o ≡ one_lent i)
kind_lent absent e o h = absurd (never e)
  where
    never : is_absent ≡ is_lent → ⊥
    never e = cc
kind_lent (lent s) e (one_lent i) h = (i, refl)
kind_lent (lent s) e one_absent h = absurd h
kind_lent (lent s) e (one_held i) h = absurd h
kind_lent (lent s) e one_full h = absurd h
kind_lent (held s) e o h = absurd (never e)
  where
    never : is_held ≡ is_lent → ⊥
    never e = cc
kind_lent full e o h = absurd (never e)
  where
    never : is_full ≡ is_lent → ⊥
    never e = cc

pub kind_absent : (u : Status) → kind_of u ≡ is_absent → (o : One) → Has u o → o ≡ one_absent
kind_absent absent e one_absent h = refl
kind_absent absent e (one_held i) h = absurd h
kind_absent absent e (one_lent i) h = absurd h
kind_absent absent e one_full h = absurd h
kind_absent (held s) e o h = absurd (never e)
  where
    never : is_held ≡ is_absent → ⊥
    never e = cc
kind_absent (lent s) e o h = absurd (never e)
  where
    never : is_lent ≡ is_absent → ⊥
    never e = cc
kind_absent full e o h = absurd (never e)
  where
    never : is_full ≡ is_absent → ⊥
    never e = cc

pub kind_full : (u : Status) → kind_of u ≡ is_full → (o : One) → Has u o → o ≡ one_full
kind_full full e one_full h = refl
kind_full full e (one_held i) h = absurd h
kind_full full e (one_lent i) h = absurd h
kind_full full e one_absent h = absurd h
kind_full (held s) e o h = absurd (never e)
  where
    never : is_held ≡ is_full → ⊥
    never e = cc
kind_full (lent s) e o h = absurd (never e)
  where
    never : is_lent ≡ is_full → ⊥
    never e = cc
kind_full absent e o h = absurd (never e)
  where
    never : is_absent ≡ is_full → ⊥
    never e = cc

wants_one : (w : Wanted) (u : Status) (o : One) → IsWanted w u → Has u o → WantsOne w o
wants_one wants_absent u o p h = subst (WantsOne wants_absent) (sym (kind_absent u p o h)) tt
wants_one wants_held u o p h = subst (WantsOne wants_held) (sym (kind_held u p o h).1) tt
wants_one (wants_in w) u o p h = let k = kind_held u p.0 o h in subst (WantsOne (wants_in w)) (sym k.1) (p.1.each k.0 k.2)
wants_one wants_lent u o p h = subst (WantsOne wants_lent) (sym (kind_lent u p o h).1) tt
wants_one wants_full u o p h = subst (WantsOne wants_full) (sym (kind_full u p o h)) tt

pub left_in : (a : After) (u : Status) (o o' : One) → Has u o → LeftBy a o o' → Has (status_after a u) o'
left_in becomes_absent u o o' h e = subst (Has absent) (sym e) tt
left_in (becomes_held s) u o o' h e = subst (Has (held s)) (sym e.2) e.1
left_in stays u o o' h e = subst (Has u) (sym e) h
left_in becomes_full u o o' h e = subst (Has full) (sym e) tt
left_in becomes_lent absent one_absent o' h e = subst (Has absent) (sym e) tt
left_in becomes_lent (held s) (one_held i) o' h e = subst (Has (lent s)) (sym e) h
left_in becomes_lent (lent s) (one_lent i) o' h e = subst (Has (lent s)) (sym e) h
left_in becomes_lent full one_full o' h e = subst (Has full) (sym e) tt
left_in comes_back absent one_absent o' h e = subst (Has absent) (sym e) tt
left_in comes_back (held s) (one_held i) o' h e = subst (Has (held s)) (sym e) h
left_in comes_back (lent s) (one_lent i) o' h e = subst (Has (held s)) (sym e) h
left_in comes_back full one_full o' h e = subst (Has full) (sym e) tt
left_in becomes_lent absent (one_held i) o' h e = absurd h
left_in becomes_lent absent (one_lent i) o' h e = absurd h
left_in becomes_lent absent one_full o' h e = absurd h
left_in becomes_lent (held s) one_absent o' h e = absurd h
left_in becomes_lent (held s) (one_lent i) o' h e = absurd h
left_in becomes_lent (held s) one_full o' h e = absurd h
left_in becomes_lent (lent s) one_absent o' h e = absurd h
left_in becomes_lent (lent s) (one_held i) o' h e = absurd h
left_in becomes_lent (lent s) one_full o' h e = absurd h
left_in becomes_lent full one_absent o' h e = absurd h
left_in becomes_lent full (one_held i) o' h e = absurd h
left_in becomes_lent full (one_lent i) o' h e = absurd h
left_in comes_back absent (one_held i) o' h e = absurd h
left_in comes_back absent (one_lent i) o' h e = absurd h
left_in comes_back absent one_full o' h e = absurd h
left_in comes_back (held s) one_absent o' h e = absurd h
left_in comes_back (held s) (one_lent i) o' h e = absurd h
left_in comes_back (held s) one_full o' h e = absurd h
left_in comes_back (lent s) one_absent o' h e = absurd h
left_in comes_back (lent s) (one_held i) o' h e = absurd h
left_in comes_back (lent s) one_full o' h e = absurd h
left_in comes_back full one_absent o' h e = absurd h
left_in comes_back full (one_held i) o' h e = absurd h
left_in comes_back full (one_lent i) o' h e = absurd h

nat_same : (i j : ℕ) → (nat_eq i j ≡ true) → i ≡ j
nat_same i j e = search rules

pub same_is : (t u : Tok) → is_tok t u ≡ true → t ≡ u
same_is (a_key i) (a_key j) e = ap a_key (nat_same i j e)
same_is (a_var i) (a_var j) e = ap a_var (nat_same i j e)
same_is (a_key i) (a_var j) e = absurd (never e)
  where
    never : false ≡ true → ⊥
    never e = cc
same_is (a_var i) (a_key j) e = absurd (never e)
  where
    never : false ≡ true → ⊥
    never e = cc

-- a row leaves what it leaves of the status
pub image_in : (t : Tok) (r : Row) (S : Ones) (h : HeldMap) → IsIn S (h t) → IsIn (image t r S) (row_passed r h t)
image_in t r S h p = record { each = at (is_tok t r.tok) refl }
  where
    at : (b : Bool) → is_tok t r.tok ≡ b → (o : One) → image_if b r S o → Has (cond b (status_after r.after (h r.tok)) (h t)) o
    at true e o x = left_in r.after (h r.tok) x.0 o (subst (λ k. Has (h k) x.0) (same_is t r.tok e) (p.each x.0 x.1)) x.3
    at false e o x = p.each o x

row_fault_none : (t : Tok) (r : Row) (S : Ones) (h : HeldMap) → IsIn S (h t) → IsWanted r.wanted (h r.tok) → IsRowFault (is_tok t r.tok) r S → ⊥
row_fault_none t r S h p w = at (is_tok t r.tok) refl
  where
    at : (b : Bool) → is_tok t r.tok ≡ b → IsRowFault b r S → ⊥
    at true e x = x.0.2 (wants_one r.wanted (h r.tok) x.0.0 w (subst (λ k. Has (h k) x.0.0) (same_is t r.tok e) (p.each x.0.0 x.0.1)))
    at false e x = x

pub images_in : (t : Tok) (rs : List Row) (S : Ones) (h : HeldMap) → IsIn S (h t) → IsIn (images t rs S) (map_after rs h t)
images_in t [] S h p = p
images_in t (r ∷ rs) S h p = images_in t rs (image t r S) (row_passed r h) (image_in t r S h p)

pub rows_fault_none : (t : Tok) (rs : List Row) (S : Ones) (h : HeldMap) → IsIn S (h t) → CanPass rs h → HasRowFault t rs S → ⊥
rows_fault_none t [] S h p c x = x
rows_fault_none t (r ∷ rs) S h p c x = ⊎_elim (row_fault_none t r S h p c.0) (rows_fault_none t rs (image t r S) (row_passed r h) (image_in t r S h p) c.1) x

pub has_absent : (u : Status) → is_absent ≡ kind_of u → Has u one_absent
has_absent absent e = tt
has_absent (held s) e = never e
  where
    never : is_absent ≡ is_held → ⊥
    never e = cc
has_absent (lent s) e = never e
  where
    never : is_absent ≡ is_lent → ⊥
    never e = cc
has_absent full e = never e
  where
    never : is_absent ≡ is_full → ⊥
    never e = cc

has_held : (u : Status) (i : ℕ) → is_held ≡ kind_of u → IsTrue (states_of u i) → Has u (one_held i)
has_held (held s) i e h = h
has_held absent i e h = never e
  where
    never : is_held ≡ is_absent → ⊥
    never e = cc
has_held (lent s) i e h = never e
  where
    never : is_held ≡ is_lent → ⊥
    never e = cc
has_held full i e h = never e
  where
    never : is_held ≡ is_full → ⊥
    never e = cc

has_lent : (u : Status) (i : ℕ) → is_lent ≡ kind_of u → IsTrue (states_of u i) → Has u (one_lent i)
has_lent (lent s) i e h = h
has_lent absent i e h = never e
  where
    never : is_lent ≡ is_absent → ⊥
    never e = cc
has_lent (held s) i e h = never e
  where
    never : is_lent ≡ is_held → ⊥
    never e = cc
has_lent full i e h = never e
  where
    never : is_lent ≡ is_full → ⊥
    never e = cc

has_full : (u : Status) → is_full ≡ kind_of u → Has u one_full
has_full full e = tt
has_full (held s) e = never e
  where
    never : is_full ≡ is_held → ⊥
    never e = cc
has_full (lent s) e = never e
  where
    never : is_full ≡ is_lent → ⊥
    never e = cc
has_full absent e = never e
  where
    never : is_full ≡ is_absent → ⊥
    never e = cc

pub has_below : (a b : Status) (o : One) → IsStatusBelow a b → Has a o → Has b o
has_below absent b one_absent q h = has_absent b q.kind
has_below (held s) b (one_held i) q h = has_held b i q.kind (q.within.each i h)
has_below (lent s) b (one_lent i) q h = has_lent b i q.kind (q.within.each i h)
has_below full b one_full q h = has_full b q.kind
has_below absent b (one_held i) q h = absurd h
has_below absent b (one_lent i) q h = absurd h
has_below absent b one_full q h = absurd h
has_below (held s) b one_absent q h = absurd h
has_below (held s) b (one_lent i) q h = absurd h
has_below (held s) b one_full q h = absurd h
has_below (lent s) b one_absent q h = absurd h
has_below (lent s) b (one_held i) q h = absurd h
has_below (lent s) b one_full q h = absurd h
has_below full b one_absent q h = absurd h
has_below full b (one_held i) q h = absurd h
has_below full b (one_lent i) q h = absurd h

pub in_below : (S : Ones) (a b : Status) → IsStatusBelow a b → IsIn S a → IsIn S b
in_below S a b q p = record { each = λ o x. has_below a b o q (p.each o x) }

pub mixed_none : (S : Ones) (u : Status) → IsIn S u → IsMixed S → ⊥
mixed_none S u p m = never u m.1.0 m.1.1 (p.each one_absent m.0) (p.each m.1.0 m.1.2)
  where
    never : (u : Status) (o : One) → IsPresent o → Has u one_absent → Has u o → ⊥
    never absent one_absent x h k = x
    never absent (one_held i) x h k = k
    never absent (one_lent i) x h k = k
    never absent one_full x h k = k
    never (held s) o x h k = h
    never (lent s) o x h k = h
    never full o x h k = h

-- ---- parts

abbrev pub HasAt : Option HeldMap → Tok → One → Type 0
HasAt None t x = ⊥
HasAt (Some m) t x = Has (m t) x

abbrev pub MeetsOne : Notes → Option ℕ → Bool → Tok → One → Type 0
MeetsOne a None c t x = ⊥
MeetsOne a (Some l) true t x = Has (a.around l t) x
MeetsOne a (Some l) false t x = Has (a.following l t) x

-- what comes out of a part lies in the maps of the annotation
pub record IsOut (t : Tok) (a : Notes) (l : Option ℕ) (outs : Exit → Ones) (o : Option HeldMap) : Type 0 where
  pub next : (x : One) → outs to_next x → HasAt o t x
  pub breaks : (x : One) → outs to_break x → MeetsOne a l false t x
  pub continues : (x : One) → outs to_continue x → MeetsOne a l true t x

has_through : (o : Option HeldMap) (k : HeldMap) (t : Tok) (x : One) → HasAt o t x → When o (λ m. IsBelow m k) → Has (k t) x
has_through None k t x h w = absurd h
has_through (Some m) k t x h w = has_below (m t) (k t) x (w.each t) h

passes_has : (b : Bool) (o : Option HeldMap) (t : Tok) (x : One) → MatchBool b (IsSome o) (o ≡ None) → HasAt o t x → b ≡ true
passes_has true o t x m h = refl
passes_has false o t x m h = absurd (subst (λ o. HasAt o t x) m h)

only_left : (a b : Bool) (k : HeldMap) (t : Tok) (x : One) → a ≡ true → Has (k t) x → HasAt (only_if (a || b) k) t x
only_left true b k t x e h = h
only_left false b k t x e h = absurd (never e)
  where
    never : false ≡ true → ⊥
    never e = cc

only_right : (a b : Bool) (k : HeldMap) (t : Tok) (x : One) → b ≡ true → Has (k t) x → HasAt (only_if (a || b) k) t x
only_right true b k t x e h = h
only_right false true k t x e h = h
only_right false false k t x e h = absurd (never e)
  where
    never : false ≡ true → ⊥
    never e = cc

only_rest : (a b : Bool) (k : HeldMap) (t : Tok) (x : One) → HasAt (only_if b k) t x → HasAt (only_if (a || b) k) t x
only_rest true true k t x h = h
only_rest true false k t x h = absurd h
only_rest false b k t x h = h

only_has : (b : Bool) (k : HeldMap) (t : Tok) (x : One) → HasAt (only_if b k) t x → Has (k t) x
only_has true k t x h = h
only_has false k t x h = absurd h

image_empty : (b : Bool) (r : Row) (S : Ones) → ((x : One) → S x → ⊥) → (x : One) → image_if b r S x → ⊥
image_empty true r S p x i = p i.0 i.1
image_empty false r S p x i = p x i

pub images_empty : (t : Tok) (rs : List Row) (S : Ones) → ((x : One) → S x → ⊥) → (x : One) → images t rs S x → ⊥
images_empty t [] S p x i = p x i
images_empty t (r ∷ rs) S p x i = images_empty t rs (image t r S) (λ y. image_empty (is_tok t r.tok) r S p y) x i

rows_fault_empty : (t : Tok) (rs : List Row) (S : Ones) → ((x : One) → S x → ⊥) → HasRowFault t rs S → ⊥
rows_fault_empty t [] S p f = f
rows_fault_empty t (r ∷ rs) S p f = ⊎_elim (row_fault_empty (is_tok t r.tok) r S p) (rows_fault_empty t rs (image t r S) (λ y. image_empty (is_tok t r.tok) r S p y)) f
  where
    row_fault_empty : (b : Bool) (r : Row) (S : Ones) → ((x : One) → S x → ⊥) → IsRowFault b r S → ⊥
    row_fault_empty true r S p f = p f.0.0 f.0.1
    row_fault_empty false r S p f = f

rows_has : (rs : List Row) (S : Ones) (o : Option HeldMap) (t : Tok) → ((x : One) → S x → HasAt o t x) → (x : One) → images t rs S x → HasAt (rows_passed rs o) t x
rows_has rs S None t p x i = absurd (images_empty t rs S p x i)
rows_has rs S (Some m) t p x i = (images_in t rs S m (record { each = p })).each x i

-- rows at an end that are passed if something comes there
ends_fault_none : (t : Tok) (rs : List Row) (S : Ones) (o : Option HeldMap) → ((x : One) → S x → HasAt o t x) → When o (CanPass rs) → HasRowFault t rs S → ⊥
ends_fault_none t rs S None p w f = rows_fault_empty t rs S p f
ends_fault_none t rs S (Some m) p w f = rows_fault_none t rs S m (record { each = p }) w f

-- the head of a loop
turns_in : (t : Tok) (F : Ones → Ones) (S : Ones) (i : Status) → IsIn S i → ((T : Ones) → IsIn T i → IsIn (F T) i) → (n : ℕ) → IsIn (turns F n S) i
turns_in t F S i p f zero = p
turns_in t F S i p f (suc n) = f (turns F n S) (turns_in t F S i p f n)

meets_has : (a : Notes) (l : Option ℕ) (c : Bool) (h : HeldMap) (t : Tok) (x : One) → Meets a l c h → Has (h t) x → MeetsOne a l c t x
meets_has a None c h t x m k = m
meets_has a (Some l) true h t x m k = has_below (h t) (a.around l t) x (m.each t) k
meets_has a (Some l) false h t x m k = has_below (h t) (a.following l t) x (m.each t) k

-- nothing comes of nothing
turns_empty : (F : Ones → Ones) (S : Ones) → ((x : One) → S x → ⊥) → ((T : Ones) → ((x : One) → T x → ⊥) → (x : One) → F T x → ⊥) → (n : ℕ) (x : One) → turns F n S x → ⊥
turns_empty F S p f zero x y = p x y
turns_empty F S p f (suc n) x y = f (turns F n S) (turns_empty F S p f n) x y

jumps_empty : (c : Bool) (e : Exit) (S : Ones) → ((x : One) → S x → ⊥) → (x : One) → jumps c e S x → ⊥
jumps_empty true to_continue S p x y = p x y
jumps_empty true to_break S p x y = y
jumps_empty true to_next S p x y = y
jumps_empty false to_break S p x y = p x y
jumps_empty false to_continue S p x y = y
jumps_empty false to_next S p x y = y

mutual
  empty_out : (s : Flow) (t : Tok) (S : Ones) → ((x : One) → S x → ⊥) → ((e : Exit) (x : One) → out t s S e x → ⊥) × (HasFault t s S → ⊥)
  empty_out (step rs) t S p = (rows t rs S p, rows_fault_empty t rs S p)
    where
      rows : (t : Tok) (rs : List Row) (S : Ones) → ((x : One) → S x → ⊥) → (e : Exit) (x : One) → out t (step rs) S e x → ⊥
      rows t rs S p to_next x y = images_empty t rs S p x y
      rows t rs S p to_break x y = y
      rows t rs S p to_continue x y = y
  empty_out (choose rs u v) t S p =
      let f = empty_block u t (images t rs S) (images_empty t rs S p) in
      let g = empty_block v t (images t rs S) (images_empty t rs S p) in (
        λ e x y. ⊎_elim (f.0 e x) (g.0 e x) y,
        ⊎_elim (rows_fault_empty t rs S p) (⊎_elim f.1 (⊎_elim g.1 (λ m. ⊎_elim (f.0 to_next one_absent) (g.0 to_next one_absent) m.0))),
      )
  empty_out (loop rs s) t S p =
      let step = λ (T : Ones) (q : (x : One) → T x → ⊥). empty_block s t (images t rs T) (images_empty t rs T q) in
      let round = λ (T : Ones) (q : (x : One) → T x → ⊥) (x : One) (y : both (out_block t s (images t rs T) to_next) (out_block t s (images t rs T) to_continue) x). ⊎_elim ((step T q).0 to_next x) ((step T q).0 to_continue x) y in
      let top = λ (x : One) (y : head_of t rs s S x). turns_empty _ S p round y.0 x y.1 in
      let inner = step (head_of t rs s S) top in
      let following = λ (x : One) (y : out t (loop rs s) S to_next x). ⊎_elim (images_empty t rs (head_of t rs s S) top x) (inner.0 to_break x) y in (
        exits t rs s S following,
        ⊎_elim (λ m. top one_absent m.0) (⊎_elim (rows_fault_empty t rs (head_of t rs s S) top) (⊎_elim inner.1 (λ m. following one_absent m.0))),
      )
    where
      exits : (t : Tok) (rs : List Row) (s : Block) (S : Ones) → ((x : One) → out t (loop rs s) S to_next x → ⊥) → (e : Exit) (x : One) → out t (loop rs s) S e x → ⊥
      exits t rs s S b to_next x y = b x y
      exits t rs s S b to_break x y = y
      exits t rs s S b to_continue x y = y
  empty_out (switch rs arms end) t S p =
      let f = empty_arms arms t (images t rs S) (images_empty t rs S p) in
      (f.0, ⊎_elim (rows_fault_empty t rs S p) (⊎_elim f.1 (λ m. f.0 to_next one_absent m.0)))
  empty_out (scope s) t S p = empty_block s t S p
  empty_out (focus rs s es) t S p =
      let f = empty_block s t (images t rs S) (images_empty t rs S p) in (
        exits t rs s es S f.0,
        ⊎_elim (rows_fault_empty t rs S p) (⊎_elim f.1 (rows_fault_empty t es (out_block t s (images t rs S) to_next) (f.0 to_next))),
      )
    where
      exits : (t : Tok) (rs : List Row) (s : Block) (es : List Row) (S : Ones) → ((e : Exit) (x : One) → out_block t s (images t rs S) e x → ⊥) → (e : Exit) (x : One) → out t (focus rs s es) S e x → ⊥
      exits t rs s es S f to_next x y = images_empty t es (out_block t s (images t rs S) to_next) (f to_next) x y
      exits t rs s es S f to_break x y = f to_break x y
      exits t rs s es S f to_continue x y = f to_continue x y
  empty_out (return rs) t S p = (λ e x y. y, rows_fault_empty t rs S p)
  empty_out (jump c left) t S p =
      (λ e x y. jumps_empty c e (images t (map away_row left) S) (images_empty t (map away_row left) S p) x y, rows_fault_empty t (map away_row left) S p)

  pub empty_block : (s : Block) (t : Tok) (S : Ones) → ((x : One) → S x → ⊥) → ((e : Exit) (x : One) → out_block t s S e x → ⊥) × (HasFaultBlock t s S → ⊥)
  empty_block (block ss bound end) t S p =
      let f = empty_stmts ss t S p in
      (exits t ss bound end S f.0, ⊎_elim f.1 (rows_fault_empty t (map away_row bound) (out_stmts t ss S to_next) (f.0 to_next)))
    where
      exits : (t : Tok) (ss : Stmts) (bound : List Tok) (end : ℕ) (S : Ones) → ((e : Exit) (x : One) → out_stmts t ss S e x → ⊥) → (e : Exit) (x : One) → out_block t (block ss bound end) S e x → ⊥
      exits t ss bound end S f to_next x y = images_empty t (map away_row bound) (out_stmts t ss S to_next) (f to_next) x y
      exits t ss bound end S f to_break x y = f to_break x y
      exits t ss bound end S f to_continue x y = f to_continue x y

  empty_stmts : (ss : Stmts) (t : Tok) (S : Ones) → ((x : One) → S x → ⊥) → ((e : Exit) (x : One) → out_stmts t ss S e x → ⊥) × (HasFaultStmts t ss S → ⊥)
  empty_stmts done t S p = (exits t S p, λ f. f)
    where
      exits : (t : Tok) (S : Ones) → ((x : One) → S x → ⊥) → (e : Exit) (x : One) → out_stmts t done S e x → ⊥
      exits t S p to_next x y = p x y
      exits t S p to_break x y = y
      exits t S p to_continue x y = y
  empty_stmts (next at s rest) t S p =
      let f = empty_out s t S p in
      let g = empty_stmts rest t (out t s S to_next) (f.0 to_next) in
      (exits t at s rest S f.0 g.0, ⊎_elim f.1 g.1)
    where
      exits : (t : Tok) (at : ℕ) (s : Flow) (rest : Stmts) (S : Ones) → ((e : Exit) (x : One) → out t s S e x → ⊥) → ((e : Exit) (x : One) → out_stmts t rest (out t s S to_next) e x → ⊥) → (e : Exit) (x : One) → out_stmts t (next at s rest) S e x → ⊥
      exits t at s rest S f g to_next x y = g to_next x y
      exits t at s rest S f g to_break x y = ⊎_elim (f to_break x) (g to_break x) y
      exits t at s rest S f g to_continue x y = ⊎_elim (f to_continue x) (g to_continue x) y

  empty_arms : (arms : Arms) (t : Tok) (S : Ones) → ((x : One) → S x → ⊥) → ((e : Exit) (x : One) → out_arms t arms S e x → ⊥) × (HasFaultArms t arms S → ⊥)
  empty_arms no_arms t S p = (λ e x y. y, λ f. f)
  empty_arms (arm rs s rest) t S p =
      let f = empty_block s t (images t rs S) (images_empty t rs S p) in
      let g = empty_arms rest t S p in
      (λ e x y. ⊎_elim (f.0 e x) (g.0 e x) y, ⊎_elim (rows_fault_empty t rs S p) (⊎_elim f.1 g.1))

-- what comes to the rest of a list
rest_out : (t : Tok) (a : Notes) (l : Option ℕ) (at : ℕ) (s : Flow) (rest : Stmts) (S : Ones) (o : Option HeldMap) (f : HeldMap → Option HeldMap) (P : HeldMap → Type 0) → IsOut t a l (out t s S) o × (HasFault t s S → ⊥) → When o P →
    ((m : HeldMap) → IsIn (out t s S to_next) (m t) → P m → IsOut t a l (out_stmts t rest (out t s S to_next)) (f m) × (HasFaultStmts t rest (out t s S to_next) → ⊥)) →
    IsOut t a l (out_stmts t (next at s rest) S) (Then o f) × (HasFaultStmts t (next at s rest) S → ⊥)
rest_out t a l at s rest S None f P p w go =
    let e = empty_stmts rest t (out t s S to_next) p.0.next in (
      record {
        next = λ x y. e.0 to_next x y;
        breaks = λ x y. ⊎_elim (p.0.breaks x) (λ z. absurd (e.0 to_break x z)) y;
        continues = λ x y. ⊎_elim (p.0.continues x) (λ z. absurd (e.0 to_continue x z)) y;
      },
      ⊎_elim p.1 e.1,
    )
rest_out t a l at s rest S (Some m) f P p w go =
    let e = go m (record { each = p.0.next }) w in (
      record {
        next = e.0.next;
        breaks = λ x y. ⊎_elim (p.0.breaks x) (e.0.breaks x) y;
        continues = λ x y. ⊎_elim (p.0.continues x) (e.0.continues x) y;
      },
      ⊎_elim p.1 e.1,
    )

mutual
  pub local_out : (s : Flow) (t : Tok) (a : Notes) (l : Option ℕ) (n : ℕ) (h : HeldMap) (S : Ones) → IsIn S (h t) → IsLocal a l n h s → IsOut t a l (out t s S) (leads a n h s) × (HasFault t s S → ⊥)
  local_out (step rs) t a l n h S p d = (
    record { next = (images_in t rs S h p).each; breaks = λ x y. absurd y; continues = λ x y. absurd y },
    rows_fault_none t rs S h p d,
  )
  local_out (choose rs u v) t a l n h S p d =
      let q = images_in t rs S h p in
      let f = local_out_block u t a l (n + 1) (map_after rs h) (images t rs S) q d.1 in
      let g = local_out_block v t a l (n + 1 + size_block u) (map_after rs h) (images t rs S) q d.2 in
      let first = λ (x : One) (y : out_block t u (images t rs S) to_next x). only_left (passes_block u) (passes_block v) (a.following n) t x (passes_has (passes_block u) _ t x (leads_block_some u a (n + 1) (map_after rs h)) (f.0.next x y)) (has_through _ (a.following n) t x (f.0.next x y) d.3) in
      let second = λ (x : One) (y : out_block t v (images t rs S) to_next x). only_right (passes_block u) (passes_block v) (a.following n) t x (passes_has (passes_block v) _ t x (leads_block_some v a (n + 1 + size_block u) (map_after rs h)) (g.0.next x y)) (has_through _ (a.following n) t x (g.0.next x y) d.4) in
      let following = λ (x : One) (y : out t (choose rs u v) S to_next x). ⊎_elim (first x) (second x) y in (
        record {
          next = following;
          breaks = λ x y. ⊎_elim (f.0.breaks x) (g.0.breaks x) y;
          continues = λ x y. ⊎_elim (f.0.continues x) (g.0.continues x) y;
        },
        ⊎_elim (rows_fault_none t rs S h p d.0) (⊎_elim f.1 (⊎_elim g.1 (mixed_none (out t (choose rs u v) S to_next) (a.following n t) (record { each = λ x y. only_has (passes_block u || passes_block v) (a.following n) t x (following x y) })))),
      )
  local_out (loop rs s) t a l n h S p d =
      let i = a.around n in
      let step = λ (T : Ones) (q : IsIn T (i t)). local_out_block s t a (Some n) (n + 1) (map_after rs i) (images t rs T) (images_in t rs T i q) d.3 in
      let round = λ (T : Ones) (q : IsIn T (i t)). (let r : IsIn (both (out_block t s (images t rs T) to_next) (out_block t s (images t rs T) to_continue)) (i t) = record { each = λ x y. ⊎_elim (λ z. has_through _ i t x ((step T q).0.next x z) d.4) ((step T q).0.continues x) y } in r) in
      let top : IsIn (head_of t rs s S) (i t) = record { each = λ x y. (turns_in t _ S (i t) (in_below S (h t) (i t) (d.0.each t) p) round y.0).each x y.1 } in
      let inner = step (head_of t rs s S) top in
      let rows = images_in t rs (head_of t rs s S) i top in
      let following = λ (x : One) (y : out t (loop rs s) S to_next x). ⊎_elim (λ z. has_below (map_after rs i t) (a.following n t) x (d.2.each t) (rows.each x z)) (inner.0.breaks x) y in (
        record { next = following; breaks = λ x y. absurd y; continues = λ x y. absurd y },
        ⊎_elim (mixed_none (head_of t rs s S) (i t) top) (⊎_elim (rows_fault_none t rs (head_of t rs s S) i top d.1) (⊎_elim inner.1 (mixed_none (out t (loop rs s) S to_next) (a.following n t) (record { each = following })))),
      )
  local_out (switch rs arms end) t a l n h S p d =
      let g = local_out_arms arms t a l (n + 1) (map_after rs h) (images t rs S) (a.following n) (images_in t rs S h p) d.1 in (
        g.0,
        ⊎_elim (rows_fault_none t rs S h p d.0) (⊎_elim g.1 (mixed_none (out t (switch rs arms end) S to_next) (a.following n t) (record { each = λ x y. only_has (passes_arms arms) (a.following n) t x (g.0.next x y) }))),
      )
  local_out (scope s) t a l n h S p d = local_out_block s t a l (n + 1) h S p d
  local_out (focus rs s es) t a l n h S p d =
      let f = local_out_block s t a l (n + 1) (map_after rs h) (images t rs S) (images_in t rs S h p) d.1 in (
        record { next = rows_has es (out_block t s (images t rs S) to_next) _ t f.0.next; breaks = f.0.breaks; continues = f.0.continues },
        ⊎_elim (rows_fault_none t rs S h p d.0) (⊎_elim f.1 (ends_fault_none t es (out_block t s (images t rs S) to_next) _ f.0.next d.2)),
      )
  local_out (return rs) t a l n h S p d = (record { next = λ x y. y; breaks = λ x y. absurd y; continues = λ x y. absurd y }, rows_fault_none t rs S h p d)
  local_out (jump true left) t a l n h S p d = (
    record { next = λ x y. y; breaks = λ x y. absurd y; continues = λ x y. meets_has a l true _ t x d.1 ((images_in t (map away_row left) S h p).each x y) },
    rows_fault_none t (map away_row left) S h p d.0,
  )
  local_out (jump false left) t a l n h S p d = (
    record { next = λ x y. y; continues = λ x y. absurd y; breaks = λ x y. meets_has a l false _ t x d.1 ((images_in t (map away_row left) S h p).each x y) },
    rows_fault_none t (map away_row left) S h p d.0,
  )

  pub local_out_block : (s : Block) (t : Tok) (a : Notes) (l : Option ℕ) (n : ℕ) (h : HeldMap) (S : Ones) → IsIn S (h t) → IsLocalBlock a l n h s → IsOut t a l (out_block t s S) (leads_block a n h s) × (HasFaultBlock t s S → ⊥)
  local_out_block (block ss bound end) t a l n h S p d =
      let f = local_out_stmts ss t a l n h S p d.0 in (
        record { next = rows_has (map away_row bound) (out_stmts t ss S to_next) _ t f.0.next; breaks = f.0.breaks; continues = f.0.continues },
        ⊎_elim f.1 (ends_fault_none t (map away_row bound) (out_stmts t ss S to_next) _ f.0.next d.1),
      )

  pub local_out_stmts : (ss : Stmts) (t : Tok) (a : Notes) (l : Option ℕ) (n : ℕ) (h : HeldMap) (S : Ones) → IsIn S (h t) → IsLocalStmts a l n h ss → IsOut t a l (out_stmts t ss S) (leads_stmts a n h ss) × (HasFaultStmts t ss S → ⊥)
  local_out_stmts done t a l n h S p d = (record { next = p.each; breaks = λ x y. absurd y; continues = λ x y. absurd y }, λ f. f)
  local_out_stmts (next at s rest) t a l n h S p d =
      rest_out t a l at s rest S (leads a n h s) (λ m. leads_stmts a (n + size s) m rest) (λ m. IsLocalStmts a l (n + size s) m rest) (local_out s t a l n h S p d.0) d.1
      (λ m q w. local_out_stmts rest t a l (n + size s) m (out t s S to_next) q w)

  pub local_out_arms : (arms : Arms) (t : Tok) (a : Notes) (l : Option ℕ) (n : ℕ) (h : HeldMap) (S : Ones) (k : HeldMap) → IsIn S (h t) → IsLocalArms a l n h arms k → IsOut t a l (out_arms t arms S) (only_if (passes_arms arms) k) × (HasFaultArms t arms S → ⊥)
  local_out_arms no_arms t a l n h S k p d = (record { next = λ x y. y; breaks = λ x y. absurd y; continues = λ x y. absurd y }, λ f. f)
  local_out_arms (arm rs s rest) t a l n h S k p d =
      let f = local_out_block s t a l n (map_after rs h) (images t rs S) (images_in t rs S h p) d.1 in
      let g = local_out_arms rest t a l (n + size_block s) h S k p d.3 in (
        record {
          next = λ x y. ⊎_elim (λ z. only_left (passes_block s) (passes_arms rest) k t x (passes_has (passes_block s) _ t x (leads_block_some s a n (map_after rs h)) (f.0.next x z)) (has_through _ k t x (f.0.next x z) d.2))
              (λ z. only_rest (passes_block s) (passes_arms rest) k t x (g.0.next x z)) y;
          breaks = λ x y. ⊎_elim (f.0.breaks x) (g.0.breaks x) y;
          continues = λ x y. ⊎_elim (f.0.continues x) (g.0.continues x) y;
        },
        ⊎_elim (rows_fault_none t rs S h p d.0) (⊎_elim f.1 g.1),
      )
