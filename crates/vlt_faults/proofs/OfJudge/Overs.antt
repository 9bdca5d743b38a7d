-- The first fault over more and more tokens.
use Rattle.std.proofs.Common.{◌≡◌, ◌↔◌, ◌<◌, ◌≤◌, ◌+◌, ◌^◌, max, ℕ, length, Option, Some, None, IfSome, ◌⊎◌, inl, inr, ⊎_elim, refl, sym, ap, ◌∙◌, subst, arith}
use Rattle.std.proofs.lemmas.Bool.{cases_lt}
use Rattle.std.proofs.lemmas.List.{get_or_past}
use Rattle.vlt_core.specs.Core.{Tok, a_key, a_var}
use Rattle.vlt_core.specs.Maps.{HeldMap}
use Rattle.vlt_core.specs.Maps as maps
use Rattle.vlt_core.specs.Flow.{Flow, step, choose, loop, switch, scope, focus, return, jump, Block, block, Stmts, done, next, Arms, no_arms, arm, size, size_block}
use Rattle.vlt_core.specs.Found.{One, Ones, Has, images, out, to_next, head_of}
use Rattle.vlt_core.specs.Faults.{Spot, FaultKind, SpotAtBlock, spots_block, IsMixed, IsUnwanted, IsNoLaterTok}
use Rattle.vlt_core.specs.View.{tok_of}
use Rattle.vlt_core_laws.specs.Sweep.{In, Stock, IsFoundIn, found_head, found_head_block, found_head_stmts, found_head_arms, found_exit, found_exit_block, found_exit_stmts, found_exit_arms}
use Rattle.vlt_core_laws.proofs.Smooth.{smooth_images, smooth_form, smooth_heads}
use Rattle.vlt_core_laws.proofs.Sweeping.{smooth_round, fits_block}
use Rattle.vlt_faults.specs.declared.finding.ones.Ones as D
use Rattle.vlt_faults.specs.Finding.Ones.{many_of}
use Rattle.vlt_faults.specs.Finding.Marks.{Marks, stock_of, at as table}
use Rattle.vlt_core.specs.HeldView.{status_of}
use Rattle.vlt_core.specs.declared.held.Status.TheVariants.{Absent}
use Rattle.vlt_core.specs.FaultView.{kind_of}
use Rattle.vlt_keyset.specs.Held.{Statuses, map_of, HasPlace}
use Rattle.vlt_faults.specs.declared.judge.blame.Blame.{Blame}
use Rattle.vlt_faults.specs.declared.judge.extent.Extent.{Extent}
use Rattle.vlt_faults.specs.declared.judge.tokens.Whole.{Whole}
use Rattle.vlt_faults.specs.Judge.Blames.{spot_of, NoLaterThan, IsEarlier, IsFirstOf, TellsUnwanted, TellsMixed, FirstOfBlock}
use Rattle.vlt_faults.specs.Judge.Extents.{IsBeyond, IsCount, AvoidsBlock, IsExtent}
use Rattle.vlt_faults.specs.Judge.Faulty.{HasNoNumber, many_statements, many_spots, names_last_key, names_last_var}
use Rattle.vlt_faults.specs.Judge.Judging.{HasRoom, FittingBlock}
use Rattle.vlt_faults.specs.Judge.Overs.{IsTabled, IsFaulty, IsFirstOver, IsKeyBelow, IsVarBelow, IsWhole, IsNumbered}
use Rattle.vlt_faults.proofs.OfJudge.Firsts.{later_trans}
use Rattle.vlt_faults.proofs.OfJudge.Points.{block_first_same}
use Rattle.vlt_faults.proofs.OfJudge.Renaming.{heads_block_named, exits_block_named, spot_block_named}

-- ---- more is found where more comes

abbrev Within : Ones → Ones → Type 0
Within S T = (o : One) → S o → T o

head_more : (t : Tok) (rs : _) (s : Block) (S T : Ones) → Within S T → Within (head_of t rs s S) (head_of t rs s T)
head_more t rs s S T f = (smooth_heads _ (smooth_round t rs s)).more S T f

mutual
  heads_more : (s : Flow) (t : Tok) (n : ℕ) (S T : Ones) → Within S T → (i : ℕ) (o : One) → found_head t s n S i o → found_head t s n T i o
  heads_more (choose rs a b) t n S T f i o x =
      let m = (smooth_images t rs).more S T f in
      ⊎_elim (λ y. inl (heads_more_block a t (n + 1) (images t rs S) (images t rs T) m i o y)) (λ y. inr (heads_more_block b t (n + 1 + size_block a) (images t rs S) (images t rs T) m i o y)) x
  heads_more (loop rs s) t n S T f i o x =
      let h = head_more t rs s S T f in
      ⊎_elim (λ y. inl (y.0, h o y.1)) (λ y. inr (heads_more_block s t (n + 1) (images t rs (head_of t rs s S)) (images t rs (head_of t rs s T)) ((smooth_images t rs).more (head_of t rs s S) (head_of t rs s T) h) i o y)) x
  heads_more (switch rs arms end) t n S T f i o x = heads_more_arms arms t (n + 1) (images t rs S) (images t rs T) ((smooth_images t rs).more S T f) i o x
  heads_more (scope s) t n S T f i o x = heads_more_block s t (n + 1) S T f i o x
  heads_more (focus rs s es) t n S T f i o x = heads_more_block s t (n + 1) (images t rs S) (images t rs T) ((smooth_images t rs).more S T f) i o x
  heads_more (step rs) t n S T f i o x = x
  heads_more (return rs) t n S T f i o x = x
  heads_more (jump c left) t n S T f i o x = x

  heads_more_block : (s : Block) (t : Tok) (n : ℕ) (S T : Ones) → Within S T → (i : ℕ) (o : One) → found_head_block t s n S i o → found_head_block t s n T i o
  heads_more_block (block ss bound end) t n S T f i o x = heads_more_stmts ss t n S T f i o x

  heads_more_stmts : (ss : Stmts) (t : Tok) (n : ℕ) (S T : Ones) → Within S T → (i : ℕ) (o : One) → found_head_stmts t ss n S i o → found_head_stmts t ss n T i o
  heads_more_stmts done t n S T f i o x = x
  heads_more_stmts (next at s rest) t n S T f i o x =
      ⊎_elim (λ y. inl (heads_more s t n S T f i o y)) (λ y. inr (heads_more_stmts rest t (n + size s) (out t s S to_next) (out t s T to_next) ((smooth_form s t to_next).more S T f) i o y)) x

  heads_more_arms : (arms : Arms) (t : Tok) (n : ℕ) (S T : Ones) → Within S T → (i : ℕ) (o : One) → found_head_arms t arms n S i o → found_head_arms t arms n T i o
  heads_more_arms no_arms t n S T f i o x = x
  heads_more_arms (arm rs s rest) t n S T f i o x =
      ⊎_elim (λ y. inl (heads_more_block s t n (images t rs S) (images t rs T) ((smooth_images t rs).more S T f) i o y)) (λ y. inr (heads_more_arms rest t (n + size_block s) S T f i o y)) x

mutual
  exits_more : (s : Flow) (t : Tok) (n : ℕ) (S T : Ones) → Within S T → (i : ℕ) (o : One) → found_exit t s n S i o → found_exit t s n T i o
  exits_more (choose rs a b) t n S T f i o x =
      let m = (smooth_images t rs).more S T f in
      ⊎_elim (λ y. inl (y.0, (smooth_form (choose rs a b) t to_next).more S T f o y.1)) (⊎_elim (λ y. inr (inl (exits_more_block a t (n + 1) (images t rs S) (images t rs T) m i o y))) (λ y. inr (inr (exits_more_block b t (n + 1 + size_block a) (images t rs S) (images t rs T) m i o y)))) x
  exits_more (loop rs s) t n S T f i o x =
      let h = head_more t rs s S T f in
      ⊎_elim (λ y. inl (y.0, (smooth_form (loop rs s) t to_next).more S T f o y.1)) (λ y. inr (exits_more_block s t (n + 1) (images t rs (head_of t rs s S)) (images t rs (head_of t rs s T)) ((smooth_images t rs).more (head_of t rs s S) (head_of t rs s T) h) i o y)) x
  exits_more (switch rs arms end) t n S T f i o x =
      ⊎_elim (λ y. inl (y.0, (smooth_form (switch rs arms end) t to_next).more S T f o y.1)) (λ y. inr (exits_more_arms arms t (n + 1) (images t rs S) (images t rs T) ((smooth_images t rs).more S T f) i o y)) x
  exits_more (scope s) t n S T f i o x = exits_more_block s t (n + 1) S T f i o x
  exits_more (focus rs s es) t n S T f i o x = exits_more_block s t (n + 1) (images t rs S) (images t rs T) ((smooth_images t rs).more S T f) i o x
  exits_more (step rs) t n S T f i o x = x
  exits_more (return rs) t n S T f i o x = x
  exits_more (jump c left) t n S T f i o x = x

  exits_more_block : (s : Block) (t : Tok) (n : ℕ) (S T : Ones) → Within S T → (i : ℕ) (o : One) → found_exit_block t s n S i o → found_exit_block t s n T i o
  exits_more_block (block ss bound end) t n S T f i o x = exits_more_stmts ss t n S T f i o x

  exits_more_stmts : (ss : Stmts) (t : Tok) (n : ℕ) (S T : Ones) → Within S T → (i : ℕ) (o : One) → found_exit_stmts t ss n S i o → found_exit_stmts t ss n T i o
  exits_more_stmts done t n S T f i o x = x
  exits_more_stmts (next at s rest) t n S T f i o x =
      ⊎_elim (λ y. inl (exits_more s t n S T f i o y)) (λ y. inr (exits_more_stmts rest t (n + size s) (out t s S to_next) (out t s T to_next) ((smooth_form s t to_next).more S T f) i o y)) x

  exits_more_arms : (arms : Arms) (t : Tok) (n : ℕ) (S T : Ones) → Within S T → (i : ℕ) (o : One) → found_exit_arms t arms n S i o → found_exit_arms t arms n T i o
  exits_more_arms no_arms t n S T f i o x = x
  exits_more_arms (arm rs s rest) t n S T f i o x =
      ⊎_elim (λ y. inl (exits_more_block s t n (images t rs S) (images t rs T) ((smooth_images t rs).more S T f) i o y)) (λ y. inr (exits_more_arms rest t (n + size_block s) S T f i o y)) x

pub found_same : (t : Tok) (s : Block) (S T : Ones) (k : Stock) → ((o : One) → S o ↔ T o) → IsFoundIn t s S k → IsFoundIn t s T k
found_same t s S T k e f = record {
  around = λ i o. (λ x. heads_more_block s t 0 S T (λ o y. (e o).0 y) i o ((f.around i o).0 x), λ x. (f.around i o).1 (heads_more_block s t 0 T S (λ o y. (e o).1 y) i o x));
  following = λ i o. (λ x. exits_more_block s t 0 S T (λ o y. (e o).0 y) i o ((f.following i o).0 x), λ x. (f.following i o).1 (exits_more_block s t 0 T S (λ o y. (e o).1 y) i o x));
}

-- ---- more tokens

pub over_none : (A : Tok → Type 0) (s : Block) (h : HeldMap) → ((t : Tok) → A t → ⊥) → IsFirstOver A s h None
over_none A s h f = record { there = tt; first = λ p t a x. f t a; tabled = λ t a. absurd (f t a) }

told_of_one : (s : Block) (h : HeldMap) (t : Tok) (y : Option Blame) → FirstOfBlock t 0 s (Has (h t)) y → IfSome y (λ b. SpotAtBlock (TellsUnwanted (kind_of b.kind)) (TellsMixed (kind_of b.kind)) (spot_of b) (tok_of b.tok) 0 s (Has (h (tok_of b.tok))))
told_of_one s h t None f = tt
told_of_one s h t (Some b) f = subst (λ u. SpotAtBlock (TellsUnwanted (kind_of b.kind)) (TellsMixed (kind_of b.kind)) (spot_of b) u 0 s (Has (h u))) (sym f.there.0) f.there.1

either_told : (s : Block) (h : HeldMap) (x y r : Option Blame) (P : Blame → Type 0) → (r ≡ x) ⊎ (r ≡ y) → IfSome x P → IfSome y P → IfSome r P
either_told s h x y r P e f g = ⊎_elim (λ e. subst (λ o. IfSome o P) (sym e) f) (λ e. subst (λ o. IfSome o P) (sym e) g) e

-- what is told of a token is of the token
pub first_own : (t : Tok) (x : Option Blame) (F : Spot → Type 0) (G : FaultKind → Spot → Type 0) → IsFirstOf t x F G → IfSome x (λ b. tok_of b.tok ≡ t)
first_own t None F G q = tt
first_own t (Some b) F G q = q.there.0

pub over_one : (s : Block) (h : HeldMap) (t : Tok) (y : Option Blame) → FirstOfBlock t 0 s (Has (h t)) y → IsTabled s h t → IsFirstOver (λ u. u ≡ t) s h y
over_one s h t y f k = record {
  there = told_of_one s h t y f;
  first = λ p u e x. subst (λ u. NoLaterThan y p u) (sym e) (f.first p (subst (λ u. IsFaulty s h p u) e x));
  tabled = λ u e. subst (λ u. IsTabled s h u) (sym e) k;
}

pub over_both : (A B C : Tok → Type 0) (s : Block) (h : HeldMap) (x y r : Option Blame) → IsFirstOver A s h x → IsFirstOver B s h y → IsEarlier x y r → ((t : Tok) → C t → A t ⊎ B t) → IsFirstOver C s h r
over_both A B C s h x y r f g e split = record {
  there = either_told s h x y r _ e.one f.there g.there;
  first = λ p t c z. ⊎_elim (λ a. e.first p t (inl (f.first p t a z))) (λ b. e.first p t (inr (g.first p t b z))) (split t c);
  tabled = λ t c. ⊎_elim (λ a. f.tabled t a) (λ b. g.tabled t b) (split t c);
}

less_or : (k n : ℕ) → k < n + 1 → (k < n) ⊎ (k ≡ n)
less_or k n p = ⊎_elim (λ q. inl q) (λ q. inr (omega (arith, p, q))) (cases_lt k n)

pub key_next : (n : ℕ) (t : Tok) → IsKeyBelow (n + 1) t → IsKeyBelow n t ⊎ (t ≡ a_key n)
key_next n (a_key k) p = ⊎_elim (λ q. inl q) (λ q. inr (ap a_key q)) (less_or k n p)
key_next n (a_var v) p = absurd p

pub var_next : (n : ℕ) (t : Tok) → IsVarBelow (n + 1) t → IsVarBelow n t ⊎ (t ≡ a_var n)
var_next n (a_var v) p = ⊎_elim (λ q. inl q) (λ q. inr (ap a_var q)) (less_or v n p)
var_next n (a_key k) p = absurd p

pub no_key : (t : Tok) → IsKeyBelow 0 t → ⊥
no_key (a_key k) p = omega (arith, p)
no_key (a_var v) p = p

pub no_var : (t : Tok) → IsVarBelow 0 t → ⊥
no_var (a_key k) p = p
no_var (a_var v) p = omega (arith, p)

-- ---- one token, by its tables

pub over_token : (s : Block) (h : HeldMap) (t : Tok) (m : D.Ones) (k : Marks) (y : Option Blame) → ((o : One) → In (many_of m) o ↔ Has (h t) o) → FirstOfBlock t 0 s (In (many_of m)) y → IsFoundIn t s (In (many_of m)) (stock_of k) → IsFirstOver (λ u. u ≡ t) s h y
over_token s h t m k y e f found =
    over_one s h t y (block_first_same t 0 s (In (many_of m)) (Has (h t)) y (record { there = λ o x. (e o).0 x; back = λ o x. (e o).1 x }) f)
    (record { tables = k; found = found_same t s (In (many_of m)) (Has (h t)) (stock_of k) e found })

pub fits_found : (t : Tok) (s : Block) (m : D.Ones) (k : Marks) → IsFoundIn t s (In (many_of m)) (stock_of k) → FittingBlock k t s (record { stmt = 0; spot = 0; ones = m })
fits_found t s m k f = fits_block s (λ i. In (table k.around i)) (λ i. In (table k.following i)) t 0 (In (many_of m))
    (record { there = λ i o p q x. (f.around i o).0 x; back = λ i o x. (f.around i o).1 x })
    (record { there = λ i o p q x. (f.following i o).0 x; back = λ i o x. (f.following i o).1 x })

pub room_found : (s : Block) (h : HeldMap) (e : Whole) (m : D.Ones) (k : Marks) → IsWhole s h e → length k.around ≡ size_block s → length k.following ≡ length k.around → HasRoom k (size_block s) (spots_block s) (record { stmt = 0; spot = 0; ones = m })
room_found s h e m k w long following = let a = w.few in let b = w.few_spots in record { fits = omega (arith, long); long = following; few = omega (arith, long, a); numbers = omega (arith, b) }

-- ---- tokens that no row names

later_tok : (x : Option Blame) (p : Spot) (t u : Tok) → IsNoLaterTok t u → NoLaterThan x p t → NoLaterThan x p u
later_tok None p t u e n = n
later_tok (Some b) p t u e n = later_trans (spot_of b) p p (tok_of b.tok) t u n (inr (refl, inr (refl, inr (refl, e))))

beyond_later : (keys vars : ℕ) (u : Tok) → IsBeyond keys vars u → IsNoLaterTok (a_key keys) u
beyond_later keys vars (a_key k) b = b
beyond_later keys vars (a_var v) b = tt

found_named : (t u : Tok) (s : Block) (S : Ones) (k : Stock) → AvoidsBlock t s → AvoidsBlock u s → IsFoundIn t s S k → IsFoundIn u s S k
found_named t u s S k p q f = record {
  around = λ i o. subst (λ F. In (k.around i) o ↔ F S i o) (heads_block_named t u s 0 p q) (f.around i o);
  following = λ i o. subst (λ F. In (k.following i) o ↔ F S i o) (exits_block_named t u s 0 p q) (f.following i o);
}

-- the key of the first number past all stands for each token beyond
pub over_beyond : (s : Block) (h : HeldMap) (e : Whole) (x : Option Blame) → IsWhole s h e → IsFirstOver (λ u. u ≡ a_key e.keys) s h x → IsFirstOver (IsBeyond e.keys e.vars) s h x
over_beyond s h e x w f = record {
  there = f.there;
  first = λ p u b z. later_tok x p (a_key e.keys) u (beyond_later e.keys e.vars u b) (f.first p (a_key e.keys) refl (named p u b z));
  tabled = λ u b. let k = f.tabled (a_key e.keys) refl in record {
    tables = k.tables;
    found = subst (λ v. IsFoundIn u s (Has v) (stock_of (f.tabled (a_key e.keys) refl).tables)) (same u b) (found_named (a_key e.keys) u s (Has (h (a_key e.keys))) (stock_of (f.tabled (a_key e.keys) refl).tables) (w.avoids (a_key e.keys) least) (w.avoids u b) k.found);
  };
}
  where
    least : IsBeyond e.keys e.vars (a_key e.keys)
    least = omega arith

    same : (u : Tok) → IsBeyond e.keys e.vars u → h (a_key e.keys) ≡ h u
    same u b = w.absent (a_key e.keys) least ∙ sym (w.absent u b)

    named : (p : Spot) (u : Tok) → IsBeyond e.keys e.vars u → IsFaulty s h p u → IsFaulty s h p (a_key e.keys)
    named p u b z =
        subst (λ F. F (Has (h (a_key e.keys)))) (spot_block_named u (a_key e.keys) IsUnwanted IsMixed p s 0 (w.avoids u b) (w.avoids (a_key e.keys) least))
        (subst (λ v. SpotAtBlock IsUnwanted IsMixed p u 0 s (Has v)) (sym (same u b)) z)

-- each token is a key or a variable below the numbers, or beyond
pub any_token : (keys vars : ℕ) (t : Tok) → (IsKeyBelow keys t ⊎ IsBeyond keys vars t) ⊎ IsVarBelow vars t
any_token keys vars (a_key k) = inl (cases_lt k keys)
any_token keys vars (a_var v) = ⊎_elim (λ p. inr p) (λ p. inl (inr p)) (cases_lt v vars)

-- ---- the whole body

pub past_absent : (h : Statuses) (t : Tok) (keys vars : ℕ) → length h.keys ≤ keys → length h.vars ≤ vars → IsBeyond keys vars t → map_of h t ≡ maps.absent
past_absent h (a_key k) keys vars p q b = ap status_of (get_or_past h.keys k Absent (omega (arith, p, b)))
past_absent h (a_var v) keys vars p q b = ap status_of (get_or_past h.vars v Absent (omega (arith, q, b)))

pub no_place : (h : Statuses) (t : Tok) → (HasPlace h t → ⊥) → map_of h t ≡ maps.absent
no_place h (a_key k) f = ap status_of (get_or_past h.keys k Absent (⊎_elim (λ p. absurd (f p)) (λ p. p) (cases_lt k (length h.keys))))
no_place h (a_var v) f = ap status_of (get_or_past h.vars v Absent (⊎_elim (λ p. absurd (f p)) (λ p. p) (cases_lt v (length h.vars))))

-- counts that are small, or large
count_small : (c n : ℕ) → IsCount c n → c < 2 ^ 62 → c ≡ n
count_small c n p lt = ⊎_elim (λ e. e) (λ l. absurd (never l.0)) p
  where
    never : 2 ^ 62 ≤ c → ⊥
    never l = omega (arith, l, lt)

count_large : (c n : ℕ) → IsCount c n → 2 ^ 62 ≤ c → 2 ^ 62 ≤ n
count_large c n p l = ⊎_elim (λ e. subst (λ k. 2 ^ 62 ≤ k) e l) (λ q. q.1) p

beyond_left : (keys vars m n : ℕ) (t : Tok) → IsBeyond (max keys m) (max vars n) t → IsBeyond keys vars t
beyond_left keys vars m n (a_key k) b = grind (arith, b)
beyond_left keys vars m n (a_var v) b = grind (arith, b)

at_most : (n m k : ℕ) → max n m ≤ k → m ≤ k
at_most n m k p = grind (arith, p)

pub whole : (s : Block) (h : Statuses) (x : Extent) (w : Whole) → IsExtent (size_block s) (spots_block s) (λ t. AvoidsBlock t s) x → x.stmts < 2 ^ 62 → x.spots < 2 ^ 62 → w.stmts ≡ x.stmts → w.keys ≡ max x.keys (length h.keys) → w.vars ≡ max x.vars (length h.vars) → IsWhole s (map_of h) w
whole s h x w is few less same keys vars =
    let stmts = count_small x.stmts (size_block s) is.stmts_are few in
    let spots = count_small x.spots (spots_block s) is.spots_are less in
    record {
      stmts = same ∙ stmts;
      few = subst (λ n. n < 2 ^ 62) stmts few;
      few_spots = subst (λ n. n < 2 ^ 62) spots less;
      avoids = λ t b. is.avoids t (beyond_left x.keys x.vars (length h.keys) (length h.vars) t (beyond t b));
      absent = λ t b. past_absent h t (max x.keys (length h.keys)) (max x.vars (length h.vars)) (at_most x.keys (length h.keys) _ (omega arith)) (at_most x.vars (length h.vars) _ (omega arith)) (beyond t b);
    }
  where
    beyond : (t : Tok) → IsBeyond w.keys w.vars t → IsBeyond (max x.keys (length h.keys)) (max x.vars (length h.vars)) t
    beyond t b = subst (λ n. IsBeyond (max x.keys (length h.keys)) n t) vars (subst (λ n. IsBeyond n w.vars t) keys b)

-- why there is no whole extent
pub too_many_statements : (s : Block) (x : Extent) → IsExtent (size_block s) (spots_block s) (λ t. AvoidsBlock t s) x → 2 ^ 62 ≤ x.stmts → HasNoNumber s
too_many_statements s x is l = many_statements (count_large x.stmts (size_block s) is.stmts_are l)

pub too_many_spots : (s : Block) (x : Extent) → IsExtent (size_block s) (spots_block s) (λ t. AvoidsBlock t s) x → 2 ^ 62 ≤ x.spots → HasNoNumber s
too_many_spots s x is l = many_spots (count_large x.spots (spots_block s) is.spots_are l)

past_last : (keys m : ℕ) → keys ≤ 2 ^ 32 → m < 2 ^ 32 → 2 ^ 32 ≤ max keys m → keys ≡ 2 ^ 32
past_last keys m few less l = grind (arith, few, less, l)

pub too_late_key : (s : Block) (h : Statuses) (x : Extent) → IsNumbered h → IsExtent (size_block s) (spots_block s) (λ t. AvoidsBlock t s) x → 2 ^ 32 ≤ max x.keys (length h.keys) → HasNoNumber s
too_late_key s h x r is l = names_last_key (is.names_key (past_last x.keys (length h.keys) is.few_keys r.keys l))

pub too_late_var : (s : Block) (h : Statuses) (x : Extent) → IsNumbered h → IsExtent (size_block s) (spots_block s) (λ t. AvoidsBlock t s) x → 2 ^ 32 ≤ max x.vars (length h.vars) → HasNoNumber s
too_late_var s h x r is l = names_last_var (is.names_var (past_last x.vars (length h.vars) is.few_vars r.vars l))
