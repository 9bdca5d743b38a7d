-- The first fault of one token over the instances of a function.
use Rattle.std.proofs.Common.{◌≡◌, ◌<◌, ◌≤◌, ◌+◌, ℕ, zero, suc, List, [], ◌∷◌, length, Option, Some, None, IfSome, slice_get, ◌⊎◌, inl, inr, ⊎_elim, refl, sym, ap, ◌∙◌, subst, arith}
use Rattle.std.proofs.lemmas.Bool.{cases_lt}
use Rattle.vlt_core.specs.Core.{Tok, Func, Program}
use Rattle.vlt_core.specs.Instances.{instance, IsOrigin, origins}
use Rattle.vlt_core.specs.Faults.{Spot, IsNoLater, IsNoLaterOrigin, IsFaultIn, IsToldOf}
use Rattle.vlt_core.specs.View.{tok_of}
use Rattle.vlt_core.specs.FaultView.{kind_of}
use Rattle.vlt_core_laws.proofs.Origins.{origin_at, origin_is, origin_later}
use Rattle.vlt_faults.specs.declared.judge.blame.Blame.{Blame}
use Rattle.vlt_faults.specs.declared.judge.InstanceBlame.{InstanceBlame}
use Rattle.vlt_faults.specs.Judge.Blames.{spot_of}
use Rattle.vlt_faults.specs.Judge.Faulty.{AreFitIn, IsUntold, HasUntold}
use Rattle.vlt_faults.specs.Judge.Instances.{IsSooner, IsNext}
use Rattle.vlt_faults.proofs.OfJudge.Firsts.{later_trans}
use Rattle.vlt_faults.proofs.OfJudge.Whole.{told_at}
use Rattle.vlt_all_faults_laws.specs.Each.{IsFinding}
use Rattle.vlt_all_faults_laws.specs.Listing.{HasNone}
use Rattle.vlt_all_faults.specs.Tokens.{finding_of, IsFirstBlameOf, IsToldOfAt, IsJudgedTo, IsJudgedOf}

pub below_or : (i n : ℕ) → i < n + 1 → (i < n) ⊎ (i ≡ n)
below_or i n less = ⊎_elim (λ p. inl p) (λ p. inr (omega (arith, p, less))) (cases_lt i n)

pub some_same : {X : Type 0} {x y : X} → Some x ≡ Some y → x ≡ y
some_same e = cc

some_none : {X : Type 0} {x : X} → (let o : Option X = Some x in o ≡ None) → ⊥
some_none e = cc

pub none_below : (i : ℕ) → i < 0 → ⊥
none_below i less = omega (arith, less)

pub some_there : {X : Type 0} (xs : List X) (i : ℕ) (x : X) → slice_get xs i ≡ Some x → i < length xs
some_there [] i x e = absurd (some_none (sym e))
some_there (y ∷ xs) zero x e = omega arith
some_there (y ∷ xs) (suc i) x e = let n = some_there xs i x e in omega (arith, n)

module _ (p : Program) (f : Func) (t : Tok) where
  pub judged_first : IsJudgedTo p f t 0 None
  judged_first = record { there = tt; first = λ i o less at q fault. absurd (none_below i less) }

  told_on : (n : ℕ) (y : InstanceBlame) → IsToldOfAt p f t n y → IsToldOfAt p f t (n + 1) y
  told_on n y w = record { position = w.position; among = (let l = w.among in omega (arith, l)); at = w.at; own = w.own; first = w.first; alone = w.alone }

  module _ (n : ℕ) (o : Option ℕ) (at : slice_get (origins p f) n ≡ Some o) where
    so_far : (P : ℕ → Option ℕ → Type 0) → ((i : ℕ) (q : Option ℕ) → i < n → slice_get (origins p f) i ≡ Some q → P i q) → P n o →
        (i : ℕ) (q : Option ℕ) → i < n + 1 → slice_get (origins p f) i ≡ Some q → P i q
    so_far P before here i q less there = ⊎_elim
        (λ early. before i q early there)
        (λ same. subst (λ i. P i q) (sym same) (subst (P n) (some_same (sym at ∙ subst (λ i. slice_get (origins p f) i ≡ Some q) same there)) here))
        (below_or i n less)

    told_here : (b : Blame) → tok_of b.tok ≡ t → IsFirstBlameOf p f t o (Some b) →
        ((j : ℕ) (q : Option ℕ) → j < n → slice_get (origins p f) j ≡ Some q → IsFaultIn p (instance p f q) (spot_of b) t → ⊥) →
        IsToldOfAt p f t (n + 1) (record { origin = o; blame = b })
    told_here b own here none = record { position = n; among = omega arith; at = at; own = own; first = here; alone = none }

    -- a token's blame is of the token
    abbrev IsOwn : Option Blame → Type 0
    IsOwn x = IfSome x (λ b. tok_of b.tok ≡ t)

    more_none : (x : Option InstanceBlame) → IsFirstBlameOf p f t o None → IsJudgedTo p f t n x → IsJudgedTo p f t (n + 1) x
    more_none None here c = record {
      there = tt;
      first = so_far (λ i q. (s : Spot) → IsFaultIn p (instance p f q) s t → ⊥) c.first (λ s fault. here.first s t refl fault);
    }
    more_none (Some y) here c = record {
      there = told_on n y c.there;
      first = so_far (λ i q. (s : Spot) → IsFaultIn p (instance p f q) s t → IsNoLater (spot_of y.blame) (tok_of y.blame.tok) s t)
          c.first (λ s fault. absurd (here.first s t refl fault));
    }

    more_first : (b : Blame) → tok_of b.tok ≡ t → IsFirstBlameOf p f t o (Some b) → IsJudgedTo p f t n None → IsJudgedTo p f t (n + 1) (Some (record { origin = o; blame = b }))
    more_first b own here c = record {
      there = told_here b own here (λ j q less there fault. c.first j q less there (spot_of b) fault);
      first = so_far (λ i q. (s : Spot) → IsFaultIn p (instance p f q) s t → IsNoLater (spot_of b) (tok_of b.tok) s t)
          (λ i q less there s fault. absurd (c.first i q less there s fault)) (λ s fault. here.first s t refl fault);
    }

    more_kept : (y : InstanceBlame) (b : Blame) → IsFirstBlameOf p f t o (Some b) → IsNoLater (spot_of y.blame) (tok_of y.blame.tok) (spot_of b) (tok_of b.tok) →
        IsJudgedTo p f t n (Some y) → IsJudgedTo p f t (n + 1) (Some y)
    more_kept y b here before c = record {
      there = told_on n y c.there;
      first = so_far (λ i q. (s : Spot) → IsFaultIn p (instance p f q) s t → IsNoLater (spot_of y.blame) (tok_of y.blame.tok) s t)
          c.first (λ s fault. later_trans (spot_of y.blame) (spot_of b) s (tok_of y.blame.tok) (tok_of b.tok) t before (here.first s t refl fault));
    }

    more_next : (y : InstanceBlame) (b : Blame) → tok_of b.tok ≡ t → IsFirstBlameOf p f t o (Some b) → IsNoLater (spot_of b) (tok_of b.tok) (spot_of y.blame) (tok_of y.blame.tok) →
        (IsNoLater (spot_of y.blame) (tok_of y.blame.tok) (spot_of b) (tok_of b.tok) → ⊥) →
        IsJudgedTo p f t n (Some y) → IsJudgedTo p f t (n + 1) (Some (record { origin = o; blame = b }))
    more_next y b own here before never c = record {
      there = told_here b own here (λ j q less there fault. never (subst (λ u. IsNoLater (spot_of y.blame) (tok_of y.blame.tok) (spot_of b) u) (sym own) (c.first j q less there (spot_of b) fault)));
      first = so_far (λ i q. (s : Spot) → IsFaultIn p (instance p f q) s t → IsNoLater (spot_of b) (tok_of b.tok) s t)
          (λ i q less there s fault. later_trans (spot_of b) (spot_of y.blame) s (tok_of b.tok) (tok_of y.blame.tok) t before (c.first i q less there s fault))
          (λ s fault. here.first s t refl fault);
    }

    pub judged_more : (x r : Option InstanceBlame) (b : Option Blame) → IsOwn b → IsFirstBlameOf p f t o b → IsNext x o b r → IsJudgedTo p f t n x → IsJudgedTo p f t (n + 1) r
    judged_more x r None own first next c = subst (IsJudgedTo p f t (n + 1)) (sym next) (more_none x first c)
    judged_more None r (Some b) own first next c = subst (IsJudgedTo p f t (n + 1)) (sym next) (more_first b own first c)
    judged_more (Some y) r (Some b) own first next c = subst (IsJudgedTo p f t (n + 1)) (sym next.1) (by next.2)
      where
        by : IsSooner y (record { origin = o; blame = b }) next.0 → IsJudgedTo p f t (n + 1) (Some next.0)
        by (inl kept) = subst (λ z. IsJudgedTo p f t (n + 1) (Some z)) (sym kept.0) (more_kept y b first kept.1 c)
        by (inr new) = subst (λ z. IsJudgedTo p f t (n + 1) (Some z)) (sym new.0) (more_next y b own first new.1.0 new.1.1 c)

    pub untold_at : IsUntold p (instance p f o) → HasUntold p f
    untold_at u = record { origin = o; is = origin_is p f n o at; untold = u }

  pub judged_ends : (n : ℕ) (x : Option InstanceBlame) → length (origins p f) ≤ n → IsJudgedTo p f t n x → IsJudgedOf p f t x
  judged_ends n x past c = record {
    there = told x c.there;
    first = λ i o less at. c.first i o (omega (arith, less, past)) at;
  }
    where
      told : (x : Option InstanceBlame) → IfSome x (IsToldOfAt p f t n) → IfSome x (IsToldOfAt p f t (length (origins p f)))
      told None w = w
      told (Some y) w = record { position = w.position; among = some_there (origins p f) w.position y.origin w.at; at = w.at; own = w.own; first = w.first; alone = w.alone }

  -- ---- all instances

  pub none_of : IsJudgedOf p f t None → HasNone p f t
  none_of c o q origin fault =
      let i = origin_at p f o origin in
      c.first i.0 o (some_there (origins p f) i.0 o i.1) i.1 q fault

  pub own_of : (y : InstanceBlame) → IsJudgedOf p f t (Some y) → tok_of y.blame.tok ≡ t
  own_of y c = c.there.own

  pub finding_is : (y : InstanceBlame) → AreFitIn p f → IsJudgedOf p f t (Some y) → IsFinding p f (finding_of y)
  finding_is y fit c =
      let w = c.there in
      let origin = origin_is p f w.position y.origin w.at in
      let told = told_at p (instance p f y.origin) y.blame w.first.there (fit y.origin origin) in
      record {
        is = origin;
        faulty = told.0;
        told = told.1;
        first = λ o q own fault.
            let i = origin_at p f o own in
            subst (λ u. IsNoLater (spot_of y.blame) (tok_of y.blame.tok) q u) (sym w.own)
            (c.first i.0 o (some_there (origins p f) i.0 o i.1) i.1 q (subst (λ u. IsFaultIn p (instance p f o) q u) w.own fault));
        origins = λ o own fault.
            let i = origin_at p f o own in
            ⊎_elim
            (λ early. absurd (w.alone i.0 o early i.1 (subst (λ u. IsFaultIn p (instance p f o) (spot_of y.blame) u) w.own fault)))
            (λ from. origin_later p f w.position i.0 y.origin o from w.at i.1) (cases_lt i.0 w.position);
      }
