-- The first fault of a function's body over its instances.
use Rattle.std.proofs.Common.{◌≡◌, ◌<◌, ◌≤◌, ◌+◌, ℕ, zero, suc, List, [], ◌∷◌, length, Option, Some, None, IfSome, slice_get, ◌⊎◌, inl, inr, ⊎_elim, sym, ◌∙◌, subst, arith}
use Rattle.std.proofs.lemmas.Bool.{cases_lt}
use Rattle.vlt_core.specs.Core.{Tok, Func, Program}
use Rattle.vlt_core.specs.Instances.{instance, IsOrigin, origins}
use Rattle.vlt_core.specs.Local.{Notes, IsLocalIn}
use Rattle.vlt_core.specs.Faults.{Spot, IsNoLater, IsNoLaterOrigin, IsFaultIn, HasFault, IsFirstOfAll}
use Rattle.vlt_core.specs.View.{tok_of}
use Rattle.vlt_core.specs.FaultView.{kind_of}
use Rattle.vlt_core_laws.proofs.Origins.{origin_at, origin_is, origin_later}
use Rattle.vlt_faults.specs.declared.judge.blame.Blame.{Blame}
use Rattle.vlt_faults.specs.declared.judge.InstanceBlame.{InstanceBlame}
use Rattle.vlt_faults.specs.Judge.Blames.{spot_of}
use Rattle.vlt_faults.specs.Judge.Faulty.{IsFitIn, AreFitIn, IsUntold, HasUntold}
use Rattle.vlt_faults.specs.Judge.Instances.{IsFirstBlame, IsSooner, IsNext, IsToldAt, AreJudgedTo, AreJudged}
use Rattle.vlt_faults.proofs.OfJudge.Firsts.{later_trans}
use Rattle.vlt_faults.proofs.OfJudge.Whole.{first_at, always_told}

below_or : (i n : ℕ) → i < n + 1 → (i < n) ⊎ (i ≡ n)
below_or i n less = ⊎_elim (λ p. inl p) (λ p. inr (omega (arith, p, less))) (cases_lt i n)

some_same : {X : Type 0} {x y : X} → Some x ≡ Some y → x ≡ y
some_same e = cc

some_none : {X : Type 0} {x : X} → (let o : Option X = Some x in o ≡ None) → ⊥
some_none e = cc

none_below : (i : ℕ) → i < 0 → ⊥
none_below i less = omega (arith, less)

some_there : {X : Type 0} (xs : List X) (i : ℕ) (x : X) → slice_get xs i ≡ Some x → i < length xs
some_there [] i x e = absurd (some_none (sym e))
some_there (y ∷ xs) zero x e = omega arith
some_there (y ∷ xs) (suc i) x e = let n = some_there xs i x e in omega (arith, n)

module _ (p : Program) (f : Func) where
  pub judged_first : AreJudgedTo p f 0 None
  judged_first = record {
    there = tt;
    first = λ i o less at q u fault. absurd (none_below i less);
    none = λ e i o less at. absurd (none_below i less);
  }

  told_on : (n : ℕ) (y : InstanceBlame) → IsToldAt p f n y → IsToldAt p f (n + 1) y
  told_on n y t = record { position = t.position; among = (let l = t.among in omega (arith, l)); at = t.at; first = t.first; alone = t.alone }

  module _ (n : ℕ) (o : Option ℕ) (at : slice_get (origins p f) n ≡ Some o) where
    -- what is so of the instances before, and of this one
    so_far : (P : ℕ → Option ℕ → Type 0) → ((i : ℕ) (q : Option ℕ) → i < n → slice_get (origins p f) i ≡ Some q → P i q) → P n o →
        (i : ℕ) (q : Option ℕ) → i < n + 1 → slice_get (origins p f) i ≡ Some q → P i q
    so_far P before here i q less there = ⊎_elim
        (λ early. before i q early there)
        (λ same. subst (λ i. P i q) (sym same) (subst (P n) (some_same (sym at ∙ subst (λ i. slice_get (origins p f) i ≡ Some q) same there)) here))
        (below_or i n less)

    told_here : (b : Blame) → IsFirstBlame p f o (Some b) →
        ((j : ℕ) (q : Option ℕ) → j < n → slice_get (origins p f) j ≡ Some q → IsFaultIn p (instance p f q) (spot_of b) (tok_of b.tok) → ⊥) →
        IsToldAt p f (n + 1) (record { origin = o; blame = b })
    told_here b here none = record { position = n; among = omega arith; at = at; first = here; alone = none }

    more_none : (x : Option InstanceBlame) → IsFirstBlame p f o None → AreJudgedTo p f n x → AreJudgedTo p f (n + 1) x
    more_none None here c = record {
      there = tt;
      first = so_far (λ i q. (s : Spot) (u : Tok) → IsFaultIn p (instance p f q) s u → ⊥) c.first (λ s u fault. here.first s u tt fault);
      none = λ e. so_far (λ i q. IsFirstBlame p f q None) (c.none e) here;
    }
    more_none (Some y) here c = record {
      there = told_on n y c.there;
      first = so_far (λ i q. (s : Spot) (u : Tok) → IsFaultIn p (instance p f q) s u → IsNoLater (spot_of y.blame) (tok_of y.blame.tok) s u)
          c.first (λ s u fault. absurd (here.first s u tt fault));
      none = λ e. absurd (some_none e);
    }

    more_first : (b : Blame) → IsFirstBlame p f o (Some b) → AreJudgedTo p f n None → AreJudgedTo p f (n + 1) (Some (record { origin = o; blame = b }))
    more_first b here c = record {
      there = told_here b here (λ j q less there fault. c.first j q less there (spot_of b) (tok_of b.tok) fault);
      first = so_far (λ i q. (s : Spot) (u : Tok) → IsFaultIn p (instance p f q) s u → IsNoLater (spot_of b) (tok_of b.tok) s u)
          (λ i q less there s u fault. absurd (c.first i q less there s u fault)) (λ s u fault. here.first s u tt fault);
      none = λ e. absurd (some_none e);
    }

    more_kept : (y : InstanceBlame) (b : Blame) → IsFirstBlame p f o (Some b) → IsNoLater (spot_of y.blame) (tok_of y.blame.tok) (spot_of b) (tok_of b.tok) →
        AreJudgedTo p f n (Some y) → AreJudgedTo p f (n + 1) (Some y)
    more_kept y b here before c = record {
      there = told_on n y c.there;
      first = so_far (λ i q. (s : Spot) (u : Tok) → IsFaultIn p (instance p f q) s u → IsNoLater (spot_of y.blame) (tok_of y.blame.tok) s u)
          c.first (λ s u fault. later_trans (spot_of y.blame) (spot_of b) s (tok_of y.blame.tok) (tok_of b.tok) u before (here.first s u tt fault));
      none = λ e. absurd (some_none e);
    }

    more_next : (y : InstanceBlame) (b : Blame) → IsFirstBlame p f o (Some b) → IsNoLater (spot_of b) (tok_of b.tok) (spot_of y.blame) (tok_of y.blame.tok) →
        (IsNoLater (spot_of y.blame) (tok_of y.blame.tok) (spot_of b) (tok_of b.tok) → ⊥) →
        AreJudgedTo p f n (Some y) → AreJudgedTo p f (n + 1) (Some (record { origin = o; blame = b }))
    more_next y b here before never c = record {
      there = told_here b here (λ j q less there fault. never (c.first j q less there (spot_of b) (tok_of b.tok) fault));
      first = so_far (λ i q. (s : Spot) (u : Tok) → IsFaultIn p (instance p f q) s u → IsNoLater (spot_of b) (tok_of b.tok) s u)
          (λ i q less there s u fault. later_trans (spot_of b) (spot_of y.blame) s (tok_of b.tok) (tok_of y.blame.tok) u before (c.first i q less there s u fault))
          (λ s u fault. here.first s u tt fault);
      none = λ e. absurd (some_none e);
    }

    pub judged_more : (x r : Option InstanceBlame) (b : Option Blame) → IsFirstBlame p f o b → IsNext x o b r → AreJudgedTo p f n x → AreJudgedTo p f (n + 1) r
    judged_more x r None first next c = subst (AreJudgedTo p f (n + 1)) (sym next) (more_none x first c)
    judged_more None r (Some b) first next c = subst (AreJudgedTo p f (n + 1)) (sym next) (more_first b first c)
    judged_more (Some y) r (Some b) first next c = subst (AreJudgedTo p f (n + 1)) (sym next.1) (by next.2)
      where
        by : IsSooner y (record { origin = o; blame = b }) next.0 → AreJudgedTo p f (n + 1) (Some next.0)
        by (inl kept) = subst (λ z. AreJudgedTo p f (n + 1) (Some z)) (sym kept.0) (more_kept y b first kept.1 c)
        by (inr new) = subst (λ z. AreJudgedTo p f (n + 1) (Some z)) (sym new.0) (more_next y b first new.1.0 new.1.1 c)

    pub untold_at : IsUntold p (instance p f o) → HasUntold p f
    untold_at u = record { origin = o; is = origin_is p f n o at; untold = u }

  pub judged_ends : (n : ℕ) (x : Option InstanceBlame) → length (origins p f) ≤ n → AreJudgedTo p f n x → AreJudged p f x
  judged_ends n x past c = record {
    there = told x c.there;
    first = λ i o less at. c.first i o (omega (arith, less, past)) at;
    none = λ e i o less at. c.none e i o (omega (arith, less, past)) at;
  }
    where
      told : (x : Option InstanceBlame) → IfSome x (IsToldAt p f n) → IfSome x (IsToldAt p f (length (origins p f)))
      told None t = t
      told (Some y) t = record { position = t.position; among = some_there (origins p f) t.position y.origin t.at; at = t.at; first = t.first; alone = t.alone }

  -- ---- all instances

  module _ (x : Option InstanceBlame) (c : AreJudged p f x) where
    no_later : (y : InstanceBlame) → x ≡ Some y → (o : Option ℕ) (q : Spot) (u : Tok) → IsOrigin p f o → IsFaultIn p (instance p f o) q u →
        IsNoLater (spot_of y.blame) (tok_of y.blame.tok) q u
    no_later y is o q u origin fault =
        let i = origin_at p f o origin in
        (subst (AreJudged p f) is c).first i.0 o (some_there (origins p f) i.0 o i.1) i.1 q u fault

    no_later_origin : (y : InstanceBlame) → x ≡ Some y → (o : Option ℕ) → IsOrigin p f o → IsFaultIn p (instance p f o) (spot_of y.blame) (tok_of y.blame.tok) →
        IsNoLaterOrigin y.origin o
    no_later_origin y is o origin fault =
        let there = (subst (AreJudged p f) is c).there in
        let i = origin_at p f o origin in
        ⊎_elim (λ early. absurd (there.alone i.0 o early i.1 fault)) (λ from. origin_later p f there.position i.0 y.origin o from there.at i.1) (cases_lt i.0 there.position)

    pub first_of_all : (y : InstanceBlame) → x ≡ Some y → AreFitIn p f → IsFirstOfAll p f y.origin y.blame.at (tok_of y.blame.tok) (kind_of y.blame.kind)
    first_of_all y is fit =
        let there = (subst (AreJudged p f) is c).there in
        let origin = origin_is p f there.position y.origin there.at in
        let told = first_at p (instance p f y.origin) y.blame there.first (fit y.origin origin) in
        record {
          is = origin;
          first = told.0;
          least = λ o q u own fault. subst (λ s. IsNoLater s (tok_of y.blame.tok) q u) (sym told.1) (no_later y is o q u own fault);
          origins = λ o own fault. no_later_origin y is o own (subst (λ s. IsFaultIn p (instance p f o) s (tok_of y.blame.tok)) told.1 fault);
        }

    pub none_of_all : x ≡ None → (o : Option ℕ) → IsOrigin p f o → HasFault p (instance p f o) → ⊥
    none_of_all is o origin fault =
        let i = origin_at p f o origin in
        (subst (AreJudged p f) is c).first i.0 o (some_there (origins p f) i.0 o i.1) i.1 fault.0 fault.1.0 fault.1.1

    pub always_of_all : x ≡ None → (o : Option ℕ) → IsOrigin p f o → IsFitIn p (instance p f o) → ((a : Notes) → IsLocalIn p (instance p f o) a → ⊥) → ⊥
    always_of_all is o origin fit never =
        let i = origin_at p f o origin in
        always_told p (instance p f o) (c.none is i.0 o (some_there (origins p f) i.0 o i.1) i.1) fit never
