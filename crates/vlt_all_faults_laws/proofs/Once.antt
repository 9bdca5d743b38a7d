-- A function has one list of faults.
use Rattle.std.proofs.Common.{◌≡◌, ◌⊎◌, ℕ, MatchBool, Bool, true, false, inl, inr, ⊎_elim, refl, sym, ap, ◌∙◌, subst, Option, Some, None, List, [], ◌∷◌, arith}
use Rattle.vlt_core.specs.Core.{Tok, Func, Program}
use Rattle.vlt_core.specs.Instances.{Bound, bound_in, instance, IsOriginOf, IsOrigin}
use Rattle.vlt_core.specs.Maps.{Row}
use Rattle.vlt_core.specs.Bodies.{body_flow}
use Rattle.vlt_core.specs.Derives.{start_map}
use Rattle.vlt_core.specs.Found.{Ones, Has}
use Rattle.vlt_core.specs.Faults.{Spot, IsMixed, IsUnwanted, IsNoLater, IsFaultIn, IsToldOf, IsNoLaterOrigin, FaultKind, TellsRow, TellsJoin}
use Rattle.vlt_core_laws.proofs.Together.{block_together}
use Rattle.vlt_core_laws.proofs.Told.{one_row, one_join, some_block, one_spot}
use Rattle.vlt_all_faults_laws.specs.Each.{Finding, IsFinding, AreEach, IsAhead, IsAheadOf, AreInOrder, Names, AreFindings, AreFindingsIn}

-- a row or a join is faulty, and this is told of it
abbrev BadRow : FaultKind → FaultKind → Row → Ones → Type 0
BadRow k j r S = (IsUnwanted r S × TellsRow k r S) × TellsRow j r S

abbrev BadJoin : FaultKind → FaultKind → Ones → Type 0
BadJoin k j S = (IsMixed S × TellsJoin k S) × TellsJoin j S

same_kind : (p : Program) (f : Func) (q : Spot) (t : Tok) (k j : FaultKind) → IsFaultIn p f q t → IsToldOf p f k q t → IsToldOf p f j q t → k ≡ j
same_kind p f q t k j x y z =
    let b = body_flow p f in let S = Has (start_map p f t) in
    let a = block_together IsUnwanted (TellsRow k) IsMixed (TellsJoin k) q t b 0 S x y in
    let c = block_together (λ r S. IsUnwanted r S × TellsRow k r S) (TellsRow j) (λ S. IsMixed S × TellsJoin k S) (TellsJoin j) q t b 0 S a z in
    ⊎_elim
    (λ d. let h = d.2 in one_row k j d.0 d.1 h.0.0.0.0 h.0.0.0.1 h.0.1 h.1)
    (λ d. let h = d.1 in one_join k j d.0 h.0.0.1.0 (h.0.0.1.2, h.0.0.1.1) h.0.1 h.1)
    (some_block (BadRow k j) (BadJoin k j) q t b 0 S c)

-- two origins of one function, neither of which is later
same_origin : (p : Program) (f : Func) (b : Option Bound) (o q : Option ℕ) → IsOriginOf p f b o → IsOriginOf p f b q → IsNoLaterOrigin o q → IsNoLaterOrigin q o → o ≡ q
same_origin p f None None None i j x y = refl
same_origin p f (Some b) (Some o) (Some q) i j x y = let n : o ≡ q = omega (arith, x, y) in ap Some n
same_origin p f None (Some o) q i j x y = absurd i
same_origin p f None None (Some q) i j x y = absurd j
same_origin p f (Some b) None q i j x y = absurd i
same_origin p f (Some b) (Some o) None i j x y = absurd j

-- a token has one first fault
one_finding : (p : Program) (f : Func) (x y : Finding) → IsFinding p f x → IsFinding p f y → x.tok ≡ y.tok → x ≡ y
one_finding p f x y a b e =
    let theirs : IsFaultIn p (instance p f y.origin) y.spot x.tok = subst (λ t. IsFaultIn p (instance p f y.origin) y.spot t) (sym e) b.faulty in
    let ours : IsFaultIn p (instance p f x.origin) x.spot y.tok = subst (λ t. IsFaultIn p (instance p f x.origin) x.spot t) e a.faulty in
    let u : IsNoLater x.spot x.tok y.spot x.tok = a.first y.origin y.spot b.is theirs in
    let v : IsNoLater y.spot x.tok x.spot x.tok = subst (λ t. IsNoLater y.spot t x.spot t) (sym e) (b.first x.origin x.spot a.is ours) in
    let s : x.spot ≡ y.spot = (one_spot x.spot y.spot x.tok x.tok u v).0 in
    let n : x.origin ≡ y.origin = same_origin p f (bound_in f.clause) x.origin y.origin a.is b.is
    (a.origins y.origin b.is (subst (λ q. IsFaultIn p (instance p f y.origin) q x.tok) (sym s) theirs))
    (b.origins x.origin a.is (subst (λ q. IsFaultIn p (instance p f x.origin) q y.tok) s ours)) in
    let told : IsToldOf p (instance p f x.origin) y.kind x.spot x.tok =
    subst (λ o. IsToldOf p (instance p f o) y.kind x.spot x.tok) (sym n)
    (subst (λ q. IsToldOf p (instance p f y.origin) y.kind q x.tok) (sym s)
    (subst (λ t. IsToldOf p (instance p f y.origin) y.kind y.spot t) (sym e) b.told)) in
    let k : x.kind ≡ y.kind = same_kind p (instance p f x.origin) x.spot x.tok x.kind y.kind a.faulty a.told told in
    λ i. record { origin = n i; spot = s i; tok = e i; kind = k i }

-- ---- lists

module _ (p : Program) (f : Func) where
  -- one of those behind y has the token of x, and so is x
  behind : (x y : Finding) (ys : List Finding) → IsFinding p f x → AreEach p f ys → IsAheadOf y ys → Names x.tok ys → IsAhead y x
  behind x y [] a each ahead n = absurd n
  behind x y (z ∷ ys) a each ahead n = ⊎_elim
      (λ e. subst (IsAhead y) (one_finding p f z x each.0 a e) ahead.0)
      (λ m. behind x y ys a each.1 ahead.1 m) n

  pub head_or : (x y : Finding) (ys : List Finding) → IsFinding p f x → AreEach p f (y ∷ ys) → IsAheadOf y ys → Names x.tok (y ∷ ys) → (y ≡ x) ⊎ IsAhead y x
  head_or x y ys a each ahead names = ⊎_elim
      (λ e. inl (one_finding p f y x each.0 a e))
      (λ n. inr (behind x y ys a each.1 ahead n)) names

  never : (x y : Finding) → IsAhead x y → IsAhead y x → ⊥
  never x y u v = u.1 ((one_spot x.spot y.spot x.tok y.tok u.0 v.0).1)

  heads_same : (x y : Finding) (xs ys : List Finding) → AreEach p f (x ∷ xs) → AreEach p f (y ∷ ys) → IsAheadOf x xs → IsAheadOf y ys →
      Names x.tok (y ∷ ys) → Names y.tok (x ∷ xs) → x ≡ y
  heads_same x y xs ys a b o q to from = ⊎_elim
      (λ e. sym e)
      (λ v. ⊎_elim (λ e. e) (λ u. absurd (never x y u v)) (head_or y x xs b.0 a o from))
      (head_or x y ys a.0 b q to)

  -- none behind x has its token
  apart : (x : Finding) (t : Tok) (xs : List Finding) → IsAheadOf x xs → Names t xs → x.tok ≡ t → ⊥
  apart x t [] ahead n e = n
  apart x t (z ∷ xs) ahead n e = ⊎_elim (λ d. ahead.0.1 (e ∙ sym d)) (λ m. apart x t xs ahead.1 m e) n

  tail_names : (x y : Finding) (xs ys : List Finding) (t : Tok) → x ≡ y → IsAheadOf x xs → ((t : Tok) → Names t (x ∷ xs) → Names t (y ∷ ys)) → Names t xs → Names t ys
  tail_names x y xs ys t e ahead g n = ⊎_elim
      (λ d. absurd (apart x t xs ahead n (ap (λ z. z.tok) e ∙ d)))
      (λ m. m) (g t (inr n))

  one_list : (xs ys : List Finding) → AreEach p f xs → AreEach p f ys → AreInOrder xs → AreInOrder ys →
      ((t : Tok) → Names t xs → Names t ys) → ((t : Tok) → Names t ys → Names t xs) → xs ≡ ys
  one_list [] [] a b o q to from = refl
  one_list [] (y ∷ ys) a b o q to from = absurd (from y.tok (inl refl))
  one_list (x ∷ xs) [] a b o q to from = absurd (to x.tok (inl refl))
  one_list (x ∷ xs) (y ∷ ys) a b o q to from =
      let e = heads_same x y xs ys a b o.0 q.0 (to x.tok (inl refl)) (from y.tok (inl refl)) in
      let rest = one_list xs ys a.1 b.1 o.1 q.1 (λ t n. tail_names x y xs ys t e o.0 to n) (λ t n. tail_names y x ys xs t (sym e) q.0 from n) in
      λ i. e i ∷ rest i

  -- a token that is named is faulty in some instance
  pub named_is_faulty : (t : Tok) (xs : List Finding) → AreEach p f xs → Names t xs →
      (o : Option ℕ) × IsOrigin p f o × ((q : Spot) × IsFaultIn p (instance p f o) q t)
  named_is_faulty t [] each n = absurd n
  named_is_faulty t (x ∷ xs) each n = ⊎_elim
      (λ e. (x.origin, each.0.is, (x.spot, subst (λ t. IsFaultIn p (instance p f x.origin) x.spot t) e each.0.faulty)))
      (λ m. named_is_faulty t xs each.1 m) n

  names_in : (xs ys : List Finding) → AreFindings p f xs → AreFindings p f ys → (t : Tok) → Names t xs → Names t ys
  names_in xs ys a b t n = let y = named_is_faulty t xs a.each n in b.all t y.0 y.2.0 y.1 y.2.1

  pub one_findings : (xs ys : List Finding) → AreFindings p f xs → AreFindings p f ys → xs ≡ ys
  one_findings xs ys a b = one_list xs ys a.each b.each a.order b.order (names_in xs ys a b) (names_in ys xs b a)

-- ---- programs

one_findings_of : (p : Program) (f : Func) (b : Bool) (xs ys : List Finding) → MatchBool b (xs ≡ []) (AreFindings p f xs) → MatchBool b (ys ≡ []) (AreFindings p f ys) → xs ≡ ys
one_findings_of p f true xs ys x y = x ∙ sym y
one_findings_of p f false xs ys x y = one_findings p f xs ys x y

pub one_listing : (p : Program) (fs : List Func) (a b : List (List Finding)) → AreFindingsIn p fs a → AreFindingsIn p fs b → a ≡ b
one_listing p [] [] [] x y = refl
one_listing p [] (xs ∷ a) b x y = absurd x
one_listing p [] [] (ys ∷ b) x y = absurd y
one_listing p (f ∷ fs) [] b x y = absurd x
one_listing p (f ∷ fs) (xs ∷ a) [] x y = absurd y
one_listing p (f ∷ fs) (xs ∷ a) (ys ∷ b) x y =
    let e = one_findings_of p f f.external xs ys x.0 y.0 in
    let rest = one_listing p fs a b x.1 y.1 in
    λ i. e i ∷ rest i
