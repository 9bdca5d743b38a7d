-- A program has at most one first fault.
use Rattle.std.proofs.Common.{◌≡◌, ◌<◌, ℕ, ⊎_elim, refl, sym, ap, ◌∙◌, subst, Option, Some, None, slice_get, arith}
use Rattle.vlt_core.specs.Core.{Tok, Func, Program}
use Rattle.vlt_core.specs.Instances.{Bound, bound_in, instance, IsOriginOf}
use Rattle.vlt_core.specs.Maps.{Row}
use Rattle.vlt_core.specs.Bodies.{body_flow}
use Rattle.vlt_core.specs.Derives.{start_map}
use Rattle.vlt_core.specs.Found.{Ones, Has}
use Rattle.vlt_core.specs.Faults.{Spot, IsMixed, IsUnwanted, IsFaultIn, IsToldOf, IsFirstIn, FlowFault, IsNoLaterOrigin, IsFirstOfAll, IsFirstFault, FaultKind, TellsRow, TellsJoin}
use Rattle.vlt_core_laws.proofs.Together.{block_together}
use Rattle.vlt_core_laws.proofs.Told.{one_row, one_join, some_block, one_spot}

-- a row or a join is faulty, and this is told of it
abbrev pub BadRow : FaultKind → FaultKind → Row → Ones → Type 0
BadRow k j r S = (IsUnwanted r S × TellsRow k r S) × TellsRow j r S

abbrev pub BadJoin : FaultKind → FaultKind → Ones → Type 0
BadJoin k j S = (IsMixed S × TellsJoin k S) × TellsJoin j S

one_kind : (p : Program) (f : Func) (q : Spot) (t : Tok) (k j : FaultKind) → IsFaultIn p f q t → IsToldOf p f k q t → IsToldOf p f j q t → k ≡ j
one_kind p f q t k j x y z =
    let b = body_flow p f in let S = Has (start_map p f t) in
    let a = block_together IsUnwanted (TellsRow k) IsMixed (TellsJoin k) q t b 0 S x y in
    let c = block_together (λ r S. IsUnwanted r S × TellsRow k r S) (TellsRow j) (λ S. IsMixed S × TellsJoin k S) (TellsJoin j) q t b 0 S a z in
    ⊎_elim
    (λ d. let h = d.2 in one_row k j d.0 d.1 h.0.0.0.0 h.0.0.0.1 h.0.1 h.1)
    (λ d. let h = d.1 in one_join k j d.0 h.0.0.1.0 (h.0.0.1.2, h.0.0.1.1) h.0.1 h.1)
    (some_block (BadRow k j) (BadJoin k j) q t b 0 S c)

pub one_first : (p : Program) (f : Func) (a b : ℕ) (t u : Tok) (k j : FaultKind) → IsFirstIn p f a t k → IsFirstIn p f b u j → (a ≡ b) × (t ≡ u) × (k ≡ j)
one_first p f a b t u k j x y =
    let same = one_spot x.spot y.spot t u (x.first y.spot u y.faulty) (y.first x.spot t x.faulty) in
    let moved : IsToldOf p f j x.spot t = subst (λ t. IsToldOf p f j x.spot t) (sym same.1) (subst (λ q. IsToldOf p f j q u) (sym same.0) y.told) in
    (sym x.place ∙ (λ i. (same.0 i).at) ∙ y.place, same.1, one_kind p f x.spot t k j x.faulty x.told moved)

one_func : (p : Program) (x y : FlowFault) → IsFirstFault p x → IsFirstFault p y → x.function < y.function → ⊥
one_func p x y a b lt =
    b.before x.function a.func x.origin lt a.there a.with_body a.first.is (a.first.first.spot, (x.tok, a.first.first.faulty))

some_same : (f g : Func) → Some f ≡ Some g → f ≡ g
some_same f g e = grind arith

-- two origins of one function, neither of which is later
one_origin : (p : Program) (f : Func) (b : Option Bound) (o q : Option ℕ) → IsOriginOf p f b o → IsOriginOf p f b q → IsNoLaterOrigin o q → IsNoLaterOrigin q o → o ≡ q
one_origin p f None None None i j x y = refl
one_origin p f (Some b) (Some o) (Some q) i j x y = let n : o ≡ q = omega (arith, x, y) in ap Some n
one_origin p f None (Some o) q i j x y = absurd i
one_origin p f None None (Some q) i j x y = absurd j
one_origin p f (Some b) None q i j x y = absurd i
one_origin p f (Some b) (Some o) None i j x y = absurd j

one_of_all : (p : Program) (f : Func) (o q : Option ℕ) (a b : ℕ) (t u : Tok) (k j : FaultKind) → IsFirstOfAll p f o a t k → IsFirstOfAll p f q b u j →
    (o ≡ q) × (a ≡ b) × (t ≡ u) × (k ≡ j)
one_of_all p f o q a b t u k j x y =
    let same = one_spot x.first.spot y.first.spot t u (x.least q y.first.spot u y.is y.first.faulty) (y.least o x.first.spot t x.is x.first.faulty) in
    let there : IsFaultIn p (instance p f q) x.first.spot t = subst (λ t. IsFaultIn p (instance p f q) x.first.spot t) (sym same.1) (subst (λ s. IsFaultIn p (instance p f q) s u) (sym same.0) y.first.faulty) in
    let back : IsFaultIn p (instance p f o) y.first.spot u = subst (λ t. IsFaultIn p (instance p f o) y.first.spot t) same.1 (subst (λ s. IsFaultIn p (instance p f o) s t) same.0 x.first.faulty) in
    let n = one_origin p f (bound_in f.clause) o q x.is y.is (x.origins q y.is there) (y.origins o x.is back) in
    let rest = one_first p (instance p f o) a b t u k j x.first (subst (λ q. IsFirstIn p (instance p f q) b u j) (sym n) y.first) in
    (n, rest.0, rest.1, rest.2)

pub one_fault : (p : Program) (x y : FlowFault) → IsFirstFault p x → IsFirstFault p y → x ≡ y
one_fault p x y a b =
    let n : x.function ≡ y.function = omega (arith, one_func p x y a b, one_func p y x b a) in
    let f : a.func ≡ b.func = some_same a.func b.func (sym a.there ∙ subst (λ n. slice_get p.fns x.function ≡ slice_get p.fns n) n refl ∙ b.there) in
    let same = one_of_all p a.func x.origin y.origin x.at y.at x.tok y.tok x.kind y.kind a.first (subst (λ f. IsFirstOfAll p f y.origin y.at y.tok y.kind) (sym f) b.first) in
    λ i. record { function = n i; origin = same.0 i; at = same.1 i; tok = same.2 i; kind = same.3 i }
