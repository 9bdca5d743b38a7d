-- Rows in parts, and errors that are handed on.
use Rattle.std.proofs.Common.{Result, Ok, Err, ◌≡◌, ◌<◌, ◌≤◌, ◌+◌, ◌↔◌, ℕ, List, [], ◌∷◌, map, length, drop, drop-cons, add-one, get_or, suc, refl, sym, ap, ◌∙◌, subst}
use Rattle.std.specs.Result.{IsErrAnd}
use Rattle.std.proofs.lemmas.List.{drop_all}
use Rattle.vlt_core.specs.Maps.{Row, HeldMap, CanPass, map_after}
use Rattle.vlt_flow_maps.specs.declared.errors.Halt.{Halt}
use Rattle.vlt_flow_maps.specs.declared.errors.Halt.TheVariants.{Refused, Memory}
use Rattle.vlt_flow_maps.specs.Passed.{IfHalted, Passes}

-- an error that a `?` hands on
pub refused_through : {A B P Q : Type 0} (r : Result A Halt) (s : Result B Halt) → (r ≡ Err Refused → s ≡ Err Refused) → (P → Q) → IfHalted s P → IfHalted r Q
refused_through r s same f h = record { holds = λ e. f (h.holds (same e)) }

pub handed : {A B P Q : Type 0} (r : Result A Halt) (s : Result B Halt) (d : Halt) → IsErrAnd r (λ x. x ≡ d) → s ≡ Err d → (P → Q) → IfHalted s P → IfHalted r Q
handed (Ok x) s d gives was f h = absurd gives
handed (Err x) s d gives was f h = record { holds = λ e. f (h.holds (was ∙ ap Err (sym gives ∙ error x e))) }
  where
    error : {A : Type 0} (x : Halt) → (let r : Result A Halt = Err x in r ≡ Err Refused) → x ≡ Refused
    error x e = cc

-- an error that isn't a refusal
pub memory_only : {A P : Type 0} (r : Result A Halt) → IsErrAnd r (λ x. x ≡ Memory) → IfHalted r P
memory_only (Ok x) gives = absurd gives
memory_only (Err x) gives = record { holds = λ e. absurd (never x gives e) }
  where
    never : {A : Type 0} (x : Halt) → x ≡ Memory → (let r : Result A Halt = Err x in r ≡ Err Refused) → ⊥
    never x g e = cc

-- the first i of the things were passed, whose rows these are
pub record Going {X : Type 0} (f : X → Row) (xs : List X) (h : HeldMap) (i : ℕ) (cur : HeldMap) : Type 0 where
  pub can : CanPass (map f xs) h ↔ CanPass (map f (drop i xs)) cur
  pub after : map_after (map f (drop i xs)) cur ≡ map_after (map f xs) h

pub split_at : {X : Type 0} (xs : List X) (i : ℕ) (x : X) → i < length xs → x ≡ get_or xs i x → drop i xs ≡ x ∷ drop (i + 1) xs
split_at xs i x lt read = rw add-one (drop-cons xs i x lt ∙ ap (λ y. y ∷ drop (suc i) xs) (sym read))

pub going_more : {X : Type 0} (f : X → Row) (xs : List X) (h : HeldMap) (i : ℕ) (cur new : HeldMap) (x : X) → drop i xs ≡ x ∷ drop (i + 1) xs → Going f xs h i cur → Passes (f x ∷ []) cur new → Going f xs h (i + 1) new
going_more f xs h i cur new x split g p =
    let can = subst (λ l. CanPass (map f xs) h ↔ CanPass (map f l) cur) split g.can in
    let after = subst (λ l. map_after (map f l) cur ≡ map_after (map f xs) h) split g.after in
    record {
      can = (
        λ t. subst (CanPass (map f (drop (i + 1) xs))) (sym p.after) (can.0 t).1,
        λ t. can.1 (p.can.0, subst (CanPass (map f (drop (i + 1) xs))) p.after t),
      );
      after = ap (map_after (map f (drop (i + 1) xs))) p.after ∙ after;
    }

pub going_stops : {X : Type 0} (f : X → Row) (xs : List X) (h : HeldMap) (i : ℕ) (cur : HeldMap) (x : X) → drop i xs ≡ x ∷ drop (i + 1) xs → Going f xs h i cur → (CanPass (f x ∷ []) cur → ⊥) → CanPass (map f xs) h → ⊥
going_stops f xs h i cur x split g never t =
    let can = subst (λ l. CanPass (map f xs) h ↔ CanPass (map f l) cur) split g.can in
    never ((can.0 t).0, tt)

pub going_ends : {X : Type 0} (f : X → Row) (xs : List X) (h : HeldMap) (i : ℕ) (cur : HeldMap) → length xs ≤ i → Going f xs h i cur → Passes (map f xs) h cur
going_ends f xs h i cur past g =
    let all : drop i xs ≡ [] = drop_all i xs past in
    record {
      can = g.can.1 (subst (λ l. CanPass (map f l) cur) (sym all) tt);
      after = subst (λ l. map_after (map f l) cur ≡ map_after (map f xs) h) all g.after;
    }

pub map_twice : {X Y Z : Type 0} (g : Y → Z) (f : X → Y) (xs : List X) → map (λ x. g (f x)) xs ≡ map g (map f xs)
map_twice g f [] = refl
map_twice g f (x ∷ xs) = ap (λ l. g (f x) ∷ l) (map_twice g f xs)
