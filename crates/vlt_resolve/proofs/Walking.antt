-- Statements and arms one after another.
use Rattle.std.proofs.Common.{◌≡◌, ℕ, List, [], ◌∷◌, ◌++◌, Result, Ok, Err, refl, append_assoc}
use Rattle.vlt_kinds_types.specs.declared.names.found.Refusal.{Refusal}
use Rattle.vlt_core.specs.Core.{Form, Block}
use Rattle.vlt_resolve_exprs.specs.Scopes.{Scope}
use Rattle.vlt_elaboration.specs.Walk.{Walked, then_do}

-- what was made before, and then these
abbrev pub following : List (ℕ × Form) → Walked → Walked
following made x = then_do x (λ z. Ok (made ++ z.0, z.1))

pub following_more : (x : Walked) (made more : List (ℕ × Form)) → following made (then_do x (λ z. Ok (more ++ z.0, z.1))) ≡ following (made ++ more) x
following_more (Ok z) made more = rw append_assoc refl
following_more (Err r) made more = refl

abbrev pub Arms : Type 0
Arms = List (ℕ × List ℕ × Block)

abbrev pub after_arms : Arms → Result (Arms × Scope) Refusal → Result (Arms × Scope) Refusal
after_arms made x = then_do x (λ z. Ok (made ++ z.0, z.1))

pub after_more_arms : (x : Result (Arms × Scope) Refusal) (made : Arms) (p : ℕ × List ℕ × Block) → after_arms made (then_do x (λ z. Ok (p ∷ z.0, z.1))) ≡ after_arms (made ++ p ∷ []) x
after_more_arms (Ok z) made p = rw append_assoc refl
after_more_arms (Err r) made p = refl
