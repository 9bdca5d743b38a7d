-- An error that stops a walk, handed on.
use Rattle.std.proofs.Common.{Result, Ok, Err, ◌≡◌}
use Rattle.std.specs.Result.{IsErrAnd}
use Rattle.vlt_flow.specs.declared.errors.Stop.{Stop}
use Rattle.vlt_flow.specs.declared.errors.Stop.TheVariants as stop
use Rattle.vlt_flow.specs.Walks.{IfRefused}

pub stop_through : {A B P Q : Type 0} (r : Result A Stop) (s : Result B Stop) → (r ≡ Err stop.Refused → s ≡ Err stop.Refused) → (P → Q) → IfRefused s P → IfRefused r Q
stop_through r s same f h = record { holds = λ e. f (h.holds (same e)) }

pub stop_memory : {A P : Type 0} (r : Result A Stop) → IsErrAnd r (λ x. x ≡ stop.Memory) → IfRefused r P
stop_memory (Ok x) gives = absurd gives
stop_memory (Err x) gives = record { holds = λ e. absurd (never x gives e) }
  where
    never : {A : Type 0} (x : Stop) → x ≡ stop.Memory → (let r : Result A Stop = Err x in r ≡ Err stop.Refused) → ⊥
    never x g e = cc
