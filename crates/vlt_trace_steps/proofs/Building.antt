-- Statements that take operands, up to where they are taken.
use Rattle.std.proofs.Common.{◌≡◌, ◌==◌, ℕ, true, List, length, None, Ok, ◌∙◌}
use Rattle.vlt_core.specs.Core as core
use Rattle.vlt_core.specs.Core.{Operand, Func, Program}
use Rattle.vlt_core.specs.Lookups.{Reference, VariantOf, reference_of, variant_of, fields_of, case_at, case_keys}
use Rattle.vlt_meaning.specs.World as m
use Rattle.vlt_meaning.specs.Found.{or_fault}
use Rattle.vlt_meaning.specs.Externals.{payload_in}
use Rattle.vlt_meaning.specs.Operands.{parts_of, with_case_packed, with_operands}
use Rattle.vlt_meaning.specs.Step.{Step, with_found, where_so, fill}
use Rattle.vlt_meaning.specs.Run.{Setup, made_in, does_simple}
use Rattle.vlt_meaning_laws.specs.Machine.Got.{operands_got, then_step}
use Rattle.vlt_meaning_laws.proofs.OfMachine.Gots.{operands_step}
use Rattle.vlt_trace_steps.proofs.Leading.{found, so}

-- a value of a variant, from the values of its operands
abbrev pub build_on : Program → Func → (v c : ℕ) → VariantOf → List m.Value → m.Frame → m.World → Step
build_on p f v c t values frame w =
    with_found (parts_of values) w (λ parts. with_case_packed (case_keys p t c) frame w (λ ns w. fill f v (m.of_case c parts ns) frame w))

pub build_begins : (r : Setup) (f : Func) (v c : ℕ) (os : List Operand) (frame : m.Frame) (w : m.World) (t : VariantOf) → Ok t ≡ or_fault m.missing (variant_of f v) → (length os == length (payload_in (case_at r.program t.type c))) ≡ true →
    does_simple r f (core.build v c os) frame w ≡ then_step (operands_got r.program f os frame w) (build_on r.program f v c t)
build_begins r f v c os frame w t e count =
    found (or_fault m.missing (variant_of f v)) t w (λ t. where_so (length os == length (payload_in (case_at r.program t.type c))) m.missing None w (λ w. with_operands r.program f os frame w (build_on r.program f v c t))) e
    ∙ (so (length os == length (payload_in (case_at r.program t.type c))) m.missing None w (λ w. with_operands r.program f os frame w (build_on r.program f v c t)) count
    ∙ operands_step r.program f os frame w (build_on r.program f v c t))

pub make_begins : (r : Setup) (f : Func) (x : ℕ) (os : List Operand) (frame : m.Frame) (w : m.World) (q : Reference) → Ok q ≡ or_fault m.missing (reference_of f x) → (length os == length (fields_of r.program q.type)) ≡ true →
    does_simple r f (core.make x os) frame w ≡ then_step (operands_got r.program f os frame w) (made_in r q x)
make_begins r f x os frame w q e count =
    found (or_fault m.missing (reference_of f x)) q w (λ q. where_so (length os == length (fields_of r.program q.type)) m.missing None w (λ w. with_operands r.program f os frame w (λ cells frame w. made_in r q x cells frame w))) e
    ∙ (so (length os == length (fields_of r.program q.type)) m.missing None w (λ w. with_operands r.program f os frame w (λ cells frame w. made_in r q x cells frame w)) count
    ∙ operands_step r.program f os frame w (λ cells frame w. made_in r q x cells frame w))
