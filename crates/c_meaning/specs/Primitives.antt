-- What the primitives do.
use Rattle.std.specs.Prelude.{ℕ, ◌+◌, ◌==◌, nat_lt, ℤ, pos, negsuc, Bool, true, false, ◌&&◌, if◌then◌else◌, List, [], ◌∷◌, ◌++◌, length, Option, Some, None, Result, Ok, Err, slice_get, slice_set}
use Rattle.std.specs.Int.{w64, cast_unsigned, bit_at}
use Rattle.vlt_ops.specs.declared.TrapKind.TheVariants.{Overflow, ZeroDivisor}
use Rattle.vlt_ops.specs.Operator.{equals, bool_number}
use Rattle.c_syntax.specs.declared.rules.TheConstants as rule
use Rattle.c_syntax.specs.declared.program.CPrim.{CPrim}
use Rattle.c_syntax.specs.declared.program.CPrim.TheVariants as prim
use Rattle.c_syntax.specs.C as c
use Rattle.c_syntax.specs.C.{Expr, Arg}
use Rattle.c_syntax.specs.declared.program.CCell.{CCell}
use Rattle.c_syntax.specs.declared.program.CCell.TheVariants as cell
use Rattle.c_meaning.specs.Blocks.{Blocks, new_block, is_full, blocks_after_own, blocks_after_disown, parent_of, blocks_after_release, gone_out, come_back, write_number, write_reference}
use Rattle.c_meaning.specs.World.{Value, number, reference, told_number, told_block, Event, printed, called, idle, calling, reading, Talk, World, Vars, Outcome, trap, heap_end, input_end, answers_end, bad_answer}
use Rattle.c_meaning.specs.Values.{◌>>=◌, a_number, a_reference, base_in, value_of, arg_value}

-- what a statement without statements in it comes to: a value or none, a broken rule, or the end of the run
pub data Effect : Type 0 where
  gives : Option Value → World → Effect
  breaks_rule : (rule : ℕ) → Effect
  ends : Outcome → World → Effect

abbrev pub nothing : World → Effect
nothing w = gives None w

unfoldable pub or_broken : {A : Type 0} → Result A ℕ → (A → Effect) → Effect
or_broken (Ok a) go = go a
or_broken (Err r) go = breaks_rule r

abbrev pub with_blocks : World → Result Blocks ℕ → Effect
with_blocks w result = or_broken result (λ bs. nothing (record w { blocks = bs }))

-- ---- blocks

abbrev pub makes : (heap numbers references : ℕ) → World → Effect
makes heap a b w =
    if is_full heap w.blocks then ends heap_end w
    else gives (Some (reference (Some (length w.blocks)))) (record w { blocks = w.blocks ++ Some (new_block a b) ∷ [] })

-- ---- traps, printing and input

abbrev pub traps : ℤ → World → Effect
traps z w =
    if equals z (pos 1) then ends (trap Overflow) w
    else if equals z (pos 2) then ends (trap ZeroDivisor) w
    else breaks_rule rule.MISUSED

abbrev pub with_event : Event → World → World
with_event e w = record w { events = w.events ++ e ∷ [] }

abbrev pub reads_input : List ℤ → World → Effect
reads_input [] w = ends input_end w
reads_input (z ∷ zs) w = gives (Some (number z)) (record w { input = zs })

abbrev pub has_more : {A : Type 0} → List A → Bool
has_more [] = false
has_more (x ∷ xs) = true

-- ---- registers

abbrev pub index_below : ℕ → ℤ → Option ℕ
index_below count (pos i) = if nat_lt i count then Some i else None
index_below count (negsuc i) = None

unfoldable pub at_index : Option ℕ → (ℕ → Effect) → Effect
at_index None go = breaks_rule rule.NO_REGISTER
at_index (Some i) go = go i

abbrev pub from_register : {A : Type 0} → Option (Option A) → (A → Value) → World → Effect
from_register (Some (Some x)) made w = gives (Some (made x)) w
from_register _ made w = breaks_rule rule.NO_REGISTER

abbrev pub puts_number : ℤ → ℤ → World → Effect
puts_number i z w = at_index (index_below (length w.number_registers) i) (λ j.
    nothing (record w { number_registers = slice_set w.number_registers j (Some z) }))

abbrev pub puts_reference : ℤ → Option ℕ → World → Effect
puts_reference i p w = at_index (index_below (length w.reference_registers) i) (λ j.
    nothing (record w { reference_registers = slice_set w.reference_registers j (Some p) }))

abbrev pub gets_number : ℤ → World → Effect
gets_number i w = at_index (index_below (length w.number_registers) i) (λ j.
    from_register (slice_get w.number_registers j) number w)

abbrev pub gets_reference : ℤ → World → Effect
gets_reference i w = at_index (index_below (length w.reference_registers) i) (λ j.
    from_register (slice_get w.reference_registers j) reference w)

-- ---- the host

abbrev pub begins_call : List ℕ → Talk → World → Effect
begins_call name idle w = nothing (record w { talk = calling name [] })
begins_call name _ w = breaks_rule rule.MISUSED

-- how many arguments a call has at most
abbrev pub max_told : ℕ
max_told = 16

abbrev pub tells_number : ℤ → Talk → World → Effect
tells_number z (calling name args) w =
    if nat_lt (length args) max_told then nothing (record w { talk = calling name (args ++ told_number z ∷ []) })
    else breaks_rule rule.MISUSED
tells_number z _ w = breaks_rule rule.MISUSED

abbrev pub tells_block : Option ℕ → Talk → World → Effect
tells_block (Some n) (calling name args) w =
    if nat_lt (length args) max_told then nothing (record w { talk = calling name (args ++ told_block n ∷ []) })
    else breaks_rule rule.MISUSED
tells_block _ _ w = breaks_rule rule.MISUSED

-- the next answer is taken
abbrev pub takes_answer : List (List ℤ) → World → Effect
takes_answer [] w = ends answers_end w
takes_answer (a ∷ rest) w = nothing (record w { answers = rest; taken = w.taken + 1; talk = reading a })

abbrev pub asks : Talk → World → Effect
asks (calling name args) w = takes_answer w.answers (with_event (called name args) w)
asks _ w = breaks_rule rule.MISUSED

abbrev pub bad : World → Effect
bad w = ends (bad_answer w.taken) w

-- the next number of the answer, which passes a test
abbrev pub reads_answer : (ℤ → Bool) → Talk → World → Effect
reads_answer test (reading []) w = bad w
reads_answer test (reading (z ∷ zs)) w =
    if test z then gives (Some (number z)) (record w { talk = reading zs }) else bad w
reads_answer test _ w = breaks_rule rule.MISUSED

-- the number of a bit of m that is 1, m being in two's complement
abbrev pub is_bit_of : (m : ℤ) → ℤ → Bool
is_bit_of m (pos i) = nat_lt i 64 && (bit_at (cast_unsigned w64 m) i == 1)
is_bit_of m (negsuc i) = false

abbrev pub while_reading : Talk → Effect → Effect
while_reading (reading zs) e = e
while_reading _ e = breaks_rule rule.MISUSED

abbrev pub back_or_bad : Option Blocks → World → Effect
back_or_bad None w = bad w
back_or_bad (Some bs) w = nothing (record w { blocks = bs })

abbrev pub ends_answer : Talk → World → Effect
ends_answer (reading []) w = nothing (record w { talk = idle })
ends_answer (reading (z ∷ zs)) w = bad w
ends_answer _ w = breaks_rule rule.MISUSED

-- ---- arguments, evaluated from the left. Other arguments than these are no program of the kinds.

abbrev pub number_of : Arg → Vars → Result ℤ ℕ
number_of x vars = arg_value x vars >>= a_number

abbrev pub reference_of : Arg → Vars → Result (Option ℕ) ℕ
reference_of x vars = arg_value x vars >>= a_reference

unfoldable pub no_args : List Arg → Effect → Effect
no_args [] e = e
no_args _ e = breaks_rule rule.MISUSED

unfoldable pub on_number : List Arg → Vars → (ℤ → Effect) → Effect
on_number (x ∷ []) vars go = or_broken (number_of x vars) go
on_number _ vars go = breaks_rule rule.MISUSED

unfoldable pub on_reference : List Arg → Vars → (Option ℕ → Effect) → Effect
on_reference (x ∷ []) vars go = or_broken (reference_of x vars) go
on_reference _ vars go = breaks_rule rule.MISUSED

unfoldable pub on_numbers : List Arg → Vars → (ℤ → ℤ → Effect) → Effect
on_numbers (x ∷ y ∷ []) vars go = or_broken (number_of x vars) (λ a. or_broken (number_of y vars) (go a))
on_numbers _ vars go = breaks_rule rule.MISUSED

unfoldable pub on_number_and_reference : List Arg → Vars → (ℤ → Option ℕ → Effect) → Effect
on_number_and_reference (x ∷ y ∷ []) vars go =
    or_broken (number_of x vars) (λ a. or_broken (reference_of y vars) (go a))
on_number_and_reference _ vars go = breaks_rule rule.MISUSED

unfoldable pub on_references : List Arg → Vars → (Option ℕ → Option ℕ → Effect) → Effect
on_references (x ∷ y ∷ []) vars go =
    or_broken (reference_of x vars) (λ a. or_broken (reference_of y vars) (go a))
on_references _ vars go = breaks_rule rule.MISUSED

-- how many cells of each sort a block is asked to have
abbrev pub asked_cells : List Arg → Option (ℕ × ℕ)
asked_cells (c.number (pos a) ∷ c.number (pos b) ∷ []) = Some (a, b)
asked_cells _ = None

abbrev pub makes_asked : (heap : ℕ) → Option (ℕ × ℕ) → World → Effect
makes_asked heap None w = breaks_rule rule.MISUSED
makes_asked heap (Some q) w = makes heap q.0 q.1 w

abbrev pub name_told : List Arg → Option (List ℕ)
name_told (c.text s ∷ []) = Some s
name_told _ = None

abbrev pub begins_named : Option (List ℕ) → World → Effect
begins_named None w = breaks_rule rule.MISUSED
begins_named (Some s) w = begins_call s w.talk w

-- ---- all

abbrev pub primitive_does : (heap : ℕ) → CPrim → List Arg → Vars → World → Effect
primitive_does heap prim.New xs vars w = makes_asked heap (asked_cells xs) w
primitive_does heap prim.Own xs vars w = on_references xs vars (λ p q. with_blocks w (blocks_after_own w.blocks p q))
primitive_does heap prim.Disown xs vars w = on_reference xs vars (λ p. with_blocks w (blocks_after_disown w.blocks p))
primitive_does heap prim.Parent xs vars w =
    on_reference xs vars (λ p. or_broken (parent_of w.blocks p) (λ n. gives (Some (reference (Some n))) w))
primitive_does heap prim.Release xs vars w = on_reference xs vars (λ p. with_blocks w (blocks_after_release w.blocks p))
primitive_does heap prim.Trap xs vars w = on_number xs vars (λ z. traps z w)
primitive_does heap prim.Print xs vars w = on_number xs vars (λ z. nothing (with_event (printed z) w))
primitive_does heap prim.Read xs vars w = no_args xs (reads_input w.input w)
primitive_does heap prim.More xs vars w = no_args xs (gives (Some (number (bool_number (has_more w.input)))) w)
primitive_does heap prim.PutN xs vars w = on_numbers xs vars (λ i z. puts_number i z w)
primitive_does heap prim.GetN xs vars w = on_number xs vars (λ i. gets_number i w)
primitive_does heap prim.PutP xs vars w = on_number_and_reference xs vars (λ i p. puts_reference i p w)
primitive_does heap prim.GetP xs vars w = on_number xs vars (λ i. gets_reference i w)
primitive_does heap prim.Call xs vars w = begins_named (name_told xs) w
primitive_does heap prim.ArgN xs vars w = on_number xs vars (λ z. tells_number z w.talk w)
primitive_does heap prim.ArgP xs vars w = on_reference xs vars (λ p. tells_block p w.talk w)
primitive_does heap prim.Ask xs vars w = no_args xs (asks w.talk w)
primitive_does heap prim.Int xs vars w = no_args xs (reads_answer (λ z. true) w.talk w)
primitive_does heap prim.Pick xs vars w = on_number xs vars (λ m. reads_answer (is_bit_of m) w.talk w)
primitive_does heap prim.Out xs vars w =
    on_reference xs vars (λ p. while_reading w.talk (with_blocks w (gone_out w.blocks p)))
primitive_does heap prim.Back xs vars w =
    on_reference xs vars (λ p. while_reading w.talk (or_broken (come_back w.blocks p) (λ back. back_or_bad back w)))
primitive_does heap prim.End xs vars w = no_args xs (ends_answer w.talk w)

-- ---- assignments

abbrev pub set_does : Expr → Vars → World → Effect
set_does e vars w = or_broken (value_of e vars w.blocks) (λ a. gives (Some a) w)

abbrev pub write_effect : CCell → Option ℕ → Value → World → Effect
write_effect (cell.Number p i) b (number z) w = with_blocks w (write_number w.blocks b i z)
write_effect (cell.Reference p i) b (reference q) w = with_blocks w (write_reference w.blocks b i q)
write_effect x b a w = breaks_rule rule.UNSET

abbrev pub base_of : CCell → ℕ
base_of (cell.Number p i) = p
base_of (cell.Reference p i) = p

-- the `p` variable is read, then the right side, and then the cell is written
abbrev pub put_does : CCell → Expr → Vars → World → Effect
put_does x e vars w =
    or_broken (base_in (base_of x) vars) (λ b. or_broken (value_of e vars w.blocks) (λ a. write_effect x b a w))
