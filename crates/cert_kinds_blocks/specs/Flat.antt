-- The rows of statements without blocks, by the code's parts of them.
use Rattle.std.specs.Prelude.{ℕ, Bool, true, false, List, ◌++◌, map, Option, slice_get}
use Rattle.std.specs.Option.{option_map}
use Rattle.vlt_base.specs.declared.ids.KeyId.{KeyId}
use Rattle.vlt_core.specs.Core.{Form, choose, loop, switch, focus, scope, Func, Program}
use Rattle.vlt_core.specs.declared.program.Operand.{Operand}
use Rattle.vlt_core.specs.View.{keys_of, operand_of}
use Rattle.vlt_core.specs.KindedHeads.{Rules, unless}
use Rattle.vlt_core.specs.KindedScopes as scopes
use Rattle.vlt_core.specs.KindedCalls.{call_broken, with_call_target, return_broken}
use Rattle.vlt_core.specs.declared.rules.TheConstants as rule
use Rattle.cert_kinds_blocks.specs.declared.flat.Around.{Around}

-- a statement without blocks
abbrev pub is_flat : Form → Bool
is_flat (choose e a b) = false
is_flat (loop e b) = false
is_flat (switch v arms end) = false
is_flat (focus y z b) = false
is_flat (scope b) = false
is_flat _ = true

abbrev pub around_of : Around → scopes.Around
around_of x = record { jumps = x.jumps; returns = x.returns }

abbrev pub call_row : Program → Func → scopes.Ids → (g : ℕ) → (target : Option ℕ) → List KeyId → List Operand → Rules
call_row p f ids g target keys args = call_broken p f ids (slice_get p.fns g) target (keys_of keys) (map operand_of args)

abbrev pub after_call : Program → Func → (g : ℕ) → (target : Option ℕ) → scopes.Ids → scopes.Ids
after_call p f g target ids = with_call_target f (slice_get p.fns g) target ids

abbrev pub return_row : Program → Func → (returns : Bool) → scopes.Ids → Option Operand → Rules
return_row p f returns ids value = unless returns rule.WRONG_JUMP ++ return_broken p f ids f.result (option_map operand_of value)
