-- Objects of variables as plain data, and the parts of rules on statements.
use Rattle.std.specs.Prelude.{ℕ, ◌==◌, ◌&&◌, List, [], ◌∷◌, length, Option, Some, None}
use Rattle.vlt_core.specs.Core.{Ty, tracked, CaseDecl, Func, Program}
use Rattle.vlt_core.specs.Lookups.{is_owning}
use Rattle.vlt_core.specs.Types.{is_droppable}
use Rattle.vlt_core.specs.KindedHeads.{Rules, unless, when_some}
use Rattle.vlt_core.specs.KindedScopes as scopes
use Rattle.vlt_core.specs.View.{keys_of}
use Rattle.vlt_core.specs.declared.rules.TheConstants as rule
use Rattle.cert_kinds_stmts.specs.declared.objects.Object.{Object}

-- the object that the code says, where it is known
abbrev pub object_some : Option Object → Option (ℕ × List ℕ)
object_some None = None
object_some (Some x) = Some (x.type_id.0, keys_of x.args.now)

-- a reference
abbrev pub is_tracked : (rule : ℕ) → Ty → Rules
is_tracked r (tracked k t args) = []
is_tracked r ty = r ∷ []

abbrev pub not_tracked : (rule : ℕ) → Option Ty → Rules
not_tracked r ty = when_some ty (is_tracked r)

-- a value that is dropped
abbrev pub drop_broken : Program → Option Ty → Rules
drop_broken p ty = when_some ty (λ ty. unless (is_owning ty && is_droppable p ty) rule.WRONG_RELEASE)

-- the key of a reference
abbrev pub own_key : Func → (x : ℕ) → Option ℕ
own_key f x = scopes.own_key f x

-- so many payloads for a case
abbrev pub payload_broken : (count : ℕ) → Option CaseDecl → Rules
payload_broken n None = rule.UNKNOWN_NAME ∷ []
payload_broken n (Some d) = unless (n == length d.payload) rule.WRONG_COUNT
