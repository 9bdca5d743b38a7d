-- The function of a row, and how many states a bound entry's object can have.
use Rattle.std.specs.Prelude.{ℕ, false, length, filter, Option, Some, None}
use Rattle.std.specs.List.{range_with_len}
use Rattle.vlt_core.specs.Core as core
use Rattle.vlt_core.specs.Lookups.{state_count, states_up_to}
use Rattle.cert_format.specs.Pieces.{func_of}
use Rattle.cert_read_decls.specs.Rows.{fn_of}
use Rattle.cert_read_decls.specs.declared.fn_rows.FnRow.{FnRow}

-- a function of this row, without its body
abbrev pub head_of : FnRow → core.Func
head_of f = func_of false (fn_of f) core.done

-- how many states of a type are up to one; none where the type isn't known
abbrev pub origin_count : core.Program → (type : Option ℕ) → (state : ℕ) → ℕ
origin_count p None b = 0
origin_count p (Some t) b =
    length (filter (states_up_to p t b) (range_with_len 0 (state_count p t)))
