-- Expressions that stand ready, the last first, and what is read of the items by the last tags.
use Rattle.std.specs.Prelude.{ℕ, if◌then◌else◌, List, ◌∷◌, map, reverse, codes, Option, None, option_map, option_and_then}
use Rattle.std.specs.Str.{bytes_eq}
use Rattle.serde_json.specs.Data.{Data}
use Rattle.vlt_core.specs.Core as core
use Rattle.vlt_core.specs.View.{expr_of}
use Rattle.cert_rows.specs.Parts.{single, pair}
use Rattle.cert_rows.specs.Values.{id}
use Rattle.cert_rows.specs.Expressions.{op, with_operator}
use Rattle.cert_read_rows.specs.declared.ready.Ready.{Ready}

abbrev pub stack_of : List Ready → List core.Expr
stack_of rs = reverse (map (λ r. expr_of r.e) rs)

-- fields and operators
abbrev pub stack_of_last_tag : List core.Expr → List ℕ → List Data → Option (List core.Expr)
stack_of_last_tag es t ds =
    if bytes_eq t (codes "f") then
    option_map (λ x. core.field x.0 x.1 ∷ es) ((pair id id).of_items ds)
    else if bytes_eq t (codes "o") then option_and_then (with_operator es) ((single op).of_items ds)
    else None
