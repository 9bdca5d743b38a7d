-- What the table of names has at a function is its name.
use Rattle.std.proofs.Common.{◌≡◌, ◌+◌, ℕ, zero, suc, Bool, true, false, List, [], ◌∷◌, length, take, Option, Some, None, slice_get, refl, ap, ◌∙◌, arith}
use Rattle.std.specs.Prelude.{filter, if◌then◌else◌, cond}
use Rattle.vlt_core.specs.Core.{Func, Program}
use Rattle.c_syntax.specs.declared.program.CName.{CName}
use Rattle.c_lower.specs.Statements.{name_of, is_external_at, is_alike}
use Rattle.c_lower_exprs.specs.declared.names.Names.{Names}
use Rattle.c_lower_exprs.specs.Names.{names_laid, bodies_after, AreNames}

abbrev name : Bool → ℕ → CName
name glue n = record { glue = glue; number = n }

-- how many functions of a kind stand before a position, where some were counted
abbrev count : (body glue : ℕ) → List Func → (at : ℕ) → CName
count b g fs at =
    let kind = is_external_at (slice_get fs at) in
    record { glue = kind; number = (if kind then g else b) + length (filter (λ f. is_alike kind f.external) (take at fs)) }

abbrev pub or_next : Option CName → ℕ → CName
or_next None b = record { glue = false; number = b }
or_next (Some x) b = x

step : (kind x : Bool) (b g : ℕ) (f : Func) (fs : List Func) → name kind ((if kind then (if x then suc g else g) else (if x then b else suc b)) + length fs) ≡ name kind ((if kind then g else b) + length (cond (is_alike kind x) (f ∷ fs) fs))
step true true b g f fs = let e : suc g + length fs ≡ g + suc (length fs) = omega arith in ap (name true) e
step true false b g f fs = refl
step false true b g f fs = refl
step false false b g f fs = let e : suc b + length fs ≡ b + suc (length fs) = omega arith in ap (name false) e

first_found : (x : Bool) (b g : ℕ) (fs : List Func) → or_next (slice_get (if x then name true g ∷ names_laid b (suc g) fs else name false b ∷ names_laid (suc b) g fs) zero) (if x then bodies_after b fs else bodies_after (suc b) fs) ≡ name x ((if x then g else b) + 0)
first_found true b g fs = let e : g ≡ g + 0 = omega arith in ap (name true) e
first_found false b g fs = let e : b ≡ b + 0 = omega arith in ap (name false) e

-- what is found in the rest is found after a function
later_found : (x : Bool) (b g : ℕ) (f : Func) (fs : List Func) (at : ℕ) → or_next (slice_get (names_laid b (suc g) fs) at) (bodies_after b fs) ≡ count b (suc g) fs at → or_next (slice_get (names_laid (suc b) g fs) at) (bodies_after (suc b) fs) ≡ count (suc b) g fs at → or_next (slice_get (if x then name true g ∷ names_laid b (suc g) fs else name false b ∷ names_laid (suc b) g fs) (suc at)) (if x then bodies_after b fs else bodies_after (suc b) fs) ≡ name (is_external_at (slice_get fs at)) ((if is_external_at (slice_get fs at) then g else b) + length (cond (is_alike (is_external_at (slice_get fs at)) x) (f ∷ filter (λ h. is_alike (is_external_at (slice_get fs at)) h.external) (take at fs)) (filter (λ h. is_alike (is_external_at (slice_get fs at)) h.external) (take at fs))))
later_found true b g f fs at external body = external ∙ step (is_external_at (slice_get fs at)) true b g f _
later_found false b g f fs at external body = body ∙ step (is_external_at (slice_get fs at)) false b g f _

found : (b g : ℕ) (fs : List Func) (at : ℕ) → or_next (slice_get (names_laid b g fs) at) (bodies_after b fs) ≡ count b g fs at
found b g [] zero = let e : b ≡ b + 0 = omega arith in ap (name false) e
found b g [] (suc at) = let e : b ≡ b + 0 = omega arith in ap (name false) e
found b g (f ∷ fs) zero = first_found f.external b g fs
found b g (f ∷ fs) (suc at) = later_found f.external b g f fs at (found b (suc g) fs at) (found (suc b) g fs at)

from_none : (kind : Bool) (n : ℕ) → name kind ((if kind then 0 else 0) + n) ≡ name kind n
from_none true n = let e : 0 + n ≡ n = omega arith in ap (name true) e
from_none false n = let e : 0 + n ≡ n = omega arith in ap (name false) e

pub name_found : (p : Program) (x : Names) (at : ℕ) → AreNames p x → or_next (slice_get x.names at) x.bodies ≡ name_of p at
name_found p x at are =
    ap (λ ns. or_next (slice_get ns at) x.bodies) are.table
    ∙ ap (or_next (slice_get (names_laid 0 0 p.fns) at)) are.bodies
    ∙ found 0 0 p.fns at
    ∙ from_none (is_external_at (slice_get p.fns at)) _
