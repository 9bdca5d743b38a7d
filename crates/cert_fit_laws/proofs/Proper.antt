-- What the rows of a program say of its expressions and clauses.
use Rattle.std.proofs.Common.{◌≡◌, ◌≤◌, Bool, true, false, if◌then◌else◌, List, [], ◌∷◌, None, refl, arith}
use Rattle.vlt_core.specs.Core as core
use Rattle.vlt_core.specs.Core.{Expr, Mode, Entry, Program}
use Rattle.vlt_core.specs.Instances.{bound_at, or_else, bound_in}
use Rattle.vlt_core.specs.Proper.{is_proper, AllPass}
use Rattle.cert_rows.specs.Parts.{All}
use Rattle.cert_rows.specs.Values.{mode_number, entry}
use Rattle.cert_rows.specs.Expressions.{FitsExpr}
use Rattle.cert_rows.specs.Rows.{function, external, FitsRow}
use Rattle.cert_format.specs.Notes.{Note, maps_of}
use Rattle.cert_format.specs.Certificate.{fn_shape, fn_row, FitsCertificate}
use Rattle.cert_fit_laws.specs.Programs.{CertificatesAreProper, FirstVersionHasNoBounds}
use Rattle.cert_fit_laws.proofs.ProperExprs.{proper}
use Rattle.cert_fit_laws.proofs.Listed.{noted}
use Rattle.cert_fit_laws.proofs.ProperBodies.{list_in}

all_pass : (test : Expr → Bool) → ((e : Expr) → FitsExpr e → test e ≡ true) → (o : Bool) (p : Program) (all : List (List Note)) → FitsCertificate o p all → AllPass test p
all_pass test each o p all fits g f at =
    let x = noted o p p.fns all fits.functions g f at in
    list_in test each (fn_shape o p f) (maps_of x.notes) 0 f.body x.fits.rows.1

pub all_proper : CertificatesAreProper
all_proper = all_pass is_proper proper

-- ---- clauses of version 1

unbound : (es : List Entry) → All (entry false).Fits es → bound_in es ≡ None
unbound [] h = refl
unbound (e ∷ es) h = by e.mode h.0.0.0.0 (unbound es h.1)
  where
    never : 4 ≤ 3 → ⊥
    never few = omega (arith, few)

    by : (m : Mode) → mode_number m ≤ 3 → bound_in es ≡ None → or_else (bound_at e.key m) (bound_in es) ≡ None
    by core.kept few more = more
    by core.taken few more = more
    by core.given few more = more
    by core.fresh few more = more
    by (core.up_to b) few more = absurd (never few)

pub no_bounds : FirstVersionHasNoBounds
no_bounds p all fits g f at =
    let x = noted false p p.fns all fits.functions g f at in
    unbound f.clause (by f.external x.fits.rows.0)
  where
    by : (b : Bool) → FitsRow (fn_shape false p f) (if b then external (fn_row f) else function (fn_row f)) → All (entry false).Fits f.clause
    by true h = h.3
    by false h = h.3
