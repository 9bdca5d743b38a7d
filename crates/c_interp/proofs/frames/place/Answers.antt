use Rattle.std.proofs.Common.{◌+◌, length, Some, ap, sym, ◌∙◌}
use Rattle.std.specs.Option.{option_map}
use Rattle.c_syntax.specs.View.{func_of}
use Rattle.c_values.specs.Places.{place_in}
use Rattle.c_values.proofs.Finding.{in_first, in_second}
use Rattle.c_interp.proofs.frames.place.Goals as goal

pub returns-in-Some-clause-is : goal.returns-in-Some-clause-is
returns-in-Some-clause-is c =
    in_first (func_of c.args.func.now).params (func_of c.args.func.now).vars c.args.v c.in-Some.i (ap (λ l. place_in l c.args.v) (sym c.as_slice.ensures) ∙ sym c.find.ensures ∙ c.in-Some.is)

pub returns-in-Some-find-clause-is : goal.returns-in-Some-find-clause-is
returns-in-Some-find-clause-is c =
    ap (λ n. Some (n + c.in-Some-find.j)) c.len.ensures
    ∙ ap (option_map (λ j. length (func_of c.args.func.now).params + j)) (sym c.in-Some-find.is ∙ c.find-in-None.ensures ∙ ap (λ l. place_in l c.args.v) c.as_slice-in-None.ensures)
    ∙ in_second (func_of c.args.func.now).params (func_of c.args.func.now).vars c.args.v (ap (λ l. place_in l c.args.v) (sym c.as_slice.ensures) ∙ sym c.find.ensures ∙ c.in-None.is)

pub returns-in-None-find-clause-is : goal.returns-in-None-find-clause-is
returns-in-None-find-clause-is c =
    ap (option_map (λ j. length (func_of c.args.func.now).params + j)) (sym c.in-None-find.is ∙ c.find-in-None.ensures ∙ ap (λ l. place_in l c.args.v) c.as_slice-in-None.ensures)
    ∙ in_second (func_of c.args.func.now).params (func_of c.args.func.now).vars c.args.v (ap (λ l. place_in l c.args.v) (sym c.as_slice.ensures) ∙ sym c.find.ensures ∙ c.in-None.is)
