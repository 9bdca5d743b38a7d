use Rattle.std.proofs.Common.{◌≡◌, ◌&&◌, ◌∙◌, sym, ap, map, filter}
use Rattle.std.specs.List.{list_all}
use Rattle.vlt_core.specs.View.{program_of, func_of, entry_of}
use Rattle.vlt_core.specs.Core.{Entry}
use Rattle.vlt_core.specs.Lookups.{is_held_before}
use Rattle.vlt_host_meaning.specs.Permitted.{object_of_key, entries_before}
use Rattle.vlt_host_acts.specs.Permits.Arguments.{bindings_in, named_in, names_apart}
use Rattle.vlt_host_acts.proofs.permits.permitted.clause_fits.Goals as goal

pub returns-then-are_named_in : goal.returns-then-are_named_in
returns-then-are_named_in c = λ objects s.
    let f = func_of c.args.f.now in
    let bs = bindings_in c.args.params.now c.args.args.now in
    let N = named_in (program_of c.args.h.now.program.now) f bs objects in
    let all : c.are_named_in.result ≡ list_all N (entries_before f) =
    c.are_named_in.ensures objects s ∙ ap (λ es. list_all N (filter is_held_before (map entry_of es))) c.as_slice-clause.ensures in
    let apart : c.are_apart.result ≡ names_apart (map {A = Entry} (λ e. object_of_key bs e.key) (entries_before f)) =
    c.are_apart.ensures ∙ ap (λ es. names_apart (map {A = Entry} (λ e. object_of_key bs e.key) (filter is_held_before (map entry_of es)))) c.as_slice-clause.ensures in
    apart ∙ sym (ap (λ b. b && names_apart (map {A = Entry} (λ e. object_of_key bs e.key) (entries_before f))) (sym all ∙ c.if-are_named_in.true))

pub returns-else-are_named_in : goal.returns-else-are_named_in
returns-else-are_named_in c = λ objects s.
    let f = func_of c.args.f.now in
    let bs = bindings_in c.args.params.now c.args.args.now in
    let N = named_in (program_of c.args.h.now.program.now) f bs objects in
    let all : c.are_named_in.result ≡ list_all N (entries_before f) =
    c.are_named_in.ensures objects s ∙ ap (λ es. list_all N (filter is_held_before (map entry_of es))) c.as_slice-clause.ensures in
    c.if-are_named_in.false ∙
    sym (ap (λ b. b && names_apart (map {A = Entry} (λ e. object_of_key bs e.key) (entries_before f))) (sym all ∙ c.if-are_named_in.false))
