use Rattle.std.proofs.Common.{[], ◌∷◌, ◌++◌, None, map, ap, subst, sym, ◌≡◌, ◌∙◌}
use Rattle.json.specs.Token.{begin_array, end_array}
use Rattle.vlt_core.specs.View.{set_of, type_of, func_of, program_of}
use Rattle.cert_rows.specs.Rows as row
use Rattle.cert_rows.specs.Rows.{row_data}
use Rattle.cert_format.specs.Certificate.{shape}
use Rattle.cert_values.specs.Laid.{laid, each_laid}
use Rattle.cert_write.specs.Rows.{sets_data, types_data, fns_data}
use Rattle.cert_write.proofs.Whole.{rows_laid}
use Rattle.cert_write.proofs.program.put_rows.Goals as goal

pub returns-clause-rows : goal.returns-clause-rows
returns-clause-rows c =
    let p = program_of c.args.p.now in
    let o = c.args.ordered in
    let all = c.args.notes.now in
    let version = c.in_ok-put_version.ensures ∙ ap (laid (row_data (shape o None) (row.version o))) c.in_ok-begin.ensures in
    let sets = subst (λ l. c.put_sets.new.out ≡ each_laid (sets_data o (map set_of l)) c.put_version.new.out) c.as_slice.ensures c.in_ok-put_sets.ensures.rows ∙ ap (each_laid (sets_data o p.sets)) version in
    let types = subst (λ l. c.put_types.new.out ≡ each_laid (types_data (map type_of l)) c.put_sets.new.out) c.as_slice-2.ensures c.in_ok-put_types.ensures.rows ∙ ap (each_laid (types_data p.types)) sets in
    let fns = subst (λ l. c.put_fns.new.out ≡ each_laid (fns_data (map func_of l) all) c.put_types.new.out) c.as_slice-3.ensures c.in_ok-put_fns.ensures.rows ∙ ap (each_laid (fns_data p.fns all)) types in
    c.in_ok-end.ensures ∙ ap (λ ts. ts ++ end_array ∷ []) fns ∙ sym (rows_laid o p all (c.args.out.now ++ begin_array ∷ []))
