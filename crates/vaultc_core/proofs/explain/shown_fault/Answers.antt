use Rattle.std.proofs.Common.{◌≡◌, ◌∙◌, ◌++◌, map, Some, ap, subst}
use Rattle.std.specs.Option.{option_map}
use Rattle.std.specs.Prelude.{slice_get}
use Rattle.vlt_syntax.specs.View.{tree_of}
use Rattle.vlt_core.specs.View.{program_of, func_of, tok_of}
use Rattle.vlt_core.specs.FaultView.{choices_of}
use Rattle.vlt_check.specs.Checks.{fault_of}
use Rattle.vlt_reports.specs.Reports.{fault_line, instance_text, paths_text}
use Rattle.vaultc_replies.proofs.Explained.{kind_same, func_there, fault_explained}
use Rattle.vaultc_core.proofs.explain.shown_fault.Goals as goal

pub returns : goal.returns
returns c = λ g there.
    let text = c.args.text.now in
    let p = program_of c.args.program.now in
    let fault = c.args.fault in
    let f = func_of c.in-Some.f.now in
    let found = c.in_ok-found.found in
    let line = c.in_ok-lines-in-Some.lines.items in
    let paths = c.in_ok-paths-in-Some.paths.items in
    let looked = c.in-Some.ensures.lookup in
    let here : slice_get p.fns fault.fn_id.0 ≡ Some f =
    subst (λ fs. slice_get (map func_of fs) fault.fn_id.0 ≡ Some f) c.as_slice.ensures (func_there c.as_slice.result.now fault.fn_id.0 c.in-Some.f.now c.in-Some.f.now looked.3.0 looked.1) in
    fault_explained text (tree_of c.args.tree.now) p f g (fault_of fault) (choices_of found.first) (option_map choices_of found.second) line paths c.extend_from_slice.new.self.items here there
    c.in_ok-found.ensures (c.in_ok-lines-in-Some.ensures ∙ ap (fault_line text p f fault.at (tok_of fault.tok)) (kind_same fault fault.kind))
    (c.in_ok-paths-in-Some.ensures ∙ ap (λ v. paths_text text p f (instance_text p f v fault.origin) (choices_of found.first) (option_map choices_of found.second)) c.variable_in.ensures)
    (c.in_ok-extend_from_slice-in-Some.ensures.items ∙ ap (λ l. line ++ l) c.as_slice-in-Some.ensures.value)
