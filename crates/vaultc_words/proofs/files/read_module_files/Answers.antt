use Rattle.std.proofs.Common.{◌≡◌, [], ◌∷◌, Some, Err, rules, arith}
use Rattle.std.proofs.lemmas.Grind.{common_steps}
use Rattle.vaultc_words.specs.Sources.{had, text_in}
use Rattle.vaultc_words.proofs.Reading.{read_then}
use Rattle.vaultc_words.proofs.FilesHad.{first_fails, later_fails}
use Rattle.vaultc_words.proofs.files.read_module_files.Goals as goal

pub returns-in_err-interface-clause-read : goal.returns-in_err-interface-clause-read
returns-in_err-interface-clause-read g c =
    let e = c.in_err-interface.field-0.0 in
    let is : c.from_residual.result ≡ Err e = first_of (search rules, grind (arith, common_steps)) in
    rw is (first_fails g.S.Store c.args.store.now c.read_file.new.store (Some (text_in c.args.interface.now)) (Some (text_in c.args.file.now) ∷ []) e c.in_err-interface.ensures.read)

pub returns-in_err-own-clause-read : goal.returns-in_err-own-clause-read
returns-in_err-own-clause-read g c =
    let e = c.in_err-own.field-0.0 in
    let is : c.from_residual-in_err-own.result ≡ Err e = first_of (search rules, grind (arith, common_steps)) in
    rw is (later_fails g.S.Store c.args.store.now c.read_file.new.store c.read_file-2.new.store (Some (text_in c.args.interface.now)) (Some (text_in c.args.file.now) ∷ [])
    c.in_ok-interface.interface.items e c.in_ok-interface.ensures.read c.in_err-own.ensures.read)

pub returns-clause-read : goal.returns-clause-read
returns-clause-read g c =
    read_then g.S.Store c.args.store.now c.read_file.new.store c.read_file-2.new.store (Some (text_in c.args.interface.now)) (Some (text_in c.args.file.now) ∷ [])
    c.in_ok-interface.interface.items (had (c.in_ok-own.own.items ∷ [])) c.in_ok-interface.ensures.read c.in_ok-own.ensures.read
