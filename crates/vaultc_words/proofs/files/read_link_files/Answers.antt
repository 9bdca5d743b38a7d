use Rattle.std.proofs.Common.{◌≡◌, [], ◌∷◌, Some, Err, rules, arith}
use Rattle.std.proofs.lemmas.Grind.{common_steps}
use Rattle.vaultc_words.specs.Sources.{had, text_in}
use Rattle.vaultc_words.proofs.Reading.{read_then}
use Rattle.vaultc_words.proofs.FilesHad.{first_fails, later_fails}
use Rattle.vaultc_words.proofs.files.read_link_files.Goals as goal

pub returns-in_err-interface-clause-read : goal.returns-in_err-interface-clause-read
returns-in_err-interface-clause-read g c =
    let e = c.in_err-interface.field-0.0 in
    let is : c.from_residual.result ≡ Err e = first_of (search rules, grind (arith, common_steps)) in
    rw is (first_fails g.S.Store c.args.store.now c.read_file.new.store (Some (text_in c.args.interface.now)) (Some (text_in c.args.first.now) ∷ Some (text_in c.args.second.now) ∷ []) e
    c.in_err-interface.ensures.read)

pub returns-in_err-first-clause-read : goal.returns-in_err-first-clause-read
returns-in_err-first-clause-read g c =
    let store = g.S.Store in
    let one = c.read_file.new.store in
    let two = c.read_file-2.new.store in
    let i = Some (text_in c.args.interface.now) in
    let f = Some (text_in c.args.first.now) in
    let rest = Some (text_in c.args.second.now) ∷ [] in
    let e = c.in_err-first.field-0.0 in
    let is : c.from_residual-in_err-first.result ≡ Err e = first_of (search rules, grind (arith, common_steps)) in
    rw is (later_fails store c.args.store.now one two i (f ∷ rest) c.in_ok-interface.interface.items e c.in_ok-interface.ensures.read
    (first_fails store one two f rest e c.in_err-first.ensures.read))

pub returns-in_err-second-clause-read : goal.returns-in_err-second-clause-read
returns-in_err-second-clause-read g c =
    let store = g.S.Store in
    let one = c.read_file.new.store in
    let two = c.read_file-2.new.store in
    let three = c.read_file-3.new.store in
    let i = Some (text_in c.args.interface.now) in
    let f = Some (text_in c.args.first.now) in
    let rest = Some (text_in c.args.second.now) ∷ [] in
    let e = c.in_err-second.field-0.0 in
    let is : c.from_residual-in_err-second.result ≡ Err e = first_of (search rules, grind (arith, common_steps)) in
    rw is (later_fails store c.args.store.now one three i (f ∷ rest) c.in_ok-interface.interface.items e c.in_ok-interface.ensures.read
    (later_fails store one two three f rest c.in_ok-first.first.items e c.in_ok-first.ensures.read c.in_err-second.ensures.read))

pub returns-clause-read : goal.returns-clause-read
returns-clause-read g c =
    let store = g.S.Store in
    let one = c.read_file.new.store in
    let two = c.read_file-2.new.store in
    let three = c.read_file-3.new.store in
    let i = Some (text_in c.args.interface.now) in
    let f = Some (text_in c.args.first.now) in
    let rest = Some (text_in c.args.second.now) ∷ [] in
    read_then store c.args.store.now one three i (f ∷ rest) c.in_ok-interface.interface.items (had (c.in_ok-first.first.items ∷ c.in_ok-second.second.items ∷ [])) c.in_ok-interface.ensures.read
    (read_then store one two three f rest c.in_ok-first.first.items (had (c.in_ok-second.second.items ∷ [])) c.in_ok-first.ensures.read c.in_ok-second.ensures.read)
