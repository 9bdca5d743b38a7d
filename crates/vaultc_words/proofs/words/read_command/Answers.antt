use Rattle.std.proofs.Common.{◌≡◌, length, map, arith}
use Rattle.std.proofs.lemmas.List.{length-map}
use Rattle.std.specs.Prelude.{string_bytes}
use Rattle.vaultc_words.proofs.Settings.{no_command}
use Rattle.vaultc_words.proofs.words.read_command.Goals as goal

pub returns-in_default : goal.returns-in_default
returns-in_default c =
    let words = map string_bytes c.args.words.now in
    let size : length words ≡ length c.args.words.now = simp length-map in
    no_command words (omega (arith, size, c.in_default.len_below))
