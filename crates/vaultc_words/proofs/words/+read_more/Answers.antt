use Rattle.std.proofs.Common.{◌≡◌, Some, length, map, refl, ap, ◌∙◌, rules, arith}
use Rattle.std.proofs.lemmas.Grind.{common_steps}
use Rattle.std.proofs.lemmas.List.{length-map}
use Rattle.std.specs.Option.{option_and_then}
use Rattle.std.specs.Prelude.{option_map, string_bytes}
use Rattle.vaultc_words.specs.Commands.{setting_of, with_setting}
use Rattle.vaultc_words.specs.View.{seen_setting, seen_settings}
use Rattle.vaultc_words.proofs.Settings.{no_value, one_more}
use Rattle.vaultc_words.proofs.words.+read_more.Goals as goal

pub returns-in_default : goal.returns-in_default
returns-in_default t c =
    let words = map string_bytes c.args.words.now in
    let size : length words ≡ length c.args.words.now = simp length-map in
    no_value words (seen_settings c.args.settings) (omega (arith, size, c.in_default.len_at_least)) (omega (arith, size, c.in_default.len_below))

pub returns-in_ok-settings-in-len2-up : goal.returns-in_ok-settings-in-len2-up
returns-in_ok-settings-in-len2-up t c =
    let option = c.as_str.result.now in
    let value = c.as_str-in-len2-up.result.now in
    let before = seen_settings c.args.settings in
    let setting = seen_setting c.in_ok-setting-in-len2-up.setting in
    let next = seen_settings c.in_ok-settings-in-len2-up.settings in
    let known : setting_of option value ≡ Some setting = first_of (search rules, grind (arith, common_steps)) in
    let taken : with_setting before setting ≡ Some next = first_of (search rules, grind (arith, common_steps)) in
    one_more string_bytes c.args.words.now _ before next c.option-item.result c.value-item.result option value (option_map seen_settings c.read_more.result) c.in-len2-up.len_at_least
    c.option-item.is c.value-item.is c.as_str.ensures.value c.as_str-in-len2-up.ensures.value (ap (option_and_then (with_setting before)) known ∙ taken) refl c.read_more.ensures
