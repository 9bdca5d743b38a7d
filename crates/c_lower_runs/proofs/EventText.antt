-- Events have the same text.
use Rattle.std.proofs.Common.{◌≡◌, List, [], ◌∷◌, ◌++◌, map, codes, refl, ap, ◌∙◌}
use Rattle.std.specs.List.{flat_map}
use Rattle.vlt_meaning.specs.World as source
use Rattle.c_meaning.specs.World as cw
use Rattle.c_lower_worlds.specs.Worlds.{told_part, told_by, c_event}

part_told : (a : source.Part) → cw.told_text (told_part a) ≡ source.part_text a
part_told (source.number z) = refl
part_told (source.reference n) = refl
part_told (source.owned n) = refl

args_told : (args : List source.Value) → flat_map cw.told_text (flat_map told_by args) ≡ flat_map source.argument_text args
args_told [] = refl
args_told (source.one a ∷ args) = ap (λ x. x ++ flat_map cw.told_text (flat_map told_by args)) (part_told a) ∙ ap (λ r. source.part_text a ++ r) (args_told args)
args_told (source.of_case k parts keys ∷ args) = args_told args

line_told : (e : source.Event) → cw.line_of (c_event e) ≡ source.line_of e
line_told (source.printed z) = refl
line_told (source.called name args) = ap (λ r. codes "@" ++ name ++ r ++ codes "\n") (args_told args)

pub text_told : (es : List source.Event) → cw.event_text (map c_event es) ≡ source.event_text es
text_told [] = refl
text_told (e ∷ es) = ap (λ x. x ++ cw.event_text (map c_event es)) (line_told e) ∙ ap (λ r. source.line_of e ++ r) (text_told es)
