-- Words, one option with its value after another.
use Rattle.std.proofs.Common.{◌≡◌, ℕ, ◌-◌, ◌<◌, ◌≤◌, List, [], ◌∷◌, map, take, drop, length, get_or, Option, Some, None, refl, sym, ap, ap₂, ◌∙◌, arith}
use Rattle.std.proofs.lemmas.List.{take_all}
use Rattle.std.specs.Option.{option_and_then}
use Rattle.vaultc_words.specs.Commands.{Settings, setting_of, with_setting, settings_of, command_of}

-- fewer words than a command has
pub no_command : (ws : List (List ℕ)) → length ws < 2 → None ≡ command_of ws
no_command [] few = refl
no_command (w ∷ []) few = refl
no_command (w ∷ v ∷ ws) few = absurd (omega (arith, few))

-- an option without a value
pub no_value : (ws : List (List ℕ)) (s : Settings) → 1 ≤ length ws → length ws < 2 → None ≡ settings_of ws s
no_value [] s some few = absurd (omega (arith, some))
no_value (w ∷ []) s some few = refl
no_value (w ∷ v ∷ ws) s some few = absurd (omega (arith, few))

-- an option and its value, and then what the words after them set
pub one_more : {T : Type 0} (f : T → List ℕ) (ws rest : List T) (s next : Settings) (o v : T) (option value : List ℕ) (r : Option Settings) → 2 ≤ length ws
    → o ≡ get_or ws 0 o → v ≡ get_or ws 1 v → option ≡ f o → value ≡ f v → option_and_then (with_setting s) (setting_of option value) ≡ Some next
    → rest ≡ take (length ws - 2) (drop 2 ws) → r ≡ settings_of (map f rest) next → r ≡ settings_of (map f ws) s
one_more f [] rest s next o v option value r two is_o is_v is_option is_value took following more = absurd (omega (arith, two))
one_more f (a ∷ []) rest s next o v option value r two is_o is_v is_option is_value took following more = absurd (omega (arith, two))
one_more f (a ∷ b ∷ ws) rest s next o v option value r two is_o is_v is_option is_value took following more =
    let first : option ≡ f a = is_option ∙ ap f is_o in
    let second : value ≡ f b = is_value ∙ ap f is_v in
    let same : option_and_then (with_setting s) (setting_of (f a) (f b)) ≡ Some next =
    sym (ap₂ (λ x y. option_and_then (with_setting s) (setting_of x y)) first second) ∙ took in
    let all : rest ≡ ws = following ∙ take_all (length (a ∷ b ∷ ws) - 2) ws (omega arith) in
    more ∙ ap (λ l. settings_of (map f l) next) all ∙ sym (ap (option_and_then (settings_of (map f ws))) same)
