-- The keys of a clause are keys of its function.
use Rattle.std.proofs.Common.{◌≡◌, ℕ, zero, suc, ◌==◌, Bool, true, false, ◌||◌, List, [], ◌∷◌, ◌++◌, map, length, Some, refl, ap, ◌∙◌, slice_get}
use Rattle.std.proofs.lemmas.Bool.{ltb-true}
use Rattle.std.proofs.lemmas.Option.{none-some, same_Some}
use Rattle.vlt_core.specs.Core.{Entry, Func, Program}
use Rattle.vlt_core.specs.Kinded.{IsKinded}
use Rattle.vlt_core.specs.KindedHeads.{has, keys_of_parameters, keys_of_result}
use Rattle.vlt_sound_calls.specs.Heads.{HasHead}
use Rattle.vlt_sound.proofs.Facts.{has_head}
use Rattle.vlt_host_acts.specs.Permits.Arguments.{HasClauseKeys}
use Rattle.vlt_host_acts.proofs.OfPermits.Numbers.{same_test}

or_true : (b : Bool) → (b || true) ≡ true
or_true true = refl
or_true false = refl

entry_has : (es : List Entry) (i : ℕ) (e : Entry) → slice_get es i ≡ Some e → has (map (λ d. d.key) es) e.key ≡ true
entry_has [] i e at = absurd (none-some e at)
entry_has (d ∷ es) zero e at =
    ap (λ b. b || has (map (λ d. d.key) es) e.key) (same_test d.key e.key (ap (λ d. d.key) (same_Some d e at)))
entry_has (d ∷ es) (suc i) e at = ap (λ b. d.key == e.key || b) (entry_has es i e at) ∙ or_true (d.key == e.key)

has_after : (ms ns : List ℕ) (k : ℕ) → has ns k ≡ true → has (ms ++ ns) k ≡ true
has_after [] ns k e = e
has_after (m ∷ ms) ns k e = ap (λ b. m == k || b) (has_after ms ns k e) ∙ or_true (m == k)

pub have_clause_keys : (p : Program) → IsKinded p → (i : ℕ) (f : Func) → slice_get p.fns i ≡ Some f → HasClauseKeys f
have_clause_keys p kinded i f at j e there before =
    let head : HasHead p f = has_head p i f kinded at in
    ltb-true e.key (length f.keys)
    (head.numbers e.key (has_after (keys_of_result f ++ keys_of_parameters f) (map (λ e. e.key) f.clause) e.key (entry_has f.clause j e there)))
