-- The levels' program is accepted: a derivation for each instance of each body.
use Rattle.std.proofs.Common.{◌≡◌, ⊎_elim, inl, inr, ℕ, zero, suc, ◌==◌, Bool, true, false, ◌&&◌, IsTrue, [], ◌∷◌, Option, Some, None, refl, sym, ap, ◌∙◌, subst}
use Rattle.std.proofs.lemmas.Bool.{cases_Bool, eqb-true}
use Rattle.std.proofs.lemmas.Option.{same_Some, none-some}
use Rattle.vlt_core.specs.Core.{a_key, kept, up_to, Entry, Func}
use Rattle.vlt_core.specs.Lookups.{leads_up, key_states_up_to}
use Rattle.vlt_core.specs.Instances.{instance, IsOrigin}
use Rattle.vlt_core.specs.Maps.{HeldMap, absent, held, IsWithin}
use Rattle.vlt_core.specs.Derives.{start_map, IsAcceptedFunc, IsAccepted}
use Rattle.vlt_core.specs.Rows.{called_row}
use Rattle.vlt_core.proofs.Maps.{within_refl, map_refl}
use Rattle.vlt_meaning_samples.specs.Told.{in_set}
use Rattle.vlt_core.specs.Found.{One, one_absent, one_held, one_lent, one_full, Has, images}
use Rattle.vlt_meaning_samples.specs.Levels.{logs, twice, main, program, program_left, twice_in_low, BreaksTheRules}

abbrev nothing : HeldMap
nothing t = absent

right : (a b : Bool) → IsTrue (a && b) → IsTrue b
right true b e = e
right false b e = cc

-- low is a state up to mid
low_up : (s : ℕ) → IsTrue (in_set (0 ∷ []) s) → IsTrue (key_states_up_to program main 0 1 s)
unfolding leads_up
low_up s e = ⊎_elim
    (λ same. subst (λ s. IsTrue (key_states_up_to program main 0 1 s)) (eqb-true 0 s same) refl)
    (λ other. let q = rw other at e in absurd (false_true q))
    (cases_Bool (0 == s))
  where
    false_true : false ≡ true → ⊥
    false_true e = cc

twice_accepted : (s : ℕ) → IsAcceptedFunc program (instance program (twice logs logs) (Some s))
twice_accepted s =
    let up : IsWithin (λ x. x == s && key_states_up_to program (twice logs logs) 0 1 x) (key_states_up_to program (twice logs logs) 0 1) =
    record { each = λ x e. right (x == s) _ e } in (
      nothing,
      nothing,
      (
        nothing,
        (_, (_, (((refl, up), tt), map_refl _), (_, (((refl, up), tt), map_refl _), (_, ((refl, within_refl _), (refl, tt)), map_refl nothing))), tt, map_refl nothing),
      ),
    )

main_accepted : IsAcceptedFunc program main
main_accepted = (
  nothing,
  nothing,
  (
    nothing,
    (_, (_, ((refl, tt), map_refl _), (_, (((refl, record { each = low_up }), tt), map_refl _), (_, (((refl, within_refl _), tt), map_refl _), (_, (refl, tt), map_refl nothing)))), tt, map_refl nothing),
  ),
)

true_false : true ≡ false → ⊥
true_false e = cc

-- externals have no body
outside : (x f : Func) → x.external ≡ true → Some x ≡ Some f → f.external ≡ false → ⊥
outside x f e at body = true_false (sym e ∙ (ap (λ f. f.external) (same_Some x f at) ∙ body))

twice_all : (o : Option ℕ) → IsOrigin program (twice logs logs) o → IsAcceptedFunc program (instance program (twice logs logs) o)
twice_all None origin = absurd origin
twice_all (Some s) origin = twice_accepted s

main_all : (o : Option ℕ) → IsOrigin program main o → IsAcceptedFunc program (instance program main o)
main_all None origin = main_accepted
main_all (Some s) origin = absurd origin

pub accepted : IsAccepted program
accepted zero f o at body origin = absurd (outside _ f refl at body)
accepted (suc zero) f o at body origin = absurd (outside _ f refl at body)
accepted (suc (suc zero)) f o at body origin = absurd (outside _ f refl at body)
accepted (suc (suc (suc zero))) f o at body origin = absurd (outside _ f refl at body)
accepted (suc (suc (suc (suc zero)))) f o at body origin =
    subst (λ f. IsOrigin program f o → IsAcceptedFunc program (instance program f o)) (same_Some (twice logs logs) f at) (twice_all o) origin
accepted (suc (suc (suc (suc (suc zero))))) f o at body origin =
    subst (λ f. IsOrigin program f o → IsAcceptedFunc program (instance program f o)) (same_Some main f at) (main_all o) origin
accepted (suc (suc (suc (suc (suc (suc g)))))) f o at body origin = absurd (none-some f at)

-- ---- the damaged program

left : (a b : Bool) → IsTrue (a && b) → IsTrue a
left true b e = refl
left false b e = cc

never : IsTrue false → ⊥
never e = cc

not_absent : (s : ℕ) → one_absent ≡ one_held s → ⊥
not_absent s e = cc

held_here : (q : One) (s : ℕ) → IsTrue (in_set (1 ∷ 2 ∷ []) s) → q ≡ one_held s → Has (held (in_set (1 ∷ 2 ∷ []))) q
held_here q s e is = subst (Has (held (in_set (1 ∷ 2 ∷ [])))) (sym is) e

abbrev logged : Entry
logged = record { mode = up_to 1; key = 0; before = None; after = None }

abbrev raised : Entry
raised = record { mode = kept; key = 0; before = (Some (in_set (0 ∷ 1 ∷ []))); after = (Some (in_set (1 ∷ 2 ∷ []))) }

-- the way of an object that comes in low, past the rows of both calls, to the state that it has at the end
abbrev Comes : One → Type 0
Comes = images (a_key 0) (called_row program_left twice_in_low 0 logged ∷ called_row program_left twice_in_low 0 raised ∷ []) (Has (start_map program_left twice_in_low (a_key 0)))

comes : (s : ℕ) → IsTrue (in_set (1 ∷ 2 ∷ []) s) → Comes (one_held s)
unfolding leads_up
comes s e = (one_held 0, (one_held 0, refl, refl, refl), refl, (s, e, refl))

come_back : (o : One) → Has (held (in_set (1 ∷ 2 ∷ []))) o → Comes o
unfolding leads_up
come_back (one_held s) e = comes s e
come_back one_absent e = absurd e
come_back (one_lent s) e = absurd e
come_back one_full e = absurd e

pub broken : BreaksTheRules
unfolding leads_up
broken = record {
  faulty = inl (inr (inr (inl (inl (refl, ((one_held 2, comes 2 refl, λ e. never e), λ m. not_absent m.0.3.0 m.0.3.2))))));
  wanted = _;
  told = inl (inr (inr (inl (inl (
    refl,
    (
      record {
        there = λ o x. held_here o x.3.0 x.3.1 x.3.2;
        back = come_back;
      },
      refl,
    ),
  )))));
  low = refl;
  alone = λ s e. eqb-true s 0 (left (s == 0) _ e);
}
