-- Why variants want cases: a program with a variant that has none, and a switch on it without arms in a focus. It breaks no rule,
-- annotations hold in its bodies, since nothing is asked of what comes after such a switch, and it isn't accepted.
use Rattle.std.specs.Prelude.{◌==◌, true, false, [], ◌∷◌, Some, None}
use Rattle.vlt_core.specs.Core.{States, tracked, guarded, variant, a_struct, a_variant, Func, Program, simple, make, adopt, release, call, switch, focus, return, block, done, next, no_arms, a_key}
use Rattle.vlt_core.specs.Kinded.{IsKinded}
use Rattle.vlt_core.specs.Derives.{IsAccepted}
use Rattle.cert_fit_laws.proofs.Accepted.{HasLocal}
use Rattle.std.proofs.Common.{◌≡◌, refl, sym, ap, subst, ◌∙◌, ℕ, zero, suc, false, true≢false, Option, Some, None, slice_get}
use Rattle.vlt_core.specs.Maps.{absent, Kind, is_absent, is_held}
use Rattle.vlt_core.specs.Local.{Notes, IsLocalIn}
use Rattle.vlt_core.specs.Instances.{instance, IsOrigin}
use Rattle.vlt_core_laws.proofs.Unbroken.{some_same, some_not_none}

abbrev pub first : States
first s = s == 0

abbrev pub nothing : Func
nothing = record {
  name = 110 ∷ [];
  external = true;
  result = Some (variant 2 []);
  params = 0;
  clause = [];
  keys = [];
  vars = [];
  body = done;
  end = 0;
}

-- tracked(R) r r = new r {}; tracked(X) n x = new n {}; R:n y = adopt x into r; v = nothing(); focus y as z { switch (v) {} }
-- release r; release r;
abbrev pub main : Func
main = record {
  name = 109 ∷ [];
  external = false;
  result = None;
  params = 0;
  clause = [];
  keys = record { name = []; key_type = Some 0 } ∷ record { name = []; key_type = Some 1 } ∷ record { name = []; key_type = Some 1 } ∷ [];
  vars =
      record { name = []; ty = tracked 0 0 [] } ∷ record { name = []; ty = tracked 1 1 [] } ∷ record { name = []; ty = guarded 0 1 [] } ∷
      record { name = []; ty = variant 2 [] } ∷ record { name = []; ty = tracked 2 1 [] } ∷ [];
  body =
      next 0 (simple (make 0 [])) (next 0 (simple (make 1 [])) (next 0 (simple (adopt 2 1 0)) (next 0 (call 0 (Some 3) [] [])
      (next 0 (focus 2 4 (block (next 0 (switch 3 no_arms 0) done) [] 0))
      (next 0 (simple (release 0)) (next 0 (simple (release 0)) (next 0 (return None) done)))))));
  end = 0;
}

abbrev pub caseless : Program
caseless = record {
  sets = [];
  types =
      a_struct (record { name = 114 ∷ []; header = []; set = None; release = first; fields = [] }) ∷
      a_struct (record { name = 115 ∷ []; header = []; set = None; release = first; fields = [] }) ∷
      a_variant (record { name = 118 ∷ []; header = []; cases = [] }) ∷ [];
  fns = nothing ∷ main ∷ [];
  main = 1;
}

-- It breaks no rule, annotations hold in its bodies, and it isn't accepted.
pub record IsCounterexample (p : Program) : Type 0 where
  pub kinded : IsKinded p
  pub local : HasLocal p
  pub refused : IsAccepted p → ⊥

kinded : IsKinded caseless
kinded = refl

abbrev no_maps : Notes
no_maps = record { around = λ n t. absent; following = λ n t. absent }

main_local : IsLocalIn caseless main no_maps
main_local =
    (((refl, tt), ((refl, tt), (((refl, record { each = λ s e. e }), (refl, tt)), (tt, (((refl, (refl, tt)), (((tt, tt), tt), tt), tt), tt))))), tt)

local : HasLocal caseless
local = record { each = each }
  where
    each : (g : ℕ) (f : Func) (o : Option ℕ) → slice_get caseless.fns g ≡ Some f → f.external ≡ false → IsOrigin caseless f o → (a : Notes) × IsLocalIn caseless (instance caseless f o) a
    each zero f o at body is = absurd (true≢false (ap (λ (h : Func). h.external) (some_same nothing f at) ∙ body))
    each (suc zero) f None at body is = (no_maps, subst (λ h. IsLocalIn caseless h no_maps) (some_same main f at) main_local)
    each (suc zero) f (Some o) at body is = absurd (subst (λ h. IsOrigin caseless h (Some o)) (sym (some_same main f at)) is)
    each (suc (suc g)) f o at body is = absurd (some_not_none f (sym at))

refused : IsAccepted caseless → ⊥
refused ok =
    let d = ok 1 main None refl refl tt in
    let stmts = d.2.1.1 in
    let after_focus = stmts.2.2.2.2.2 in
    let below = after_focus.1.1 in
    never (below.each (a_key 0)).kind after_focus.2.1.0.0.0
  where
    never : {k : Kind} → is_absent ≡ k → k ≡ is_held → ⊥
    never e d = cc

pub counterexample : IsCounterexample caseless
counterexample = record { kinded = kinded; local = local; refused = refused }
