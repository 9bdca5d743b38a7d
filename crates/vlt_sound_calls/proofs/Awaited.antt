-- The objects of the keys that an answer can bring back are found.
use Rattle.std.proofs.Common.{◌≡◌, inl, inr, ℕ, suc, Bool, true, false, ◌&&◌, not, if◌then◌else◌, List, [], ◌∷◌, ◌++◌, map, filter, Option, Some, None, Ok, refl, sym, ap, ◌∙◌, subst, slice_get}
use Rattle.std.proofs.lemmas.List.{map-append}
use Rattle.std.specs.List.{flat_map, filter_map, cons_option}
use Rattle.std.specs.Option.{option_map}
use Rattle.vlt_core.specs.Core.{CaseKey, CaseDecl, Mode, kept, taken, given, fresh, up_to, Entry, Func, Program}
use Rattle.vlt_core.specs.Lookups.{is_before, is_fresh, VariantOf, variant_in, KeyIn, keys_in, cases_of}
use Rattle.vlt_core.specs.Types.{stands_for}
use Rattle.vlt_core.specs.KindedHeads.{has, keys_of_parameters, parameters_of, tracked_keys}
use Rattle.vlt_core.specs.KindedScopes.{Ids}
use Rattle.vlt_meaning.specs.World.{Frame, missing, no_value}
use Rattle.vlt_meaning.specs.Found.{◌>>=◌, or_fault}
use Rattle.vlt_meaning.specs.Externals.{is_given, keys_in_cases, awaited_keys, named_objects}
use Rattle.vlt_sound_worlds.proofs.Starting.{has_in}
use Rattle.vlt_sound_calls.specs.Callee.{IsParamKey, IsCall}
use Rattle.vlt_sound_calls.specs.Among.{Among}
use Rattle.vlt_sound_calls.specs.ReturnHeads.{IsHostKey, IsHostCase, HasHostHead}
use Rattle.vlt_sound_calls.specs.HostAnswers.{AreNamed}
use Rattle.vlt_sound_calls.proofs.News.{in_has, own_in}

-- the caller's keys for these name objects
abbrev pub AreFound : (keys : List ℕ) → Frame → (head_keys : List ℕ) → Type 0
AreFound keys frame js = (ns : List ℕ) × (named_objects keys frame js ≡ Ok ns)

record IsFound (keys : List ℕ) (frame : Frame) (j : ℕ) : Type 0 where
  pub key : ℕ
  pub is : slice_get keys j ≡ Some key
  pub number : ℕ
  pub named : frame.keys key ≡ Some number

module _ (keys : List ℕ) (frame : Frame) where
  abbrev AllFound : List ℕ → Type 0
  AllFound [] = Unit {0}
  AllFound (j ∷ js) = IsFound keys frame j × AllFound js

  both_found : (xs ys : List ℕ) → AllFound xs → AllFound ys → AllFound (xs ++ ys)
  both_found [] ys first rest = rest
  both_found (x ∷ xs) ys first rest = (first.0, both_found xs ys first.1 rest)

  are_found : (js : List ℕ) → AllFound js → AreFound keys frame js
  are_found [] all = ([], refl)
  are_found (j ∷ js) all =
      let q = all.0 in
      let rest = are_found js all.1 in (
        q.number ∷ rest.0,
        ap (λ x. or_fault missing x >>= (λ k. or_fault no_value (frame.keys k) >>= (λ n. named_objects keys frame js >>= (λ ns. Ok (n ∷ ns))))) q.is ∙
            ap (λ x. or_fault no_value x >>= (λ n. named_objects keys frame js >>= (λ ns. Ok (n ∷ ns)))) q.named ∙
            ap (λ x. x >>= (λ ns. Ok (q.number ∷ ns))) rest.1,
      )

-- a key that is given is no new one
pub given_old : (m : Mode) → (not (is_before m) && not (is_fresh m)) ≡ true → is_fresh m ≡ true → ⊥
given_old kept q t = cc
given_old (up_to u) q t = cc
given_old taken q t = cc
given_old given q t = cc
given_old fresh q t = cc

-- the key of a reference among the parameters is one of their types
pub is_param : (g : Func) (k : ℕ) → has (tracked_keys g) k ≡ true → IsParamKey g k
is_param g k is = has_in k (keys_of_parameters g) (own_in (parameters_of g) k (in_has k (tracked_keys g) is))

module _ (p : Program) {f : Func} (g : Func) {ids : Ids} (keys : List ℕ) (host : HasHostHead p g)
    (call : IsCall p f g ids keys) (frame : Frame) (named : AreNamed g keys frame) where
  reference_found : (k : ℕ) → has (tracked_keys g) k ≡ true → IsFound keys frame k
  reference_found k is =
      let q = named k is in
      record { key = stands_for keys k; is = call.params k (is_param g k is); number = q.0; named = q.1 }

  given_found : (es : List Entry) → ((e : Entry) → Among e es → Among e g.clause) →
      AllFound keys frame (map (λ e. e.key) (filter is_given es))
  given_found [] all = tt
  given_found (e ∷ es) all = by (is_given e) refl (given_found es (λ d i. all d (inr i)))
    where
      by : (b : Bool) → is_given e ≡ b → AllFound keys frame (map (λ e. e.key) (filter is_given es)) →
          AllFound keys frame (map (λ e. e.key) (if b then e ∷ filter is_given es else filter is_given es))
      by true is rest = (reference_found e.key (host.known e (all e (inl refl)) (λ new. given_old e.mode is new)), rest)
      by false is rest = rest

  module _ (t : ℕ) (args : List ℕ) where
    abbrev key_in : CaseKey → Option KeyIn
    key_in k = option_map (λ j. record { key = j; states = k.states }) (slice_get args k.position)

    case_found : (ks : List CaseKey) → ((i : ℕ) (k : CaseKey) → slice_get ks i ≡ Some k → IsHostKey p g t args k) →
        AllFound keys frame (map (λ j. j.key) (filter_map key_in ks))
    case_found [] known = tt
    case_found (k ∷ ks) known =
        let q = known 0 k refl in
        subst (λ o. AllFound keys frame (map (λ j. j.key) (cons_option (option_map (λ j. record { key = j; states = k.states }) o) (filter_map key_in ks))))
        (sym q.is)
        (reference_found q.key q.known, case_found ks (λ i. known (suc i)))

    abbrev listed : List CaseDecl → List KeyIn
    listed = flat_map (λ d. keys_in args (Some d))

    cases_found : (ds : List CaseDecl) → ((c : ℕ) (d : CaseDecl) → slice_get ds c ≡ Some d → IsHostCase p g t args d) →
        AllFound keys frame (map (λ j. j.key) (listed ds))
    cases_found [] known = tt
    cases_found (d ∷ ds) known =
        subst (AllFound keys frame) (sym (map-append (λ j. j.key) (keys_in args (Some d)) (listed ds)))
        (both_found keys frame (map (λ j. j.key) (keys_in args (Some d))) (map (λ j. j.key) (listed ds))
        (case_found d.keys (known 0 d refl).keys)
        (cases_found ds (λ c. known (suc c))))

  result_found : (o : Option VariantOf) → variant_in g.result ≡ o → AllFound keys frame (keys_in_cases p o)
  result_found None is = tt
  result_found (Some v) is = cases_found v.type v.args (cases_of p v.type) (λ c d at. host.cases v.type c v.args d is at)

  pub all_awaited : AreFound keys frame (awaited_keys p g)
  all_awaited = are_found keys frame (awaited_keys p g)
      (both_found keys frame (map (λ e. e.key) (filter is_given g.clause)) (keys_in_cases p (variant_in g.result))
      (given_found g.clause (λ e i. i)) (result_found (variant_in g.result) refl))
