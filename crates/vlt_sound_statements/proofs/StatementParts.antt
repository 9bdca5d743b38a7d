-- The parts of a value, and what its case's keys name.
use Rattle.std.proofs.Common.{◌≡◌, ⊎_elim, ℕ, zero, suc, ◌<◌, ◌≤◌, true, List, [], ◌∷◌, ◌++◌, length, map, Option, Some, None, refl, sym, ap, ◌∙◌, subst, slice_get}
use Rattle.std.specs.List.{flat_map, filter_map, cons_option}
use Rattle.std.specs.Option.{option_map}
use Rattle.std.proofs.lemmas.Option.{none-some, slice_get_past, slice_get_cases}
use Rattle.vlt_core.specs.Core.{Ty, int, bool, tracked, owning, guarded, variant, owning_variant, CaseKey, Func, Program}
use Rattle.vlt_core.specs.Lookups.{key_type, KeyIn}
use Rattle.vlt_core.specs.Types.{header_of, with_keys, stands_for, keys_of_ty}
use Rattle.vlt_core.specs.KindedHeads.{is_payload_type}
use Rattle.vlt_meaning.specs.World.{Part, one, objects_in_part}
use Rattle.vlt_sound_worlds.specs.Look.{look}
use Rattle.vlt_sound_worlds.specs.Members.{In}
use Rattle.vlt_sound_worlds.specs.Keys.{IsOfType}
use Rattle.vlt_sound_worlds.specs.Scene.{Scene}
use Rattle.vlt_sound_worlds.specs.Fits.{Names, option_join, names_of, FitsPart, FitParts, header_type, FitKeys, Fits}
use Rattle.vlt_sound_worlds.proofs.Fits.{fits_named, fits_before}
use Rattle.vlt_sound_worlds.specs.Agrees.{values_of, FitHanded}
use Rattle.vlt_sound_worlds.proofs.Expressions.{names_at}
use Rattle.vlt_sound_worlds.specs.Handed.{handed_values}
use Rattle.vlt_sound_statements.specs.Opened.{AreOpened}
use Rattle.vlt_sound_statements.proofs.StatementFilling.{ArePayloads}

-- ---- payloads

-- what is known of the payload types of a case
abbrev pub AreKnown : List ℕ → List Ty → Type 0
AreKnown args types = (i : ℕ) (ty : Ty) → slice_get types i ≡ Some ty →
    (is_payload_type ty ≡ true) × ((k : ℕ) → In k (keys_of_ty ty) → k < length args)

payload_kept : (args : List ℕ) (ty : Ty) → is_payload_type ty ≡ true → is_payload_type (with_keys args ty) ≡ true
payload_kept args int e = refl
payload_kept args bool e = refl
payload_kept args (tracked k t a) e = cc
payload_kept args (owning S t a) e = refl
payload_kept args (guarded k t a) e = refl
payload_kept args (variant t a) e = cc
payload_kept args (owning_variant t a) e = cc

pub payloads_kept : (args : List ℕ) (types : List Ty) → AreKnown args types → ArePayloads (map (with_keys args) types)
payloads_kept args [] known = tt
payloads_kept args (t ∷ types) known =
    (payload_kept args t (known 0 t refl).0, payloads_kept args types (λ i. known (suc i)))

module _ (p : Program) (s : Scene) (names : Names) where
  part_fits : (ty : Ty) (a : Part) → is_payload_type ty ≡ true → FitsPart s names ty a → Fits p s names ty (one a)
  part_fits int a e f = record { part = a; is = refl; fits = f }
  part_fits bool a e f = record { part = a; is = refl; fits = f }
  part_fits (tracked k t args) a e f = cc
  part_fits (owning S t args) a e f = record { part = a; is = refl; fits = f }
  part_fits (guarded k t args) a e f = record { part = a; is = refl; fits = f }
  part_fits (variant t args) a e f = cc
  part_fits (owning_variant t args) a e f = cc

  pub parts_values : (args : List ℕ) (types : List Ty) (parts : List Part) → FitParts s names types parts →
      values_of (handed_values (map (with_keys args) types) (map one parts)) ≡ flat_map objects_in_part parts
  parts_values args [] [] f = refl
  parts_values args [] (a ∷ parts) f = absurd f
  parts_values args (t ∷ types) [] f = absurd f
  parts_values args (t ∷ types) (a ∷ parts) f = ap (λ ns. objects_in_part a ++ ns) (parts_values args types parts f.1)

  pub parts_many : (args : List ℕ) (types : List Ty) (parts : List Part) → FitParts s names types parts →
      length parts ≡ length (map (with_keys args) types)
  parts_many args [] [] f = refl
  parts_many args [] (a ∷ parts) f = absurd f
  parts_many args (t ∷ types) [] f = absurd f
  parts_many args (t ∷ types) (a ∷ parts) f = ap suc (parts_many args types parts f.1)

pub parts_handed : (p : Program) (s : Scene) (names : Names) (args : List ℕ) (types : List Ty) (parts : List Part) →
    AreKnown args types → FitParts s (names_of (map names args)) types parts →
    FitHanded p s names (handed_values (map (with_keys args) types) (map one parts))
parts_handed p s names args [] [] known f = tt
parts_handed p s names args [] (a ∷ parts) known f = absurd f
parts_handed p s names args (t ∷ types) [] known f = absurd f
parts_handed p s names args (t ∷ types) (a ∷ parts) known f =
    let here = known 0 t refl in (
      fits_before p s names args t (one a)
          (fits_named p s (names_of (map names args)) (λ k. names (stands_for args k)) t (one a)
          (λ k i. sym (names_at names args k (here.1 k i)))
          (part_fits p s (names_of (map names args)) t a here.0 f.0)),
      parts_handed p s names args types parts (λ i. known (suc i)) f.1,
    )

-- ---- keys

name_at : (names : Names) (args : List ℕ) (i k : ℕ) → slice_get args i ≡ Some k → names_of (map names args) i ≡ names k
name_at names [] i k at = absurd (none-some k at)
name_at names (a ∷ args) zero k at = ap names (same_some a k at)
  where
    same_some : (a k : ℕ) → Some a ≡ Some k → a ≡ k
    same_some a k e = cc
name_at names (a ∷ args) (suc i) k at = name_at names args i k at

module _ (p : Program) (f : Func) (s : Scene) (names : Names) (t : ℕ) (args : List ℕ)
    (typed_key : (i k u : ℕ) → slice_get args i ≡ Some k → header_type p t i ≡ Some u → key_type f k ≡ Some u)
    (count : length args ≡ length (header_of p t)) where
  abbrev key_in : CaseKey → Option KeyIn
  key_in k = option_map (λ j. record { key = j; states = k.states }) (slice_get args k.position)

  within_header : (i u : ℕ) → header_type p t i ≡ Some u → (k : ℕ) × (slice_get args i ≡ Some k)
  within_header i u is = ⊎_elim
      (λ at. (at.0, at.2))
      (λ past. absurd (none-some u (sym (none past.0) ∙ is)))
      (slice_get_cases args i).1
    where
      none : length args ≤ i → header_type p t i ≡ None
      none le = ap option_join (slice_get_past (header_of p t) i (subst (λ n. n ≤ i) count le))

  pub keys_opened : (cs : List CaseKey) (ns : List ℕ) →
      ((i : ℕ) (k : CaseKey) → slice_get cs i ≡ Some k → (u : ℕ) × (header_type p t k.position ≡ Some u)) →
      FitKeys p s (names_of (map names args)) t cs ns → AreOpened f names (look s.objects) (filter_map key_in cs) ns
  keys_opened [] [] known fit = tt
  keys_opened [] (n ∷ ns) known fit = absurd fit
  keys_opened (q ∷ cs) [] known fit = absurd fit
  keys_opened (q ∷ cs) (n ∷ ns) known fit =
      let head = known 0 q refl in
      let at = within_header q.position head.0 head.1 in
      let here : filter_map key_in (q ∷ cs) ≡ record { key = at.0; states = q.states } ∷ filter_map key_in cs =
      ap (λ o. cons_option (option_map (λ j. record { key = j; states = q.states }) o) (filter_map key_in cs)) at.1 in
      subst (λ ks. AreOpened f names (look s.objects) ks (n ∷ ns)) (sym here) (
        record {
          named = sym (name_at names args q.position at.0 at.1) ∙ fit.0.named;
          typed =
              subst (λ o. IsOfType o (look s.objects n).type)
              (head.1 ∙ sym (typed_key q.position at.0 head.0 at.1 head.1)) fit.0.typed;
          state = fit.0.state;
        },
        keys_opened cs ns (λ i. known (suc i)) fit.1,
      )
