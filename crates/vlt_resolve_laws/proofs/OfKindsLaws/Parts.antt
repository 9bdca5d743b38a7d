-- The types of fields and payloads.
use Rattle.std.proofs.Common.{◌≡◌, ℕ, ◌+◌, nat_lt, Bool, true, false, true≢false, not, ◌&&◌, ◌==◌, cond, if◌then◌else◌, List, [], ◌∷◌, map, length, Option, Some, None, slice_get, option_map, unwrap_or, refl, sym, ap, ◌∙◌, subst, one-add}
use Rattle.std.specs.List.{position, position_or_len}
use Rattle.std.specs.Str.{bytes_eq}
use Rattle.std.proofs.lemmas.Bool.{eqb-true, eq-eqb, lt-ltb, not-false, cond-true}
use Rattle.std.proofs.lemmas.List.{length-map}
use Rattle.std.proofs.lemmas.Option.{slice_get-map, slice_get_within, none-some, same_Some}
use Rattle.vlt_syntax.specs.Tree as s
use Rattle.vlt_syntax.specs.Tree.{HeaderKey}
use Rattle.vlt_syntax.specs.Lists.{Each}
use Rattle.vlt_core.specs.Core as core
use Rattle.vlt_core.specs.Core.{Header, Program}
use Rattle.vlt_core.specs.Types.{args_of, keys_of_ty, type_in}
use Rattle.vlt_core.specs.KindedHeads.{Rules, unless, when_some, typings, part_broken}
use Rattle.vlt_core.specs.declared.rules.TheConstants as rule
use Rattle.vlt_kinds_types.specs.Names.Refusals.{refusal, of_each}
use Rattle.vlt_kinds_types.specs.Names.Globals.{Globals}
use Rattle.vlt_kinds_types.specs.declared.shapes.Wanted.{Wanted}
use Rattle.vlt_kinds_types.specs.declared.shapes.Wanted.TheVariants as wanted
use Rattle.vlt_kinds_types.specs.Files.{File, wanted_in, header_in}
use Rattle.vlt_kinds_types.specs.Types.{KeyUse, ty_refused, ty_uses, core_ty}
use Rattle.vlt_kinds_decls.specs.Decls.{wanted_of, disagrees, key_refused, use_refused, header_position}
use Rattle.vlt_kinds_decls.specs.Made.{core_header, header_number}
use Rattle.vlt_resolve_laws.specs.KindsLaws.Shapes.{header_wanted, Describes, IsWell}
use Rattle.vlt_resolve_laws.proofs.OfKindsLaws.Empty.{cons_not_nil, not_broken, holds, none_in_each}
use Rattle.vlt_resolve_laws.proofs.OfKindsLaws.Types.{TypingsIn, ty_unbroken}
use Rattle.vlt_resolve_laws.proofs.OfKindsLaws.Written.{ty_well}
use Rattle.vlt_resolve_laws.proofs.OfKindsLaws.Uses.{use_numbers, typing_of, use_typings, keys_are_uses, ty_typings}

-- ---- keys of a header

place_of : (known : Globals) (ps : List HeaderKey) (k : List ℕ) (has : Wanted) → wanted_of known ps k ≡ Some has
    → slice_get (header_in known ps) (position_or_len (λ p. bytes_eq k p.key.text) ps) ≡ Some has
place_of known [] k has e = absurd (none-some has e)
place_of known (p ∷ ps) k has e = by (place_of known ps k has) (bytes_eq k p.key.text) e
  where
    by : (wanted_of known ps k ≡ Some has → slice_get (header_in known ps) (position_or_len (λ p. bytes_eq k p.key.text) ps) ≡ Some has)
        → (b : Bool) → (if b then Some (wanted_in known p.key_type) else wanted_of known ps k) ≡ Some has
        → slice_get (wanted_in known p.key_type ∷ header_in known ps) (cond (not b) (1 + position_or_len (λ p. bytes_eq k p.key.text) ps) 0) ≡ Some has
    by more true e = e
    by more false e = rw one-add (more e)

-- the key is one of the header
pub record IsKey (known : Globals) (ps : List HeaderKey) (k : List ℕ) (has : Wanted) : Type 0 where
  pub listed : header_position ps k ≡ Some (header_number ps k)
  pub wanted : slice_get (header_in known ps) (header_number ps k) ≡ Some has

pub is_key : (known : Globals) (ps : List HeaderKey) (k : List ℕ) (has : Wanted) → wanted_of known ps k ≡ Some has → IsKey known ps k has
is_key known ps k has e =
    let test : HeaderKey → Bool = λ p. bytes_eq k p.key.text in
    let there = place_of known ps k has e in
    let within : nat_lt (position_or_len test ps) (length ps) ≡ true =
    subst (λ n. nat_lt (position_or_len test ps) n ≡ true) (length-map ps (λ p. wanted_in known p.key_type)) (lt-ltb _ _ (slice_get_within (header_in known ps) (position_or_len test ps) has there)) in
    let found : position test ps ≡ Some (position_or_len test ps) = cond-true _ _ _ within in
    let number : header_number ps k ≡ position_or_len test ps = ap (λ o. unwrap_or o 0) found in
    record { listed = found ∙ ap Some (sym number); wanted = ap (slice_get (header_in known ps)) number ∙ there }

abbrev part_key : Header → ℕ → Rules
part_key header k = unless (nat_lt k (length header)) rule.KEY_NOT_IN_HEADER

abbrev part_fits : ℕ → Option ℕ → Bool
part_fits t None = false
part_fits t (Some u) = t == u

abbrev part_arg : Header → (key type : ℕ) → Rules
part_arg header k t = when_some (slice_get header k) (λ h. unless (part_fits t h) rule.KEY_ARGUMENT)

part_unbroken : (p : Program) (header : Header) (ty : core.Ty) → IsWell p ty → Each (λ k. part_key header k ≡ []) (keys_of_ty ty)
    → TypingsIn (part_arg header) p (type_in ty) (args_of ty) → part_broken p header ty ≡ []
part_unbroken p header ty well keys typings = ty_unbroken p (part_key header) (part_arg header) ty well keys typings

-- ---- uses

pub typings_in : (broken : (key type : ℕ) → Rules) (p : Program) (ty : core.Ty) → Each (λ x. broken x.key x.type ≡ []) (typings p ty)
    → TypingsIn broken p (type_in ty) (args_of ty)
typings_in broken p core.int each = tt
typings_in broken p core.bool each = tt
typings_in broken p (core.tracked k t args) each = each.1
typings_in broken p (core.owning states t args) each = each
typings_in broken p (core.guarded k t args) each = each
typings_in broken p (core.variant t args) each = each
typings_in broken p (core.owning_variant t args) each = each

pub each_number : (P : ℕ → Type 0) (number : List ℕ → ℕ) (us : List KeyUse) → Each (λ u. P (number u.key)) us → Each P (use_numbers number us)
each_number P number [] each = tt
each_number P number (u ∷ us) each = (each.0, each_number P number us each.1)

-- what a place wants of its key
abbrev pub WhereTyped : (P : (key type : ℕ) → Type 0) → (key : ℕ) → Wanted → Type 0
WhereTyped P k (wanted.OfType t) = P k t
WhereTyped P k _ = Unit {0}

pub each_typing : (P : (key type : ℕ) → Type 0) (number : List ℕ → ℕ) (us : List KeyUse) → Each (λ u. WhereTyped P (number u.key) u.wanted) us
    → Each (λ x. P x.key x.type) (use_typings number us)
each_typing P number [] each = tt
each_typing P number (u ∷ us) each = by u.wanted each.0 (each_typing P number us each.1)
  where
    by : (w : Wanted) → WhereTyped P (number u.key) w → Each (λ x. P x.key x.type) (use_typings number us) → Each (λ x. P x.key x.type) (typing_of (number u.key) w (use_typings number us))
    by wanted.Any fits more = more
    by wanted.Unknown fits more = more
    by (wanted.OfType t) fits more = (fits, more)

pub each_both : {A : Type 0} (P Q R : A → Type 0) → ((x : A) → P x → Q x → R x) → (xs : List A) → Each P xs → Each Q xs → Each R xs
each_both P Q R go [] p q = tt
each_both P Q R go (x ∷ xs) p q = (go x p.0 q.0, each_both P Q R go xs p.1 q.1)

pub each_other : {A : Type 0} (P Q : A → Type 0) → ((x : A) → P x → Q x) → (xs : List A) → Each P xs → Each Q xs
each_other P Q go [] p = tt
each_other P Q go (x ∷ xs) p = (go x p.0, each_other P Q go xs p.1)

module _ (known : Globals) (ps : List HeaderKey) (clear : header_in known ps ≡ map header_wanted (core_header known ps)) where
  -- the key's number is one of the header, with what the header says there
  pub header_at : (k : List ℕ) (has : Wanted) → wanted_of known ps k ≡ Some has
      → (h : Option ℕ) × (slice_get (core_header known ps) (header_number ps k) ≡ Some h) × (has ≡ header_wanted h)
  header_at k has e = by (slice_get (core_header known ps) (header_number ps k)) refl
    where
      there : option_map header_wanted (slice_get (core_header known ps) (header_number ps k)) ≡ Some has
      there = sym (slice_get-map header_wanted (core_header known ps) (header_number ps k)) ∙ (sym (ap (λ ws. slice_get ws (header_number ps k)) clear) ∙ (is_key known ps k has e).wanted)

      by : (o : Option (Option ℕ)) → slice_get (core_header known ps) (header_number ps k) ≡ o
          → (h : Option ℕ) × (slice_get (core_header known ps) (header_number ps k) ≡ Some h) × (has ≡ header_wanted h)
      by None is = absurd (none-some has (sym (ap (option_map header_wanted) is) ∙ there))
      by (Some h) is = (h, is, same_Some has (header_wanted h) (sym there ∙ ap (option_map header_wanted) is))

  -- a key that isn't refused breaks nothing
  abbrev FitsHeader : KeyUse → Type 0
  FitsHeader u = (part_key (core_header known ps) (header_number ps u.key) ≡ []) × WhereTyped (λ k t. part_arg (core_header known ps) k t ≡ []) (header_number ps u.key) u.wanted

  use_fits : (u : KeyUse) → use_refused known ps u ≡ [] → u.tracked ≡ false → FitsHeader u
  unfolding use_refused
  use_fits u none free = by (wanted_of known ps u.key) refl none
    where
      typed : (w : Wanted) (h : Option ℕ) → slice_get (core_header known ps) (header_number ps u.key) ≡ Some h → (not u.tracked && disagrees (header_wanted h) w) ≡ false
          → WhereTyped (λ k t. part_arg (core_header known ps) k t ≡ []) (header_number ps u.key) w
      typed wanted.Any h at fits = tt
      typed wanted.Unknown h at fits = tt
      typed (wanted.OfType t) None at fits = absurd (true≢false (sym (ap (λ b. not b && true) free) ∙ fits))
      typed (wanted.OfType t) (Some v) at fits =
          rw at (holds (t == v) rule.KEY_ARGUMENT (eq-eqb t v (sym (eqb-true v t (not-false (v == t) (sym (ap (λ b. not b && not (v == t)) free) ∙ fits))))))

      by : (o : Option Wanted) → wanted_of known ps u.key ≡ o → key_refused o u ≡ [] → FitsHeader u
      by None is none = absurd (cons_not_nil (refusal rule.KEY_NOT_IN_HEADER u.at) [] none)
      by (Some has) is none =
          let h = header_at u.key has is in
          let fits = not_broken _ rule.KEY_ARGUMENT u.at none in (
            holds _ rule.KEY_NOT_IN_HEADER (lt-ltb _ _ (slice_get_within (core_header known ps) (header_number ps u.key) h.0 h.1)),
            typed u.wanted h.0 h.1 (sym (ap (λ w. not u.tracked && disagrees w u.wanted) h.2) ∙ fits),
          )

  pub typed_unbroken : (file : File) (p : Program) → Describes file p → (t : s.Ty) → ty_refused file t ≡ [] → Each (λ u. u.tracked ≡ false) (ty_uses file t)
      → of_each (use_refused known ps) (ty_uses file t) ≡ [] → part_broken p (core_header known ps) (core_ty file (header_number ps) t) ≡ []
  typed_unbroken file p describes t none free uses =
      let each = each_both _ _ FitsHeader use_fits (ty_uses file t) (none_in_each (use_refused known ps) (ty_uses file t) uses) free in
      let number = header_number ps in
      part_unbroken p (core_header known ps) (core_ty file number t) (ty_well file p describes t number none)
      (rw (keys_are_uses file number t) (each_number _ number (ty_uses file t) (each_other _ _ (λ u x. x.0) (ty_uses file t) each)))
      (typings_in (part_arg (core_header known ps)) p (core_ty file number t)
      (rw (ty_typings file p describes number t none) (each_typing (λ k t. part_arg (core_header known ps) k t ≡ []) number (ty_uses file t) (each_other _ _ (λ u x. x.1) (ty_uses file t) each))))
