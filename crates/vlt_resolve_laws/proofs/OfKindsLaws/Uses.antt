-- The keys of a type where it is written, and those of what it becomes.
use Rattle.std.proofs.Common.{◌≡◌, ℕ, Bool, true, false, ◌==◌, if◌then◌else◌, List, [], ◌∷◌, map, length, Option, Some, None, refl, sym, ap, ap₂, ◌∙◌, arith}
use Rattle.std.proofs.lemmas.Bool.{eqb-true}
use Rattle.std.proofs.lemmas.List.{length-map}
use Rattle.vlt_syntax.specs.Tree as s
use Rattle.vlt_syntax.specs.Tree.{Name, Named}
use Rattle.vlt_core.specs.Core as core
use Rattle.vlt_core.specs.Core.{Header, Program}
use Rattle.vlt_core.specs.Types.{header_in, header_of, keys_of_ty}
use Rattle.vlt_core.specs.KindedHeads.{Typing, arg_typings, typings}
use Rattle.vlt_kinds_types.specs.declared.shapes.Wanted.{Wanted}
use Rattle.vlt_kinds_types.specs.declared.shapes.Wanted.TheVariants as wanted
use Rattle.vlt_kinds_types.specs.declared.shapes.Shape.{Shape}
use Rattle.vlt_kinds_types.specs.Files.{File, shape_named, state_names, wanted_type}
use Rattle.vlt_kinds_types.specs.Types.{KeyUse, key_use, argument_uses, header_uses, named_uses, ty_uses, ty_refused, type_number, key_numbers, is_variant_in, sort_in, owned_refused, owned_ty, core_ty, states_listed}
use Rattle.vlt_resolve_laws.specs.KindsLaws.Shapes.{header_wanted, Describes}
use Rattle.vlt_resolve_laws.proofs.OfKindsLaws.Empty.{no_left}
use Rattle.vlt_resolve_laws.proofs.OfKindsLaws.Written.{IsWritten, written, number_is}

abbrev pub use_numbers : (number : List ℕ → ℕ) → List KeyUse → List ℕ
use_numbers number = map (λ u. number u.key)

-- what a place says of the type of its key's object
abbrev pub typing_of : (key : ℕ) → Wanted → List Typing → List Typing
typing_of k (wanted.OfType t) rest = record { key = k; type = t } ∷ rest
typing_of k _ rest = rest

abbrev pub use_typings : (number : List ℕ → ℕ) → List KeyUse → List Typing
use_typings number [] = []
use_typings number (u ∷ us) = typing_of (number u.key) u.wanted (use_typings number us)

unknown_numbers : (number : List ℕ → ℕ) (w : Wanted) (ks : List Name) → use_numbers number (map (key_use w) ks) ≡ key_numbers number ks
unknown_numbers number w [] = refl
unknown_numbers number w (k ∷ ks) = ap (λ ns. number k.text ∷ ns) (unknown_numbers number w ks)

argument_numbers : (number : List ℕ → ℕ) (ws : List Wanted) (ks : List Name) → length ws ≡ length ks
    → use_numbers number (argument_uses ws ks) ≡ key_numbers number ks
argument_numbers number [] [] e = refl
argument_numbers number (w ∷ ws) (k ∷ ks) e = ap (λ ns. number k.text ∷ ns) (argument_numbers number ws ks (omega (arith, e)))
argument_numbers number [] (k ∷ ks) e = absurd (omega (arith, e))
argument_numbers number (w ∷ ws) [] e = absurd (omega (arith, e))

header_numbers : (number : List ℕ → ℕ) (o : Option Shape) (ks : List Name) → use_numbers number (header_uses o ks) ≡ key_numbers number ks
header_numbers number None ks = unknown_numbers number wanted.Unknown ks
header_numbers number (Some shape) ks = by (length shape.header == length ks) refl
  where
    by : (b : Bool) → (length shape.header == length ks) ≡ b → use_numbers number (if b then argument_uses shape.header ks else map (key_use wanted.Unknown) ks) ≡ key_numbers number ks
    by true e = argument_numbers number shape.header ks (eqb-true (length shape.header) (length ks) e)
    by false e = unknown_numbers number wanted.Unknown ks

pub named_numbers : (file : File) (number : List ℕ → ℕ) (n : Named) → use_numbers number (named_uses file n) ≡ key_numbers number n.keys
unfolding named_uses
named_numbers file number n = header_numbers number (shape_named file n.name) n.keys

-- the keys of a type are those that stand in it
pub keys_are_uses : (file : File) (number : List ℕ → ℕ) (t : s.Ty) → keys_of_ty (core_ty file number t) ≡ use_numbers number (ty_uses file t)
unfolding owned_ty
keys_are_uses file number (s.int at) = refl
keys_are_uses file number (s.bool at) = refl
keys_are_uses file number (s.tracked k n at) = ap (λ ns. number k.text ∷ ns) (sym (named_numbers file number n))
keys_are_uses file number (s.owning ss n at) = by (states_listed (state_names file (shape_named file n.name)) ss) (is_variant_in (sort_in (shape_named file n.name))) ∙ sym (named_numbers file number n)
  where
    by : (states : core.States) (b : Bool) → keys_of_ty (if b then core.owning_variant (type_number file n.name) (key_numbers number n.keys) else core.owning states (type_number file n.name) (key_numbers number n.keys)) ≡ key_numbers number n.keys
    by states true = refl
    by states false = refl
keys_are_uses file number (s.guarded k n) = ap (λ ns. number k.text ∷ ns) (sym (named_numbers file number n))
keys_are_uses file number (s.plain n) = sym (named_numbers file number n)

argument_typings : (number : List ℕ → ℕ) (hs : Header) (ks : List Name) → arg_typings (key_numbers number ks) hs ≡ use_typings number (argument_uses (map header_wanted hs) ks)
argument_typings number [] [] = refl
argument_typings number [] (k ∷ ks) = refl
argument_typings number (h ∷ hs) [] = refl
argument_typings number (None ∷ hs) (k ∷ ks) = argument_typings number hs ks
argument_typings number (Some t ∷ hs) (k ∷ ks) = ap (λ ts. record { key = number k.text; type = t } ∷ ts) (argument_typings number hs ks)

module _ (file : File) (p : Program) (describes : Describes file p) (number : List ℕ → ℕ) where
  pub named_typings : (t : s.Ty) (n : Named) → IsWritten file p t n → arg_typings (key_numbers number n.keys) (header_of p (type_number file n.name)) ≡ use_typings number (named_uses file n)
  unfolding named_uses
  named_typings t n x =
      rw (number_is file p describes n.name x.stood, x.stood.there, x.stood.shaped)
      (argument_typings number (header_in (Some x.stood.decl)) n.keys
      ∙ sym (ap (λ b. use_typings number (if b then argument_uses (map header_wanted (header_in (Some x.stood.decl))) n.keys else map (key_use wanted.Unknown) n.keys)) (ap (λ k. k == length n.keys) (length-map (header_in (Some x.stood.decl)) header_wanted) ∙ x.count)))

  -- what a type says of its keys is what their places say
  pub ty_typings : (t : s.Ty) → ty_refused file t ≡ [] → typings p (core_ty file number t) ≡ use_typings number (ty_uses file t)
  unfolding owned_refused owned_ty
  ty_typings (s.int at) none = refl
  ty_typings (s.bool at) none = refl
  ty_typings (s.tracked k n at) none =
      let x = written file p describes (s.tracked k n at) n none in
      ap₂ (λ t ts. record { key = number k.text; type = t } ∷ ts) (number_is file p describes n.name x.stood) (named_typings (s.tracked k n at) n x)
      ∙ sym (ap (λ o. typing_of (number k.text) (wanted_type o) (use_typings number (named_uses file n))) x.stood.named)
  ty_typings (s.owning ss n at) none =
      by (states_listed (state_names file (shape_named file n.name)) ss) (is_variant_in (sort_in (shape_named file n.name))) ∙ named_typings (s.owning ss n at) n (written file p describes (s.owning ss n at) n (no_left _ _ none))
    where
      by : (states : core.States) (b : Bool) → typings p (if b then core.owning_variant (type_number file n.name) (key_numbers number n.keys) else core.owning states (type_number file n.name) (key_numbers number n.keys))
          ≡ arg_typings (key_numbers number n.keys) (header_of p (type_number file n.name))
      by states true = refl
      by states false = refl
  ty_typings (s.guarded k n) none = named_typings (s.guarded k n) n (written file p describes (s.guarded k n) n none)
  ty_typings (s.plain n) none = named_typings (s.plain n) n (written file p describes (s.plain n) n none)
