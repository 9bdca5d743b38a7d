-- Cases that aren't refused.
use Rattle.std.proofs.Common.{◌≡◌, ℕ, Bool, true, false, true≢false, not, ◌==◌, cond, if◌then◌else◌, List, [], ◌∷◌, ◌++◌, map, length, Option, Some, None, slice_get, option_map, refl, sym, ap, ◌∙◌, ◌+◌, arith, le-ltb}
use Rattle.std.specs.List.{flat_map, position_or_len}
use Rattle.std.specs.Str.{bytes_eq}
use Rattle.std.proofs.lemmas.Bool.{or_parts, or_from, cond-false}
use Rattle.std.proofs.lemmas.List.Folds.{list_any-append}
use Rattle.std.proofs.lemmas.Option.{none-some}
use Rattle.vlt_syntax.specs.Tree.{KeyStates, HeaderKey, Case}
use Rattle.vlt_syntax.specs.Lists.{Each}
use Rattle.vlt_core.specs.Core.{TypeDecl, Program}
use Rattle.vlt_core.specs.Types.{decl_of}
use Rattle.vlt_core.specs.KindedHeads.{Rules, unless, has, are_apart, when_some, states_broken, part_broken, is_payload_type, case_key_broken, case_broken}
use Rattle.vlt_core.specs.declared.rules.TheConstants as rule
use Rattle.vlt_kinds_types.specs.Names.Refusals.{refusal, of_each}
use Rattle.vlt_kinds_types.specs.Names.Along.{along}
use Rattle.vlt_kinds_types.specs.Names.Globals.{Globals}
use Rattle.vlt_kinds_types.specs.declared.shapes.Wanted.{Wanted}
use Rattle.vlt_kinds_types.specs.declared.shapes.Wanted.TheVariants as wanted
use Rattle.vlt_kinds_types.specs.Files.{File, wanted_in, header_in}
use Rattle.vlt_kinds_types.specs.Types.{is_listed, with_listed, is_unknown_or_listed, states_listed, core_ty}
use Rattle.vlt_kinds_decls.specs.declared.parts.Part.TheVariants as part
use Rattle.vlt_kinds_decls.specs.Decls.{wanted_of, header_position, is_any, typed_refused, case_key_refused, object_states_refused, with_key, next_key_refused, case_refused}
use Rattle.vlt_kinds_decls.specs.Made.{core_header, header_number, object_states, core_case_key, core_case}
use Rattle.vlt_resolve_laws.specs.KindsLaws.Shapes.{core_shape, header_wanted, Describes}
use Rattle.vlt_resolve_laws.proofs.OfKindsLaws.Empty.{cons_not_nil, no_left, no_right, none_of_both, none_in_each, holds}
use Rattle.vlt_resolve_laws.proofs.OfKindsLaws.Named.{shape_is}
use Rattle.vlt_resolve_laws.proofs.OfKindsLaws.States.{states_unbroken}
use Rattle.vlt_resolve_laws.proofs.OfKindsLaws.Parts.{is_key, header_at, each_other}
use Rattle.vlt_resolve_laws.proofs.OfKindsLaws.Fields.{payload_unbroken}

-- ---- keys that aren't in the header

nowhere : (known : Globals) (ps : List HeaderKey) (k : List ℕ) → wanted_of known ps k ≡ None → position_or_len (λ p. bytes_eq k p.key.text) ps ≡ length ps
nowhere known [] k e = refl
nowhere known (p ∷ ps) k e = by (nowhere known ps k) (bytes_eq k p.key.text) e
  where
    by : (wanted_of known ps k ≡ None → position_or_len (λ p. bytes_eq k p.key.text) ps ≡ length ps) → (b : Bool)
        → (if b then Some (wanted_in known p.key_type) else wanted_of known ps k) ≡ None
        → cond (not b) (1 + position_or_len (λ p. bytes_eq k p.key.text) ps) 0 ≡ length (p ∷ ps)
    by more true e = absurd (none-some _ (sym e))
    by more false e = omega (arith, more e)

no_position : (known : Globals) (ps : List HeaderKey) (k : List ℕ) → wanted_of known ps k ≡ None → header_position ps k ≡ None
no_position known ps k e =
    let test : HeaderKey → Bool = λ p. bytes_eq k p.key.text in
    cond-false _ _ _ (le-ltb (position_or_len test ps) (length ps) (omega (arith, nowhere known ps k e)))

pub each_mapped : {A B : Type 0} (f : A → B) (go : B → Rules) (xs : List A) → Each (λ x. go (f x) ≡ []) xs → flat_map go (map f xs) ≡ []
each_mapped f go [] each = refl
each_mapped f go (x ∷ xs) each = none_of_both (go (f x)) (flat_map go (map f xs)) each.0 (each_mapped f go xs each.1)

module _ (file : File) (p : Program) (describes : Describes file p) (ps : List HeaderKey) (clear : header_in file.globals ps ≡ map header_wanted (core_header file.globals ps)) where
  abbrev number : KeyStates → ℕ
  number k = header_number ps k.key.text

  -- the key is one of the header with a type there, and isn't listed before
  record FitsCase (seen : List ℕ) (k : KeyStates) : Type 0 where
    pub listed : header_position ps k.key.text ≡ Some (number k)
    pub new : is_listed seen (number k) ≡ false
    pub type : ℕ
    pub wanted : wanted_of file.globals ps k.key.text ≡ Some (wanted.OfType type)
    pub header : slice_get (core_header file.globals ps) (number k) ≡ Some (Some type)

  fits_case : (seen : List ℕ) (k : KeyStates) → next_key_refused file ps seen k ≡ [] → FitsCase seen k
  unfolding next_key_refused case_key_refused
  fits_case seen k none = wants (wanted_of file.globals ps k.key.text) refl
    where
      clean : (b : Bool) → (if b then refusal rule.CASE_KEY k.key.at.from ∷ [] else object_states_refused file (wanted_of file.globals ps k.key.text) k.states) ≡ [] → b ≡ false
      clean true e = absurd (cons_not_nil (refusal rule.CASE_KEY k.key.at.from) [] e)
      clean false e = refl

      both : (is_unknown_or_listed seen (header_position ps k.key.text) ≡ false) × (is_any (wanted_of file.globals ps k.key.text) ≡ false)
      both = or_parts _ _ (clean _ none)

      typed : (t : ℕ) → wanted_of file.globals ps k.key.text ≡ Some (wanted.OfType t) → (h : Option ℕ) → slice_get (core_header file.globals ps) (number k) ≡ Some h → wanted.OfType t ≡ header_wanted h → FitsCase seen k
      typed t is None at e = cc
      typed t is (Some u) at e =
          let found = (is_key file.globals ps k.key.text (wanted.OfType t) is).listed in
          record {
            listed = found;
            new = sym (ap (is_unknown_or_listed seen) found) ∙ both.0;
            type = u;
            wanted = is ∙ ap Some e;
            header = at;
          }

      unknown : (h : Option ℕ) → wanted.Unknown ≡ header_wanted h → FitsCase seen k
      unknown None e = cc
      unknown (Some u) e = cc

      wants : (o : Option Wanted) → wanted_of file.globals ps k.key.text ≡ o → FitsCase seen k
      wants None is = absurd (true≢false (sym (ap (is_unknown_or_listed seen) (no_position file.globals ps k.key.text is)) ∙ both.0))
      wants (Some wanted.Any) is = absurd (true≢false (sym (ap is_any is) ∙ both.1))
      wants (Some wanted.Unknown) is = let h = header_at file.globals ps clear k.key.text wanted.Unknown is in unknown h.0 h.2
      wants (Some (wanted.OfType t)) is = let h = header_at file.globals ps clear k.key.text (wanted.OfType t) is in typed t is h.0 h.1 h.2

  key_unbroken : (seen : List ℕ) (k : KeyStates) → FitsCase seen k → case_key_broken p (core_header file.globals ps) (core_case_key file ps k) ≡ []
  unfolding core_case_key
  key_unbroken seen k x = rw x.header (by (decl_of p x.type) refl)
    where
      by : (o : Option TypeDecl) → decl_of p x.type ≡ o → when_some o (λ d. states_broken p x.type (states_listed (object_states file (wanted_of file.globals ps k.key.text)) k.states)) ≡ []
      by None there = refl
      by (Some d) there =
          rw (x.wanted, shape_is file p describes x.type ∙ ap (option_map core_shape) there) (states_unbroken file p describes x.type d there k.states)

  -- ---- the keys that a case lists

  abbrev IsOther : ℕ → List KeyStates → Type 0
  IsOther n ks = Each (λ k. (number k == n) ≡ false) ks

  not_among : (n : ℕ) (ks : List KeyStates) → IsOther n ks → has (map (λ k. k.position) (map (core_case_key file ps) ks)) n ≡ false
  unfolding core_case_key
  not_among n [] each = refl
  not_among n (k ∷ ks) each = or_from (number k == n) _ each.0 (not_among n ks each.1)

  pub record FitCases (seen : List ℕ) (ks : List KeyStates) : Type 0 where
    pub new : Each (λ k. is_listed seen (number k) ≡ false) ks
    pub apart : are_apart (map (λ k. k.position) (map (core_case_key file ps) ks)) ≡ true
    pub unbroken : Each (λ k. case_key_broken p (core_header file.globals ps) (core_case_key file ps k) ≡ []) ks

  fit_cases : (seen : List ℕ) (ks : List KeyStates) → along (with_key ps) (next_key_refused file ps) seen ks ≡ [] → FitCases seen ks
  unfolding core_case_key
  fit_cases seen [] none = record { new = tt; apart = refl; unbroken = tt }
  fit_cases seen (k ∷ ks) none =
      let x = fits_case seen k (no_left (next_key_refused file ps seen k) _ none) in
      let seen_more : with_key ps seen k ≡ seen ++ number k ∷ [] = ap (with_listed seen) x.listed ∙ ap (λ b. if b then seen else seen ++ number k ∷ []) x.new in
      let more = fit_cases (with_key ps seen k) ks (no_right (next_key_refused file ps seen k) _ none) in
      let split : Each (λ j. (is_listed seen (number j) ≡ false) × ((number j == number k) ≡ false)) ks =
      each_other _ _ (λ j e.
      let two = or_parts _ _ (sym (list_any-append (λ i. number j == i) seen (number k ∷ [])) ∙ (sym (ap (λ ns. is_listed ns (number j)) seen_more) ∙ e)) in
      (two.0, (or_parts _ _ two.1).0)) ks more.new in
      record {
        new = (x.new, each_other _ _ (λ j e. e.0) ks split);
        apart = rw (not_among (number k) ks (each_other _ _ (λ j e. e.1) ks split)) more.apart;
        unbroken = (key_unbroken seen k x, more.unbroken);
      }

  pub case_unbroken : (c : Case) → case_refused file ps c ≡ [] → case_broken p (core_header file.globals ps) (core_case file ps c) ≡ []
  unfolding case_refused core_case
  case_unbroken c none =
      let payloads = none_in_each (typed_refused file ps part.Payload) c.payload (no_left _ _ none) in
      let keys = fit_cases [] c.keys (no_right (of_each (typed_refused file ps part.Payload) c.payload) _ none) in
      none_of_both _ _
      (none_of_both _ _
      (each_mapped (core_ty file (header_number ps)) (λ ty. part_broken p (core_header file.globals ps) ty ++ unless (is_payload_type ty) rule.PAYLOAD_TYPE) c.payload (each_other _ _ (payload_unbroken file p describes ps clear) c.payload payloads))
      (holds _ rule.CASE_KEY keys.apart))
      (each_mapped (core_case_key file ps) (case_key_broken p (core_header file.globals ps)) c.keys keys.unbroken)
