-- A result that is a case takes its keys' objects over, with numbers and new objects.
use Rattle.std.proofs.Common.{◌≡◌, inl, inr, ℕ, suc, ◌<◌, List, [], ◌∷◌, ◌++◌, map, Option, Some, refl, sym, ap, ◌∙◌, subst, slice_get}
use Rattle.std.proofs.lemmas.List.{length-map}
use Rattle.std.proofs.lemmas.Option.{none-some, same_Some, slice_get-map}
use Rattle.std.specs.List.{filter_map, cons_option, zip}
use Rattle.std.specs.Option.{option_map, option_to_list, option_and_then}
use Rattle.vlt_core.specs.Core.{Ty, int, bool, tracked, owning, guarded, variant, owning_variant, CaseKey, CaseDecl, Func, Program}
use Rattle.vlt_core.specs.Lookups.{VariantOf, variant_in, KeyIn, keys_in, case_at}
use Rattle.vlt_core.specs.Types.{with_keys, stands_for}
use Rattle.vlt_core.specs.Maps.{HeldMap}
use Rattle.vlt_core.specs.KindedScopes.{Ids}
use Rattle.vlt_meaning.specs.World.{Part, Value, one, of_case, Object, World, Frame, missing}
use Rattle.vlt_meaning.specs.Found.{or_fault}
use Rattle.vlt_meaning.specs.Step.{Step}
use Rattle.vlt_meaning.specs.HostAnswers.{Piece, case_with}
use Rattle.vlt_meaning.specs.Externals.{objects_of_keys, keys_of_case, case_objects, with_states, payload_in, with_pieces, with_result}
use Rattle.vlt_sound_worlds.specs.Look.{look}
use Rattle.vlt_sound_worlds.specs.Members.{In}
use Rattle.vlt_sound_worlds.specs.Scene.{Scene}
use Rattle.vlt_sound_worlds.specs.Fits.{Names, names_of, option_join, FitKeys, IsCase, Fits}
use Rattle.vlt_sound_worlds.specs.Agrees.{Context, scene, Agrees}
use Rattle.vlt_sound_worlds.specs.Safe.{Goal, Safe}
use Rattle.vlt_sound_worlds.proofs.Safe.{found_safe}
use Rattle.vlt_sound_calls.proofs.Parameters.{handed_objects}
use Rattle.vlt_sound_worlds.specs.Said.{GoTogether, IsKeyState, IsPieceOf}
use Rattle.vlt_sound_calls.specs.ReturnGiven.{IsGiven}
use Rattle.vlt_sound_calls.specs.ReturnHeads.{IsHostKey, IsHostCase}
use Rattle.vlt_sound_calls.specs.TakenOver.{AreTakenOver, IsForKey, NamesObject, AreNamed}
use Rattle.vlt_sound_calls.proofs.Boxing.{agrees_boxed}
use Rattle.vlt_sound_calls.proofs.TakenOver.{over_all, over_within}
use Rattle.vlt_sound_calls.proofs.ReturnTelling.{Told, all_told}
use Rattle.vlt_sound_calls.proofs.ResultsPieces.{AreHostPayloads, Following, parts_objects, parts_fit, pieces_safe}

-- ---- the objects of a case's keys

module _ (p : Program) (g : Func) (keys : List ℕ) (frame : Frame) (os : List Object) (named : AreNamed g keys frame os)
    (t : ℕ) (args : List ℕ) where
  abbrev pub case_names : Names
  case_names = names_of (map frame.keys (map (stands_for keys) args))

  abbrev key_in : CaseKey → Option KeyIn
  key_in k = option_map (λ j. record { key = j; states = k.states }) (slice_get args k.position)

  -- each key of the case names its object
  pub for_keys : (ks : List CaseKey) → ((i : ℕ) (k : CaseKey) → slice_get ks i ≡ Some k → IsHostKey p g t args k) →
      GoTogether (IsForKey p case_names os t) ks (objects_of_keys keys frame (filter_map key_in ks))
  for_keys [] known = tt
  for_keys (k ∷ ks) known =
      subst (λ js. GoTogether (IsForKey p case_names os t) (k ∷ ks) (objects_of_keys keys frame js)) (sym first)
      (subst (λ ns. GoTogether (IsForKey p case_names os t) (k ∷ ks) (ns ++ objects_of_keys keys frame (filter_map key_in ks))) (sym object)
      (here, for_keys ks (λ i. known (suc i))))
    where
      q : IsHostKey p g t args k
      q = known 0 k refl

      n : NamesObject keys frame os q.key q.of
      n = named q.key q.of q.known q.typed

      first : filter_map key_in (k ∷ ks) ≡ record { key = q.key; states = k.states } ∷ filter_map key_in ks
      first =
          ap (λ o. cons_option (option_map (λ j. record { key = j; states = k.states }) o) (filter_map key_in ks)) q.is

      object : option_to_list (option_and_then frame.keys (slice_get keys q.key)) ≡ n.number ∷ []
      object = ap option_to_list (ap (option_and_then frame.keys) n.there ∙ n.named)

      here : IsForKey p case_names os t k n.number
      here = record {
        named =
            ap option_join (slice_get-map frame.keys (map (stands_for keys) args) k.position ∙
            ap (option_map frame.keys) (slice_get-map (stands_for keys) args k.position ∙ ap (option_map (stands_for keys)) q.is)) ∙
            n.named;
        of = q.of;
        header = q.header;
        typed = n.typed;
        states = q.states;
      }

-- the keys of a case fit where their objects stay
fit_stays : (p : Program) (s s' : Scene) (names : Names) (t : ℕ) (ks : List CaseKey) (ns : List ℕ) →
    ((m : ℕ) → In m ns → look s'.objects m ≡ look s.objects m) → FitKeys p s names t ks ns → FitKeys p s' names t ks ns
fit_stays p s s' names t [] [] same fits = tt
fit_stays p s s' names t [] (n ∷ ns) same fits = absurd fits
fit_stays p s s' names t (k ∷ ks) [] same fits = absurd fits
fit_stays p s s' names t (k ∷ ks) (n ∷ ns) same fits = (
  record {
    named = fits.0.named;
    typed = rw (same n (inl refl)) fits.0.typed;
    state = rw (same n (inl refl)) fits.0.state;
  },
  fit_stays p s s' names t ks ns (λ m i. same m (inr i)) fits.1,
)

-- a value of a variant's case fits the variant
fits_case : (p : Program) (s : Scene) (names : Names) (keys : List ℕ) (ty : Ty) (t : ℕ) (args : List ℕ) (v : Value) →
    variant_in (Some ty) ≡ Some (record { type = t; args = args }) →
    IsCase p s (names_of (map names (map (stands_for keys) args))) t v → Fits p s names (with_keys keys ty) v
fits_case p s names keys (variant u others) t args v of is =
    subst (λ q. IsCase p s (names_of (map names (map (stands_for keys) q.args))) q.type v)
    (sym (same_Some (record { type = u; args = others }) (record { type = t; args = args }) of)) is
fits_case p s names keys (owning_variant u others) t args v of is =
    subst (λ q. IsCase p s (names_of (map names (map (stands_for keys) q.args))) q.type v)
    (sym (same_Some (record { type = u; args = others }) (record { type = t; args = args }) of)) is
fits_case p s names keys int t args v of is = absurd (none-some (record { type = t; args = args }) of)
fits_case p s names keys bool t args v of is = absurd (none-some (record { type = t; args = args }) of)
fits_case p s names keys (tracked k u others) t args v of is = absurd (none-some (record { type = t; args = args }) of)
fits_case p s names keys (owning S u others) t args v of is = absurd (none-some (record { type = t; args = args }) of)
fits_case p s names keys (guarded k u others) t args v of is = absurd (none-some (record { type = t; args = args }) of)

module _ {p : Program} {f : Func} {c : Context} {h : HeldMap} {ids : Ids} {frame : Frame} (w : World) {os : List Object}
    (agrees : Agrees p f c h ids [] frame os) (g : Func) (keys states : List ℕ) (heap : ℕ) (goal : Goal)
    (go : Option Value → Frame → World → Step) (ty : Ty) (t case : ℕ) (args : List ℕ) (d : CaseDecl) (ss : List ℕ) (ps : List Piece)
    (result : g.result ≡ Some ty) (of : variant_in (Some ty) ≡ Some (record { type = t; args = args }))
    (declared : case_at p t case ≡ Some d) (host : IsHostCase p g t args d) (named : AreNamed g keys frame os)
    (states_said : GoTogether IsKeyState d.keys ss) (pieces_said : GoTogether IsPieceOf d.payload ps) where
  abbrev ns : List ℕ
  ns = case_objects p g keys frame (case_with case ss ps)

  -- where the keys' objects are taken over, and have their new states
  pub case_safe : (real : List Object) → AreTakenOver ns os real → w.objects ≡ with_states (zip ns ss) real →
      ((v : Value) (w2 : World) → IsGiven p f c h ids frame w2.objects keys (Some ty) (Some v) →
      Safe goal (go (Some v) frame w2)) →
      Safe goal (with_result heap p g keys states (case_with case ss ps) frame w go)
  unfolding with_result
  case_safe real over is on =
      found_safe goal (or_fault missing (variant_in g.result)) v w _ (ap (or_fault missing) known_variant)
      (subst (λ o. Safe goal (with_pieces heap (payload_in o) ps w (λ parts w. go (Some (of_case case parts ns)) frame w))) (sym declared)
      (pieces_safe p f c h ids frame ns inner heap goal d.payload ps [] now w _ payloads pieces_said told.agrees
      (subst (AreTakenOver ns now) (sym is) over_now)
      (λ parts w2 b. on (of_case case parts ns) w2 (of_case case parts ns, refl, boxed parts w2 b))))
    where
      v : VariantOf
      v = record { type = t; args = args }

      known_variant : variant_in g.result ≡ Some v
      known_variant = ap variant_in result ∙ of

      inner : List ℕ
      inner = map (stands_for keys) args

      ns_is : ns ≡ objects_of_keys keys frame (keys_in args (Some d))
      ns_is =
          ap (λ o. objects_of_keys keys frame (keys_of_case p o (case_with case ss ps))) known_variant ∙
          ap (λ o. objects_of_keys keys frame (keys_in args o)) declared

      keyed : GoTogether (IsForKey p (case_names p g keys frame os named t args) os t) d.keys ns
      keyed =
          subst (GoTogether (IsForKey p (case_names p g keys frame os named t args) os t) d.keys) (sym ns_is)
          (for_keys p g keys frame os named t args d.keys host.keys)

      now : List Object
      now = with_states (zip ns ss) os

      told : Told p f c h ids [] frame (case_names p g keys frame os named t args) t os now d.keys ns
      told =
          all_told p f c h ids [] frame (case_names p g keys frame os named t args) t d.keys ns ss os agrees over.was
          over.once keyed states_said

      over_now : AreTakenOver ns now (with_states (zip ns ss) real)
      over_now = over_all ns (zip ns ss) os real over

      payloads : AreHostPayloads p inner d.payload
      payloads i ty at =
          let q = host.payload i ty at in
          (q.0, λ k j. subst (λ l. k < l) (sym (length-map args (stands_for keys))) (q.1 k j))

      boxed : (parts : List Part) (w2 : World) → Following p f c h ids frame ns inner heap goal [] d.payload now parts w2 →
          Agrees p f c h ids (record { value = of_case case parts ns; type = with_keys keys ty } ∷ []) frame w2.objects
      boxed parts w2 b =
          agrees_boxed b.agrees ns w2.objects b.over (record { value = of_case case parts ns; type = with_keys keys ty })
          (ap (λ xs. xs ++ ns) (sym (handed_objects (map (with_keys inner) d.payload) (map one parts) b.long ∙ parts_objects parts)))
          (fits_case p (scene c b.objects b.agrees.heads) frame.keys keys ty t args (of_case case parts ns) of (record {
            case = case;
            decl = d;
            parts = parts;
            keys = ns;
            is = refl;
            declared = declared;
            fit = parts_fit p (scene c b.objects b.agrees.heads) frame.keys inner d.payload parts payloads b.long b.agrees.handed;
            held = fit_stays p (scene c now told.agrees.heads) (scene c b.objects b.agrees.heads)
                (case_names p g keys frame os named t args) t d.keys ns
                (λ m i. b.same m (over_within over_now m i)) (told.fit told.agrees.heads);
          }))
