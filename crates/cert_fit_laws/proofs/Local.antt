-- A certificate that is local gives an annotation that holds in each instance.
use Rattle.std.proofs.Common.{◌≡◌, ◌≤◌, ◌<◌, ◌+◌, refl, sym, ap, ◌∙◌, ℕ, zero, suc, nat_lt, ◌==◌, ◌&&◌, Bool, true, false, true≢false, if◌then◌else◌, List, [], ◌∷◌, map, filter, Option, Some, None, option_map, slice_get, arith}
use Rattle.std.specs.List.{range_with_len}
use Rattle.std.proofs.lemmas.Bool.Decides.{nat_tests}
use Rattle.std.proofs.lemmas.Option.{slice_get-map}
use Rattle.vlt_core.specs.Core.{Func, Program}
use Rattle.vlt_core.specs.Lookups.{state_count, every_state, all_states, links_of_type, leads_up, key_type, key_states_up_to, up_to_in}
use Rattle.vlt_core.specs.Instances.{Bound, bound_in, instance, IsOriginOf, IsOrigin}
use Rattle.vlt_core.specs.Local.{Notes, IsLocalIn}
use Rattle.cert_format.specs.Notes.{Note}
use Rattle.cert_format.specs.Certificate.{FitsCertificate}
use Rattle.cert_fit_laws.proofs.Accepted.{HasLocal, local_accepted}
use Rattle.vlt_core.specs.View.{program_of}
use Rattle.cert_fit_laws.specs.Programs.{CertificatesAreAccepted}
use Rattle.cert_fit_laws.specs.Annotation.{annotation, IsLocalCertificate}
use Rattle.cert_fit_laws.proofs.Formed.{formed}
use Rattle.cert_fit_laws.proofs.Listed.{noted}
use Rattle.cert_fit_laws.proofs.States.{have_states}

-- ---- origins

same_or : (m n : ℕ) → m ≤ n → (n == m) ≡ false → m + 1 ≤ n
same_or m n h is = grind (arith, nat_tests)

same_so : (m n : ℕ) → (n == m) ≡ true → n ≡ m
same_so m n is = grind (arith, nat_tests)

-- the position of a number among those that pass a test
found : (P : ℕ → Bool) (a n o : ℕ) → a ≤ o → o < a + n → P o ≡ true → (i : ℕ) × (slice_get (filter P (range_with_len a n)) i ≡ Some o)
found P a zero o low high is = absurd (omega (arith, low, high))
found P a (suc n) o low high is = by (λ l. found P (a + 1) n o l (omega (arith, high)) is) (o == a) refl
  where
    first : o ≡ a → (i : ℕ) × (slice_get (filter P (a ∷ range_with_len (a + 1) n)) i ≡ Some o)
    first e = (0, ap (λ b. slice_get (if b then a ∷ filter P (range_with_len (a + 1) n) else filter P (range_with_len (a + 1) n)) 0) (sym (ap P e) ∙ is) ∙ ap Some (sym e))

    later : (i : ℕ) × (slice_get (filter P (range_with_len (a + 1) n)) i ≡ Some o) → (b : Bool) → P a ≡ b → (i : ℕ) × (slice_get (filter P (a ∷ range_with_len (a + 1) n)) i ≡ Some o)
    later x true e = (suc x.0, ap (λ b. slice_get (if b then a ∷ filter P (range_with_len (a + 1) n) else filter P (range_with_len (a + 1) n)) (suc x.0)) e ∙ x.1)
    later x false e = (x.0, ap (λ b. slice_get (if b then a ∷ filter P (range_with_len (a + 1) n) else filter P (range_with_len (a + 1) n)) x.0) e ∙ x.1)

    by : (a + 1 ≤ o → (i : ℕ) × (slice_get (filter P (range_with_len (a + 1) n)) i ≡ Some o)) → (b : Bool) → (o == a) ≡ b → (i : ℕ) × (slice_get (filter P (a ∷ range_with_len (a + 1) n)) i ≡ Some o)
    by go true e = first (same_so a o e)
    by go false e = later (go (same_or a o low e)) (P a) refl

abbrev states_in : (p : Program) (f : Func) (k b : ℕ) → Option ℕ → List ℕ
states_in p f k b None = []
states_in p f k b (Some t) = filter (key_states_up_to p f k b) (range_with_len 0 (state_count p t))

abbrev origins_of : Program → Func → Option Bound → List (Option ℕ)
origins_of p f None = None ∷ []
origins_of p f (Some b) = map Some (states_in p f b.key b.state (key_type f b.key))

both_so : (a b : Bool) → (a && b) ≡ true → a ≡ true
both_so true b e = refl
both_so false b e = e

then_so : (a b : Bool) → (a && b) ≡ true → b ≡ true
then_so true b e = e
then_so false b e = absurd (true≢false (sym e))

below : (m n : ℕ) → nat_lt m n ≡ true → m < 0 + n
below m n is = grind (arith, nat_tests)

module _ (p : Program) (f : Func) where
  at_type : (k b o : ℕ) (kt : Option ℕ) → key_type f k ≡ kt → key_states_up_to p f k b o ≡ true → (i : ℕ) × (slice_get (map Some (states_in p f k b kt)) i ≡ Some (Some o))
  at_type k b o None e h = absurd (true≢false (sym (ap (λ t. up_to_in p t b o) (sym e) ∙ h)))
  at_type k b o (Some t) e h =
      let x = found (key_states_up_to p f k b) 0 (state_count p t) o (omega arith) (below o (state_count p t) (both_so (all_states p t o) (leads_up (links_of_type p t) 31 o b) (then_so (every_state o) (all_states p t o && leads_up (links_of_type p t) 31 o b) (ap (λ u. up_to_in p u b o) (sym e) ∙ h)))) h in
      (x.0, slice_get-map Some (states_in p f k b (Some t)) x.0 ∙ ap (option_map Some) x.1)

  origin_at : (b : Option Bound) (o : Option ℕ) → IsOriginOf p f b o → (i : ℕ) × (slice_get (origins_of p f b) i ≡ Some o)
  origin_at None None h = (0, refl)
  origin_at None (Some o) h = absurd h
  origin_at (Some b) None h = absurd h
  origin_at (Some b) (Some o) h = at_type b.key b.state o (key_type f b.key) refl h

-- ---- functions and their notes

has_local : (ordered : Bool) (p : Program) (all : List (List Note)) → FitsCertificate ordered p all → IsLocalCertificate p all → HasLocal p
has_local ordered p all fits local = record { each = each }
  where
    each : (g : ℕ) (f : Func) (o : Option ℕ) → slice_get p.fns g ≡ Some f → f.external ≡ false → IsOrigin p f o → (a : Notes) × IsLocalIn p (instance p f o) a
    each g f o there body is =
        let ns = noted ordered p p.fns all fits.functions g f there in
        let i = origin_at p f (bound_in f.clause) o is in
        (annotation ns.notes i.0, local.each g f ns.notes there ns.at body i.0 o i.1)

pub accepted : CertificatesAreAccepted
accepted ordered p all fits verified =
    let is = formed ordered (program_of p) all fits in
    local_accepted (program_of p) is verified.kinded (have_states p is verified.kinded) (has_local ordered (program_of p) all fits verified.local)
