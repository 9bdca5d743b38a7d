-- A function that waited goes on: its variables are places again.
use Rattle.std.proofs.Common.{◌≡◌, ⊎_elim, ℕ, ◌==◌, if◌then◌else◌, List, [], Option, refl, sym, ap, ◌∙◌, subst}
use Rattle.std.proofs.lemmas.Bool.{cases_eq, eq-eqb, ne_eqb}
use Rattle.vlt_meaning.specs.World.{Value, Owner, Object}
use Rattle.vlt_sound_worlds.specs.Members.{In, IsOnce}
use Rattle.vlt_sound_worlds.specs.Placed.{IsPlaced}
use Rattle.vlt_sound_worlds.specs.Roots.{Root, in_var, in_hand, in_wait, in_cell, owned_by, content, home}
use Rattle.vlt_sound_worlds.proofs.Placed as placed
use Rattle.vlt_sound_worlds.proofs.Roots.{same_root}
use Rattle.vlt_sound_worlds.specs.Agrees.{Waiting}
use Rattle.vlt_sound_calls.specs.Callee.{with_waiting}
use Rattle.vlt_sound_calls.proofs.Parameters.{waiting_here, waiting_other}

module _ (vars callee : ℕ → Option Value) (hand : List ℕ) (d : ℕ) (a : Waiting) (old : ℕ → Waiting) (os : ℕ → Object)
    (owner : ℕ → Owner) (mine : a.frame.vars ≡ vars) (free : (v : ℕ) → owned_by ((old d).frame.vars v) ≡ [])
    (empty : (v : ℕ) → owned_by (callee v) ≡ []) where
  abbrev before : Root → List ℕ
  before =
      content (record { vars = callee; hand = hand; waits = λ e. (with_waiting d a old e).frame.vars; objects = os })

  abbrev following : Root → List ℕ
  following = content (record { vars = vars; hand = hand; waits = λ e. (old e).frame.vars; objects = os })

  out : Root → Root
  out (in_wait e v) = if e == d then in_var v else in_wait e v
  out (in_var v) = in_var v
  out in_hand = in_hand
  out (in_cell n i) = in_cell n i

  here : (v e : ℕ) → e ≡ d → owned_by ((with_waiting d a old e).frame.vars v) ≡ owned_by (vars v)
  here v e same =
      ap (λ b. owned_by (b.frame.vars v)) (waiting_here d a old e same) ∙ ap (λ vs. owned_by (vs v)) mine

  there : (v e : ℕ) → (e ≡ d → ⊥) → owned_by ((with_waiting d a old e).frame.vars v) ≡ owned_by ((old e).frame.vars v)
  there v e other = ap (λ b. owned_by (b.frame.vars v)) (waiting_other d a old e other)

  out_here : (e v : ℕ) → e ≡ d → out (in_wait e v) ≡ in_var v
  unfolding out
  out_here e v same = ap (λ b. if b then in_var v else in_wait e v) (eq-eqb e d same)

  out_there : (e v : ℕ) → (e ≡ d → ⊥) → out (in_wait e v) ≡ in_wait e v
  unfolding out
  out_there e v other = ap (λ b. if b then in_var v else in_wait e v) (ne_eqb e d other)

  pub vars_go_on : IsPlaced before home owner → IsPlaced following home owner
  unfolding out
  vars_go_on was = placed.renamed home same_root was out to back once (λ n. refl)
    where
      to : (P : Root) (n : ℕ) → In n (before P) → In n (following (out P)) × (home (out P) ≡ home P)
      to (in_var v) n i = absurd (subst (In n) (empty v) i)
      to in_hand n i = (i, refl)
      to (in_wait e v) n i = ⊎_elim
          (λ same. (subst (λ P. In n (following P)) (sym (out_here e v same)) (subst (In n) (here v e same) i), ap home (out_here e v same)))
          (λ other. (subst (λ P. In n (following P)) (sym (out_there e v other)) (subst (In n) (there v e other) i), ap home (out_there e v other)))
          (cases_eq e d)
      to (in_cell m j) n i = (i, refl)

      back : (P : Root) (n : ℕ) → In n (following P) → (Q : Root) × (out Q ≡ P) × In n (before Q)
      back (in_var v) n i = (in_wait d v, out_here d v refl, subst (In n) (sym (here v d refl)) i)
      back in_hand n i = (in_hand, refl, i)
      back (in_wait e v) n i = ⊎_elim
          (λ same. absurd (subst (In n) (free v) (subst (λ e. In n (owned_by ((old e).frame.vars v))) same i)))
          (λ other. (in_wait e v, out_there e v other, subst (In n) (sym (there v e other)) i))
          (cases_eq e d)
      back (in_cell m j) n i = (in_cell m j, refl, i)

      once : (P : Root) → IsOnce (following P)
      once (in_var v) = subst IsOnce (here v d refl) (was.once (in_wait d v))
      once in_hand = was.once in_hand
      once (in_wait e v) = ⊎_elim
          (λ same. subst (λ e. IsOnce (owned_by ((old e).frame.vars v))) (sym same) (subst IsOnce (sym (free v)) tt))
          (λ other. subst IsOnce (there v e other) (was.once (in_wait e v)))
          (cases_eq e d)
      once (in_cell m j) = was.once (in_cell m j)
