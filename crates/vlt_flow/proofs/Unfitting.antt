-- An error of a start map, handed on as a walk's.
use Rattle.std.proofs.Common.{◌≡◌, inl, inr, ℕ, Result, Ok, Err, sym, ap, ◌∙◌, subst}
use Rattle.std.specs.Result.{IsErrAnd}
use Rattle.vlt_rows.specs.declared.sink.RowError.{RowError}
use Rattle.vlt_rows.specs.Unfit.{UnfitBy}
use Rattle.vlt_flow.specs.declared.errors.Stop.{Stop}
use Rattle.vlt_flow.specs.declared.errors.Stop.TheVariants as stop
use Rattle.vlt_flow.specs.Walks.{IfRefused, stop_of, stop_of_notes}
use Rattle.vlt_flow.specs.declared.errors.NoteError.{NoteError}
use Rattle.vlt_flow.specs.declared.errors.NoteError.TheVariants as note
use Rattle.vlt_core.specs.Core.{Func, Program}
use Rattle.vlt_core.specs.Maps.{HeldMap}
use Rattle.vlt_core.specs.Flow.{Block}
use Rattle.vlt_core.specs.Bodies.{body_flow}
use Rattle.vlt_core.specs.Derives.{start_map}
use Rattle.vlt_flow.specs.Notes.Noted.{IfUnlisted, IsUnnoted}
use Rattle.vlt_flow.specs.Unfit.{IfUnfit}

memory_fits : {T : Type 0} (x : Stop) → x ≡ stop.Memory → (let r : Result T Stop = Err x in r ≡ Err stop.Unfit) → ⊥
memory_fits x is e = cc

-- an error of notes that a `?` hands on, and one that a last call gives
pub unlisted_handed : {A B P Q : Type 0} (r : Result A NoteError) (s : Result B NoteError) (d : NoteError) → IsErrAnd r (λ x. x ≡ d) → s ≡ Err d → (P → Q) → IfUnlisted s P → IfUnlisted r Q
unlisted_handed (Ok x) s d gives was f h = absurd gives
unlisted_handed (Err x) s d gives was f h = record { holds = λ e. f (h.holds (was ∙ ap Err (sym gives ∙ error x e))) }
  where
    error : {A : Type 0} (x : NoteError) → (let r : Result A NoteError = Err x in r ≡ Err note.Unfit) → x ≡ note.Unfit
    error x e = cc

pub unlisted_through : {A P Q : Type 0} (r : Result A NoteError) → (P → Q) → IfUnlisted r P → IfUnlisted r Q
unlisted_through r f h = record { holds = λ e. f (h.holds e) }

-- the same as errors of the whole
pub notes_refuse : {A P : Type 0} (r : Result A Stop) (d : NoteError) → IsErrAnd r (λ x. x ≡ stop_of_notes d) → IfRefused r P
notes_refuse (Ok x) d gives = absurd gives
notes_refuse (Err x) d gives = record { holds = λ e. absurd (no d (sym gives ∙ error x e)) }
  where
    error : {A : Type 0} (x : Stop) → (let r : Result A Stop = Err x in r ≡ Err stop.Refused) → x ≡ stop.Refused
    error x e = cc

    no : (d : NoteError) → stop_of_notes d ≡ stop.Refused → ⊥
    no note.Unfit e = never e
      where
        never : stop.Unfit ≡ stop.Refused → ⊥
        never e = cc
    no note.Memory e = never e
      where
        never : stop.Memory ≡ stop.Refused → ⊥
        never e = cc

pub notes_unfit : {A B P Q : Type 0} (r : Result A Stop) (s : Result B NoteError) (d : NoteError) → IsErrAnd r (λ x. x ≡ stop_of_notes d) → s ≡ Err d → (P → Q) → IfUnlisted s P → IfUnfit r Q
notes_unfit (Ok x) s d gives was f h = absurd gives
notes_unfit (Err x) s note.Unfit gives was f h = record { holds = λ e. f (h.holds was) }
notes_unfit (Err x) s note.Memory gives was f h = record { holds = λ e. absurd (memory_fits x gives e) }

-- a last call's
pub unfit_through : {A P Q : Type 0} (r : Result A Stop) → (P → Q) → IfUnfit r P → IfUnfit r Q
unfit_through r f h = record { holds = λ e. f (h.holds e) }

pub unnoted_in : (p : Program) (f : Func) (s : Block) (h : HeldMap) (a b m n : ℕ) → s ≡ body_flow p f → h ≡ start_map p f → a ≡ m → b ≡ n → IsUnnoted a b s h → IsUnnoted m n (body_flow p f) (start_map p f)
unnoted_in p f s h a b m n flow start keys vars u =
    subst (λ k. IsUnnoted k n (body_flow p f) (start_map p f)) keys (subst (λ v. IsUnnoted a v (body_flow p f) (start_map p f)) vars (subst (λ x. IsUnnoted a b (body_flow p f) x) start (subst (λ x. IsUnnoted a b x h) flow u)))

pub unfit_stop : {T A B : Type 0} (r : Result T Stop) (d : RowError) → IsErrAnd r (λ x. x ≡ stop_of d) → UnfitBy A d → (A → B) → IfUnfit r B
unfit_stop (Ok x) d gives u f = absurd gives
unfit_stop (Err x) d gives (inl m) f = record { holds = λ e. absurd (memory_fits x (gives ∙ ap stop_of m) e) }
unfit_stop (Err x) d gives (inr u) f = record { holds = λ e. f u.1 }
