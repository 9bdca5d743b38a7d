-- What is replied, from what reading the files came to.
use Rattle.std.proofs.Common.{◌≡◌, ℕ, Bool, false, List, [], ◌∷◌, Some, refl, sym, ap, ◌∙◌, subst}
use Rattle.std.specs.Prelude.{IfSome, MatchOption}
use Rattle.vlt_io.specs.declared.store.Store.{Ghosts}
use Rattle.vaultc_words.specs.Commands.{Command, names_files}
use Rattle.vaultc_runs.specs.Lines.{Reply, long_reply}
use Rattle.vaultc_replies.specs.Replies.{IsReplyToText, MayReply}
use Rattle.vaultc_runs.specs.OverFiles.{IsReplyOver}
use Rattle.vaultc_words.specs.FilesSeen.{error_seen}
use Rattle.vaultc_words.specs.Sources.{had, unread, too_long, text_in, sources_of, MayRead}
use Rattle.vaultc_words.specs.View.{seen_text}
use Rattle.vaultc_words.specs.declared.files.FileError.{FileError}
use Rattle.vaultc_words.specs.declared.files.FileError.TheVariants.{Unread, TooLong, Memory}
use Rattle.vaultc_words.specs.declared.words.TextCommand.{TextCommand}
use Rattle.vaultc_words.specs.declared.words.TextCommand.TheVariants.{Check, Explain, Fmt, Emit}

pub text_reply : {S : Type 0} (g : Ghosts S) (old new : S) (k : TextCommand) (file bytes slice : List ℕ) (r : Reply) → slice ≡ bytes → MayRead g old new (Some (text_in file) ∷ []) (had (bytes ∷ []))
    → IsReplyToText (seen_text k file) slice r → MayReply g old new (Some (seen_text k file)) r
text_reply g old new Check file bytes slice r same may is = (had (bytes ∷ []), may, subst (λ b. IsReplyToText (seen_text Check file) b r) same is)
text_reply g old new Explain file bytes slice r same may is = (had (bytes ∷ []), may, subst (λ b. IsReplyToText (seen_text Explain file) b r) same is)
text_reply g old new Fmt file bytes slice r same may is = (had (bytes ∷ []), may, subst (λ b. IsReplyToText (seen_text Fmt file) b r) same is)
text_reply g old new Emit file bytes slice r same may is = (had (bytes ∷ []), may, subst (λ b. IsReplyToText (seen_text Emit file) b r) same is)

-- each command on a text reads this one file
pub text_sources : {S : Type 0} (g : Ghosts S) (old new : S) (k : TextCommand) (file : List ℕ) (e : FileError) → IfSome (error_seen e) (MayRead g old new (Some (text_in file) ∷ []))
    → IfSome (error_seen e) (MayRead g old new (sources_of (seen_text k file)))
text_sources g old new Check file e may = may
text_sources g old new Explain file e may = may
text_sources g old new Fmt file e may = may
text_sources g old new Emit file e may = may

pub error_reply : {S : Type 0} (g : Ghosts S) (old new : S) (command : Command) (e : FileError) (r : Reply) → IfSome (error_seen e) (MayRead g old new (sources_of command))
    → (names : Bool) → names_files command ≡ names → MatchOption (error_seen e) ⊥ (λ x. IsReplyOver names (λ _ _. ⊥) x r) → MayReply g old new (Some command) r
error_reply g old new command (Unread name) r may names same is = (unread name.now, may, is)
error_reply g old new command (TooLong name n) r may names same is = (too_long name.now n, may, is ∙ ap (λ b. long_reply b name.now n) (sym same))
error_reply g old new command Memory r may names same is = absurd is

-- a command on one text doesn't say of which file a line is
pub text_names : (k : TextCommand) (file : List ℕ) → names_files (seen_text k file) ≡ false
text_names Check file = refl
text_names Explain file = refl
text_names Fmt file = refl
text_names Emit file = refl
