-- What is replied where reading the files came to this.
use Rattle.std.specs.Prelude.{◌≡◌, ℕ, Bool, List}
use Rattle.vaultc_words.specs.Sources.{Read, had, unread, too_long}
use Rattle.vaultc_runs.specs.Lines.{Reply, unread_reply, long_reply}

-- what is replied to what reading files came to, where these are the replies to the bytes of all
abbrev pub IsReplyOver : (names_files : Bool) → (List (List ℕ) → Reply → Type 0) → Read → Reply → Type 0
IsReplyOver names Replies (had contents) r = Replies contents r
IsReplyOver names Replies (unread name) r = r ≡ unread_reply name
IsReplyOver names Replies (too_long name n) r = r ≡ long_reply names name n
