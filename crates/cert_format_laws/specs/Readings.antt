-- A text has exactly one reading.
use Rattle.std.specs.Prelude.{◌≡◌, ℕ, List}
use Rattle.cert_format.specs.Readings.{Reading, IsReading}

-- no text has two readings: two certificates, a certificate and a refusal, or two refusals
abbrev pub HasOneReading : Type 0
HasOneReading = (text : List ℕ) (x y : Reading) → IsReading text x → IsReading text y → x ≡ y

-- each text has one
abbrev pub HasSomeReading : Type 0
HasSomeReading = (text : List ℕ) → (x : Reading) × IsReading text x
