-- Texts that write an index.
use Rattle.std.specs.Prelude.{◌≡◌, ◌≢◌, ◌<◌, ℕ, List, length, slice_index}
use Rattle.gl_value.specs.Signs.{plus, zero_digit}

-- it begins with no sign, and with no zero before another digit
abbrev pub HasPlainStart : List ℕ → Type 0
HasPlainStart bs = (0 < length bs) × (slice_index bs 0 ≢ plus) × (slice_index bs 0 ≡ zero_digit → length bs ≡ 1)
