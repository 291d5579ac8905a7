-- Whether bytes are text, as a test.
use Rattle.std.proofs.Common.{◌≡◌, ℕ, List, false}
use Rattle.std.specs.Str.{is_utf8, IsUtf8}
use Rattle.std.proofs.lemmas.Bool.{false_from_ne_true}
use Rattle.std.proofs.lemmas.Str.{is_utf8-from_IsUtf8, IsUtf8-from_is_utf8}

pub not_utf8 : (bs : List ℕ) → (IsUtf8 bs → ⊥) → is_utf8 bs ≡ false
not_utf8 bs never = false_from_ne_true (is_utf8 bs) (λ e. never (IsUtf8-from_is_utf8 bs e))

pub ruleset tested = (is_utf8-from_IsUtf8, not_utf8)
