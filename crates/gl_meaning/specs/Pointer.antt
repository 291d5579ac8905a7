-- JSON pointers. Each step down is a `/` and then a member's key, or an item's place in decimal, from 0. In a key `~` is
-- written `~0`, and `/` is written `~1`. The pointer of the whole value is empty.
use Rattle.std.specs.Prelude.{ℕ, List, [], ◌∷◌, ◌==◌, codes, if◌then◌else◌}
use Rattle.std.specs.Fmt.{decimal}
use Rattle.std.specs.List.{flat_map}
use Rattle.std.specs.Str.{chars}
use Rattle.gl_base.specs.Texts.{Text}
use Rattle.gl_meaning.specs.Signs.{slash, tilde}

abbrev pub escaped_char : ℕ → Text
escaped_char c = if c == tilde then codes "~0" else (if c == slash then codes "~1" else c ∷ [])

-- the step to the member with these bytes as its key
unfoldable pub key_step : List ℕ → Text
key_step key = slash ∷ flat_map escaped_char (chars key)

-- the step to the item at a place
unfoldable pub item_step : ℕ → Text
item_step place = slash ∷ decimal place
