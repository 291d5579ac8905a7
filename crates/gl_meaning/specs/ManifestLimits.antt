-- The limits of a manifest.
use Rattle.std.specs.Prelude.{ℕ}

abbrev pub classes : ℕ
classes = 1024

-- of a class
abbrev pub fields : ℕ
fields = 256

abbrev pub getters : ℕ
getters = 32

abbrev pub actions : ℕ
actions = 256

-- of an action
abbrev pub params : ℕ
params = 16

abbrev pub modifiers : ℕ
modifiers = 1024

-- how many bytes the text of an expression has
abbrev pub bytes : ℕ
bytes = 65536

-- how deep components may nest at most, and where the manifest does not say
abbrev pub nesting : ℕ
nesting = 64

abbrev pub usual_nesting : ℕ
usual_nesting = 16
