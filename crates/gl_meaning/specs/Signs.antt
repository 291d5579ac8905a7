-- Single characters that texts are written with.
use Rattle.std.specs.Prelude.{ℕ}
pub use Rattle.gl_value.specs.Signs.{line_feed, blank}

-- `#`
abbrev pub number_sign : ℕ
number_sign = 35

-- `/`
abbrev pub slash : ℕ
slash = 47

-- `:`
abbrev pub colon : ℕ
colon = 58

-- `=`
abbrev pub equals : ℕ
equals = 61

-- `~`
abbrev pub tilde : ℕ
tilde = 126
