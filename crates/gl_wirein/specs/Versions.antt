-- The version of JSON, and whether JSON is that of a wire.
use Rattle.std.specs.Prelude.{ℕ, Bool, ◌&&◌, ◌==◌, codes, if◌then◌else◌, Option, Some, None, option_and_then}
use Rattle.serde_json.specs.Data.{Data}
use Rattle.serde_json.specs.Find.{get, as_number, as_u64}
use Rattle.gl_base.specs.Answers.{◌>>=◌}
use Rattle.gl_wire.specs.Json.{json_in}
use Rattle.gl_wire.specs.Unnamed.{is_unnamed}
use Rattle.gl_wire.specs.Wire.{Wire}
use Rattle.gl_wire.specs.declared.version.Version.{Version}
use Rattle.gl_wire.specs.declared.version.Version.TheVariants.{First, Second}
use Rattle.gl_wirein.specs.Same.{same}

abbrev pub version_of : Option ℕ → Version
version_of None = Second
version_of (Some n) = if n == 1 then First else Second

-- the version that JSON says it has: 1, or else 2
unfoldable pub version_in : Data → Version
version_in d = version_of (get (codes "v") d >>= λ v. option_and_then as_u64 (as_number v))

-- whether JSON is that of a wire in a version
abbrev pub is_json_in : Version → Wire → Data → Bool
is_json_in First w d = is_unnamed w && same (json_in First w) d
is_json_in Second w d = same (json_in Second w) d

-- and in the version that it says it has
abbrev pub is_json_of : Wire → Data → Bool
is_json_of w d = is_json_in (version_in d) w d
