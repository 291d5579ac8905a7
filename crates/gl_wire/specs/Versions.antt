-- Which JSON a wire has in each version.
use Rattle.std.specs.Prelude.{◌≡◌, ◌⊎◌, true}
use Rattle.serde_json.specs.Data.{Data}
use Rattle.gl_wire.specs.Json.{json_in}
use Rattle.gl_wire.specs.Unnamed.{is_unnamed}
use Rattle.gl_wire.specs.Wire.{Wire}
use Rattle.gl_wire.specs.declared.version.Version.{Version}
use Rattle.gl_wire.specs.declared.version.Version.TheVariants.{First, Second}

-- Each wire has one JSON in version 2. In version 1 one has it whose components have at most the block `default`, and whose yields name that.
abbrev pub IsJsonIn : Version → Wire → Data → Type 0
IsJsonIn First w d = (is_unnamed w ≡ true) × (json_in First w ≡ d)
IsJsonIn Second w d = json_in Second w ≡ d

-- the JSON of the wire in one of the two versions
abbrev pub IsJsonOf : Wire → Data → Type 0
IsJsonOf w d = IsJsonIn First w d ⊎ IsJsonIn Second w d
