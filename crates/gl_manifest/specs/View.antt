-- What the code's answers stand for.
use Rattle.std.specs.Prelude.{◌≡◌, Result, Ok, Err}
use Rattle.gl_meaning.specs.ManifestOf.{ManifestReading, bad_json, bad_shape, not_in_grammar, said}
use Rattle.gl_meaning.specs.View.{manifest_view}
use Rattle.gl_meaning.specs.declared.manifest.Manifest.{Manifest}
use Rattle.gl_manifest.specs.declared.fault.ManifestFault.{ManifestFault}
use Rattle.gl_manifest.specs.declared.fault.ManifestFault.TheVariants as v

-- The answer is what the bytes say. Where memory is wanting nothing is said.
abbrev pub Reads : Result Manifest ManifestFault → ManifestReading → Type 0
Reads (Ok m) reading = reading ≡ said (manifest_view m)
Reads (Err v.BadJson) reading = reading ≡ bad_json
Reads (Err (v.BadShape p)) reading = reading ≡ bad_shape p
Reads (Err (v.NotInGrammar p)) reading = reading ≡ not_in_grammar p
Reads (Err v.Memory) reading = Unit {0}
