-- The manifest that bytes hold.
use Rattle.std.specs.Prelude.{◌≡◌, ℕ, List, Ok, Some}
use Rattle.serde_json.specs.Data as json
use Rattle.gl_ast.specs.Grammar.{SpellsExpr}
use Rattle.gl_meaning.specs.JsonText.{read_json}
use Rattle.gl_meaning.specs.Manifest.{Manifest}
use Rattle.gl_meaning.specs.ManifestIs.{IsManifest}
use Rattle.gl_meaning.specs.ManifestShape.{manifest_check}

-- the bytes are JSON of the form of a manifest, and the manifest is the one of that JSON, whose texts spell its expressions
abbrev pub Holds : List ℕ → Manifest → Type 0
Holds bytes m = (d : json.Data) × (read_json bytes ≡ Some d) × (manifest_check d ≡ Ok tt) × IsManifest SpellsExpr d m
