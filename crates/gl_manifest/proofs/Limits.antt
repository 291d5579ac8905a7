-- What a manifest that is read keeps.
use Rattle.std.proofs.Common.{◌≡◌, ◌<◌, Ok, arith}
use Rattle.std.specs.Prelude.{◌^◌}
use Rattle.serde_json.specs.Data as json
use Rattle.gl_meaning.specs.ManifestOf.{limit_in}
use Rattle.gl_meaning.specs.ManifestShape.{manifest_check}
use Rattle.gl_meaning.proofs.Limits.{limit_sound}

-- the limit fits the code's number
pub limit_fits : (d : json.Data) → manifest_check d ≡ Ok tt → limit_in d < 2 ^ 32
limit_fits d e = omega (arith, (limit_sound d e).1)
