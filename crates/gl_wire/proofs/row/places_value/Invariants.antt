use Rattle.std.proofs.Common.{◌≡◌, ◌++◌, drop, map}
use Rattle.gl_wire.specs.Json.{place_json}
use Rattle.gl_wire.specs.Rows.{shown}
use Rattle.gl_wire.proofs.row.places_value.Given as goal

abbrev pub invariant-loop-place : goal.invariant-loop-place
invariant-loop-place l = shown l.row ++ map place_json (drop l.place-index l.place-items) ≡ map place_json l.places
