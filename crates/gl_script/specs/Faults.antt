-- The fault of a script that a faulty place is.
use Rattle.gl_shape.specs.declared.fault.PlaceFault.{PlaceFault}
use Rattle.gl_shape.specs.declared.fault.PlaceFault.TheVariants as place
use Rattle.gl_script.specs.declared.fault.ScriptFault.{ScriptFault}
use Rattle.gl_script.specs.declared.fault.ScriptFault.TheVariants as v

abbrev pub of_place : PlaceFault → ScriptFault
of_place (place.At p) = v.BadShape p
of_place place.Memory = v.Memory
