-- The code's names for what is wrong with a number of JSON, and for why JSON is no value.
use Rattle.std.specs.Prelude.{Option, Some, None, Result, Ok, Err}
use Rattle.gl_value.specs.Json.{Bad, not_whole, too_large, Fault, bad_number, too_deep}
use Rattle.gl_value.specs.Value.{Value}
use Rattle.gl_value.specs.declared.json.JsonFault.{JsonFault}
use Rattle.gl_value.specs.declared.json.JsonFault.TheVariants as code

abbrev pub fault_of : Bad → JsonFault
fault_of not_whole = code.NotWhole
fault_of too_large = code.TooLarge

abbrev pub fault_told : {O : Type 0} → Result (Value O) Fault → Option JsonFault
fault_told (Ok v) = None
fault_told (Err (bad_number bad)) = Some (fault_of bad)
fault_told (Err too_deep) = Some code.TooDeep
