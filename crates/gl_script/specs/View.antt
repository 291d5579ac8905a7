-- What the code's answers stand for.
use Rattle.std.specs.Prelude.{◌≡◌, Result, Ok, Err}
use Rattle.gl_meaning.specs.ScriptOf.{ScriptReading, not_json, bad_shape, unknown_name, script}
use Rattle.gl_meaning.specs.View.{script_view}
use Rattle.gl_meaning.specs.declared.script.Script.{Script}
use Rattle.gl_script.specs.declared.fault.ScriptFault.{ScriptFault}
use Rattle.gl_script.specs.declared.fault.ScriptFault.TheVariants as v

-- The answer is what the bytes are. Where memory is wanting nothing is said.
abbrev pub Answers : Result Script ScriptFault → ScriptReading → Type 0
Answers (Ok s) reading = reading ≡ script (script_view s)
Answers (Err v.BadJson) reading = reading ≡ not_json
Answers (Err (v.BadShape p)) reading = reading ≡ bad_shape p
Answers (Err (v.UnknownName i n)) reading = reading ≡ unknown_name i n
Answers (Err v.Memory) reading = Unit {0}
