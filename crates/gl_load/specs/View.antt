-- What the code's types stand for.
use Rattle.gl_meaning.specs.View.{manifest_view, script_view}
use Rattle.gl_load.specs.Load.{Parts, Whole}
use Rattle.gl_load.specs.declared.application.Application.{Application}
use Rattle.gl_load.specs.declared.whole.Loaded.{Loaded}

-- an application is its manifest with its templates
abbrev pub app_view : Application → Parts
app_view x = record { manifest = manifest_view x.app.manifest; templates = x.templates }

-- and with the events of its script
abbrev pub whole_view : Loaded → Whole
whole_view x = record { parts = record { manifest = manifest_view x.app.manifest; templates = x.templates }; events = script_view x.script }
