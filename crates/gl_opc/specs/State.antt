-- What the code's linker, and what it looks names up in, stand for.
use Rattle.gl_meaning.specs.View.{manifest_view, class_view}
use Rattle.gl_opc.specs.Linked as l
use Rattle.gl_opc.specs.declared.context.Context.{Context}
use Rattle.gl_opc.specs.declared.linker.Linker.{Linker}

abbrev pub state_view : Linker → l.State
state_view x = record { code = record { ops = x.ops.items; texts = x.texts; names = x.names; ints = x.ints }; begun = x.begun }

abbrev pub context_view : Context → l.Context
context_view x = record { manifest = manifest_view x.manifest.now; class = class_view x.class.now; symbols = x.symbols.now }
