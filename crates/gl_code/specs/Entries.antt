-- The entries of a list that are to be rendered.
use Rattle.std.specs.Prelude.{List, map, reverse}
use Rattle.gl_value.specs.Value.{plain}
use Rattle.gl_value.specs.View.{view}
use Rattle.gl_meaning.specs.Render as r
use Rattle.gl_vm.specs.Labels.{labelled}
use Rattle.gl_code.specs.declared.entries.Entry.{Entry}

abbrev pub seen_entry : Entry → r.Entry
seen_entry e = record { key = plain (view e.key); occurrence = e.occurrence; value = labelled (view e.value); index = e.index }

-- the next one is the last
abbrev pub seen_left : List Entry → List r.Entry
seen_left es = reverse (map seen_entry es)
