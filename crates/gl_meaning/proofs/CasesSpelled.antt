-- The first text of a manifest that spells no expression, or no path of an argument in a `call`.
use Rattle.std.specs.Prelude.{◌≡◌, codes, refl}
use Rattle.gl_meaning.specs.ManifestOf.{read_manifest, bad_shape, not_in_grammar}
use Rattle.gl_meaning.proofs.Computed.{on_literals, spelled}

getter_bad : read_manifest spelled (codes "{\"classes\":{\"App\":{\"getters\":{\"g\":\"(\"},\"template\":\"a\"}},\"root\":\"App\"}") ≡ not_in_grammar (codes "/classes/App/getters/g")
unfolding on_literals
getter_bad = refl

-- the form as a whole comes before the expressions
shape_first : read_manifest spelled (codes "{\"classes\":{\"App\":{\"getters\":{\"g\":\"(\"},\"template\":\"\"}},\"root\":\"App\"}") ≡ bad_shape (codes "/classes/App/template")
unfolding on_literals
shape_first = refl

-- actions come before getters
actions_first : read_manifest spelled (codes "{\"classes\":{\"App\":{\"actions\":{\"f\":{\"do\":[{\"set\":\"a\",\"to\":\"(\"}]}},\"getters\":{\"g\":\"(\"},\"template\":\"a\"}},\"root\":\"App\"}") ≡ not_in_grammar (codes "/classes/App/actions/f/do/0/to")
unfolding on_literals
actions_first = refl

to_before_when : read_manifest spelled (codes "{\"classes\":{\"App\":{\"actions\":{\"f\":{\"do\":[{\"set\":\"a\",\"to\":\"(\",\"when\":\"(\"}]}},\"template\":\"a\"}},\"root\":\"App\"}") ≡ not_in_grammar (codes "/classes/App/actions/f/do/0/to")
unfolding on_literals
to_before_when = refl

when_bad : read_manifest spelled (codes "{\"classes\":{\"App\":{\"actions\":{\"f\":{\"do\":[{\"set\":\"a\",\"to\":\"1\",\"when\":\"(\"}]}},\"template\":\"a\"}},\"root\":\"App\"}") ≡ not_in_grammar (codes "/classes/App/actions/f/do/0/when")
unfolding on_literals
when_bad = refl

-- a `call` is the path of an argument
call_no_path : read_manifest spelled (codes "{\"classes\":{\"App\":{\"actions\":{\"f\":{\"do\":[{\"call\":\"b\"}]}},\"template\":\"a\"}},\"root\":\"App\"}") ≡ not_in_grammar (codes "/classes/App/actions/f/do/0/call")
unfolding on_literals
call_no_path = refl

call_first : read_manifest spelled (codes "{\"classes\":{\"App\":{\"actions\":{\"f\":{\"do\":[{\"call\":\"(\",\"when\":\"(\",\"with\":[\"(\"]}]}},\"template\":\"a\"}},\"root\":\"App\"}") ≡ not_in_grammar (codes "/classes/App/actions/f/do/0/call")
unfolding on_literals
call_first = refl

when_before_with : read_manifest spelled (codes "{\"classes\":{\"App\":{\"actions\":{\"f\":{\"do\":[{\"call\":\"@a\",\"when\":\"(\",\"with\":[\"(\"]}]}},\"template\":\"a\"}},\"root\":\"App\"}") ≡ not_in_grammar (codes "/classes/App/actions/f/do/0/when")
unfolding on_literals
when_before_with = refl

with_bad : read_manifest spelled (codes "{\"classes\":{\"App\":{\"actions\":{\"f\":{\"do\":[{\"call\":\"@a\",\"with\":[\"1\",\"(\"]}]}},\"template\":\"a\"}},\"root\":\"App\"}") ≡ not_in_grammar (codes "/classes/App/actions/f/do/0/with/1")
unfolding on_literals
with_bad = refl
