-- The form of actions, computed from the bytes of a manifest: the first faulty place.
use Rattle.std.specs.Prelude.{◌≡◌, codes, refl}
use Rattle.gl_meaning.specs.ManifestOf.{read_manifest, bad_shape}
use Rattle.gl_meaning.proofs.Computed.{on_literals, spelled}

action_name : read_manifest spelled (codes "{\"classes\":{\"App\":{\"actions\":{\"a b\":{\"do\":[]}},\"template\":\"a\"}},\"root\":\"App\"}") ≡ bad_shape (codes "/classes/App/actions/a b")
unfolding on_literals
action_name = refl

no_do : read_manifest spelled (codes "{\"classes\":{\"App\":{\"actions\":{\"f\":{}},\"template\":\"a\"}},\"root\":\"App\"}") ≡ bad_shape (codes "/classes/App/actions/f")
unfolding on_literals
no_do = refl

action_unknown : read_manifest spelled (codes "{\"classes\":{\"App\":{\"actions\":{\"f\":{\"do\":[],\"with\":1}},\"template\":\"a\"}},\"root\":\"App\"}") ≡ bad_shape (codes "/classes/App/actions/f/with")
unfolding on_literals
action_unknown = refl

do_object : read_manifest spelled (codes "{\"classes\":{\"App\":{\"actions\":{\"f\":{\"do\":{}}},\"template\":\"a\"}},\"root\":\"App\"}") ≡ bad_shape (codes "/classes/App/actions/f/do")
unfolding on_literals
do_object = refl

step_number : read_manifest spelled (codes "{\"classes\":{\"App\":{\"actions\":{\"f\":{\"do\":[1]}},\"template\":\"a\"}},\"root\":\"App\"}") ≡ bad_shape (codes "/classes/App/actions/f/do/0")
unfolding on_literals
step_number = refl

-- neither `set` nor `call`
step_empty : read_manifest spelled (codes "{\"classes\":{\"App\":{\"actions\":{\"f\":{\"do\":[{}]}},\"template\":\"a\"}},\"root\":\"App\"}") ≡ bad_shape (codes "/classes/App/actions/f/do/0")
unfolding on_literals
step_empty = refl

step_both : read_manifest spelled (codes "{\"classes\":{\"App\":{\"actions\":{\"f\":{\"do\":[{\"set\":\"a\",\"to\":\"1\",\"call\":\"@b\"}]}},\"template\":\"a\"}},\"root\":\"App\"}") ≡ bad_shape (codes "/classes/App/actions/f/do/0")
unfolding on_literals
step_both = refl

step_no_to : read_manifest spelled (codes "{\"classes\":{\"App\":{\"actions\":{\"f\":{\"do\":[{\"set\":\"a\"}]}},\"template\":\"a\"}},\"root\":\"App\"}") ≡ bad_shape (codes "/classes/App/actions/f/do/0")
unfolding on_literals
step_no_to = refl

step_unknown : read_manifest spelled (codes "{\"classes\":{\"App\":{\"actions\":{\"f\":{\"do\":[{\"set\":\"a\",\"to\":\"1\",\"x\":1}]}},\"template\":\"a\"}},\"root\":\"App\"}") ≡ bad_shape (codes "/classes/App/actions/f/do/0/x")
unfolding on_literals
step_unknown = refl

set_with : read_manifest spelled (codes "{\"classes\":{\"App\":{\"actions\":{\"f\":{\"do\":[{\"set\":\"a\",\"to\":\"1\",\"with\":[]}]}},\"template\":\"a\"}},\"root\":\"App\"}") ≡ bad_shape (codes "/classes/App/actions/f/do/0/with")
unfolding on_literals
set_with = refl

call_to : read_manifest spelled (codes "{\"classes\":{\"App\":{\"actions\":{\"f\":{\"do\":[{\"call\":\"@a\",\"to\":\"1\"}]}},\"template\":\"a\"}},\"root\":\"App\"}") ≡ bad_shape (codes "/classes/App/actions/f/do/0/to")
unfolding on_literals
call_to = refl

set_no_name : read_manifest spelled (codes "{\"classes\":{\"App\":{\"actions\":{\"f\":{\"do\":[{\"set\":\"a b\",\"to\":\"1\"}]}},\"template\":\"a\"}},\"root\":\"App\"}") ≡ bad_shape (codes "/classes/App/actions/f/do/0/set")
unfolding on_literals
set_no_name = refl

set_number : read_manifest spelled (codes "{\"classes\":{\"App\":{\"actions\":{\"f\":{\"do\":[{\"set\":1,\"to\":\"1\"}]}},\"template\":\"a\"}},\"root\":\"App\"}") ≡ bad_shape (codes "/classes/App/actions/f/do/0/set")
unfolding on_literals
set_number = refl

to_number : read_manifest spelled (codes "{\"classes\":{\"App\":{\"actions\":{\"f\":{\"do\":[{\"set\":\"a\",\"to\":1}]}},\"template\":\"a\"}},\"root\":\"App\"}") ≡ bad_shape (codes "/classes/App/actions/f/do/0/to")
unfolding on_literals
to_number = refl

when_null : read_manifest spelled (codes "{\"classes\":{\"App\":{\"actions\":{\"f\":{\"do\":[{\"set\":\"a\",\"to\":\"1\"},{\"set\":\"a\",\"to\":\"1\",\"when\":null}]}},\"template\":\"a\"}},\"root\":\"App\"}") ≡ bad_shape (codes "/classes/App/actions/f/do/1/when")
unfolding on_literals
when_null = refl

call_number : read_manifest spelled (codes "{\"classes\":{\"App\":{\"actions\":{\"f\":{\"do\":[{\"call\":1}]}},\"template\":\"a\"}},\"root\":\"App\"}") ≡ bad_shape (codes "/classes/App/actions/f/do/0/call")
unfolding on_literals
call_number = refl

with_text : read_manifest spelled (codes "{\"classes\":{\"App\":{\"actions\":{\"f\":{\"do\":[{\"call\":\"@a\",\"with\":\"b\"}]}},\"template\":\"a\"}},\"root\":\"App\"}") ≡ bad_shape (codes "/classes/App/actions/f/do/0/with")
unfolding on_literals
with_text = refl

with_number : read_manifest spelled (codes "{\"classes\":{\"App\":{\"actions\":{\"f\":{\"do\":[{\"call\":\"@a\",\"with\":[\"b\",1]}]}},\"template\":\"a\"}},\"root\":\"App\"}") ≡ bad_shape (codes "/classes/App/actions/f/do/0/with/1")
unfolding on_literals
with_number = refl

params_text : read_manifest spelled (codes "{\"classes\":{\"App\":{\"actions\":{\"f\":{\"do\":[],\"params\":\"a\"}},\"template\":\"a\"}},\"root\":\"App\"}") ≡ bad_shape (codes "/classes/App/actions/f/params")
unfolding on_literals
params_text = refl

param_twice : read_manifest spelled (codes "{\"classes\":{\"App\":{\"actions\":{\"f\":{\"do\":[],\"params\":[\"a\",\"b\",\"a\"]}},\"template\":\"a\"}},\"root\":\"App\"}") ≡ bad_shape (codes "/classes/App/actions/f/params/2")
unfolding on_literals
param_twice = refl

param_reserved : read_manifest spelled (codes "{\"classes\":{\"App\":{\"actions\":{\"f\":{\"do\":[],\"params\":[\"a\",\"null\"]}},\"template\":\"a\"}},\"root\":\"App\"}") ≡ bad_shape (codes "/classes/App/actions/f/params/1")
unfolding on_literals
param_reserved = refl

params_many : read_manifest spelled (codes "{\"classes\":{\"App\":{\"actions\":{\"f\":{\"do\":[],\"params\":[\"a0\",\"a1\",\"a2\",\"a3\",\"a4\",\"a5\",\"a6\",\"a7\",\"a8\",\"a9\",\"a10\",\"a11\",\"a12\",\"a13\",\"a14\",\"a15\",\"a16\"]}},\"template\":\"a\"}},\"root\":\"App\"}") ≡ bad_shape (codes "/classes/App/actions/f/params")
unfolding on_literals
params_many = refl

-- `do` comes before `params`
do_before : read_manifest spelled (codes "{\"classes\":{\"App\":{\"actions\":{\"f\":{\"do\":[1],\"params\":1}},\"template\":\"a\"}},\"root\":\"App\"}") ≡ bad_shape (codes "/classes/App/actions/f/do/0")
unfolding on_literals
do_before = refl
