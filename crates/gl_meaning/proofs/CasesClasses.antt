-- The form of classes, computed from the bytes of a manifest: the first faulty place.
use Rattle.std.specs.Prelude.{◌≡◌, codes, refl}
use Rattle.gl_meaning.specs.ManifestOf.{read_manifest, bad_shape}
use Rattle.gl_meaning.proofs.Computed.{on_literals, spelled}

unknown_member : read_manifest spelled (codes "{\"classes\":{\"App\":{\"template\":\"a\",\"x\":1}},\"root\":\"App\"}") ≡ bad_shape (codes "/classes/App/x")
unfolding on_literals
unknown_member = refl

no_template : read_manifest spelled (codes "{\"classes\":{\"App\":{\"fields\":{}}},\"root\":\"App\"}") ≡ bad_shape (codes "/classes/App")
unfolding on_literals
no_template = refl

class_null : read_manifest spelled (codes "{\"classes\":{\"App\":null},\"root\":\"App\"}") ≡ bad_shape (codes "/classes/App")
unfolding on_literals
class_null = refl

template_empty : read_manifest spelled (codes "{\"classes\":{\"App\":{\"template\":\"\"}},\"root\":\"App\"}") ≡ bad_shape (codes "/classes/App/template")
unfolding on_literals
template_empty = refl

template_number : read_manifest spelled (codes "{\"classes\":{\"App\":{\"template\":1}},\"root\":\"App\"}") ≡ bad_shape (codes "/classes/App/template")
unfolding on_literals
template_number = refl

teardown_number : read_manifest spelled (codes "{\"classes\":{\"App\":{\"teardown\":1,\"template\":\"a\"}},\"root\":\"App\"}") ≡ bad_shape (codes "/classes/App/teardown")
unfolding on_literals
teardown_number = refl

fields_array : read_manifest spelled (codes "{\"classes\":{\"App\":{\"fields\":[],\"template\":\"a\"}},\"root\":\"App\"}") ≡ bad_shape (codes "/classes/App/fields")
unfolding on_literals
fields_array = refl

field_reserved : read_manifest spelled (codes "{\"classes\":{\"App\":{\"fields\":{\"else\":1},\"template\":\"a\"}},\"root\":\"App\"}") ≡ bad_shape (codes "/classes/App/fields/else")
unfolding on_literals
field_reserved = refl

field_digit : read_manifest spelled (codes "{\"classes\":{\"App\":{\"fields\":{\"1a\":1},\"template\":\"a\"}},\"root\":\"App\"}") ≡ bad_shape (codes "/classes/App/fields/1a")
unfolding on_literals
field_digit = refl

-- a pointer writes `/` as `~1`, and `~` as `~0`
field_slash : read_manifest spelled (codes "{\"classes\":{\"App\":{\"fields\":{\"a/b~\":1},\"template\":\"a\"}},\"root\":\"App\"}") ≡ bad_shape (codes "/classes/App/fields/a~1b~0")
unfolding on_literals
field_slash = refl

-- a value is faulty as a whole, at its field
field_float : read_manifest spelled (codes "{\"classes\":{\"App\":{\"fields\":{\"a\":1,\"b\":[[1.5]]},\"template\":\"a\"}},\"root\":\"App\"}") ≡ bad_shape (codes "/classes/App/fields/b")
unfolding on_literals
field_float = refl

field_large : read_manifest spelled (codes "{\"classes\":{\"App\":{\"fields\":{\"a\":{\"x\":9007199254740992}},\"template\":\"a\"}},\"root\":\"App\"}") ≡ bad_shape (codes "/classes/App/fields/a")
unfolding on_literals
field_large = refl

-- an action has the name
field_of_action : read_manifest spelled (codes "{\"classes\":{\"App\":{\"actions\":{\"x\":{\"do\":[]}},\"fields\":{\"x\":1},\"template\":\"a\"}},\"root\":\"App\"}") ≡ bad_shape (codes "/classes/App/fields/x")
unfolding on_literals
field_of_action = refl

-- a field has the name
getter_of_field : read_manifest spelled (codes "{\"classes\":{\"App\":{\"fields\":{\"x\":1},\"getters\":{\"x\":\"1\"},\"template\":\"a\"}},\"root\":\"App\"}") ≡ bad_shape (codes "/classes/App/getters/x")
unfolding on_literals
getter_of_field = refl

-- an action has the name
getter_of_action : read_manifest spelled (codes "{\"classes\":{\"App\":{\"actions\":{\"x\":{\"do\":[]}},\"getters\":{\"x\":\"1\"},\"template\":\"a\"}},\"root\":\"App\"}") ≡ bad_shape (codes "/classes/App/getters/x")
unfolding on_literals
getter_of_action = refl

getter_number : read_manifest spelled (codes "{\"classes\":{\"App\":{\"getters\":{\"g\":1},\"template\":\"a\"}},\"root\":\"App\"}") ≡ bad_shape (codes "/classes/App/getters/g")
unfolding on_literals
getter_number = refl

getter_reserved : read_manifest spelled (codes "{\"classes\":{\"App\":{\"getters\":{\"this\":\"1\"},\"template\":\"a\"}},\"root\":\"App\"}") ≡ bad_shape (codes "/classes/App/getters/this")
unfolding on_literals
getter_reserved = refl

-- the classes in the order of their names
first_class : read_manifest spelled (codes "{\"classes\":{\"B\":{},\"A\":{\"x\":1,\"template\":\"a\"}},\"root\":\"A\"}") ≡ bad_shape (codes "/classes/A/x")
unfolding on_literals
first_class = refl
