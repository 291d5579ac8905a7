-- The form of a manifest, computed from its bytes: the first faulty place.
use Rattle.std.specs.Prelude.{◌≡◌, codes, refl}
use Rattle.gl_meaning.specs.ManifestOf.{read_manifest, bad_json, bad_shape}
use Rattle.gl_meaning.proofs.Computed.{on_literals, spelled}

-- the text ends early
not_json : read_manifest spelled (codes "{\"classes\"") ≡ bad_json
unfolding on_literals
not_json = refl

no_bytes : read_manifest spelled (codes "") ≡ bad_json
unfolding on_literals
no_bytes = refl

array : read_manifest spelled (codes "[]") ≡ bad_shape (codes "")
unfolding on_literals
array = refl

no_classes : read_manifest spelled (codes "{\"root\":\"App\"}") ≡ bad_shape (codes "")
unfolding on_literals
no_classes = refl

no_root : read_manifest spelled (codes "{\"classes\":{}}") ≡ bad_shape (codes "")
unfolding on_literals
no_root = refl

classes_array : read_manifest spelled (codes "{\"classes\":[],\"root\":\"App\"}") ≡ bad_shape (codes "/classes")
unfolding on_literals
classes_array = refl

-- a class name begins with a capital
class_name : read_manifest spelled (codes "{\"classes\":{\"app\":{\"template\":\"a\"}},\"root\":\"App\"}") ≡ bad_shape (codes "/classes/app")
unfolding on_literals
class_name = refl

-- and has parts after two colons
class_part : read_manifest spelled (codes "{\"classes\":{\"A:b\":{\"template\":\"a\"}},\"root\":\"App\"}") ≡ bad_shape (codes "/classes/A:b")
unfolding on_literals
class_part = refl

root_name : read_manifest spelled (codes "{\"classes\":{},\"root\":\"app\"}") ≡ bad_shape (codes "/root")
unfolding on_literals
root_name = refl

root_number : read_manifest spelled (codes "{\"classes\":{},\"root\":1}") ≡ bad_shape (codes "/root")
unfolding on_literals
root_number = refl

-- members are taken in the order of keys, not of the text
unknown_first : read_manifest spelled (codes "{\"root\":\"App\",\"zz\":1,\"aa\":2,\"classes\":[]}") ≡ bad_shape (codes "/aa")
unfolding on_literals
unknown_first = refl

classes_before : read_manifest spelled (codes "{\"limit\":0,\"classes\":[],\"root\":\"App\"}") ≡ bad_shape (codes "/classes")
unfolding on_literals
classes_before = refl

limit_zero : read_manifest spelled (codes "{\"classes\":{},\"limit\":0,\"root\":\"A\"}") ≡ bad_shape (codes "/limit")
unfolding on_literals
limit_zero = refl

limit_above : read_manifest spelled (codes "{\"classes\":{},\"limit\":65,\"root\":\"A\"}") ≡ bad_shape (codes "/limit")
unfolding on_literals
limit_above = refl

limit_float : read_manifest spelled (codes "{\"classes\":{},\"limit\":3.0,\"root\":\"A\"}") ≡ bad_shape (codes "/limit")
unfolding on_literals
limit_float = refl

limit_text : read_manifest spelled (codes "{\"classes\":{},\"limit\":\"3\",\"root\":\"A\"}") ≡ bad_shape (codes "/limit")
unfolding on_literals
limit_text = refl

limit_negative : read_manifest spelled (codes "{\"classes\":{},\"limit\":-1,\"root\":\"A\"}") ≡ bad_shape (codes "/limit")
unfolding on_literals
limit_negative = refl

modifiers_object : read_manifest spelled (codes "{\"classes\":{},\"modifiers\":{},\"root\":\"A\"}") ≡ bad_shape (codes "/modifiers")
unfolding on_literals
modifiers_object = refl

modifier_on : read_manifest spelled (codes "{\"classes\":{},\"modifiers\":[\"a\",\"on\"],\"root\":\"A\"}") ≡ bad_shape (codes "/modifiers/1")
unfolding on_literals
modifier_on = refl

modifier_reserved : read_manifest spelled (codes "{\"classes\":{},\"modifiers\":[\"this\"],\"root\":\"A\"}") ≡ bad_shape (codes "/modifiers/0")
unfolding on_literals
modifier_reserved = refl

modifier_number : read_manifest spelled (codes "{\"classes\":{},\"modifiers\":[\"a\",2],\"root\":\"A\"}") ≡ bad_shape (codes "/modifiers/1")
unfolding on_literals
modifier_number = refl
