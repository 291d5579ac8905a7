-- Worked manifests: names that rise, and names that don't.
use Rattle.std.specs.Prelude.{pos, List, [], ◌∷◌, map, false, codes, refl}
use Rattle.std.specs.Char.{encode_utf8}
use Rattle.gl_base.specs.Texts.{Text}
use Rattle.gl_value.specs.Value.{integer}
use Rattle.gl_ast.specs.Template.{bare}
use Rattle.gl_meaning.specs.Manifest.{Manifest, ClassEntry}
use Rattle.gl_meaning.specs.Order.{NamesRise}

-- a class with these names
abbrev entry : Text → List Text → List Text → List Text → ClassEntry
entry name fields getters actions = record {
  name = name;
  file = codes "a.hbs";
  fields = map (λ n. (n, integer (pos 0))) fields;
  getters = map (λ n. (n, bare (codes "x") [])) getters;
  actions = map (λ n. (n, record { params = []; steps = [] })) actions;
  teardown = false;
}

abbrev of_classes : List ClassEntry → Manifest
of_classes classes = record { root = codes "App"; limit = 16; modifiers = []; classes = classes }

-- Capitals stand before small letters, a name before a longer one that begins with it, and each kind by itself.
in_order : NamesRise (of_classes (entry (codes "App") (codes "$" ∷ codes "Z" ∷ codes "a" ∷ codes "ab" ∷ []) (codes "x" ∷ codes "y" ∷ []) (codes "b" ∷ []) ∷ entry (codes "App2") [] [] [] ∷ entry (codes "App::B") [] [] [] ∷ []))
unfolding encode_utf8
in_order = record {
  classes = ((refl, (refl, tt)), ((refl, tt), (tt, tt)));
  each = (
    record { fields = ((refl, (refl, (refl, tt))), ((refl, (refl, tt)), ((refl, tt), (tt, tt)))); getters = ((refl, tt), (tt, tt)); actions = (tt, tt) },
    (record { fields = tt; getters = tt; actions = tt }, (record { fields = tt; getters = tt; actions = tt }, tt)),
  );
}

-- fields from last to first
backwards : NamesRise (of_classes (entry (codes "App") (codes "b" ∷ codes "a" ∷ []) [] [] ∷ [])) → ⊥
unfolding encode_utf8
backwards h = let e = h.each.0.fields.0.0 in cc

-- an action that stands twice
twice : NamesRise (of_classes (entry (codes "App") [] [] (codes "a" ∷ codes "a" ∷ []) ∷ [])) → ⊥
unfolding encode_utf8
twice h = let e = h.each.0.actions.0.0 in cc

-- a third class that is less than both before it
out_of_order : NamesRise (of_classes (entry (codes "B") [] [] [] ∷ entry (codes "C") [] [] [] ∷ entry (codes "A") [] [] [] ∷ [])) → ⊥
unfolding encode_utf8
out_of_order h = let e = h.classes.0.1.0 in cc
