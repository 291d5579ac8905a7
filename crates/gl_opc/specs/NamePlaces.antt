-- What is known of lists of names before one is sought in them.
use Rattle.std.specs.Prelude.{◌≡◌, List, [], ◌∷◌, map, Bool, true, ◌&&◌, string_bytes}
use Rattle.std.specs.Str.{chars}
use Rattle.gl_base.specs.Texts.{Text, text_less}
use Rattle.gl_meaning.specs.Manifest.{Manifest, ClassEntry}
use Rattle.gl_meaning.specs.Order.{names_of}
use Rattle.gl_opc.specs.declared.names.NameIndex.{NameIndex}

-- an index that is whole has the names in their order
abbrev pub IsIndexOf : NameIndex → List Text → Type 0
IsIndexOf i names = i.whole ≡ true → map (λ k. chars (string_bytes k)) i.set.keys ≡ names

-- each name is less, by bytes, than the next one: a test
abbrev pub rising : List Text → Bool
rising [] = true
rising (t ∷ []) = true
rising (t ∷ u ∷ ts) = text_less t u && rising (u ∷ ts)

-- the names of the classes rise, and those of the members of a class
abbrev pub all_rising : Manifest → ClassEntry → Bool
all_rising m c = rising (map (λ c. c.name) m.classes) && (rising (names_of c.fields) && (rising (names_of c.getters) && rising (names_of c.actions)))
