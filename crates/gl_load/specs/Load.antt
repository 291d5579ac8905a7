-- What loading gives, in the order of refusals: the manifest, the template of each class, unknown names, the cycles of getters,
-- the script.
use Rattle.std.specs.Prelude.{ℕ, ⊤, List, [], ◌∷◌, ◌++◌, Option, Some, None, Result, Ok, Err, if◌then◌else◌, nat_le, length}
use Rattle.std.specs.Str.{bytes_eq}
use Rattle.gl_base.specs.Texts.{Text, bytes_of}
use Rattle.gl_ast.specs.Template.{Plain, Body}
use Rattle.gl_outside.specs.Shelf.{Entry, file_of}
use Rattle.gl_parse.specs.FaultPlace.{template_place}
use Rattle.gl_parse.specs.ReadStmt.{template_of, expression_of}
use Rattle.gl_cycles.specs.Through.{cycle_of}
use Rattle.gl_meaning.specs.App.{Event}
use Rattle.gl_meaning.specs.Known.{Place, first_unknown}
use Rattle.gl_meaning.specs.Manifest.{ClassEntry, Manifest, app_of}
use Rattle.gl_meaning.specs.ManifestOf as m
use Rattle.gl_meaning.specs.ManifestOf.{ManifestReading, read_manifest}
use Rattle.gl_meaning.specs.ScriptOf as s
use Rattle.gl_meaning.specs.ScriptOf.{ScriptReading, script_reading}
use Rattle.gl_load.specs.Refusal.{Cause, absent, too_long, not_json, bad_shape, bad_expression, not_in_grammar, unknown_name, getter_cycle, unknown_field, Refusal, ◌>>=◌, in_file}

-- the most bytes of a file
abbrev pub most : ℕ
most = 16777216

-- the bytes of a file that is there and isn't too long
abbrev pub kept : ℕ → Option (List ℕ) → Result (List ℕ) Cause
kept limit None = Err absent
kept limit (Some bytes) = if nat_le (length bytes) limit then Ok bytes else Err too_long

unfoldable pub small_file : List Entry → Text → Result (List ℕ) Cause
small_file files name = kept most (file_of files (bytes_of name))

-- the tree that the bytes of a template spell, or the place at which they leave the grammar
abbrev pub spelled : ℕ → Option Body → Result Body Cause
spelled place None = Err (not_in_grammar place)
spelled place (Some tree) = Ok tree

-- the tree that the file of a template spells
unfoldable pub template_in : List Entry → Text → Result Body Cause
template_in files name = small_file files name >>= λ bytes. spelled (template_place bytes) (template_of bytes)

-- the templates of these classes, one after another
unfoldable pub templates_in : List Entry → List ClassEntry → Result (List Body) Refusal
templates_in files [] = Ok []
templates_in files (c ∷ cs) = in_file c.file (template_in files c.file) >>= λ tree. (templates_in files cs >>= λ trees. Ok (tree ∷ trees))

-- what the bytes of a manifest say
abbrev pub manifest_read : ManifestReading → Result Manifest Cause
manifest_read m.bad_json = Err not_json
manifest_read (m.bad_shape pointer) = Err (bad_shape pointer)
manifest_read (m.not_in_grammar pointer) = Err (bad_expression pointer)
manifest_read (m.said manifest) = Ok manifest

unfoldable pub manifest_in : List Entry → Text → Result Manifest Cause
manifest_in files name = small_file files name >>= λ bytes. manifest_read (read_manifest expression_of bytes)

-- the file of a name: that of a template, or else the manifest's
abbrev pub place_file : Text → Option Text → Text
place_file name None = name
place_file name (Some file) = file

-- every name is known, or the first that is not; `name` is the manifest's file
abbrev pub all_known : Text → Option Place → Result ⊤ Refusal
all_known name None = Ok tt
all_known name (Some p) = Err (record { file = place_file name p.template; cause = unknown_name p.unknown.kind p.unknown.name })

-- no getter reaches itself, or the first that does
abbrev pub no_cycle : Option (Text × Text) → Result ⊤ Cause
no_cycle None = Ok tt
no_cycle (Some getter) = Err (getter_cycle getter.0 getter.1)

-- a manifest with the template of each of its classes
pub record Parts : Type 0 where
  pub manifest : Manifest
  pub templates : List Body

abbrev pub checked : Text → Manifest → List Body → Result Parts Refusal
checked name manifest trees =
    all_known name (first_unknown (app_of manifest trees)) >>= λ k.
    (in_file name (no_cycle (cycle_of manifest.classes)) >>= λ u. Ok (record { manifest = manifest; templates = trees }))

-- The application, or the first refusal: the manifest, then each template, then unknown names, then the cycles.
unfoldable pub app_in : List Entry → Text → Result Parts Refusal
app_in files name =
    in_file name (manifest_in files name) >>= λ manifest.
    (templates_in files manifest.classes >>= λ trees. checked name manifest trees)

-- what the bytes of a script say
abbrev pub script_read : ScriptReading → Result (List Event) Cause
script_read s.not_json = Err not_json
script_read (s.bad_shape pointer) = Err (bad_shape pointer)
script_read (s.unknown_name index name) = Err (unknown_field index name)
script_read (s.script events) = Ok events

-- the events of a script for a root with these fields
unfoldable pub script_file : List Entry → List (Text × Plain) → Text → Result (List Event) Cause
script_file files fields name = small_file files name >>= λ bytes. script_read (script_reading fields bytes)

unfoldable pub script_in : List Entry → List (Text × Plain) → Text → Result (List Event) Refusal
script_in files fields name = in_file name (script_file files fields name)

-- the first class of the name
abbrev pub class_named : Text → List ClassEntry → Option ClassEntry
class_named n [] = None
class_named n (c ∷ cs) = if bytes_eq n c.name then Some c else class_named n cs

abbrev pub fields_of : Option ClassEntry → List (Text × Plain)
fields_of None = []
fields_of (Some c) = c.fields

-- the fields of the class that the root names; in an application whose names are known there is one
abbrev pub root_fields : Manifest → List (Text × Plain)
root_fields m = fields_of (class_named m.root m.classes)

-- an application with the events of its script
pub record Whole : Type 0 where
  pub parts : Parts
  pub events : List Event

-- The application and its script, or the first refusal: the application, then the script.
unfoldable pub whole_in : List Entry → Text → Text → Result Whole Refusal
whole_in files manifest script =
    app_in files manifest >>= λ parts.
    (script_in files (root_fields parts.manifest) script >>= λ events. Ok (record { parts = parts; events = events }))

abbrev pub after_ok : {A E : Type 0} → Result A E → (A → List Text) → List Text
after_ok (Err e) rest = []
after_ok (Ok x) rest = rest x

-- the files of templates that are fetched, in order: none after one that is refused
unfoldable pub templates_fetched : List Entry → List ClassEntry → List Text
templates_fetched files [] = []
templates_fetched files (c ∷ cs) = c.file ∷ after_ok (template_in files c.file) (λ tree. templates_fetched files cs)

-- the files that an application fetches, in order
unfoldable pub app_fetched : List Entry → Text → List Text
app_fetched files name = name ∷ after_ok (manifest_in files name) (λ manifest. templates_fetched files manifest.classes)

-- the files that an application and its script fetch, in order
unfoldable pub whole_fetched : List Entry → Text → Text → List Text
whole_fetched files manifest script = app_fetched files manifest ++ after_ok (app_in files manifest) (λ parts. script ∷ [])
