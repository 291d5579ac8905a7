-- Loading gives what the files stand for, and nothing else.
use Rattle.std.proofs.Common.{◌≡◌, ◌≤◌, ℕ, List, [], ◌∷◌, Bool, true, false, Option, Some, None, Result, Ok, Err, length, refl, sym, ap, ◌∙◌, subst, arith}
use Rattle.std.specs.Prelude.{IfOk, if◌then◌else◌, nat_le, ⊤}
use Rattle.gl_base.specs.Texts.{Text, bytes_of}
use Rattle.gl_ast.specs.Grammar.{Spells}
use Rattle.gl_ast.specs.Template.{Body, Plain}
use Rattle.gl_outside.specs.Shelf.{Entry, file_of}
use Rattle.gl_parse.specs.FaultPlace.{template_place}
use Rattle.gl_parse.specs.ReadStmt.{template_of, expression_of}
use Rattle.gl_parse.specs.Place.{IsTemplatePlace}
use Rattle.gl_parse.proofs.Places.{template_place_is, one_template_place}
use Rattle.gl_parse.proofs.SpellsRead.{read_spells, spells_read}
use Rattle.gl_cycles.specs.Through.{cycle_of}
use Rattle.gl_manifest.proofs.Holding.{said_holds, holds_said}
use Rattle.gl_meaning.specs.App.{Event}
use Rattle.gl_meaning.specs.Known.{Place, first_unknown}
use Rattle.gl_meaning.specs.Manifest.{ClassEntry, Manifest, app_of}
use Rattle.gl_meaning.specs.ManifestOf as m
use Rattle.gl_meaning.specs.ManifestOf.{ManifestReading, read_manifest}
use Rattle.gl_meaning.specs.ScriptOf as s
use Rattle.gl_meaning.specs.ScriptOf.{ScriptReading, script_reading}
use Rattle.gl_script.proofs.Scripts.{reads_held, held_reads}
use Rattle.gl_load.specs.Load.{most, kept, small_file, spelled, template_in, templates_in, manifest_read, manifest_in, all_known, no_cycle, Parts, app_in, script_read, script_file, script_in, root_fields, Whole, whole_in}
use Rattle.gl_load.specs.Refusal.{Cause, too_long, not_in_grammar, ◌>>=◌, in_file}
use Rattle.gl_load.specs.IsLoaded.{HasFile, LeavesGrammar, IsManifestFile, IsTemplateFile, AreTemplates, IsLoaded, IsLoadedWith}
use Rattle.gl_load.specs.Loads.{Loads}
use Rattle.gl_load.specs.View.{app_view, whole_view}
use Rattle.gl_load.specs.declared.application.Application.{Application}
use Rattle.gl_load.specs.declared.fault.LoadFault.{LoadFault}
use Rattle.gl_load.specs.declared.whole.Loaded.{Loaded}
use Rattle.gl_load.proofs.Fetch.{short_kept}
use Rattle.gl_load.proofs.Spelled.{nothing_read}

-- Chains

gave : {A B E : Type 0} (r : Result A E) (f : A → Result B E) (y : B) → (r >>= f) ≡ Ok y → (x : A) × (r ≡ Ok x) × (f x ≡ Ok y)
gave (Ok x) f y e = (x, refl, e)
gave (Err z) f y e = absurd cc

goes : {A B E : Type 0} (r : Result A E) (f : A → Result B E) (x : A) (y : B) → r ≡ Ok x → f x ≡ Ok y → (r >>= f) ≡ Ok y
goes r f x y e h = ap (λ z. z >>= f) e ∙ h

ok_same : {A E : Type 0} (x y : A) → (let a : Result A E = Ok x in a ≡ Ok y) → x ≡ y
ok_same x y e = cc

in_gave : {A : Type 0} (name : Text) (r : Result A Cause) (x : A) → in_file name r ≡ Ok x → r ≡ Ok x
in_gave name (Ok y) x e = ap Ok (ok_same y x e)
in_gave name (Err c) x e = absurd cc

none_some : {A : Type 0} {x : A} → None ≡ Some x → ⊥
none_some e = cc

err_same : (c d : Cause) → (let a : Result Body Cause = Err c in a ≡ Err d) → c ≡ d
err_same c d e = cc

place_same : (m n : ℕ) → (let a : Result Body Cause = Err (not_in_grammar m) in a ≡ Err (not_in_grammar n)) → m ≡ n
place_same m n e = cc

-- Files

kept_gave : (limit : ℕ) (o : Option (List ℕ)) (bytes : List ℕ) → kept limit o ≡ Ok bytes → (o ≡ Some bytes) × (length bytes ≤ limit)
kept_gave limit None bytes e = absurd cc
kept_gave limit (Some b) bytes e = chosen (nat_le (length b) limit) refl e where
  chosen : (t : Bool) → nat_le (length b) limit ≡ t → (if t then Ok b else Err too_long) ≡ Ok bytes → (Some b ≡ Some bytes) × (length bytes ≤ limit)
  chosen true h e = let same : b ≡ bytes = ok_same b bytes e in (ap Some same, subst (λ c. length c ≤ limit) same (grind (arith, h)))
  chosen false h e = absurd cc

file_gave : (files : List Entry) (name : Text) (bytes : List ℕ) → small_file files name ≡ Ok bytes → HasFile files name bytes
unfolding small_file
file_gave files name bytes e = kept_gave most (file_of files (bytes_of name)) bytes e

file_goes : (files : List Entry) (name : Text) (bytes : List ℕ) → HasFile files name bytes → small_file files name ≡ Ok bytes
unfolding small_file
file_goes files name bytes h = ap (kept most) h.0 ∙ short_kept most bytes h.1

-- Templates

spelled_gave : (n : ℕ) (o : Option Body) (tree : Body) → spelled n o ≡ Ok tree → o ≡ Some tree
spelled_gave n None tree e = absurd cc
spelled_gave n (Some t) tree e = ap Some (ok_same t tree e)

template_gave : (files : List Entry) (name : Text) (tree : Body) → template_in files name ≡ Ok tree → IsTemplateFile files name tree
unfolding template_in
template_gave files name tree e =
    let g = gave (small_file files name) (λ bytes. spelled (template_place bytes) (template_of bytes)) tree e in
    (g.0, file_gave files name g.0 g.1, read_spells g.0 tree (spelled_gave (template_place g.0) (template_of g.0) tree g.2))

template_goes : (files : List Entry) (name : Text) (tree : Body) → IsTemplateFile files name tree → template_in files name ≡ Ok tree
unfolding template_in
template_goes files name tree (bytes, file, spells) =
    goes (small_file files name) (λ bytes. spelled (template_place bytes) (template_of bytes)) bytes tree (file_goes files name bytes file) (ap (spelled (template_place bytes)) (spells_read bytes tree spells))

templates_gave : (files : List Entry) (cs : List ClassEntry) (ts : List Body) → templates_in files cs ≡ Ok ts → AreTemplates files cs ts
unfolding templates_in
templates_gave files [] ts e = subst (λ z. AreTemplates files [] z) (ok_same [] ts e) tt
templates_gave files (c ∷ cs) ts e =
    let g = gave (in_file c.file (template_in files c.file)) _ ts e in
    let r = gave (templates_in files cs) _ ts g.2 in
    subst (λ z. AreTemplates files (c ∷ cs) z) (ok_same (g.0 ∷ r.0) ts r.2) (template_gave files c.file g.0 (in_gave c.file (template_in files c.file) g.0 g.1), templates_gave files cs r.0 r.1)

templates_goes : (files : List Entry) (cs : List ClassEntry) (ts : List Body) → AreTemplates files cs ts → templates_in files cs ≡ Ok ts
unfolding templates_in
templates_goes files [] [] h = refl
templates_goes files [] (t ∷ ts) h = absurd h
templates_goes files (c ∷ cs) [] h = absurd h
templates_goes files (c ∷ cs) (t ∷ ts) h =
    goes (in_file c.file (template_in files c.file)) _ t (t ∷ ts) (ap (in_file c.file) (template_goes files c.file t h.0))
    (goes (templates_in files cs) _ ts (t ∷ ts) (templates_goes files cs ts h.1) refl)

-- A file in which no template stands

file_stops : (files : List Entry) (name : Text) (n : ℕ) → small_file files name ≡ Err (not_in_grammar n) → ⊥
unfolding small_file
file_stops files name n e = never (file_of files (bytes_of name)) e where
  short : (t : Bool) (bytes : List ℕ) → (if t then Ok bytes else Err too_long) ≡ Err (not_in_grammar n) → ⊥
  short true bytes h = cc
  short false bytes h = cc

  never : (o : Option (List ℕ)) → kept most o ≡ Err (not_in_grammar n) → ⊥
  never None h = cc
  never (Some bytes) h = short (nat_le (length bytes) most) bytes h

left : (bytes : List ℕ) (o : Option Body) (n : ℕ) → template_of bytes ≡ o → spelled (template_place bytes) o ≡ Err (not_in_grammar n)
    → ((tree : Body) → Spells bytes tree → ⊥) × IsTemplatePlace bytes n
left bytes None n is e = (
  (λ tree spells. none_some (sym is ∙ spells_read bytes tree spells)),
  subst (λ k. IsTemplatePlace bytes k) (place_same (template_place bytes) n e) (template_place_is bytes),
)
left bytes (Some tree) n is e = absurd cc

pub grammar_left : (files : List Entry) (name : Text) (n : ℕ) → template_in files name ≡ Err (not_in_grammar n) → LeavesGrammar files name n
unfolding template_in
grammar_left files name n e = taken (small_file files name) refl e where
  taken : (r : Result (List ℕ) Cause) → small_file files name ≡ r → (r >>= λ bytes. spelled (template_place bytes) (template_of bytes)) ≡ Err (not_in_grammar n) → LeavesGrammar files name n
  taken (Ok bytes) is h = let l = left bytes (template_of bytes) n refl h in (bytes, file_gave files name bytes is, l.0, l.1)
  taken (Err c) is h = absurd (file_stops files name n (is ∙ ap (λ x. Err x) (err_same c (not_in_grammar n) h)))

pub left_grammar : (files : List Entry) (name : Text) (n : ℕ) → LeavesGrammar files name n → template_in files name ≡ Err (not_in_grammar n)
unfolding template_in
left_grammar files name n (bytes, file, never, place) =
    let none : template_of bytes ≡ None = nothing_read bytes never in
    let same : template_place bytes ≡ n = one_template_place bytes (template_place bytes) n (template_place_is bytes) place in
    ap (λ r. r >>= λ bytes. spelled (template_place bytes) (template_of bytes)) (file_goes files name bytes file)
    ∙ (ap (spelled (template_place bytes)) none ∙ ap (λ k. Err (not_in_grammar k)) same)

-- The manifest

read_gave : (r : ManifestReading) (x : Manifest) → manifest_read r ≡ Ok x → r ≡ m.said x
read_gave m.bad_json x e = absurd cc
read_gave (m.bad_shape p) x e = absurd cc
read_gave (m.not_in_grammar p) x e = absurd cc
read_gave (m.said y) x e = ap m.said (ok_same y x e)

manifest_gave : (files : List Entry) (name : Text) (x : Manifest) → manifest_in files name ≡ Ok x → IsManifestFile files name x
unfolding manifest_in
manifest_gave files name x e =
    let g = gave (small_file files name) (λ bytes. manifest_read (read_manifest expression_of bytes)) x e in
    (g.0, file_gave files name g.0 g.1, said_holds g.0 x (read_gave (read_manifest expression_of g.0) x g.2))

manifest_goes : (files : List Entry) (name : Text) (x : Manifest) → IsManifestFile files name x → manifest_in files name ≡ Ok x
unfolding manifest_in
manifest_goes files name x (bytes, file, holds) =
    goes (small_file files name) (λ bytes. manifest_read (read_manifest expression_of bytes)) bytes x (file_goes files name bytes file) (ap manifest_read (holds_said bytes x holds))

-- Names and cycles

known_gave : (name : Text) (o : Option Place) (u : ⊤) → all_known name o ≡ Ok u → o ≡ None
known_gave name None u e = refl
known_gave name (Some p) u e = absurd cc

cycle_gave : (o : Option (Text × Text)) (u : ⊤) → no_cycle o ≡ Ok u → o ≡ None
cycle_gave None u e = refl
cycle_gave (Some p) u e = absurd cc

-- The application

pub app_gave : (files : List Entry) (name : Text) (parts : Parts) → app_in files name ≡ Ok parts → IsLoaded files name parts
unfolding app_in
app_gave files name parts e =
    let g = gave (in_file name (manifest_in files name)) _ parts e in
    let r = gave (templates_in files g.0.classes) _ parts g.2 in
    let k = gave (all_known name (first_unknown (app_of g.0 r.0))) _ parts r.2 in
    let c = gave (in_file name (no_cycle (cycle_of g.0.classes))) _ parts k.2 in
    let found : Parts = record { manifest = g.0; templates = r.0 } in
    let made : IsLoaded files name found = record {
      manifest = manifest_gave files name g.0 (in_gave name (manifest_in files name) g.0 g.1);
      templates = templates_gave files g.0.classes r.0 r.1;
      known = known_gave name (first_unknown (app_of g.0 r.0)) k.0 k.1;
      no_cycle = cycle_gave (cycle_of g.0.classes) c.0 (in_gave name (no_cycle (cycle_of g.0.classes)) c.0 c.1);
    } in
    subst (λ z. IsLoaded files name z) (ok_same found parts c.2) made

pub app_goes : (files : List Entry) (name : Text) (parts : Parts) → IsLoaded files name parts → app_in files name ≡ Ok parts
unfolding app_in
app_goes files name parts h =
    goes (in_file name (manifest_in files name)) _ parts.manifest parts (ap (in_file name) (manifest_goes files name parts.manifest h.manifest))
    (goes (templates_in files parts.manifest.classes) _ parts.templates parts (templates_goes files parts.manifest.classes parts.templates h.templates)
    (goes (all_known name (first_unknown (app_of parts.manifest parts.templates))) _ tt parts (ap (all_known name) h.known)
    (goes (in_file name (no_cycle (cycle_of parts.manifest.classes))) _ tt parts (ap (λ o. in_file name (no_cycle o)) h.no_cycle) refl)))

-- The script

script_gave : (r : ScriptReading) (es : List Event) → script_read r ≡ Ok es → r ≡ s.script es
script_gave s.not_json es e = absurd cc
script_gave (s.bad_shape p) es e = absurd cc
script_gave (s.unknown_name i n) es e = absurd cc
script_gave (s.script fs) es e = ap s.script (ok_same fs es e)

events_gave : (files : List Entry) (fields : List (Text × Plain)) (name : Text) (es : List Event) → script_file files fields name ≡ Ok es → (bytes : List ℕ) × HasFile files name bytes × (script_reading fields bytes ≡ s.script es)
unfolding script_file
events_gave files fields name es e =
    let g = gave (small_file files name) (λ bytes. script_read (script_reading fields bytes)) es e in
    (g.0, file_gave files name g.0 g.1, script_gave (script_reading fields g.0) es g.2)

events_goes : (files : List Entry) (fields : List (Text × Plain)) (name : Text) (es : List Event) (bytes : List ℕ) → HasFile files name bytes → script_reading fields bytes ≡ s.script es → script_file files fields name ≡ Ok es
unfolding script_file
events_goes files fields name es bytes file reads = goes (small_file files name) (λ bytes. script_read (script_reading fields bytes)) bytes es (file_goes files name bytes file) (ap script_read reads)

pub whole_gave : (files : List Entry) (name script : Text) (whole : Whole) → whole_in files name script ≡ Ok whole → IsLoadedWith files name script whole
unfolding whole_in script_in
whole_gave files name script whole e =
    let g = gave (app_in files name) _ whole e in
    let fields = root_fields g.0.manifest in
    let r = gave (in_file script (script_file files fields script)) _ whole g.2 in
    let t = events_gave files fields script r.0 (in_gave script (script_file files fields script) r.0 r.1) in
    let found : Whole = record { parts = g.0; events = r.0 } in
    let made : IsLoadedWith files name script found = record { parts = app_gave files name g.0 g.1; events = (t.0, t.1, reads_held fields t.0 r.0 t.2) } in
    subst (λ z. IsLoadedWith files name script z) (ok_same found whole r.2) made

pub whole_goes : (files : List Entry) (name script : Text) (whole : Whole) → IsLoadedWith files name script whole → whole_in files name script ≡ Ok whole
unfolding whole_in script_in
whole_goes files name script whole h =
    let fields = root_fields whole.parts.manifest in
    let t = h.events in
    goes (app_in files name) _ whole.parts whole (app_goes files name whole.parts h.parts)
    (goes (in_file script (script_file files fields script)) _ whole.events whole (ap (in_file script) (events_goes files fields script whole.events t.0 t.1 (held_reads fields t.0 whole.events t.2))) refl)

-- What was loaded

pub app_loaded : (files : List Entry) (name : Text) (r : Result Application LoadFault) → Loads app_view r (app_in files name) → IfOk r (λ a. IsLoaded files name (app_view a))
app_loaded files name (Ok a) told = app_gave files name (app_view a) told
app_loaded files name (Err f) told = tt

pub whole_loaded : (files : List Entry) (name script : Text) (r : Result Loaded LoadFault) → Loads whole_view r (whole_in files name script) → IfOk r (λ a. IsLoadedWith files name script (whole_view a))
whole_loaded files name script (Ok a) told = whole_gave files name script (whole_view a) told
whole_loaded files name script (Err f) told = tt
