-- Templates that are loaded one after another.
use Rattle.std.proofs.Common.{◌≡◌, ◌+◌, ℕ, Some, drop, List, [], ◌∷◌, ◌++◌, Result, Ok, Err, inl, inr, refl, sym, ap, append_assoc, append-nil}
use Rattle.std.specs.List.{slice_get}
use Rattle.std.proofs.Math.Logic.{∥∥₁_elim, ∥∥₁_map, ∥∥₁_prop}
use Rattle.std.proofs.lemmas.Option.{slice_get_within, get_or_from_slice_get}
use Rattle.gl_base.specs.Texts.{Text}
use Rattle.gl_base.proofs.Lists.{drop_item}
use Rattle.gl_ast.specs.Grammar.{IsTemplate}
use Rattle.gl_ast.specs.Template.{Body}
use Rattle.gl_ast.specs.declared.template.Template.{Template}
use Rattle.gl_outside.specs.Shelf.{Entry}
use Rattle.gl_meaning.specs.Manifest.{ClassEntry, Manifest}
use Rattle.gl_meaning.specs.ManifestRules.{Each}
use Rattle.gl_load.specs.Load.{Parts, manifest_in, template_in, templates_in, templates_fetched, app_in, app_fetched, after_ok, whole_fetched}
use Rattle.gl_load.specs.Loads.{Stops, refusal, IsAmong}
use Rattle.gl_load.specs.Refusal.{Cause, Refusal, ◌>>=◌, in_file}
use Rattle.gl_load.specs.Trees.{seen_templates, after_trees}
use Rattle.gl_load.specs.declared.fault.LoadFault.{LoadFault}
use Rattle.gl_load.proofs.Faults.{stops_then, in_front, behind}

one_more : (front : List Body) (t : Body) (rest : Result (List Body) Refusal) → after_trees front (rest >>= λ ts. Ok (t ∷ ts)) ≡ after_trees (front ++ t ∷ []) rest
one_more front t (Ok ts) = ap Ok (sym (append_assoc front (t ∷ []) ts))
one_more front t (Err r) = refl

pub templates_step : (files : List Entry) (front : List Body) (c : ClassEntry) (cs : List ClassEntry) (t : Body) → in_file c.file (template_in files c.file) ≡ Ok t → after_trees front (templates_in files (c ∷ cs)) ≡ after_trees (front ++ t ∷ []) (templates_in files cs)
unfolding templates_in
templates_step files front c cs t is = rw is (one_more front t (templates_in files cs))

pub templates_stop : (files : List Entry) (front : List Body) (c : ClassEntry) (cs : List ClassEntry) (f : LoadFault) → Stops (refusal f.file) f.cause (in_file c.file (template_in files c.file)) → Stops (refusal f.file) f.cause (after_trees front (templates_in files (c ∷ cs)))
unfolding templates_in
templates_stop files front c cs f h = stops_then f.file f.cause _ _ (stops_then f.file f.cause _ _ h)

pub templates_end : (files : List Entry) (front : List Body) → after_trees front (templates_in files []) ≡ Ok front
unfolding templates_in
templates_end files front = ap Ok (append-nil front)

was_ok : {A : Type 0} (name : Text) (out : Result A Cause) (x : A) → in_file name out ≡ Ok x → out ≡ Ok x
was_ok name (Ok y) x is = cc
was_ok name (Err e) x is = cc

pub fetched_step : (files : List Entry) (c : ClassEntry) (cs : List ClassEntry) (t : Body) (n : Text) → in_file c.file (template_in files c.file) ≡ Ok t → IsAmong n (templates_fetched files cs) → IsAmong n (templates_fetched files (c ∷ cs))
unfolding templates_fetched
fetched_step files c cs t n is h = rw (was_ok c.file (template_in files c.file) t is) (inr h)

only_one : (n name : Text) → IsAmong n (name ∷ []) → n ≡ name
only_one n name (inl e) = e
only_one n name (inr e) = absurd e

pub fetched_here : (files : List Entry) (c : ClassEntry) (cs : List ClassEntry) (n : Text) → IsAmong n (c.file ∷ []) → IsAmong n (templates_fetched files (c ∷ cs))
unfolding templates_fetched
fetched_here files c cs n h = inl (only_one n c.file h)

pub app_here : (files : List Entry) (name n : Text) → IsAmong n (name ∷ []) → IsAmong n (app_fetched files name)
unfolding app_fetched
app_here files name n h = inl (only_one n name h)

pub app_templates : (files : List Entry) (name n : Text) (m : Manifest) → in_file name (manifest_in files name) ≡ Ok m → IsAmong n (templates_fetched files m.classes) → IsAmong n (app_fetched files name)
unfolding app_fetched
app_templates files name n m is h = rw (was_ok name (manifest_in files name) m is) (inr h)

-- a template more
pub each_more : (ts : List Template) (t : Template) → Each IsTemplate (seen_templates ts) → Each IsTemplate (seen_templates (ts ++ t ∷ []))
each_more [] t h = (t.spelled, tt)
each_more (s ∷ ts) t h = (h.0, each_more ts t h.1)

pub whole_app : (files : List Entry) (manifest script n : Text) → IsAmong n (app_fetched files manifest) → IsAmong n (whole_fetched files manifest script)
unfolding whole_fetched
whole_app files manifest script n h = in_front n (app_fetched files manifest) _ h

pub whole_script : (files : List Entry) (manifest script n : Text) (parts : Parts) → app_in files manifest ≡ Ok parts → IsAmong n (script ∷ []) → IsAmong n (whole_fetched files manifest script)
unfolding whole_fetched
whole_script files manifest script n parts is h = behind n (app_fetched files manifest) (after_ok (app_in files manifest) (λ p. script ∷ [])) (rw is h)

-- what is left at the place of a template
pub got_tree : (trees : List Body) (i : ℕ) (t : Body) → Some t ≡ slice_get trees i → drop i trees ≡ t ∷ drop (i + 1) trees
got_tree trees i t e = drop_item trees i t (slice_get_within trees i t (sym e)) (sym (get_or_from_slice_get trees i t t (sym e)))

-- each is spelled by some bytes
pub each_template : (ts : List Body) → ∥ Each IsTemplate ts ∥₁ → Each IsTemplate ts
each_template [] h = tt
each_template (t ∷ ts) h = (∥∥₁_elim h ∥∥₁_prop (λ all. all.0), each_template ts (∥∥₁_map h (λ all. all.1)))
