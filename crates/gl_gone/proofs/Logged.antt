-- The text is the lines of what goes.
use Rattle.std.proofs.Common.{◌≡◌, ℕ, List, [], ◌∷◌, ◌++◌, Bool, true, false, cond, Option, Some, None, refl, sym, ap, ap₂, ◌∙◌, subst, inl, inr}
use Rattle.std.specs.Prelude.{map, filter, flat_map, not, is_some, option_map, codes, decimal, unwrap_or}
use Rattle.std.specs.List.{list_all}
use Rattle.std.specs.Str.{bytes_eq}
use Rattle.std.proofs.lemmas.Bool.{and_parts}
use Rattle.std.proofs.lemmas.List.{append_assoc}
use Rattle.gl_base.specs.Texts.{Text}
use Rattle.gl_ast.specs.Template.{Body}
use Rattle.gl_meaning.specs.App.{Class}
use Rattle.gl_meaning.specs.Eval.{class_named, class_at}
use Rattle.gl_meaning.specs.Known.{Among}
use Rattle.gl_meaning.specs.Manifest.{Manifest, ClassEntry, classes_of, app_of}
use Rattle.gl_meaning.specs.Path.{at, main, otherwise, items, item, into, slot, empty, attribute_at, modifier_at, Path}
use Rattle.gl_meaning.specs.Print.{line}
use Rattle.gl_meaning.specs.Scope.{Source}
use Rattle.gl_meaning.specs.View.{path_view, manifest_view}
use Rattle.gl_lines.specs.Lines.{told, told_with, modifier_line}
use Rattle.gl_arena.specs.Id.{Id as Ident}
use Rattle.gl_arena.specs.Arena.{Arena, named, by_stamp}
use Rattle.gl_arena.proofs.Stamps.{at_stamp-there}
use Rattle.gl_mods.specs.Mods as m
use Rattle.gl_opc.specs.declared.app.App.{App}
use Rattle.gl_plain.specs.Ids.{Id, instance_id}
use Rattle.gl_plain.specs.State.{instance_row, modifier_row}
use Rattle.gl_machine.specs.Code.{live_of}
use Rattle.gl_machine.specs.Gone.{Gone, has_id, gone, modifier_gone, gone_line}
use Rattle.gl_vm.specs.View.{Tables, seen_instance, seen_modifier, state_of}
use Rattle.gl_vm.specs.declared.vm.Vm.{Vm}
use Rattle.gl_code.specs.CodeView.{seen_code}
use Rattle.gl_code.specs.Tables.{env_of, tables_of}
use Rattle.gl_code.specs.declared.page.Page.{Page}
use Rattle.gl_gone.specs.View.{seen_ending, all_seen, line_of, IsKept, AllKept, Lists, is_live}
use Rattle.gl_gone.specs.Lines.{entry_named, entry_at, class_line, ending_line}
use Rattle.gl_gone.specs.Logs.{id_of, stands_in, destroyed_text, gone_id, TellsWhatStays, stays_on, keeps, Logs}
use Rattle.gl_gone.specs.declared.endings.Ending.{Ending}
use Rattle.gl_gone.specs.declared.endings.Ending.TheVariants as ending
use Rattle.gl_gone.proofs.Going.{goes, goes_of, stays_told, tells_gone}

-- Ids

seen_id : (n : Tables) (vm : Vm) (x : Ending) → IsKept vm x → gone_id (seen_ending n x) ≡ id_of x
seen_id n vm (ending.Modifier i node name) h = refl
seen_id n vm (ending.Instance o) h = refl

seen_ids : (n : Tables) (vm : Vm) (xs : List Ending) → AllKept vm xs → map gone_id (all_seen n xs) ≡ map id_of xs
seen_ids n vm [] h = refl
seen_ids n vm (x ∷ xs) h = ap₂ (λ q qs. q ∷ qs) (seen_id n vm x h.0) (seen_ids n vm xs h.1)

-- Lines

abbrev teardown_line : Class → Text
teardown_line c = cond c.teardown (line (codes "destroy " ++ c.name)) []

class_found : (x : Text) (cs : List ClassEntry) (ts : List Body) → class_line (entry_named x cs) ≡ teardown_line (class_named x (classes_of cs ts))
class_found x [] ts = refl
class_found x (c ∷ cs) [] = by (bytes_eq x c.name) (class_found x cs []) where
  by : (b : Bool) → class_line (entry_named x cs) ≡ teardown_line (class_named x (classes_of cs [])) → class_line (cond b (Some c) (entry_named x cs)) ≡ teardown_line (cond b (Rattle.gl_meaning.specs.Manifest.class_of c Rattle.gl_ast.specs.Template.end) (class_named x (classes_of cs [])))
  by true e = refl
  by false e = e
class_found x (c ∷ cs) (t ∷ ts) = by (bytes_eq x c.name) (class_found x cs ts) where
  by : (b : Bool) → class_line (entry_named x cs) ≡ teardown_line (class_named x (classes_of cs ts)) → class_line (cond b (Some c) (entry_named x cs)) ≡ teardown_line (cond b (Rattle.gl_meaning.specs.Manifest.class_of c t) (class_named x (classes_of cs ts)))
  by true e = refl
  by false e = e

instance_told : (m : Manifest) (ts : List Body) (p : Path) → class_line (entry_at m p) ≡ teardown_line (class_at (app_of m ts) p)
instance_told m ts [] = class_found m.root m.classes ts
instance_told m ts (into c ∷ p) = class_found c m.classes ts
instance_told m ts (at i ∷ p) = refl
instance_told m ts (main ∷ p) = refl
instance_told m ts (otherwise ∷ p) = refl
instance_told m ts (items ∷ p) = refl
instance_told m ts (item k i ∷ p) = refl
instance_told m ts (slot n ∷ p) = refl
instance_told m ts (empty ∷ p) = refl
instance_told m ts (attribute_at n ∷ p) = refl
instance_told m ts (modifier_at i ∷ p) = refl

abbrev text_told : (ℕ → Text) → ℕ × ℕ → Text
text_told f x = line (codes "destroy " ++ (35 ∷ (decimal x.0 ++ 32 ∷ f x.1)))

line_is : (f : ℕ → Text) (x : ℕ × ℕ) → modifier_line (codes "destroy ") x.0 (f x.1) [] ≡ text_told f x
unfolding modifier_line told_with told
line_is f x = sym (append_assoc (codes "destroy ") (35 ∷ (decimal x.0 ++ 32 ∷ f x.1)) (10 ∷ []))

modifier_told : (n : Tables) (o : Option m.Installed) (x : ℕ × ℕ) → option_map line_of o ≡ Some x → modifier_line (codes "destroy ") x.0 (n.modifier x.1) [] ≡ modifier_gone (λ k. k) (option_map modifier_row (option_map (seen_modifier n) o))
modifier_told n None x e = let no : None ≡ Some x = e in absurd cc
modifier_told n (Some y) x e = line_is n.modifier x ∙ ap (text_told n.modifier) (sym (ap (λ o. unwrap_or o x) e))

module _ (a : App) (templates : List Body) (vm : Vm) (touched : Source → Bool) where
  abbrev M : Manifest
  M = manifest_view a.manifest

  abbrev N : Tables
  N = tables_of M

  abbrev Line : Gone → Text
  Line g = gone_line (env_of a templates).app (state_of N vm touched).look (λ k. k) g

  line_told : (x : Ending) → IsKept vm x → ending_line M x ≡ Line (seen_ending N x)
  line_told (ending.Modifier i node name) h = modifier_told N _ (node.1, name) h
  line_told (ending.Instance o) h = instance_told M templates (path_view o.value.path)

  one_told : (b c : Bool) (x : Ending) (xs : List Ending) (gs : List Gone) → b ≡ c → IsKept vm x → flat_map (ending_line M) xs ≡ flat_map Line gs
      → flat_map (ending_line M) (cond (not b) (x ∷ xs) xs) ≡ flat_map Line (cond (not c) (seen_ending N x ∷ gs) gs)
  one_told true true x xs gs e k h = h
  one_told false false x xs gs e k h = ap₂ (λ s t. s ++ t) (line_told x k) h
  one_told true false x xs gs e k h = absurd cc
  one_told false true x xs gs e k h = absurd cc

  list_told : (lives : Id → Bool) (stays : Ending → Bool) (xs : List Ending) → AllKept vm xs → ((x : Ending) → IsKept vm x → Among (seen_ending N x) (all_seen N xs) → stays x ≡ lives (gone_id (seen_ending N x)))
      → flat_map (ending_line M) (filter (λ x. not (stays x)) xs) ≡ flat_map Line (filter (goes lives) (all_seen N xs))
  list_told lives stays [] k h = refl
  list_told lives stays (x ∷ xs) k h =
      one_told (stays x) (lives (gone_id (seen_ending N x))) x (filter (λ y. not (stays y)) xs) (filter (goes lives) (all_seen N xs)) (h x k.0 (inl refl)) k.0
      (list_told lives stays xs k.1 (λ y j m. h y j (inr m)))

  pub page_told : (old new : Page) (before after : List Ending) (lives : Id → Bool) → old.vm ≡ vm → Lists old before → Lists new after
      → TellsWhatStays lives (live_of (seen_code N old.code)) (live_of (seen_code N new.code))
      → destroyed_text M before after ≡ flat_map Line (gone lives (live_of (seen_code N old.code)))
  page_told old new before after lives is h k tells =
      let l = live_of (seen_code N old.code) in let l' = live_of (seen_code N new.code) in
      list_told lives (stands_in after) before (subst (λ v. AllKept v before) is h.kept)
      (λ x j m. let g = seen_ending N x in
      ap₂ (λ q qs. has_id q qs) (sym (seen_id N vm x j)) (sym (seen_ids N new.vm after k.kept) ∙ ap (map gone_id) (k.list N))
      ∙ (sym (stays_told l' g) ∙ sym (tells_gone lives l l' tells g (subst (Among g) (h.list N) m))))
      ∙ ap (flat_map Line) (ap (filter (goes lives)) (h.list N) ∙ sym (goes_of lives l))

-- What lives by its id is kept.

is_mapped : {A B : Type 0} (f : A → B) (o : Option A) → is_some (option_map f o) ≡ is_some o
is_mapped f None = refl
is_mapped f (Some x) = refl

stamp_there : {T : Type 0} (a : Arena T) (i : Ident) → is_some (named a i) ≡ true → is_some (by_stamp a i.1) ≡ true
stamp_there a i h = at_stamp-there i.1 a.slots i.0 h

kept_there : (n : Tables) (touched : Source → Bool) (old new : Vm) (x : Ending) → IsKept old x → is_live new x ≡ true → is_some ((state_of n new touched).look (gone_id (seen_ending n x))) ≡ true
kept_there n touched old new (ending.Modifier i node name) h live =
    let o = by_stamp new.mods.table i.1 in
    is_mapped modifier_row (option_map (seen_modifier n) o) ∙ (is_mapped (seen_modifier n) o ∙ stamp_there new.mods.table i live)
kept_there n touched old new (ending.Instance o) h live =
    let j = o.value.id.1 in let x = by_stamp new.instances j in
    is_mapped instance_row (option_map (seen_instance n j) x) ∙ (is_mapped (seen_instance n j) x ∙ stamp_there new.instances o.value.id live)

none_goes : (n : Tables) (lives : Id → Bool) (old new : Vm) → ((x : Ending) → IsKept old x → is_live new x ≡ true → lives (gone_id (seen_ending n x)) ≡ true)
    → (xs : List Ending) → AllKept old xs → list_all (is_live new) xs ≡ true → filter (goes lives) (all_seen n xs) ≡ []
none_goes n lives old new there [] k h = refl
none_goes n lives old new there (x ∷ xs) k h =
    let both = and_parts (is_live new x) (list_all (is_live new) xs) h in
    let rest = filter (goes lives) (all_seen n xs) in
    ap (λ b. cond (not b) (seen_ending n x ∷ rest) rest) (there x k.0 both.0) ∙ none_goes n lives old new there xs k.1 both.1

-- Where all of it lives nothing is told,
pub none_logs : (a : App) (before : List Ending) (page : Page) → list_all (is_live page.vm) before ≡ true → Logs a before page []
none_logs a before page live old h templates touched later same =
    let n = tables_of (env_of a templates).manifest in
    let kept = keeps a templates later page in
    sym (same ∙ ap (flat_map (gone_line (env_of a templates).app (state_of n old.vm touched).look (λ k. k))) (goes_of kept (live_of (seen_code n old.code))
    ∙ (ap (filter (goes kept)) (sym (h.list n)) ∙ none_goes n kept old.vm page.vm (kept_there n later old.vm page.vm) before h.kept live)))

-- and else the lines of what doesn't stand there.
pub text_logs : (a : App) (before after : List Ending) (page : Page) → Lists page after → Logs a before page (destroyed_text (manifest_view a.manifest) before after)
text_logs a before after page k old h templates touched later same =
    page_told a templates old.vm touched old page before after (stays_on a templates page) refl h k (λ x m o. refl)
