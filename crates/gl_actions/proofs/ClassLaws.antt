-- The class of an instance, and how deep it stands.
use Rattle.std.proofs.Common.{◌≡◌, ℕ, ◌+◌, Bool, true, false, List, [], ◌∷◌, ◌++◌, drop, length, Option, Some, refl, sym, ap, ap₂, subst, ◌∙◌, arith, ◌<◌, ◌≤◌, get_or}
use Rattle.std.specs.Prelude.{if◌then◌else◌, reverse}
use mathlib.Core.List.{reverse_aux}
use Rattle.std.specs.Str.{bytes_eq}
use Rattle.std.proofs.lemmas.List.{map-append, reverse-append, drop_all}
use Rattle.gl_base.specs.Texts.{Text}
use Rattle.gl_base.proofs.Lists.{drop_item}
use Rattle.gl_ast.specs.Template.{Body}
use Rattle.gl_meaning.specs.App.{Class}
use Rattle.gl_meaning.specs.Manifest.{Manifest, ClassEntry, class_of, classes_of}
use Rattle.gl_meaning.specs.Eval.{class_named}
use Rattle.gl_meaning.specs.Path.{PathStep, at, main, otherwise, items, item, into, slot, empty, attribute_at, modifier_at, Path, nesting}
use Rattle.gl_meaning.specs.View.{path_step_view, seen_path_steps}
use Rattle.gl_meaning.specs.declared.path.PathStep.{PathStep as CodeStep}
use Rattle.gl_actions.specs.World.{World, class_in}
use Rattle.gl_actions.specs.Classes.{entry_named, IsClassOf, weight, intos}
use Rattle.gl_actions.proofs.Values.{some_same, no_some}

-- the members that a manifest says of a class
pub record Same (x : Class) (e : ClassEntry) : Type 0 where
  pub fields : x.fields ≡ e.fields
  pub getters : x.getters ≡ e.getters
  pub actions : x.actions ≡ e.actions

one_class : (b : Bool) (c e : ClassEntry) (t : Body) (found : Option ClassEntry) (rest : Class) → (if b then Some c else found) ≡ Some e → (found ≡ Some e → Same rest e)
    → Same (if b then class_of c t else rest) e
one_class true c e t found rest h r = subst (λ x. Same (class_of c t) x) (some_same h) (record { fields = refl; getters = refl; actions = refl })
one_class false c e t found rest h r = r h

found_same : (n : Text) (cs : List ClassEntry) (ts : List Body) (e : ClassEntry) → entry_named n cs ≡ Some e → Same (class_named n (classes_of cs ts)) e
found_same n [] ts e h = absurd (no_some h)
found_same n (c ∷ cs) [] e h = one_class (bytes_eq n c.name) c e Rattle.gl_ast.specs.Template.end (entry_named n cs) (class_named n (classes_of cs [])) h (found_same n cs [] e)
found_same n (c ∷ cs) (t ∷ ts) e h = one_class (bytes_eq n c.name) c e t (entry_named n cs) (class_named n (classes_of cs ts)) h (found_same n cs ts e)

pub class_same : (w : World) (m : Manifest) (p : Path) (e : ClassEntry) → w.manifest ≡ m → IsClassOf m p e → Same (class_in w p) e
class_same w m [] e same is =
    let name : m.root ≡ is.name = some_same is.names in
    found_same w.manifest.root w.manifest.classes w.templates e
    (ap₂ (λ n cs. entry_named n cs) (ap (λ (x : Manifest). x.root) same ∙ name) (ap (λ (x : Manifest). x.classes) same) ∙ is.is)
class_same w m (into c ∷ p) e same is =
    let name : c ≡ is.name = some_same is.names in
    found_same c w.manifest.classes w.templates e
    (ap₂ (λ n cs. entry_named n cs) name (ap (λ (x : Manifest). x.classes) same) ∙ is.is)
class_same w m (at i ∷ p) e same is = absurd (no_some is.names)
class_same w m (main ∷ p) e same is = absurd (no_some is.names)
class_same w m (otherwise ∷ p) e same is = absurd (no_some is.names)
class_same w m (items ∷ p) e same is = absurd (no_some is.names)
class_same w m (item k i ∷ p) e same is = absurd (no_some is.names)
class_same w m (slot n ∷ p) e same is = absurd (no_some is.names)
class_same w m (empty ∷ p) e same is = absurd (no_some is.names)
class_same w m (attribute_at n ∷ p) e same is = absurd (no_some is.names)
class_same w m (modifier_at i ∷ p) e same is = absurd (no_some is.names)

-- the last step of a path as the code has it is the innermost
pub last_step : (steps : List PathStep) (xs rest : List CodeStep) (x : CodeStep) → seen_path_steps xs ≡ steps → xs ≡ rest ++ x ∷ [] → reverse steps ≡ path_step_view x ∷ reverse (seen_path_steps rest)
last_step steps xs rest x seen e =
    ap reverse (sym seen ∙ (ap seen_path_steps e ∙ map-append path_step_view rest (x ∷ []))) ∙ reverse-append (seen_path_steps rest) (path_step_view x ∷ [])

pub no_step : (steps : List PathStep) (xs : List CodeStep) → seen_path_steps xs ≡ steps → xs ≡ [] → reverse steps ≡ []
no_step steps xs seen e = ap reverse (sym seen ∙ ap seen_path_steps e)

-- How deep it stands

nesting_is : (p : Path) → nesting p ≡ 1 + intos p
nesting_is [] = refl
nesting_is (into c ∷ p) = let e = nesting_is p in omega (arith, e)
nesting_is (at i ∷ p) = let e = nesting_is p in omega (arith, e)
nesting_is (main ∷ p) = let e = nesting_is p in omega (arith, e)
nesting_is (otherwise ∷ p) = let e = nesting_is p in omega (arith, e)
nesting_is (items ∷ p) = let e = nesting_is p in omega (arith, e)
nesting_is (item k i ∷ p) = let e = nesting_is p in omega (arith, e)
nesting_is (slot n ∷ p) = let e = nesting_is p in omega (arith, e)
nesting_is (empty ∷ p) = let e = nesting_is p in omega (arith, e)
nesting_is (attribute_at n ∷ p) = let e = nesting_is p in omega (arith, e)
nesting_is (modifier_at i ∷ p) = let e = nesting_is p in omega (arith, e)

intos_aux : (xs ys : List PathStep) → intos (reverse_aux xs ys) ≡ intos xs + intos ys
intos_aux [] ys = omega arith
intos_aux (x ∷ xs) ys = let e = intos_aux xs (x ∷ ys) in omega (arith, e)

pub depth_is : (steps : List PathStep) → 1 + intos steps ≡ nesting (reverse steps)
depth_is steps = let e = intos_aux steps [] in let d = nesting_is (reverse steps) in omega (arith, e, d)

-- one step of the way
pub depth_on : (xs : List CodeStep) (i : ℕ) (x : CodeStep) (count all : ℕ) → i < length xs → x ≡ get_or xs i x → count + intos (seen_path_steps (drop i xs)) ≡ all
    → (count + weight (path_step_view x)) + intos (seen_path_steps (drop (i + 1) xs)) ≡ all
depth_on xs i x count all lt is so =
    let e : intos (seen_path_steps (drop i xs)) ≡ weight (path_step_view x) + intos (seen_path_steps (drop (i + 1) xs)) = ap (λ ys. intos (seen_path_steps ys)) (drop_item xs i x lt is) in
    omega (arith, e, so)

pub depth_end : (steps : List PathStep) (xs : List CodeStep) (i count : ℕ) → seen_path_steps xs ≡ steps → length xs ≤ i → count + intos (seen_path_steps (drop i xs)) ≡ 1 + intos (seen_path_steps xs)
    → count ≡ nesting (reverse steps)
depth_end steps xs i count seen le so =
    let e : intos (seen_path_steps (drop i xs)) ≡ 0 = ap (λ ys. intos (seen_path_steps ys)) (drop_all i xs le) in
    let s : intos (seen_path_steps xs) ≡ intos steps = ap intos seen in
    let d = depth_is steps in
    omega (arith, e, so, s, d)
