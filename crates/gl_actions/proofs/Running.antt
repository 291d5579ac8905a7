-- Steps, actions and events.
use Rattle.std.proofs.Common.{◌≡◌, ℕ, zero, suc, ◌+◌, ◌-◌, ◌<◌, ◌≤◌, Bool, true, false, List, [], ◌∷◌, ◌++◌, map, drop, length, get_or, filter_map, Option, Some, None, option_map, unwrap_or, refl, sym, ap, ap₂, ◌∙◌, arith}
use Rattle.std.specs.Prelude.{◌&&◌, ◌==◌, if◌then◌else◌}
use Rattle.std.specs.Str.{bytes_eq}
use Rattle.std.specs.List.{position}
use Rattle.std.proofs.lemmas.List.{map-append, drop_all}
use Rattle.std.proofs.lemmas.List.Quantifiers.{position-Some}
use Rattle.gl_base.specs.Texts.{Text}
use Rattle.gl_base.specs.Names.{named, at_place}
use Rattle.gl_base.proofs.Lists.{drop_item}
use Rattle.gl_value.specs.Value as v
use Rattle.gl_value.specs.Value.{action, truthy, text_of, plain, list_of, values_of, undefined}
use Rattle.gl_value.specs.Owners.{values_with}
use Rattle.gl_value.specs.View.{view, seen_items, seen_entries}
use Rattle.gl_value.specs.declared.value.Value.{Value}
use Rattle.gl_value.proofs.Owners.{plain_leaves_owners}
use Rattle.gl_ast.specs.Template.{Expr, Exprs, exprs_of, Plain}
use Rattle.gl_ast.specs.View.{expr_view}
use Rattle.gl_meaning.specs.App.{Step, set_step, call_step, Action}
use Rattle.gl_meaning.specs.Path.{Path, V, nesting}
use Rattle.gl_meaning.specs.Scope.{Pair, of_value, Scope, scope, nothing_passed, bind}
use Rattle.gl_meaning.specs.Eval.{values_in, eval_deep, eval_all_in, class_at}
use Rattle.gl_meaning.specs.Parts.{Modifier}
use Rattle.gl_meaning.specs.Changes.{Sets}
use Rattle.gl_meaning.specs.Actions.{Calls, runs, run_step, run_steps, run, run_all, owner_nesting, no_action, listener}
use Rattle.gl_meaning.specs.View.{step_view, step_with, seen_steps}
use Rattle.gl_meaning.specs.declared.manifest.Step.{Step as CodeStep}
use Rattle.gl_meaning.specs.declared.manifest.StepKind.{StepKind}
use Rattle.gl_meaning.specs.declared.manifest.StepKind.TheVariants as kind
use Rattle.gl_meaning.proofs.Equal.{text_means}
use Rattle.gl_mods.specs.Mods as m
use Rattle.gl_actions.specs.Sets.{Set}
use Rattle.gl_actions.specs.World.{World, app_in, owner_in, value_in, class_in, field_in, set_in, sets_in, store_in, params_in, arguments_in}
use Rattle.gl_actions.specs.Frames.{Fits, this_in, scope_in, pair_in, pairs_in}
use Rattle.gl_actions.specs.LastSet.{field_names}
use Rattle.gl_actions.specs.Reads.{shown_modifier, kept_modifier}
use Rattle.gl_actions.specs.Steps.{bind_values, given_at, all_at, calls_in, runs_all}
use Rattle.gl_actions.specs.declared.frame.Frame.{Frame}
use Rattle.gl_actions.specs.declared.frame.Here.{Here}
use Rattle.gl_actions.proofs.Renamed.{plain_in, truthy_in, text_in, listed_in}
use Rattle.gl_actions.proofs.FieldLaws.{names_are}
use Rattle.gl_actions.proofs.Values.{false_true}

plain_alike : (w : World) {Q : Type 0} (x : v.Value ℕ) → plain {P = Q} (value_in w x) ≡ plain {P = Q} x
plain_alike w x = (plain_leaves_owners (owner_in w) x).0

-- Parameters

param_is : (w : World) (n : Text) (x : v.Value ℕ) → of_value (value_in w (plain x)) ≡ of_value (plain (value_in w x))
param_is w n x = ap of_value (plain_in w x ∙ sym (plain_alike w x))

pub bound_is : (w : World) (ns : List Text) (vs : List (v.Value ℕ)) → params_in w (bind_values ns vs) ≡ bind ns (map (λ x. of_value (plain x)) (map (value_in w) vs))
bound_is w [] vs = refl
bound_is w (n ∷ ns) [] = ap (λ r. (n, of_value undefined) ∷ r) (bound_is w ns [])
bound_is w (n ∷ ns) (x ∷ vs) = ap₂ (λ p r. (n, p) ∷ r) (param_is w n x) (bound_is w ns vs)

-- Expressions

module _ (w : World) (h : Here) (fits : Fits w h.frame) where
  abbrev params : List (Text × v.Value ℕ)
  params = h.params.now

  abbrev sets : List Set
  sets = h.sets.now

  pub given_is : (e : Expr) → (pair_in w h (length h.frame.class.now.getters) e).value ≡ (given_at w h.frame params sets e).value
  given_is e = ap (λ gs. (eval_deep (suc (length gs)) (app_in w) (store_in w sets) (scope_in w h.frame params) e).value) (sym fits.getters)

  pub all_are : (es : Exprs) → values_in (pairs_in w h (length h.frame.class.now.getters) es) ≡ values_in (all_at w h.frame params sets es)
  all_are es = ap (λ gs. values_in (eval_all_in (app_in w) (store_in w sets) (eval_deep (length gs) (app_in w) (store_in w sets) (scope_in w h.frame [])) (scope_in w h.frame params) es)) (sym fits.getters)

pub truth_is : (w : World) (x : v.Value ℕ) (p : Pair) → value_in w x ≡ p.value → truthy x ≡ truthy p.value
truth_is w x p e = sym (truthy_in w x) ∙ ap truthy e

-- Fields that are set

name_at : (fs : List (Text × Value)) (d : Text × Value) (q : ℕ) → q < length fs → at_place [] q (field_names fs) ≡ (get_or fs q d).0
name_at [] d q lt = absurd (omega (arith, lt))
name_at (f ∷ fs) d zero lt = refl
name_at (f ∷ fs) d (suc q) lt = name_at fs d q (omega (arith, lt))

pub field_at : (w : World) (f : Frame) → Fits w f → (fs : List (Text × Value)) → seen_entries fs ≡ f.class.now.fields → (x : Text) (q : ℕ) → position (λ e. bytes_eq x e.0) fs ≡ Some q
    → field_in w (this_in f) q ≡ x
field_at w f fits fs these x q is =
    let d : Text × Value = ([], Rattle.gl_value.specs.declared.value.Value.TheVariants.Undefined) in
    let h = position-Some (λ (e : Text × Value). bytes_eq x e.0) fs q d is in
    ap (at_place [] q) (names_are w f fits x fs these) ∙ (name_at fs d q h.0 ∙ sym (text_means x (get_or fs q d).0 h.1))

pub set_is : (w : World) (f : Frame) → Fits w f → (old : List Set) (q : ℕ) (x : Text) (y z : v.Value ℕ) (p : Pair) → field_in w (this_in f) q ≡ x → y ≡ plain z → value_in w z ≡ p.value
    → sets_in w (old ++ record { owner = f.owner.now.id; field = q; to = y } ∷ []) ≡ sets_in w old ++ record { instance = this_in f; field = x; value = plain p.value } ∷ []
set_is w f fits old q x y z p field e d =
    map-append (set_in w) old (record { owner = f.owner.now.id; field = q; to = y } ∷ [])
    ∙ (ap₂ (λ r s. sets_in w old ++ record { instance = r.0; field = r.1; value = s } ∷ [])
    (let o : owner_in w f.owner.now.id.1 ≡ this_in f = fits.instance.owner in ap₂ (λ (a : Path) (b : Text). let r : Path × Text = (a, b) in r) o (ap (λ a. field_in w a q) o ∙ field))
    (ap (value_in w) e ∙ (plain_in w z ∙ (sym (plain_alike w z) ∙ ap plain d))))

-- Steps

module _ (w : World) (calls : Calls) (s : Scope) where
  abbrev one : Step → Sets → Sets
  one x sofar = run_step (app_in w) w.store calls s x sofar

  pub step_skipped : (when : Option Expr) (k : StepKind) (sofar : Sets) → false ≡ runs (app_in w) w.store calls s when sofar → sofar ≡ one (step_with when k) sofar
  step_skipped when (kind.Set f e) sofar out = ap (λ b. if b then one (set_step None f (expr_view e)) sofar else sofar) out
  step_skipped when (kind.Call n ks es) sofar out = ap (λ b. if b then one (call_step None n ks (exprs_of es)) sofar else sofar) out

  pub step_set : (when : Option Expr) (f : Text) (e : Expr) (sofar all : Sets) → true ≡ runs (app_in w) w.store calls s when sofar
      → all ≡ one (set_step None f e) sofar → all ≡ one (set_step when f e) sofar
  step_set when f e sofar all goes is = is ∙ ap (λ b. if b then one (set_step None f e) sofar else sofar) goes

  pub step_call : (when : Option Expr) (n : Text) (ks : List Text) (es : Exprs) (sofar all : Sets) → true ≡ runs (app_in w) w.store calls s when sofar
      → all ≡ one (call_step None n ks es) sofar → all ≡ one (call_step when n ks es) sofar
  step_call when n ks es sofar all goes is = is ∙ ap (λ b. if b then one (call_step None n ks es) sofar else sofar) goes

  pub steps_on : (xs : List CodeStep) (i : ℕ) (x : CodeStep) (sofar more all : Sets) → i < length xs → x ≡ get_or xs i x → more ≡ one (step_view x) sofar
      → run_steps (app_in w) w.store calls s (seen_steps (drop i xs)) sofar ≡ all → run_steps (app_in w) w.store calls s (seen_steps (drop (i + 1) xs)) more ≡ all
  steps_on xs i x sofar more all lt is e so =
      ap (run_steps (app_in w) w.store calls s (seen_steps (drop (i + 1) xs))) e
      ∙ (ap (λ ys. run_steps (app_in w) w.store calls s (seen_steps ys) sofar) (sym (drop_item xs i x lt is)) ∙ so)

  pub steps_end : (xs : List CodeStep) (i : ℕ) (sofar all : Sets) → length xs ≤ i → run_steps (app_in w) w.store calls s (seen_steps (drop i xs)) sofar ≡ all → sofar ≡ all
  steps_end xs i sofar all le so = ap (λ ys. run_steps (app_in w) w.store calls s (seen_steps ys) sofar) (sym (drop_all i xs le)) ∙ so

-- Actions

abbrev act_in : World → ℕ → Text → List (v.Value ℕ) → V
act_in w k n fixed = value_in w (action k n (values_of fixed))

pub none_left : (w : World) (l : ℕ) (x : V) (given : List V) (sofar : Sets) → l ≡ 0 → sofar ≡ calls_in w l x given sofar
none_left w l x given sofar e = ap (λ j. calls_in w j x given sofar) (sym e)

owner_of : (w : World) (f : Frame) → Fits w f → (k : ℕ) → f.number ≡ k → owner_in w k ≡ this_in f
owner_of w f fits k is = ap (owner_in w) (sym is ∙ fits.number) ∙ fits.instance.owner

list_back : (vs : List (v.Value ℕ)) → list_of (values_of vs) ≡ vs
list_back [] = refl
list_back (x ∷ vs) = ap (λ r. x ∷ r) (list_back vs)

fixed_in : (w : World) (fixed : List (v.Value ℕ)) → list_of (values_with (owner_in w) (values_of fixed)) ≡ map (value_in w) fixed
fixed_in w fixed = listed_in w (values_of fixed) ∙ ap (map (value_in w)) (list_back fixed)

-- what an action runs: its steps, with the fixed arguments and those that it is given
module _ (w : World) (f : Frame) (fits : Fits w f) (k : ℕ) (is : f.number ≡ k) (n : Text) where
  found : named n (class_at (app_in w) (owner_in w k)).actions ≡ named n f.class.now.actions
  found = ap (λ p. named n (class_in w p).actions) (owner_of w f fits k is) ∙ ap (named n) fits.actions

  pub act_none : (l : ℕ) (fixed : List (v.Value ℕ)) (given : List V) (sofar : Sets) → None ≡ named n f.class.now.actions → sofar ≡ calls_in w l (act_in w k n fixed) given sofar
  act_none zero fixed given sofar un = refl
  act_none (suc l) fixed given sofar un =
      sym (ap (λ (o : Option Action).
      let a = unwrap_or o no_action in
      run_steps (app_in w) w.store (calls_in w l)
      (scope (owner_in w k) (arguments_in w (owner_in w k)) (bind a.params (map (λ x. of_value (plain x)) (list_of (values_with (owner_in w) (values_of fixed)) ++ given))) nothing_passed)
      a.steps sofar)
      (found ∙ sym un))

  pub act_some : (l : ℕ) (a : Action) (fixed given : List (v.Value ℕ)) (all : List (v.Value ℕ)) (ps : List (Text × v.Value ℕ)) (sofar more : Sets) → 0 < l → Some a ≡ named n f.class.now.actions
      → all ≡ fixed ++ given → ps ≡ bind_values a.params all → more ≡ run_steps (app_in w) w.store (calls_in w (l - 1)) (scope_in w f ps) a.steps sofar
      → more ≡ calls_in w l (act_in w k n fixed) (map (value_in w) given) sofar
  act_some zero a fixed given all ps sofar more lt is join bound so = absurd (omega (arith, lt))
  act_some (suc l) a fixed given all ps sofar more lt here join bound so =
      let o = owner_of w f fits k is in
      let ws : map (value_in w) all ≡ list_of (values_with (owner_in w) (values_of fixed)) ++ map (value_in w) given = ap (map (value_in w)) join ∙ (map-append (value_in w) fixed given ∙ ap (λ r. r ++ map (value_in w) given) (sym (fixed_in w fixed))) in
      let params_are : params_in w ps ≡ bind a.params (map (λ x. of_value (plain x)) (list_of (values_with (owner_in w) (values_of fixed)) ++ map (value_in w) given)) =
      ap (params_in w) bound ∙ (bound_is w a.params all ∙ ap (λ r. bind a.params (map (λ x. of_value (plain x)) r)) ws) in
      let one : suc l - 1 ≡ l = omega arith in
      so
      ∙ (ap (λ j. run_steps (app_in w) w.store (calls_in w j) (scope_in w f ps) a.steps sofar) one
      ∙ (ap (λ r. run_steps (app_in w) w.store (calls_in w l) (scope (this_in f) (arguments_in w (this_in f)) r nothing_passed) a.steps sofar) params_are
      ∙ (ap (λ p. run_steps (app_in w) w.store (calls_in w l) (scope p (arguments_in w p) (bind a.params (map (λ x. of_value (plain x)) (list_of (values_with (owner_in w) (values_of fixed)) ++ map (value_in w) given))) nothing_passed) a.steps sofar) (sym o)
      ∙ ap (λ (q : Option Action).
      let b = unwrap_or q no_action in
      run_steps (app_in w) w.store (calls_in w l)
      (scope (owner_in w k) (arguments_in w (owner_in w k)) (bind b.params (map (λ x. of_value (plain x)) (list_of (values_with (owner_in w) (values_of fixed)) ++ map (value_in w) given))) nothing_passed)
      b.steps sofar)
      (here ∙ sym found))))

-- What is no action does nothing.
abbrev pub is_act : v.Value ℕ → Bool
is_act (action o n vs) = true
is_act _ = false

pub not_act : (w : World) (l : ℕ) (x : v.Value ℕ) (given : List V) (sofar : Sets) → is_act x ≡ false → sofar ≡ calls_in w l (value_in w x) given sofar
not_act w zero x given sofar un = refl
not_act w (suc l) v.undefined given sofar un = refl
not_act w (suc l) v.null given sofar un = refl
not_act w (suc l) (v.boolean b) given sofar un = refl
not_act w (suc l) (v.integer i) given sofar un = refl
not_act w (suc l) (v.text s) given sofar un = refl
not_act w (suc l) (v.list vs) given sofar un = refl
not_act w (suc l) (v.pairs ms) given sofar un = refl
not_act w (suc l) (v.action o n vs) given sofar un = false_true (sym un)

pub run_none : (w : World) (x : v.Value ℕ) (given : List V) (sofar : Sets) → is_act x ≡ false → sofar ≡ run (app_in w) w.store w.forest (value_in w x) given sofar
run_none w x given sofar un = not_act w (owner_nesting (value_in w x)) x given sofar un

pub run_act : (w : World) (f : Frame) → Fits w f → (k : ℕ) → f.number ≡ k → (n : Text) (fixed : List (v.Value ℕ)) (l : ℕ) (given : List V) (sofar more : Sets) → l ≡ nesting (this_in f)
    → more ≡ calls_in w l (act_in w k n fixed) given sofar → more ≡ run (app_in w) w.store w.forest (act_in w k n fixed) given sofar
run_act w f fits k is n fixed l given sofar more deep so =
    so ∙ ap (λ j. calls_in w j (act_in w k n fixed) given sofar) (deep ∙ ap nesting (sym (owner_of w f fits k is)))

-- the list of one value that an event calls with
pub paid : (w : World) (payload copy : Value) → copy ≡ payload → (before after : List Value) → before ≡ [] → after ≡ before ++ copy ∷ []
    → map (value_in w) (seen_items after) ≡ value_in w (view payload) ∷ []
paid w payload copy same before after none is =
    ap (λ xs. map (value_in w) (seen_items xs)) (is ∙ ap₂ (λ (xs : List Value) (x : Value). xs ++ x ∷ []) none same)

-- Events

pub runs_on : (w : World) (xs : List Value) (i : ℕ) (x : Value) (payload : V) (sofar more all : Sets) → i < length xs → x ≡ get_or xs i x
    → more ≡ run (app_in w) w.store w.forest (value_in w (view x)) (payload ∷ []) sofar
    → runs_all w (map (value_in w) (seen_items (drop i xs))) payload sofar ≡ all → runs_all w (map (value_in w) (seen_items (drop (i + 1) xs))) payload more ≡ all
runs_on w xs i x payload sofar more all lt is e so =
    ap (runs_all w (map (value_in w) (seen_items (drop (i + 1) xs))) payload) e
    ∙ (ap (λ ys. runs_all w (map (value_in w) (seen_items ys)) payload sofar) (sym (drop_item xs i x lt is)) ∙ so)

pub runs_end : (w : World) (xs : List Value) (i : ℕ) (payload : V) (sofar all : Sets) → length xs ≤ i → runs_all w (map (value_in w) (seen_items (drop i xs))) payload sofar ≡ all → sofar ≡ all
runs_end w xs i payload sofar all le so = ap (λ ys. runs_all w (map (value_in w) (seen_items ys)) payload sofar) (sym (drop_all i xs le)) ∙ so

runs_are : (w : World) (vs : List V) (payload : Plain) (p : V) (sofar : Sets) → p ≡ plain payload → runs_all w vs p sofar ≡ run_all (app_in w) w.store w.forest vs payload sofar
runs_are w [] payload p sofar e = refl
runs_are w (x ∷ vs) payload p sofar e =
    ap (λ q. runs_all w vs p (run (app_in w) w.store w.forest x (q ∷ []) sofar)) e ∙ runs_are w vs payload p (run (app_in w) w.store w.forest x (plain payload ∷ []) sofar) e

mutual
  pub twice_plain : (x : v.Value ℕ) → plain {P = Path} (let y : Plain = plain x in y) ≡ plain x
  twice_plain v.undefined = refl
  twice_plain v.null = refl
  twice_plain (v.boolean b) = refl
  twice_plain (v.integer i) = refl
  twice_plain (v.text s) = refl
  twice_plain (v.list vs) = ap v.list (twice_values vs)
  twice_plain (v.pairs ms) = ap v.pairs (twice_members ms)
  twice_plain (v.action o n vs) = refl

  twice_values : (vs : v.Values ℕ) → v.plain_values {P = Path} (let y : v.Values ⊥ = v.plain_values vs in y) ≡ v.plain_values vs
  twice_values v.no_values = refl
  twice_values (v.value x vs) = ap₂ v.value (twice_plain x) (twice_values vs)

  twice_members : (ms : v.Members ℕ) → v.plain_members {P = Path} (let y : v.Members ⊥ = v.plain_members ms in y) ≡ v.plain_members ms
  twice_members v.no_members = refl
  twice_members (v.member k x ms) = ap₂ (v.member k) (twice_plain x) (twice_members ms)

place_maps : (w : World) (i : ℕ) (vs : List (v.Value ℕ)) → at_place undefined i (map (value_in w) vs) ≡ value_in w (at_place undefined i vs)
place_maps w i [] = refl
place_maps w zero (x ∷ vs) = refl
place_maps w (suc i) (x ∷ vs) = place_maps w i vs

-- what listens, by what is kept of a modifier
abbrev heard : Text → Bool × List V → Option V
heard event x = if x.0 && bytes_eq (text_of (at_place undefined 0 x.1)) event then Some (at_place undefined 1 x.1) else None

heard_kept : (w : World) (event : Text) (x : m.Installed) → heard event (kept_modifier w x) ≡ option_map (value_in w) (m.listener event x)
heard_kept w event x =
    ap₂ (λ (a : Text) (b : V). if (x.name == m.on_number) && bytes_eq a event then Some b else None) (ap text_of (place_maps w 0 x.args) ∙ text_in w (m.argument 0 x)) (place_maps w 1 x.args)
    ∙ by ((x.name == m.on_number) && bytes_eq (text_of (m.argument 0 x)) event) where
      by : (b : Bool) → (if b then Some (value_in w (m.argument 1 x)) else None) ≡ option_map (value_in w) (if b then Some (m.argument 1 x) else None)
      by true = refl
      by false = refl

abbrev kept : {A : Type 0} → Option A → List A → List A
kept (Some y) ys = y ∷ ys
kept None ys = ys

filter_step : {A B : Type 0} (f : A → Option B) (x : A) (xs : List A) → filter_map f (x ∷ xs) ≡ kept (f x) (filter_map f xs)
filter_step f x xs = by (f x) refl where
  by : (o : Option _) → f x ≡ o → filter_map f (x ∷ xs) ≡ kept o (filter_map f xs)
  by None e = rw e refl
  by (Some y) e = rw e refl

kept_maps : {A B : Type 0} (g : A → B) (o : Option A) (xs : List A) → map g (kept o xs) ≡ kept (option_map g o) (map g xs)
kept_maps g None xs = refl
kept_maps g (Some x) xs = refl

kept_heard : (w : World) (event : Text) (xs : List m.Installed) → map (value_in w) (m.listeners event xs) ≡ filter_map (heard event) (map (kept_modifier w) xs)
kept_heard w event [] = refl
kept_heard w event (x ∷ xs) =
    ap (map (value_in w)) (filter_step (m.listener event) x xs)
    ∙ (kept_maps (value_in w) (m.listener event x) (m.listeners event xs)
    ∙ (ap₂ kept (sym (heard_kept w event x)) (kept_heard w event xs)
    ∙ sym (filter_step (heard event) (kept_modifier w x) (map (kept_modifier w) xs))))

shown_heard : (event : Text) (ys : List Modifier) → filter_map (listener event) ys ≡ filter_map (heard event) (map shown_modifier ys)
shown_heard event [] = refl
shown_heard event (y ∷ ys) =
    filter_step (listener event) y ys ∙ (ap (kept (listener event y)) (shown_heard event ys) ∙ sym (filter_step (heard event) (shown_modifier y) (map shown_modifier ys)))

pub listeners_are : (w : World) (event : Text) (xs : List m.Installed) (ys : List Modifier) → map (kept_modifier w) xs ≡ map shown_modifier ys → map (value_in w) (m.listeners event xs) ≡ filter_map (listener event) ys
listeners_are w event xs ys e = kept_heard w event xs ∙ (ap (filter_map (heard event)) e ∙ sym (shown_heard event ys))

-- all that an event runs
pub fired_is : (w : World) (event : Text) (xs : List m.Installed) (ys : List Modifier) (payload plainly : v.Value ℕ) (sofar more : Sets) → map (kept_modifier w) xs ≡ map shown_modifier ys → plainly ≡ plain payload
    → more ≡ runs_all w (map (value_in w) (m.listeners event xs)) (value_in w plainly) sofar
    → more ≡ run_all (app_in w) w.store w.forest (filter_map (listener event) ys) (plain payload) sofar
fired_is w event xs ys payload plainly sofar more same e so =
    so
    ∙ (ap (λ vs. runs_all w vs (value_in w plainly) sofar) (listeners_are w event xs ys same)
    ∙ runs_are w (filter_map (listener event) ys) (plain payload) (value_in w plainly) sofar (ap (value_in w) e ∙ (plain_in w payload ∙ sym (twice_plain payload))))
