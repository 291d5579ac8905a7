-- Which names are unknown: the order in which loading looks for them, and that templates play no part in it.
use Rattle.std.proofs.Common.{◌≡◌, List, [], ◌∷◌, ◌++◌, Bool, true, false, ◌||◌, if◌then◌else◌, Option, Some, None, Result, Ok, Err, map, is_some, refl, sym, ap, ap₂, ◌∙◌}
use Rattle.std.specs.Prelude.{⊤, flat_map, IfOk}
use Rattle.std.specs.Str.{bytes_eq}
use Rattle.gl_base.specs.Texts.{Text}
use Rattle.gl_ast.specs.Template.{Expr, Exprs, no_exprs, expr, Stmt, text_stmt, comment_stmt, put, element, component_stmt, if_stmt, each, let_stmt, yield, Body, end, stmt, Slots, no_slots, block}
use Rattle.gl_meaning.specs.App.{Step, set_step, call_step, Action}
use Rattle.gl_meaning.specs.Known.{Unknown, Place, component_kind, unless_known, has_class, expr_unknowns, exprs_unknowns, value_unknowns, part_unknowns, stmt_unknowns, body_unknowns, slots_unknowns, when_unknowns, step_unknowns, manifest_unknowns, in_manifest, in_template, class_unknowns, first_of, first_unknown, Known}
use Rattle.gl_meaning.specs.Manifest.{ClassEntry, Manifest, app_of, class_of, classes_of}
use Rattle.gl_load.specs.Load.{all_known, class_named}
use Rattle.gl_load.specs.Names.{known, each_known, expr_known, exprs_known, when_known, step_known, action_known, entry_known, class_known, classes_known, names_known, KnowsIn}
use Rattle.gl_load.specs.Refusal.{Cause, ◌>>=◌, in_file}
use Rattle.gl_load.specs.declared.fault.LoadFault.{LoadFault}

-- The list of unknown names, read in turn

known-append : (us vs : List Unknown) → known (us ++ vs) ≡ (known us >>= λ u. known vs)
known-append [] vs = refl
known-append (u ∷ us) vs = refl

known-flat_map : {A : Type 0} (f : A → List Unknown) (g : A → Result ⊤ Cause) → ((x : A) → known (f x) ≡ g x) → (xs : List A) → known (flat_map f xs) ≡ each_known g xs
known-flat_map f g same [] = refl
known-flat_map f g same (x ∷ xs) = known-append (f x) (flat_map f xs) ∙ ap₂ (λ r s. r >>= λ u. s) (same x) (known-flat_map f g same xs)

module _ (m : Manifest) (c : ClassEntry) where
  known-exprs : (params : List Text) (es : Exprs) → known (exprs_unknowns (app_of m []) (class_of c end) false params es) ≡ exprs_known m c params es
  known-exprs params no_exprs = refl
  known-exprs params (expr e es) = known-append _ _ ∙ ap (λ r. expr_known m c params e >>= λ u. r) (known-exprs params es)

  known-when : (params : List Text) (w : Option Expr) → known (when_unknowns (app_of m []) (class_of c end) params w) ≡ when_known m c params w
  known-when params None = refl
  known-when params (Some e) = refl

  known-step : (params : List Text) (s : Step) → known (step_unknowns (app_of m []) (class_of c end) params s) ≡ step_known m c params s
  known-step params (set_step w f e) =
      known-append (when_unknowns (app_of m []) (class_of c end) params w) _
      ∙ ap₂ (λ r s. r >>= λ u. s) (known-when params w) (known-append _ _)
  known-step params (call_step w n ks es) =
      known-append (when_unknowns (app_of m []) (class_of c end) params w) _
      ∙ ap₂ (λ r s. r >>= λ u. s) (known-when params w) (known-exprs params es)

  known-action : (a : Text × Action) → known (flat_map (step_unknowns (app_of m []) (class_of c end) a.1.params) a.1.steps) ≡ action_known m c a
  known-action a = known-flat_map _ _ (known-step a.1.params) a.1.steps

  known-entry : known (manifest_unknowns (app_of m []) (class_of c end)) ≡ entry_known m c
  known-entry =
      known-append _ _
      ∙ ap₂ (λ r s. r >>= λ u. s) (known-flat_map _ _ (λ g. refl) c.getters) (known-flat_map _ _ known-action c.actions)

-- Templates

same_classes : (n : Text) (cs : List ClassEntry) (bs : List Body) → has_class n (classes_of cs bs) ≡ has_class n (classes_of cs [])
same_classes n [] bs = refl
same_classes n (c ∷ cs) [] = refl
same_classes n (c ∷ cs) (b ∷ bs) = ap (λ k. bytes_eq n c.name || k) (same_classes n cs bs)

module _ (m : Manifest) (bs : List Body) (c : ClassEntry) (b : Body) where
  mutual
    stmt_same : (params : List Text) (s : Stmt) → stmt_unknowns (app_of m bs) (class_of c b) params s ≡ stmt_unknowns (app_of m []) (class_of c end) params s
    stmt_same params (text_stmt t) = refl
    stmt_same params (comment_stmt t) = refl
    stmt_same params (put e) = refl
    stmt_same params (element tag ps d) = ap (λ us. flat_map (part_unknowns (app_of m []) (class_of c end) params) ps ++ us) (body_same params d)
    stmt_same params (component_stmt n ps given ss) =
        ap₂ (λ k us. unless_known k component_kind n ++ (flat_map (λ g. value_unknowns (app_of m []) (class_of c end) params g.1) given ++ (flat_map (part_unknowns (app_of m []) (class_of c end) params) ps ++ us)))
        (same_classes n m.classes bs) (slots_same params ss)
    stmt_same params (if_stmt e u d o) = ap₂ (λ us vs. expr_unknowns (app_of m []) (class_of c end) false params e ++ (us ++ vs)) (body_same params d) (body_same params o)
    stmt_same params (each e k ns d o) = ap₂ (λ us vs. expr_unknowns (app_of m []) (class_of c end) false params e ++ (us ++ vs)) (body_same (params ++ ns) d) (body_same params o)
    stmt_same params (let_stmt es ns d) = ap (λ us. exprs_unknowns (app_of m []) (class_of c end) false params es ++ us) (body_same (params ++ ns) d)
    stmt_same params (yield es n) = refl

    body_same : (params : List Text) (d : Body) → body_unknowns (app_of m bs) (class_of c b) params d ≡ body_unknowns (app_of m []) (class_of c end) params d
    body_same params end = refl
    body_same params (stmt s d) = ap₂ (λ us vs. us ++ vs) (stmt_same params s) (body_same params d)

    slots_same : (params : List Text) (ss : Slots) → slots_unknowns (app_of m bs) (class_of c b) params ss ≡ slots_unknowns (app_of m []) (class_of c end) params ss
    slots_same params no_slots = refl
    slots_same params (block n ns d ss) = ap₂ (λ us vs. us ++ vs) (body_same (params ++ ns) d) (slots_same params ss)

  entry_same : manifest_unknowns (app_of m bs) (class_of c b) ≡ manifest_unknowns (app_of m []) (class_of c end)
  entry_same = refl

-- Places

all_known-append : (name : Text) (ps qs : List Place) → all_known name (first_of (ps ++ qs)) ≡ (all_known name (first_of ps) >>= λ u. all_known name (first_of qs))
all_known-append name [] qs = refl
all_known-append name (p ∷ ps) qs = refl

in_manifest_known : (name : Text) (us : List Unknown) → all_known name (first_of (map in_manifest us)) ≡ in_file name (known us)
in_manifest_known name [] = refl
in_manifest_known name (u ∷ us) = refl

in_template_known : (name file : Text) (us : List Unknown) → all_known name (first_of (map (in_template file) us)) ≡ in_file file (known us)
in_template_known name file [] = refl
in_template_known name file (u ∷ us) = refl

class_told : (name : Text) (m : Manifest) (all : List Body) (c : ClassEntry) (b : Body) → all_known name (first_of (class_unknowns (app_of m all) (class_of c b))) ≡ class_known m c name b
class_told name m all c b =
    all_known-append name _ _
    ∙ ap₂ (λ r s. r >>= λ u. s)
    (in_template_known name c.file _ ∙ ap (λ us. in_file c.file (known us)) (body_same m all c b [] b))
    (in_manifest_known name _ ∙ ap (λ r. in_file name r) (ap known (entry_same m all c b) ∙ known-entry m c))

classes_told : (name : Text) (m : Manifest) (all : List Body) (cs : List ClassEntry) (bs : List Body) → all_known name (first_of (flat_map (class_unknowns (app_of m all)) (classes_of cs bs))) ≡ classes_known name m cs bs
classes_told name m all [] bs = refl
classes_told name m all (c ∷ cs) [] =
    all_known-append name (class_unknowns (app_of m all) (class_of c end)) _
    ∙ ap₂ (λ r s. r >>= λ u. s) (class_told name m all c end) (classes_told name m all cs [])
classes_told name m all (c ∷ cs) (b ∷ bs) =
    all_known-append name (class_unknowns (app_of m all) (class_of c b)) _
    ∙ ap₂ (λ r s. r >>= λ u. s) (class_told name m all c b) (classes_told name m all cs bs)

one_of : {A : Type 0} (b t : Bool) (x : A) (o : Option A) → t ≡ is_some o → (b || t) ≡ is_some (if b then Some x else o)
one_of true t x o e = refl
one_of false t x o e = e

pub named_class : (n : Text) (cs : List ClassEntry) (bs : List Body) → has_class n (classes_of cs bs) ≡ is_some (class_named n cs)
named_class n [] bs = refl
named_class n (c ∷ cs) [] = one_of (bytes_eq n c.name) _ c (class_named n cs) (named_class n cs [])
named_class n (c ∷ cs) (b ∷ bs) = one_of (bytes_eq n c.name) _ c (class_named n cs) (named_class n cs bs)

-- the first unknown name of an application, as it is looked for
pub first_told : (name : Text) (m : Manifest) (trees : List Body) → all_known name (first_unknown (app_of m trees)) ≡ names_known name m trees
first_told name m trees =
    all_known-append name _ _
    ∙ ap₂ (λ r s. r >>= λ u. s)
    (in_manifest_known name _ ∙ ap (λ k. in_file name (known (unless_known k component_kind m.root))) (named_class m.root m.classes trees))
    (classes_told name m trees m.classes trees)

pub none_unknown : (name : Text) (ps : List Place) → all_known name (first_of ps) ≡ Ok tt → ps ≡ []
none_unknown name [] e = refl
none_unknown name (p ∷ ps) e = let r : ⊥ = cc in absurd r

-- where a call found none, there is none
pub known_if : {X : Type 0} (name : Text) (ps : List Place) (r : Result X LoadFault) → KnowsIn r (all_known name (first_of ps)) → IfOk r (λ x. ps ≡ [])
known_if name ps (Ok x) h = none_unknown name ps h
known_if name ps (Err f) h = tt

-- the root of an application whose names are known is a class
pub root_there : (m : Manifest) (trees : List Body) → Known (app_of m trees) → class_named m.root m.classes ≡ None → ⊥
root_there m trees h none =
    let told = sym (ap (λ ps. all_known [] (first_of ps)) h) ∙ first_told [] m trees in
    let never = rw none at told in
    cc
