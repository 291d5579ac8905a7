-- How the logic tells two steps, actions and classes apart: each is several fields.
use Rattle.std.specs.Prelude.{◌≡◌, ◌⊎◌, List, Option, Bool, refl}
use Rattle.std.proofs.Common.{inl, inr}
use Rattle.std.specs.Coded.{Coded, code_by, coded×, coded⊎, coded_bool, coded_list, coded_option}
use Rattle.gl_base.specs.Texts.{Text}
use Rattle.gl_ast.specs.Template.{Plain, Expr, cat}
use Rattle.gl_ast.specs.ExprCode.{plain_code, expr_code}
use Rattle.gl_ast.specs.PartCode.{text_code}
use Rattle.gl_ast.specs.StmtCode.{exprs_in}
use Rattle.gl_meaning.specs.App.{Step, set_step, call_step, Action}
use Rattle.gl_meaning.specs.Manifest.{ClassEntry}

-- a field with the value that it is set to, or a path of names with the cat of what it is called with
abbrev pub Doing : Type 0
Doing = (Text × Expr) ⊎ ((Text × List Text) × Expr)

abbrev pub step_split : Step → Option Expr × Doing
step_split (set_step w f e) = (w, inl (f, e))
step_split (call_step w n ks es) = (w, inr ((n, ks), cat es))

abbrev pub step_with : Option Expr → Doing → Step
step_with w (inl p) = set_step w p.0 p.1
step_with w (inr p) = call_step w p.0.0 p.0.1 (exprs_in p.1)

pub step_with-split : (s : Step) → step_with (step_split s).0 (step_split s).1 ≡ s
step_with-split (set_step w f e) = refl
step_with-split (call_step w n ks es) = refl

abbrev pub texts_code : Coded (List Text)
texts_code = coded_list text_code

abbrev pub step_code : Coded Step
step_code = code_by (Option Expr × Doing) (coded× (coded_option expr_code) (coded⊎ (coded× text_code expr_code) (coded× (coded× text_code texts_code) expr_code))) step_split (λ p. step_with p.0 p.1) step_with-split

abbrev pub action_code : Coded Action
action_code = code_by (List Text × List Step) (coded× texts_code (coded_list step_code)) (λ a. (a.params, a.steps)) (λ p. record { params = p.0; steps = p.1 }) (λ _. refl)

-- the fields of a class, two by two
abbrev pub ClassFields : Type 0
ClassFields = (Text × Text) × ((List (Text × Plain) × List (Text × Expr)) × (List (Text × Action) × Bool))

abbrev pub class_fields : ClassEntry → ClassFields
class_fields c = ((c.name, c.file), ((c.fields, c.getters), (c.actions, c.teardown)))

abbrev pub class_with : ClassFields → ClassEntry
class_with p =
    record { name = p.0.0; file = p.0.1; fields = p.1.0.0; getters = p.1.0.1; actions = p.1.1.0; teardown = p.1.1.1 }

abbrev pub class_code : Coded ClassEntry
class_code = code_by ClassFields (coded× (coded× text_code text_code) (coded× (coded× (coded_list (coded× text_code plain_code)) (coded_list (coded× text_code expr_code))) (coded× (coded_list (coded× text_code action_code)) coded_bool))) class_fields class_with (λ _. refl)
