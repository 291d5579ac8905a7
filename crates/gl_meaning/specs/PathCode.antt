-- How the logic tells two steps of a path apart: each is a number with the fields of its kind.
use Rattle.std.specs.Prelude.{◌≡◌, ℕ, zero, suc, [], refl}
use Rattle.std.specs.Coded.{Coded, code_by, coded×, coded_ℕ}
use Rattle.gl_base.specs.Texts.{Text}
use Rattle.gl_value.specs.Value as v
use Rattle.gl_ast.specs.Template.{Plain}
use Rattle.gl_ast.specs.ExprCode.{plain_code}
use Rattle.gl_ast.specs.PartCode.{text_code}
use Rattle.gl_meaning.specs.Path.{PathStep, at, main, otherwise, items, item, into, slot, empty, attribute_at, modifier_at}

abbrev pub StepFields : Type 0
StepFields = (ℕ × ℕ) × (Text × Plain)

abbrev pub step_fields : PathStep → StepFields
step_fields (at i) = ((0, i), ([], v.undefined))
step_fields main = ((1, 0), ([], v.undefined))
step_fields otherwise = ((2, 0), ([], v.undefined))
step_fields items = ((3, 0), ([], v.undefined))
step_fields (item k n) = ((4, n), ([], k))
step_fields (into c) = ((5, 0), (c, v.undefined))
step_fields (slot n) = ((6, 0), (n, v.undefined))
step_fields empty = ((7, 0), ([], v.undefined))
step_fields (attribute_at n) = ((8, 0), (n, v.undefined))
step_fields (modifier_at i) = ((9, i), ([], v.undefined))

abbrev pub step_with : ℕ → ℕ → Text → Plain → PathStep
step_with zero n s p = at n
step_with (suc zero) n s p = main
step_with (suc (suc zero)) n s p = otherwise
step_with (suc (suc (suc zero))) n s p = items
step_with (suc (suc (suc (suc zero)))) n s p = item p n
step_with (suc (suc (suc (suc (suc zero))))) n s p = into s
step_with (suc (suc (suc (suc (suc (suc zero)))))) n s p = slot s
step_with (suc (suc (suc (suc (suc (suc (suc zero))))))) n s p = empty
step_with (suc (suc (suc (suc (suc (suc (suc (suc zero)))))))) n s p = attribute_at s
step_with (suc (suc (suc (suc (suc (suc (suc (suc (suc k))))))))) n s p = modifier_at n

abbrev pub path_step : StepFields → PathStep
path_step f = step_with f.0.0 f.0.1 f.1.0 f.1.1

pub path_step-fields : (s : PathStep) → path_step (step_fields s) ≡ s
path_step-fields (at i) = refl
path_step-fields main = refl
path_step-fields otherwise = refl
path_step-fields items = refl
path_step-fields (item k n) = refl
path_step-fields (into c) = refl
path_step-fields (slot n) = refl
path_step-fields empty = refl
path_step-fields (attribute_at n) = refl
path_step-fields (modifier_at i) = refl

abbrev pub path_step_code : Coded PathStep
path_step_code = code_by StepFields (coded× (coded× coded_ℕ coded_ℕ) (coded× text_code plain_code)) step_fields path_step path_step-fields
