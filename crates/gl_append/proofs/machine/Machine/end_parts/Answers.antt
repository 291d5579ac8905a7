use Rattle.std.proofs.Common.{◌∷◌, [], ◌++◌, refl, sym, ◌∙◌, ap}
use Rattle.gl_append.proofs.Outermost.{none_of}
use Rattle.gl_append.proofs.PartsEnd.{without_calls, in_getter_call, in_list_call}
use Rattle.gl_append.proofs.machine.Machine.end_parts.Goals as goal

pub returns-in-None : goal.returns-in-None
returns-in-None c = (refl, without_calls c.args.self.now (sym c.as_slice.ensures.value ∙ none_of c.as_slice.result.now c.in-None.ensures.cases))

pub returns-in-Some-Getter-default : goal.returns-in-Some-Getter-default
returns-in-Some-Getter-default c = (
  refl,
  in_getter_call c.args.self.now c.in-Some-Getter-default.field-0-1.now c.in-Some-Getter-default.field-0-0-0
      (sym c.as_slice.ensures.value ∙ (c.in-Some-Getter-default.ensures.cases.0 ∙ ap (λ x. c.in-Some-Getter-default.field-0-1.now ++ x ∷ []) c.in-Some-Getter-default.field-0-0-is)),
)

pub returns-in-Some-Each-default : goal.returns-in-Some-Each-default
returns-in-Some-Each-default c = (
  refl,
  in_list_call c.args.self.now c.in-Some-Each-default.field-0-1.now c.in-Some-Each-default.field-0-0-0
      (sym c.as_slice.ensures.value ∙ (c.in-Some-Each-default.ensures.cases.0 ∙ ap (λ x. c.in-Some-Each-default.field-0-1.now ++ x ∷ []) c.in-Some-Each-default.field-0-0-is)),
)
