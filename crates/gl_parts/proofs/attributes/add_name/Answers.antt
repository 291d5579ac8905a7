use Rattle.std.proofs.Common.{[], ◌∷◌, ◌++◌, sym, ◌∙◌, ap}
use Rattle.std.proofs.lemmas.Result.{on_ok_weaker}
use Rattle.gl_base.specs.Names.{has_text}
use Rattle.gl_parts.proofs.NameLists.{name_there, name_next}
use Rattle.gl_parts.specs.Parts.{other_names}
use Rattle.gl_parts.proofs.attributes.add_name.Goals as goal

pub returns-then-has : goal.returns-then-has
returns-then-has c ns =
    ap (λ ks. c.args.names.now ++ ks) (sym (name_there c.args.names.now c.args.name.now ns (ap (has_text c.args.name.now) (sym c.as_slice.ensures) ∙ (sym c.has.ensures ∙ c.if-has.true))))

pub returns : goal.returns
returns c =
    on_ok_weaker c.push.result
    (λ e ns. ap (λ ks. ks ++ other_names ks ns) (e ∙ ap (λ w. c.args.names.now ++ w ∷ []) c.in_ok-name.ensures)
    ∙ name_next c.args.names.now c.args.name.now ns (ap (has_text c.args.name.now) (sym c.as_slice.ensures) ∙ (sym c.has.ensures ∙ c.if-has.false))) c.push.ensures.ok
