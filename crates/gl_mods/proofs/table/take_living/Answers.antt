use Rattle.std.proofs.Common.{rules, ap, ◌∙◌}
use Rattle.std.proofs.lemmas.Fn.{filter_same}
use Rattle.gl_mods.proofs.table.take_living.Goals as goal

pub returns-clause-taken : goal.returns-clause-taken
returns-clause-taken c = ap (λ v. v.items) c.replace.ensures.value ∙ filter_same _ _ _ (λ x b f' k. search rules) _ _ c.retain.ensures.filtered
