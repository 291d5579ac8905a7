use Rattle.std.proofs.Common.{map, Some, sym, ◌∙◌, ap, subst}
use Rattle.gl_each.specs.View.{seen_steps}
use Rattle.std.specs.Prelude.{reverse}
use Rattle.gl_update.specs.ListItems.{there}
use Rattle.gl_update.specs.OldItems.{code_key, CodeKeys, Plans}
use Rattle.gl_update.proofs.OldKeys.{all_have, there_all}
use Rattle.gl_update.proofs.old_items.Work.new.Goals as goal

pub returns-clause-ready : goal.returns-clause-ready
returns-clause-ready c = record {
  once = c.in_ok-keys.ensures.once;
  has = subst (CodeKeys c.in_ok-keys.keys) (sym c.in_ok-olds.ensures)
      (subst (λ ks. CodeKeys ks (map Some c.args.items.items)) (sym (c.in_ok-keys.ensures.keys ∙ ap (map code_key) c.as_slice.ensures.value)) (all_have c.args.items.items));
  plans = subst (λ ks. Plans c.in_ok-keys.keys ks (reverse (seen_steps c.in_ok-steps.steps.items))) c.requires.keys c.in_ok-steps.ensures.plans;
}

pub returns-clause-olds : goal.returns-clause-olds
returns-clause-olds c = ap there c.in_ok-olds.ensures ∙ there_all c.args.items.items

pub returns-clause-keys : goal.returns-clause-keys
returns-clause-keys c = c.in_ok-keys.ensures.keys ∙ ap (map code_key) c.as_slice.ensures.value
