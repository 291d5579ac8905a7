use Rattle.std.proofs.Common.{◌≡◌, drop}
use Rattle.gl_base.specs.Names.{named}
use Rattle.gl_meaning.specs.View.{seen_actions}
use Rattle.gl_actions.proofs.lookup.action_of.Given as goal

-- what is left decides
abbrev pub invariant-loop-action : goal.invariant-loop-action
invariant-loop-action l = named l.name (seen_actions (drop l.action-index l.actions)) ≡ named l.name (seen_actions l.actions)
