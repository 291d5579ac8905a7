use Rattle.std.proofs.Common.{◌≡◌, drop}
use Rattle.gl_base.specs.Names.{named}
use Rattle.gl_ast.specs.View.{seen_pairs}
use Rattle.gl_actions.proofs.lookup.getter_of.Given as goal

-- what is left decides
abbrev pub invariant-loop-getter : goal.invariant-loop-getter
invariant-loop-getter l = named l.name (seen_pairs (drop l.getter-index l.getters)) ≡ named l.name (seen_pairs l.getters)
