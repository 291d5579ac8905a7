use Rattle.std.proofs.Common.{◌≡◌}
use Rattle.serde_json.specs.View.{members_view}
use Rattle.gl_meaning.specs.Walk.{check_members}
use Rattle.gl_shape.proofs.walk.check_members.Given as goal

-- what is left decides
abbrev pub invariant-loop-key : goal.invariant-loop-key
invariant-loop-key g l = check_members (g.R.MemberRule.rule l.rule) (members_view l.key-iterator) ≡ check_members (g.R.MemberRule.rule l.rule) (members_view l.members.entries)
