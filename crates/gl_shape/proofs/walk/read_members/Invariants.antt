use Rattle.std.proofs.Common.{◌≡◌, map}
use Rattle.serde_json.specs.View.{members_view}
use Rattle.gl_meaning.specs.Walk.{read_members}
use Rattle.gl_shape.proofs.Walks.{after_found}
use Rattle.gl_shape.proofs.walk.read_members.Given as goal

abbrev pub invariant-loop-key : goal.invariant-loop-key
invariant-loop-key g l = after_found (map g.R.MemberReader.seen l.list.items) (read_members (g.R.MemberReader.reads l.reader) (members_view l.key-iterator)) ≡ read_members (g.R.MemberReader.reads l.reader) (members_view l.members.entries)
