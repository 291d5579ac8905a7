use Rattle.std.proofs.Common.{◌≡◌, [], drop}
use Rattle.gl_value.specs.View.{seen_entries}
use Rattle.gl_helpers.specs.Lent.{seen_lent}
use Rattle.gl_helpers.specs.Records.{put_all}
use Rattle.gl_helpers.proofs.records.by_name.Given as goal

-- what is left to put in gives the whole
abbrev pub invariant-loop-name : goal.invariant-loop-name
invariant-loop-name l = put_all (seen_lent l.map.entries) (seen_entries (drop l.name-index l.named)) ≡ put_all [] (seen_entries l.named)
