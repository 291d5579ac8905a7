use Rattle.std.proofs.Common.{◌≡◌, ◌++◌, flat_map, drop}
use Rattle.gl_tags.specs.Tags.{leads_of}
use Rattle.gl_tags.specs.View.{tags_in}
use Rattle.gl_tags.proofs.entries.all_leads.Given as goal

abbrev pub invariant-loop-part : goal.invariant-loop-part
invariant-loop-part l = l.into.items ++ flat_map (leads_of (tags_in l.tags)) (drop l.part-index l.parts) ≡ l.fn.into.items ++ flat_map (leads_of (tags_in l.tags)) l.parts
