use Rattle.std.proofs.Common.{◌≡◌, map, drop}
use Rattle.gl_arena.specs.Arena.{named}
use Rattle.gl_tags.specs.Tags.{greatest_from, revision, order}
use Rattle.gl_tags.specs.View.{tags_in}
use Rattle.gl_tags.proofs.entries.greatest.Given as goal

abbrev pub invariant-loop-tag : goal.invariant-loop-tag
invariant-loop-tag l = record {
  revision : greatest_from l.revision (map (λ t. revision (named (tags_in l.tags) t)) (drop l.tag-index l.leads)) ≡ greatest_from 0 (map (λ t. revision (named (tags_in l.tags) t)) l.leads);
  order : greatest_from l.order (map (λ t. order (named (tags_in l.tags) t)) (drop l.tag-index l.leads)) ≡ greatest_from 0 (map (λ t. order (named (tags_in l.tags) t)) l.leads);
}
