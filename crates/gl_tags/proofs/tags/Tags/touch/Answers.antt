use Rattle.std.proofs.Common.{◌≡◌, IsSome, sym, subst, ◌∙◌}
use Rattle.gl_tags.specs.Tags as m
use Rattle.gl_tags.specs.Tags.{tag_at, leads_of, Rest, Combines, SameLeads}
use Rattle.gl_tags.specs.View.{seen_tag, tags_in, AreKept}
use Rattle.gl_arena.proofs.Mapped.{live_of_mapped}
use Rattle.gl_tags.proofs.Keeping.{kept_whole}
use Rattle.gl_tags.proofs.tags.Tags.touch.Goals as goal

whole : (c : goal.After-keep) → AreKept c.keep.new.tags c.self.inside.still c.self.inside.clock c.self.inside.count × (tags_in c.keep.new.tags ≡ tags_in c.self.inside.tags)
whole c =
    let s = c.self.inside in
    kept_whole s.tags c.keep.new.tags s.still s.clock s.count c.args.tag c.look-touch.result c.self.invariant
    (live_of_mapped seen_tag s.tags c.args.tag (subst (λ (t : m.Tags). IsSome (tag_at t c.args.tag)) (sym c.self.view_is) c.requires)) c.look-touch.ensures c.keep.ensures

pub invariant_of-self : goal.invariant_of-self
invariant_of-self c = (whole c).0

pub returns-in-None-clause-stays : goal.returns-in-None-clause-stays
returns-in-None-clause-stays c =
    let s = c.self.inside in
    let e = (whole c).1 in
    let f : ◌≡◌ {A = m.Tags} (record { tags = tags_in c.keep.new.tags; still = s.still; clock = s.clock; count = s.count }) (record { tags = tags_in s.tags; still = s.still; clock = s.clock; count = s.count }) =
    λ t. record { tags = e t; still = s.still; clock = s.clock; count = s.count } in
    f ∙ c.self.view_is
