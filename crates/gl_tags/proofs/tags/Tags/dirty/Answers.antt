use Rattle.std.proofs.Common.{◌≡◌, ◌+◌, IsSome, refl, sym, ap, subst, ◌∙◌}
use Rattle.gl_arena.specs.Arena.{with_value}
use Rattle.gl_tags.specs.Tags as m
use Rattle.gl_tags.specs.Tags.{tag_at, leads_of, Rest, Combines, SameLeads}
use Rattle.gl_tags.specs.View.{seen_tag, tags_in}
use Rattle.gl_tags.specs.declared.tag.Tag.TheVariants.{Dirtyable}
use Rattle.gl_arena.proofs.Mapped.{with_value-mapped}
use Rattle.gl_tags.proofs.Keeping.{dirtied_kept}
use Rattle.gl_tags.proofs.tags.Tags.dirty.Goals as goal

pub invariant_of-self : goal.invariant_of-self
invariant_of-self c =
    let s = c.self.inside in
    dirtied_kept s.tags s.still s.clock s.count c.args.tag c.self.invariant (subst IsSome (sym c.get_mut.ensures.value) refl)
    (ap (λ t. m.is_dirtyable (tag_at t c.args.tag)) c.self.view_is ∙ c.requires.dirtyable)

pub returns : goal.returns
returns c =
    let s = c.self.inside in
    let w = with_value-mapped seen_tag s.tags c.args.tag (Dirtyable (record { revision = s.clock; order = s.count + 1 })) in
    let a : ◌≡◌ {A = m.Tags} (record { tags = tags_in (with_value s.tags c.args.tag (Dirtyable (record { revision = s.clock; order = s.count + 1 }))); still = s.still; clock = s.clock; count = s.count + 1 })
    (record { tags = with_value (tags_in s.tags) c.args.tag (m.dirtyable s.clock (s.count + 1)); still = s.still; clock = s.clock; count = s.count + 1 }) = λ t. record { tags = w t; still = s.still; clock = s.clock; count = s.count + 1 } in
    a ∙ ap (λ (t : m.Tags). let r : m.Tags = record { tags = with_value t.tags c.args.tag (m.dirtyable t.clock (t.count + 1)); still = t.still; clock = t.clock; count = t.count + 1 } in r) c.self.view_is
