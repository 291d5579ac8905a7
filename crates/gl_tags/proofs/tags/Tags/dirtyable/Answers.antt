use Rattle.std.proofs.Common.{IfOk, refl, subst, arith}
use Rattle.gl_arena.specs.Arena.{Gives}
use Rattle.gl_tags.specs.Tags as m
use Rattle.gl_tags.specs.Tags.{tag_at, leads_of, Rest, Combines, SameLeads}
use Rattle.gl_tags.specs.View.{tags_in}
use Rattle.gl_tags.specs.declared.tag.Tag.TheVariants.{Dirtyable}
use Rattle.gl_tags.proofs.Keeping.{put_kept, put_gives}
use Rattle.gl_tags.proofs.tags.Tags.dirtyable.Goals as goal

pub invariant_of-self : goal.invariant_of-self
invariant_of-self c =
    let s = c.self.inside in
    put_kept c.insert_tag.result s.tags c.insert_tag.new.tags s.still s.clock s.count (Dirtyable (record { revision = s.clock; order = s.count })) c.self.invariant (omega arith, omega arith) tt c.insert_tag.ensures.ok c.insert_tag.ensures.err

pub returns-clause-given : goal.returns-clause-given
returns-clause-given c =
    let s = c.self.inside in
    let h = put_gives c.insert_tag.result s.tags c.insert_tag.new.tags (Dirtyable (record { revision = s.clock; order = s.count })) (tags_in s.tags) refl c.insert_tag.ensures.ok in
    subst (λ (t : m.Tags). IfOk c.insert_tag.result (λ id. Gives t.tags (tags_in c.insert_tag.new.tags) id (m.dirtyable t.clock t.count))) c.self.view_is h
