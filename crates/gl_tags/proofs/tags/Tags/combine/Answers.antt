use Rattle.std.proofs.Common.{◌++◌, IfOk, flat_map, not, refl, ap, subst, ◌∙◌, arith}
use Rattle.std.specs.List.{list_any}
use Rattle.gl_arena.specs.Arena.{named}
use Rattle.gl_tags.specs.Tags as m
use Rattle.gl_tags.specs.Tags.{tag_at, leads_of, Rest, Combines, SameLeads}
use Rattle.gl_tags.specs.View.{tags_in}
use Rattle.gl_tags.specs.declared.tag.Tag.TheVariants.{Combined}
use Rattle.gl_tags.proofs.Keeping.{put_kept, put_combines}
use Rattle.gl_tags.proofs.Leads.{leads_fixed}
use Rattle.gl_tags.proofs.tags.Tags.combine.Goals as goal

same : (c : goal.After-insert_tag) → SameLeads c.settle.new.leads.items (flat_map (leads_of (tags_in c.self.inside.tags)) c.args.parts.now)
same c p = c.settle.ensures p ∙ ap (list_any p) (c.in_ok-all_leads.ensures ∙ ap (λ xs. xs ++ flat_map (leads_of (tags_in c.self.inside.tags)) c.args.parts.now) c.new-leads.ensures.items)

pub invariant_of-self : goal.invariant_of-self
invariant_of-self c =
    let s = c.self.inside in
    let k = c.self.invariant in
    let r = c.greatest-kept.ensures.revision ∙ ap (m.greatest_of m.revision (tags_in s.tags)) c.as_slice.ensures in
    let o = c.greatest-kept.ensures.order ∙ ap (m.greatest_of m.order (tags_in s.tags)) c.as_slice.ensures in
    put_kept c.insert_tag.result s.tags c.insert_tag.new.tags s.still s.clock s.count (Combined c.settle.new.leads c.greatest-kept.result s.count) k
    (same c (λ i. not (m.is_dirtyable (named (tags_in s.tags) i))) ∙ leads_fixed (tags_in s.tags) s.clock s.count c.args.parts.now k.sound.right)
    (omega arith, λ e t. record { revision = r t; order = o t })
    c.insert_tag.ensures.ok c.insert_tag.ensures.err

pub returns-clause-ok : goal.returns-clause-ok
returns-clause-ok c =
    let s = c.self.inside in
    let seen : m.Tags = record { tags = tags_in s.tags; still = s.still; clock = s.clock; count = s.count } in
    let after : m.Tags = record { tags = tags_in c.insert_tag.new.tags; still = s.still; clock = s.clock; count = s.count } in
    let h = put_combines c.insert_tag.result s.tags c.insert_tag.new.tags (Combined c.settle.new.leads c.greatest-kept.result s.count) c.settle.new.leads.items c.args.parts.now seen after refl refl refl
    (record { still = refl; clock = refl; count = refl }) (same c) c.insert_tag.ensures.ok in
    subst (λ (t : m.Tags). IfOk c.insert_tag.result (λ id. Combines t after id c.args.parts.now)) c.self.view_is h
