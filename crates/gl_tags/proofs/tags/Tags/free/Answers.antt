use Rattle.std.proofs.Common.{◌≡◌, true, sym, ap, subst, ◌∙◌}
use Rattle.gl_arena.specs.Arena.{Arena, Ends}
use Rattle.gl_tags.specs.Tags as m
use Rattle.gl_tags.specs.Tags.{tag_at, leads_of, Rest, Combines, SameLeads}
use Rattle.gl_tags.specs.View.{seen_tag, tags_in}
use Rattle.gl_arena.proofs.Mapped.{ends-mapped}
use Rattle.gl_tags.proofs.Keeping.{ended_kept, unled}
use Rattle.gl_tags.proofs.tags.Tags.free.Goals as goal

pub invariant_of-self : goal.invariant_of-self
invariant_of-self c =
    let s = c.self.inside in
    ended_kept s.tags c.remove.new.self s.still s.clock s.count c.args.tag c.self.invariant c.remove.ensures.ends
    (λ e. c.requires.not_constant (e ∙ ap (λ (t : m.Tags). t.still) c.self.view_is))
    (unled (record { tags = tags_in s.tags; still = s.still; clock = s.clock; count = s.count }) c.args.tag c.self.invariant.sound
    (subst (λ (t : m.Tags). m.is_dirtyable (tag_at t c.args.tag) ≡ true → m.IsUnled t c.args.tag) (sym c.self.view_is) c.requires.unled))

pub returns-clause-ends : goal.returns-clause-ends
returns-clause-ends c =
    let s = c.self.inside in
    let P : Arena m.Tag → Type 0 = λ a. Ends a (tags_in c.remove.new.self) c.args.tag in
    subst P (ap (λ (t : m.Tags). t.tags) c.self.view_is) (ends-mapped seen_tag s.tags c.remove.new.self c.args.tag c.remove.ensures.ends)
