use Rattle.std.proofs.Common.{sym, ap, ◌∙◌}
use Rattle.std.specs.Prelude.{filter_map}
use Rattle.std.specs.Str.{chars}
use Rattle.gl_arena.specs.Arena.{named}
use Rattle.gl_mods.specs.Mods.{listeners, mods_on}
use Rattle.gl_mods.specs.View.{seen_table}
use Rattle.gl_mods.proofs.Arguments.{if_same}
use Rattle.gl_mods.proofs.AtNodes.{ids_at-is, items_of}
use Rattle.gl_mods.proofs.mods.Mods.listeners.Goals as goal

pub returns-in-Some : goal.returns-in-Some
returns-in-Some c =
    let s = c.self.inside in
    let event = chars c.args.event.now in
    if_same c.called_by.result _ _ c.called_by.ensures
    (ap (λ is. listeners event (filter_map (named (seen_table s.table)) is)) (c.as_slice.ensures.value ∙ (ap items_of c.in-Some.ensures.value ∙ sym (ids_at-is s.lists c.args.node)))
    ∙ ap (λ m. listeners event (mods_on m c.args.node)) c.self.view_is)

pub returns-in-None : goal.returns-in-None
returns-in-None c =
    let s = c.self.inside in
    let event = chars c.args.event.now in
    c.new.ensures
    ∙ (ap (λ is. listeners event (filter_map (named (seen_table s.table)) is)) (ap items_of c.in-None.ensures.value ∙ sym (ids_at-is s.lists c.args.node))
    ∙ ap (λ m. listeners event (mods_on m c.args.node)) c.self.view_is)
