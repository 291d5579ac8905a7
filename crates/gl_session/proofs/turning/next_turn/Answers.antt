use Rattle.std.proofs.Common.{◌-◌, map, reverse, ap, ◌∙◌}
use Rattle.std.specs.Prelude.{Some}
use Rattle.gl_meaning.specs.View.{event_view, manifest_view}
use Rattle.gl_plain.specs.Turns.{begin}
use Rattle.gl_vm.specs.Steps.{empty}
use Rattle.gl_nodes.specs.Tree.{Tree}
use Rattle.gl_code.specs.Hung.{nest_of}
use Rattle.gl_code.specs.Tables.{tables_of}
use Rattle.gl_code.proofs.Doing.{does_then}
use Rattle.gl_fires.specs.Worlds.{world_of}
use Rattle.gl_fires.proofs.Standing.{has_world}
use Rattle.gl_fires.proofs.Heard.{hears}
use Rattle.gl_session.specs.declared.turn.Turn.{Turn}
use Rattle.gl_session.specs.Laying.{GivensFor, touch_of, touch_all}
use Rattle.gl_session.proofs.Rules.{names_rise}
use Rattle.gl_session.proofs.Turns.{next_goes, next_asks, next_fault, goes_as}
use Rattle.gl_session.proofs.turning.next_turn.Goals as goal

pub returns-in-Ok-clause-ok : goal.returns-in-Ok-clause-ok
returns-in-Ok-clause-ok c = λ templates s lowered x t.
    let a = c.args.app.now in
    let page = c.args.page.now in
    let e = event_view c.args.event.now in
    let w = world_of a templates page s x in
    let reads = has_world a templates page s x in
    let applied = c.in_ok-sets.ensures.sets w s.numbers reads (hears a templates page s x) in
    let given = reverse c.in_ok-givens.givens.items in
    let found : GivensFor w page c.in_ok-sets.field-0.sets given = c.in_ok-givens.ensures w reads in
    let did = does_then (λ n. begin) (λ n. touch_all (map touch_of given)) page.vm c.begin_turn.new.vm c.lay.new.vm c.in_ok-begin_turn.ensures.step c.in_ok-lay.ensures.step in
    let z = c.in_ok-text-in-Ok.ensures.ok in
    let w = c.work_of-work in
    let made : Turn = record { text = c.in_ok-text-in-Ok.text; work = w.result } in
    goes_as a templates s (Some e) c.next_text.new.page c.renew.new.page made z.vm z.code
    (next_goes a templates (names_rise (manifest_view a.manifest) c.keeps.ensures.rules) lowered page s x e c.in_ok-sets.field-0.sets given applied.0 c.in_ok-sets.ensures.own found c.lay.new.vm did
    c.renew.new.page c.in-Ok.ensures.ok (c.in-Ok.ensures.nodes (tables_of (manifest_view a.manifest)) (ap (λ (v : Tree). nest_of v.forest) (c.in_ok-lay.ensures.tree ∙ c.in_ok-begin_turn.ensures.tree) ∙ x.nested)) z.flat z.sound c.in_ok-before.before.list.items c.in_ok-before.ensures z.destroyed z.logs empty c.args.turn c.as_slice.result.now
    made t (c.as_slice.ensures.value ∙ applied.1) z.told c.in-Ok.moved.items c.in-Ok.ensures.moved
    (record { evaluated = w.ensures.evaluated; made = w.ensures.made ∙ ap (λ k. c.renew.new.page.vm.tree.nodes.made - k) c.upcoming-first.ensures; moved = w.ensures.moved }))

pub returns-in-Ok-clause-asked : goal.returns-in-Ok-clause-asked
returns-in-Ok-clause-asked c = λ templates s lowered x.
    let a = c.args.app.now in
    let page = c.args.page.now in
    let e = event_view c.args.event.now in
    let w = world_of a templates page s x in
    let reads = has_world a templates page s x in
    let applied = c.in_ok-sets.ensures.sets w s.numbers reads (hears a templates page s x) in
    let given = reverse c.in_ok-givens.givens.items in
    let found : GivensFor w page c.in_ok-sets.field-0.sets given = c.in_ok-givens.ensures w reads in
    let did = does_then (λ n. begin) (λ n. touch_all (map touch_of given)) page.vm c.begin_turn.new.vm c.lay.new.vm c.in_ok-begin_turn.ensures.step c.in_ok-lay.ensures.step in
    next_asks a templates (names_rise (manifest_view a.manifest) c.keeps.ensures.rules) lowered page s x e c.in_ok-sets.field-0.sets given applied.0 c.in_ok-sets.ensures.own found c.lay.new.vm did
    c.renew.new.page c.in-Ok.ensures.ok c.in-Ok.moved.asked c.in-Ok.ensures.asked

pub returns-clause-fails : goal.returns-clause-fails
returns-clause-fails c = λ templates s lowered x.
    let a = c.args.app.now in
    let page = c.args.page.now in
    let e = event_view c.args.event.now in
    let w = world_of a templates page s x in
    let reads = has_world a templates page s x in
    let applied = c.in_ok-sets.ensures.sets w s.numbers reads (hears a templates page s x) in
    let given = reverse c.in_ok-givens.givens.items in
    let found : GivensFor w page c.in_ok-sets.field-0.sets given = c.in_ok-givens.ensures w reads in
    let did = does_then (λ n. begin) (λ n. touch_all (map touch_of given)) page.vm c.begin_turn.new.vm c.lay.new.vm c.in_ok-begin_turn.ensures.step c.in_ok-lay.ensures.step in
    next_fault a templates (names_rise (manifest_view a.manifest) c.keeps.ensures.rules) lowered page s x e c.in_ok-sets.field-0.sets given applied.0 c.in_ok-sets.ensures.own found c.lay.new.vm did c.in-Err.fault c.in-Err.ensures.fails
