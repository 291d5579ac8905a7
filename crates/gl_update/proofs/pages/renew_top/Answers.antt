use Rattle.std.proofs.Common.{◌≡◌, None, false, true, refl, sym, ◌∙◌}
use Rattle.gl_plain.specs.Counts.{positions_in}
use Rattle.gl_machine.specs.Code as p
use Rattle.gl_machine.specs.Code.{lives_of}
use Rattle.gl_plain.specs.Naming.{by_number}
use Rattle.gl_guards.specs.Along.{along_page_as, whole}
use Rattle.gl_code.specs.CodeView.{seen_codes}
use Rattle.gl_update.specs.View.{trail_view}
use Rattle.gl_update.proofs.Arms.{Below}
use Rattle.gl_update.specs.Questions.{AsksIn}
use Rattle.gl_update.proofs.AskedCodes.{asks_entered, asks_over}
use Rattle.gl_update.proofs.MovedCodes.{body_counted, stays_moved}
use Rattle.gl_update.proofs.Regions.{region_entered, region_fails, region_passed}
use Rattle.gl_seats.specs.Parts.{codes_nest}
use Rattle.gl_code.proofs.Rooting.{roots_refl}
use Rattle.gl_update.proofs.Renewed.{nodes_same, nodes_within, refs_rooted}
use Rattle.gl_update.proofs.pages.renew_top.Goals as goal

pub returns-in-Ok-clause-ok : goal.returns-in-Ok-clause-ok
returns-in-Ok-clause-ok g c =
    region_entered whole c.args.app.now c.args.cells.now p.Codes (λ n. positions_in (lives_of (seen_codes n c.args.body.now))) (λ n. seen_codes n c.args.body.now) (Below c.args.app.now c.args.cells.now c.args.left (trail_view c.args.trail.now) (trail_view c.args.trail.now) c.args.body.now)
    c.args.vm.now c.enters_page.new.vm c.renew_codes.new.vm (λ n. seen_codes n c.renew_codes.new.codes) (λ n u agrees. c.in_ok-enters_page.ensures.asked n u agrees ∙ c.if-branch.true) c.enters_page.ensures.still c.in-Ok.ensures.ok

pub returns-in-Err-clause-fails : goal.returns-in-Err-clause-fails
returns-in-Err-clause-fails g c =
    region_fails whole c.args.app.now c.args.cells.now p.Codes (λ n. positions_in (lives_of (seen_codes n c.args.body.now))) (λ n. seen_codes n c.args.body.now) (Below c.args.app.now c.args.cells.now c.args.left (trail_view c.args.trail.now) (trail_view c.args.trail.now) c.args.body.now)
    c.args.vm.now c.enters_page.new.vm c.in-Err.fault (λ n u agrees. c.in_ok-enters_page.ensures.asked n u agrees ∙ c.if-branch.true) c.enters_page.ensures.still c.in-Err.ensures.fails

pub returns-in-Ok-clause-moved : goal.returns-in-Ok-clause-moved
returns-in-Ok-clause-moved g c = body_counted c.args.moved.now c.ask.new.self c.renew_codes.new.moved c.close.new.self (λ n. seen_codes n c.args.body.now) (λ n. seen_codes n c.renew_codes.new.codes) c.ask.ensures.items c.close.ensures.items c.in-Ok.ensures.moved

pub returns-in-Ok-clause-asked : goal.returns-in-Ok-clause-asked
returns-in-Ok-clause-asked g c =
    let p = trail_view c.args.trail.now in
    asks_entered c.args.app.now c.args.cells.now (λ n run. along_page_as by_number run c.args.left p (seen_codes n c.args.body.now)) (AsksIn c.args.left p (λ n. seen_codes n c.args.body.now)) (λ n. seen_codes n c.renew_codes.new.codes) c.args.vm.now c.enters_page.new.vm c.renew_codes.new.vm
    c.args.moved.now.asked c.ask.new.self.asked c.renew_codes.new.moved.asked c.close.new.self.asked c.mark-mark.result.asked c.mark-mark.result.evaluated
    c.in_ok-ask.ensures.asked c.mark-mark.ensures.asked c.mark-mark.ensures.evaluated c.close.ensures.asked c.enters_page.ensures.still (returns-in-Ok-clause-ok g c) c.in-Ok.ensures.asked

pub returns-in-Ok-clause-idle : goal.returns-in-Ok-clause-idle
returns-in-Ok-clause-idle g c room h =
    absurd (let no : false ≡ true = sym h.fresh ∙ (c.in_ok-enters_page.ensures.asked h.tables h.touched h.agrees ∙ c.if-branch.true) in cc)

pub returns-in-Err-clause-idle : goal.returns-in-Err-clause-idle
returns-in-Err-clause-idle g c room h =
    absurd (let no : false ≡ true = sym h.fresh ∙ (c.in_ok-enters_page.ensures.asked h.tables h.touched h.agrees ∙ c.if-branch.true) in cc)

pub returns-else-branch-clause-ok : goal.returns-else-branch-clause-ok
returns-else-branch-clause-ok g c =
    region_passed whole c.args.app.now c.args.cells.now p.Codes (λ n. positions_in (lives_of (seen_codes n c.args.body.now))) (λ n. seen_codes n c.args.body.now) (Below c.args.app.now c.args.cells.now c.args.left (trail_view c.args.trail.now) (trail_view c.args.trail.now) c.args.body.now)
    c.args.vm.now c.enters_page.new.vm (λ n u agrees. c.in_ok-enters_page.ensures.asked n u agrees ∙ c.if-branch.false) c.enters_page.ensures.still

pub returns-else-branch-clause-moved : goal.returns-else-branch-clause-moved
returns-else-branch-clause-moved g c = body_counted c.args.moved.now c.ask.new.self c.ask.new.self c.ask.new.self (λ n. seen_codes n c.args.body.now) (λ n. seen_codes n c.args.body.now) c.ask.ensures.items refl (stays_moved c.ask.new.self (λ n. seen_codes n c.args.body.now))

pub returns-else-branch-clause-asked : goal.returns-else-branch-clause-asked
returns-else-branch-clause-asked g c =
    let p = trail_view c.args.trail.now in
    asks_over c.args.app.now c.args.cells.now (λ n run. along_page_as by_number run c.args.left p (seen_codes n c.args.body.now)) (AsksIn c.args.left p (λ n. seen_codes n c.args.body.now)) (λ n. seen_codes n c.args.body.now) c.args.vm.now c.enters_page.new.vm c.args.moved.now.asked c.ask.new.self.asked
    c.in_ok-ask.ensures.asked c.enters_page.ensures.counted.rest (returns-else-branch-clause-ok g c)

pub returns-else-branch-clause-idle : goal.returns-else-branch-clause-idle
returns-else-branch-clause-idle g c room h = ((refl, c.ask.ensures.items), (refl, c.enters_page.ensures.counted.rest))

pub returns-in-Ok-clause-nodes : goal.returns-in-Ok-clause-nodes
returns-in-Ok-clause-nodes g c =
    nodes_within c.args.vm.now.tree c.enters_page.new.vm.tree c.renew_codes.new.vm.tree c.renew_codes.new.vm.tree c.args.moved.now.items c.ask.new.self.items c.renew_codes.new.moved.items c.close.new.self.items None (λ n. codes_nest n c.args.body.now) (λ n. codes_nest n c.renew_codes.new.codes)
    (refs_rooted c.args.vm.now c.enters_page.new.vm _ c.enters_page.ensures.counted.rest) c.ask.ensures.items c.in-Ok.ensures.nodes (roots_refl c.renew_codes.new.vm.tree) c.close.ensures.items

pub returns-else-branch-clause-nodes : goal.returns-else-branch-clause-nodes
returns-else-branch-clause-nodes g c =
    nodes_same c.args.vm.now.tree c.enters_page.new.vm.tree c.args.moved.now.items c.ask.new.self.items None (λ n. codes_nest n c.args.body.now) (refs_rooted c.args.vm.now c.enters_page.new.vm _ c.enters_page.ensures.counted.rest) c.ask.ensures.items
