use Rattle.std.proofs.Common.{rules, [], None, ◌≡◌, ◌-◌, suc, reverse, refl, ◌∙◌, ap, sym, subst, arith}
use Rattle.gl_meaning.specs.declared.manifest.Manifest.{Manifest}
use Rattle.gl_plain.specs.Naming.{by_number}
use Rattle.gl_machine.specs.Code.{Code as PlainCode, Codes as PlainCodes}
use Rattle.gl_guards.specs.Along.{along_page_as}
use Rattle.gl_code.specs.CodeView.{seen_code, seen_codes, component_seen}
use Rattle.gl_code.specs.declared.code.Code.{the_lemmas}
use Rattle.gl_code.specs.declared.code.Codes.{Codes}
use Rattle.gl_vm.specs.View.{Tables}
use Rattle.gl_code.specs.View.{refs_made, seen_owner}
use Rattle.gl_update.specs.Counted.{CodesMoved}
use Rattle.gl_update.specs.View.{trail_view}
use Rattle.gl_code.specs.Renewing.{Renews, RenewFails}
use Rattle.gl_update.proofs.Arms.{root_is, page_renews, page_fails}
use Rattle.gl_guards.specs.AlongAsks.{along_asks_page}
use Rattle.gl_update.specs.Questions.{Asks}
use Rattle.gl_update.proofs.AskedCodes.{page_asks}
use Rattle.gl_update.proofs.MovedCodes.{page_moved}
use Rattle.gl_seats.specs.Parts.{code_nest, codes_nest}
use Rattle.gl_seats.specs.Seats.{NodesRenewed}
use Rattle.gl_update.proofs.Renewed.{nodes_arm, nodes_counted}
use Rattle.gl_update.proofs.pages.renew_page.Goals as goal

pub returns-in-Ok-clause-ok : goal.returns-in-Ok-clause-ok
returns-in-Ok-clause-ok g c =
    let a = c.args.app.now in
    let m = c.manifest.result.now.limit - 1 in
    let one : c.manifest.result.now.limit ≡ suc m = (let ne = c.if-limit-eq0.false in omega (arith, ne)) in
    let old = c.args.page.now.vm in
    let new = c.renew_top.new.vm in
    page_renews a c.args.cells.now a.manifest.limit m (ap (λ (x : Manifest). x.limit) (sym c.manifest.ensures) ∙ one) c.in-Root.owner.value c.args.page.now.code _ c.in-Root.body c.renew_top.new.body (trail_view c.of-trail.result) old new (c.of-trail.ensures ∙ ap reverse c.new.ensures)
    (λ n. ap (seen_code n) c.in-Root.is ∙ root_is n c.in-Root.owner c.in-Root.body) (λ n. search (rules, the_lemmas))
    (subst (λ (b : Codes). Renews a c.args.cells.now (λ n run. along_page_as by_number run m (trail_view c.of-trail.result) (seen_codes n b)) old (λ n. seen_codes n c.renew_top.new.body) new) c.in-Root.body-is c.in-Ok.ensures.ok)

pub returns-in-Ok-clause-moved : goal.returns-in-Ok-clause-moved
returns-in-Ok-clause-moved g c =
    let o = c.in-Root.owner in
    let root : Tables → PlainCodes → PlainCode = λ n cs. component_seen (seen_owner n o.value) [] (refs_made o.value.cells) [] None cs in
    let m = c.none-moved.result in
    let m2 = c.renew_top.new.moved in
    page_moved m m2 c.args.page.now.code _ (λ n. root n (seen_codes n c.in-Root.body)) (λ n. root n (seen_codes n c.renew_top.new.body)) c.none-moved.ensures.items
    (λ n. ap (seen_code n) c.in-Root.is ∙ root_is n o c.in-Root.body) (λ n. search (rules, the_lemmas))
    (subst (λ (b : Codes). CodesMoved m m2 (λ n. seen_codes n b) (λ n. seen_codes n c.renew_top.new.body)) c.in-Root.body-is c.in-Ok.ensures.moved)

pub returns-in-Ok-clause-asked : goal.returns-in-Ok-clause-asked
returns-in-Ok-clause-asked g c =
    let a = c.args.app.now in
    let m = c.manifest.result.now.limit - 1 in
    let one : c.manifest.result.now.limit ≡ suc m = (let ne = c.if-limit-eq0.false in omega (arith, ne)) in
    let old = c.args.page.now.vm in
    let before = c.none-moved.result.asked in
    let after = c.renew_top.new.moved.asked in
    page_asks a c.args.cells.now a.manifest.limit m (ap (λ (x : Manifest). x.limit) (sym c.manifest.ensures) ∙ one) c.in-Root.owner.value c.args.page.now.code c.in-Root.body (trail_view c.of-trail.result) old before after (c.of-trail.ensures ∙ ap reverse c.new.ensures) c.none-moved.ensures.asked
    (λ n. ap (seen_code n) c.in-Root.is ∙ root_is n c.in-Root.owner c.in-Root.body)
    (subst (λ (b : Codes). Asks a c.args.cells.now (λ n run. along_asks_page by_number run m (trail_view c.of-trail.result) (seen_codes n b)) old before after) c.in-Root.body-is c.in-Ok.ensures.asked)

pub returns-in-Root-clause-fails : goal.returns-in-Root-clause-fails
returns-in-Root-clause-fails g c =
    let a = c.args.app.now in
    let m = c.manifest.result.now.limit - 1 in
    let one : c.manifest.result.now.limit ≡ suc m = (let ne = c.if-limit-eq0.false in omega (arith, ne)) in
    let old = c.args.page.now.vm in
    page_fails a c.args.cells.now a.manifest.limit m (ap (λ (x : Manifest). x.limit) (sym c.manifest.ensures) ∙ one) c.in-Root.owner.value c.args.page.now.code c.in-Root.body (trail_view c.of-trail.result) old c.in-Err.fault (c.of-trail.ensures ∙ ap reverse c.new.ensures)
    (λ n. ap (seen_code n) c.in-Root.is ∙ root_is n c.in-Root.owner c.in-Root.body)
    (subst (λ (b : Codes). RenewFails {A = PlainCodes} a c.args.cells.now (λ n run. along_page_as by_number run m (trail_view c.of-trail.result) (seen_codes n b)) old c.in-Err.fault) c.in-Root.body-is c.in-Err.ensures.fails)

pub returns-in-Ok-clause-nodes : goal.returns-in-Ok-clause-nodes
returns-in-Ok-clause-nodes g c =
    let o = c.in-Root.owner in
    let root : Tables → PlainCodes → PlainCode = λ n cs. component_seen (seen_owner n o.value) [] (refs_made o.value.cells) [] None cs in
    let b = c.none-moved.result.items in
    let a = c.renew_top.new.moved.items in
    let old = c.args.page.now.vm.tree in
    let new = c.renew_top.new.vm.tree in
    nodes_counted old new 0 b a a None (λ n. code_nest n c.args.page.now.code) (λ n. code_nest n _) c.none-moved.ensures.items refl
    (nodes_arm old new b a None c.args.page.now.code _ (λ n. root n (seen_codes n c.in-Root.body)) (λ n. root n (seen_codes n c.renew_top.new.body)) (λ n. ap (seen_code n) c.in-Root.is ∙ root_is n o c.in-Root.body) (λ n. search (rules, the_lemmas))
    (subst (λ (z : Codes). NodesRenewed old new b a None (λ n. codes_nest n z) (λ n. codes_nest n c.renew_top.new.body)) c.in-Root.body-is c.in-Ok.ensures.nodes))
