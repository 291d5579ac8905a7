use Rattle.std.proofs.Common.{◌≡◌, sym, subst, arith}
use Rattle.std.specs.Prelude.{Some}
use Rattle.gl_meaning.specs.View.{event_view, manifest_view}
use Rattle.gl_opc.specs.IsApp.{IsAppWith}
use Rattle.gl_standing.specs.Standing.{StandsIn}
use Rattle.gl_session.specs.Standing.{Goes, TurnAsks, app_with}
use Rattle.gl_session.proofs.Counts.{turn_after}
use Rattle.gl_session.proofs.session.Session.turn_of.Goals as goal

pub returns-clause-ok : goal.returns-clause-ok
returns-clause-ok c = λ app templates s h.
    let x = c.args.self.now in
    let e = event_view c.args.event.now in
    let lowered = subst (λ b. IsAppWith (manifest_view b.manifest) templates b.programs) (sym h.app) h.lowered in
    let page = subst (λ b. StandsIn b templates x.page s) (sym h.app) h.page in
    let g = subst (λ b. Goes b templates s (Some e) c.next_turn.new.page c.in_ok-made.made.turn) h.app (c.in_ok-made.ensures.ok templates s lowered page h.turn) in
    let k = turn_after (app_with app templates) s (Some e) g.turn g.is in
    let n = c.in-Some.ensures in
    let q = h.turn in
    let later : c.in-Some.next ≡ g.turn.state.turn = omega (arith, k, n, q) in
    (g.turn, g.is, g.told, record { app = h.app; lowered = h.lowered; page = g.stands; turn = later; going = h.going })

pub returns-clause-asks : goal.returns-clause-asks
returns-clause-asks c = λ app templates s h t is.
    let x = c.args.self.now in
    let e = event_view c.args.event.now in
    let lowered = subst (λ b. IsAppWith (manifest_view b.manifest) templates b.programs) (sym h.app) h.lowered in
    let page = subst (λ b. StandsIn b templates x.page s) (sym h.app) h.page in
    let less = subst (λ b. TurnAsks b templates s e c.in_ok-made.made.asked) h.app (c.in_ok-made.ensures.asked templates s lowered page) t is in
    let sum = c.in_ok-asks.ensures in let least = less.0 in let most = less.1 in (omega (arith, sum, least), omega (arith, sum, most))
