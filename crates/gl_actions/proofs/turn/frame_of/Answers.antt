use Rattle.std.proofs.Common.{refl, sym, ap, ◌∙◌, option_map}
use Rattle.gl_actions.specs.World.{tables_in}
use Rattle.gl_actions.specs.Own.{names_in}
use Rattle.gl_actions.specs.FoundView.{seen_found}
use Rattle.gl_actions.proofs.FrameFits.{frame_fits, frame_stands}
use Rattle.gl_actions.proofs.turn.frame_of.Goals as goal

pub returns-in_ok-class_numbered-in-Some-clause-fits : goal.returns-in_ok-class_numbered-in-Some-clause-fits
returns-in_ok-class_numbered-in-Some-clause-fits c = λ w reads. frame_fits c.args.turn.now.app.now c.args.turn.now.page.now w reads _ refl
    (ap (option_map (seen_found (tables_in w))) (sym c.in-Some.is) ∙ c.in_ok-found.ensures (tables_in w)) c.in_ok-class_at-in-Some.ensures c.in_ok-class_numbered-in-Some.ensures

pub returns-in_ok-class_numbered-in-Some-clause-own : goal.returns-in_ok-class_numbered-in-Some-clause-own
returns-in_ok-class_numbered-in-Some-clause-own c = frame_stands c.args.turn.now.app.now c.args.turn.now.page.now _
    (ap (option_map (seen_found (names_in c.args.turn.now.app.now))) (sym c.in-Some.is) ∙ c.in_ok-found.ensures (names_in c.args.turn.now.app.now)) c.in_ok-class_at-in-Some.ensures

pub returns-in_ok-class_numbered-in-Some-clause-found : goal.returns-in_ok-class_numbered-in-Some-clause-found
returns-in_ok-class_numbered-in-Some-clause-found c = λ n. sym (ap (option_map (seen_found n)) (sym c.in-Some.is) ∙ c.in_ok-found.ensures n)
