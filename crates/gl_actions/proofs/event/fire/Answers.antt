use Rattle.std.proofs.Common.{refl, sym, ap₂, ◌∙◌, map}
use Rattle.std.proofs.lemmas.Bool.{false≢true}
use Rattle.std.specs.Str.{chars}
use Rattle.gl_value.specs.View.{view}
use Rattle.gl_meaning.specs.View.{manifest_view}
use Rattle.gl_actions.specs.World.{value_in, sets_in}
use Rattle.gl_actions.specs.Own.{names_in}
use Rattle.gl_actions.specs.Steps.{runs_all}
use Rattle.gl_actions.proofs.Fires.{nothing_heard, all_run}
use Rattle.gl_actions.proofs.Rules.{only_on}
use Rattle.gl_actions.proofs.event.fire.Goals as goal

pub returns-then-is_empty-clause-sets : goal.returns-then-is_empty-clause-sets
returns-then-is_empty-clause-sets c =
    let none = sym (c.in_ok-acts.ensures (names_in c.args.app.now)) ∙ c.if-is_empty.ensures.0 refl in
    (none, λ w ps reads listens. nothing_heard c.args.app.now c.args.page.now w c.args.number (chars c.args.event.now) ps reads listens (only_on (manifest_view c.args.app.now.manifest) c.keeps.ensures.rules) none)

pub returns-clause-sets : goal.returns-clause-sets
returns-clause-sets c = (
  λ none. false≢true (c.if-is_empty.ensures.1 (c.in_ok-acts.ensures (names_in c.args.app.now) ∙ none)),
  λ w ps reads listens. all_run c.args.app.now c.args.page.now w c.args.number (chars c.args.event.now) ps reads listens (only_on (manifest_view c.args.app.now.manifest) c.keeps.ensures.rules) (view c.args.payload.now) (view c.in_ok-payload.payload) (sets_in w c.args.sofar.now)
      (sets_in w c.run_values.new.sets) c.in_ok-payload.ensures.value
      (c.in_ok-run_values.ensures.sets w reads
      ∙ ap₂ (λ vs old. runs_all w (map (value_in w) vs) (value_in w (view c.in_ok-payload.payload)) (sets_in w old)) (c.as_slice.ensures ∙ c.in_ok-acts.ensures (names_in c.args.app.now)) c.in_ok-sets.ensures),
)

pub returns-clause-own : goal.returns-clause-own
returns-clause-own c = λ u. c.in_ok-run_values.ensures.own (rw c.in_ok-sets.ensures u)
