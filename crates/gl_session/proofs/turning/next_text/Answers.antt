use Rattle.std.proofs.Common.{◌++◌, [], refl, ap, ◌∙◌, append_assoc}
use Rattle.std.specs.Prelude.{Some}
use Rattle.gl_meaning.specs.Print.{head_line, missing_lines}
use Rattle.gl_meaning.specs.View.{event_view}
use Rattle.gl_nodes.specs.Tree.{node_at}
use Rattle.gl_print.specs.Lines.{lines}
use Rattle.gl_session.specs.Telling.{log_text}
use Rattle.gl_session.proofs.turning.next_text.Goals as goal

pub returns-clause-ok : goal.returns-clause-ok
returns-clause-ok c =
    let a = c.args.app.now in
    let vm = c.args.page.now.vm in
    let d = c.in_ok-push_destroyed.ensures.text in
    let f = head_line c.args.turn (Some (event_view c.args.event.now)) ++ (missing_lines c.args.missing.now ++ lines (node_at vm.tree) (λ i. i.1) [] vm.tree.forest) in
    record {
      flat = c.flat.ensures;
      sound = c.sound.ensures;
      destroyed = d;
      logs = c.in_ok-push_destroyed.ensures.logs;
      told = c.in_ok-push_committed.ensures.text ∙ (ap (λ t. t ++ log_text a vm) (c.in_ok-push_destroyed.ensures.put ∙ ap (λ t. t ++ d) c.in_ok-text.ensures) ∙ append_assoc f d (log_text a vm));
      vm = c.push_committed.ensures.vm;
      code = refl;
    }
