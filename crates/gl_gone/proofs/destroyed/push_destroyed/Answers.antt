use Rattle.std.proofs.Common.{refl, sym, ap, ◌++◌, ◌∙◌, inl, inr}
use Rattle.std.specs.Prelude.{[]}
use Rattle.std.specs.List.{list_all}
use Rattle.std.proofs.lemmas.List.{append-nil}
use Rattle.std.proofs.lemmas.Result.{on_ok_weaker}
use Rattle.gl_meaning.specs.View.{manifest_view}
use Rattle.gl_gone.specs.View.{is_live}
use Rattle.gl_gone.specs.Logs.{destroyed_text}
use Rattle.gl_gone.proofs.Logged.{none_logs, text_logs}
use Rattle.gl_gone.proofs.destroyed.push_destroyed.Goals as goal

pub returns : goal.returns
returns c =
    let before = c.args.before.now.list.items in let after = c.in_ok-after.after.list.items in let m = manifest_view c.args.app.now.manifest in
    on_ok_weaker c.push_gone_of.result
    (λ e. record {
      text = destroyed_text m before after;
      put = e ∙ ap (λ n. c.args.out.now ++ destroyed_text n before after) (ap manifest_view c.manifest.ensures);
      told = inr (after, c.in_ok-after.ensures, refl);
      logs = text_logs c.args.app.now before after c.args.page.now c.in_ok-after.ensures;
    }) c.push_gone_of.ensures

pub returns-then-all_live : goal.returns-then-all_live
returns-then-all_live c =
    let before = c.args.before.now.list.items in
    let live = sym (ap (list_all (is_live c.args.page.now.vm)) c.as_slice.ensures.value) ∙ (sym c.all_live.ensures ∙ c.if-all_live.true) in
    record {
      text = [];
      put = sym (append-nil c.args.out.now);
      told = inl (live, refl);
      logs = none_logs c.args.app.now before c.args.page.now live;
    }
