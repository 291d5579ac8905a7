use Rattle.std.proofs.Common.{◌≡◌, ◌++◌, OnOk, subst, codes, ap, ◌∙◌}
use Rattle.gl_meaning.specs.View.{manifest_view}
use Rattle.gl_mods.specs.View.{seen_installed}
use Rattle.gl_code.specs.Tables.{tables_of}
use Rattle.gl_session.proofs.Values.{told_line_is}
use Rattle.gl_session.proofs.writing.push_update.Goals as goal

pub returns : goal.returns
returns c =
    subst (λ y. OnOk c.push_updated.result (c.push_updated.new.out ≡ c.args.out.now ++ y))
    (told_line_is (codes "update ") (tables_of (manifest_view c.args.app.now.manifest)) c.args.vm.now c.args.id (seen_installed c.in_ok-modifier.modifier.now) c.in_ok-number.number c.in_ok-name.name c.in_ok-modifier.ensures c.in_ok-number.ensures (c.in_ok-name.ensures ∙ ap (λ m. (tables_of (manifest_view m)).modifier (seen_installed c.in_ok-modifier.modifier.now).name) c.manifest.ensures))
    c.push_updated.ensures
