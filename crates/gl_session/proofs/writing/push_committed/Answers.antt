use Rattle.std.proofs.Common.{◌≡◌, ◌++◌, OnOk, subst, codes, ap, ap₂, flat_map}
use Rattle.gl_meaning.specs.View.{manifest_view}
use Rattle.gl_code.specs.Tables.{tables_of}
use Rattle.gl_session.proofs.Values.{told_same}
use Rattle.gl_session.proofs.writing.push_committed.Goals as goal

pub returns-clause-text : goal.returns-clause-text
returns-clause-text c =
    let n = tables_of (manifest_view c.args.app.now.manifest) in
    let old = c.args.vm.now in
    let new = c.commit-commit.new.self in
    let e = ap (λ m. m.table) c.commit-commit.ensures.left in
    subst (λ y. OnOk c.push_logged.result (c.push_logged.new.out ≡ c.args.out.now ++ y))
    (ap₂ (λ a b. a ++ b)
    (ap₂ (λ f xs. flat_map f xs) (told_same (codes "install ") n old new e) c.commit-commit.ensures.installs)
    (ap₂ (λ f xs. flat_map f xs) (told_same (codes "update ") n old new e) c.commit-commit.ensures.updates))
    c.push_logged.ensures
