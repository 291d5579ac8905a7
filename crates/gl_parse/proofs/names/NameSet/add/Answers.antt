use Rattle.std.proofs.Common.{◌≡◌, ap, not, ◌∙◌}
use Rattle.std.specs.Prelude.{string_bytes}
use Rattle.std.specs.Str.{chars}
use Rattle.gl_parse.proofs.NameSets.{seen, has_name, new_name}
use Rattle.gl_parse.proofs.names.NameSet.add.Goals as goal

pub returns-clause-told : goal.returns-clause-told
returns-clause-told c =
    let key : chars (string_bytes c.in_ok-key.key) ≡ chars c.args.name.now = ap chars c.in_ok-key.ensures.ok in
    c.in_ok-insert.ensures.added ∙ ap not (has_name c.self.inside.set.keys c.in_ok-key.key _ _ key c.self.view_is)

pub returns-clause-added : goal.returns-clause-added
returns-clause-added c = λ free.
    let key : chars (string_bytes c.in_ok-key.key) ≡ chars c.args.name.now = ap chars c.in_ok-key.ensures.ok in
    ap (λ ks. seen ks) c.in_ok-insert.ensures.keys ∙ new_name c.self.inside.set.keys c.in_ok-key.key _ _ key c.self.view_is free
