use Rattle.std.proofs.Common.{◌≡◌, ap, ◌∙◌}
use Rattle.std.specs.Prelude.{string_bytes}
use Rattle.std.specs.Str.{chars}
use Rattle.gl_wirec.proofs.Found.{seen, inserted_name}
use Rattle.gl_wirec.proofs.names.Names.add.Goals as goal

pub returns : goal.returns
returns c =
    let key : chars (string_bytes c.in_ok-key.key) ≡ c.args.name.now = ap chars c.in_ok-key.ensures.ok ∙ c.as_str.ensures.value in
    ap seen c.in_ok-insert.ensures.keys ∙ inserted_name c.self.inside.set.keys c.in_ok-key.key _ _ key c.self.view_is
