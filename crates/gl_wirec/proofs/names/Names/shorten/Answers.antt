use Rattle.std.proofs.Common.{take, sym, ap, ◌∙◌}
use Rattle.std.proofs.lemmas.List.{take-map}
use Rattle.std.specs.Prelude.{string_bytes}
use Rattle.std.specs.Str.{chars}
use Rattle.gl_wirec.proofs.Found.{seen}
use Rattle.gl_wirec.proofs.names.Names.shorten.Goals as goal

pub returns : goal.returns
returns c =
    ap seen c.truncate.ensures.keys ∙ sym (take-map (λ k. chars (string_bytes k)) c.args.len c.self.inside.set.keys) ∙ ap (take c.args.len) c.self.view_is
