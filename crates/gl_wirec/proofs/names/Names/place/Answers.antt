use Rattle.std.proofs.Common.{◌≡◌, length, ◌∙◌, rules}
use Rattle.std.specs.Prelude.{position, unwrap_or, string_bytes}
use Rattle.std.specs.Str.{bytes_eq}
use Rattle.gl_wirec.proofs.Found.{place_name}
use Rattle.gl_wirec.proofs.names.Names.place.Goals as goal

pub returns-in-Ok : goal.returns-in-Ok
returns-in-Ok c =
    let keys = c.self.inside.set.keys in
    let at : c.unwrap_or-place.result ≡ unwrap_or (position (λ k. bytes_eq c.as_str.result.now (string_bytes k)) keys) (length keys) = rw (← c.get_index_of.ensures.index, ← c.len.ensures.len) c.unwrap_or-place.ensures in
    search rules ∙ at ∙ place_name c.as_str.result.now c.as_str.ensures.utf8 keys _ _ c.as_str.ensures.value c.self.view_is
