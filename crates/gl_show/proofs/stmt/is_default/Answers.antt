use Rattle.std.proofs.Common.{refl, ap, ◌∙◌, codes}
use Rattle.std.specs.Str.{bytes_eq, chars}
use Rattle.std.proofs.lemmas.Str.{IsUtf8-from_ascii}
use Rattle.gl_base.proofs.Chars.{ascii, bytes_eq-chars, chars_of_ascii}
use Rattle.gl_show.proofs.stmt.is_default.Goals as goal

pub returns : goal.returns
returns c =
    c.eq.ensures ∙ bytes_eq-chars c.as_str.result.now (codes "default") c.as_str.ensures.utf8 (IsUtf8-from_ascii (codes "default") (ascii (codes "default") refl))
    ∙ ap (λ n. bytes_eq (chars c.as_str.result.now) n) (chars_of_ascii (codes "default") refl) ∙ ap (λ n. bytes_eq n (codes "default")) c.as_str.ensures.value
