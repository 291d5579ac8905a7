use Rattle.std.proofs.Common.{◌≡◌, length, take, drop, sym, ap, ◌∙◌, rules}
use Rattle.gl_ast.specs.Settling.{front_width, strips}
use Rattle.gl_space.specs.Trim.{trim}
use Rattle.gl_space.proofs.Trimmed.{kept_is, front_border, trim_border, trim_take, strips_low}
use Rattle.gl_space.proofs.trim.kept.Goals as goal

pub split_at-requires : goal.split_at-requires
split_at-requires c = rw (c.front_width.ensures, c.as_bytes.ensures.value) (front_border c.args.front c.args.text.now c.utf8.text)

pub split_at-requires-2 : goal.split_at-requires-2
split_at-requires-2 c = rw (c.without_run-width.ensures, c.as_bytes-2.ensures.value) (trim_border (strips c.args.back) (strips_low c.args.back) c.split_at.result.1.now)

pub returns : goal.returns
returns c =
    let text = c.args.text.now in
    let rest = c.split_at.result.1.now in
    let p = strips c.args.back in
    let width : c.front_width.result ≡ front_width c.args.front text = rw (c.front_width.ensures, c.as_bytes.ensures.value) (search rules) in
    let is : rest ≡ drop (front_width c.args.front text) text = rw width at c.split_at.ensures.back in
    let cut : c.without_run-width.result.now ≡ trim p rest = rw c.as_bytes-2.ensures.value at c.without_run-width.ensures in
    let front : c.split_at-2.result.0.now ≡ take (length (trim p rest)) rest = rw cut at c.split_at-2.ensures.front in
    front ∙ trim_take p (strips_low c.args.back) rest ∙ ap (λ l. trim p l) is ∙ sym (kept_is c.args.front c.args.back text)
