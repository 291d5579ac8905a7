use Rattle.std.proofs.Common.{◌≡◌, ◌++◌, OnOk, decimal, sym, ◌∙◌, subst}
use Rattle.gl_lines.proofs.Lists.{counted}
use Rattle.gl_lines.proofs.head.push_count.Goals as goal

pub returns : goal.returns
returns c = subst (λ n. OnOk c.push_number.result (c.push_number.new.self ≡ c.args.out.now ++ decimal n)) (c.len.ensures ∙ sym (counted c.args.events.now)) c.push_number.ensures
