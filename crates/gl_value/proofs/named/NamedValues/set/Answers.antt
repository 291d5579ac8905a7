use Rattle.std.proofs.Common.{◌<◌, ◌≤◌, [], length, arith}
use Rattle.std.specs.Str.{chars}
use Rattle.std.proofs.lemmas.Grind.{common_steps}
use Rattle.gl_value.proofs.NamedLaws.{set_named_at, set_named_past, set_named-seen, place_in}
use Rattle.gl_value.proofs.named.NamedValues.set.Goals as goal

pub returns-then-place-len : goal.returns-then-place-len
returns-then-place-len c =
    let es = c.self.inside.list.items in
    let name = chars c.args.name.now in
    let short : place_in name es < length es = grind (arith, common_steps) in
    let at = set_named_at name c.args.value es ([], c.args.value) short in
    let seen = set_named-seen name c.args.value es in
    grind (arith, common_steps)

pub returns-else-place-len : goal.returns-else-place-len
returns-else-place-len c =
    let es = c.self.inside.list.items in
    let name = chars c.args.name.now in
    let long : length es ≤ place_in name es = grind (arith, common_steps) in
    let at = set_named_past name c.args.value es long in
    let seen = set_named-seen name c.args.value es in
    grind (arith, common_steps)
