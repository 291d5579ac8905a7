use Rattle.std.proofs.Common.{◌≡◌, ◌-◌, length, rules}
use Rattle.gl_append.proofs.Stacks.{lower_of, upper_of}
use Rattle.gl_append.proofs.stack.take_last.Goals as goal

pub returns-clause-taken : goal.returns-clause-taken
returns-clause-taken c =
    let at : c.len-2.result - c.args.count ≡ length c.args.stack.now.items - c.args.count = search rules in
    upper_of c.args.count c.args.stack.now.items c.in_ok-taken.taken.items (c.len-2.result - c.args.count) at c.in_ok-taken.ensures.tail

pub returns-clause-rest : goal.returns-clause-rest
returns-clause-rest c =
    let at : c.len-2.result - c.args.count ≡ length c.args.stack.now.items - c.args.count = search rules in
    lower_of c.args.count c.args.stack.now.items c.split_off.new.self.items (c.len-2.result - c.args.count) at c.in_ok-taken.ensures.items
