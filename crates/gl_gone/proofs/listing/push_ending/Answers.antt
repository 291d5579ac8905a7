use Rattle.gl_gone.proofs.KeptRows.{kept_more}
use Rattle.gl_gone.proofs.listing.push_ending.Goals as goal

pub returns-clause-kept : goal.returns-clause-kept
returns-clause-kept c = kept_more c.args.vm.now c.args.list.now.items c.push.new.self.items c.args.ending c.in_ok-push.ensures.items
