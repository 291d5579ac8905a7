use Rattle.gl_value.proofs.Owners.{rules_leave_owners, plain_leaves_owners, property_keeps_owners, same_leaves_owners}
use Rattle.gl_value.proofs.laws.owners_free.Goals as goal

pub returns-clause-rules : goal.returns-clause-rules
returns-clause-rules g c = rules_leave_owners

pub returns-clause-plain : goal.returns-clause-plain
returns-clause-plain g c = plain_leaves_owners

pub returns-clause-property : goal.returns-clause-property
returns-clause-property g c = property_keeps_owners

pub returns-clause-same : goal.returns-clause-same
returns-clause-same g c = same_leaves_owners
