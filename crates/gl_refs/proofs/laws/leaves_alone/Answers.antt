use Rattle.gl_refs.proofs.Alone.{read_leaves, set_leaves, make_leaves, source_leaves, free_leaves}
use Rattle.gl_refs.proofs.laws.leaves_alone.Goals as goal

pub returns-clause-read : goal.returns-clause-read
returns-clause-read c old new id k sound r apart = read_leaves old new id k sound r apart

pub returns-clause-set : goal.returns-clause-set
returns-clause-set c old new i k kind value sound s apart = set_leaves old new i k kind value sound s apart

pub returns-clause-make : goal.returns-clause-make
returns-clause-make c old new id k form sound m live = make_leaves old new id k form sound m live

pub returns-clause-source : goal.returns-clause-source
returns-clause-source c old new id k kind value sound m live = source_leaves old new id k kind value sound m live

pub returns-clause-free : goal.returns-clause-free
returns-clause-free c old new i k sound after unread e tag live ne = free_leaves old new i k sound after unread e tag live ne
