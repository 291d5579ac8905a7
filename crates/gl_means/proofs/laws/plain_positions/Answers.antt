use Rattle.gl_means.proofs.laws.plain_positions.Goals as goal
use Rattle.gl_means.proofs.Plain.{positions_keep, positions_still, fresh_stands, positions_stand}

pub returns-clause-kept : goal.returns-clause-kept
returns-clause-kept c = positions_keep

pub returns-clause-still : goal.returns-clause-still
returns-clause-still c = positions_still

pub returns-clause-fresh : goal.returns-clause-fresh
returns-clause-fresh c = fresh_stands

pub returns-clause-stand : goal.returns-clause-stand
returns-clause-stand c = positions_stand
