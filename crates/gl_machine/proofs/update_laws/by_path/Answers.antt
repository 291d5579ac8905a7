use Rattle.gl_machine.proofs.update_laws.by_path.Goals as goal
use Rattle.gl_machine.proofs.ByPath.{ids_by_path}
use Rattle.gl_machine.proofs.NestShown.{rows_are_drawn, ids_stand_once}
use Rattle.gl_machine.proofs.PlacesOnce.{places_stand_once}

pub returns-clause-drawn : goal.returns-clause-drawn
returns-clause-drawn c = rows_are_drawn

pub returns-clause-ids : goal.returns-clause-ids
returns-clause-ids c = ids_stand_once

pub returns-clause-places : goal.returns-clause-places
returns-clause-places c = places_stand_once

pub returns-clause-kept : goal.returns-clause-kept
returns-clause-kept c = ids_by_path
