use Rattle.gl_meaning.proofs.PlaceLaws.{read_is_kept, values_are_kept, arguments_are_kept}
use Rattle.gl_meaning.proofs.laws.places_frame.Goals as goal

pub returns-clause-read : goal.returns-clause-read
returns-clause-read c = read_is_kept

pub returns-clause-values : goal.returns-clause-values
returns-clause-values c = values_are_kept

pub returns-clause-arguments : goal.returns-clause-arguments
returns-clause-arguments c = arguments_are_kept
