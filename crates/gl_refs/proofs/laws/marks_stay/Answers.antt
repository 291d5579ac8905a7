use Rattle.gl_refs.proofs.Alone.{set_marks, leaving_marks}
use Rattle.gl_refs.proofs.laws.marks_stay.Goals as goal

pub returns-clause-set : goal.returns-clause-set
returns-clause-set c old new i u kind value number mark s h = set_marks old new i u kind value number mark s h

pub returns-clause-leaving : goal.returns-clause-leaving
returns-clause-leaving c old new k u number mark a o same h = leaving_marks old new k u number mark a o same h
