use Rattle.std.proofs.Common.{◌≡◌, length}
use Rattle.std.specs.Str.{bytes_eq}
use Rattle.gl_ast.specs.TokenText as text
use Rattle.gl_exprs.specs.Pieces.{end_name}
use Rattle.gl_exprs.proofs.words.is_end_of.Given as goal

abbrev pub invariant-loop-c : goal.invariant-loop-c
invariant-loop-c l = bytes_eq (end_name l.rest) l.want ≡ bytes_eq (text.end_name_of l.fn.tag) l.fn.name

abbrev pub decreases-loop-c : goal.decreases-loop-c
decreases-loop-c l = length l.rest
