use Rattle.gl_gen.proofs.Arrays.{three_pieces}
use Rattle.gl_gen.proofs.script.push_click.Goals as goal

pub returns : goal.returns
returns c = three_pieces _ _ _ _ _ _ _ c.in_ok-push_ascii.ensures.ok c.in_ok-push_number.ensures c.in_ok-push_ascii-2.ensures.ok
