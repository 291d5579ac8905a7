use Rattle.std.proofs.Common.{Some, codes, refl, ap, ◌∙◌}
use Rattle.gl_base.proofs.Chars.{chars_of_ascii}
use Rattle.gl_commands.specs.Sample.{sample_files, sample_whole}
use Rattle.gl_run.proofs.sample.load_sample.Goals as goal

pub returns-in-Ok-clause-told : goal.returns-in-Ok-clause-told
unfolding sample_whole
returns-in-Ok-clause-told c =
    rw (chars_of_ascii (codes "m.json") refl, chars_of_ascii (codes "s.json") refl) at (c.in-Ok.ensures.told (sample_files c.args.rows) (c.new-shelf.ensures.holds ∙ ap Some c.in_ok-files_of.ensures))
