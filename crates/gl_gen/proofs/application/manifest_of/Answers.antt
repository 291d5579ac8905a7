use Rattle.std.proofs.Common.{◌≡◌, length, ap, ◌∙◌, arith}
use Rattle.std.proofs.lemmas.Grind.{common_steps}
use Rattle.gl_gen.specs.Application.{manifest}
use Rattle.gl_gen.proofs.Arrays.{length-rows, moved-zero}
use Rattle.gl_gen.proofs.application.manifest_of.Goals as goal

pub push_array-requires : goal.push_array-requires
push_array-requires c =
    let all : length c.args.texts.now ≡ c.args.n = ap length c.requires.those ∙ length-rows c.args.n in
    omega arith

pub returns : goal.returns
unfolding manifest
returns c =
    let none = moved-zero c.args.texts.now in
    grind (arith, common_steps)
